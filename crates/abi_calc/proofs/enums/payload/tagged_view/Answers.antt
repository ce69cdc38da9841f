use Rattle.abi_scalar.specs.Scalar.{primitive_of}
use Rattle.abi_univariant.proofs.Views.NicheLemmas.{readable_size}
use Rattle.abi_calc.proofs.enums.payload.tagged_view.Goals as goal

pub size-new-requires : goal.size-new-requires
size-new-requires g c = (readable_size c.args.dl.now (primitive_of c.args.tag) c.requires.tag.pointer).0
