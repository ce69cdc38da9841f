use Rattle.abi_tests.proofs.OwnTypeLemmas.{variant_is}
use Rattle.abi_tests.proofs.own_types.OwnTyTyAbiInterface.ty_and_layout_for_variant.Goals as goal

pub returns-clause-variant : goal.returns-clause-variant
returns-clause-variant g c = (variant_is c.args.this.ty.types.now c.args.this.ty.depth c.args.this.ty.at c.args.variant_index c.requires.valid.well_formed c.requires.named).0

pub returns-clause-falls : goal.returns-clause-falls
returns-clause-falls g c = (variant_is c.args.this.ty.types.now c.args.this.ty.depth c.args.this.ty.at c.args.variant_index c.requires.valid.well_formed c.requires.named).1
