use Rattle.std.proofs.Common.{◌∙◌, sym}
use Rattle.abi_univariant.proofs.Views.ViewLemmas.{one_within}
use Rattle.abi_univariant.proofs.list_view.transparent_align.Goals as goal

pub at-requires : goal.at-requires
at-requires g c = one_within c.args.parts.now c.in-One.i (sym c.in-One.is ∙ c.requires)
