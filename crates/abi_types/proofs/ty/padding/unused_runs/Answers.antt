use Rattle.std.proofs.Common.{subst, sym}
use Rattle.abi_types.specs.Ty.Typed.{layout_in}
use Rattle.abi_types.proofs.PlacesLemmas.{beside_at, several_of}
use Rattle.abi_types.specs.Ty.Runs.{IsVariantOfSeveral}
use Rattle.abi_types.proofs.ty.padding.unused_runs.Goals as goal

pub unused_of-requires-clause-variant : goal.unused_of-requires-clause-variant
unused_of-requires-clause-variant g c =
    let t = g.W.Walk.typed_of c.args.this in
    let several = several_of t c.layout.result.now _ _ _ _ c.layout.ensures c.in-Multiple.is in
    subst (λ vs. IsVariantOfSeveral vs c.args.variant) (sym several) (beside_at (layout_in t).variants c.args.variant _ _ _ _ c.requires.variant several)
