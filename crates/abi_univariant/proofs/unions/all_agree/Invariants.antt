-- Each field before agrees.
use Rattle.std.proofs.Common.{take}
use Rattle.std.specs.Prelude.{All}
use Rattle.abi_scalar.specs.View.{union_view}
use Rattle.abi_univariant.specs.Union.{CountsForView, HasView}
use Rattle.abi_univariant.proofs.unions.all_agree.Given as goal

abbrev pub invariant-loop-field : goal.invariant-loop-field
invariant-loop-field g l =
    All (λ h. CountsForView (g.F.LayoutHandle.layout_of h) → HasView (union_view l.first.backend_repr) l.first.align.abi (g.F.LayoutHandle.layout_of h)) (take l.field-index l.fields)
