-- No field before counts.
use Rattle.std.proofs.Common.{take}
use Rattle.std.specs.Prelude.{All}
use Rattle.abi_scalar.specs.Layout.{IsZst}
use Rattle.abi_univariant.proofs.unions.first_counted.Given as goal

abbrev pub invariant-loop-field : goal.invariant-loop-field
invariant-loop-field g l = All (λ h. IsZst (g.F.LayoutHandle.layout_of h)) (take l.field-index l.fields)
