-- No field before is unsized.
use Rattle.std.proofs.Common.{◌≡◌, drop}
use Rattle.abi_univariant.specs.Union.{first_unsized}
use Rattle.abi_univariant.proofs.unions.first_unsized.Given as goal

abbrev pub invariant-loop-field : goal.invariant-loop-field
invariant-loop-field g l = first_unsized g.F.LayoutHandle.layout_of (drop l.field-index l.fields) ≡ first_unsized g.F.LayoutHandle.layout_of l.fields
