-- The rest of the fields leaves as much.
use Rattle.std.proofs.Common.{◌≡◌, drop, map}
use Rattle.abi_calc.specs.Enums.Bounds.{left_beside}
use Rattle.abi_calc.proofs.enums.bounds.left_beside.Given as goal

abbrev pub invariant-loop-field : goal.invariant-loop-field
invariant-loop-field g l =
    left_beside l.left (map g.F.LayoutHandle.layout_of (drop l.field-index l.fields)) ≡ left_beside l.fn.whole (map g.F.LayoutHandle.layout_of l.fields)
