-- The rest of the variants gives the least.
use Rattle.std.proofs.Common.{◌≡◌, drop, fold, map, min}
use Rattle.abi_calc.specs.Enums.Bounds.{least_left, left_beside}
use Rattle.abi_calc.proofs.enums.bounds.least_left.Given as goal

abbrev pub invariant-loop-fields : goal.invariant-loop-fields
invariant-loop-fields g l =
    fold (λ least fields. min least (left_beside l.fn.whole fields)) l.least (map (map g.F.LayoutHandle.layout_of) (drop l.fields-index l.variants))
    ≡ least_left l.fn.whole (map (map g.F.LayoutHandle.layout_of) l.variants)
