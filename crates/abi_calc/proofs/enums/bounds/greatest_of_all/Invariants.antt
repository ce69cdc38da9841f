-- The rest of the variants gives the most.
use Rattle.std.proofs.Common.{◌≡◌, drop, fold, map, max}
use Rattle.abi_calc.specs.Enums.Bounds.{greatest_free, greatest_of_all}
use Rattle.abi_calc.proofs.enums.bounds.greatest_of_all.Given as goal

abbrev pub invariant-loop-fields : goal.invariant-loop-fields
invariant-loop-fields g l =
    fold (λ most fields. max most (greatest_free l.dl fields)) l.most (map (map g.F.LayoutHandle.layout_of) (drop l.fields-index l.variants))
    ≡ greatest_of_all l.dl (map (map g.F.LayoutHandle.layout_of) l.variants)
