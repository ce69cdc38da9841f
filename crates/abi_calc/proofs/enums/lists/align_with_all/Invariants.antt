-- The rest of the variants gives the alignment.
use Rattle.std.proofs.Common.{◌≡◌, map, drop}
use Rattle.abi_calc.specs.Enums.Lists.{align_with_all}
use Rattle.abi_calc.proofs.enums.lists.align_with_all.Given as goal

abbrev pub invariant-loop-fields : goal.invariant-loop-fields
invariant-loop-fields g l =
    align_with_all l.greatest (map (map g.F.LayoutHandle.layout_of) (drop l.fields-index l.variants)) ≡ align_with_all l.fn.own (map (map g.F.LayoutHandle.layout_of) l.variants)
