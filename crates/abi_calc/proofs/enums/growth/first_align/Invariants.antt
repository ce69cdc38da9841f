-- The fields that are still to come give the alignment.
use Rattle.std.proofs.Common.{◌≡◌, drop, map}
use Rattle.abi_calc.specs.Enums.Growth.{first_align}
use Rattle.abi_calc.proofs.enums.growth.first_align.Given as goal

abbrev pub invariant-loop-index : goal.invariant-loop-index
invariant-loop-index g l =
    first_align (map g.F.LayoutHandle.layout_of l.fields) (map g.FieldIdx.Idx.number (drop l.index-index l.order))
    ≡ first_align (map g.F.LayoutHandle.layout_of l.fields) (map g.FieldIdx.Idx.number l.order)
