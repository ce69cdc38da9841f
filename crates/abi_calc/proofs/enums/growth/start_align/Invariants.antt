-- The rest of the variants gives the least.
use Rattle.std.proofs.Common.{◌≡◌, ◌≤◌, drop, map, min}
use Rattle.abi_univariant.specs.Part.{max_align}
use Rattle.abi_calc.specs.Enums.Growth.{start_align}
use Rattle.abi_calc.proofs.enums.growth.start_align.Given as goal

abbrev pub invariant-loop-index : goal.invariant-loop-index
invariant-loop-index g l = record {
  within : l.least ≤ max_align;
  least : min l.least (start_align g.FieldIdx.Idx.number (map (map g.F.LayoutHandle.layout_of) (drop l.index l.variants)) (drop l.index l.lists))
      ≡ start_align g.FieldIdx.Idx.number (map (map g.F.LayoutHandle.layout_of) l.variants) l.lists;
}
