-- Those of the items before that count.
use Rattle.std.proofs.Common.{◌≡◌, map, take}
use Rattle.abi_calc.specs.Enums.Discriminants.{counted_discriminants}
use Rattle.abi_calc.proofs.enums.discriminants.counted_discriminants.Given as goal

abbrev pub invariant-loop-item : goal.invariant-loop-item
invariant-loop-item g l =
    l.values.items ≡ counted_discriminants g.VariantIdx.Idx.number l.repr (map (map g.F.LayoutHandle.layout_of) l.variants) (take l.item-index l.items)
