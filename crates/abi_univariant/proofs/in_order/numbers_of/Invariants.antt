-- The numbers of those before the index.
use Rattle.std.proofs.Common.{◌≡◌, map, take}
use Rattle.abi_univariant.proofs.in_order.numbers_of.Given as goal

abbrev pub invariant-loop-index : goal.invariant-loop-index
invariant-loop-index g l = l.numbers.items ≡ map g.FieldIdx.Idx.number (take l.index-index l.order)
