-- The fields up to the index.
use Rattle.std.proofs.Common.{◌≡◌, map}
use Rattle.abi_univariant.specs.Placement.{source_order}
use Rattle.abi_univariant.proofs.memory_order.MemoryOrder.in_source_order.Given as goal

abbrev pub invariant-loop-index : goal.invariant-loop-index
invariant-loop-index g l = map g.FieldIdx.Idx.number l.fields.items ≡ source_order l.index
