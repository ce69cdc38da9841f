-- The fields before the index that stand before the promoted locals.
use Rattle.std.proofs.Common.{◌≡◌, ◌≤◌, length, take}
use Rattle.std.specs.Prelude.{filter, nat_lt}
use Rattle.abi_calc.proofs.coroutine.layout.shared_order.Given as goal

abbrev pub invariant-loop-index : goal.invariant-loop-index
invariant-loop-index g l = record {
  all : l.list ≡ filter (λ i. nat_lt (g.FieldIdx.Idx.number i) l.before) (take l.index-index l.order);
  room : length l.list ≤ l.index-index;
}
