-- The rows so far and those that are left are all.
use Rattle.std.proofs.Common.{◌≡◌, ◌+◌, length}
use Rattle.abi_index.specs.Indices.{indices_left}
use Rattle.abi_index.specs.Relation.{row_count}
use Rattle.abi_calc.proofs.coroutine.promotion.local_count.Given as goal

abbrev pub invariant-loop-row : goal.invariant-loop-row
invariant-loop-row g l = l.count + length (indices_left g.LocalIdx.Idx.at l._row-iterator) ≡ row_count l.conflicts
