-- The rows that are left settle all conflicts.
use Rattle.std.proofs.Common.{◌≡◌, ℕ, ◌<◌, All, List, fold, map}
use Rattle.abi_index.specs.BitSet.{domain_size}
use Rattle.abi_index.specs.Indices.{indices_left}
use Rattle.abi_index.specs.Relation.{row_count}
use Rattle.abi_univariant.specs.Placement.{source_order}
use Rattle.abi_calc.specs.Coroutine.Promotion.{after_row, holders_of}
use Rattle.abi_calc.proofs.coroutine.promotion.resolve_rows.Given as goal

abbrev pub invariant-loop-row : goal.invariant-loop-row
invariant-loop-row g l = record {
  size : domain_size l.promoted ≡ row_count l.conflicts;
  within : All (λ r. g.LocalIdx.Idx.number r < row_count l.conflicts) (indices_left g.LocalIdx.Idx.at l.row-iterator);
  settled : (states : List (List ℕ)) → l.holders ≡ holders_of states (row_count l.conflicts)
      → fold (after_row states l.conflicts) l.promoted (map g.LocalIdx.Idx.number (indices_left g.LocalIdx.Idx.at l.row-iterator))
      ≡ fold (after_row states l.conflicts) l.fn.promoted (source_order (row_count l.conflicts));
}
