-- The conflicts that are left settle the row.
use Rattle.std.proofs.Common.{◌≡◌, ℕ, ◌<◌, All, List, fold, map}
use Rattle.abi_index.specs.BitRow.{columns_left}
use Rattle.abi_index.specs.BitSet.{domain_size}
use Rattle.abi_index.specs.Relation.{columns_of, row_count}
use Rattle.abi_calc.specs.Coroutine.Promotion.{after_conflict, holders_of}
use Rattle.abi_calc.proofs.coroutine.promotion.resolve_row.Given as goal

abbrev pub invariant-loop-column : goal.invariant-loop-column
invariant-loop-column g l = record {
  size : domain_size l.promoted ≡ row_count l.conflicts;
  within : All (λ c. g.LocalIdx.Idx.number c < row_count l.conflicts) (columns_left g.LocalIdx.Idx.at l.column-iterator);
  settled : (states : List (List ℕ)) → l.holders ≡ holders_of states (row_count l.conflicts)
      → fold (after_conflict states l.conflicts (g.LocalIdx.Idx.number l.row)) l.promoted (map g.LocalIdx.Idx.number (columns_left g.LocalIdx.Idx.at l.column-iterator))
      ≡ fold (after_conflict states l.conflicts (g.LocalIdx.Idx.number l.row)) l.fn.promoted (columns_of l.conflicts (g.LocalIdx.Idx.number l.row));
}
