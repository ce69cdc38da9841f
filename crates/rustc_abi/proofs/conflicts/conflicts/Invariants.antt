-- The relation is that of the conflicts before.
use Rattle.std.proofs.Common.{◌≡◌, ℕ, take}
use Rattle.std.specs.Prelude.{◌==◌, ◌&&◌}
use Rattle.std.specs.List.{list_any}
use Rattle.abi_index.specs.Relation.{column_count, is_entry, row_count}
use Rattle.rustc_abi.proofs.conflicts.conflicts.Given as goal

abbrev pub invariant-loop-pair : goal.invariant-loop-pair
invariant-loop-pair l = record {
  rows : row_count l.relation ≡ l.count;
  columns : column_count l.relation ≡ l.count;
  entries : (row column : ℕ) → is_entry l.relation row column ≡ list_any (λ pair. (row == pair.0) && (column == pair.1)) (take l.pair-index l.pairs);
}
