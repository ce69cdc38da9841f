-- Relations between rows and columns.
use Rattle.std.specs.Prelude.{◌≡◌, ℕ, ◌<◌, Bool, true, List, [], filter, length, slice_index_or}
use Rattle.std.specs.List.{range_with_len}
use Rattle.abi_index.specs.AscendingList.{has_number}

-- a relation: for each row the columns that are related to it, and how many columns there are
pub record Relation : Type 0 where
  pub rows : List (List ℕ)
  pub columns : ℕ

-- how many rows the relation has
abbrev pub row_count : Relation → ℕ
row_count m = length m.rows

-- how many columns the relation has
abbrev pub column_count : Relation → ℕ
column_count m = m.columns

-- whether a row and a column are related
abbrev pub is_entry : Relation → ℕ → ℕ → Bool
is_entry m row column = has_number (slice_index_or m.rows row []) column

-- the columns that are related to a row, ascending
abbrev pub columns_of : Relation → ℕ → List ℕ
columns_of m row = filter (is_entry m row) (range_with_len 0 (column_count m))

-- every column that is related to a row is one of the columns
abbrev pub HasColumnsInRange : Relation → Type 0
HasColumnsInRange m = (row column : ℕ) → is_entry m row column ≡ true → column < column_count m
