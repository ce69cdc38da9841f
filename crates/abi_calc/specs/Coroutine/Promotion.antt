-- Which locals of a coroutine are promoted: laid out beside the prefix fields and the tag, where they share no byte with any other.
-- A state is the list of the locals that live in it; a set of locals is the list that says of each whether it is a member.
use Rattle.std.specs.Prelude.{ℕ, ◌==◌, ◌&&◌, ◌||◌, not, Bool, true, List, [], ◌∷◌, ◌+◌, filter, fold, length, map, nat_lt, if◌then◌else◌}
use Rattle.std.specs.List.{list_any}
use Rattle.abi_index.specs.AscendingList.{has_number}
use Rattle.abi_index.specs.BitSet.{is_member}
use Rattle.abi_index.specs.Relation.{Relation, columns_of, row_count}
use Rattle.abi_univariant.specs.Placement.{source_order}

-- how many states hold a local
abbrev pub holder_count : (states : List (List ℕ)) → (local : ℕ) → ℕ
holder_count states local = length (filter (λ state. has_number state local) states)

-- the first state that holds a local; where none does, the number of states
abbrev pub holder_of : (states : List (List ℕ)) → (local : ℕ) → ℕ
holder_of [] local = 0
holder_of (state ∷ states) local = if has_number state local then 0 else holder_of states local + 1

-- the same of each of so many locals
abbrev pub holders_of : (states : List (List ℕ)) → (count : ℕ) → List ℕ
holders_of states count = map (holder_of states) (source_order count)

-- so many locals, of which those are promoted that several states hold
abbrev pub held_by_several : (states : List (List ℕ)) → (count : ℕ) → List Bool
held_by_several states count = map (λ local. nat_lt 1 (holder_count states local)) (source_order count)

-- with one more local promoted
abbrev pub promote : (local : ℕ) → (promoted : List Bool) → List Bool
promote local promoted = map (λ k. is_member promoted k || (k == local)) (source_order (length promoted))

-- how many conflicts a local's row has
abbrev pub conflict_count : Relation → (local : ℕ) → ℕ
conflict_count conflicts local = length (columns_of conflicts local)

-- which of two locals is promoted: the row's where its row has more conflicts, else the column's
abbrev pub local_to_promote : Relation → (row column : ℕ) → ℕ
local_to_promote conflicts row column = if nat_lt (conflict_count conflicts column) (conflict_count conflicts row) then row else column

-- the two locals need no promotion: the column's is promoted already, or both are held by one state, or by none, while the row's
-- isn't promoted
abbrev pub need_no_promotion : (states : List (List ℕ)) → (row column : ℕ) → (promoted : List Bool) → Bool
need_no_promotion states row column promoted =
    is_member promoted column || (not (is_member promoted row) && (holder_of states row == holder_of states column))

-- what is promoted after the conflict of a row's local with a column's
abbrev pub after_conflict : (states : List (List ℕ)) → Relation → (row : ℕ) → (promoted : List Bool) → (column : ℕ) → List Bool
after_conflict states conflicts row promoted column =
    if need_no_promotion states row column promoted then promoted else promote (local_to_promote conflicts row column) promoted

-- after a row, whose columns ascend; the row of a local that is promoted already is skipped
abbrev pub after_row : (states : List (List ℕ)) → Relation → (promoted : List Bool) → (row : ℕ) → List Bool
after_row states conflicts promoted row =
    if is_member promoted row then promoted else fold (after_conflict states conflicts row) promoted (columns_of conflicts row)

-- after all rows, which ascend
abbrev pub after_rows : (states : List (List ℕ)) → Relation → List Bool
after_rows states conflicts =
    fold (after_row states conflicts) (held_by_several states (row_count conflicts)) (source_order (row_count conflicts))

-- how many states hold a local that isn't promoted
abbrev pub used_count : (states : List (List ℕ)) → (promoted : List Bool) → ℕ
used_count states promoted = length (filter (λ state. list_any (λ local. not (is_member promoted local)) state) states)

-- the locals that are promoted: all where fewer than two states hold another
abbrev pub promoted_of : (states : List (List ℕ)) → Relation → List Bool
promoted_of states conflicts =
    if nat_lt (used_count states (after_rows states conflicts)) 2 then map (λ local. true) (after_rows states conflicts)
    else after_rows states conflicts
