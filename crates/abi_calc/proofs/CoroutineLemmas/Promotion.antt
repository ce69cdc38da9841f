-- Which locals of a coroutine are promoted, and what is known of those that aren't.
use Rattle.std.proofs.Common.{◌≡◌, ℕ, zero, suc, ◌+◌, ◌-◌, ◌<◌, ◌≤◌, ◌==◌, ◌||◌, ◌&&◌, All, Bool, true, false, List, [], ◌∷◌, add-one, ap, ap₂, arith, cond, filter, fold, get_or, inl, inr, length, map, nat_lt, not, refl, subst, sym, ◌∙◌}
use Rattle.std.specs.Prelude.{if◌then◌else◌}
use Rattle.std.specs.List.{list_any, range_with_len}
use Rattle.std.proofs.lemmas.Bool.{cases_Bool, cases_lt, cases_order, eq-eqb, eqb-false, eqb-true, le-ltb, lt-ltb}
use Rattle.std.proofs.lemmas.List.{get_or-map, get_or_past, length-map}
use Rattle.std.proofs.lemmas.List.Elements.{All-head, All-tail, filter_passes}
use Rattle.std.proofs.lemmas.List.FromFn.{get_or-map-range_with_len, length-map-range_with_len}
use Rattle.abi_index.specs.AscendingList.{has_number}
use Rattle.abi_index.specs.BitSet.{is_member, members_of}
use Rattle.abi_index.specs.Relation.{Relation, column_count, columns_of, is_entry, row_count}
use Rattle.abi_univariant.specs.Placement.{source_order}
use Rattle.abi_calc.specs.Coroutine.Promotion.{after_conflict, after_row, after_rows, need_no_promotion, local_to_promote, held_by_several, holder_count, holder_of, promote, promoted_of, used_count}
use Rattle.abi_calc.specs.Coroutine.Sizes.{MayOverlap}
use Rattle.abi_calc.specs.Enums.EnumStrategy.{variant_at}

-- what each step keeps holds at the end
fold_keeps : {A B : Type 0} (step : B → A → B) (P : B → Type 0) → ((b : B) (x : A) → P b → P (step b x)) → (b : B) (xs : List A) → P b → P (fold step b xs)
fold_keeps step P keeps b [] h = h
fold_keeps step P keeps b (x ∷ xs) h = fold_keeps step P keeps (step b x) xs (keeps b x h)

-- a step that changes nothing at each item
fold_fixed : {A B : Type 0} (step : B → A → B) (b : B) (xs : List A) → All (λ x. step b x ≡ b) xs → fold step b xs ≡ b
fold_fixed step b [] still = refl
fold_fixed step b (x ∷ xs) still = rw (All-head (λ x. step b x ≡ b) x xs still) (fold_fixed step b xs (All-tail (λ x. step b x ≡ b) x xs still))

-- ---- how many locals the sets tell of

promote_count : (local : ℕ) (promoted : List Bool) → length (promote local promoted) ≡ length promoted
promote_count local promoted = length-map-range_with_len (λ k. is_member promoted k || (k == local)) 0 (length promoted)

-- a choice between a set and one with one more promoted
chosen_count : (b : Bool) (local count : ℕ) (promoted : List Bool) → length promoted ≡ count → length (if b then promoted else promote local promoted) ≡ count
chosen_count true local count promoted size = size
chosen_count false local count promoted size = promote_count local promoted ∙ size

conflict_keeps_count : (states : List (List ℕ)) (conflicts : Relation) (row count : ℕ) (promoted : List Bool) (column : ℕ) → length promoted ≡ count → length (after_conflict states conflicts row promoted column) ≡ count
conflict_keeps_count states conflicts row count promoted column size = chosen_count (need_no_promotion states row column promoted) (local_to_promote conflicts row column) count promoted size

columns_keep_count : (states : List (List ℕ)) (conflicts : Relation) (row count : ℕ) (promoted : List Bool) (columns : List ℕ) → length promoted ≡ count → length (fold (after_conflict states conflicts row) promoted columns) ≡ count
columns_keep_count states conflicts row count promoted columns size =
    fold_keeps (after_conflict states conflicts row) (λ set. length set ≡ count) (λ set column. conflict_keeps_count states conflicts row count set column) promoted columns size

row_keeps_count : (states : List (List ℕ)) (conflicts : Relation) (count : ℕ) (promoted : List Bool) (row : ℕ) → length promoted ≡ count → length (after_row states conflicts promoted row) ≡ count
row_keeps_count states conflicts count promoted row size = by (is_member promoted row)
  where
    by : (b : Bool) → length (if b then promoted else fold (after_conflict states conflicts row) promoted (columns_of conflicts row)) ≡ count
    by true = size
    by false = columns_keep_count states conflicts row count promoted (columns_of conflicts row) size

rows_keep_count : (states : List (List ℕ)) (conflicts : Relation) (count : ℕ) (promoted : List Bool) (rows : List ℕ) → length promoted ≡ count → length (fold (after_row states conflicts) promoted rows) ≡ count
rows_keep_count states conflicts count promoted rows size =
    fold_keeps (after_row states conflicts) (λ set. length set ≡ count) (λ set row. row_keeps_count states conflicts count set row) promoted rows size

several_count : (states : List (List ℕ)) (count : ℕ) → length (held_by_several states count) ≡ count
several_count states count = length-map-range_with_len (λ local. nat_lt 1 (holder_count states local)) 0 count

rows_count : (states : List (List ℕ)) (conflicts : Relation) → length (after_rows states conflicts) ≡ row_count conflicts
rows_count states conflicts =
    rows_keep_count states conflicts (row_count conflicts) (held_by_several states (row_count conflicts)) (source_order (row_count conflicts)) (several_count states (row_count conflicts))

-- the set says of each local whether it is promoted
pub promoted_count : (states : List (List ℕ)) (conflicts : Relation) → length (promoted_of states conflicts) ≡ row_count conflicts
promoted_count states conflicts = by (nat_lt (used_count states (after_rows states conflicts)) 2)
  where
    by : (b : Bool) → length (if b then map (λ local. true) (after_rows states conflicts) else after_rows states conflicts) ≡ row_count conflicts
    by true = length-map (after_rows states conflicts) (λ (local : Bool). true) ∙ rows_count states conflicts
    by false = rows_count states conflicts

-- ---- what is promoted stays promoted

-- a member is a place below the size
member_within : (set : List Bool) (k : ℕ) → is_member set k ≡ true → k < length set
member_within set k is = elim (cases_lt k (length set)) [
  | inl within ↦ within
  | inr past ↦ let none : is_member set k ≡ false = get_or_past set k false past in absurd (cc)
]

-- whether a place below the size is a member, with one more local
promote_at : (local : ℕ) (promoted : List Bool) (k : ℕ) → k < length promoted → is_member (promote local promoted) k ≡ (is_member promoted k || (k == local))
promote_at local promoted k within = get_or-map-range_with_len (λ k. is_member promoted k || (k == local)) 0 (length promoted) k k false within (omega arith)

-- a member stays one
promote_keeps : (local k : ℕ) (promoted : List Bool) → is_member promoted k ≡ true → is_member (promote local promoted) k ≡ true
promote_keeps local k promoted is = promote_at local promoted k (member_within promoted k is) ∙ rw is refl

-- and the local is one
promote_adds : (local : ℕ) (promoted : List Bool) → local < length promoted → is_member (promote local promoted) local ≡ true
promote_adds local promoted within = promote_at local promoted local within ∙ rw (eq-eqb local local refl) (or_true (is_member promoted local))
  where
    or_true : (b : Bool) → (b || true) ≡ true
    or_true true = refl
    or_true false = refl

conflict_keeps : (states : List (List ℕ)) (conflicts : Relation) (row k : ℕ) (promoted : List Bool) (column : ℕ) → is_member promoted k ≡ true → is_member (after_conflict states conflicts row promoted column) k ≡ true
conflict_keeps states conflicts row k promoted column is = by (need_no_promotion states row column promoted)
  where
    by : (b : Bool) → is_member (if b then promoted else promote (local_to_promote conflicts row column) promoted) k ≡ true
    by true = is
    by false = promote_keeps (local_to_promote conflicts row column) k promoted is

columns_keep : (states : List (List ℕ)) (conflicts : Relation) (row k : ℕ) (promoted : List Bool) (columns : List ℕ) → is_member promoted k ≡ true → is_member (fold (after_conflict states conflicts row) promoted columns) k ≡ true
columns_keep states conflicts row k promoted columns is =
    fold_keeps (after_conflict states conflicts row) (λ set. is_member set k ≡ true) (λ set column. conflict_keeps states conflicts row k set column) promoted columns is

row_keeps : (states : List (List ℕ)) (conflicts : Relation) (k : ℕ) (promoted : List Bool) (row : ℕ) → is_member promoted k ≡ true → is_member (after_row states conflicts promoted row) k ≡ true
row_keeps states conflicts k promoted row is = by (is_member promoted row)
  where
    by : (b : Bool) → is_member (if b then promoted else fold (after_conflict states conflicts row) promoted (columns_of conflicts row)) k ≡ true
    by true = is
    by false = columns_keep states conflicts row k promoted (columns_of conflicts row) is

rows_keep : (states : List (List ℕ)) (conflicts : Relation) (k : ℕ) (promoted : List Bool) (rows : List ℕ) → is_member promoted k ≡ true → is_member (fold (after_row states conflicts) promoted rows) k ≡ true
rows_keep states conflicts k promoted rows is = fold_keeps (after_row states conflicts) (λ set. is_member set k ≡ true) (λ set row. row_keeps states conflicts k set row) promoted rows is

-- what is promoted after the rows is promoted
end_keeps : (states : List (List ℕ)) (conflicts : Relation) (k : ℕ) → is_member (after_rows states conflicts) k ≡ true → is_member (promoted_of states conflicts) k ≡ true
end_keeps states conflicts k is = by (nat_lt (used_count states (after_rows states conflicts)) 2)
  where
    by : (b : Bool) → is_member (if b then map (λ local. true) (after_rows states conflicts) else after_rows states conflicts) k ≡ true
    by true = get_or-map (λ (local : Bool). true) (after_rows states conflicts) k false false (member_within (after_rows states conflicts) k is)
    by false = is

-- a local that several states hold is promoted
pub several_are_promoted : (states : List (List ℕ)) (conflicts : Relation) (local : ℕ) → local < row_count conflicts → 1 < holder_count states local → is_member (promoted_of states conflicts) local ≡ true
several_are_promoted states conflicts local within several =
    let first : is_member (held_by_several states (row_count conflicts)) local ≡ true
    = get_or-map-range_with_len (λ k. nat_lt 1 (holder_count states k)) 0 (row_count conflicts) local local false within (omega arith) ∙ lt-ltb 1 (holder_count states local) several in
    end_keeps states conflicts local (rows_keep states conflicts local (held_by_several states (row_count conflicts)) (source_order (row_count conflicts)) first)

-- ---- of two locals that conflict one is promoted, or the same state holds both

-- no member at the end, no member before
not_before : (set later : List Bool) (k : ℕ) → (is_member set k ≡ true → is_member later k ≡ true) → is_member later k ≡ false → is_member set k ≡ false
not_before set later k keeps none = elim (cases_Bool (is_member set k)) [
  | inl is ↦ let stays : is_member later k ≡ true = keeps is in absurd (cc)
  | inr no-member ↦ no-member
]

-- a conflict that leaves both as they were
conflict_settled : (states : List (List ℕ)) (conflicts : Relation) (a b : ℕ) (promoted : List Bool) → a < length promoted → b < length promoted → is_member (after_conflict states conflicts a promoted b) a ≡ false
    → is_member (after_conflict states conflicts a promoted b) b ≡ false → holder_of states a ≡ holder_of states b
conflict_settled states conflicts a b promoted short long here there =
    by (is_member promoted b) (is_member promoted a) (holder_of states a == holder_of states b) refl refl refl here there
  where
    -- one of the two is given up
    given : (c d : Bool) → nat_lt (length (columns_of conflicts b)) (length (columns_of conflicts a)) ≡ d → is_member (promote (if d then a else b) promoted) a ≡ false
        → is_member (promote (if d then a else b) promoted) b ≡ false → holder_of states a ≡ holder_of states b
    given c true is none one = let added : is_member (promote a promoted) a ≡ true = promote_adds a promoted short in absurd (cc)
    given c false is none one = let added : is_member (promote b promoted) b ≡ true = promote_adds b promoted long in absurd (cc)

    by : (q p e : Bool) → is_member promoted b ≡ q → is_member promoted a ≡ p → (holder_of states a == holder_of states b) ≡ e
        → is_member (if q || (not p && e) then promoted else promote (local_to_promote conflicts a b) promoted) a ≡ false
        → is_member (if q || (not p && e) then promoted else promote (local_to_promote conflicts a b) promoted) b ≡ false → holder_of states a ≡ holder_of states b
    by true p e is h same none one = absurd (cc)
    by false false true is h same none one = eqb-true (holder_of states a) (holder_of states b) same
    by false false false is h same none one = given true (nat_lt (length (columns_of conflicts b)) (length (columns_of conflicts a))) refl none one
    by false true e is h same none one = given true (nat_lt (length (columns_of conflicts b)) (length (columns_of conflicts a))) refl none one

-- the conflicts of a row, among which is this one
columns_settled : (states : List (List ℕ)) (conflicts : Relation) (a b : ℕ) (promoted : List Bool) (columns : List ℕ) → a < length promoted → b < length promoted → has_number columns b ≡ true
    → is_member (fold (after_conflict states conflicts a) promoted columns) a ≡ false → is_member (fold (after_conflict states conflicts a) promoted columns) b ≡ false → holder_of states a ≡ holder_of states b
columns_settled states conflicts a b promoted [] short long has here there = absurd (cc)
columns_settled states conflicts a b promoted (c ∷ columns) short long has here there =
    by (b == c) refl has
    (λ later. columns_settled states conflicts a b (after_conflict states conflicts a promoted c) columns (omega (arith, short, conflict_keeps_count states conflicts a (length promoted) promoted c refl))
    (omega (arith, long, conflict_keeps_count states conflicts a (length promoted) promoted c refl)) later here there)
  where
    by : (e : Bool) → (b == c) ≡ e → (e || has_number columns b) ≡ true → (has_number columns b ≡ true → holder_of states a ≡ holder_of states b) → holder_of states a ≡ holder_of states b
    by true same has rest =
        let is : c ≡ b = sym (eqb-true b c same) in
        conflict_settled states conflicts a b promoted short long
        (subst (λ x. is_member (after_conflict states conflicts a promoted x) a ≡ false) is
        (not_before (after_conflict states conflicts a promoted c) (fold (after_conflict states conflicts a) (after_conflict states conflicts a promoted c) columns) a (columns_keep states conflicts a a (after_conflict states conflicts a promoted c) columns) here))
        (subst (λ x. is_member (after_conflict states conflicts a promoted x) b ≡ false) is
        (not_before (after_conflict states conflicts a promoted c) (fold (after_conflict states conflicts a) (after_conflict states conflicts a promoted c) columns) b (columns_keep states conflicts a b (after_conflict states conflicts a promoted c) columns) there))
    by false other has rest = rest has

-- the row that has this conflict
row_settled : (states : List (List ℕ)) (conflicts : Relation) (a b : ℕ) (promoted : List Bool) → a < length promoted → b < length promoted → has_number (columns_of conflicts a) b ≡ true
    → is_member (after_row states conflicts promoted a) a ≡ false → is_member (after_row states conflicts promoted a) b ≡ false → holder_of states a ≡ holder_of states b
row_settled states conflicts a b promoted short long has here there = by (is_member promoted a) refl here there
  where
    by : (p : Bool) → is_member promoted a ≡ p → is_member (if p then promoted else fold (after_conflict states conflicts a) promoted (columns_of conflicts a)) a ≡ false
        → is_member (if p then promoted else fold (after_conflict states conflicts a) promoted (columns_of conflicts a)) b ≡ false → holder_of states a ≡ holder_of states b
    by true is none one = absurd (cc)
    by false is none one = columns_settled states conflicts a b promoted (columns_of conflicts a) short long has none one

-- the rows, among which is this one
rows_settled : (states : List (List ℕ)) (conflicts : Relation) (a b : ℕ) (promoted : List Bool) (rows : List ℕ) → a < length promoted → b < length promoted → has_number rows a ≡ true → has_number (columns_of conflicts a) b ≡ true
    → is_member (fold (after_row states conflicts) promoted rows) a ≡ false → is_member (fold (after_row states conflicts) promoted rows) b ≡ false → holder_of states a ≡ holder_of states b
rows_settled states conflicts a b promoted [] short long has entry here there = absurd (cc)
rows_settled states conflicts a b promoted (r ∷ rows) short long has entry here there =
    by (a == r) refl has
    (λ later. rows_settled states conflicts a b (after_row states conflicts promoted r) rows (omega (arith, short, row_keeps_count states conflicts (length promoted) promoted r refl))
    (omega (arith, long, row_keeps_count states conflicts (length promoted) promoted r refl)) later entry here there)
  where
    by : (e : Bool) → (a == r) ≡ e → (e || has_number rows a) ≡ true → (has_number rows a ≡ true → holder_of states a ≡ holder_of states b) → holder_of states a ≡ holder_of states b
    by true same has rest =
        let is : r ≡ a = sym (eqb-true a r same) in
        row_settled states conflicts a b promoted short long entry
        (subst (λ x. is_member (after_row states conflicts promoted x) a ≡ false) is
        (not_before (after_row states conflicts promoted r) (fold (after_row states conflicts) (after_row states conflicts promoted r) rows) a (rows_keep states conflicts a (after_row states conflicts promoted r) rows) here))
        (subst (λ x. is_member (after_row states conflicts promoted x) b ≡ false) is
        (not_before (after_row states conflicts promoted r) (fold (after_row states conflicts) (after_row states conflicts promoted r) rows) b (rows_keep states conflicts b (after_row states conflicts promoted r) rows) there))
    by false other has rest = rest has

-- a number in range that passes a test is among those that do
passes_within : (test : ℕ → Bool) (low count k : ℕ) → low ≤ k → k < low + count → test k ≡ true → has_number (filter test (range_with_len low count)) k ≡ true
passes_within test low zero k least most is = absurd (omega (arith, least, most))
passes_within test low (suc count) k least most is = by (test low) refl (k == low) refl (λ ne. passes_within test (low + 1) count k (omega (arith, least, ne)) (omega (arith, most)) is)
  where
    by : (t : Bool) → test low ≡ t → (e : Bool) → (k == low) ≡ e → ((k ≡ low → ⊥) → has_number (filter test (range_with_len (low + 1) count)) k ≡ true)
        → has_number (cond t (low ∷ filter test (range_with_len (low + 1) count)) (filter test (range_with_len (low + 1) count))) k ≡ true
    by true passed true same rest = rw same refl
    by true passed false other rest = rw other (rest (eqb-false k low other))
    by false failed true same rest = let here : test k ≡ false = ap test (eqb-true k low same) ∙ failed in absurd (cc)
    by false failed false other rest = rest (eqb-false k low other)

-- and each number in range is among all
all_within : (low count k : ℕ) → low ≤ k → k < low + count → has_number (range_with_len low count) k ≡ true
all_within low zero k least most = absurd (omega (arith, least, most))
all_within low (suc count) k least most = by (k == low) refl (λ ne. all_within (low + 1) count k (omega (arith, least, ne)) (omega (arith, most)))
  where
    by : (e : Bool) → (k == low) ≡ e → ((k ≡ low → ⊥) → has_number (range_with_len (low + 1) count) k ≡ true) → (e || has_number (range_with_len (low + 1) count) k) ≡ true
    by true same rest = refl
    by false other rest = rest (eqb-false k low other)

-- where neither of two locals that conflict is promoted, one state is the first that holds both, or no state holds either
pub settled : (states : List (List ℕ)) (conflicts : Relation) (a b : ℕ) → column_count conflicts ≡ row_count conflicts → a < row_count conflicts → b < row_count conflicts → is_entry conflicts a b ≡ true
    → is_member (promoted_of states conflicts) a ≡ false → is_member (promoted_of states conflicts) b ≡ false → holder_of states a ≡ holder_of states b
settled states conflicts a b square short long entry here there =
    let size = several_count states (row_count conflicts) in
    rows_settled states conflicts a b (held_by_several states (row_count conflicts)) (source_order (row_count conflicts)) (omega (arith, short, size)) (omega (arith, long, size))
    (all_within 0 (row_count conflicts) a (omega arith) (omega (arith, short))) (passes_within (is_entry conflicts a) 0 (column_count conflicts) b (omega arith) (omega (arith, long, square)) entry)
    (not_before (after_rows states conflicts) (promoted_of states conflicts) a (end_keeps states conflicts a) here) (not_before (after_rows states conflicts) (promoted_of states conflicts) b (end_keeps states conflicts b) there)

-- ---- the state that holds a local

-- an item that passes a test
one_passes : {A : Type 0} (test : A → Bool) (xs : List A) (j : ℕ) (d : A) → j < length xs → test (get_or xs j d) ≡ true → 0 < length (filter test xs)
one_passes test [] j d within is = absurd (omega (arith, within))
one_passes test (x ∷ xs) zero d within is = rw is (omega arith)
one_passes test (x ∷ xs) (suc j) d within is = by (test x) (one_passes test xs j d (omega (arith, within)) is)
  where
    by : (b : Bool) → 0 < length (filter test xs) → 0 < length (cond b (x ∷ filter test xs) (filter test xs))
    by true more = omega arith
    by false more = more

-- two items that do
two_pass : {A : Type 0} (test : A → Bool) (xs : List A) (i j : ℕ) (d : A) → i < j → j < length xs → test (get_or xs i d) ≡ true → test (get_or xs j d) ≡ true → 2 ≤ length (filter test xs)
two_pass test [] i j d before within here there = absurd (omega (arith, within))
two_pass test (x ∷ xs) zero zero d before within here there = absurd (omega (arith, before))
two_pass test (x ∷ xs) zero (suc j) d before within here there = rw here (omega (arith, one_passes test xs j d (omega (arith, within)) there))
two_pass test (x ∷ xs) (suc i) zero d before within here there = absurd (omega (arith, before))
two_pass test (x ∷ xs) (suc i) (suc j) d before within here there = by (test x) (two_pass test xs i j d (omega (arith, before)) (omega (arith, within)) here there)
  where
    by : (b : Bool) → 2 ≤ length (filter test xs) → 2 ≤ length (cond b (x ∷ filter test xs) (filter test xs))
    by true more = omega (arith, more)
    by false more = more

-- the first state that holds a local, where one does
first_holds : (states : List (List ℕ)) (local i : ℕ) → i < length states → has_number (get_or states i []) local ≡ true → (holder_of states local < length states) × (has_number (get_or states (holder_of states local) []) local ≡ true)
first_holds [] local i within holds = absurd (omega (arith, within))
first_holds (state ∷ states) local zero within holds = rw holds (omega arith, holds)
first_holds (state ∷ states) local (suc i) within holds = by (has_number state local) refl (first_holds states local i (omega (arith, within)) holds)
  where
    by : (b : Bool) → has_number state local ≡ b → (holder_of states local < length states) × (has_number (get_or states (holder_of states local) []) local ≡ true)
        → ((if b then 0 else holder_of states local + 1) < length (state ∷ states)) × (has_number (get_or (state ∷ states) (if b then 0 else holder_of states local + 1) []) local ≡ true)
    by true is later = (omega arith, is)
    by false is later = rw add-one (omega (arith, later.0), later.1)

-- a local that is held by one state at most is held by no other
pub one_holder : (states : List (List ℕ)) (local i j : ℕ) → holder_count states local ≤ 1 → i < length states → j < length states → has_number (get_or states i []) local ≡ true → has_number (get_or states j []) local ≡ true → i ≡ j
one_holder states local i j once here there holds too = elim (cases_order i j) [
  | inl same ↦ same
  | inr (inl before) ↦ absurd (omega (arith, once, two_pass (λ state. has_number state local) states i j [] before there holds too))
  | inr (inr behind) ↦ absurd (omega (arith, once, two_pass (λ state. has_number state local) states j i [] behind here too holds))
]

-- and that one is the first
pub holder_is : (states : List (List ℕ)) (local i : ℕ) → holder_count states local ≤ 1 → i < length states → has_number (get_or states i []) local ≡ true → holder_of states local ≡ i
holder_is states local i once within holds =
    let first = first_holds states local i within holds in
    one_holder states local (holder_of states local) i once first.0 within first.1 holds

-- a local that isn't promoted is held by one state at most
pub held_once : (states : List (List ℕ)) (conflicts : Relation) (local : ℕ) → local < row_count conflicts → is_member (promoted_of states conflicts) local ≡ false → holder_count states local ≤ 1
held_once states conflicts local within other = elim (cases_lt 1 (holder_count states local)) [
  | inl several ↦ let is : is_member (promoted_of states conflicts) local ≡ true = several_are_promoted states conflicts local within several in absurd (cc)
  | inr few ↦ few
]

-- ---- states that may share all their bytes

-- a set without members
empty_members : (set : List Bool) (low count : ℕ) → ((k : ℕ) → is_member set k ≡ false) → filter (is_member set) (range_with_len low count) ≡ []
empty_members set low zero none = refl
empty_members set low (suc count) none = rw (none low) (empty_members set (low + 1) count none)

-- no local that one state holds is held by several
none_by_several : (states : List (List ℕ)) (count : ℕ) → ((local : ℕ) → local < count → holder_count states local ≡ 1) → (k : ℕ) → is_member (held_by_several states count) k ≡ false
none_by_several states count once k = elim (cases_lt k count) [
  | inl within ↦ get_or-map-range_with_len (λ local. nat_lt 1 (holder_count states local)) 0 count k k false within (omega arith) ∙ le-ltb 1 (holder_count states k) (omega (arith, once k within))
  | inr past ↦ get_or_past (held_by_several states count) k false (omega (arith, past, several_count states count))
]

-- a conflict between locals of one state asks for nothing where none is promoted
conflict_still : (states : List (List ℕ)) (conflicts : Relation) (row : ℕ) (promoted : List Bool) (column : ℕ) → ((k : ℕ) → is_member promoted k ≡ false) → holder_of states row ≡ holder_of states column
    → after_conflict states conflicts row promoted column ≡ promoted
conflict_still states conflicts row promoted column none same = rw (none column, none row, eq-eqb (holder_of states row) (holder_of states column) same) refl

row_still : (states : List (List ℕ)) (conflicts : Relation) (promoted : List Bool) (row : ℕ) → ((k : ℕ) → is_member promoted k ≡ false) → ((a b : ℕ) → is_entry conflicts a b ≡ true → holder_of states a ≡ holder_of states b)
    → after_row states conflicts promoted row ≡ promoted
row_still states conflicts promoted row none peaceful =
    rw (none row) (fold_fixed (after_conflict states conflicts row) promoted (columns_of conflicts row)
    (λ k d short. conflict_still states conflicts row promoted (get_or (columns_of conflicts row) k d) none
    (peaceful row (get_or (columns_of conflicts row) k d) (filter_passes (is_entry conflicts row) (range_with_len 0 (column_count conflicts)) k d short))))

rows_still : (states : List (List ℕ)) (conflicts : Relation) → MayOverlap (row_count conflicts) states conflicts → after_rows states conflicts ≡ held_by_several states (row_count conflicts)
rows_still states conflicts may =
    fold_fixed (after_row states conflicts) (held_by_several states (row_count conflicts)) (source_order (row_count conflicts))
    (λ k d short. row_still states conflicts (held_by_several states (row_count conflicts)) (get_or (source_order (row_count conflicts)) k d) (none_by_several states (row_count conflicts) may.once) may.peaceful)

-- a place with an item is in range
some_within : (states : List (List ℕ)) (i : ℕ) → 0 < length (variant_at states i) → i < length states
some_within states i some = elim (cases_lt i (length states)) [
  | inl within ↦ within
  | inr past ↦ let none : length (variant_at states i) ≡ 0 = ap length (get_or_past states i [] past) in absurd (omega (arith, some, none))
]

-- a state that holds a local is in use where none is promoted
used_where_none : (promoted : List Bool) (state : List ℕ) → ((k : ℕ) → is_member promoted k ≡ false) → 0 < length state → list_any (λ local. not (is_member promoted local)) state ≡ true
used_where_none promoted [] none some = absurd (omega (arith, some))
used_where_none promoted (local ∷ state) none some = rw (none local) refl

-- at least two states are in use where none is promoted and two hold locals
two_used : (states : List (List ℕ)) (promoted : List Bool) → ((k : ℕ) → is_member promoted k ≡ false)
    → (i : ℕ) × (j : ℕ) × (i < j) × (0 < length (variant_at states i)) × (0 < length (variant_at states j)) → 2 ≤ used_count states promoted
two_used states promoted none (i, j, before, here, there) =
    two_pass (λ state. list_any (λ local. not (is_member promoted local)) state) states i j [] before (some_within states j there) (used_where_none promoted (variant_at states i) none here)
    (used_where_none promoted (variant_at states j) none there)

-- where the states may share all their bytes no local is promoted
pub none_is_promoted : (states : List (List ℕ)) (conflicts : Relation) → MayOverlap (row_count conflicts) states conflicts → members_of (promoted_of states conflicts) ≡ []
none_is_promoted states conflicts may =
    let none = none_by_several states (row_count conflicts) may.once in
    let more : nat_lt (used_count states (held_by_several states (row_count conflicts))) 2 ≡ false
    = le-ltb (used_count states (held_by_several states (row_count conflicts))) 2 (two_used states (held_by_several states (row_count conflicts)) none may.several) in
    let chosen : (if nat_lt (used_count states (held_by_several states (row_count conflicts))) 2 then map (λ (x : Bool). true) (held_by_several states (row_count conflicts)) else held_by_several states (row_count conflicts))
    ≡ held_by_several states (row_count conflicts) = rw more refl in
    let is : promoted_of states conflicts ≡ held_by_several states (row_count conflicts)
    = ap (λ d. if nat_lt (used_count states d) 2 then map (λ (x : Bool). true) d else d) (rows_still states conflicts may) ∙ chosen in
    ap members_of is ∙ empty_members (held_by_several states (row_count conflicts)) 0 (length (held_by_several states (row_count conflicts)) - 0) none

-- ---- relations with the same entries

-- a list keeps the same numbers under tests that agree on them
same_kept : (f g : ℕ → Bool) (low count : ℕ) → ((k : ℕ) → k < low + count → f k ≡ g k) → filter f (range_with_len low count) ≡ filter g (range_with_len low count)
same_kept f g low zero same = refl
same_kept f g low (suc count) same =
    ap₂ (λ b xs. cond b (low ∷ xs) xs) (same low (omega arith)) (same_kept f g (low + 1) count (λ k short. same k (omega (arith, short))))

-- they have the same columns in each row
same_columns : (m n : Relation) → row_count m ≡ row_count n → column_count m ≡ column_count n → ((r c : ℕ) → r < row_count m → c < column_count m → is_entry m r c ≡ is_entry n r c) → (r : ℕ) → columns_of m r ≡ columns_of n r
same_columns m n rows columns entries r =
    same_kept (is_entry m r) (is_entry n r) 0 (column_count m) (λ c short. entry c (omega (arith, short))) ∙ ap (λ count. filter (is_entry n r) (range_with_len 0 count)) columns
  where
    entry : (c : ℕ) → c < column_count m → is_entry m r c ≡ is_entry n r c
    entry c short = elim (cases_lt r (row_count m)) [
      | inl within ↦ entries r c within short
      | inr past ↦ ap (λ row. has_number row c) (get_or_past m.rows r [] past ∙ sym (get_or_past n.rows r [] (omega (arith, past, rows))))
    ]

-- so the same locals are promoted
pub same_promoted : (states : List (List ℕ)) (m n : Relation) → row_count m ≡ row_count n → column_count m ≡ column_count n
    → ((r c : ℕ) → r < row_count m → c < column_count m → is_entry m r c ≡ is_entry n r c) → promoted_of states m ≡ promoted_of states n
same_promoted states m n rows columns entries = λ i. promoted_by (λ r. same_columns m n rows columns entries r i) (rows i)
  where
    -- the locals that these columns promote, row by row
    after : (ℕ → List ℕ) → ℕ → List Bool
    after columns_at count =
        fold
        (λ promoted row. if is_member promoted row then promoted else fold
        (λ set column. if need_no_promotion states row column set then set else promote (if nat_lt (length (columns_at column)) (length (columns_at row)) then row else column) set) promoted (columns_at row))
        (held_by_several states count) (source_order count)

    promoted_by : (ℕ → List ℕ) → ℕ → List Bool
    promoted_by columns_at count = if nat_lt (used_count states (after columns_at count)) 2 then map (λ local. true) (after columns_at count) else after columns_at count
