-- What is known of a coroutine without a fault of its own, and what its conflicts are as a relation.
use Rattle.std.proofs.Common.{◌≡◌, ◌≢◌, ℕ, ◌+◌, ◌<◌, ◌≤◌, ◌==◌, List, [], ◌∷◌, Bool, true, false, Some, None, All, Contains, length, get_or, arith, refl, sym, ap, ap₂, subst, ◌∙◌, inl, inr}
use Rattle.std.specs.Prelude.{◌&&◌, ◌||◌, nat_le, nat_lt, filter, if◌then◌else◌, ◌⊎◌}
use Rattle.std.specs.List.{AllPairs, Any, list_any}
use Rattle.std.proofs.lemmas.Bool.{and_from, and_parts, cases_lt, eq-eqb, eqb-true, leb-false, ltb-false, or_parts}
use Rattle.std.proofs.lemmas.List.{get_or_default, get_or_past}
use Rattle.std.proofs.lemmas.List.Elements.{All-cons, All-contains, All-filter, All-nil, All-weaker}
use Rattle.std.proofs.lemmas.List.Folds.{Any-from_list_any, list_any_at}
use Rattle.std.proofs.lemmas.List.FromFn.{get_or-map-range_with_len, get_or-range_with_len, length-map-range_with_len, length-range_with_len}
use Rattle.std.proofs.lemmas.Map.Views.{any-filter_same}
use Rattle.abi_index.specs.AscendingList.{has_number}
use Rattle.abi_index.specs.Relation.{column_count, is_entry, row_count}
use Rattle.abi_univariant.specs.Placement.{source_order}
use Rattle.abi_calc.proofs.CoroutineLemmas.Steps.{rows_within}
use Rattle.rustc_abi.specs.declared.error.LayError.TheVariants.{BadIndex, LocalTwice, NoState}
use Rattle.rustc_abi.specs.Coroutines.{conflicts_of, names_unknown}
use Rattle.rustc_abi.specs.Enums.{has_equal}
use Rattle.rustc_abi.specs.Laying.{coroutine_fault, has_bad_index, most_fields}
use Rattle.rustc_abi.proofs.Enums.DiscriminantLemmas.{all_differ}
use Rattle.rustc_abi.proofs.Faults.FaultlessLemmas.{few_each}

-- no fault: each test fails
none_of : (a b c d : Bool) → (if a then Some BadIndex else (if b then Some NoState else (if c then Some BadIndex else (if d then Some LocalTwice else None)))) ≡ None →
    (a ≡ false) × (b ≡ false) × (c ≡ false) × (d ≡ false)
none_of true b c d e = absurd (cc)
none_of false true c d e = absurd (cc)
none_of false false true d e = absurd (cc)
none_of false false false true e = absurd (cc)
none_of false false false false e = (refl, refl, refl, refl)

-- where no item passes a test, each fails it
none_pass : {A : Type 0} (test : A → Bool) (xs : List A) → list_any test xs ≡ false → All (λ x. test x ≡ false) xs
none_pass test [] h = All-nil (λ x. test x ≡ false)
none_pass test (x ∷ xs) h =
    let both = or_parts (test x) (list_any test xs) h in
    All-cons (λ y. test y ≡ false) x xs both.0 (none_pass test xs both.1)

-- a list of numbers without equal ones names each once
differ : (xs : List ℕ) → has_equal xs ≡ false → AllPairs (λ a b. a ≢ b) xs
differ xs none i j d before short same =
    let first : get_or xs i d ≡ get_or xs i 0 = get_or_default xs i d 0 (omega (arith, before, short)) in
    let second : get_or xs j d ≡ get_or xs j 0 = get_or_default xs j d 0 short in
    all_differ xs none i j (omega (arith, before, short)) short (λ e. omega (arith, before, e)) (sym first ∙ same ∙ second)

module _ (prefix locals : ℕ) (states : List (List ℕ)) (conflicts : List (ℕ × ℕ)) (none : coroutine_fault prefix locals states conflicts ≡ None) where
  facts : ((nat_lt most_fields (prefix + 1 + locals) || has_bad_index states) ≡ false) × (nat_lt (length states) 1 ≡ false) × (names_unknown locals states conflicts ≡ false) × (list_any has_equal states ≡ false)
  facts = none_of (nat_lt most_fields (prefix + 1 + locals) || has_bad_index states) (nat_lt (length states) 1) (names_unknown locals states conflicts) (list_any has_equal states) none

  counts : (nat_lt most_fields (prefix + 1 + locals) ≡ false) × (has_bad_index states ≡ false)
  counts = or_parts (nat_lt most_fields (prefix + 1 + locals)) (has_bad_index states) facts.0

  few : (nat_lt most_fields (length states) ≡ false) × (list_any (λ state. nat_lt most_fields (length state)) states ≡ false)
  few = or_parts (nat_lt most_fields (length states)) (list_any (λ state. nat_lt most_fields (length state)) states) counts.1

  known : (list_any (list_any (nat_le locals)) states ≡ false) × (list_any (λ c. nat_le locals c.0 || nat_le locals c.1) conflicts ≡ false)
  known = or_parts (list_any (list_any (nat_le locals)) states) (list_any (λ c. nat_le locals c.0 || nat_le locals c.1) conflicts) facts.2

  -- prefix fields, tag and locals are no more than indices
  pub inline_items : prefix + 1 + locals ≤ most_fields
  inline_items = ltb-false most_fields (prefix + 1 + locals) counts.0

  -- there are no more states than indices, and no more locals in each
  pub few_states : length states ≤ most_fields
  few_states = ltb-false most_fields (length states) few.0

  pub few_each_state : All (λ state. length state ≤ most_fields) states
  few_each_state = few_each states few.1

  -- there is a state
  pub some_state : 0 < length states
  some_state = omega (arith, ltb-false (length states) 1 facts.1)

  -- states name locals that are there
  pub states_within : All (All (λ l. l < locals)) states
  states_within =
      All-weaker (λ state. list_any (nat_le locals) state ≡ false) (All (λ l. l < locals))
      (λ state h. All-weaker (λ l. nat_le locals l ≡ false) (λ l. l < locals) (λ l k. leb-false locals l k) state (none_pass (nat_le locals) state h))
      states (none_pass (list_any (nat_le locals)) states known.0)

  -- and so do the conflicts
  pub conflicts_within : All (λ c. (c.0 < locals) × (c.1 < locals)) conflicts
  conflicts_within =
      All-weaker (λ c. (nat_le locals c.0 || nat_le locals c.1) ≡ false) (λ c. (c.0 < locals) × (c.1 < locals))
      (λ c h. (let both = or_parts (nat_le locals c.0) (nat_le locals c.1) h in (leb-false locals c.0 both.0, leb-false locals c.1 both.1))) conflicts
      (none_pass (λ c. nat_le locals c.0 || nat_le locals c.1) conflicts known.1)

  -- a state names each local once
  pub states_once : All (AllPairs (λ a b. a ≢ b)) states
  states_once = All-weaker (λ state. has_equal state ≡ false) (AllPairs (λ a b. a ≢ b)) differ states (none_pass has_equal states facts.3)

-- ---- the conflicts as a relation

-- the row and the column are those of the pair
abbrev pub is_pair : (row column : ℕ) → ℕ × ℕ → Bool
is_pair row column pair = (row == pair.0) && (column == pair.1)

-- it has a row for each local
pub conflict_rows : (count : ℕ) (pairs : List (ℕ × ℕ)) → row_count (conflicts_of count pairs) ≡ count
conflict_rows count pairs = length-map-range_with_len (λ row. filter (λ column. list_any (is_pair row column) pairs) (source_order count)) 0 count

-- and a column
pub conflict_columns : (count : ℕ) (pairs : List (ℕ × ℕ)) → column_count (conflicts_of count pairs) ≡ count
conflict_columns count pairs = refl

in_source : (count k : ℕ) → k < count → has_number (source_order count) k ≡ true
in_source count k low =
    list_any_at (λ x. k == x) (source_order count) k 0 (omega (arith, low, length-range_with_len 0 count))
    (eq-eqb k (get_or (source_order count) k 0) (omega (arith, get_or-range_with_len 0 count k 0 low)))

-- what a test lets through of the numbers below a count
filtered : (test : ℕ → Bool) (count k : ℕ) → k < count → has_number (filter test (source_order count)) k ≡ test k
filtered test count k low =
    let tag_distinguishes : has_number (filter test (source_order count)) k ≡ (test k && has_number (source_order count) k)
    = any-filter_same (λ x. k == x) test (test k) (λ x e. ap test (sym (eqb-true k x e))) (source_order count) in
    tag_distinguishes ∙ ap (λ b. test k && b) (in_source count k low) ∙ whole (test k)
  where
    whole : (b : Bool) → (b && true) ≡ b
    whole true = refl
    whole false = refl

module _ (count : ℕ) (pairs : List (ℕ × ℕ)) where
  row_at : (row : ℕ) → row < count → get_or (conflicts_of count pairs).rows row [] ≡ filter (λ column. list_any (is_pair row column) pairs) (source_order count)
  row_at row low = get_or-map-range_with_len (λ row. filter (λ column. list_any (is_pair row column) pairs) (source_order count)) 0 count row row [] low (omega arith)

  -- an entry is given by the pairs
  pub conflict_entry : (row column : ℕ) → row < count → column < count → is_entry (conflicts_of count pairs) row column ≡ list_any (is_pair row column) pairs
  conflict_entry row column low short =
      ap (λ columns. has_number columns column) (row_at row low) ∙ filtered (λ column. list_any (is_pair row column) pairs) count column short

  -- a pair of locals is an entry
  pub entry_of : (row column : ℕ) → All (λ c. (c.0 < count) × (c.1 < count)) pairs → Contains pairs (row, column) → is_entry (conflicts_of count pairs) row column ≡ true
  entry_of row column within at =
      let low = All-contains (λ c. (c.0 < count) × (c.1 < count)) pairs (row, column) within at in
      conflict_entry row column low.0 low.1
      ∙ list_any_at (is_pair row column) pairs at.0 (row, column) at.1
      (ap (is_pair row column) at.2 ∙ and_from (row == row) (column == column) (eq-eqb row row refl) (eq-eqb column column refl))

  -- and an entry is a pair of locals
  pub pair_of : (row column : ℕ) → is_entry (conflicts_of count pairs) row column ≡ true → (row < count) × (column < count) × Contains pairs (row, column)
  pair_of row column is =
      let low : row < count = low_row (cases_lt row count) in
      let here : has_number (filter (λ column. list_any (is_pair row column) pairs) (source_order count)) column ≡ true = ap (λ columns. has_number columns column) (sym (row_at row low)) ∙ is in
      let short : column < count = within column (Any-from_list_any (λ x. column == x) (filter (λ column. list_any (is_pair row column) pairs) (source_order count)) here) in
      (low, short, found (Any-from_list_any (is_pair row column) pairs (sym (conflict_entry row column low short) ∙ is)))
    where
      low_row : (row < count) ⊎ (count ≤ row) → row < count
      low_row (inl low) = low
      low_row (inr high) =
          let none : get_or (conflicts_of count pairs).rows row [] ≡ [] = get_or_past (conflicts_of count pairs).rows row [] (omega (arith, high, conflict_rows count pairs)) in
          let never : false ≡ true = ap (λ columns. has_number columns column) (sym none) ∙ is in
          absurd (cc)

      within : (column : ℕ) → Any (λ x. (column == x) ≡ true) (filter (λ column. list_any (is_pair row column) pairs) (source_order count)) → column < count
      within column (k, x, lt, at, same) =
          let below = All-filter (λ column. list_any (is_pair row column) pairs) (λ r. r < count) (source_order count) (rows_within count) k x lt in
          omega (arith, below, at, eqb-true column x same)

      found : Any (λ pair. is_pair row column pair ≡ true) pairs → Contains pairs (row, column)
      found (k, pair, lt, at, same) =
          let both = and_parts (row == pair.0) (column == pair.1) same in
          let first : pair.0 ≡ row = sym (eqb-true row pair.0 both.0) in
          let second : pair.1 ≡ column = sym (eqb-true column pair.1 both.1) in
          subst (Contains pairs) (ap₂ (λ a b. (a, b)) first second) (k, lt, at)
