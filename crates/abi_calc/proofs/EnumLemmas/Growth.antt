-- A tag that grows into the space before the variants' fields.
use Rattle.std.proofs.Common.{◌≡◌, ℕ, zero, suc, ◌+◌, ◌^◌, ◌<◌, ◌≤◌, Bool, true, false, List, [], ◌∷◌, ap, arith, drop, get_or, length, map, min, refl, subst, sym, ◌∙◌}
use Rattle.std.specs.Prelude.{◌==◌, ◌&&◌, None, Option, Some, cond, if◌then◌else◌, nat_lt, option_map, slice_get, unwrap_or}
use Rattle.std.specs.List.{find}
use Rattle.std.proofs.lemmas.Bool.{eqb-true, ltb-false, ltb-true}
use Rattle.std.proofs.lemmas.List.{drop_all}
use Rattle.std.proofs.lemmas.Option.{slice_get-get_or, slice_get-map, slice_get_past}
use Rattle.abi_base.specs.declared.data_layout.TargetDataLayout.{TargetDataLayout}
use Rattle.abi_base.specs.declared.integer.Integer.{Integer}
use Rattle.abi_base.specs.Integer.{integer_align, integer_size, integers, is_of_align}
use Rattle.abi_scalar.specs.declared.layout_data.LayoutData.{LayoutData}
use Rattle.abi_scalar.specs.declared.repr.ReprOptions.{ReprOptions}
use Rattle.abi_scalar.specs.Order.{indices_by_offset}
use Rattle.abi_univariant.specs.Part.{max_align}
use Rattle.abi_calc.proofs.AtIndex.{left_at}
use Rattle.abi_calc.specs.Enums.Growth.{first_align, grown_tag, larger_integer, start_align}
use Rattle.abi_calc.specs.Enums.Lists.{AreListsOf, ListsFields}
use Rattle.abi_calc.specs.Enums.EnumStrategy.{is_free}

-- ---- the variants' lists

-- there is a list for each variant
pub lists_count : {A F V : Type 0} (variants : List (List A)) (lists : List (LayoutData F V)) → AreListsOf variants lists → length lists ≡ length variants
lists_count [] [] h = refl
lists_count [] (list ∷ lists) h = absurd h
lists_count (fields ∷ variants) [] h = absurd h
lists_count (fields ∷ variants) (list ∷ lists) h = ap suc (lists_count variants lists h.1)

-- the list at a place is that of the variant there
pub list_at : {A F V : Type 0} (variants : List (List A)) (lists : List (LayoutData F V)) (i : ℕ) (fields : List A) (list : LayoutData F V) → AreListsOf variants lists → i < length lists
    → ListsFields (get_or variants i fields) (get_or lists i list)
list_at [] [] i fields list h short = absurd (omega arith)
list_at [] (l ∷ lists) i fields list h short = absurd h
list_at (v ∷ variants) [] i fields list h short = absurd h
list_at (v ∷ variants) (l ∷ lists) zero fields list h short = h.0
list_at (v ∷ variants) (l ∷ lists) (suc i) fields list h short = list_at variants lists i fields list h.1 (omega arith)

-- ---- the least first alignment

-- it is no more than the greatest alignment there is
pub start_most : {F V : Type 0} (number : F → ℕ) (variants : List (List (LayoutData F V))) (lists : List (LayoutData F V)) → start_align number variants lists ≤ max_align
start_most number [] lists = omega arith
start_most number (fields ∷ variants) [] = omega arith
start_most number (fields ∷ variants) (list ∷ lists) = let later : start_align number variants lists ≤ max_align = start_most number variants lists in omega arith

-- no variants, no first alignment
start_none : {F V : Type 0} (number : F → ℕ) (variants : List (List (LayoutData F V))) → start_align number variants [] ≡ max_align
start_none number [] = refl
start_none number (fields ∷ variants) = refl

-- behind the last list there is none
pub start_end : {F V H : Type 0} (number : F → ℕ) (layout_of : H → LayoutData F V) (variants : List (List H)) (lists : List (LayoutData F V)) (i least : ℕ) → length lists ≤ i → least ≤ max_align
    → min least (start_align number (map (map layout_of) (drop i variants)) (drop i lists)) ≡ least
start_end number layout_of variants lists i least far within = rw (drop_all i lists far, start_none number (map (map layout_of) (drop i variants))) (omega arith)

-- the variant at the index and those behind it
pub start_step : {F V H : Type 0} (number : F → ℕ) (layout_of : H → LayoutData F V) (variants : List (List H)) (lists : List (LayoutData F V)) (i : ℕ) (fields : List H) (list : LayoutData F V) (least whole : ℕ)
    → AreListsOf variants lists → i < length lists → fields ≡ get_or variants i fields → list ≡ get_or lists i list
    → min least (start_align number (map (map layout_of) (drop i variants)) (drop i lists)) ≡ whole
    → min (min least (unwrap_or (first_align (map layout_of fields) (indices_by_offset number list.fields)) max_align)) (start_align number (map (map layout_of) (drop (i + 1) variants)) (drop (i + 1) lists)) ≡ whole
start_step number layout_of variants lists i fields list least whole are short is at before =
    let fits : i < length variants = omega (arith, lists_count variants lists are) in
    let taken = rw (left_at variants i fields fits is, left_at lists i list short at) at before in
    omega (arith, taken)

-- ---- the grown tag

-- of two tests that hold together each holds
both_hold : (a b : Bool) → (a && b) ≡ true → (a ≡ true) × (b ≡ true)
both_hold true b e = (refl, e)
both_hold false b e = cc

-- what is found passes the test
found_holds : {X : Type 0} (test : X → Bool) (xs : List X) (x : X) → find test xs ≡ Some x → test x ≡ true
found_holds test [] x is = cc
found_holds test (y ∷ xs) x is = by (test y) refl is (found_holds test xs x)
  where
    by : (b : Bool) → test y ≡ b → cond b (Some y) (find test xs) ≡ Some x → (find test xs ≡ Some x → test x ≡ true) → test x ≡ true
    by true holds here rest = let e : y ≡ x = cc in subst (λ z. test z ≡ true) e holds
    by false fails later rest = rest later

-- The integer that a tag was asked for as, or a larger one of the first alignment, where the layout is free.
pub record IsGrown (dl : TargetDataLayout) (repr : ReprOptions) (asked : Integer) (start : ℕ) (grown : Integer) : Type 0 where
  pub no_less : integer_size asked ≤ integer_size grown
  pub larger : integer_size asked < integer_size grown → (is_free repr ≡ true) × (integer_size grown ≡ 2 ^ start) × (integer_align dl grown ≡ start)

-- a tag that stays as it was asked for
stays : (dl : TargetDataLayout) (repr : ReprOptions) (asked : Integer) (start : ℕ) → IsGrown dl repr asked start asked
stays dl repr asked start = record { no_less = omega arith; larger = λ less. absurd (omega arith) }

-- an integer of this size and alignment, where it is the larger one
grows : (dl : TargetDataLayout) (repr : ReprOptions) (asked : Integer) (start : ℕ) (found : Integer) → is_free repr ≡ true → is_of_align dl start found ≡ true → IsGrown dl repr asked start (larger_integer asked found)
grows dl repr asked start found free fits = by (nat_lt (integer_size asked) (integer_size found)) refl
  where
    by : (b : Bool) → nat_lt (integer_size asked) (integer_size found) ≡ b → IsGrown dl repr asked start (if b then found else asked)
    by true less =
        let two = both_hold (integer_align dl found == start) (integer_size found == 2 ^ start) fits in
        record {
          no_less = omega (arith, ltb-true (integer_size asked) (integer_size found) less);
          larger = λ above. (free, eqb-true (integer_size found) (2 ^ start) two.1, eqb-true (integer_align dl found) start two.0);
        }
    by false equal = stays dl repr asked start

-- the larger of the integer that was asked for and one that is found, if there is one
grows_if : (dl : TargetDataLayout) (repr : ReprOptions) (asked : Integer) (start : ℕ) (found : Option Integer) → is_free repr ≡ true → find (is_of_align dl start) integers ≡ found
    → IsGrown dl repr asked start (larger_integer asked (unwrap_or found asked))
grows_if dl repr asked start (Some i) free is = grows dl repr asked start i free (found_holds (is_of_align dl start) integers i is)
grows_if dl repr asked start None free is = by (nat_lt (integer_size asked) (integer_size asked))
  where
    by : (b : Bool) → IsGrown dl repr asked start (if b then asked else asked)
    by true = stays dl repr asked start
    by false = stays dl repr asked start

-- the grown tag is no smaller than what was asked for; where it is larger, the layout is free, and the integer's size and
-- alignment are the first alignment
pub grown_size : (dl : TargetDataLayout) (repr : ReprOptions) (asked : Integer) (start : ℕ) → IsGrown dl repr asked start (grown_tag dl repr asked start)
grown_size dl repr asked start = by (is_free repr) refl
  where
    by : (b : Bool) → is_free repr ≡ b → IsGrown dl repr asked start (if b then larger_integer asked (unwrap_or (find (is_of_align dl start) integers) asked) else asked)
    by true free = grows_if dl repr asked start (find (is_of_align dl start) integers) free refl
    by false fixed = stays dl repr asked start

-- ---- the field at a place

-- it is the one that was read
pub field_there : {F V H : Type 0} (layout_of : H → LayoutData F V) (fields : List H) (i : ℕ) (field : H) → true ≡ nat_lt i (length fields) → field ≡ get_or fields i field
    → Some (layout_of field) ≡ slice_get (map layout_of fields) i
field_there layout_of fields i field within is =
    let short : i < length fields = ltb-true i (length fields) (sym within) in
    sym (slice_get-map layout_of fields i ∙ ap (option_map layout_of) (slice_get-get_or fields i field short ∙ ap (λ f. Some f) (sym is)))

-- past the end there is none
pub field_past : {F V H : Type 0} (layout_of : H → LayoutData F V) (fields : List H) (i : ℕ) → false ≡ nat_lt i (length fields) → None ≡ slice_get (map layout_of fields) i
field_past layout_of fields i past =
    let far : length fields ≤ i = ltb-false i (length fields) (sym past) in
    sym (slice_get-map layout_of fields i ∙ ap (option_map layout_of) (slice_get_past fields i far))
