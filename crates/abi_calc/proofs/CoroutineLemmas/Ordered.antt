-- The fields of a coroutine and of its states follow one another in memory, and never back.
use Rattle.std.proofs.Common.{◌≡◌, ◌≢◌, ℕ, ◌+◌, ◌-◌, ◌==◌, ◌<◌, ◌≤◌, ◌∙◌, Bool, true, false, cond, List, [], ◌∷◌, ap, ap₂, arith, drop, get_or, inl, inr, length, map, refl, subst, suc, sym, zero}
use Rattle.std.specs.Prelude.{All, Err, IfOk, IsPermutation, None, Ok, Result, filter, flat_map, if◌then◌else◌, nat_lt, not, slice_get, slice_index, Some, sum_by, take, unwrap_or}
use Rattle.std.specs.List.{AllPairs, range_with_len}
use Rattle.std.specs.Option.{option_map}
use Rattle.std.proofs.lemmas.Bool.{cases_order, eq-eqb, eqb-true, le-ltb, lt-ltb, ltb-false, ltb-true, ne_eqb}
use Rattle.std.proofs.lemmas.Bool.Decides.{Decides-eqb}
use Rattle.std.proofs.lemmas.List.{get_or-map, get_or-take, length-append, length-map, length-take-le}
use Rattle.std.proofs.lemmas.List.Concat.{flat_map-cons, length-flat_map}
use Rattle.std.proofs.lemmas.List.Elements.{All-append, All-cons, All-filter, All-head, All-map, All-nil, All-tail, filter_passes}
use Rattle.std.proofs.lemmas.List.Filters.{length-filter_both}
use Rattle.std.proofs.lemmas.List.FromFn.{fill_by_all}
use Rattle.std.proofs.lemmas.List.Kept.{AllPairs-filter}
use Rattle.std.proofs.lemmas.List.Sorted.{IsPermutation-refl, sum_by-IsPermutation}
use Rattle.std.proofs.lemmas.List.Sums.{sum_by-append, sum_by-cons}
use Rattle.std.proofs.lemmas.Map.Made.{IsDistinct-from_AllPairs}
use Rattle.std.proofs.lemmas.Map.Steps.{length-le_from_distinct_below}
use Rattle.std.proofs.lemmas.Option.{get_or_from_slice_get, slice_get-get_or, slice_get-map, slice_get_within}
use Rattle.abi_base.specs.declared.data_layout.TargetDataLayout.{TargetDataLayout}
use Rattle.abi_base.specs.declared.struct_kind.StructKind.{StructKind}
use Rattle.abi_base.specs.declared.struct_kind.StructKind.TheVariants.{AlwaysSized}
use Rattle.abi_index.specs.BitSet.{is_member, members_of}
use Rattle.abi_index.specs.Relation.{Relation, row_count}
use Rattle.abi_scalar.specs.declared.error.LayoutCalculatorError.{LayoutCalculatorError}
use Rattle.abi_scalar.specs.declared.fields_shape.FieldsShape.TheVariants.{Arbitrary}
use Rattle.abi_scalar.specs.declared.layout_data.LayoutData.{LayoutData}
use Rattle.abi_scalar.specs.declared.scalar.Scalar.{Scalar}
use Rattle.abi_scalar.specs.Order.{HasOrder, IsAscending}
use Rattle.abi_scalar.specs.Shape.{IsListed, listed_offsets, listed_order}
use Rattle.abi_scalar.specs.Variant.{IsOrderedVariant}
use Rattle.abi_univariant.specs.Apart.{AreApart}
use Rattle.abi_univariant.specs.List.{IsUnivariantAnswer}
use Rattle.abi_univariant.specs.Placement.{IsNonEmptyIfUnsized, fields_repr, source_order, start_of}
use Rattle.abi_univariant.proofs.Sorted.Least.{allowed_permutes}
use Rattle.abi_univariant.proofs.Promised.LeastLemmas.{keeps_apart, lies_after, lies_in_order}
use Rattle.abi_univariant.proofs.Offsets.Rounding.{rounded_to}
use Rattle.abi_univariant.proofs.Sorted.Sorting.{within_order}
use Rattle.abi_calc.specs.Coroutine.Answer.{IsCoroutineAnswer}
use Rattle.abi_calc.specs.Coroutine.Lists.{AreOwnLists, state_list_kind, default_repr, first_list, own_list, own_of}
use Rattle.abi_calc.specs.Coroutine.Promotion.{promoted_of}
use Rattle.abi_calc.specs.Coroutine.States.{HasFields, own_places, places_with, rank_of, ranks_of, state_layout, state_layouts, state_offsets, state_order}
use Rattle.abi_calc.specs.Ordered.{IsOrderedWhole}
use Rattle.abi_calc.proofs.CoroutineLemmas.Promised.{first_count, own_list_count}
use Rattle.abi_calc.proofs.CoroutineLemmas.Layout.{ranks_count, ranks_within}
use Rattle.abi_calc.proofs.CoroutineLemmas.Places.{item_left, own_offset, promoted_offset}
use Rattle.abi_calc.proofs.CoroutineLemmas.Promotion.{promoted_count}
use Rattle.abi_calc.proofs.CoroutineLemmas.States.{count_own_places, found_below, kept_map, member_rank, members_few, pairs_append, range_split}
use Rattle.abi_calc.proofs.EnumLemmas.Ordered.{IsOrderedList, list_ordered}
use Rattle.abi_calc.proofs.EnumLemmas.Places.{named_back}

-- ---- sums

sum_map : {A B : Type 0} (f : B → ℕ) (g : A → B) (xs : List A) → sum_by f (map g xs) ≡ sum_by (λ x. f (g x)) xs
sum_map f g [] = refl
sum_map f g (x ∷ xs) = sum_by-cons f (g x) (map g xs) ∙ ap (λ n. f (g x) + n) (sum_map f g xs) ∙ sym (sum_by-cons (λ y. f (g y)) x xs)

sum_same : (f g : ℕ → ℕ) (xs : List ℕ) → ((x : ℕ) → f x ≡ g x) → sum_by f xs ≡ sum_by g xs
sum_same f g [] e = refl
sum_same f g (x ∷ xs) e = sum_by-cons f x xs ∙ ap₂ (λ a b. a + b) (e x) (sum_same f g xs e) ∙ sym (sum_by-cons g x xs)

sum_both : (f g : ℕ → ℕ) (xs : List ℕ) → sum_by (λ x. f x + g x) xs ≡ sum_by f xs + sum_by g xs
sum_both f g [] = omega arith
sum_both f g (x ∷ xs) =
    let whole = sum_by-cons (λ x. f x + g x) x xs in
    let rest = sum_both f g xs in
    let one = sum_by-cons f x xs in
    let two = sum_by-cons g x xs in
    omega (arith, whole, rest, one, two)

sum_zero : (xs : List ℕ) → sum_by (λ x. 0) xs ≡ 0
sum_zero [] = refl
sum_zero (x ∷ xs) = let all = sum_by-cons (λ (x : ℕ). 0) x xs in omega (arith, all, sum_zero xs)

-- of numbers that are counted from elsewhere
sum_shift : (f g : ℕ → ℕ) (a b n : ℕ) → ((r : ℕ) → r < n → f (a + r) ≡ g (b + r)) → sum_by f (range_with_len a n) ≡ sum_by g (range_with_len b n)
sum_shift f g a b zero e = refl
sum_shift f g a b (suc n) e =
    let left : a + 0 ≡ a = omega arith in
    let right : b + 0 ≡ b = omega arith in
    let here : f a ≡ g b = ap f (sym left) ∙ e 0 (omega arith) ∙ ap g right in
    let next : (r : ℕ) → r < n → f (a + 1 + r) ≡ g (b + 1 + r)
    = λ r low. (let p : a + 1 + r ≡ a + suc r = omega arith in let q : b + suc r ≡ b + 1 + r = omega arith in ap f p ∙ e (suc r) (omega (arith, low)) ∙ ap g q) in
    sum_by-cons f a (range_with_len (a + 1) n) ∙ ap₂ (λ x y. x + y) here (sum_shift f g (a + 1) (b + 1) n next) ∙ sym (sum_by-cons g b (range_with_len (b + 1) n))

-- so many pass a test
kept_sum : (p : ℕ → Bool) (xs : List ℕ) → length (filter p xs) ≡ sum_by (λ x. cond (p x) 1 0) xs
kept_sum p [] = refl
kept_sum p (x ∷ xs) = by (p x) (kept_sum p xs) ∙ sym (sum_by-cons (λ y. cond (p y) 1 0) x xs)
  where
    by : (b : Bool) → length (filter p xs) ≡ sum_by (λ y. cond (p y) 1 0) xs → length (cond b (x ∷ filter p xs) (filter p xs)) ≡ cond b 1 0 + sum_by (λ y. cond (p y) 1 0) xs
    by true e = omega (arith, e)
    by false e = omega (arith, e)

-- ---- how often a number stands among the members

none_before : (p : ℕ → Bool) (l a n : ℕ) → l < a → length (filter (λ m. l == m) (filter p (range_with_len a n))) ≡ 0
none_before p l a zero low = refl
none_before p l a (suc n) low = by (p a) (none_before p l (a + 1) n (omega (arith, low)))
  where
    by : (b : Bool) → length (filter (λ m. l == m) (filter p (range_with_len (a + 1) n))) ≡ 0 → length (filter (λ m. l == m) (cond b (a ∷ filter p (range_with_len (a + 1) n)) (filter p (range_with_len (a + 1) n)))) ≡ 0
    by true e = let other : l ≡ a → ⊥ = λ same. absurd (omega (arith, same, low)) in rw (ne_eqb l a other) e
    by false e = e

once_in : (p : ℕ → Bool) (l a n : ℕ) → a ≤ l → l < a + n → length (filter (λ m. l == m) (filter p (range_with_len a n))) ≡ cond (p l) 1 0
once_in p l a zero low high = absurd (omega (arith, low, high))
once_in p l a (suc n) low high = elim (cases_order l a) [
  | inl same ↦ here same
  | inr (inl before) ↦ absurd (omega (arith, low, before))
  | inr (inr after) ↦ later after (once_in p l (a + 1) n (omega (arith, after)) (omega (arith, high)))
]
  where
    here : l ≡ a → length (filter (λ m. l == m) (cond (p a) (a ∷ filter p (range_with_len (a + 1) n)) (filter p (range_with_len (a + 1) n)))) ≡ cond (p l) 1 0
    here same = by (p a) ∙ ap (λ k. cond (p k) 1 0) (sym same)
      where
        none : length (filter (λ m. l == m) (filter p (range_with_len (a + 1) n))) ≡ 0
        none = none_before p l (a + 1) n (omega (arith, same))

        by : (b : Bool) → length (filter (λ m. l == m) (cond b (a ∷ filter p (range_with_len (a + 1) n)) (filter p (range_with_len (a + 1) n)))) ≡ cond b 1 0
        by true = rw (eq-eqb l a same) (ap suc none)
        by false = none

    later : a < l → length (filter (λ m. l == m) (filter p (range_with_len (a + 1) n))) ≡ cond (p l) 1 0
        → length (filter (λ m. l == m) (cond (p a) (a ∷ filter p (range_with_len (a + 1) n)) (filter p (range_with_len (a + 1) n)))) ≡ cond (p l) 1 0
    later after more = by (p a)
      where
        other : l ≡ a → ⊥
        other same = absurd (omega (arith, same, after))

        by : (b : Bool) → length (filter (λ m. l == m) (cond b (a ∷ filter p (range_with_len (a + 1) n)) (filter p (range_with_len (a + 1) n)))) ≡ cond (p l) 1 0
        by true = rw (ne_eqb l a other) more
        by false = more

-- a local stands once among the promoted ones, or not at all
once_among : (promoted : List Bool) (l : ℕ) → l < length promoted → length (filter (λ m. l == m) (members_of promoted)) ≡ cond (is_member promoted l) 1 0
once_among promoted l low = once_in (is_member promoted) l 0 (length promoted - 0) (omega arith) (omega (arith, low))

-- the promoted locals of a state, counted by the members
counted : (promoted : List Bool) (state : List ℕ) → All (λ l. l < length promoted) state → sum_by (λ m. length (filter (λ l. l == m) state)) (members_of promoted) ≡ length (filter (is_member promoted) state)
counted promoted [] within = sum_zero (members_of promoted)
counted promoted (l ∷ state) within =
    let one : length (filter (λ m. l == m) (members_of promoted)) ≡ cond (is_member promoted l) 1 0 = once_among promoted l (All-head (λ l. l < length promoted) l state within) in
    sum_same (λ m. length (filter (λ x. x == m) (l ∷ state))) (λ m. cond (l == m) 1 0 + length (filter (λ x. x == m) state)) (members_of promoted) (λ m. next m (l == m))
    ∙ sum_both (λ m. cond (l == m) 1 0) (λ m. length (filter (λ x. x == m) state)) (members_of promoted)
    ∙ ap₂ (λ a b. a + b) (sym (kept_sum (λ m. l == m) (members_of promoted)) ∙ one) (counted promoted state (All-tail (λ l. l < length promoted) l state within))
    ∙ last (is_member promoted l)
  where
    next : (m : ℕ) (b : Bool) → length (cond b (l ∷ filter (λ x. x == m) state) (filter (λ x. x == m) state)) ≡ cond b 1 0 + length (filter (λ x. x == m) state)
    next m true = omega arith
    next m false = omega arith

    last : (b : Bool) → cond b 1 0 + length (filter (is_member promoted) state) ≡ length (cond b (l ∷ filter (is_member promoted) state) (filter (is_member promoted) state))
    last true = omega arith
    last false = omega arith

-- ---- places of a state

-- a list is its items, one after another
all_items : (xs : List ℕ) → xs ≡ map (slice_index xs) (source_order (length xs))
all_items xs = fill_by_all (slice_index xs) xs (length xs) 0 refl (λ k low. refl)

kept_mapped : {A B : Type 0} (p : B → Bool) (f : A → B) (xs : List A) → filter p (map f xs) ≡ map f (filter (λ x. p (f x)) xs)
kept_mapped p f [] = refl
kept_mapped p f (x ∷ xs) = by (p (f x)) (kept_mapped p f xs)
  where
    by : (b : Bool) → filter p (map f xs) ≡ map f (filter (λ y. p (f y)) xs) → cond b (f x ∷ filter p (map f xs)) (filter p (map f xs)) ≡ map f (cond b (x ∷ filter (λ y. p (f y)) xs) (filter (λ y. p (f y)) xs))
    by true e = ap (λ ys. f x ∷ ys) e
    by false e = e

-- as many places name a local as the state has it
places_count : (state : List ℕ) (m : ℕ) → length (places_with state m) ≡ length (filter (λ l. l == m) state)
places_count state m = sym (kept_map (λ l. l == m) (slice_index state) (source_order (length state))) ∙ ap (λ xs. length (filter (λ l. l == m) xs)) (sym (all_items state))

-- its own locals, by their places
own_is : (promoted : List Bool) (state : List ℕ) → own_of promoted state ≡ map (slice_index state) (own_places promoted state)
own_is promoted state = ap (own_of promoted) (all_items state) ∙ kept_mapped (λ l. not (is_member promoted l)) (slice_index state) (source_order (length state))

below_order : (n : ℕ) → All (λ k. k < n) (source_order n)
below_order n = within_order n (source_order n) (IsPermutation-refl (source_order n))

-- ---- pairs

flat_all : (P : ℕ → Type 0) (f : ℕ → List ℕ) (rs : List ℕ) → All (λ r. All P (f r)) rs → All P (flat_map f rs)
flat_all P f [] h = All-nil P
flat_all P f (r ∷ rs) h = subst (All P) (sym (flat_map-cons f r rs)) (All-append P (f r) (flat_map f rs) (All-head (λ r. All P (f r)) r rs h) (flat_all P f rs (All-tail (λ r. All P (f r)) r rs h)))

-- groups, each of one value, whose values never fall
flat_pairs : (value : ℕ → ℕ) (f : ℕ → List ℕ) (v : ℕ → ℕ) (rs : List ℕ) → All (λ r. All (λ k. value k ≡ v r) (f r)) rs → AllPairs (λ r s. v r ≤ v s) rs → AllPairs (λ i j. value i ≤ value j) (flat_map f rs)
flat_pairs value f v [] same up = λ i j d low short. absurd (omega (arith, short))
flat_pairs value f v (r ∷ rs) same up =
    let own : All (λ k. value k ≡ v r) (f r) = All-head (λ r. All (λ k. value k ≡ v r) (f r)) r rs same in
    let rest : All (λ r. All (λ k. value k ≡ v r) (f r)) rs = All-tail (λ r. All (λ k. value k ≡ v r) (f r)) r rs same in
    let far : All (λ k. v r ≤ value k) (flat_map f rs)
    = flat_all (λ k. v r ≤ value k) f rs (λ k d short. λ i e low. (let high : v r ≤ v (get_or rs k d) = up 0 (suc k) d (omega arith) (omega (arith, short)) in let is = rest k d short i e low in omega (arith, high, is))) in
    subst (AllPairs (λ i j. value i ≤ value j)) (sym (flat_map-cons f r rs))
    (pairs_append (λ i j. value i ≤ value j) (f r) (flat_map f rs)
    (λ i j d low short. (let first = own i d (omega (arith, low, short)) in let second = own j d short in omega (arith, first, second)))
    (flat_pairs value f v rs rest (λ i j d low short. up (suc i) (suc j) d (omega (arith, low)) (omega (arith, short))))
    (λ k d short. λ i e low. (let here = own k d short in let there = far i e low in omega (arith, here, there))))

-- ---- the offsets of a state's locals

offsets_count : (promoted : List Bool) (shared own state : List ℕ) → length (state_offsets promoted shared own state) ≡ length state
offsets_count promoted shared own [] = refl
offsets_count promoted shared own (l ∷ state) = by (is_member promoted l) (offsets_count promoted shared own state) (offsets_count promoted shared (drop 1 own) state)
  where
    by : (b : Bool) → length (state_offsets promoted shared own state) ≡ length state → length (state_offsets promoted shared (drop 1 own) state) ≡ length state
        → length (if b then slice_index shared (rank_of promoted l) ∷ state_offsets promoted shared own state else slice_index own 0 ∷ state_offsets promoted shared (drop 1 own) state) ≡ suc (length state)
    by true e f = ap suc e
    by false e f = ap suc f

-- a number stands at one place of a list without repeated ones
one_place : (xs : List ℕ) (i j k : ℕ) → AllPairs (λ a b. a ≢ b) xs → slice_get xs i ≡ Some k → slice_get xs j ≡ Some k → i ≡ j
one_place xs i j k once here there = elim (cases_order i j) [
  | inl same ↦ same
  | inr (inl before) ↦ absurd (once i j 0 before (slice_get_within xs j k there) (get_or_from_slice_get xs i k 0 here ∙ sym (get_or_from_slice_get xs j k 0 there)))
  | inr (inr after) ↦ absurd (once j i 0 after (slice_get_within xs i k here) (get_or_from_slice_get xs j k 0 there ∙ sym (get_or_from_slice_get xs i k 0 here)))
]

not_true : (b : Bool) → not b ≡ true → b ≡ false
not_true true e = absurd (cc)
not_true false e = refl

module _ (promoted : List Bool) (shared own state : List ℕ) (once : AllPairs (λ a b. a ≢ b) state) (size : length own ≡ length (own_of promoted state)) where
  -- a promoted one lies where the first list has it
  promoted_value : (k : ℕ) → k < length state → is_member promoted (slice_index state k) ≡ true → get_or (state_offsets promoted shared own state) k 0 ≡ slice_index shared (rank_of promoted (slice_index state k))
  promoted_value k short is =
      promoted_offset promoted shared own state k (slice_index state k) (get_or (state_offsets promoted shared own state) k 0) (slice_get-get_or state k 0 short)
      (slice_get-get_or (state_offsets promoted shared own state) k 0 (omega (arith, short, offsets_count promoted shared own state))) is

  -- another where the state's own list has it
  own_value : (q : ℕ) → q < length (own_places promoted state) → get_or (state_offsets promoted shared own state) (slice_index (own_places promoted state) q) 0 ≡ slice_index own q
  own_value q low =
      let short : slice_index (own_places promoted state) q < length state
      = All-filter (λ k. not (is_member promoted (slice_index state k))) (λ k. k < length state) (source_order (length state)) (below_order (length state)) q 0 low in
      let other : is_member promoted (slice_index state (slice_index (own_places promoted state) q)) ≡ false
      = not_true (is_member promoted (slice_index state (slice_index (own_places promoted state) q))) (filter_passes (λ k. not (is_member promoted (slice_index state k))) (source_order (length state)) q 0 low) in
      let found = own_offset promoted shared own state (slice_index (own_places promoted state) q) (slice_index state (slice_index (own_places promoted state) q)) (get_or (state_offsets promoted shared own state) (slice_index (own_places promoted state) q) 0)
      size (slice_get-get_or state (slice_index (own_places promoted state) q) 0 short)
      (slice_get-get_or (state_offsets promoted shared own state) (slice_index (own_places promoted state) q) 0 (omega (arith, short, offsets_count promoted shared own state))) other in
      let here : slice_get (own_of promoted state) q ≡ Some (slice_index state (slice_index (own_places promoted state) q))
      = ap (λ xs. slice_get xs q) (own_is promoted state) ∙ slice_get-map (slice_index state) (own_places promoted state) q
      ∙ ap (option_map (slice_index state)) (slice_get-get_or (own_places promoted state) q 0 low) in
      let same : found.0 ≡ q
      = one_place (own_of promoted state) found.0 q (slice_index state (slice_index (own_places promoted state) q)) (AllPairs-filter (λ a b. a ≢ b) (λ l. not (is_member promoted l)) state once) found.1 here in
      sym (get_or_from_slice_get own found.0 (get_or (state_offsets promoted shared own state) (slice_index (own_places promoted state) q) 0) 0 found.2) ∙ ap (slice_index own) same

  -- the place of a rank's local has the offset of the rank
  rank_value : (r : ℕ) → r < length (members_of promoted) → All (λ k. get_or (state_offsets promoted shared own state) k 0 ≡ slice_index shared r) (places_with state (slice_index (members_of promoted) r))
  rank_value r low j e short =
      let inside : get_or (places_with state (slice_index (members_of promoted) r)) j e < length state
      = All-filter (λ k. slice_index state k == slice_index (members_of promoted) r) (λ k. k < length state) (source_order (length state)) (below_order (length state)) j e short in
      let named : slice_index state (get_or (places_with state (slice_index (members_of promoted) r)) j e) ≡ slice_index (members_of promoted) r
      = eqb-true (slice_index state (get_or (places_with state (slice_index (members_of promoted) r)) j e)) (slice_index (members_of promoted) r)
      (filter_passes (λ k. slice_index state k == slice_index (members_of promoted) r) (source_order (length state)) j e short) in
      let member = member_rank promoted r low in
      promoted_value (get_or (places_with state (slice_index (members_of promoted) r)) j e) inside (ap (is_member promoted) named ∙ member.0)
      ∙ ap (slice_index shared) (ap (rank_of promoted) named ∙ member.1)

  module _ (ranks order : List ℕ) (ranked : All (λ r. r < length (members_of promoted)) ranks) (placed : All (λ q. q < length (own_places promoted state)) order) where
    each_rank : All (λ r. All (λ k. get_or (state_offsets promoted shared own state) k 0 ≡ slice_index shared r) (places_with state (slice_index (members_of promoted) r))) ranks
    each_rank i d low = rank_value (get_or ranks i d) (ranked i d low)

    -- the offset of the own local at a place of memory order
    own_at : (i d : ℕ) → i < length order → get_or (state_offsets promoted shared own state) (get_or (map (slice_index (own_places promoted state)) order) i d) 0 ≡ slice_index own (get_or order i 0)
    own_at i d short =
        ap (λ k. get_or (state_offsets promoted shared own state) k 0) (get_or-map (slice_index (own_places promoted state)) order i 0 d short)
        ∙ own_value (get_or order i 0) (placed i 0 short)

    -- the state's order never steps back
    pub state_up : (start : ℕ) → AllPairs (λ r s. slice_index shared r ≤ slice_index shared s) ranks → All (λ r. slice_index shared r ≤ start) ranks → AllPairs (λ q p. slice_index own q ≤ slice_index own p) order
        → ((q : ℕ) → q < length (own_places promoted state) → start ≤ slice_index own q)
        → AllPairs (λ i j. get_or (state_offsets promoted shared own state) i 0 ≤ get_or (state_offsets promoted shared own state) j 0) (state_order promoted ranks order state)
    state_up start rising inside up far =
        let count : length (map (slice_index (own_places promoted state)) order) ≡ length order = length-map order (slice_index (own_places promoted state)) in
        let low : All (λ k. get_or (state_offsets promoted shared own state) k 0 ≤ start) (flat_map (λ rank. places_with state (slice_index (members_of promoted) rank)) ranks)
        = flat_all (λ k. get_or (state_offsets promoted shared own state) k 0 ≤ start) (λ rank. places_with state (slice_index (members_of promoted) rank)) ranks
        (λ i d short. λ j e less. (let is = each_rank i d short j e less in let in_first = inside i d short in omega (arith, is, in_first))) in
        pairs_append (λ i j. get_or (state_offsets promoted shared own state) i 0 ≤ get_or (state_offsets promoted shared own state) j 0)
        (flat_map (λ rank. places_with state (slice_index (members_of promoted) rank)) ranks) (map (slice_index (own_places promoted state)) order)
        (flat_pairs (λ k. get_or (state_offsets promoted shared own state) k 0) (λ rank. places_with state (slice_index (members_of promoted) rank)) (slice_index shared) ranks each_rank rising)
        (λ i j d less short. (let first = own_at i d (omega (arith, less, short, count)) in let second = own_at j d (omega (arith, short, count)) in let rise = up i j 0 less (omega (arith, short, count)) in omega (arith, first, second, rise)))
        (λ k d short. λ j e less.
        (let here = low k d short in let there = own_at j e (omega (arith, less, count)) in let state_list_kind = far (get_or order j 0) (placed j 0 (omega (arith, less, count))) in omega (arith, here, there, state_list_kind)))

    -- and has a place for each local
    pub state_count : All (λ l. l < length promoted) state → ((g : ℕ → ℕ) → sum_by g ranks ≡ sum_by g (source_order (length (members_of promoted)))) → length order ≡ length own
        → length (state_order promoted ranks order state) ≡ length state
    state_count within same many =
        let front : length (flat_map (λ rank. places_with state (slice_index (members_of promoted) rank)) ranks) ≡ length (filter (is_member promoted) state)
        = length-flat_map (λ rank. places_with state (slice_index (members_of promoted) rank)) ranks
        ∙ same (λ rank. length (places_with state (slice_index (members_of promoted) rank)))
        ∙ sym (sum_map (λ m. length (places_with state m)) (slice_index (members_of promoted)) (source_order (length (members_of promoted))))
        ∙ ap (sum_by (λ m. length (places_with state m))) (sym (all_items (members_of promoted)))
        ∙ sum_same (λ m. length (places_with state m)) (λ m. length (filter (λ l. l == m) state)) (members_of promoted) (places_count state)
        ∙ counted promoted state within in
        let back : length (map (slice_index (own_places promoted state)) order) ≡ length order = length-map order (slice_index (own_places promoted state)) in
        let whole = length-append (flat_map (λ rank. places_with state (slice_index (members_of promoted) rank)) ranks) (map (slice_index (own_places promoted state)) order) in
        let both : length (filter (is_member promoted) state) + length (own_of promoted state) ≡ length state
        = length-filter_both (is_member promoted) (λ l. not (is_member promoted l)) (λ l. refl) state in
        omega (arith, front, back, whole, both, many, size)

-- each place in a state's order is one of the state's
order_below : (promoted : List Bool) (ranks order state : List ℕ) → All (λ q. q < length (own_places promoted state)) order → All (λ i. i < length state) (state_order promoted ranks order state)
order_below promoted ranks order state placed =
    All-append (λ i. i < length state) (flat_map (λ rank. places_with state (slice_index (members_of promoted) rank)) ranks) (map (slice_index (own_places promoted state)) order)
    (flat_all (λ i. i < length state) (λ rank. places_with state (slice_index (members_of promoted) rank)) ranks
    (λ k d short. All-filter (λ j. slice_index state j == slice_index (members_of promoted) (get_or ranks k d)) (λ j. j < length state) (source_order (length state)) (below_order (length state))))
    (All-map (λ i. i < length state) (slice_index (own_places promoted state)) order
    (λ k d short. All-filter (λ j. not (is_member promoted (slice_index state j))) (λ j. j < length state) (source_order (length state)) (below_order (length state)) (get_or order k d) 0 (placed k d short)))

-- ---- ranks

module _ {F : Type 0} (number : F → ℕ) (before count : ℕ) (g : ℕ → ℕ) where
  abbrev beyond : ℕ → ℕ
  beyond k = cond (nat_lt k before) 0 (g (k - before))

  beyond_sum : (order : List F) → sum_by g (ranks_of number before order) ≡ sum_by beyond (map number order)
  beyond_sum [] = refl
  beyond_sum (a ∷ order) = by (nat_lt (number a) before) (beyond_sum order) ∙ sym (sum_by-cons beyond (number a) (map number order))
    where
      by : (b : Bool) → sum_by g (ranks_of number before order) ≡ sum_by beyond (map number order)
          → sum_by g (map (λ i. number i - before) (cond (not b) (a ∷ filter (λ i. not (nat_lt (number i) before)) order) (filter (λ i. not (nat_lt (number i) before)) order)))
          ≡ cond b 0 (g (number a - before)) + sum_by beyond (map number order)
      by true e = omega (arith, e)
      by false e = sum_by-cons g (number a - before) (map (λ i. number i - before) (filter (λ i. not (nat_lt (number i) before)) order)) ∙ ap (λ n. g (number a - before) + n) e

  -- the ranks are the numbers below their count, in some order
  pub ranks_sum : (order : List F) → IsPermutation (source_order (before + count)) (map number order) → sum_by g (ranks_of number before order) ≡ sum_by g (source_order count)
  ranks_sum order same =
      let none : sum_by beyond (range_with_len 0 before) ≡ 0
      = sum_shift beyond (λ x. 0) 0 0 before (λ r low. (let here : 0 + r < before = omega (arith, low) in ap (λ b. cond b 0 (g (0 + r - before))) (lt-ltb (0 + r) before here))) ∙ sum_zero (range_with_len 0 before) in
      let rest : sum_by beyond (range_with_len (0 + before) count) ≡ sum_by g (range_with_len 0 count)
      = sum_shift beyond g (0 + before) 0 count
      (λ r low. (let far : before ≤ 0 + before + r = omega arith in let left : 0 + before + r - before ≡ 0 + r = omega arith in
      ap (λ b. cond b 0 (g (0 + before + r - before))) (le-ltb (0 + before + r) before far) ∙ ap g left)) in
      beyond_sum order ∙ sum_by-IsPermutation beyond (source_order (before + count)) (map number order) same
      ∙ ap (sum_by beyond) (range_split 0 before count) ∙ sum_by-append beyond (range_with_len 0 before) (range_with_len (0 + before) count)
      ∙ ap₂ (λ a b. a + b) none rest ∙ zero_plus (sum_by g (range_with_len 0 count))
    where
      zero_plus : (n : ℕ) → 0 + n ≡ n
      zero_plus n = omega arith

-- ---- offsets by numbers

offset_in : (offsets : List ℕ) (i : ℕ) → unwrap_or (slice_get offsets i) 0 ≡ get_or offsets i 0
offset_in [] i = refl
offset_in (o ∷ os) zero = refl
offset_in (o ∷ os) (suc i) = offset_in os i

below_all : (n : ℕ) (xs : List ℕ) → All (λ x. x ≤ n) xs → (i : ℕ) → get_or xs i 0 ≤ n
below_all n [] all i = omega arith
below_all n (x ∷ xs) all zero = All-head (λ y. y ≤ n) x xs all
below_all n (x ∷ xs) all (suc i) = below_all n xs (All-tail (λ y. y ≤ n) x xs all) i

module _ {F : Type 0} (d : F) (number : F → ℕ) (offsets : List ℕ) (order : List F) where
  -- what ascends by fields ascends by their numbers
  up_numbers : AllPairs (λ a b. get_or offsets (number a) 0 ≤ get_or offsets (number b) 0) order → AllPairs (λ q p. get_or offsets q 0 ≤ get_or offsets p 0) (map number order)
  up_numbers up i j e low short =
      let count : length (map number order) ≡ length order = length-map order number in
      rw (get_or-map number order i d e (omega (arith, low, short, count)), get_or-map number order j d e (omega (arith, short, count))) (up i j d low (omega (arith, short, count)))

  up_fields : IsAscending number (Arbitrary offsets order) → AllPairs (λ a b. get_or offsets (number a) 0 ≤ get_or offsets (number b) 0) order
  up_fields up i j e low short = rw (offset_in offsets (number (get_or order i e)), offset_in offsets (number (get_or order j e))) at (up i j e low short)

-- the ranks' offsets, where the promoted locals stand behind so many fields
module _ {F : Type 0} (d : F) (number : F → ℕ) (before : ℕ) (offsets : List ℕ) (order : List F) where
  rank_offset : (k : ℕ) → before ≤ k → slice_index (drop before offsets) (k - before) ≡ get_or offsets k 0
  rank_offset k far =
      let back : before + (k - before) ≡ k = omega (arith, far) in
      sym (offset_in (drop before offsets) (k - before)) ∙ ap (λ o. unwrap_or o 0) (item_left offsets before (k - before) ∙ ap (slice_get offsets) back) ∙ offset_in offsets k

  at_rank : (i e : ℕ) → i < length (filter (λ a. not (nat_lt (number a) before)) order)
      → slice_index (drop before offsets) (get_or (ranks_of number before order) i e) ≡ get_or offsets (number (get_or (filter (λ a. not (nat_lt (number a) before)) order) i d)) 0
  at_rank i e short =
      let far : before ≤ number (get_or (filter (λ a. not (nat_lt (number a) before)) order) i d)
      = ltb-false (number (get_or (filter (λ a. not (nat_lt (number a) before)) order) i d)) before
      (not_true (nat_lt (number (get_or (filter (λ a. not (nat_lt (number a) before)) order) i d)) before) (filter_passes (λ a. not (nat_lt (number a) before)) order i d short)) in
      ap (slice_index (drop before offsets)) (get_or-map (λ a. number a - before) (filter (λ a. not (nat_lt (number a) before)) order) i d e short)
      ∙ rank_offset (number (get_or (filter (λ a. not (nat_lt (number a) before)) order) i d)) far

  pub ranks_up : AllPairs (λ a b. get_or offsets (number a) 0 ≤ get_or offsets (number b) 0) order → AllPairs (λ r s. slice_index (drop before offsets) r ≤ slice_index (drop before offsets) s) (ranks_of number before order)
  ranks_up up i j e low short =
      let count : length (ranks_of number before order) ≡ length (filter (λ a. not (nat_lt (number a) before)) order) = length-map (filter (λ a. not (nat_lt (number a) before)) order) (λ a. number a - before) in
      let rise = AllPairs-filter (λ a b. get_or offsets (number a) 0 ≤ get_or offsets (number b) 0) (λ a. not (nat_lt (number a) before)) order up i j d low (omega (arith, short, count)) in
      let first = at_rank i e (omega (arith, low, short, count)) in
      let second = at_rank j e (omega (arith, short, count)) in
      omega (arith, rise, first, second)

  pub ranks_inside : (start : ℕ) → All (λ o. o ≤ start) offsets → All (λ r. slice_index (drop before offsets) r ≤ start) (ranks_of number before order)
  ranks_inside start all i e short =
      let count : length (ranks_of number before order) ≡ length (filter (λ a. not (nat_lt (number a) before)) order) = length-map (filter (λ a. not (nat_lt (number a) before)) order) (λ a. number a - before) in
      let is = at_rank i e (omega (arith, short, count)) in
      let fits = below_all start offsets all (number (get_or (filter (λ a. not (nat_lt (number a) before)) order) i d)) in
      omega (arith, is, fits)

  -- the fields before them, as the whole has them
  pub front_up : AllPairs (λ a b. get_or offsets (number a) 0 ≤ get_or offsets (number b) 0) order → IsAscending number (Arbitrary (take before offsets) (filter (λ a. nat_lt (number a) before) order))
  front_up up i j e low short =
      let rise = AllPairs-filter (λ a b. get_or offsets (number a) 0 ≤ get_or offsets (number b) 0) (λ a. nat_lt (number a) before) order up i j e low short in
      let one : number (get_or (filter (λ a. nat_lt (number a) before) order) i e) < before
      = ltb-true (number (get_or (filter (λ a. nat_lt (number a) before) order) i e)) before (filter_passes (λ a. nat_lt (number a) before) order i e (omega (arith, low, short))) in
      let two : number (get_or (filter (λ a. nat_lt (number a) before) order) j e) < before
      = ltb-true (number (get_or (filter (λ a. nat_lt (number a) before) order) j e)) before (filter_passes (λ a. nat_lt (number a) before) order j e short) in
      rw (
        offset_in (take before offsets) (number (get_or (filter (λ a. nat_lt (number a) before) order) i e)),
        offset_in (take before offsets) (number (get_or (filter (λ a. nat_lt (number a) before) order) j e)),
        get_or-take before offsets (number (get_or (filter (λ a. nat_lt (number a) before) order) i e)) 0 one,
        get_or-take before offsets (number (get_or (filter (λ a. nat_lt (number a) before) order) j e)) 0 two,
      ) rise

-- places that an index type names
pub ascending_named : {F : Type 0} (at : ℕ → F) (number : F → ℕ) (most : ℕ) → ((i : ℕ) → i ≤ most → number (at i) ≡ i) → (offsets places : List ℕ) → All (λ k. k ≤ most) places
    → AllPairs (λ i j. get_or offsets i 0 ≤ get_or offsets j 0) places → IsAscending number (Arbitrary offsets (map at places))
ascending_named at number most law offsets places small up i j e low short =
    let count : length (map at places) ≡ length places = length-map places at in
    let first : number (get_or (map at places) i e) ≡ get_or places i 0 = ap number (get_or-map at places i 0 e (omega (arith, low, short, count))) ∙ law (get_or places i 0) (small i 0 (omega (arith, low, short, count))) in
    let second : number (get_or (map at places) j e) ≡ get_or places j 0 = ap number (get_or-map at places j 0 e (omega (arith, short, count))) ∙ law (get_or places j 0) (small j 0 (omega (arith, short, count))) in
    rw (first, second, offset_in offsets (get_or places i 0), offset_in offsets (get_or places j 0)) (up i j 0 low (omega (arith, short, count)))

-- ---- the whole

apart_below : (whole : ℕ) (offsets sizes : List ℕ) → AreApart whole offsets sizes → All (λ o. o ≤ whole) offsets
apart_below whole [] [] h = All-nil (λ o. o ≤ whole)
apart_below whole [] (m ∷ sizes) h = absurd h
apart_below whole (o ∷ offsets) [] h = absurd h
apart_below whole (o ∷ offsets) (m ∷ sizes) h = All-cons (λ p. p ≤ whole) o offsets (omega (arith, h.0)) (apart_below whole offsets sizes h.2)

-- a state has no more locals than there are
state_few : (state : List ℕ) (n : ℕ) → AllPairs (λ a b. a ≢ b) state → All (λ l. l < n) state → length state ≤ n
state_few state n once within = length-le_from_distinct_below state n (IsDistinct-from_AllPairs Decides-eqb state once) (λ q found. found_below state n q within found)

module _ {F V H : Type 0} (layout_of : H → LayoutData F V) (at : ℕ → F) (number : F → ℕ) (most : ℕ) (law : (i : ℕ) → i ≤ most → number (at i) ≡ i) (zeroth : V) (dl : TargetDataLayout) (kind : StructKind) where
  -- the fields of a list, one by one
  list_fields : (hs : List H) (list : LayoutData F V) (count : ℕ) → length hs ≡ count → length hs ≤ most + 1 → IsNonEmptyIfUnsized kind (length hs) → IsUnivariantAnswer layout_of at zeroth dl default_repr kind hs (Ok list)
      → HasFields number count list
  list_fields hs list count many small tail (order, offsets, r) =
      let lies = lies_in_order layout_of at zeroth dl default_repr kind hs order offsets list tail r in
      let long : length (map layout_of hs) ≡ length hs = length-map hs layout_of in
      let allowed = allowed_permutes (fields_repr dl default_repr kind) (length (map layout_of hs)) lies.0 lies.2.allowed in
      let within = within_order (length (map layout_of hs)) lies.0 allowed in
      let back : map number (listed_order list.fields) ≡ lies.0
      = ap (λ shape. map number (listed_order shape)) lies.1 ∙ named_back at number most law lies.0 (λ k d short. omega (arith, within k d short, long, small)) in
      record {
        listed = subst (λ shape. IsListed shape) (sym lies.1) tt;
        offsets = lies.2.count ∙ long ∙ many;
        order = subst (λ n. IsPermutation (source_order n) (map number (listed_order list.fields))) (long ∙ many) (subst (IsPermutation (source_order (length (map layout_of hs)))) (sym back) allowed);
      }

module _ {F V H : Type 0} (layout_of : H → LayoutData F V) (at : ℕ → F) (number : F → ℕ) (most : ℕ) (law : (i : ℕ) → i ≤ most → number (at i) ≡ i) (zeroth : V) (dl : TargetDataLayout) (prefix : List H) (field : H) (locals : List H)
    (promoted : List Bool) (many : length promoted ≡ length locals) (few : length prefix + length locals ≤ most) (first : LayoutData F V)
    (h : IsUnivariantAnswer layout_of at zeroth dl default_repr AlwaysSized (first_list prefix field locals promoted) (Ok first)) where
  first_few : length (first_list prefix field locals promoted) ≤ most + 1
  first_few = omega (arith, first_count prefix field locals promoted many, members_few promoted, many, few)

  first_fields : HasFields number (length prefix + 1 + length (members_of promoted)) first
  first_fields =
      list_fields layout_of at number most law zeroth dl AlwaysSized (first_list prefix field locals promoted) first (length prefix + 1 + length (members_of promoted)) (first_count prefix field locals promoted many) first_few tt h

  first_order : IsOrderedList number first
  first_order = list_ordered layout_of at zeroth dl default_repr AlwaysSized number most law (first_list prefix field locals promoted) first first_few tt h

  first_up : AllPairs (λ a b. get_or (listed_offsets first.fields) (number a) 0 ≤ get_or (listed_offsets first.fields) (number b) 0) (listed_order first.fields)
  first_up = up_fields (at 0) number (listed_offsets first.fields) (listed_order first.fields) first_order.ascending

  first_inside : All (λ o. o ≤ first.size) (listed_offsets first.fields)
  first_inside =
      apart_below first.size (listed_offsets first.fields) (map (λ f. (layout_of f).size) (first_list prefix field locals promoted))
      (keeps_apart layout_of at zeroth dl default_repr AlwaysSized (first_list prefix field locals promoted) h.0 h.1 first tt h.2)

  -- the fields of the whole, in memory
  pub front_ordered : HasOrder number (Arbitrary (take (length prefix + 1) (listed_offsets first.fields)) (filter (λ i. nat_lt (number i) (length prefix + 1)) (listed_order first.fields)))
  front_ordered =
      let ranks = ranks_count number (length prefix + 1) (length (members_of promoted)) first first_fields in
      let state_list_kind : length (ranks_of number (length prefix + 1) (listed_order first.fields)) ≡ length (filter (λ i. not (nat_lt (number i) (length prefix + 1))) (listed_order first.fields))
      = length-map (filter (λ i. not (nat_lt (number i) (length prefix + 1))) (listed_order first.fields)) (λ i. number i - (length prefix + 1)) in
      let both = length-filter_both (λ i. nat_lt (number i) (length prefix + 1)) (λ i. not (nat_lt (number i) (length prefix + 1))) (λ i. refl) (listed_order first.fields) in
      let front = length-take-le (length prefix + 1) (listed_offsets first.fields) (omega (arith, first_fields.offsets)) in (
        omega (arith, ranks, state_list_kind, both, front, first_order.places, first_fields.offsets),
        front_up (at 0) number (length prefix + 1) (listed_offsets first.fields) (listed_order first.fields) first_up,
      )

  -- a state's locals
  state_ordered : (state : List ℕ) (list : LayoutData F V) → AllPairs (λ a b. a ≢ b) state → All (λ l. l < length locals) state
      → IsUnivariantAnswer layout_of at zeroth dl default_repr (state_list_kind first) (own_list locals promoted state) (Ok list) → IsOrderedVariant number (state_layout at number (length prefix + 1) promoted first state list)
  state_ordered state list once within k =
      let shared = drop (length prefix + 1) (listed_offsets first.fields) in
      let own = listed_offsets list.fields in
      let ranks = ranks_of number (length prefix + 1) (listed_order first.fields) in
      let order = map number (listed_order list.fields) in
      let size_of : length (own_list locals promoted state) ≡ length (own_of promoted state) = own_list_count locals promoted state within in
      let some : All (λ l. l < length promoted) state = subst (λ n. All (λ l. l < n) state) (sym many) within in
      let long : length state ≤ length locals = state_few state (length locals) once within in
      let parts = length-filter_both (is_member promoted) (λ l. not (is_member promoted l)) (λ l. refl) state in
      let small : length (own_list locals promoted state) ≤ most + 1 = omega (arith, size_of, parts, long, few) in
      let in_list = list_fields layout_of at number most law zeroth dl (state_list_kind first) (own_list locals promoted state) list (length (own_of promoted state)) size_of small tt k in
      let up = list_ordered layout_of at zeroth dl default_repr (state_list_kind first) number most law (own_list locals promoted state) list small tt k in
      let places : length (own_places promoted state) ≡ length (own_of promoted state) = count_own_places promoted state in
      let ranked = ranks_within number (length prefix + 1) (length (members_of promoted)) first first_fields in
      let placed : All (λ q. q < length (own_places promoted state)) (map number (listed_order list.fields))
      = All-map (λ q. q < length (own_places promoted state)) number (listed_order list.fields) (λ i d short. omega (arith, up.within i d short, in_list.offsets, places)) in
      let many_order : length (map number (listed_order list.fields)) ≡ length (listed_offsets list.fields) = length-map (listed_order list.fields) number ∙ up.places in
      let after : All (λ o. start_of None (state_list_kind first) ≤ o) (listed_offsets list.fields)
      = lies_after layout_of at zeroth dl default_repr (state_list_kind first) (own_list locals promoted state) k.0 k.1 list tt k.2 in
      let far : (q : ℕ) → q < length (own_places promoted state) → first.size ≤ slice_index (listed_offsets list.fields) q
      = λ q low. omega (arith, after q 0 (omega (arith, low, places, in_list.offsets)), (rounded_to first.size first.align.abi).above) in
      let below : All (λ i. i < length state) (state_order promoted ranks (map number (listed_order list.fields)) state)
      = order_below promoted ranks (map number (listed_order list.fields)) state placed in (
        length-map (state_order promoted ranks (map number (listed_order list.fields)) state) at
            ∙ state_count promoted shared own state once in_list.offsets ranks order ranked placed some (λ g. ranks_sum number (length prefix + 1) (length (members_of promoted)) g (listed_order first.fields) first_fields.order) many_order
            ∙ sym (offsets_count promoted shared own state),
        ascending_named at number most law (state_offsets promoted shared own state) (state_order promoted ranks order state) (λ i d short. omega (arith, below i d short, long, few))
            (state_up promoted shared own state once in_list.offsets ranks order ranked placed first.size
            (ranks_up (at 0) number (length prefix + 1) (listed_offsets first.fields) (listed_order first.fields) first_up)
            (ranks_inside (at 0) number (length prefix + 1) (listed_offsets first.fields) (listed_order first.fields) first.size first_inside)
            (up_numbers (at 0) number (listed_offsets list.fields) (listed_order list.fields) (up_fields (at 0) number (listed_offsets list.fields) (listed_order list.fields) up.ascending)) far),
      )

  pub states_ordered : (states : List (List ℕ)) (lists : List (LayoutData F V)) → All (AllPairs (λ a b. a ≢ b)) states → All (All (λ l. l < length locals)) states
      → AreOwnLists layout_of at zeroth dl (state_list_kind first) locals promoted states lists → All (IsOrderedVariant number) (state_layouts at number (length prefix + 1) promoted first states lists)
  states_ordered [] [] once within k = All-nil (IsOrderedVariant number)
  states_ordered [] (l ∷ ls) once within k = elim k [ ]
  states_ordered (s ∷ ss) [] once within k = elim k [ ]
  states_ordered (s ∷ ss) (l ∷ ls) once within k =
      All-cons (IsOrderedVariant number) (state_layout at number (length prefix + 1) promoted first s l) (state_layouts at number (length prefix + 1) promoted first ss ls)
      (state_ordered s l (All-head (AllPairs (λ a b. a ≢ b)) s ss once) (All-head (All (λ l. l < length locals)) s ss within) k.0)
      (states_ordered ss ls (All-tail (AllPairs (λ a b. a ≢ b)) s ss once) (All-tail (All (λ l. l < length locals)) s ss within) k.1)

-- a coroutine's fields, and those of its states, follow one another in memory
pub coroutine_ordered : {F V H : Type 0} (layout_of : H → LayoutData F V) (at : ℕ → F) (number : F → ℕ) (most : ℕ) → ((i : ℕ) → i ≤ most → number (at i) ≡ i) → (zeroth : V) (dl : TargetDataLayout)
    (prefix : List H) (tag : Scalar) (field : H) (locals : List H) (states : List (List ℕ)) (conflicts : Relation) → row_count conflicts ≡ length locals → length prefix + length locals ≤ most
    → All (AllPairs (λ a b. a ≢ b)) states → All (All (λ l. l < length locals)) states → (r : Result (LayoutData F V) (LayoutCalculatorError H))
    → IsCoroutineAnswer layout_of at number zeroth dl prefix tag field locals states conflicts r → IfOk r (IsOrderedWhole number)
coroutine_ordered layout_of at number most law zeroth dl prefix tag field locals states conflicts rows few once within (Ok l) (first, h, lists, hs, below, is) =
    let many : length (promoted_of states conflicts) ≡ length locals = promoted_count states conflicts ∙ rows in
    subst (IsOrderedWhole number) (sym is) (
      front_ordered layout_of at number most law zeroth dl prefix field locals (promoted_of states conflicts) many few first h,
      states_ordered layout_of at number most law zeroth dl prefix field locals (promoted_of states conflicts) many few first h states lists once within hs,
    )
coroutine_ordered layout_of at number most law zeroth dl prefix tag field locals states conflicts rows few once within (Err e) h = tt
