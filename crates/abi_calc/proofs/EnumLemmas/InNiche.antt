-- What the layout with a niche rests on: the untagged variant, the span, and the numbers that are handed out.
use Rattle.std.proofs.Common.{◌≡◌, ℕ, suc, ◌+◌, ◌==◌, ◌&&◌, not, ◌<◌, ◌≤◌, ◌∙◌, Bool, true, false, List, [], ◌∷◌, ap, arith, cond, get_or, inl, inr, length, map, refl, subst, sym, ⊎_elim}
use Rattle.std.specs.Prelude.{◌⊎◌, ◌↔◌, ◌≢◌, All, IfOk, IfSome, IsSome, Option, None, Some, Result, Ok, Err, if◌then◌else◌, nat_le, slice_get}
use Rattle.std.proofs.lemmas.Bool.{and_parts, cases_lt, eq-eqb, leb-true}
use Rattle.std.proofs.lemmas.Option.{get_or_from_slice_get, slice_get_cases}
use Rattle.std.specs.List.{AllPairs, list_any}
use Rattle.std.proofs.lemmas.List.FromFn.{get_or-range_with_len, length-range_with_len}
use Rattle.std.proofs.lemmas.List.Kept.{AllPairs-filter}
use Rattle.std.proofs.lemmas.List.Sorted.{IsPermutation-refl}
use Rattle.std.proofs.lemmas.List.Elements.{All-cons, All-filter, All-head, All-nil, All-tail, All-weaker, filter_passes}
use Rattle.abi_base.specs.declared.data_layout.TargetDataLayout.{TargetDataLayout}
use Rattle.abi_base.specs.declared.struct_kind.StructKind.{StructKind}
use Rattle.abi_base.specs.DataLayout.{IsLawfulDataLayout, size_bound}
use Rattle.abi_base.specs.Primitive.{IsLawfulPrimitive, primitive_size}
use Rattle.abi_scalar.specs.declared.layout_data.LayoutData.{LayoutData}
use Rattle.abi_scalar.specs.declared.niche.Niche.{Niche}
use Rattle.abi_scalar.specs.declared.repr.ReprOptions.{ReprOptions}
use Rattle.abi_scalar.specs.declared.scalar.Scalar.{Scalar}
use Rattle.abi_scalar.specs.declared.scalar.Scalar.TheVariants.{Initialized}
use Rattle.abi_scalar.specs.declared.wrapping_range.WrappingRange.{WrappingRange}
use Rattle.abi_scalar.specs.Niche.{niche_size}
use Rattle.abi_scalar.specs.Range.{AreWithin}
use Rattle.abi_scalar.specs.Reserve.{moves_start, reserved}
use Rattle.abi_scalar.specs.Scalar.{IsLawfulScalar, primitive_of, range_of}
use Rattle.abi_scalar.specs.Shape.{listed_offsets}
use Rattle.abi_univariant.specs.Apart.{AreApart}
use Rattle.abi_univariant.specs.Placement.{source_order}
use Rattle.abi_univariant.proofs.Views.Lawful.{bound_small}
use Rattle.abi_univariant.proofs.Sorted.Sorting.{within_order}
use Rattle.abi_calc.specs.Enums.EnumStrategy.{is_absent, variant_at}
use Rattle.abi_calc.specs.Enums.Lists.{AreGoodLists, IsGoodList}
use Rattle.abi_calc.specs.Enums.Niche.{IsSmallList, if_list, if_niche, if_placed, if_span, last_greatest, last_or, needing_numbers, niche_layout, niche_of_list, room_beside, span_count, span_of, untagged_of, variants_from}
use Rattle.abi_scalar.specs.Lawful.{IsLawfulLayout, IsLawfulNiche}
use Rattle.abi_scalar.specs.Niche.{available_in}
use Rattle.abi_calc.proofs.EnumLemmas.Niche.{le_true}

-- ---- the untagged variant

greatest_there : (n : ℕ) (ns : List ℕ) (b : Bool) → (0 < length ns → last_greatest ns < length ns) → (b ≡ true → 0 < length ns) → (if b then last_greatest ns + 1 else 0) < length (n ∷ ns)
greatest_there n ns true later some = let below : last_greatest ns < length ns = later (some refl) in omega (arith, below)
greatest_there n ns false later some = omega arith

some_of_any : (n : ℕ) (ns : List ℕ) → list_any (λ m. nat_le n m) ns ≡ true → 0 < length ns
some_of_any n [] h = absurd (cc)
some_of_any n (m ∷ ms) h = omega arith

-- the last of the greatest is one of the numbers
pub greatest_within : (ns : List ℕ) → 0 < length ns → last_greatest ns < length ns
greatest_within [] some = absurd (omega arith)
greatest_within (n ∷ ns) some = greatest_there n ns (list_any (λ m. nat_le n m) ns) (greatest_within ns) (some_of_any n ns)

-- ---- the span

last_holds : (P : ℕ → Type 0) (i : ℕ) (is : List ℕ) → P i → All P is → P (last_or i is)
last_holds P i [] h all = h
last_holds P i (j ∷ js) h all = last_holds P j js (All-head P j js all) (All-tail P j js all)

-- what holds of some places holds of the first and the last
pub span_holds : (P : ℕ → Type 0) (is : List ℕ) (span : ℕ × ℕ) → span_of is ≡ Some span → All P is → P span.0 × P span.1
span_holds P [] span found all = absurd (cc)
span_holds P (i ∷ is) span found all =
    let same : (i, last_or i is) ≡ span = cc in
    subst (λ s. P s.0 × P s.1) same (All-head P i is all, last_holds P i is (All-head P i is all) (All-tail P i is all))

-- the variants that need a number are there
pub needing_within : {F V : Type 0} (untagged : ℕ) (variants : List (List (LayoutData F V))) → All (λ i. i < length variants) (needing_numbers untagged variants)
needing_within untagged variants =
    All-filter (λ i. not (i == untagged) && not (is_absent (variant_at variants i))) (λ i. i < length variants) (source_order (length variants)) (within_order (length variants) (source_order (length variants)) (IsPermutation-refl (source_order (length variants))))

-- and none of them is the untagged one
pub needing_others : {F V : Type 0} (untagged : ℕ) (variants : List (List (LayoutData F V))) → All (λ i. i ≢ untagged) (needing_numbers untagged variants)
needing_others untagged variants =
    let needs : ℕ → Bool = λ i. not (i == untagged) && not (is_absent (variant_at variants i)) in
    All-weaker (λ i. needs i ≡ true) (λ i. i ≢ untagged)
    (λ i h same. not-true (i == untagged) (and_parts (not (i == untagged)) (not (is_absent (variant_at variants i))) h).0 (eq-eqb i untagged same))
    (needing_numbers untagged variants)
    (filter_passes needs (source_order (length variants)))
  where
    not-true : (b : Bool) → not b ≡ true → b ≡ true → ⊥
    not-true true h e = absurd (cc)
    not-true false h e = absurd (cc)

ascending_source : (n : ℕ) → AllPairs (λ a b. a < b) (source_order n)
ascending_source n = λ i j d before short.
    let count : length (source_order n) ≡ n = length-range_with_len 0 n in
    let low : get_or (source_order n) i d ≡ 0 + i = get_or-range_with_len 0 n i d (omega (arith, before, short, count)) in
    let high : get_or (source_order n) j d ≡ 0 + j = get_or-range_with_len 0 n j d (omega (arith, short, count)) in
    omega (arith, low, high, before)

-- the first of some ascending places is no later than the last
pub span_ascends : (is : List ℕ) (span : ℕ × ℕ) → span_of is ≡ Some span → AllPairs (λ a b. a < b) is → span.0 ≤ span.1
span_ascends [] span found pairs = absurd (cc)
span_ascends (i ∷ is) span found pairs =
    let same : (i, last_or i is) ≡ span = cc in
    let later : All (λ j. i ≤ j) is = λ k d short. let lt : i < get_or is k d = pairs 0 (suc k) d (omega arith) (omega (arith, short)) in omega (arith, lt) in
    subst (λ s. s.0 ≤ s.1) same (last_holds (λ j. i ≤ j) i is (omega arith) later)

-- the variants that need a number ascend
pub needing_ascends : {F V : Type 0} (untagged : ℕ) (variants : List (List (LayoutData F V))) → AllPairs (λ a b. a < b) (needing_numbers untagged variants)
needing_ascends untagged variants =
    AllPairs-filter (λ a b. a < b) (λ i. not (i == untagged) && not (is_absent (variant_at variants i))) (source_order (length variants)) (ascending_source (length variants))

-- ---- the numbers

handed_cases : (b : Bool) (niche : Niche) (m n : ℕ) (start end : WrappingRange)
    → primitive_of (if◌then◌else◌ {A = ℕ × Scalar} b (m, Initialized niche.value start) (n, Initialized niche.value end)).1 ≡ niche.value
handed_cases true niche m n start end = refl
handed_cases false niche m n start end = refl

-- the tag has the niche's primitive
pub handed_from : (dl : TargetDataLayout) (niche : Niche) (count : ℕ) → primitive_of (reserved dl niche count).1 ≡ niche.value
handed_from dl niche count = handed_cases (moves_start (niche_size dl niche) niche.valid_range count) niche _ _ _ _

-- the tag is lawful
pub handed_lawful : (dl : TargetDataLayout) (niche : Niche) (handed : ℕ × Scalar) (count : ℕ) → handed ≡ reserved dl niche count → IsLawfulPrimitive dl niche.value → AreWithin (niche_size dl niche) (range_of dl handed.1)
    → IsLawfulScalar dl handed.1
handed_lawful dl niche handed count is lawful within =
    let same : primitive_of handed.1 ≡ niche.value = ap (λ h. primitive_of h.1) is ∙ handed_from dl niche count in
    record { pointer = subst (IsLawfulPrimitive dl) (sym same) lawful; within = subst (λ p. AreWithin (primitive_size dl p) (range_of dl handed.1)) (sym same) within }

-- ---- lists that can be moved

begin_inside : (whole : ℕ) (offsets sizes : List ℕ) → AreApart whole offsets sizes → All (λ o. o ≤ whole) offsets
begin_inside whole [] [] h = All-nil (λ o. o ≤ whole)
begin_inside whole [] (m ∷ ms) h = elim h [ ]
begin_inside whole (o ∷ os) [] h = elim h [ ]
begin_inside whole (o ∷ os) (m ∷ ms) h = All-cons (λ p. p ≤ whole) o os (omega (arith, h.0)) (begin_inside whole os ms h.2)

pub small_list : {F V H : Type 0} (layout_of : H → LayoutData F V) (at : ℕ → F) (first : V) (dl : TargetDataLayout) (repr : ReprOptions) (kind : StructKind) (fields : List H) (list : LayoutData F V)
    → IsLawfulDataLayout dl → IsGoodList layout_of at first dl repr kind fields list → IsSmallList list
small_list layout_of at first dl repr kind fields list law good = record {
  inside = begin_inside list.size (listed_offsets list.fields) (map (λ f. (layout_of f).size) fields) good.apart;
  size = omega (arith, good.lawful.bound, bound_small dl law);
  align = good.lawful.limit;
}

-- lists that are good can be moved
pub small_lists : {F V H : Type 0} (layout_of : H → LayoutData F V) (at : ℕ → F) (first : V) (dl : TargetDataLayout) (repr : ReprOptions) (kind : StructKind) (variants : List (List H)) (lists : List (LayoutData F V))
    → IsLawfulDataLayout dl → AreGoodLists layout_of at first dl repr kind variants lists → All IsSmallList lists
small_lists layout_of at first dl repr kind [] [] law h = All-nil IsSmallList
small_lists layout_of at first dl repr kind [] (l ∷ ls) law h = elim h [ ]
small_lists layout_of at first dl repr kind (v ∷ vs) [] law h = elim h [ ]
small_lists layout_of at first dl repr kind (v ∷ vs) (l ∷ ls) law h =
    All-cons IsSmallList l ls (small_list layout_of at first dl repr kind v l law h.0) (small_lists layout_of at first dl repr kind vs ls law h.1)

-- of two numbers out of order the test says so
le_false : (m n : ℕ) → n < m → nat_le m n ≡ false
le_false m n over = by (nat_le m n) refl
  where
    by : (b : Bool) → nat_le m n ≡ b → b ≡ false
    by false is = refl
    by true is = absurd (omega (arith, leb-true m n is, over))

-- ---- whether there is a layout with a niche

-- a list whose niche is known is there
pub niche_known : {F V : Type 0} (o : Option (LayoutData F V)) (niche : Niche) → niche_of_list o ≡ Some niche → (list : LayoutData F V) × (o ≡ Some list) × (list.largest_niche ≡ Some niche)
niche_known None niche e = cc
niche_known (Some list) niche e = (list, refl, e)

there_cases : {A : Type 0} (P : A → Type 0) (xs : List A) (i : ℕ) (x : A) → All P xs → slice_get xs i ≡ Some x
    → ((y : A) × (i < length xs) × (slice_get xs i ≡ Some y) × (get_or xs i y ≡ y)) ⊎ ((length xs ≤ i) × (slice_get xs i ≡ None)) → P x × (i < length xs)
there_cases P xs i x all is (inl h) = (subst P (get_or_from_slice_get xs i x h.0 is) (all i h.0 h.1), h.1)
there_cases P xs i x all is (inr h) = absurd (cc)

-- what holds of each item holds of the one that is there, at a place within the list
pub holds_there : {A : Type 0} (P : A → Type 0) (xs : List A) (i : ℕ) (x : A) → All P xs → slice_get xs i ≡ Some x → P x × (i < length xs)
holds_there P xs i x all is = there_cases P xs i x all is (slice_get_cases xs i).1

-- what holds of the item that is there, holds of it where it is known
pub of_some : {A : Type 0} (P : A → Type 0) (o : Option A) (x : A) → o ≡ Some x → IfSome o P → P x
of_some P o x e h = subst (λ q. IfSome q P) e h

module _ {F V : Type 0} (first : F) (index : ℕ → V) (dl : TargetDataLayout) (repr : ReprOptions) (variants : List (List (LayoutData F V))) (lists : List (LayoutData F V)) where
  -- no variant but the untagged one needs a number
  pub no_span : span_of (needing_numbers (untagged_of lists) variants) ≡ None → None ≡ niche_layout first index dl repr variants lists
  no_span e = sym (ap (if_span first index dl repr (untagged_of lists) lists) e)

  none_of_list : (span : ℕ × ℕ) (o : Option (LayoutData F V)) → niche_of_list o ≡ None → if_list first index dl repr (untagged_of lists) span lists o ≡ None
  none_of_list span None e = refl
  none_of_list span (Some list) e = ap (if_niche first index dl repr (untagged_of lists) span lists list) e

  -- the untagged variant has no niche
  pub no_niche : (span : ℕ × ℕ) → span_of (needing_numbers (untagged_of lists) variants) ≡ Some span → niche_of_list (slice_get lists (untagged_of lists)) ≡ None → None ≡ niche_layout first index dl repr variants lists
  no_niche span e none = sym (ap (if_span first index dl repr (untagged_of lists) lists) e ∙ none_of_list span (slice_get lists (untagged_of lists)) none)

  reached : (span : ℕ × ℕ) (list : LayoutData F V) (niche : Niche) → span_of (needing_numbers (untagged_of lists) variants) ≡ Some span → slice_get lists (untagged_of lists) ≡ Some list → list.largest_niche ≡ Some niche
      → niche_layout first index dl repr variants lists ≡ if_niche first index dl repr (untagged_of lists) span lists list (Some niche)
  reached span list niche e is known =
      ap (if_span first index dl repr (untagged_of lists) lists) e ∙ ap (if_list first index dl repr (untagged_of lists) span lists) is ∙ ap (if_niche first index dl repr (untagged_of lists) span lists list) known

  -- its niche has too few free numbers
  pub too_few : (span : ℕ × ℕ) (list : LayoutData F V) (niche : Niche) → span_of (needing_numbers (untagged_of lists) variants) ≡ Some span → slice_get lists (untagged_of lists) ≡ Some list → list.largest_niche ≡ Some niche
      → available_in dl niche < span_count span → None ≡ niche_layout first index dl repr variants lists
  too_few span list niche e is known few =
      let no : nat_le (span_count span) (available_in dl niche) ≡ false = le_false (span_count span) (available_in dl niche) few in
      sym (reached span list niche e is known
      ∙ ap (λ b. cond b (if_placed first index dl repr (untagged_of lists) span lists list niche (variants_from (room_beside dl niche lists) (untagged_of lists) 0 lists)) None) no)

  -- its niche has enough
  pub enough : (span : ℕ × ℕ) (list : LayoutData F V) (niche : Niche) → span_of (needing_numbers (untagged_of lists) variants) ≡ Some span → slice_get lists (untagged_of lists) ≡ Some list → list.largest_niche ≡ Some niche
      → span_count span ≤ available_in dl niche
      → if_placed first index dl repr (untagged_of lists) span lists list niche (variants_from (room_beside dl niche lists) (untagged_of lists) 0 lists) ≡ niche_layout first index dl repr variants lists
  enough span list niche e is known much =
      let yes : nat_le (span_count span) (available_in dl niche) ≡ true = le_true (span_count span) (available_in dl niche) much in
      sym (reached span list niche e is known
      ∙ ap (λ b. cond b (if_placed first index dl repr (untagged_of lists) span lists list niche (variants_from (room_beside dl niche lists) (untagged_of lists) 0 lists)) None) yes)

-- the untagged variant's niche lies inside a lawful list
pub niche_there : {F V : Type 0} (dl : TargetDataLayout) (lists : List (LayoutData F V)) (place : ℕ) (niche : Niche) → All (IsLawfulLayout dl) lists → niche_of_list (slice_get lists place) ≡ Some niche
    → (size : ℕ) × IsLawfulNiche dl size niche × (size < size_bound dl) × (place < length lists)
niche_there dl lists place niche all e =
    let known = niche_known (slice_get lists place) niche e in
    let there = holds_there (IsLawfulLayout dl) lists place known.0 all known.1 in
    (known.0.size, of_some (IsLawfulNiche dl known.0.size) known.0.largest_niche niche known.2 there.0.niche, there.0.bound, there.1)

-- ---- what a refusal and an answer of the numbers say

-- where none are handed out there are too few
pub few_of : {A : Type 0} (o : Option A) (count free : ℕ) → o ≡ None → IsSome o ↔ (count ≤ free) → free < count
few_of o count free e h = ⊎_elim (λ (lt : free < count). lt) (λ (le : count ≤ free). let bad : false ≡ true = subst IsSome e (h.1 le) in absurd (cc)) (cases_lt free count)

-- where some are there are enough
pub much_of : {A : Type 0} (o : Option A) (x : A) (count free : ℕ) → o ≡ Some x → IsSome o ↔ (count ≤ free) → count ≤ free
much_of o x count free e h = h.0 (subst IsSome (sym e) refl)

-- what follows from an answer holds of it
pub ok_weaker : {A E : Type 0} (P Q : A → Type 0) (r : Result A E) → ((a : A) → P a → Q a) → IfOk r P → IfOk r Q
ok_weaker P Q (Ok a) more h = more a h
ok_weaker P Q (Err e) more h = tt

-- ---- what is found at the untagged variant's place

module _ {F V : Type 0} (lists : List (LayoutData F V)) (untagged : ℕ) (is : untagged ≡ untagged_of lists) where
  pub known_niche : (niche : Option Niche) → niche ≡ niche_of_list (slice_get lists untagged) → niche_of_list (slice_get lists (untagged_of lists)) ≡ niche
  known_niche niche tag_distinguishes = sym (tag_distinguishes ∙ ap (λ u. niche_of_list (slice_get lists u)) is)

module _ {F V : Type 0} (variants : List (List (LayoutData F V))) (lists : List (LayoutData F V)) (untagged : ℕ) (is : untagged ≡ untagged_of lists) where
  pub known_span : (span : Option (ℕ × ℕ)) → span ≡ span_of (needing_numbers untagged variants) → span_of (needing_numbers (untagged_of lists) variants) ≡ span
  known_span span tag_distinguishes = sym (tag_distinguishes ∙ ap (λ u. span_of (needing_numbers u variants)) is)
