-- There is an order that is named for a list.
use Rattle.std.proofs.Common.{◌≡◌, ℕ, zero, suc, ◌<◌, Bool, true, false, List, [], ◌∷◌, ◌++◌, length, map, get_or, add-one, eq-eqb, Option, Some, None, inl, inr, refl, sym, ap, ◌∙◌, subst, arith}
use Rattle.std.specs.Prelude.{cond, filter, IsPermutation, MatchBool, ◌&&◌, not}
use Rattle.std.specs.List.Sorted.{IsSortedBy, IsStableBy, ties}
use Rattle.std.specs.Cmp.{IsStrictWeakOrder}
use Rattle.std.specs.Prelude.{◌⊎◌, ◌≢◌, All, MatchOption, slice_index, ◌==◌}
use Rattle.std.specs.List.{swap}
use Rattle.std.proofs.lemmas.Bool.Decides.{eqb_tells}
use Rattle.std.proofs.lemmas.List.{get_or-map, length-map}
use Rattle.std.proofs.lemmas.List.Edits.{length-swap, swapped_from_swap}
use Rattle.std.proofs.lemmas.List.FromFn.{get_or-map-range_with_len, get_or-range_with_len, length-map-range_with_len, length-range_with_len}
use Rattle.std.proofs.lemmas.List.Sorted.{IsPermutation-cons, IsPermutation-keeps, IsPermutation-middle, IsPermutation-refl, IsPermutation-sym, IsPermutation-trans, length_permutation, ranks_by}
use Rattle.abi_univariant.specs.declared.fields_repr.FieldsRepr.{FieldsRepr}
use Rattle.abi_univariant.specs.declared.order.NicheBias.{NicheBias}
use Rattle.abi_univariant.specs.declared.order.SortKey.{SortKey}
use Rattle.abi_univariant.specs.declared.part.Part.{Part}
use Rattle.abi_univariant.specs.Order.{IsNamedOrder, IsSortedBefore, IsSortedOrder, key_at, movable_front, rule_of, sort_key, tail}
use Rattle.abi_base.specs.declared.data_layout.TargetDataLayout.{TargetDataLayout}
use Rattle.abi_base.specs.DataLayout.{size_bound}
use Rattle.abi_scalar.specs.declared.niche.Niche.{Niche}
use Rattle.abi_univariant.specs.declared.order.NicheBias.TheVariants.{Start, End}
use Rattle.abi_univariant.specs.declared.placing.FieldsFault.{FieldsFault}
use Rattle.abi_univariant.specs.Fault.{fault_in}
use Rattle.abi_univariant.specs.ListNiche.{begins_after, niche_in}
use Rattle.abi_univariant.specs.LawfulPart.{IsLawfulPart}
use Rattle.abi_univariant.specs.Placement.{IsAllowed, IsNonEmptyIfUnsized, align_of, in_order, offsets_from, size_in, source_order, start_of}
use Rattle.abi_univariant.specs.Run.{IsNamedLayout, IsPlacedIn, space_wanted}
use Rattle.abi_univariant.proofs.Sorted.Least.{allowed_permutes, named_allowed}
use Rattle.abi_univariant.proofs.Placed.PlacingLemmas.{length-offsets}
use Rattle.abi_univariant.proofs.Placed.RunLemmas.{second_clear}
use Rattle.abi_univariant.proofs.Placed.SourceLemmas.{length-in}
use Rattle.abi_univariant.proofs.Layouts.OneOrder.{alike, keys_total}

-- ---- a list can be sorted, stably

module _ {X : Type 0} (lt : X → X → Bool) (o : IsStrictWeakOrder lt) where
  -- x goes before the first that isn't less
  abbrev insert : X → List X → List X
  insert x [] = x ∷ []
  insert x (y ∷ ys) = cond (lt y x) (y ∷ insert x ys) (x ∷ y ∷ ys)

  abbrev sort : List X → List X
  sort [] = []
  sort (x ∷ xs) = insert x (sort xs)

  passed : (b : Bool) (x y : X) (ys rest : List X) → IsPermutation (x ∷ ys) rest → IsPermutation (x ∷ y ∷ ys) (cond b (y ∷ rest) (x ∷ y ∷ ys))
  passed true x y ys rest p =
      IsPermutation-trans (x ∷ y ∷ ys) (y ∷ x ∷ ys) (y ∷ rest)
      (IsPermutation-sym (y ∷ x ∷ ys) (x ∷ y ∷ ys) (IsPermutation-middle (y ∷ []) x ys)) (IsPermutation-cons y (x ∷ ys) rest p)
  passed false x y ys rest p = IsPermutation-refl (x ∷ y ∷ ys)

  insert_permutes : (x : X) (ys : List X) → IsPermutation (x ∷ ys) (insert x ys)
  insert_permutes x [] = IsPermutation-refl (x ∷ [])
  insert_permutes x (y ∷ ys) = passed (lt y x) x y ys (insert x ys) (insert_permutes x ys)

  sort_permutes : (xs : List X) → IsPermutation xs (sort xs)
  sort_permutes [] = IsPermutation-refl []
  sort_permutes (x ∷ xs) =
      IsPermutation-trans (x ∷ xs) (x ∷ sort xs) (insert x (sort xs)) (IsPermutation-cons x xs (sort xs) (sort_permutes xs)) (insert_permutes x (sort xs))

  -- the first of the list, if there is one, isn't less than x
  abbrev Begins : X → List X → Type 0
  Begins x [] = Unit {0}
  Begins x (y ∷ ys) = lt y x ≡ false

  -- none is less than the one before it
  abbrev Rises : List X → Type 0
  Rises [] = Unit {0}
  Rises (x ∷ xs) = Begins x xs × Rises xs

  rises_sorted : (xs : List X) → Rises xs → IsSortedBy lt xs
  rises_sorted [] up k d low high = absurd (omega arith)
  rises_sorted (x ∷ []) up k d low high = absurd (omega arith)
  rises_sorted (x ∷ y ∷ ys) up zero d low high = up.0
  rises_sorted (x ∷ y ∷ ys) up (suc k) d low high = rw add-one (rw add-one at (rises_sorted (y ∷ ys) up.1 k d (omega arith) (omega arith)))

  begins_if : (b : Bool) (z x y : X) (ys rest : List X) → lt x z ≡ false → lt y z ≡ false → Begins z (cond b (y ∷ rest) (x ∷ y ∷ ys))
  begins_if true z x y ys rest down up = up
  begins_if false z x y ys rest down up = down

  begins_insert : (z x : X) (ys : List X) → lt x z ≡ false → Begins z ys → Begins z (insert x ys)
  begins_insert z x [] down up = down
  begins_insert z x (y ∷ ys) down up = begins_if (lt y x) z x y ys (insert x ys) down up

  rises_if : (b : Bool) (x y : X) (ys : List X) → lt y x ≡ b → Rises (y ∷ ys) → Rises (insert x ys) → Rises (cond b (y ∷ insert x ys) (x ∷ y ∷ ys))
  rises_if true x y ys is up later = (begins_insert y x ys (o.one_way y x is) up.0, later)
  rises_if false x y ys is up later = (is, up)

  insert_rises : (x : X) (ys : List X) → Rises ys → Rises (insert x ys)
  insert_rises x [] up = (tt, tt)
  insert_rises x (y ∷ ys) up = rises_if (lt y x) x y ys refl up (insert_rises x ys up.1)

  sort_rises : (xs : List X) → Rises (sort xs)
  sort_rises [] = tt
  sort_rises (x ∷ xs) = insert_rises x (sort xs) (sort_rises xs)

  -- the list can be sorted
  pub some_sorted_list : (xs : List X) → (ys : List X) × IsPermutation xs ys × IsSortedBy lt ys
  some_sorted_list xs = (sort xs, sort_permutes xs, rises_sorted (sort xs) (sort_rises xs))

  -- neither is less
  no_less : (a b : Bool) → not a && not b ≡ true → (a ≡ false) × (b ≡ false)
  no_less true b h = absurd (cc)
  no_less false true h = absurd (cc)
  no_less false false h = (refl, refl)

  -- of two that tie with one, none is less than the other
  both_tie : (z x y : X) → ties lt z x ≡ true → ties lt z y ≡ true → lt y x ≡ true → ⊥
  both_tie z x y a b less =
      let no : lt y x ≡ false = o.chain y z x (no_less (lt z y) (lt y z) b).1 (no_less (lt z x) (lt x z) a).0 in
      absurd (cc)

  -- what a test picks of two in turn, where it doesn't pick both
  swapped : (p q : Bool) (x y : X) (us : List X) → (p ≡ true → q ≡ true → ⊥) → cond q (y ∷ cond p (x ∷ us) us) (cond p (x ∷ us) us) ≡ cond p (x ∷ cond q (y ∷ us) us) (cond q (y ∷ us) us)
  swapped true true x y us h = absurd (h refl refl)
  swapped true false x y us h = refl
  swapped false true x y us h = refl
  swapped false false x y us h = refl

  stable_if : (b : Bool) (z x y : X) (ys : List X) → lt y x ≡ b → filter (ties lt z) (insert x ys) ≡ filter (ties lt z) (x ∷ ys)
      → filter (ties lt z) (cond b (y ∷ insert x ys) (x ∷ y ∷ ys)) ≡ filter (ties lt z) (x ∷ y ∷ ys)
  stable_if true z x y ys is same =
      ap (λ us. cond (ties lt z y) (y ∷ us) us) same ∙ swapped (ties lt z x) (ties lt z y) x y (filter (ties lt z) ys) (λ a b. both_tie z x y a b is)
  stable_if false z x y ys is same = refl

  insert_stable : (z x : X) (ys : List X) → filter (ties lt z) (insert x ys) ≡ filter (ties lt z) (x ∷ ys)
  insert_stable z x [] = refl
  insert_stable z x (y ∷ ys) = stable_if (lt y x) z x y ys refl (insert_stable z x ys)

  sort_stable : (xs : List X) → IsStableBy lt xs (sort xs)
  sort_stable [] z = refl
  sort_stable (x ∷ xs) z = insert_stable z x (sort xs) ∙ ap (λ us. cond (ties lt z x) (x ∷ us) us) (sort_stable xs z)

-- ---- an order is named

some_sorted : (keys : List SortKey) → (order : List ℕ) × IsSortedOrder keys order
some_sorted keys =
    let o = ranks_by keys_total (key_at keys) in (
      sort _ o (source_order (length keys)),
      record {
        permutes = sort_permutes _ o (source_order (length keys));
        sorted = rises_sorted _ o (sort _ o (source_order (length keys))) (sort_rises _ o (source_order (length keys)));
        stable = sort_stable _ o (source_order (length keys));
      },
    )

named_if : (b : Bool) (repr : FieldsRepr) (bias : NicheBias) (fields : List Part)
    → (order : List ℕ) × MatchBool b (IsSortedBefore repr bias fields order) (order ≡ source_order (length fields))
named_if true repr bias fields =
    let front = some_sorted (map (sort_key (rule_of repr bias (movable_front repr.kind fields))) (movable_front repr.kind fields)) in
    (front.0 ++ tail repr.kind fields, (front.0, front.1, refl))
named_if false repr bias fields = (source_order (length fields), refl)

pub some_named : (repr : FieldsRepr) (bias : NicheBias) (fields : List Part) → (order : List ℕ) × IsNamedOrder repr bias fields order
some_named repr bias fields = named_if repr.reorderable repr bias fields

-- ---- fields that lie so in an order have places in source order

-- there are places of n fields which, read in this order, are whatever numbers are wanted
abbrev HasPlaces : (n : ℕ) → List ℕ → Type 0
HasPlaces n order =
    (wanted : ℕ → ℕ) → (offsets : List ℕ) × (length offsets ≡ n) × ((k : ℕ) → k < length order → get_or offsets (get_or order k 0) 0 ≡ wanted k)

in_source_order : (n : ℕ) → HasPlaces n (source_order n)
in_source_order n wanted = (
  map wanted (source_order n),
  length-map-range_with_len wanted 0 n,
  λ k h.
      let below : k < n = omega (arith, length-range_with_len 0 n) in
      let at : get_or (source_order n) k 0 ≡ k = get_or-range_with_len 0 n k 0 below ∙ omega arith in
      ap (λ i. get_or (map wanted (source_order n)) i 0) at ∙ get_or-map-range_with_len wanted 0 n k k 0 below (omega arith),
)

-- the two numbers exchanged
abbrev turned : (i j : ℕ) → (ℕ → ℕ) → ℕ → ℕ
turned i j f k = cond (k == i) (f j) (cond (k == j) (f i) (f k))

-- it is one of two numbers, or not
abbrev Told : (k i : ℕ) → Type 0
Told k i = (((k == i) ≡ true) × (k ≡ i)) ⊎ (((k == i) ≡ false) × (k ≢ i))

module _ (i j : ℕ) (wanted : ℕ → ℕ) where
  turned_first : turned i j wanted i ≡ wanted j
  turned_first = ap (λ e. cond e (wanted j) (cond (i == j) (wanted i) (wanted i))) (eq-eqb i i refl)

  turned_second : Told j i → turned i j wanted j ≡ wanted i
  turned_second (inl (e, is)) = ap (λ t. cond t (wanted j) (cond (j == j) (wanted i) (wanted j))) e ∙ ap wanted is
  turned_second (inr (e, differs)) =
      ap (λ t. cond t (wanted j) (cond (j == j) (wanted i) (wanted j))) e ∙ ap (λ t. cond t (wanted i) (wanted j)) (eq-eqb j j refl)

  turned_elsewhere : (k : ℕ) → (k == i) ≡ false → (k == j) ≡ false → turned i j wanted k ≡ wanted k
  turned_elsewhere k p q = ap (λ t. cond t (wanted j) (cond (k == j) (wanted i) (wanted k))) p ∙ ap (λ t. cond t (wanted i) (wanted k)) q

  -- what stands at an index after an exchange is what is wanted there
  module _ (order offsets : List ℕ) (a : i < length order) (b : j < length order)
      (there : (k : ℕ) → k < length order → get_or offsets (get_or order k 0) 0 ≡ turned i j wanted k) where
    after : (k : ℕ) → k < length order → Told k i → Told k j → get_or offsets (get_or (swap order i j) k 0) 0 ≡ wanted k
    after k h (inl (e, is)) other =
        let moved = swapped_from_swap order (swap order i j) i j 0 a b refl in
        let P : ℕ → Type 0 = λ m. get_or offsets (get_or (swap order i j) m 0) 0 ≡ wanted m in
        subst P (sym is) (ap (λ m. get_or offsets m 0) moved.0 ∙ there j b ∙ turned_second (eqb_tells j i))
    after k h (inr (e, differs)) (inl (f, is)) =
        let moved = swapped_from_swap order (swap order i j) i j 0 a b refl in
        let P : ℕ → Type 0 = λ m. get_or offsets (get_or (swap order i j) m 0) 0 ≡ wanted m in
        subst P (sym is) (ap (λ m. get_or offsets m 0) moved.1 ∙ there i a ∙ turned_first)
    after k h (inr (e, differs)) (inr (f, other)) =
        let moved = swapped_from_swap order (swap order i j) i j 0 a b refl in
        ap (λ m. get_or offsets m 0) (moved.2 k differs other) ∙ there k h ∙ turned_elsewhere k e f

exchanged_has : (n : ℕ) (order : List ℕ) (i j : ℕ) → i < length order → j < length order → HasPlaces n order → HasPlaces n (swap order i j)
exchanged_has n order i j a b has wanted =
    let found = has (turned i j wanted) in
    (found.0, found.1, λ k h. after i j wanted order found.0 a b found.2 k (omega (arith, length-swap order i j)) (eqb_tells k i) (eqb_tells k j))

-- there are places in source order for fields that lie at these places, one after another in this order
pub some_places : (n : ℕ) (order places : List ℕ) → IsPermutation (source_order n) order → length places ≡ n
    → (offsets : List ℕ) × (length offsets ≡ n) × (map (slice_index offsets) order ≡ places)
some_places n order places p long =
    let has = IsPermutation-keeps (source_order n) (HasPlaces n) (in_source_order n) (λ l i j a b h. exchanged_has n l i j a b h) order p in
    let found = has (λ k. get_or places k 0) in
    let many : length order ≡ n = length_permutation (source_order n) order p ∙ length-range_with_len 0 n in (
      found.0,
      found.1,
      alike (map (slice_index found.0) order) places (length-map order (slice_index found.0) ∙ many ∙ sym long)
          (λ k h. let short : k < length order = omega (arith, length-map order (slice_index found.0)) in
          get_or-map (slice_index found.0) order k 0 0 short ∙ found.2 k short),
    )

-- ---- a list has an answer

module _ (dl : TargetDataLayout) (repr : FieldsRepr) (parts : List Part) (law : All (IsLawfulPart dl) parts) (some : IsNonEmptyIfUnsized repr.kind (length parts)) where
  pub some_placed : (bias : NicheBias) (order : List ℕ) → IsAllowed repr (length parts) order → fault_in repr (size_bound dl) parts order ≡ None
      → (offsets : List ℕ) × IsPlacedIn dl repr bias parts order offsets (size_in repr parts order) (align_of repr parts) (niche_in dl repr bias parts order)
  some_placed bias order allowed clear =
      let p = allowed_permutes repr (length parts) order allowed in
      let places = offsets_from repr.pack (start_of repr.pack repr.kind) (in_order parts order) in
      let many : length places ≡ length parts =
      length-offsets repr.pack (start_of repr.pack repr.kind) (in_order parts order) ∙ length-in parts order
      ∙ length_permutation (source_order (length parts)) order p ∙ length-range_with_len 0 (length parts) in
      let found = some_places (length parts) order places p many in
      (found.0, record { count = found.1; places = found.2; extent = refl; alignment = refl; largest = refl; faultless = clear })

  module _ (first : List ℕ) (named : IsNamedOrder repr Start parts first) (clear : fault_in repr (size_bound dl) parts first ≡ None) where
    second_if : (b : Bool) (second : List ℕ) → IsNamedOrder repr End parts second → fault_in repr (size_bound dl) parts second ≡ None
        → (order : List ℕ) × (offsets : List ℕ) × (size : ℕ) × (align : ℕ) × (niche : Option Niche)
        × MatchBool b ((order ≡ second) × IsPlacedIn dl repr End parts order offsets size align niche) ((order ≡ first) × IsPlacedIn dl repr Start parts order offsets size align niche)
    second_if true second ends free =
        let found = some_placed End second (named_allowed repr End parts second some ends) free in (second, found.0, size_in repr parts second, align_of repr parts, niche_in dl repr End parts second, (refl, found.1))
    second_if false second ends free =
        let found = some_placed Start first (named_allowed repr Start parts first some named) clear in (first, found.0, size_in repr parts first, align_of repr parts, niche_in dl repr Start parts first, (refl, found.1))

    run_if : (o : Option ℕ) → space_wanted dl repr parts first ≡ o
        → (order : List ℕ) × (offsets : List ℕ) × (size : ℕ) × (align : ℕ) × (niche : Option Niche)
        × MatchOption o ((order ≡ first) × IsPlacedIn dl repr Start parts order offsets size align niche) (λ space.
        (second : List ℕ) × IsNamedOrder repr End parts second
        × MatchBool (begins_after space (niche_in dl repr End parts second))
        ((order ≡ second) × IsPlacedIn dl repr End parts order offsets size align niche)
        ((order ≡ first) × IsPlacedIn dl repr Start parts order offsets size align niche))
    run_if None e =
        let found = some_placed Start first (named_allowed repr Start parts first some named) clear in (first, found.0, size_in repr parts first, align_of repr parts, niche_in dl repr Start parts first, (refl, found.1))
    run_if (Some space) e =
        let ends = some_named repr End parts in
        let free = second_clear dl repr parts first ends.0 _ space law some named clear e ends.1 in
        let found = second_if (begins_after space (niche_in dl repr End parts ends.0)) ends.0 ends.1 free in
        (found.0, found.1, found.2, found.3, found.4, (ends.0, ends.1, found.5))

-- a list of lawful parts has a fault in the order that is named first, or a layout
pub some_layout : (dl : TargetDataLayout) (repr : FieldsRepr) (parts : List Part) → All (IsLawfulPart dl) parts → IsNonEmptyIfUnsized repr.kind (length parts)
    → ((first : List ℕ) × IsNamedOrder repr Start parts first × ((fault : FieldsFault) × (fault_in repr (size_bound dl) parts first ≡ Some fault)))
    ⊎ ((order : List ℕ) × (offsets : List ℕ) × (size : ℕ) × (align : ℕ) × (niche : Option Niche) × IsNamedLayout dl repr parts order offsets size align niche)
some_layout dl repr parts law some =
    layout_if (fault_in repr (size_bound dl) parts first.0) refl
  where
    first : (order : List ℕ) × IsNamedOrder repr Start parts order
    first = some_named repr Start parts

    layout_if : (o : Option FieldsFault) → fault_in repr (size_bound dl) parts first.0 ≡ o
        → ((order : List ℕ) × IsNamedOrder repr Start parts order × ((fault : FieldsFault) × (fault_in repr (size_bound dl) parts order ≡ Some fault)))
        ⊎ ((order : List ℕ) × (offsets : List ℕ) × (size : ℕ) × (align : ℕ) × (niche : Option Niche) × IsNamedLayout dl repr parts order offsets size align niche)
    layout_if (Some fault) e = inl (first.0, first.1, (fault, e))
    layout_if None e =
        let found = run_if dl repr parts law some first.0 first.1 e (space_wanted dl repr parts first.0) refl in
        inr (found.0, found.1, found.2, found.3, found.4, (first.0, first.1, e, found.5))
