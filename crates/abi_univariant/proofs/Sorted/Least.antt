-- The named order is allowed, and no allowed order is smaller.
use Rattle.std.proofs.Common.{◌≡◌, ℕ, suc, ◌+◌, ◌-◌, ◌^◌, ◌<◌, ◌≤◌, Bool, true, false, List, [], ◌∷◌, ◌++◌, Option, None, Some, length, take, map, get_or, max, refl, sym, ap, ap₂, subst, ◌∙◌, arith, length-take, append-nil}
use Rattle.std.specs.Prelude.{All, IsPermutation, IsTrue, MatchBool}
use Rattle.std.specs.Int.{next_multiple_of}
use Rattle.std.proofs.lemmas.List.{map-append, get_or_at, get_or-take, length-map, take_more}
use Rattle.std.proofs.Math.Seq.{take-length}
use Rattle.std.proofs.lemmas.Bool.{false≢true}
use Rattle.std.proofs.lemmas.List.FromFn.{length-range_with_len}
use Rattle.std.proofs.lemmas.List.Elements.{All-take, All-head, All-tail}
use Rattle.std.proofs.lemmas.List.Sorted.{All-permutation, IsPermutation-refl, IsPermutation-append_left, length_permutation, sum_by-IsPermutation}
use Rattle.std.proofs.lemmas.List.Sums.{sum_by_push}
use Rattle.abi_univariant.specs.declared.part.Part.{Part}
use Rattle.abi_univariant.specs.declared.fields_repr.FieldsRepr.{FieldsRepr}
use Rattle.abi_base.specs.declared.struct_kind.StructKind.{StructKind}
use Rattle.abi_base.specs.declared.struct_kind.StructKind.TheVariants.{AlwaysSized, MaybeUnsized, Prefixed}
use Rattle.abi_univariant.specs.declared.order.NicheBias.{NicheBias}
use Rattle.abi_univariant.specs.declared.order.NicheBias.TheVariants.{Start, End}
use Rattle.abi_univariant.specs.declared.order.SortRule.{SortRule}
use Rattle.abi_univariant.specs.Part.{max_align}
use Rattle.abi_univariant.specs.LawfulPart.{IsAlignedPart}
use Rattle.abi_univariant.specs.Placement.{IsWellFormedRepr, IsWellFormedPrefix, IsNonEmptyIfUnsized, cut, start_of, end_from, align_of, prefix_align, no_part, in_order, source_order, size_in, KeepsTail, IsAllowed, IsSized, sum_rounded}
use Rattle.abi_univariant.specs.Order.{sort_key, descending_key, group_of, movable_front, tail, rule_of, IsSortedOrder, IsSortedBefore, IsNamedOrder}
use Rattle.abi_univariant.proofs.Offsets.Rounding.{round_mono, rounded_to}
use Rattle.abi_univariant.proofs.Offsets.Ends.{total, Capped, end_from-above, end_from-append, end_from-mono}
use Rattle.abi_univariant.proofs.Sorted.Sorting.{within_order, in_order-permutation}
use Rattle.abi_univariant.proofs.Offsets.Steps.{range-more}
use Rattle.abi_univariant.proofs.Sorted.Tight.{Sorts, greatest, greatest_above, capped, end_from-descending, end_from-ascending}

-- ---- source order

source_order-last : (n : ℕ) → 0 < n → source_order (n - 1) ++ (n - 1) ∷ [] ≡ source_order n
source_order-last n h = let split : suc (n - 1) ≡ n = omega arith in sym (subst (λ x. source_order x ≡ source_order (n - 1) ++ (n - 1) ∷ []) split (range-more 0 (n - 1) ∙ ap (λ x. source_order (n - 1) ++ x ∷ []) (omega arith)))

-- ---- totals

total-order : (fields : List Part) (order : List ℕ) → IsPermutation (source_order (length fields)) order → total (in_order fields order) ≡ total fields
total-order fields order p = sum_by-IsPermutation (λ f. f.size) fields (in_order fields order) (in_order-permutation fields order p)

-- an index below the cut names the same field
in_order-take : (n : ℕ) (fields : List Part) (is : List ℕ) → All (λ i. i < n) is → in_order (take n fields) is ≡ in_order fields is
in_order-take n fields [] within = refl
in_order-take n fields (i ∷ is) within =
    ap₂ (λ f fs. f ∷ fs) (get_or-take n fields i no_part (All-head (λ j. j < n) i is within)) (in_order-take n fields is (All-tail (λ j. j < n) i is within))

-- every alignment counts in the list's
aligned : (repr : FieldsRepr) (fields : List Part) (order : List ℕ) → IsPermutation (source_order (length fields)) order → Capped repr.pack (align_of repr fields) (in_order fields order)
aligned repr fields order p =
    capped repr.pack (align_of repr fields) (in_order fields order) (All-permutation (λ f. cut repr.pack f.align ≤ align_of repr fields) fields (in_order fields order) (in_order-permutation fields order p)
    (greatest_above (λ f. cut repr.pack f.align) (max repr.align (prefix_align repr.pack repr.kind)) fields))

-- no order is smaller than the sum of the sizes
pub size_in-above : (repr : FieldsRepr) (fields : List Part) (order : List ℕ) → IsPermutation (source_order (length fields)) order
    → next_multiple_of (start_of repr.pack repr.kind + total fields) (2 ^ align_of repr fields) ≤ size_in repr fields order
size_in-above repr fields order p =
    let above : start_of repr.pack repr.kind + total (in_order fields order) ≤ end_from repr.pack (start_of repr.pack repr.kind) (in_order fields order)
    = end_from-above repr.pack (start_of repr.pack repr.kind) (in_order fields order) in
    round_mono _ _ (align_of repr fields) (omega (arith, total-order fields order p))

-- the rank of a group that descends
descending_rank : (bias : NicheBias) (rule : SortRule) (f : Part) → group_of rule f ≤ 64 → (descending_key bias rule f).group + group_of rule f ≡ 64
descending_rank Start rule f h = omega arith
descending_rank End rule f h = omega arith

-- ---- the named order is allowed

sorts : (repr : FieldsRepr) (bias : NicheBias) (fields : List Part) (front : List ℕ) → All IsAlignedPart fields → IsSortedOrder (map (sort_key (rule_of repr bias fields)) fields) front
    → Sorts (rule_of repr bias fields) fields front
sorts repr bias fields front law s = record { lawful = law; below = greatest_above (λ f. f.align) 0 fields; sorted = s }

sorted_permutes : (rule : SortRule) (fields : List Part) (order : List ℕ) → IsSortedOrder (map (sort_key rule) fields) order → IsPermutation (source_order (length fields)) order
sorted_permutes rule fields order s = subst (λ n. IsPermutation (source_order n) order) (length-map fields (sort_key rule)) s.permutes

sorted_allowed : (kind : StructKind) (rule : SortRule) (fields : List Part) (front order : List ℕ) → IsNonEmptyIfUnsized kind (length fields)
    → IsSortedOrder (map (sort_key rule) (movable_front kind fields)) front → order ≡ front ++ tail kind fields
    → IsPermutation (source_order (length fields)) order × KeepsTail kind (length fields) order
sorted_allowed AlwaysSized rule fields front order some s is =
    (subst (λ o. IsPermutation (source_order (length fields)) o) (sym (is ∙ append-nil front)) (sorted_permutes rule fields front s), tt)
sorted_allowed (Prefixed size align) rule fields front order some s is =
    (subst (λ o. IsPermutation (source_order (length fields)) o) (sym (is ∙ append-nil front)) (sorted_permutes rule fields front s), tt)
sorted_allowed MaybeUnsized rule fields front order some s is =
    let short : length (take (length fields - 1) fields) ≡ length fields - 1 = omega (arith, length-take (length fields - 1) fields) in
    let p : IsPermutation (source_order (length fields - 1)) front = subst (λ n. IsPermutation (source_order n) front) short (sorted_permutes rule (take (length fields - 1) fields) front s) in
    let q : IsPermutation (source_order (length fields - 1) ++ (length fields - 1) ∷ []) (front ++ (length fields - 1) ∷ [])
    = IsPermutation-append_left ((length fields - 1) ∷ []) (source_order (length fields - 1)) front p in
    let len : length front ≡ length fields - 1 = length_permutation (source_order (length fields - 1)) front p ∙ length-range_with_len 0 (length fields - 1) in (
      subst (λ o. IsPermutation (source_order (length fields)) o) (sym is) (subst (λ o. IsPermutation o (front ++ (length fields - 1) ∷ [])) (source_order-last (length fields) some) q),
      ap (λ o. get_or o (length fields - 1) 0) is ∙ get_or_at front (length fields - 1) [] 0 (length fields - 1) len,
    )

named_cases : (b : Bool) (kind : StructKind) (rule : SortRule) (fields : List Part) (order : List ℕ) → IsNonEmptyIfUnsized kind (length fields)
    → MatchBool b ((front : List ℕ) × IsSortedOrder (map (sort_key rule) (movable_front kind fields)) front × (order ≡ front ++ tail kind fields)) (order ≡ source_order (length fields))
    → MatchBool b (IsPermutation (source_order (length fields)) order × KeepsTail kind (length fields) order) (order ≡ source_order (length fields))
named_cases true kind rule fields order some s = sorted_allowed kind rule fields s.0 order some s.1 s.2
named_cases false kind rule fields order some is = is

pub named_allowed : (repr : FieldsRepr) (bias : NicheBias) (fields : List Part) (order : List ℕ) → IsNonEmptyIfUnsized repr.kind (length fields) → IsNamedOrder repr bias fields order
    → IsAllowed repr (length fields) order
named_allowed repr bias fields order some s = named_cases repr.reorderable repr.kind (rule_of repr bias (movable_front repr.kind fields)) fields order some s

allowed_cases : (b : Bool) (n : ℕ) (P : Type 0) (order : List ℕ) → MatchBool b (IsPermutation (source_order n) order × P) (order ≡ source_order n) → IsPermutation (source_order n) order
allowed_cases true n P order a = a.0
allowed_cases false n P order is = subst (λ o. IsPermutation (source_order n) o) (sym is) (IsPermutation-refl (source_order n))

-- an allowed order has each index once
pub allowed_permutes : (repr : FieldsRepr) (n : ℕ) (order : List ℕ) → IsAllowed repr n order → IsPermutation (source_order n) order
allowed_permutes repr n order a = allowed_cases repr.reorderable n (KeepsTail repr.kind n order) order a

-- ---- no allowed order is smaller

abbrev pub repr_of : StructKind → Option ℕ → ℕ → Bool → FieldsRepr
repr_of kind pack align reorderable = record { kind = kind; pack = pack; align = align; reorderable = reorderable }

-- where the kind's sorted order comes to one rounding, so does its size
pub tight_size : (kind : StructKind) (pack : Option ℕ) (align : ℕ) (reorderable : Bool) (bias : NicheBias) (fields : List Part) (order : List ℕ) → All IsAlignedPart fields
    → (kind ≡ MaybeUnsized → ⊥)
    → IsSortedBefore (repr_of kind pack align reorderable) bias fields order
    → size_in (repr_of kind pack align reorderable) fields order
    ≡ next_multiple_of (start_of pack kind + total fields) (2 ^ align_of (repr_of kind pack align reorderable) fields)
tight_size AlwaysSized pack align reorderable bias fields order law sized s =
    let repr : FieldsRepr = repr_of AlwaysSized pack align reorderable in
    let same : order ≡ s.0 = s.2 ∙ append-nil s.0 in
    let ends : end_from pack 0 (in_order fields s.0) ≡ total (in_order fields s.0) = end_from-descending (rule_of repr bias fields) fields s.0 (sorts repr bias fields s.0 law s.1) (descending_rank bias (rule_of repr bias fields)) in
    let sums : total (in_order fields s.0) ≡ total fields = total-order fields s.0 (sorted_permutes (rule_of repr bias fields) fields s.0 s.1) in
    ap (λ o. size_in repr fields o) same ∙ ap (λ e. next_multiple_of e (2 ^ align_of repr fields)) (omega (arith, ends, sums))
tight_size MaybeUnsized pack align reorderable bias fields order law sized s = absurd (sized refl)
tight_size (Prefixed size prefix) pack align reorderable bias fields order law sized s =
    let repr : FieldsRepr = repr_of (Prefixed size prefix) pack align reorderable in
    let same : order ≡ s.0 = s.2 ∙ append-nil s.0 in
    let p : IsPermutation (source_order (length fields)) s.0 = sorted_permutes (rule_of repr bias fields) fields s.0 s.1 in
    ap (λ o. size_in repr fields o) same
    ∙ end_from-ascending (rule_of repr bias fields) (align_of repr fields) (start_of pack (Prefixed size prefix)) fields s.0 (sorts repr bias fields s.0 law s.1) (λ f. refl) (aligned repr fields s.0 p)
    ∙ ap (λ t. next_multiple_of (start_of pack (Prefixed size prefix) + t) (2 ^ align_of repr fields)) (total-order fields s.0 p)

split_last : (xs : List ℕ) (m : ℕ) → length xs ≡ m + 1 → xs ≡ take m xs ++ get_or xs m 0 ∷ []
split_last xs m len = sym (ap (λ n. take n xs) (sym len) ∙ take-length xs) ∙ take_more xs m 0 (omega arith)

total-push : (fs : List Part) (f : Part) → total (fs ++ f ∷ []) ≡ total fs + f.size
total-push fs f = sum_by_push (λ x. x.size) fs f

-- the end of a list whose last field follows the rest
end_from-last : (pack : Option ℕ) (fields : List Part) (front : List ℕ) (last : ℕ)
    → end_from pack 0 (in_order fields (front ++ last ∷ [])) ≡ end_from pack (end_from pack 0 (in_order fields front)) (get_or fields last no_part ∷ [])
end_from-last pack fields front last =
    ap (end_from pack 0) (map-append (λ i. get_or fields i no_part) front (last ∷ []))
    ∙ end_from-append pack 0 (in_order fields front) (get_or fields last no_part ∷ [])

total-last : (fields : List Part) (front : List ℕ) (last : ℕ) → total (in_order fields (front ++ last ∷ [])) ≡ total (in_order fields front) + (get_or fields last no_part).size
total-last fields front last = ap total (map-append (λ i. get_or fields i no_part) front (last ∷ [])) ∙ total-push (in_order fields front) (get_or fields last no_part)

-- a front with no padding, before one last field, ends first
front_least : (pack : Option ℕ) (fields : List Part) (front other : List ℕ) (last : ℕ) → IsPermutation (source_order (length fields)) (front ++ last ∷ []) → IsPermutation (source_order (length fields)) (other ++ last ∷ [])
    → end_from pack 0 (in_order fields front) ≡ total (in_order fields front)
    → end_from pack 0 (in_order fields (front ++ last ∷ [])) ≤ end_from pack 0 (in_order fields (other ++ last ∷ []))
front_least pack fields front other last p q ends =
    let sum : total (in_order fields front) ≡ total (in_order fields other)
    = omega (arith, total-order fields (front ++ last ∷ []) p, total-order fields (other ++ last ∷ []) q, total-last fields front last, total-last fields other last) in
    let above : end_from pack 0 (in_order fields front) ≤ end_from pack 0 (in_order fields other) = omega (arith, ends, sum, end_from-above pack 0 (in_order fields other)) in
    rw (end_from-last pack fields front last, end_from-last pack fields other last) (end_from-mono pack _ _ (get_or fields last no_part ∷ []) above)

unsized_least : (pack : Option ℕ) (align : ℕ) (reorderable : Bool) (bias : NicheBias) (fields : List Part) (order other : List ℕ) → All IsAlignedPart fields → 0 < length fields
    → IsSortedBefore (repr_of MaybeUnsized pack align reorderable) bias fields order
    → IsPermutation (source_order (length fields)) other → KeepsTail MaybeUnsized (length fields) other
    → end_from pack 0 (in_order fields order) ≤ end_from pack 0 (in_order fields other)
unsized_least pack align reorderable bias fields order other law some s q keeps =
    let repr : FieldsRepr = repr_of MaybeUnsized pack align reorderable in
    let last = length fields - 1 in
    let front_fields = take last fields in
    let rule = rule_of repr bias front_fields in
    let p = (sorted_allowed MaybeUnsized rule fields s.0 order some s.1 s.2).0 in
    let short : length front_fields ≡ last = omega (arith, length-take last fields) in
    let inside : All (λ i. i < last) s.0 = within_order last s.0 (subst (λ n. IsPermutation (source_order n) s.0) short (sorted_permutes rule front_fields s.0 s.1)) in
    let ends : end_from pack 0 (in_order front_fields s.0) ≡ total (in_order front_fields s.0)
    = end_from-descending rule front_fields s.0 (sorts repr bias front_fields s.0 (All-take IsAlignedPart last fields law) s.1) (descending_rank bias rule) in
    let whole : length other ≡ last + 1 = omega (arith, length_permutation (source_order (length fields)) other q, length-range_with_len 0 (length fields)) in
    let split : other ≡ take last other ++ last ∷ [] = split_last other last whole ∙ ap (λ x. take last other ++ x ∷ []) keeps in
    subst (λ o. end_from pack 0 (in_order fields o) ≤ end_from pack 0 (in_order fields other)) (sym s.2)
    (subst (λ o. end_from pack 0 (in_order fields (s.0 ++ last ∷ [])) ≤ end_from pack 0 (in_order fields o)) (sym split)
    (front_least pack fields s.0 (take last other) last (subst (λ o. IsPermutation (source_order (length fields)) o) s.2 p) (subst (λ o. IsPermutation (source_order (length fields)) o) split q)
    (subst (λ fs. end_from pack 0 fs ≡ total fs) (in_order-take last fields s.0 inside) ends)))

sorted_least : (kind : StructKind) (pack : Option ℕ) (align : ℕ) (reorderable : Bool) (bias : NicheBias) (fields : List Part) (order other : List ℕ) → All IsAlignedPart fields
    → IsNonEmptyIfUnsized kind (length fields) → IsSortedBefore (repr_of kind pack align reorderable) bias fields order
    → IsPermutation (source_order (length fields)) other → KeepsTail kind (length fields) other
    → size_in (repr_of kind pack align reorderable) fields order ≤ size_in (repr_of kind pack align reorderable) fields other
sorted_least AlwaysSized pack align reorderable bias fields order other law some s q keeps =
    rw (tight_size AlwaysSized pack align reorderable bias fields order law (λ e. cc) s) (size_in-above (repr_of AlwaysSized pack align reorderable) fields other q)
sorted_least MaybeUnsized pack align reorderable bias fields order other law some s q keeps =
    round_mono _ _ (align_of (repr_of MaybeUnsized pack align reorderable) fields)
    (unsized_least pack align reorderable bias fields order other law some s q keeps)
sorted_least (Prefixed size prefix) pack align reorderable bias fields order other law some s q keeps =
    rw (tight_size (Prefixed size prefix) pack align reorderable bias fields order law (λ e. cc) s) (size_in-above (repr_of (Prefixed size prefix) pack align reorderable) fields other q)

least_cases : (b : Bool) (repr : FieldsRepr) (bias : NicheBias) (fields : List Part) (order other : List ℕ) → All IsAlignedPart fields → IsNonEmptyIfUnsized repr.kind (length fields)
    → MatchBool b (IsSortedBefore repr bias fields order) (order ≡ source_order (length fields))
    → MatchBool b (IsPermutation (source_order (length fields)) other × KeepsTail repr.kind (length fields) other) (other ≡ source_order (length fields))
    → size_in repr fields order ≤ size_in repr fields other
least_cases true repr bias fields order other law some s q = sorted_least repr.kind repr.pack repr.align repr.reorderable bias fields order other law some s q.0 q.1
least_cases false repr bias fields order other law some is that = subst (λ o. size_in repr fields order ≤ size_in repr fields o) (is ∙ sym that) (omega arith)

-- the named order has the least size of all that are allowed
pub named_least : (repr : FieldsRepr) (bias : NicheBias) (fields : List Part) (order other : List ℕ) → All IsAlignedPart fields → IsNonEmptyIfUnsized repr.kind (length fields)
    → IsNamedOrder repr bias fields order → IsAllowed repr (length fields) other → size_in repr fields order ≤ size_in repr fields other
named_least repr bias fields order other law some s q = least_cases repr.reorderable repr bias fields order other law some s q

-- so where the named order is too large, each order is
pub all_too_large : (repr : FieldsRepr) (bias : NicheBias) (fields : List Part) (order : List ℕ) (bound : ℕ) → All IsAlignedPart fields → IsNonEmptyIfUnsized repr.kind (length fields)
    → IsNamedOrder repr bias fields order → bound ≤ size_in repr fields order → (other : List ℕ) → IsAllowed repr (length fields) other → bound ≤ size_in repr fields other
all_too_large repr bias fields order bound law some s over other q =
    let least : size_in repr fields order ≤ size_in repr fields other = named_least repr bias fields order other law some s q in
    omega arith

-- also where its end is, before rounding
pub end_too_large : (repr : FieldsRepr) (fields : List Part) (order : List ℕ) (bound : ℕ) → bound ≤ end_from repr.pack (start_of repr.pack repr.kind) (in_order fields order) → bound ≤ size_in repr fields order
end_too_large repr fields order bound over =
    let above : end_from repr.pack (start_of repr.pack repr.kind) (in_order fields order) ≤ size_in repr fields order
    = (rounded_to (end_from repr.pack (start_of repr.pack repr.kind) (in_order fields order)) (align_of repr fields)).above in
    omega arith

-- ---- alignments have their limit

pub cut_small : (pack : Option ℕ) (align : ℕ) → align ≤ max_align → cut pack align ≤ max_align
cut_small None align h = h
cut_small (Some pack) align h = omega arith

greatest_small : (pack : Option ℕ) (a : ℕ) (fields : List Part) → a ≤ max_align → All IsAlignedPart fields → greatest (λ f. cut pack f.align) a fields ≤ max_align
greatest_small pack a [] h law = h
greatest_small pack a (f ∷ fs) h law =
    let one : IsAlignedPart f = All-head IsAlignedPart f fs law in
    let small : cut pack f.align ≤ 29 = cut_small pack f.align one.aligned in
    greatest_small pack (max a (cut pack f.align)) fs (omega arith) (All-tail IsAlignedPart f fs law)

pub prefix_small : (pack : Option ℕ) (kind : StructKind) (bound : ℕ) → IsWellFormedPrefix kind bound → prefix_align pack kind ≤ max_align
prefix_small pack AlwaysSized bound h = omega arith
prefix_small pack MaybeUnsized bound h = omega arith
prefix_small pack (Prefixed size align) bound h = cut_small pack align h.1

pub align_small : (repr : FieldsRepr) (fields : List Part) (count bound : ℕ) → All IsAlignedPart fields → IsWellFormedRepr repr count bound → align_of repr fields ≤ max_align
align_small repr fields count bound law r =
    let own : repr.align ≤ 29 = r.aligned in
    let before : prefix_align repr.pack repr.kind ≤ 29 = prefix_small repr.pack repr.kind bound r.starts in
    greatest_small repr.pack (max repr.align (prefix_align repr.pack repr.kind)) fields (omega arith) law

-- ---- a free order of sized fields has no padding but at the end

tight_cases : (b : Bool) (repr : FieldsRepr) (bias : NicheBias) (fields : List Part) (order : List ℕ) → All IsAlignedPart fields → IsTrue b → (repr.kind ≡ MaybeUnsized → ⊥)
    → MatchBool b (IsSortedBefore repr bias fields order) (order ≡ source_order (length fields)) → size_in repr fields order ≡ sum_rounded repr fields
tight_cases true repr bias fields order law free sized s = tight_size repr.kind repr.pack repr.align repr.reorderable bias fields order law sized s
tight_cases false repr bias fields order law free sized s = absurd (false≢true free)

not_unsized : (kind : StructKind) → IsSized kind → kind ≡ MaybeUnsized → ⊥
not_unsized kind sized e = subst IsSized e sized

pub named_tight : (repr : FieldsRepr) (bias : NicheBias) (fields : List Part) (order : List ℕ) → All IsAlignedPart fields → IsTrue repr.reorderable → IsSized repr.kind
    → IsNamedOrder repr bias fields order → size_in repr fields order ≡ sum_rounded repr fields
named_tight repr bias fields order law free sized s = tight_cases repr.reorderable repr bias fields order law free (not_unsized repr.kind sized) s
