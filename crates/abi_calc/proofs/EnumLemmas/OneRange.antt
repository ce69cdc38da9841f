-- Some values have a least range, and one only.
use Rattle.std.proofs.Common.{◌≡◌, ◌≢◌, ℕ, zero, suc, subst, [], ◌∷◌, ◌-◌, ◌+◌, ◌<◌, ◌≤◌, List, Option, Some, None, false, nat_eq, length, get_or, arith, inl, inr, refl, sym, ap, ◌∙◌}
use Rattle.std.specs.Prelude.{◌%◌, All, map, unwrap_or}
use Rattle.std.specs.List.{AllPairs, IsDistinct}
use Rattle.std.specs.List.Sorted.{IsNonDecreasing}
use Rattle.std.specs.Cmp.{nat_cmp_total, nat_eq_equiv}
use Rattle.std.specs.Ordering.{is_lt, nat_cmp}
use Rattle.std.proofs.lemmas.List.Sorted.{All-permutation, IsNonDecreasingBy-from_sort, length_permutation, ranks_by}
use Rattle.std.proofs.lemmas.Bool.{cases_lt}
use Rattle.std.proofs.lemmas.Bool.Decides.{Decides-eqb, eqb_tells}
use Rattle.std.proofs.lemmas.Map.Keys.{IsDistinct-from_apart}
use Rattle.std.proofs.lemmas.Map.Made.{is_member-Decides, length-le_from_is_member}
use Rattle.abi_scalar.specs.declared.wrapping_range.WrappingRange.{WrappingRange}
use Rattle.abi_scalar.specs.Range.{AreWithin, IsIn, numbers_of, steps_between}
use Rattle.abi_scalar.specs.Count.{AreSoMany}
use Rattle.abi_scalar.specs.LeastRange.{IsLeastRange, IsNoWorse, IsPreferred, IsSmallestOf}
use Rattle.abi_scalar.proofs.CountLemmas.{range_counted}
use Rattle.abi_scalar.proofs.LeastLemmas.{IsBestSoFar, best_first, best_kept, best_taken, least_from_best, least_in_order}
use Rattle.abi_scalar.proofs.RangeLemmas.{between_from_in, in_from_between, steps_are}
use Rattle.abi_univariant.proofs.Layouts.SomeOrder.{some_sorted_list}
use Rattle.abi_calc.specs.Enums.Discriminants.{IsTagRange}
use Rattle.abi_calc.proofs.EnumLemmas.Discriminants.{cut_within}

-- ---- a set has one number of members

apart_eqb : (a b : ℕ) → a ≢ b → nat_eq a b ≡ false
apart_eqb a b differs = elim (eqb_tells a b) [ inl same ↦ absurd (differs same.1) | inr other ↦ other.0 ]

-- members that differ are distinct
distinct : (xs : List ℕ) → AllPairs (λ x y. x ≢ y) xs → IsDistinct nat_eq xs
distinct xs differ = IsDistinct-from_apart nat_eq xs (λ i j d h l. apart_eqb (get_or xs i d) (get_or xs j d) (differ i j d h l))

-- what one list has more than once has no fewer members than the other
no_fewer : (P : ℕ → Type 0) (few many : ℕ) → AreSoMany P few → AreSoMany P many → few ≤ many
no_fewer P few many a b =
    let le : length a.members ≤ length b.members =
    length-le_from_is_member nat_eq_equiv a.members b.members (distinct a.members a.differ)
    (λ q h. (is_member-Decides Decides-eqb b.members q).1 ((b.exact q).1 ((a.exact q).0 ((is_member-Decides Decides-eqb a.members q).0 h)))) in
    omega (arith, le, a.number, b.number)

pub one_number : (P : ℕ → Type 0) (few many : ℕ) → AreSoMany P few → AreSoMany P many → few ≡ many
one_number P few many a b = omega (arith, no_fewer P few many a b, no_fewer P many few b a)

-- ---- the best range is one

-- the range from one end to the other
abbrev from_to : (start end : ℕ) → WrappingRange
from_to start end = record { start = start; end = end }

-- how many numbers a range has, as far as the other is concerned
record IsTold (width : ℕ) (range other : WrappingRange) : Type 0 where
  fewer : steps_between width range.start range.end ≤ steps_between width other.start other.end
  tied : steps_between width range.start range.end ≡ steps_between width other.start other.end → IsPreferred range other

tag_distinguishes : (width : ℕ) (range other : WrappingRange) → AreWithin width range → AreWithin width other → IsNoWorse width range other → IsTold width range other
tag_distinguishes width range other w v h =
    let few = one_number (IsIn width range) h.0 (steps_between width range.start range.end + 1) h.2 (range_counted width range w) in
    let many = one_number (IsIn width other) h.1 (steps_between width other.start other.end + 1) h.3 (range_counted width other v) in
    record {
      fewer = elim h.4 [ inl less ↦ omega (arith, few, many, less) | inr tie ↦ omega (arith, few, many, tie.0) ];
      tied = λ e. elim h.4 [ inl less ↦ absurd (omega (arith, few, many, less, e)) | inr tie ↦ tie.1 ];
    }

-- a number in a range that doesn't wrap round lies between its ends
plain_in : (width : ℕ) (range : WrappingRange) (n : ℕ) → AreWithin width range → range.start ≤ range.end → IsIn width range n → (range.start ≤ n) × (n ≤ range.end)
plain_in width range n w plain i = elim (between_from_in width range n w i) [
  | inl z ↦ (z.1, z.2)
  | inr z ↦ elim z [ inl u ↦ absurd (omega (arith, plain, u.0)) | inr u ↦ absurd (omega (arith, plain, u.0)) ]
]

-- of two ranges that don't wrap round, with as many numbers, the one that begins first has values that all lie in less
plain_one : (width : ℕ) (values : List ℕ) (a b : WrappingRange) → 0 < length values → IsLeastRange width values a → IsLeastRange width values b
    → a.start ≤ a.end → b.start ≤ b.end → a.start < b.start → a.end < b.end → ⊥
plain_one width values a b some s t p q first last =
    let value = get_or values 0 0 in
    let there = plain_in width a value s.within p (s.holds 0 0 some) in
    let here = plain_in width b value t.within q (t.holds 0 0 some) in
    let meet : WrappingRange = from_to b.start a.end in
    let within : AreWithin width meet = (t.within.0, s.within.1) in
    let holds : All (IsIn width meet) values = λ i d l.
    let x = plain_in width a (get_or values i d) s.within p (s.holds i d l) in
    let y = plain_in width b (get_or values i d) t.within q (t.holds i d l) in
    in_from_between width meet (get_or values i d) within (omega (arith, x.1, s.within.1)) (inl (omega (arith, x, y), y.0, x.1)) in
    let worse = tag_distinguishes width a meet s.within within (s.least meet within holds) in
    let d = steps_are width a.start a.end s.within.0 s.within.1 in
    let e = steps_are width b.start a.end t.within.0 s.within.1 in
    elim d.is [
      | inl x ↦ elim e.is [
        | inl y ↦ omega (arith, x, y, worse.fewer, first)
        | inr y ↦ omega (arith, y.0, here, there)
      ]
      | inr x ↦ omega (arith, x.0, p)
    ]

-- two least ranges of some values have the same ends
same_ends : (width : ℕ) (values : List ℕ) (a b : WrappingRange) → 0 < length values → IsLeastRange width values a → IsLeastRange width values b → (a.start ≡ b.start) × (a.end ≡ b.end)
same_ends width values a b some s t =
    let there = tag_distinguishes width a b s.within t.within (s.least b t.within t.holds) in
    let here = tag_distinguishes width b a t.within s.within (t.least a s.within s.holds) in
    let as_far : steps_between width a.start a.end ≡ steps_between width b.start b.end = omega (arith, there.fewer, here.fewer) in
    let d = steps_are width a.start a.end s.within.0 s.within.1 in
    let e = steps_are width b.start b.end t.within.0 t.within.1 in
    elim d.is [
      | inl x ↦ elim e.is [
        | inl y ↦ elim (cases_lt a.start b.start) [
          | inl less ↦ absurd (plain_one width values a b some s t x.0 y.0 less (omega (arith, x, y, as_far, less)))
          | inr more ↦ elim (cases_lt b.start a.start) [
            | inl less ↦ absurd (plain_one width values b a some t s y.0 x.0 less (omega (arith, x, y, as_far, less)))
            | inr none ↦ (omega (arith, more, none), omega (arith, x, y, as_far, more, none))
          ]
        ]
        | inr y ↦ elim (here.tied (omega (arith, as_far))) [ inl plain ↦ absurd (omega (arith, plain, y.0)) | inr wraps ↦ absurd (omega (arith, wraps.0, x.0)) ]
      ]
      | inr x ↦ elim e.is [
        | inl y ↦ elim (there.tied as_far) [ inl plain ↦ absurd (omega (arith, plain, x.0)) | inr wraps ↦ absurd (omega (arith, wraps.0, y.0)) ]
        | inr y ↦ elim (there.tied as_far) [
          | inl plain ↦ absurd (omega (arith, plain, x.0))
          | inr wraps ↦ elim (here.tied (omega (arith, as_far))) [
            | inl plain ↦ absurd (omega (arith, plain, y.0))
            | inr also ↦ (omega (arith, x, y, as_far, wraps.1, also.1), omega (arith, wraps.1, also.1))
          ]
        ]
      ]
    ]

-- two least ranges of some values are one
pub one_least : (width : ℕ) (values : List ℕ) (a b : WrappingRange) → 0 < length values → IsLeastRange width values a → IsLeastRange width values b → a ≡ b
one_least width values a b some s t =
    let same = same_ends width values a b some s t in
    λ i. record { start = same.0 i; end = same.1 i }

-- the least range of the values is one, and there is none only where they are none
pub one_smallest : (width : ℕ) (values : List ℕ) (found other : Option WrappingRange) → IsSmallestOf width values found → IsSmallestOf width values other → found ≡ other
one_smallest width values None None h k = refl
one_smallest width values None (Some b) h k = absurd (omega (arith, k.0, ap length h))
one_smallest width values (Some a) None h k = absurd (omega (arith, h.0, ap length k))
one_smallest width values (Some a) (Some b) h k = ap (λ r. Some r) (one_least width values a b h.0 h.1 k.1)

-- a tag has one range
pub one_tag_range : (width : ℕ) (values : List ℕ) (range other : WrappingRange) → IsTagRange width values range → IsTagRange width values other → range ≡ other
one_tag_range width values range other h k =
    let same : h.0 ≡ k.0 = one_smallest width (map (λ v. v % numbers_of width) values) h.0 k.0 h.1 k.1 in
    h.2 ∙ ap (λ found. unwrap_or found (from_to 0 0)) same ∙ sym k.2

-- ---- there is a best range

-- the best range that is known from the gaps among the first k values
abbrev HasBest : (all : ℕ) (xs : List ℕ) (k : ℕ) → Type 0
HasBest all xs k = (range : WrappingRange) × (fewest : ℕ) × IsBestSoFar all xs k range.start range.end fewest

module _ (all : ℕ) (xs : List ℕ) (sorted : IsNonDecreasing xs) (some : 0 < length xs) (below : All (λ v. v < all) xs) where
  best_of_one : HasBest all xs 1
  best_of_one =
      let start = get_or xs 0 0 in
      let end = get_or xs (length xs - 1) 0 in
      let order : start ≤ end = sorted 0 (length xs - 1) 0 (omega arith) (omega (arith, some)) in
      (from_to start end, end - start, best_first all xs start end (end - start) (refl, refl, omega (arith, order)))

  best_of_more : (k : ℕ) → 1 ≤ k → k < length xs → HasBest all xs k → HasBest all xs (k + 1)
  best_of_more k low high best =
      let range = best.0 in
      let fewest = best.1 in
      let end = get_or xs (k - 1) 0 in
      let start = get_or xs k 0 in
      let small : start < all = below k 0 high in
      elim (cases_lt end start) [
        | inl gap ↦ elim (cases_lt (end + all - start) fewest) [
          | inl shorter ↦ (
            from_to start end,
            end + all - start,
            best_taken all xs k range.start range.end fewest start end (end + all - start) low high best.2 refl refl gap (omega (arith, small)) shorter,
          )
          | inr longer ↦ (range, fewest, best_kept all xs k range.start range.end fewest sorted low high best.2 (λ up. omega (arith, longer, small)))
        ]
        | inr none ↦ (range, fewest, best_kept all xs k range.start range.end fewest sorted low high best.2 (λ up. absurd (omega (arith, up, none))))
      ]

  best_of_all : (m k : ℕ) → k ≡ suc m → k ≤ length xs → HasBest all xs k
  best_of_all zero k e h = subst (HasBest all xs) (sym e) best_of_one
  best_of_all (suc m) k e h =
      let before : HasBest all xs (k - 1) = best_of_all m (k - 1) (omega arith) (omega arith) in
      subst (HasBest all xs) (omega arith) (best_of_more (k - 1) (omega arith) (omega arith) before)

-- ascending values have a least range
some_least_sorted : (width : ℕ) (xs : List ℕ) → IsNonDecreasing xs → 0 < length xs → All (λ v. v < numbers_of width) xs → (range : WrappingRange) × IsLeastRange width xs range
some_least_sorted width xs sorted some below =
    let best = best_of_all (numbers_of width) xs sorted some below (length xs - 1) (length xs) (omega (arith, some)) (omega arith) in
    (best.0, least_from_best width xs best.0 best.1 sorted some below best.2)

-- some values have a least range
pub some_least : (width : ℕ) (values : List ℕ) → 0 < length values → All (λ v. v < numbers_of width) values → (range : WrappingRange) × IsLeastRange width values range
some_least width values some below =
    let found = some_sorted_list (λ x y. is_lt (nat_cmp x y)) (ranks_by nat_cmp_total (λ x. x)) values in
    let xs = found.0 in
    let long = length_permutation values xs found.1 in
    let least = some_least_sorted width xs (IsNonDecreasingBy-from_sort (λ x. x) xs found.2) (omega (arith, some, long)) (All-permutation (λ v. v < numbers_of width) values xs found.1 below) in
    (least.0, least_in_order width values xs least.0 found.1 least.1)

-- there is a least range of the values, or nothing where there are none
pub some_smallest : (width : ℕ) (values : List ℕ) → All (λ v. v < numbers_of width) values → (found : Option WrappingRange) × IsSmallestOf width values found
some_smallest width [] below = (None, refl)
some_smallest width (v ∷ values) below = let least = some_least width (v ∷ values) (omega arith) below in (Some least.0, (omega arith, least.1))

-- a tag has a range
pub some_tag_range : (width : ℕ) (values : List ℕ) → (range : WrappingRange) × IsTagRange width values range
some_tag_range width values =
    let found = some_smallest width (map (λ v. v % numbers_of width) values) (cut_within width values) in
    (unwrap_or found.0 (from_to 0 0), (found.0, found.1, refl))
