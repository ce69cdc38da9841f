-- The least and the greatest of some values, and when the range from one to the other is the least.
use Rattle.std.proofs.Common.{◌≡◌, ℕ, ◌+◌, ◌-◌, ◌*◌, ◌%◌, ◌^◌, ◌<◌, ◌≤◌, ◌⊎◌, ◌++◌, inl, inr, arith, ap, ap₂, map, refl, subst, List, [], ◌∷◌, length, get_or, min, max}
use Rattle.std.proofs.Math.Nat.{mod-eq_of_lt}
use Rattle.std.proofs.Math.Pow.{pow_mono}
use Rattle.std.proofs.lemmas.List.{map-append}
use Rattle.std.specs.List.{All, Contains}
use Rattle.std.specs.List.Sorted.{IsNonDecreasing}
use Rattle.std.proofs.lemmas.Bool.{cases_lt}
use Rattle.std.proofs.lemmas.List.Elements.{All-append, All-cons, All-contains, All-head, All-nil, All-tail, Contains-append_left, Contains-append_right, Contains-get_or}
use Rattle.abi_scalar.specs.declared.wrapping_range.WrappingRange.{WrappingRange}
use Rattle.abi_scalar.specs.Range.{numbers_of, IsIn, steps_between}
use Rattle.abi_scalar.specs.LeastRange.{HaveLeastAndGreatest, IsLeastRange}
use Rattle.abi_scalar.proofs.RangeLemmas.{steps_are, in_from_between}
use Rattle.abi_scalar.proofs.LeastLemmas.{best_first, best_kept, least_from_best}

-- Two of the values so far, between which all of them lie; where there are none yet, every number that may come lies beyond both.
pub record AreEnds (xs : List ℕ) (least greatest : ℕ) : Type 0 where
  pub low : ((xs ≡ []) × (least ≡ 2 ^ 64 - 1)) ⊎ Contains xs least
  pub high : ((xs ≡ []) × (greatest ≡ 0)) ⊎ Contains xs greatest
  pub between : All (λ v. (least ≤ v) × (v ≤ greatest)) xs

pub ends_of_none : AreEnds [] (2 ^ 64 - 1) 0
ends_of_none = record {
  low = inl (refl, refl);
  high = inl (refl, refl);
  between = All-nil (λ v. (2 ^ 64 - 1 ≤ v) × (v ≤ 0));
}

-- one more value
pub ends_next : (xs : List ℕ) (least greatest v : ℕ) → v < 2 ^ 64 → AreEnds xs least greatest
    → AreEnds (xs ++ v ∷ []) (min least v) (max greatest v)
ends_next xs least greatest v narrow h =
    let all = xs ++ v ∷ [] in
    let here : Contains all v = Contains-append_right xs (v ∷ []) v (Contains-get_or (v ∷ []) 0 0 (omega arith)) in
    let Q : ℕ → Type 0 = λ x. (min least v ≤ x) × (x ≤ max greatest v) in
    record {
      low = inr (elim h.low [
        | inl none ↦ let e : v ≡ min least v = omega (arith, none.1, narrow) in subst (Contains all) e here
        | inr in_xs ↦ elim (cases_lt v least) [
          | inl l ↦ let e : v ≡ min least v = omega (arith, l) in subst (Contains all) e here
          | inr g ↦ let e : least ≡ min least v = omega (arith, g) in subst (Contains all) e (Contains-append_left xs (v ∷ []) least in_xs)
        ]
      ]);
      high = inr (elim h.high [
        | inl none ↦ let e : v ≡ max greatest v = omega (arith, none.1) in subst (Contains all) e here
        | inr in_xs ↦ elim (cases_lt greatest v) [
          | inl l ↦ let e : v ≡ max greatest v = omega (arith, l) in subst (Contains all) e here
          | inr g ↦ let e : greatest ≡ max greatest v = omega (arith, g) in subst (Contains all) e (Contains-append_left xs (v ∷ []) greatest in_xs)
        ]
      ]);
      between = All-append Q xs (v ∷ []) (λ i d l. let b = h.between i d l in (omega (arith, b.0), omega (arith, b.1)))
          (All-cons Q v [] (omega arith, omega arith) (All-nil Q));
    }

-- the ends of all of them
pub ends_of_all : (xs : List ℕ) (least greatest : ℕ) → AreEnds xs least greatest → HaveLeastAndGreatest xs least greatest
ends_of_all xs least greatest h = record {
  low = λ some. elim h.low [
    | inl none ↦ absurd (omega (arith, ap length none.0, some))
    | inr in_xs ↦ in_xs
  ];
  high = λ some. elim h.high [
    | inl none ↦ absurd (omega (arith, ap length none.0, some))
    | inr in_xs ↦ in_xs
  ];
  between = h.between;
}

-- they ascend
pub ends_ascend : (xs : List ℕ) (least greatest : ℕ) → 0 < length xs → HaveLeastAndGreatest xs least greatest → least ≤ greatest
ends_ascend xs least greatest some h =
    (All-contains (λ v. (least ≤ v) × (v ≤ greatest)) xs least h.between (h.low some)).1

-- two numbers that ascend
pair_ascends : (a b : ℕ) → a ≤ b → IsNonDecreasing (a ∷ b ∷ [])
pair_ascends a b h i j d l m =
    let at : ℕ → ℕ = λ x. get_or (a ∷ b ∷ []) x d in
    elim (cases_lt i j) [
      | inl before ↦
          let first : i ≡ 0 = omega (arith, before, m) in
          let second : j ≡ 1 = omega (arith, before, m) in
          omega (arith, ap at first, ap at second, h)
      | inr same ↦
          let e : i ≡ j = omega (arith, l, same) in
          omega (arith, ap at e)
    ]

-- the range between two numbers is the least that holds both, where the way back is no shorter
ends_alone : (width : ℕ) (range : WrappingRange) → range.start < numbers_of width → range.end < numbers_of width
    → range.start ≤ range.end → range.end ≤ range.start + steps_between width range.end range.start
    → IsLeastRange width (range.start ∷ range.end ∷ []) range
ends_alone width range s e order back =
    let all = numbers_of width in
    let ends = range.start ∷ range.end ∷ [] in
    let fewest = range.end - range.start in
    let sorted = pair_ascends range.start range.end order in
    let d = steps_are width range.end range.start e s in
    let whole = best_first all ends range.start range.end fewest (refl, refl, omega (arith, order)) in
    let P : ℕ → Type 0 = λ v. v < all in
    least_from_best width ends range fewest sorted (omega arith) (All-cons P range.start (range.end ∷ []) s (All-cons P range.end [] e (All-nil P)))
    (best_kept all ends 1 range.start range.end fewest sorted (omega arith) (omega arith) whole
    (λ up. elim d.is [ inl a ↦ absurd (omega (arith, a, up)) | inr a ↦ omega (arith, a, back, order) ]))

-- and the least that holds other values between them too
pub least_of_ends : (width : ℕ) (xs : List ℕ) (range : WrappingRange) → All (λ v. v < numbers_of width) xs
    → Contains xs range.start → Contains xs range.end → range.start ≤ range.end → All (λ v. (range.start ≤ v) × (v ≤ range.end)) xs
    → range.end ≤ range.start + steps_between width range.end range.start → IsLeastRange width xs range
least_of_ends width xs range below first last order between back =
    let P : ℕ → Type 0 = λ v. v < numbers_of width in
    let h = ends_alone width range (All-contains P xs range.start below first) (All-contains P xs range.end below last) order back in
    record {
      within = h.within;
      holds = λ i d l. in_from_between width range (get_or xs i d) h.within (below i d l) (inl (order, (between i d l).0, (between i d l).1));
      least = λ other w holds.
          let Q : ℕ → Type 0 = λ n. IsIn width other n in
          h.least other w (All-cons Q range.start (range.end ∷ []) (All-contains Q xs range.start holds first)
          (All-cons Q range.end [] (All-contains Q xs range.end holds last) (All-nil Q)));
    }

-- values of at most 64 bits are their lower 64 bits
pub low_all : (xs : List ℕ) → All (λ v. v < 2 ^ 64) xs → map (λ v. v % 2 ^ 64) xs ≡ xs
low_all [] within = refl
low_all (x ∷ xs) within =
    ap₂ (λ y ys. y ∷ ys) (mod-eq_of_lt (All-head (λ v. v < 2 ^ 64) x xs within)) (low_all xs (All-tail (λ v. v < 2 ^ 64) x xs within))

-- one more of them
pub low_more : (xs : List ℕ) (v : ℕ) → map (λ w. w % 2 ^ 64) (xs ++ v ∷ []) ≡ map (λ w. w % 2 ^ 64) xs ++ (v % 2 ^ 64) ∷ []
low_more xs v = map-append (λ w. w % 2 ^ 64) xs (v ∷ [])

-- numbers of at most eight bytes have 64 bits
pub narrow_all : (size : ℕ) (xs : List ℕ) → size ≤ 8 → All (λ v. v < numbers_of size) xs → All (λ v. v < 2 ^ 64) xs
narrow_all size xs few within k d l = omega (arith, within k d l, pow_mono {i = 8 * size} {j = 64} (omega (arith, few)))
