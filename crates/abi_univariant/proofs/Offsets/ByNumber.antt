-- Fields by their indices, and by the numbers of these.
use Rattle.std.proofs.Common.{◌≡◌, ℕ, ◌+◌, ◌<◌, ◌≤◌, Bool, true, false, List, [], ◌∷◌, ◌++◌, ◌∙◌, map, length, refl, sym, ap, ap₂, subst, arith}
use Rattle.std.specs.Prelude.{cond, filter, not, ◌&&◌, All, IsPermutation}
use Rattle.std.specs.Cmp.{IsStrictWeakOrder, both_ways}
use Rattle.std.specs.List.Sorted.{IsSortedBy, IsStableBy, ties}
use Rattle.std.proofs.Math.Path.{fun_ext}
use Rattle.std.proofs.lemmas.List.{get_or-map, length-map, map-append}
use Rattle.std.proofs.lemmas.List.Elements.{All-head, All-tail, All-cons, All-nil, filter_passes}
use Rattle.std.proofs.lemmas.List.FromFn.{length-range_with_len, get_or-range_with_len}
use Rattle.std.proofs.lemmas.List.Sorted.{All-permutation}
use Rattle.abi_univariant.specs.Placement.{source_order}
use Rattle.abi_univariant.proofs.Offsets.Steps.{source_more}

-- one more field in source order
pub numbers_more : {F : Type 0} (number : F → ℕ) (xs : List F) (n : ℕ) (x : F) → map number xs ≡ source_order n → number x ≡ n → map number (xs ++ x ∷ []) ≡ source_order (n + 1)
numbers_more number xs n x same is =
    map-append number xs (x ∷ []) ∙ ap₂ (λ ns i. ns ++ i ∷ []) same is ∙ sym (source_more n)

-- the indices of so many fields are numbers below their count
pub source_within : (n most : ℕ) → n ≤ most + 1 → All (λ i. i ≤ most) (source_order n)
source_within n most few k d lt =
    let short : k < n = omega (arith, lt, length-range_with_len 0 n) in
    omega (arith, get_or-range_with_len 0 n k d short, short, few)

-- as many fields as numbers
pub as_many : {F : Type 0} (number : F → ℕ) (xs : List F) (n : ℕ) → map number xs ≡ source_order n → length xs ≡ n
as_many number xs n same = sym (length-map xs number) ∙ ap length same ∙ length-range_with_len 0 n

-- indices told by their numbers are the same again
pub named_again : {F : Type 0} (at : ℕ → F) (number : F → ℕ) (most : ℕ) → ((x : F) → number x ≤ most → at (number x) ≡ x) → (order : List F) → All (λ i. i ≤ most) (map number order) → map at (map number order) ≡ order
named_again at number most law [] within = refl
named_again at number most law (x ∷ xs) within =
    ap₂ (λ y ys. y ∷ ys) (law x (All-head (λ i. i ≤ most) (number x) (map number xs) within)) (named_again at number most law xs (All-tail (λ i. i ≤ most) (number x) (map number xs) within))

-- ---- a sort by what the numbers are sorted by

-- fields sorted by their numbers have sorted numbers
pub numbers_sorted : {F : Type 0} (number : F → ℕ) (lt : ℕ → ℕ → Bool) (xs : List F) → IsSortedBy (λ x y. lt (number x) (number y)) xs → IsSortedBy lt (map number xs)
numbers_sorted number lt [] up k d low high = absurd (omega arith)
numbers_sorted number lt (x ∷ xs) up k d low high =
    let long : length (map number (x ∷ xs)) ≡ length (x ∷ xs) = length-map (x ∷ xs) number in
    rw (get_or-map number (x ∷ xs) (k + 1) x d (omega (arith, long, high)), get_or-map number (x ∷ xs) k x d (omega (arith, long, high))) (up k x low (omega (arith, long, high)))

-- a test of numbers picks those of the fields that it picks by their numbers
picked_numbers : {F : Type 0} (number : F → ℕ) (p : ℕ → Bool) (xs : List F) → filter p (map number xs) ≡ map number (filter (λ x. p (number x)) xs)
picked_numbers number p [] = refl
picked_numbers number p (x ∷ xs) = ap (λ ns. cond (p (number x)) (number x ∷ ns) ns) (picked_numbers number p xs) ∙ either (p (number x))
  where
    either : (b : Bool) → cond b (number x ∷ map number (filter (λ y. p (number y)) xs)) (map number (filter (λ y. p (number y)) xs))
        ≡ map number (cond b (x ∷ filter (λ y. p (number y)) xs) (filter (λ y. p (number y)) xs))
    either true = refl
    either false = refl

-- a test that picks none is false of each
none_if : {F : Type 0} (p : F → Bool) (x : F) (xs : List F) (b : Bool) → (filter p xs ≡ [] → All (λ y. p y ≡ false) xs) → p x ≡ b → cond b (x ∷ filter p xs) (filter p xs) ≡ [] → All (λ y. p y ≡ false) (x ∷ xs)
none_if p x xs true later is e = absurd (cc)
none_if p x xs false later is e = All-cons (λ y. p y ≡ false) x xs is (later e)

none_picked : {F : Type 0} (p : F → Bool) (xs : List F) → filter p xs ≡ [] → All (λ y. p y ≡ false) xs
none_picked p [] e = All-nil (λ y. p y ≡ false)
none_picked p (x ∷ xs) e = none_if p x xs (p x) (none_picked p xs) refl e

picks_none : {F : Type 0} (p : F → Bool) (xs : List F) → All (λ y. p y ≡ false) xs → filter p xs ≡ []
picks_none p [] none = refl
picks_none p (x ∷ xs) none =
    ap (λ b. cond b (x ∷ filter p xs) (filter p xs)) (All-head (λ y. p y ≡ false) x xs none) ∙ picks_none p xs (All-tail (λ y. p y ≡ false) x xs none)

-- of two that tie, one ties with what the other ties with
module _ {X : Type 0} (lt : X → X → Bool) (o : IsStrictWeakOrder lt) where
  neither : (a b : Bool) → not a && not b ≡ true → (a ≡ false) × (b ≡ false)
  neither true b h = absurd (cc)
  neither false true h = absurd (cc)
  neither false false h = (refl, refl)

  tied_along : (x y z : X) → ties lt x y ≡ true → ties lt x z ≡ true → ties lt y z ≡ true
  tied_along x y z first other =
      let one = neither (lt x y) (lt y x) first in
      let two = neither (lt x z) (lt z x) other in
      rw (o.chain y x z one.1 two.0, o.chain z x y two.1 one.0) refl

  tied_back : (x y : X) → ties lt x y ≡ true → ties lt y x ≡ true
  tied_back x y h = let one = neither (lt x y) (lt y x) h in rw (one.0, one.1) refl

  tie_alike : (x y : X) → ties lt x y ≡ true → (z : X) → ties lt x z ≡ ties lt y z
  tie_alike x y h z = both_ways (ties lt x z) (ties lt y z) (tied_along x y z h) (tied_along y x z (tied_back x y h))

module _ {F : Type 0} (number : F → ℕ) (lt : ℕ → ℕ → Bool) (o : IsStrictWeakOrder lt) (xs ys : List F) (p : IsPermutation xs ys)
    (stable : IsStableBy (λ x y. lt (number x) (number y)) xs ys) where
  -- one that ties with the number, or none: then none in the other list
  stable_cases : (n : ℕ) (found : List F) → filter (λ x. ties lt n (number x)) xs ≡ found → filter (λ x. ties lt n (number x)) ys ≡ filter (λ x. ties lt n (number x)) xs
  stable_cases n [] e =
      picks_none (λ x. ties lt n (number x)) ys (All-permutation (λ x. ties lt n (number x) ≡ false) xs ys p (none_picked (λ x. ties lt n (number x)) xs e)) ∙ sym e
  stable_cases n (a ∷ rest) e =
      let one : ties lt n (number a) ≡ true
      = All-head (λ x. ties lt n (number x) ≡ true) a rest (subst (All (λ x. ties lt n (number x) ≡ true)) e (filter_passes (λ x. ties lt n (number x)) xs)) in
      let same : (λ (x : F). ties lt n (number x)) ≡ (λ (x : F). ties lt (number a) (number x)) = fun_ext (λ x. tie_alike lt o n (number a) one (number x)) in
      ap (λ t. filter t ys) same ∙ stable a ∙ sym (ap (λ t. filter t xs) same)

  -- fields that keep their order where they tie by their numbers have numbers that do
  pub numbers_stable : IsStableBy lt (map number xs) (map number ys)
  numbers_stable n =
      picked_numbers number (ties lt n) ys ∙ ap (map number) (stable_cases n (filter (λ x. ties lt n (number x)) xs) refl) ∙ sym (picked_numbers number (ties lt n) xs)
