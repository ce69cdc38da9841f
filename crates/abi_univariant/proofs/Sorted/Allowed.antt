-- Whether a list of indices is an order of so many fields can be told.
use Rattle.std.proofs.Common.{◌≡◌, ℕ, zero, suc, ◌+◌, ◌-◌, ◌<◌, List, [], ◌∷◌, ◌++◌, Bool, true, false, length, get_or, remove, refl, sym, ap, ◌∙◌, subst, arith, inl, inr}
use Rattle.std.specs.Prelude.{◌⊎◌, ◌==◌, All, IsPermutation, slice_index}
use Rattle.std.proofs.lemmas.Bool.{eqb-true, eqb-false}
use Rattle.std.proofs.lemmas.List.Elements.{All-nil, All-cons}
use Rattle.std.proofs.lemmas.List.FromFn.{length-range_with_len, get_or-range_with_len}
use Rattle.std.proofs.lemmas.List.Sorted.{All-permutation, IsPermutation-cons, IsPermutation-refl, IsPermutation-remove, IsPermutation-sym, IsPermutation-to_front, IsPermutation-trans, length_permutation}
use Rattle.abi_base.specs.declared.struct_kind.StructKind.{StructKind}
use Rattle.abi_base.specs.declared.struct_kind.StructKind.TheVariants.{AlwaysSized, MaybeUnsized, Prefixed}
use Rattle.abi_univariant.specs.Placement.{KeepsTail, source_order}
use Rattle.abi_univariant.proofs.Offsets.Steps.{source_more}

-- the list has the number
abbrev Has : List ℕ → ℕ → Type 0
Has xs x = (i : ℕ) × (i < length xs) × ((d : ℕ) → get_or xs i d ≡ x)

abbrev IsNone : List ℕ → ℕ → Type 0
IsNone xs x = All (λ y. y ≡ x → ⊥) xs

found_if : (x y : ℕ) (ys : List ℕ) (b : Bool) → (y == x) ≡ b → Has ys x ⊎ IsNone ys x → Has (y ∷ ys) x ⊎ IsNone (y ∷ ys) x
found_if x y ys true e later = inl (0, omega arith, λ d. eqb-true y x e)
found_if x y ys false e (inl h) = inl (suc h.0, omega (arith, h.1), h.2)
found_if x y ys false e (inr none) = inr (All-cons (λ z. z ≡ x → ⊥) y ys (eqb-false y x e) none)

found : (x : ℕ) (xs : List ℕ) → Has xs x ⊎ IsNone xs x
found x [] = inr (All-nil (λ z. z ≡ x → ⊥))
found x (y ∷ ys) = found_if x y ys (y == x) refl (found x ys)

-- each number below n is there, or one isn't
more_found : (n : ℕ) (xs : List ℕ) → ((j : ℕ) → j < n → Has xs j) → Has xs n → (j : ℕ) → j < suc n → Has xs j
more_found n xs all last j lt = by (j == n) refl
  where
    by : (b : Bool) → (j == n) ≡ b → Has xs j
    by true e = subst (Has xs) (sym (eqb-true j n e)) last
    by false e = let other = eqb-false j n e in all j (omega (arith, lt, other))

all_found : (n : ℕ) (xs : List ℕ) → ((j : ℕ) → j < n → Has xs j) ⊎ ((j : ℕ) × (j < n) × IsNone xs j)
all_found zero xs = inl (λ j lt. absurd (omega arith))
all_found (suc n) xs = by (all_found n xs) (found n xs)
  where
    by : ((j : ℕ) → j < n → Has xs j) ⊎ ((j : ℕ) × (j < n) × IsNone xs j) → Has xs n ⊎ IsNone xs n → ((j : ℕ) → j < suc n → Has xs j) ⊎ ((j : ℕ) × (j < suc n) × IsNone xs j)
    by (inr (j, lt, none)) last = inr (j, omega arith, none)
    by (inl all) (inr none) = inr (n, omega arith, none)
    by (inl all) (inl last) = inl (more_found n xs all last)

-- what isn't the one that is removed stays
stays : (xs : List ℕ) (i n j : ℕ) → i < length xs → get_or xs i n ≡ n → (n ≡ j → ⊥) → Has xs j → Has (remove xs i) j
stays xs i n j lt e other h = by (found j (remove xs i))
  where
    by : Has (remove xs i) j ⊎ IsNone (remove xs i) j → Has (remove xs i) j
    by (inl there) = there
    by (inr none) =
        let front : IsPermutation (n ∷ remove xs i) xs = IsPermutation-sym xs (n ∷ remove xs i) (IsPermutation-remove xs i n lt (sym e)) in
        let all = All-permutation (λ z. z ≡ j → ⊥) (n ∷ remove xs i) xs front (All-cons (λ z. z ≡ j → ⊥) n (remove xs i) other none) in
        absurd (all h.0 0 h.1 (h.2 0))

-- so many numbers that have each one below their count are these
from_found : (n : ℕ) (xs : List ℕ) → length xs ≡ n → ((j : ℕ) → j < n → Has xs j) → IsPermutation (source_order n) xs
from_found zero [] long all = IsPermutation-refl []
from_found zero (x ∷ xs) long all = absurd (omega arith)
from_found (suc n) xs long all =
    let last = all n (omega arith) in
    let gone : IsPermutation xs (n ∷ remove xs last.0) = IsPermutation-remove xs last.0 n last.1 (sym (last.2 n)) in
    let short : length (remove xs last.0) ≡ n = omega (arith, length_permutation xs (n ∷ remove xs last.0) gone, long) in
    let rest = from_found n (remove xs last.0) short (λ j lt. stays xs last.0 n j last.1 (last.2 n) (λ same. omega arith) (all j (omega arith))) in
    let whole = IsPermutation-trans (source_order n ++ n ∷ []) (n ∷ source_order n) xs (IsPermutation-to_front (source_order n) n)
    (IsPermutation-trans (n ∷ source_order n) (n ∷ remove xs last.0) xs (IsPermutation-cons n (source_order n) (remove xs last.0) rest) (IsPermutation-sym xs (n ∷ remove xs last.0) gone)) in
    let one : n + 1 ≡ suc n = omega arith in
    subst (λ ns. IsPermutation ns xs) (sym (source_more n) ∙ ap source_order one) whole

pub permutes_or_not : (n : ℕ) (xs : List ℕ) → IsPermutation (source_order n) xs ⊎ (IsPermutation (source_order n) xs → ⊥)
permutes_or_not n xs = by (length xs == n) refl (all_found n xs)
  where
    by : (b : Bool) → (length xs == n) ≡ b → ((j : ℕ) → j < n → Has xs j) ⊎ ((j : ℕ) × (j < n) × IsNone xs j) → IsPermutation (source_order n) xs ⊎ (IsPermutation (source_order n) xs → ⊥)
    by false e all = inr (λ p. eqb-false (length xs) n e (length_permutation (source_order n) xs p ∙ length-range_with_len 0 n))
    by true e (inl all) = inl (from_found n xs (eqb-true (length xs) n e) all)
    by true e (inr (j, lt, none)) =
        inr (λ p.
        let back = All-permutation (λ z. z ≡ j → ⊥) xs (source_order n) (IsPermutation-sym (source_order n) xs p) none in
        back j 0 (omega (arith, length-range_with_len 0 n)) (get_or-range_with_len 0 n j 0 lt ∙ omega arith))

-- and whether it keeps the tail
pub keeps_or_not : (kind : StructKind) (count : ℕ) (order : List ℕ) → KeepsTail kind count order ⊎ (KeepsTail kind count order → ⊥)
keeps_or_not AlwaysSized count order = inl tt
keeps_or_not MaybeUnsized count order = by (slice_index order (count - 1) == count - 1) refl
  where
    by : (b : Bool) → (slice_index order (count - 1) == count - 1) ≡ b → (slice_index order (count - 1) ≡ count - 1) ⊎ (slice_index order (count - 1) ≡ count - 1 → ⊥)
    by true e = inl (eqb-true (slice_index order (count - 1)) (count - 1) e)
    by false e = inr (eqb-false (slice_index order (count - 1)) (count - 1) e)
keeps_or_not (Prefixed size align) count order = inl tt
