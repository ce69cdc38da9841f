-- Ascending lists of numbers: finding and inserting.
use Rattle.std.proofs.Common.{◌≡◌, ℕ, zero, suc, ◌+◌, ◌<◌, ◌≤◌, ◌≢◌, ◌==◌, ◌||◌, List, [], ◌∷◌, length, Bool, true, false, get_or, arith, refl, insert, sym, inl, inr, IfOk, IfErr, Result, Ok, Err}
use Rattle.std.proofs.lemmas.Bool.{cases_lt, eq-eqb, ne_eqb}
use Rattle.std.proofs.lemmas.List.Sorted.{searched}
use Rattle.std.specs.List.Sorted.{IsBinarySearchResult}
use Rattle.std.specs.Ordering.{nat_cmp}
use Rattle.abi_index.specs.AscendingList.{IsAscendingFrom, has_number}

-- no number is below the list's least
at_least : (low : ℕ) (xs : List ℕ) → IsAscendingFrom low xs → (k : ℕ) → k < length xs → low ≤ get_or xs k 0
at_least low [] asc k h = absurd (omega (arith, h))
at_least low (x ∷ xs) asc zero h = asc.0
at_least low (x ∷ xs) asc (suc k) h = omega (arith, asc.0, at_least (x + 1) xs asc.1 k (omega (arith, h)))

rises : (low : ℕ) (xs : List ℕ) → IsAscendingFrom low xs → (i j : ℕ) → i ≤ j → j < length xs → get_or xs i 0 ≤ get_or xs j 0
rises low [] asc i j le h = absurd (omega (arith, h))
rises low (x ∷ xs) asc zero zero le h = omega arith
rises low (x ∷ xs) asc zero (suc j) le h = omega (arith, at_least (x + 1) xs asc.1 j (omega (arith, h)))
rises low (x ∷ xs) asc (suc i) zero le h = absurd (omega (arith, le))
rises low (x ∷ xs) asc (suc i) (suc j) le h = rises (x + 1) xs asc.1 i j (omega (arith, le)) (omega (arith, h))

pub has_at : (xs : List ℕ) (x i d : ℕ) → i < length xs → get_or xs i d ≡ x → has_number xs x ≡ true
has_at [] x i d h e = absurd (omega (arith, h))
has_at (y ∷ ys) x zero d h e = rw (eq-eqb x y (sym e)) refl
has_at (y ∷ ys) x (suc i) d h e = rw (has_at ys x i d (omega (arith, h)) e) (or-true (x == y))
  where
    or-true : (b : Bool) → (b || true) ≡ true
    or-true true = refl
    or-true false = refl

has_nowhere : (xs : List ℕ) (x : ℕ) → ((k : ℕ) → k < length xs → get_or xs k 0 ≢ x) → has_number xs x ≡ false
has_nowhere [] x h = refl
has_nowhere (y ∷ ys) x h =
    rw (ne_eqb x y (λ e. h 0 (omega arith) (sym e))) (has_nowhere ys x (λ k below. h (suc k) (omega (arith, below))))

ascends_with : (i low : ℕ) (xs : List ℕ) (x : ℕ) → IsAscendingFrom low xs → low ≤ x
    → ((k : ℕ) → k < i → k < length xs → get_or xs k 0 < x) → ((k : ℕ) → i ≤ k → k < length xs → x < get_or xs k 0)
    → IsAscendingFrom low (insert xs i x)
ascends_with zero low [] x asc le below above = (le, tt)
ascends_with zero low (y ∷ ys) x asc le below above = (le, (omega (arith, above 0 (omega arith) (omega arith)), asc.1))
ascends_with (suc i) low [] x asc le below above = (le, tt)
ascends_with (suc i) low (y ∷ ys) x asc le below above = (
  asc.0,
  ascends_with i (y + 1) ys x asc.1 (omega (arith, below 0 (omega arith) (omega arith)))
      (λ k h l. below (suc k) (omega (arith, h)) (omega (arith, l))) (λ k h l. above (suc k) (omega (arith, h)) (omega (arith, l))),
)

or_swap : (a b c : Bool) → (a || (b || c)) ≡ (b || (a || c))
or_swap true true c = refl
or_swap true false c = refl
or_swap false true c = refl
or_swap false false c = refl

pub inserted : (i : ℕ) (xs : List ℕ) (x k : ℕ) → has_number (insert xs i x) k ≡ (k == x || has_number xs k)
inserted zero xs x k = refl
inserted (suc i) [] x k = refl
inserted (suc i) (y ∷ ys) x k = rw (inserted i ys x k) (or_swap (k == y) (k == x) (has_number ys k))

pub found : (xs : List ℕ) (x : ℕ) (r : Result ℕ ℕ) → IsBinarySearchResult (λ y. nat_cmp y x) xs r → IsAscendingFrom 0 xs
    → IfOk r (λ i. has_number xs x ≡ true)
found xs x (Ok i) h asc = let at = searched xs x (Ok i) h (rises 0 xs asc) in has_at xs x i 0 at.0 at.1
found xs x (Err i) h asc = tt

pub free : (xs : List ℕ) (x : ℕ) (r : Result ℕ ℕ) → IsBinarySearchResult (λ y. nat_cmp y x) xs r → IsAscendingFrom 0 xs
    → IfErr r (λ i. has_number xs x ≡ false)
free xs x (Ok i) h asc = tt
free xs x (Err i) h asc =
    let at = searched xs x (Err i) h (rises 0 xs asc) in
    has_nowhere xs x (λ k within e. elim (cases_lt k i) [
      | inl before ↦ omega (arith, e, at.1 k before)
      | inr after ↦ omega (arith, e, at.2 k after within)
    ])

pub belongs : (xs : List ℕ) (x : ℕ) (r : Result ℕ ℕ) → IsBinarySearchResult (λ y. nat_cmp y x) xs r → IsAscendingFrom 0 xs
    → IfErr r (λ i. IsAscendingFrom 0 (insert xs i x))
belongs xs x (Ok i) h asc = tt
belongs xs x (Err i) h asc =
    let at = searched xs x (Err i) h (rises 0 xs asc) in
    ascends_with i 0 xs x asc (omega arith) (λ k before within. at.1 k before) (λ k after within. at.2 k after within)
