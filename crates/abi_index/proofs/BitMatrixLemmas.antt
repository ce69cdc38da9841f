-- Relations: one entry more, and the columns of a row.
use Rattle.std.proofs.Common.{◌≡◌, ℕ, zero, suc, ◌+◌, ◌<◌, ◌≤◌, ◌≢◌, ◌==◌, ◌||◌, List, [], ◌∷◌, length, Bool, true, false, get_or, arith, refl, ap, ◌∙◌, sym, inl, inr, filter, subst, All}
use Rattle.std.proofs.lemmas.Bool.{cases_lt, eq-eqb, ne_eqb}
use Rattle.std.proofs.lemmas.List.{get_or_read}
use Rattle.std.specs.List.{range_with_len}
use Rattle.abi_index.proofs.AscendingLemmas.{has_at}
use Rattle.abi_index.specs.AscendingList.{IsAscendingFrom, has_number}
use Rattle.abi_index.specs.Relation.{Relation, columns_of, HasColumnsInRange}

-- no number below the least is in the list
has_below : (low : ℕ) (xs : List ℕ) (k : ℕ) → IsAscendingFrom low xs → k < low → has_number xs k ≡ false
has_below low [] k asc h = refl
has_below low (x ∷ xs) k asc h = let ne : k ≢ x = omega (arith, h, asc.0) in rw (ne_eqb k x ne) (has_below (x + 1) xs k asc.1 (omega (arith, h, asc.0)))

filter_alike : (p q : ℕ → Bool) (low n : ℕ) → ((k : ℕ) → low ≤ k → p k ≡ q k) → filter p (range_with_len low n) ≡ filter q (range_with_len low n)
filter_alike p q low zero alike = refl
filter_alike p q low (suc n) alike =
    rw (alike low (omega arith), filter_alike p q (low + 1) n (λ k h. alike k (omega (arith, h)))) refl

or-true : (b : Bool) → (b || true) ≡ true
or-true true = refl
or-true false = refl

has_more : (x : ℕ) (xs : List ℕ) (k : ℕ) → has_number xs k ≡ true → has_number (x ∷ xs) k ≡ true
has_more x xs k e = rw e (or-true (k == x))

-- the numbers of a range that are in an ascending list are that list
row_from : (n low : ℕ) (xs : List ℕ) → IsAscendingFrom low xs → ((k : ℕ) → has_number xs k ≡ true → k < low + n)
    → filter (has_number xs) (range_with_len low n) ≡ xs
row_from zero low [] asc within = refl
row_from zero low (x ∷ xs) asc within = absurd (omega (arith, asc.0, within x (rw (eq-eqb x x refl) refl)))
row_from (suc n) low [] asc within = row_from n (low + 1) [] tt (λ k e. absurd (cc))
row_from (suc n) low (x ∷ xs) asc within =
    elim (cases_lt low x) [
      | inl before ↦
          let none : has_number (x ∷ xs) low ≡ false = has_below x (x ∷ xs) low (omega arith, asc.1) before in
          rw none (row_from n (low + 1) (x ∷ xs) (omega (arith, before), asc.1) (λ k e. omega (arith, within k e)))
      | inr after ↦
          let e : low ≡ x = omega (arith, after, asc.0) in
          let hit : has_number (x ∷ xs) low ≡ true = rw (eq-eqb low x e) refl in
          let next : x + 1 ≡ low + 1 = omega (arith, e) in
          let rest : filter (has_number (x ∷ xs)) (range_with_len (low + 1) n) ≡ xs =
          filter_alike (has_number (x ∷ xs)) (has_number xs) (low + 1) n (λ k h. let ne : k ≢ x = omega (arith, h, e) in rw (ne_eqb k x ne) refl)
          ∙ row_from n (low + 1) xs (subst (λ l. IsAscendingFrom l xs) next asc.1) (λ k has. omega (arith, within k (has_more x xs k has))) in
          rw hit (ap (λ ys. low ∷ ys) rest ∙ ap (λ y. y ∷ xs) e)
    ]

-- what is read at a row is that row's columns
pub kept_row : (rows : List (List ℕ)) (row i : ℕ) (kept shown : List ℕ) → kept ≡ get_or rows i kept → shown ≡ kept → i ≡ row → row < length rows
    → shown ≡ get_or rows row []
kept_row rows row i kept shown read same e h =
    same ∙ get_or_read rows i kept (omega (arith, h, e)) read [] ∙ ap (λ k. get_or rows k []) e

pub columns_of_row : (m : Relation) (row : ℕ) (shown : List ℕ) → HasColumnsInRange m → IsAscendingFrom 0 shown → shown ≡ get_or m.rows row []
    → shown ≡ columns_of m row
columns_of_row m row shown within asc is =
    is ∙ sym (row_from m.columns 0 (get_or m.rows row []) (subst (λ xs. IsAscendingFrom 0 xs) is asc) (λ k e. omega (arith, within row k e)))

pub columns_within : (m : Relation) (row top : ℕ) (shown : List ℕ) → HasColumnsInRange m → m.columns ≤ top + 1 → shown ≡ get_or m.rows row []
    → All (λ c. c ≤ top) shown
columns_within m row top shown within inline_vec is k d h =
    let has : has_number (get_or m.rows row []) (get_or shown k d) ≡ true =
    subst (λ xs. has_number xs (get_or shown k d) ≡ true) is (has_at shown (get_or shown k d) k d h refl) in
    omega (arith, inline_vec, within row (get_or shown k d) has)

-- what bounds a list bounds all but its first
pub bounded_rest : (top x : ℕ) (xs ys : List ℕ) → ys ≡ x ∷ xs → All (λ c. c ≤ top) ys → All (λ c. c ≤ top) xs
bounded_rest top x xs ys e all k d h =
    let whole : All (λ c. c ≤ top) (x ∷ xs) = subst (λ zs. All (λ c. c ≤ top) zs) e all in
    whole (suc k) d (omega (arith, h))
