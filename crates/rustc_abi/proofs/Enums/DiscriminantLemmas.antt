-- Discriminants: those of a list of variants, those with their indices, and whether two are equal.
use Rattle.std.proofs.Common.{◌≡◌, ◌≢◌, ℕ, zero, suc, ◌+◌, ◌<◌, ◌≤◌, List, [], ◌∷◌, ◌++◌, true, false, length, map, take, get_or, arith, refl, sym, ap, ◌∙◌, inl, inr}
use Rattle.std.specs.Prelude.{Vec, ◌⊎◌, ◌==◌}
use Rattle.std.specs.List.{list_any, All, swap}
use Rattle.std.specs.List.Sorted.{IsPermutation, IsNonDecreasingBy}
use Rattle.std.specs.declared.alloc.Global.{Global}
use Rattle.std.proofs.lemmas.Bool.{cases_eq, cases_order, eq-eqb, ne_eqb, or_from, or_parts, true_from_ne_false}
use Rattle.std.proofs.lemmas.List.{map-append, take_more, length-take-le}
use Rattle.std.proofs.lemmas.List.Edits.{Swapped, swapped_from_swap, length-swap}
use Rattle.std.proofs.lemmas.List.Elements.{All-from_get_or}
use Rattle.std.proofs.lemmas.List.Folds.{list_any_none, list_any_at}
use Rattle.std.proofs.lemmas.List.Sorted.{IsPermutation-keeps, IsPermutation-sym}
use Rattle.abi_tree.specs.declared.tree.TypeTree.{TypeTree}
use Rattle.abi_tree.specs.Tree.{trees_of_variants}
use Rattle.rustc_abi.specs.Enums.{discriminants_of, has_equal, numbered_from}

-- the discriminants of a list of variants are their first parts
pub discriminants_are : (all : List (ℕ × Vec TypeTree Global)) → discriminants_of (trees_of_variants all) ≡ map (λ v. v.0) all
discriminants_are [] = refl
discriminants_are (v ∷ all) = ap (λ ns. v.0 ∷ ns) (discriminants_are all)

-- one variant more
pub discriminants_more : (all : List (ℕ × Vec TypeTree Global)) (i : ℕ) (v : ℕ × Vec TypeTree Global) → i < length all → v ≡ get_or all i v →
    discriminants_of (trees_of_variants (take (i + 1) all)) ≡ discriminants_of (trees_of_variants (take i all)) ++ v.0 ∷ []
discriminants_more all i v lt at =
    let step : map (λ v. v.0) (take (i + 1) all) ≡ map (λ v. v.0) (take i all) ++ (get_or all i v).0 ∷ [] =
    ap (map (λ v. v.0)) (take_more all i v lt) ∙ map-append (λ v. v.0) (take i all) (get_or all i v ∷ []) in
    discriminants_are (take (i + 1) all) ∙ step ∙ ap (λ n. map (λ v. v.0) (take i all) ++ n ∷ []) (ap (λ v. v.0) (sym at))
    ∙ ap (λ ns. ns ++ v.0 ∷ []) (sym (discriminants_are (take i all)))

-- one number more behind numbers, with its index
pub number_variants-push : (from : ℕ) (ns : List ℕ) (n i : ℕ) → i ≡ from + length ns → numbered_from from (ns ++ n ∷ []) ≡ numbered_from from ns ++ (i, n) ∷ []
number_variants-push from [] n i e =
    let at : from ≡ i = omega arith in
    ap (λ k. (k, n) ∷ []) at
number_variants-push from (m ∷ ns) n i e = ap (λ xs. (from, m) ∷ xs) (number_variants-push (from + 1) ns n i (omega arith))

-- one number more of a list, with its index
pub numbered_more : (ns : List ℕ) (i n : ℕ) → i < length ns → n ≡ get_or ns i 0 →
    numbered_from 0 (take (i + 1) ns) ≡ numbered_from 0 (take i ns) ++ (i, n) ∷ []
numbered_more ns i n lt at =
    ap (numbered_from 0) (take_more ns i 0 lt ∙ ap (λ k. take i ns ++ k ∷ []) (sym at)) ∙ number_variants-push 0 (take i ns) n i (omega (arith, length-take-le i ns (omega arith)))

-- the numbers at two places differ
abbrev pub Differ : List ℕ → Type 0
Differ xs = (i j : ℕ) → i < length xs → j < length xs → i ≢ j → get_or xs i 0 ≢ get_or xs j 0

tail_differs : (x : ℕ) (xs : List ℕ) → Differ (x ∷ xs) → Differ xs
tail_differs x xs h i j li lj ne = h (suc i) (suc j) (omega arith) (omega arith) (λ e. ne (omega arith))

-- where any two places differ, no two numbers are equal
pub none_equal : (xs : List ℕ) → Differ xs → has_equal xs ≡ false
none_equal [] h = refl
none_equal (x ∷ xs) h =
    let first : All (λ m. (x == m) ≡ false) xs =
    All-from_get_or (λ m. (x == m) ≡ false) xs 0 (λ i lt. ne_eqb x (get_or xs i 0) (h 0 (suc i) (omega arith) (omega arith) (λ e. absurd (omega arith)))) in
    or_from (list_any (λ m. x == m) xs) (has_equal xs) (list_any_none (λ m. x == m) xs first) (none_equal xs (tail_differs x xs h))

first_differs : (x : ℕ) (xs : List ℕ) (j : ℕ) → list_any (λ m. x == m) xs ≡ false → j < length xs → x ≢ get_or xs j 0
first_differs x xs j none lt e =
    let some = list_any_at (λ m. x == m) xs j 0 lt (eq-eqb x (get_or xs j 0) e) in
    absurd (cc)

-- where no two numbers are equal, any two places differ
pub all_differ : (xs : List ℕ) → has_equal xs ≡ false → Differ xs
all_differ [] none i j li lj ne e = absurd (omega arith)
all_differ (x ∷ xs) none zero zero li lj ne e = ne refl
all_differ (x ∷ xs) none zero (suc j) li lj ne e =
    let both = or_parts (list_any (λ m. x == m) xs) (has_equal xs) none in
    first_differs x xs j both.0 (omega arith) e
all_differ (x ∷ xs) none (suc i) zero li lj ne e =
    let both = or_parts (list_any (λ m. x == m) xs) (has_equal xs) none in
    first_differs x xs i both.0 (omega arith) (sym e)
all_differ (x ∷ xs) none (suc i) (suc j) li lj ne e =
    let both = or_parts (list_any (λ m. x == m) xs) (has_equal xs) none in
    all_differ xs both.1 i j (omega arith) (omega arith) (λ e. ne (omega arith)) e

-- where the number that stands at a place after a swap stood before it
abbrev CameFrom : (a b i k : ℕ) → Type 0
CameFrom a b i k = ((i ≡ a) × (k ≡ b)) ⊎ (((i ≡ b) × (k ≡ a)) ⊎ ((i ≢ a) × (i ≢ b) × (k ≡ i)))

came_from : (f g : ℕ → ℕ) (a b : ℕ) → Swapped f g a b → (i : ℕ) → (k : ℕ) × CameFrom a b i k × (g i ≡ f k)
came_from f g a b s i =
    elim (cases_eq i a) [
      | inl e ↦ (b, inl (e, refl), ap g e ∙ s.0)
      | inr na ↦ elim (cases_eq i b) [
        | inl e ↦ (a, inr (inl (e, refl)), ap g e ∙ s.1)
        | inr nb ↦ (i, inr (inr (na, nb, refl)), s.2 i na nb)
      ]
    ]

apart_from : (a b i j k m : ℕ) → CameFrom a b i k → CameFrom a b j m → i ≢ j → k ≢ m
apart_from a b i j k m (inl x) (inl y) ne e = ne (omega arith)
apart_from a b i j k m (inl x) (inr (inl y)) ne e = ne (omega arith)
apart_from a b i j k m (inl x) (inr (inr y)) ne e = y.1 (omega arith)
apart_from a b i j k m (inr (inl x)) (inl y) ne e = ne (omega arith)
apart_from a b i j k m (inr (inl x)) (inr (inl y)) ne e = ne (omega arith)
apart_from a b i j k m (inr (inl x)) (inr (inr y)) ne e = y.0 (omega arith)
apart_from a b i j k m (inr (inr x)) (inl y) ne e = x.1 (omega arith)
apart_from a b i j k m (inr (inr x)) (inr (inl y)) ne e = x.0 (omega arith)
apart_from a b i j k m (inr (inr x)) (inr (inr y)) ne e = ne (omega arith)

within : (n a b i k : ℕ) → CameFrom a b i k → a < n → b < n → i < n → k < n
within n a b i k (inl x) la lb li = omega arith
within n a b i k (inr (inl x)) la lb li = omega arith
within n a b i k (inr (inr x)) la lb li = omega arith

swap_differs : (xs : List ℕ) (a b : ℕ) → a < length xs → b < length xs → Differ xs → Differ (swap xs a b)
swap_differs xs a b la lb h i j li lj ne e =
    let s = swapped_from_swap xs (swap xs a b) a b 0 la lb refl in
    let long : length (swap xs a b) ≡ length xs = length-swap xs a b in
    let from = came_from (λ i. get_or xs i 0) (λ i. get_or (swap xs a b) i 0) a b s i in
    let from_other = came_from (λ i. get_or xs i 0) (λ i. get_or (swap xs a b) i 0) a b s j in
    h from.0 from_other.0 (within (length xs) a b i from.0 from.1 la lb (omega arith)) (within (length xs) a b j from_other.0 from_other.1 la lb (omega arith))
    (apart_from a b i j from.0 from_other.0 from.1 from_other.1 ne) (sym from.2 ∙ e ∙ from_other.2)

-- numbers that differ, differ in every order
pub Differ-permutation : (xs ys : List ℕ) → IsPermutation xs ys → Differ xs → Differ ys
Differ-permutation xs ys p h = IsPermutation-keeps xs Differ h (λ l i j li lj d. swap_differs l i j li lj d) ys p

rising : (xs : List ℕ) → IsNonDecreasingBy (λ x. x) xs → ((i : ℕ) → suc i < length xs → get_or xs i 0 ≢ get_or xs (suc i) 0) →
    (i j : ℕ) → i < j → j < length xs → get_or xs i 0 < get_or xs j 0
rising xs up apart i j below lt =
    let step : get_or xs i 0 ≤ get_or xs (suc i) 0 = up i (suc i) 0 (omega arith) (omega arith) in
    let more : get_or xs (suc i) 0 ≤ get_or xs j 0 = up (suc i) j 0 (omega arith) lt in
    let ne : get_or xs i 0 ≢ get_or xs (suc i) 0 = apart i (omega arith) in
    omega (arith, ne)

-- in a list that does not fall, where neighbours differ, any two places do
pub Differ-sorted : (xs : List ℕ) → IsNonDecreasingBy (λ x. x) xs → ((i : ℕ) → suc i < length xs → get_or xs i 0 ≢ get_or xs (suc i) 0) → Differ xs
Differ-sorted xs up apart i j li lj ne e =
    elim (cases_order i j) [
      | inl same ↦ ne same
      | inr (inl less) ↦ absurd (omega (arith, rising xs up apart i j less lj))
      | inr (inr more) ↦ absurd (omega (arith, rising xs up apart j i more li))
    ]

-- no number of a sorted list equals the one after it, so no two of the list in any order are equal
pub sorted_differ : (xs ys : List ℕ) → IsPermutation xs ys → IsNonDecreasingBy (λ x. x) ys → ((i : ℕ) → suc i < length ys → get_or ys i 0 ≢ get_or ys (suc i) 0) →
    false ≡ has_equal xs
sorted_differ xs ys p up apart = sym (none_equal xs (Differ-permutation ys xs (IsPermutation-sym xs ys p) (Differ-sorted ys up apart)))

-- two places of the list in another order have the same number, so two of its numbers are equal
pub some_equal : (xs ys : List ℕ) → IsPermutation xs ys → (i j : ℕ) → i < length ys → j < length ys → i ≢ j → get_or ys i 0 ≡ get_or ys j 0 → true ≡ has_equal xs
some_equal xs ys p i j li lj ne e =
    sym (true_from_ne_false (has_equal xs) (λ none. Differ-permutation xs ys p (all_differ xs none) i j li lj ne e))
