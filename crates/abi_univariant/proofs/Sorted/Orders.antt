-- Orders that begin alike, and a least one among finitely many.
use Rattle.std.proofs.Common.{◌≡◌, ℕ, zero, suc, ◌+◌, ◌<◌, ◌≤◌, List, [], ◌∷◌, length, take, set, get_or, inl, inr, refl, sym, ap, ap₂, subst, ◌∙◌, arith, ⊎_elim}
use Rattle.std.specs.Prelude.{◌⊎◌, Contains, IsPermutation}
use Rattle.std.specs.List.{swap}
use Rattle.std.proofs.lemmas.Bool.{cases_lt}
use Rattle.std.proofs.lemmas.List.{get_or-set_same, get_or-set_other, get_or-take, get_or_default, length-set, set_comm, set-get_or, take-set-le, take_more_same}
use Rattle.std.proofs.Math.Seq.{set-set, take-length}
use Rattle.std.proofs.lemmas.List.FromFn.{length-range_with_len, get_or-range_with_len}
use Rattle.std.proofs.lemmas.List.Sorted.{Contains-permutation, IsPermutation-swap, IsPermutation-trans, length_permutation}
use Rattle.abi_univariant.specs.Placement.{source_order}
use Rattle.abi_univariant.proofs.Placed.PlacingLemmas.{order_differs}
use Rattle.abi_univariant.proofs.Sorted.Sorting.{within_order}

-- ---- two places exchanged

-- the places of a list, with two of them exchanged
exchanged : (xs : List ℕ) (i j : ℕ) → i < length xs → j < length xs → swap xs i j ≡ set (set xs i (get_or xs j 0)) j (get_or xs i 0)
exchanged [] i j p q = absurd (omega arith)
exchanged (x ∷ xs) i j p q = ap₂ (λ a b. set (set (x ∷ xs) i a) j b) (get_or_default (x ∷ xs) j x 0 q) (get_or_default (x ∷ xs) i x 0 p)

pub length_exchanged : (xs : List ℕ) (i j : ℕ) → length (swap xs i j) ≡ length xs
length_exchanged [] i j = refl
length_exchanged (x ∷ xs) i j = length-set (set (x ∷ xs) i (get_or (x ∷ xs) j x)) j (get_or (x ∷ xs) i x) ∙ length-set (x ∷ xs) i (get_or (x ∷ xs) j x)

-- the first place now has what the second had, which lies no earlier
first_exchanged : (xs : List ℕ) (i j : ℕ) → i ≤ j → j < length xs → get_or (swap xs i j) i 0 ≡ get_or xs j 0
first_exchanged xs i j le h = ap (λ l. get_or l i 0) (exchanged xs i j (omega arith) h) ∙ ⊎_elim apart same (cases_lt i j)
  where
    apart : i < j → get_or (set (set xs i (get_or xs j 0)) j (get_or xs i 0)) i 0 ≡ get_or xs j 0
    apart l = get_or-set_other (set xs i (get_or xs j 0)) j i (get_or xs i 0) 0 (λ e. omega arith) ∙ get_or-set_same xs i (get_or xs j 0) 0 (omega arith)

    same : j ≤ i → get_or (set (set xs i (get_or xs j 0)) j (get_or xs i 0)) i 0 ≡ get_or xs j 0
    same l =
        let e : i ≡ j = omega arith in
        let long : length (set xs i (get_or xs j 0)) ≡ length xs = length-set xs i (get_or xs j 0) in
        ap (λ k. get_or (set (set xs i (get_or xs j 0)) j (get_or xs i 0)) k 0) e ∙ get_or-set_same (set xs i (get_or xs j 0)) j (get_or xs i 0) 0 (omega arith) ∙ ap (λ k. get_or xs k 0) e

-- what comes before both stays
before_exchanged : (xs : List ℕ) (i j : ℕ) → i ≤ j → j < length xs → take i (swap xs i j) ≡ take i xs
before_exchanged xs i j le h =
    ap (take i) (exchanged xs i j (omega arith) h)
    ∙ take-set-le i (set xs i (get_or xs j 0)) j (get_or xs i 0) le
    ∙ take-set-le i xs i (get_or xs j 0) (omega arith)

-- an order with two places exchanged is an order
pub order_exchanged : (n : ℕ) (order : List ℕ) (i j : ℕ) → IsPermutation (source_order n) order → i < n → j < n → IsPermutation (source_order n) (swap order i j)
order_exchanged n order i j p below within =
    let long : length order ≡ n = length_permutation (source_order n) order p ∙ length-range_with_len 0 n in
    IsPermutation-trans (source_order n) order (swap order i j) p (IsPermutation-swap order (swap order i j) i j (omega arith) (omega arith) refl)

-- ---- orders that begin alike

pub order_length : (n : ℕ) (order : List ℕ) → IsPermutation (source_order n) order → length order ≡ n
order_length n order p = length_permutation (source_order n) order p ∙ length-range_with_len 0 n

-- an order names each index
names : (n : ℕ) (order : List ℕ) (v : ℕ) → IsPermutation (source_order n) order → v < n → Contains order v
names n order v p h =
    Contains-permutation (source_order n) order v p
    (v, (let long : length (source_order n) ≡ n = length-range_with_len 0 n in omega arith), (let is : get_or (source_order n) v v ≡ 0 + v = get_or-range_with_len 0 n v v h in omega arith))

-- what two lists begin with, they have at each place of it
same_place : (k i : ℕ) (xs ys : List ℕ) → take k xs ≡ take k ys → i < k → get_or xs i 0 ≡ get_or ys i 0
same_place k i xs ys same h = sym (get_or-take k xs i 0 h) ∙ ap (λ l. get_or l i 0) same ∙ get_or-take k ys i 0 h

-- of two orders that begin with the same k indices, one has the other's next index at k or later
pub reaches : (n k : ℕ) (order other : List ℕ) → IsPermutation (source_order n) order → IsPermutation (source_order n) other → take k other ≡ take k order → k < n
    → (i : ℕ) × (k ≤ i) × (i < n) × (get_or order i 0 ≡ get_or other k 0)
reaches n k order other p q same short =
    let long : length order ≡ n = order_length n order p in
    let far : length other ≡ n = order_length n other q in
    let next : get_or other k 0 < n = within_order n other q k 0 (omega arith) in
    let found : Contains order (get_or other k 0) = names n order (get_or other k 0) p next in
    let is : get_or order found.0 0 ≡ get_or other k 0 = get_or_default order found.0 0 (get_or other k 0) found.1 ∙ found.2 in
    let here : found.0 < n = omega (arith, found.1) in
    ⊎_elim (λ (early : found.0 < k). absurd (order_differs n other q found.0 k 0 early (omega arith) (same_place k found.0 other order same early ∙ is)))
    (λ (late : k ≤ found.0). (found.0, late, here, is)) (cases_lt found.0 k)

-- so with those two places exchanged they begin with one more
pub begins_more : (k i : ℕ) (order other : List ℕ) → take k other ≡ take k order → k ≤ i → i < length order → k < length other → get_or order i 0 ≡ get_or other k 0
    → take (k + 1) other ≡ take (k + 1) (swap order k i)
begins_more k i order other same le within short is =
    let long : length (swap order k i) ≡ length order = length_exchanged order k i in
    take_more_same other (swap order k i) k 0 short (omega arith) (same ∙ sym (before_exchanged order k i le within)) (sym is ∙ sym (first_exchanged order k i le within))

-- orders that begin with the same n indices are the same
pub begins_whole : (n : ℕ) (order other : List ℕ) → IsPermutation (source_order n) order → IsPermutation (source_order n) other → take n other ≡ take n order → other ≡ order
begins_whole n order other p q same =
    sym (take-length-eq other (order_length n other q)) ∙ same ∙ take-length-eq order (order_length n order p)
  where
    take-length-eq : (xs : List ℕ) → length xs ≡ n → take n xs ≡ xs
    take-length-eq xs e = ap (λ k. take k xs) (sym e) ∙ take-length xs

-- exchanged twice is as before
pub exchanged_twice : (xs : List ℕ) (i j : ℕ) → i ≤ j → j < length xs → swap (swap xs i j) i j ≡ xs
exchanged_twice xs i j le h = ⊎_elim apart (λ (l : j ≤ i). stays (swap xs i j) (omega (arith, length_exchanged xs i j)) (omega arith) ∙ stays xs h (omega arith)) (cases_lt i j)
  where
    stays : (ys : List ℕ) → j < length ys → i ≡ j → swap ys i j ≡ ys
    stays ys short e =
        exchanged ys i j (omega arith) short
        ∙ ap (λ k. set (set ys k (get_or ys j 0)) j (get_or ys k 0)) e
        ∙ ap (λ zs. set zs j (get_or ys j 0)) (set-get_or ys j 0) ∙ set-get_or ys j 0

    apart : i < j → swap (swap xs i j) i j ≡ xs
    apart l =
        let a = get_or xs i 0 in
        let b = get_or xs j 0 in
        let ys = swap xs i j in
        let is : ys ≡ set (set xs i b) j a = exchanged xs i j (omega arith) h in
        let long : length ys ≡ length xs = length_exchanged xs i j in
        let last : get_or ys j 0 ≡ a = ap (λ l. get_or l j 0) is ∙ get_or-set_same (set xs i b) j a 0 (omega (arith, length-set xs i b)) in
        exchanged ys i j (omega arith) (omega arith)
        ∙ ap₂ (λ u v. set (set ys i u) j v) last (first_exchanged xs i j le h)
        ∙ ap (λ zs. set (set zs i a) j b) is
        ∙ ap (λ zs. set zs j b) (set_comm (set xs i b) j i a a (λ e. omega arith) ∙ ap (λ zs. set zs j a) (set-set xs i b a ∙ set-get_or xs i 0))
        ∙ set-set xs j a b ∙ set-get_or xs j 0

-- ---- a least one among finitely many orders

-- of the orders that are so and are in the part, one that is so is the least, or there is none
abbrev pub HasLeast : (P Q : List ℕ → Type 0) → (size : List ℕ → ℕ) → Type 0
HasLeast P Q size = ((order : List ℕ) × P order × ((other : List ℕ) → P other → Q other → size order ≤ size other)) ⊎ ((other : List ℕ) → P other → Q other → ⊥)

-- a least one of each of two parts gives one of both
least_of_both : (P Q R S : List ℕ → Type 0) (size : List ℕ → ℕ) → ((other : List ℕ) → P other → S other → Q other ⊎ R other) → HasLeast P Q size → HasLeast P R size → HasLeast P S size
least_of_both P Q R S size splits (inl a) (inl b) =
    ⊎_elim (λ (l : size a.0 < size b.0). inl (a.0, a.1, λ other p s. ⊎_elim (λ (q : Q other). a.2 other p q) (λ (r : R other). let h : size b.0 ≤ size other = b.2 other p r in omega arith) (splits other p s)))
    (λ (l : size b.0 ≤ size a.0). inl (b.0, b.1, λ other p s. ⊎_elim (λ (q : Q other). let h : size a.0 ≤ size other = a.2 other p q in omega arith) (λ (r : R other). b.2 other p r) (splits other p s)))
    (cases_lt (size a.0) (size b.0))
least_of_both P Q R S size splits (inl a) (inr b) = inl (a.0, a.1, λ other p s. ⊎_elim (λ (q : Q other). a.2 other p q) (λ (r : R other). absurd (b other p r)) (splits other p s))
least_of_both P Q R S size splits (inr a) (inl b) = inl (b.0, b.1, λ other p s. ⊎_elim (λ (q : Q other). absurd (a other p q)) (λ (r : R other). b.2 other p r) (splits other p s))
least_of_both P Q R S size splits (inr a) (inr b) = inr (λ other p s. ⊎_elim (λ (q : Q other). a other p q) (λ (r : R other). b other p r) (splits other p s))

-- the other begins with the same k indices, and has as its next one of those from k up to m
abbrev pub GoesOn : (k m : ℕ) → (order other : List ℕ) → Type 0
GoesOn k m order other = (take k other ≡ take k order) × ((i : ℕ) × (k ≤ i) × (i < m) × (get_or order i 0 ≡ get_or other k 0))

module _ (n : ℕ) (P : List ℕ → Type 0) (size : List ℕ → ℕ) (permutes : (order : List ℕ) → P order → IsPermutation (source_order n) order)
    (decided : (order : List ℕ) → IsPermutation (source_order n) order → P order ⊎ (P order → ⊥)) where
  -- what is said of each longer beginning is said of those with the next index from k up to m
  least_up_to : (k m : ℕ) (order : List ℕ) → IsPermutation (source_order n) order → k < n → m ≤ n
      → ((longer : List ℕ) → IsPermutation (source_order n) longer → HasLeast P (λ other. take (k + 1) other ≡ take (k + 1) longer) size) → HasLeast P (GoesOn k m order) size
  least_up_to k zero order p short le next = inr (λ other q on. absurd (omega (arith, on.1.2)))
  least_up_to k (suc m) order p short le next = ⊎_elim
      (λ (early : m < k). inr (λ other q on. absurd (omega (arith, on.1.1, on.1.2))))
      (λ (late : k ≤ m). least_of_both P (GoesOn k m order) (λ other. take (k + 1) other ≡ take (k + 1) (swap order k m)) (GoesOn k (suc m) order) size
      (λ other q on. ⊎_elim
      (λ (below : on.1.0 < m). inl (on.0, (on.1.0, on.1.1, below, on.1.3)))
      (λ (last : m ≤ on.1.0). inr (
      let is : on.1.0 ≡ m = omega (arith, on.1.2) in
      begins_more k m order other on.0 late (omega (arith, order_length n order p)) (omega (arith, order_length n other (permutes other q))) (ap (λ i. get_or order i 0) (sym is) ∙ on.1.3)))
      (cases_lt on.1.0 m))
      (least_up_to k m order p short (omega arith) next)
      (next (swap order k m) (order_exchanged n order k m p short (omega arith))))
      (cases_lt m k)

  -- of the orders that begin with the same k indices
  least_beginning : (left k : ℕ) → k + left ≡ n → (order : List ℕ) → IsPermutation (source_order n) order → HasLeast P (λ other. take k other ≡ take k order) size
  least_beginning zero k e order p =
      let all : k ≡ n = omega arith in
      ⊎_elim (λ (here : P order). inl (order, here, λ other q same. let is : size other ≡ size order = ap size (begins_whole n order other p (permutes other q) (subst (λ m. take m other ≡ take m order) all same)) in omega arith))
      (λ (none : P order → ⊥). inr (λ other q same. none (subst P (begins_whole n order other p (permutes other q) (subst (λ m. take m other ≡ take m order) all same)) q)))
      (decided order p)
  least_beginning (suc left) k e order p =
      let on : HasLeast P (GoesOn k n order) size
      = least_up_to k n order p (omega arith) (omega arith) (λ longer q. least_beginning left (k + 1) (omega arith) longer q) in
      least_of_both P (GoesOn k n order) (GoesOn k n order) (λ other. take k other ≡ take k order) size
      (λ other q same. inl (same, reaches n k order other p (permutes other q) same (omega arith))) on on

  -- where some order is so, one of those that are so is the least
  pub least_order : (order : List ℕ) → P order → (least : List ℕ) × P least × ((other : List ℕ) → P other → size least ≤ size other)
  least_order order here = ⊎_elim
      (λ (some : (least : List ℕ) × P least × ((other : List ℕ) → P other → take 0 other ≡ take 0 order → size least ≤ size other)). (some.0, some.1, λ other q. some.2 other q refl))
      (λ (none : (other : List ℕ) → P other → take 0 other ≡ take 0 order → ⊥). absurd (none order here refl))
      (least_beginning n 0 (omega arith) order (permutes order here))
