-- An order names each field once where its numbers, sorted, are those of source order.
use Rattle.std.proofs.Common.{◌≡◌, ℕ, zero, suc, ◌+◌, ◌<◌, ◌≤◌, ◌==◌, Bool, true, false, List, [], ◌∷◌, length, map, get_or, refl, sym, ap, ◌∙◌, subst, arith, eqb-true, eq-eqb}
use Rattle.std.specs.Prelude.{◌↔◌, cond, sum_by, All, IsPermutation, IsTrue}
use Rattle.std.specs.List.Sorted.{IsNonDecreasingBy}
use Rattle.std.proofs.lemmas.List.{length-map}
use Rattle.std.proofs.lemmas.List.FromFn.{length-range_with_len, get_or-range_with_len}
use Rattle.std.proofs.lemmas.List.Sorted.{IsPermutation-sym, length_permutation, sum_by-IsPermutation}
use Rattle.std.proofs.lemmas.List.Sums.{sum_by-cons}
use Rattle.abi_base.specs.declared.struct_kind.StructKind.{StructKind}
use Rattle.abi_univariant.specs.Placement.{KeepsTail, source_order}
use Rattle.abi_univariant.proofs.Layouts.OneOrder.{alike}
use Rattle.abi_univariant.proofs.Sorted.Sorting.{within_order}

-- 1 where the two are equal
abbrev hit : ℕ → ℕ → ℕ
hit x y = cond (x == y) 1 0

hit_self : (x : ℕ) → hit x x ≡ 1
hit_self x = ap (λ (b : Bool). cond b 1 0) (eq-eqb x x refl)

counted : (x y : ℕ) (ys : List ℕ) → sum_by (hit x) (y ∷ ys) ≡ hit x y + sum_by (hit x) ys
counted x y ys = sum_by-cons (hit x) y ys

first_counts : (x : ℕ) (ys : List ℕ) → 1 ≤ sum_by (hit x) (x ∷ ys)
first_counts x ys = omega (arith, counted x x ys, hit_self x)

-- a number that is counted stands in the list
found_by : (b : Bool) (x y : ℕ) (ys : List ℕ) → (x == y) ≡ b → 1 ≤ sum_by (hit x) (y ∷ ys) → (1 ≤ sum_by (hit x) ys → (j : ℕ) × (j < length ys) × (get_or ys j 0 ≡ x))
    → (j : ℕ) × (j < length (y ∷ ys)) × (get_or (y ∷ ys) j 0 ≡ x)
found_by true x y ys e some later = (zero, omega arith, sym (eqb-true x y e))
found_by false x y ys e some later =
    let none : hit x y ≡ 0 = ap (λ (b : Bool). cond b 1 0) e in
    let r = later (omega (arith, some, none, counted x y ys)) in
    (suc r.0, omega (arith, r.1), r.2)

found : (x : ℕ) (ys : List ℕ) → 1 ≤ sum_by (hit x) ys → (j : ℕ) × (j < length ys) × (get_or ys j 0 ≡ x)
found x [] some = absurd (omega arith)
found x (y ∷ ys) some = found_by (x == y) x y ys refl some (found x ys)

up_tail : (x : ℕ) (xs : List ℕ) → IsNonDecreasingBy (λ n. n) (x ∷ xs) → IsNonDecreasingBy (λ n. n) xs
up_tail x xs up i j d le lt = up (suc i) (suc j) d (omega arith) (omega arith)

-- two lists that never fall and have the same numbers are one
one_ascending : (xs ys : List ℕ) → IsNonDecreasingBy (λ n. n) xs → IsNonDecreasingBy (λ n. n) ys → ((x : ℕ) → sum_by (hit x) xs ≡ sum_by (hit x) ys) → xs ≡ ys
one_ascending [] [] up down same = refl
one_ascending [] (b ∷ ys) up down same = let none : sum_by (hit b) [] ≡ 0 = refl in absurd (omega (arith, same b, first_counts b ys, none))
one_ascending (a ∷ xs) [] up down same = let none : sum_by (hit a) [] ≡ 0 = refl in absurd (omega (arith, same a, first_counts a xs, none))
one_ascending (a ∷ xs) (b ∷ ys) up down same =
    let there = found a (b ∷ ys) (omega (arith, same a, first_counts a xs)) in
    let here = found b (a ∷ xs) (omega (arith, same b, first_counts b ys)) in
    let low : b ≤ get_or (b ∷ ys) there.0 0 = down 0 there.0 0 (omega arith) there.1 in
    let high : a ≤ get_or (a ∷ xs) here.0 0 = up 0 here.0 0 (omega arith) here.1 in
    let first : a ≡ b = omega (arith, low, high, there.2, here.2) in
    let rest : xs ≡ ys = one_ascending xs ys (up_tail a xs up) (up_tail b ys down)
    (λ x. let head : hit x a ≡ hit x b = ap (hit x) first in omega (arith, same x, head, counted x a xs, counted x b ys)) in
    cc

source_ascends : (n : ℕ) → IsNonDecreasingBy (λ n. n) (source_order n)
source_ascends n i j d le lt =
    let many = length-range_with_len 0 n in
    let low = get_or-range_with_len 0 n i d (omega (arith, many, lt)) in
    let high = get_or-range_with_len 0 n j d (omega (arith, many, lt)) in
    omega (arith, low, high, le)

-- where the sorted numbers are those of source order, the order names each once
pub each_of_sorted : (n : ℕ) (order sorted : List ℕ) → IsPermutation order sorted → sorted ≡ source_order n → IsPermutation (source_order n) order
each_of_sorted n order sorted p e = IsPermutation-sym order (source_order n) (subst (IsPermutation order) e p)

-- and only there
pub sorted_of_each : (n : ℕ) (order sorted : List ℕ) → IsPermutation order sorted → IsNonDecreasingBy (λ n. n) sorted → IsPermutation (source_order n) order → sorted ≡ source_order n
sorted_of_each n order sorted p up q =
    one_ascending sorted (source_order n) up (source_ascends n) (λ x. sum_by-IsPermutation (hit x) order sorted p ∙ sum_by-IsPermutation (hit x) (source_order n) order q)

-- ---- the tests

pub too_short : (n : ℕ) (xs : List ℕ) → (length xs ≡ n → ⊥) → IsTrue false ↔ (xs ≡ source_order n)
too_short n xs short = (λ no. cc, λ e. absurd (short (ap length e ∙ length-range_with_len 0 n)))

pub other_at : (n at : ℕ) (xs : List ℕ) → at < n → (get_or xs at 0 ≡ at → ⊥) → IsTrue false ↔ (xs ≡ source_order n)
other_at n at xs lt other = (λ no. cc, λ e. let there : get_or xs at 0 ≡ at = ap (λ ys. get_or ys at 0) e ∙ get_or-range_with_len 0 n at 0 lt ∙ (omega arith) in absurd (other there))

pub is_source : (n : ℕ) (xs : List ℕ) → length xs ≡ n → ((i : ℕ) → i < n → get_or xs i 0 ≡ i) → IsTrue true ↔ (xs ≡ source_order n)
is_source n xs many each = (
  λ yes. alike xs (source_order n) (many ∙ sym (length-range_with_len 0 n)) (λ k lt.
      let there : get_or (source_order n) k 0 ≡ k = get_or-range_with_len 0 n k 0 (omega (arith, many, lt)) ∙ (omega arith) in
      each k (omega (arith, many, lt)) ∙ sym there),
  λ e. refl,
)

-- an order that names each field once is as long as the list
pub count_of_each : (n : ℕ) (order : List ℕ) (each : Bool) → IsTrue each ↔ IsPermutation (source_order n) order → each ≡ true → length order ≡ n
count_of_each n order true h e = length_permutation (source_order n) order (h.0 refl) ∙ length-range_with_len 0 n
count_of_each n order false h e = cc

pub allowed_by : (kind : StructKind) (n : ℕ) (order : List ℕ) (each kept : Bool) → IsTrue each ↔ IsPermutation (source_order n) order → each ≡ true → IsTrue kept ↔ KeepsTail kind (length order) order
    → IsTrue kept ↔ IsPermutation (source_order n) order × KeepsTail kind n order
allowed_by kind n order true kept h e t =
    let many : length order ≡ n = length_permutation (source_order n) order (h.0 refl) ∙ length-range_with_len 0 n in
    (λ yes. (h.0 refl, subst (λ (m : ℕ). KeepsTail kind m order) many (t.0 yes)), λ both. t.1 (subst (λ (m : ℕ). KeepsTail kind m order) (sym many) both.1))
allowed_by kind n order false kept h e t = cc

-- an allowed order of so many fields has no more indices, and none greater
pub few_allowed : {F : Type 0} (number : F → ℕ) (n most : ℕ) (order : List F) (Kept : Type 0) (allowed : Bool) → IsTrue allowed ↔ IsPermutation (source_order n) (map number order) × Kept → allowed ≡ true → n ≤ most + 1
    → (length order ≤ most + 1) × All (λ i. i ≤ most) (map number order)
few_allowed number n most order Kept allowed h e few =
    let p : IsPermutation (source_order n) (map number order) = (h.0 e).0 in
    let many : length (map number order) ≡ n = length_permutation (source_order n) (map number order) p ∙ length-range_with_len 0 n in
    (omega (arith, many, length-map order number, few), λ k d lt. omega (arith, within_order n (map number order) p k d lt, few))
