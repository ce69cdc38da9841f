-- The order that a list's fields are sorted into.
use Rattle.std.proofs.Common.{◌≡◌, ℕ, suc, ◌+◌, ◌-◌, ◌<◌, ◌≤◌, true, false, List, [], ◌∷◌, ◌++◌, ◌∙◌, append-nil, map, take, length, get_or, refl, sym, ap, subst, arith, length-take, add-one, ltb, lt-ltb, ⊎_elim}
use Rattle.std.specs.Prelude.{All, IfOk, IsPermutation, Result, Ok, Err}
use Rattle.std.specs.Ordering.{is_lt}
use Rattle.std.proofs.lemmas.List.Elements.{All-head, All-tail, All-take}
use Rattle.std.proofs.lemmas.List.Sorted.{All-permutation, IsPermutation-map, IsPermutation-refl}
use Rattle.std.proofs.lemmas.List.FromFn.{length-range_with_len, get_or-range_with_len, fill_by_all}
use Rattle.std.proofs.lemmas.Bool.{cases_lt}
use Rattle.std.proofs.lemmas.List.{length-map}
use Rattle.abi_univariant.proofs.Offsets.Steps.{source_more}
use Rattle.abi_univariant.specs.declared.part.Part.{Part}
use Rattle.abi_base.specs.declared.struct_kind.StructKind.{StructKind}
use Rattle.abi_base.specs.declared.struct_kind.StructKind.TheVariants.{AlwaysSized, MaybeUnsized, Prefixed}
use Rattle.abi_univariant.specs.declared.order.SortKey.{SortKey}
use Rattle.abi_univariant.specs.Placement.{IsNonEmptyIfUnsized, no_part, in_order, source_order}
use Rattle.abi_univariant.specs.declared.fields_repr.FieldsRepr.{FieldsRepr}
use Rattle.abi_univariant.specs.declared.order.NicheBias.{NicheBias}
use Rattle.abi_univariant.specs.Order.{IsSortedBefore, IsSortedOrder, movable_front, rule_of, sort_key, tail, compare_keys}
use Rattle.abi_univariant.proofs.Offsets.Ends.{RisesFrom, FallsFrom}

-- what holds of all holds of those that may move
pub movable_all : {A : Type 0} (P : A → Type 0) (kind : StructKind) (fields : List A) → All P fields → All P (movable_front kind fields)
movable_all P AlwaysSized fields law = law
movable_all P MaybeUnsized fields law = All-take P (length fields - 1) fields law
movable_all P (Prefixed size align) fields law = law

pub tail_of_all : (kind : StructKind) (fields : List Part) → IsNonEmptyIfUnsized kind (length fields) → length fields ≤ length (movable_front kind fields) → [] ≡ tail kind fields
tail_of_all AlwaysSized fields some h = refl
tail_of_all MaybeUnsized fields some h = absurd (omega (arith, length-take (length fields - 1) fields))
tail_of_all (Prefixed size align) fields some h = refl

pub tail_of_front : (kind : StructKind) (fields : List Part) → length (movable_front kind fields) < length fields → length (movable_front kind fields) ∷ [] ≡ tail kind fields
tail_of_front AlwaysSized fields h = absurd (omega arith)
tail_of_front MaybeUnsized fields h = ap (λ n. n ∷ []) (omega (arith, length-take (length fields - 1) fields))
tail_of_front (Prefixed size align) fields h = absurd (omega arith)

-- ---- fewer than two that may move are sorted as they stand

few_sorted : (keys : List SortKey) → length keys < 2 → IsSortedOrder keys (source_order (length keys))
few_sorted keys few = record {
  permutes = IsPermutation-refl (source_order (length keys));
  sorted = λ k d low high. absurd (omega (arith, high, few, length-range_with_len 0 (length keys)));
  stable = λ x. refl;
}

source_before : (kind : StructKind) (fields : List Part) → IsNonEmptyIfUnsized kind (length fields) → source_order (length fields) ≡ source_order (length (movable_front kind fields)) ++ tail kind fields
source_before AlwaysSized fields some = sym (append-nil (source_order (length fields)))
source_before MaybeUnsized fields some =
    let all : length fields ≡ (length fields - 1) + 1 = omega (arith, some) in
    let front : length fields - 1 ≡ length (take (length fields - 1) fields) = omega (arith, length-take (length fields - 1) fields) in
    ap source_order all ∙ source_more (length fields - 1) ∙ ap (λ n. source_order n ++ (length fields - 1) ∷ []) front
source_before (Prefixed size align) fields some = sym (append-nil (source_order (length fields)))

-- so source order is the one that is named
pub few_named : (repr : FieldsRepr) (bias : NicheBias) (fields : List Part) → IsNonEmptyIfUnsized repr.kind (length fields) → length (movable_front repr.kind fields) < 2 → IsSortedBefore repr bias fields (source_order (length fields))
few_named repr bias fields some few =
    let front = movable_front repr.kind fields in
    let key = sort_key (rule_of repr bias front) in
    let many : length (map key front) ≡ length front = length-map front key in (
      source_order (length front),
      subst (λ n. IsSortedOrder (map key front) (source_order n)) many (few_sorted (map key front) (omega (arith, many, few))),
      source_before repr.kind fields some,
    )

-- what holds of a list holds of the items that are that list
pub items_have : {A E : Type 0} (items : A → List ℕ) (P : List ℕ → Type 0) (xs : List ℕ) (r : Result A E) → IfOk r (λ a. items a ≡ xs) → P xs → IfOk r (λ a. P (items a))
items_have items P xs (Ok a) is h = subst P (sym is) h
items_have items P xs (Err e) is h = tt

-- ---- groups along a sorted order

-- keys in order have groups in order
pub groups_ascend : (a b : SortKey) → is_lt (compare_keys b a) ≡ false → a.group ≤ b.group
groups_ascend a b h = ⊎_elim (λ (l : b.group < a.group). absurd (less l)) (λ (l : a.group ≤ b.group). l) (cases_lt b.group a.group)
  where
    less : b.group < a.group → ⊥
    less l = let yes : ltb b.group a.group ≡ true = lt-ltb b.group a.group l in let no : true ≡ false = rw yes at h in cc

-- each rank is at most the next one's
abbrev pub Ascends : (ℕ → ℕ) → List ℕ → Type 0
Ascends rank order = (k : ℕ) (d : ℕ) → k + 1 < length order → rank (get_or order k d) ≤ rank (get_or order (k + 1) d)

ascends_tail : (rank : ℕ → ℕ) (i : ℕ) (is : List ℕ) → Ascends rank (i ∷ is) → Ascends rank is
ascends_tail rank i is up k d l = rw (add-one k) (rw (add-one (suc k)) at (up (suc k) d (omega arith)))

pub rises : (fields : List Part) (g : Part → ℕ) (rank : ℕ → ℕ) (i : ℕ) (is : List ℕ)
    → ((j : ℕ) → j < length fields → rank j ≡ g (get_or fields j no_part)) → All (λ j. j < length fields) (i ∷ is) → Ascends rank (i ∷ is)
    → RisesFrom g (g (get_or fields i no_part)) (in_order fields is)
rises fields g rank i [] same within up = tt
rises fields g rank i (j ∷ js) same within up =
    let rest : All (λ k. k < length fields) (j ∷ js) = All-tail (λ k. k < length fields) i (j ∷ js) within in
    let here : rank i ≡ g (get_or fields i no_part) = same i (All-head (λ k. k < length fields) i (j ∷ js) within) in
    let next : rank j ≡ g (get_or fields j no_part) = same j (All-head (λ k. k < length fields) j js rest) in
    let step : rank i ≤ rank j = up 0 0 (omega arith) in
    (omega arith, rises fields g rank j js same rest (ascends_tail rank i (j ∷ js) up))

-- ranks that rise as groups fall
pub falls : (fields : List Part) (g : Part → ℕ) (rank : ℕ → ℕ) (i : ℕ) (is : List ℕ)
    → ((j : ℕ) → j < length fields → rank j + g (get_or fields j no_part) ≡ 64) → All (λ j. j < length fields) (i ∷ is) → Ascends rank (i ∷ is)
    → FallsFrom g (g (get_or fields i no_part)) (in_order fields is)
falls fields g rank i [] same within up = tt
falls fields g rank i (j ∷ js) same within up =
    let rest : All (λ k. k < length fields) (j ∷ js) = All-tail (λ k. k < length fields) i (j ∷ js) within in
    let here : rank i + g (get_or fields i no_part) ≡ 64 = same i (All-head (λ k. k < length fields) i (j ∷ js) within) in
    let next : rank j + g (get_or fields j no_part) ≡ 64 = same j (All-head (λ k. k < length fields) j js rest) in
    let step : rank i ≤ rank j = up 0 0 (omega arith) in
    (omega arith, falls fields g rank j js same rest (ascends_tail rank i (j ∷ js) up))

-- ---- the fields that an order names

-- each index of an order is in range
pub within_order : (n : ℕ) (order : List ℕ) → IsPermutation (source_order n) order → All (λ i. i < n) order
within_order n order p = All-permutation (λ i. i < n) (source_order n) order p (λ k d l. let short : k < n = omega (arith, length-range_with_len 0 n) in omega (arith, get_or-range_with_len 0 n k d short))

-- source order names the fields themselves
pub in_order-source : (fields : List Part) → in_order fields (source_order (length fields)) ≡ fields
in_order-source fields = sym (fill_by_all (λ i. get_or fields i no_part) fields (length fields) no_part refl (λ k h. refl))

pub in_order-permutation : (fields : List Part) (order : List ℕ) → IsPermutation (source_order (length fields)) order → IsPermutation fields (in_order fields order)
in_order-permutation fields order p =
    subst (λ xs. IsPermutation xs (in_order fields order)) (in_order-source fields) (IsPermutation-map (λ i. get_or fields i no_part) (source_order (length fields)) order p)
