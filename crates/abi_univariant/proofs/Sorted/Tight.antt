-- A sorted order leaves no padding, or one rounding's worth.
use Rattle.std.proofs.Common.{◌≡◌, ℕ, ◌+◌, ◌^◌, ◌<◌, ◌≤◌, List, [], ◌∷◌, Option, length, map, get_or, fold, max, subst, arith}
use Rattle.std.specs.Prelude.{All, IsPermutation}
use Rattle.std.specs.Int.{next_multiple_of}
use Rattle.std.proofs.Math.Nat.{dvd-zero}
use Rattle.std.proofs.lemmas.List.{get_or-map, length-map}
use Rattle.std.proofs.lemmas.List.Elements.{All-head, All-tail, All-nil, All-cons}
use Rattle.std.proofs.lemmas.List.Sorted.{All-permutation}
use Rattle.abi_univariant.specs.declared.part.Part.{Part}
use Rattle.abi_univariant.specs.declared.order.SortKey.{SortKey}
use Rattle.abi_univariant.specs.declared.order.SortRule.{SortRule}
use Rattle.abi_univariant.specs.LawfulPart.{IsAlignedPart}
use Rattle.abi_univariant.specs.Placement.{cut, end_from, no_part, in_order, source_order}
use Rattle.abi_univariant.specs.Order.{key_at, sort_key, group_of, IsSortedOrder}
use Rattle.abi_univariant.proofs.Offsets.Ends.{IsGroup, Grouped, FallsFrom, RisesFrom, Capped, total, end_from-falling, end_from-rising}
use Rattle.abi_univariant.proofs.Offsets.Groups.{is_group, group_small}
use Rattle.abi_univariant.proofs.Sorted.Sorting.{Ascends, groups_ascend, rises, falls, within_order, in_order-permutation}

-- ---- the greatest of a list

abbrev pub greatest : (Part → ℕ) → ℕ → List Part → ℕ
greatest h a fs = fold (λ g f. max g (h f)) a fs

pub greatest_from : (h : Part → ℕ) (a : ℕ) (fs : List Part) → a ≤ greatest h a fs
greatest_from h a [] = omega arith
greatest_from h a (f ∷ fs) = let rest : max a (h f) ≤ greatest h (max a (h f)) fs = greatest_from h (max a (h f)) fs in omega arith

pub greatest_above : (h : Part → ℕ) (a : ℕ) (fs : List Part) → All (λ f. h f ≤ greatest h a fs) fs
greatest_above h a [] = All-nil (λ f. h f ≤ greatest h a [])
greatest_above h a (f ∷ fs) =
    let first : max a (h f) ≤ greatest h (max a (h f)) fs = greatest_from h (max a (h f)) fs in
    All-cons (λ x. h x ≤ greatest h a (f ∷ fs)) f fs (omega arith) (greatest_above h (max a (h f)) fs)

-- the greatest alignment has its limit
pub greatest_limit : (a : ℕ) (fs : List Part) → a ≤ 29 → All IsAlignedPart fs → greatest (λ f. f.align) a fs ≤ 29
greatest_limit a [] h law = h
greatest_limit a (f ∷ fs) h law =
    let one : IsAlignedPart f = All-head IsAlignedPart f fs law in
    let small : f.align ≤ 29 = one.aligned in
    greatest_limit (max a f.align) fs (omega arith) (All-tail IsAlignedPart f fs law)

-- ---- lists of fields

grouped : (pack : Option ℕ) (g : Part → ℕ) (fs : List Part) → All (λ f. IsGroup pack (g f) f) fs → Grouped pack g fs
grouped pack g [] all = tt
grouped pack g (f ∷ fs) all = (All-head (λ x. IsGroup pack (g x) x) f fs all, grouped pack g fs (All-tail (λ x. IsGroup pack (g x) x) f fs all))

pub capped : (pack : Option ℕ) (top : ℕ) (fs : List Part) → All (λ f. cut pack f.align ≤ top) fs → Capped pack top fs
capped pack top [] all = tt
capped pack top (f ∷ fs) all = (All-head (λ x. cut pack x.align ≤ top) f fs all, capped pack top fs (All-tail (λ x. cut pack x.align ≤ top) f fs all))

-- ---- sorted orders

-- what a rule asks of the fields that it sorts
pub record Sorts (rule : SortRule) (fields : List Part) (order : List ℕ) : Type 0 where
  pub lawful : All IsAlignedPart fields
  pub below : All (λ f. f.align ≤ rule.greatest_align) fields
  pub sorted : IsSortedOrder (map (sort_key rule) fields) order

abbrev keys_of : SortRule → List Part → List SortKey
keys_of rule fields = map (sort_key rule) fields

permutes : (rule : SortRule) (fields : List Part) (order : List ℕ) → IsSortedOrder (map (sort_key rule) fields) order → IsPermutation (source_order (length fields)) order
permutes rule fields order s = subst (λ n. IsPermutation (source_order n) order) (length-map fields (sort_key rule)) s.permutes

ascends : (keys : List SortKey) (order : List ℕ) → IsSortedOrder keys order → Ascends (λ i. (key_at keys i).group) order
ascends keys order s k d h = groups_ascend (key_at keys (get_or order k d)) (key_at keys (get_or order (k + 1) d)) (s.sorted k d (omega arith) h)

key_of : (rule : SortRule) (fields : List Part) (j : ℕ) → j < length fields → key_at (map (sort_key rule) fields) j ≡ sort_key rule (get_or fields j no_part)
key_of rule fields j h = get_or-map (sort_key rule) fields j no_part (record { group = 0; niche = 0; distance = 0 }) h

groups : (rule : SortRule) (fields : List Part) (order : List ℕ) → Sorts rule fields order → Grouped rule.pack (group_of rule) (in_order fields order)
groups rule fields order s =
    grouped rule.pack (group_of rule) (in_order fields order) (All-permutation (λ f. IsGroup rule.pack (group_of rule f) f) fields (in_order fields order)
    (in_order-permutation fields order (permutes rule fields order s.sorted))
    (λ k d h. is_group rule.pack rule (get_or fields k d) (s.lawful k d h) (s.below k d h)))

falling : (rule : SortRule) (fields : List Part) (order : List ℕ) → Sorts rule fields order
    → ((f : Part) → group_of rule f ≤ 64 → (sort_key rule f).group + group_of rule f ≡ 64) → All (λ i. i < length fields) order
    → (m : ℕ) × FallsFrom (group_of rule) m (in_order fields order)
falling rule fields [] s ranks within = (0, tt)
falling rule fields (i ∷ is) s ranks within = (
  group_of rule (get_or fields i no_part),
  (
    omega arith,
    falls fields (group_of rule) (λ j. (key_at (keys_of rule fields) j).group) i is
        (λ j h. rw (key_of rule fields j h) (ranks (get_or fields j no_part) (group_small rule.pack rule (get_or fields j no_part) (s.lawful j no_part h) (s.below j no_part h)))) within (ascends (keys_of rule fields) (i ∷ is) s.sorted),
  ),
)

rising : (rule : SortRule) (fields : List Part) (order : List ℕ) → Sorts rule fields order
    → ((f : Part) → (sort_key rule f).group ≡ group_of rule f) → All (λ i. i < length fields) order
    → (m : ℕ) × RisesFrom (group_of rule) m (in_order fields order)
rising rule fields [] s ranks within = (0, tt)
rising rule fields (i ∷ is) s ranks within = (
  group_of rule (get_or fields i no_part),
  (
    omega arith,
    rises fields (group_of rule) (λ j. (key_at (keys_of rule fields) j).group) i is
        (λ j h. rw (key_of rule fields j h) (ranks (get_or fields j no_part))) within (ascends (keys_of rule fields) (i ∷ is) s.sorted),
  ),
)

-- groups that descend from 0 leave no padding
pub end_from-descending : (rule : SortRule) (fields : List Part) (order : List ℕ) → Sorts rule fields order
    → ((f : Part) → group_of rule f ≤ 64 → (sort_key rule f).group + group_of rule f ≡ 64) → end_from rule.pack 0 (in_order fields order) ≡ total (in_order fields order)
end_from-descending rule fields order s ranks =
    let f = falling rule fields order s ranks (within_order (length fields) order (permutes rule fields order s.sorted)) in
    omega (arith, end_from-falling rule.pack (group_of rule) f.0 0 (in_order fields order) (groups rule fields order s) f.1 (dvd-zero (2 ^ f.0)))

-- groups that ascend from anywhere leave what one rounding leaves
pub end_from-ascending : (rule : SortRule) (top from : ℕ) (fields : List Part) (order : List ℕ) → Sorts rule fields order
    → ((f : Part) → (sort_key rule f).group ≡ group_of rule f) → Capped rule.pack top (in_order fields order)
    → next_multiple_of (end_from rule.pack from (in_order fields order)) (2 ^ top) ≡ next_multiple_of (from + total (in_order fields order)) (2 ^ top)
end_from-ascending rule top from fields order s ranks cap =
    let r = rising rule fields order s ranks (within_order (length fields) order (permutes rule fields order s.sorted)) in
    end_from-rising rule.pack (group_of rule) top r.0 from (in_order fields order) (groups rule fields order s) r.1 cap
