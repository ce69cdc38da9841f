-- Worked facts: which orders are allowed, that one of them has the least size, and which sizes some have.
use Rattle.std.proofs.Common.{◌≡◌, ◌≢◌, ℕ, zero, suc, ◌-◌, ◌<◌, ◌≤◌, Bool, true, false, List, [], ◌∷◌, None, inl, inr, length, refl, sym, ap, ◌∙◌, arith, ⊎_elim}
use Rattle.std.specs.Prelude.{◌⊎◌, All, AllPairs, IsPermutation, MatchBool, slice_index}
use Rattle.std.proofs.lemmas.List.FromFn.{get_or-range_with_len}
use Rattle.std.proofs.lemmas.List.Sorted.{IsPermutation-refl, length_permutation}
use Rattle.abi_base.specs.declared.struct_kind.StructKind.{StructKind}
use Rattle.abi_base.specs.declared.struct_kind.StructKind.TheVariants.{AlwaysSized, MaybeUnsized, Prefixed}
use Rattle.std.proofs.lemmas.Bool.{cases_lt}
use Rattle.abi_univariant.specs.declared.fields_repr.FieldsRepr.{FieldsRepr}
use Rattle.abi_scalar.specs.declared.backend_repr.BackendRepr.TheVariants.{Memory}
use Rattle.abi_univariant.specs.declared.part.Part.{Part}
use Rattle.abi_univariant.specs.Placement.{IsAllowed, IsNonEmptyIfUnsized, KeepsTail, size_in, source_order}
use Rattle.abi_univariant.proofs.Sorted.Orders.{least_order}
use Rattle.abi_univariant.proofs.Placed.PlacingLemmas.{order_differs}
use Rattle.abi_univariant.proofs.Sorted.Sorting.{within_order}

-- ---- source order is always allowed

pub source_keeps : (kind : StructKind) (n : ℕ) → IsNonEmptyIfUnsized kind n → KeepsTail kind n (source_order n)
source_keeps AlwaysSized n some = tt
source_keeps MaybeUnsized n some = get_or-range_with_len 0 n (n - 1) 0 (omega arith) ∙ (omega arith)
source_keeps (Prefixed size align) n some = tt

source_cases : (b : Bool) (kind : StructKind) (n : ℕ) → IsNonEmptyIfUnsized kind n
    → MatchBool b (IsPermutation (source_order n) (source_order n) × KeepsTail kind n (source_order n)) (source_order n ≡ source_order n)
source_cases true kind n some = (IsPermutation-refl (source_order n), source_keeps kind n some)
source_cases false kind n some = refl

pub source_allowed : (repr : FieldsRepr) (n : ℕ) → IsNonEmptyIfUnsized repr.kind n → IsAllowed repr n (source_order n)
source_allowed repr n some = source_cases repr.reorderable repr.kind n some

-- ---- some allowed order has the least size

keeps_decided : (kind : StructKind) (n : ℕ) (order : List ℕ) → KeepsTail kind n order ⊎ (KeepsTail kind n order → ⊥)
keeps_decided AlwaysSized n order = inl tt
keeps_decided MaybeUnsized n order = ⊎_elim
    (λ (l : slice_index order (n - 1) < n - 1). inr (λ e. omega arith))
    (λ (h : n - 1 ≤ slice_index order (n - 1)). ⊎_elim (λ (l : n - 1 < slice_index order (n - 1)). inr (λ e. omega arith)) (λ (l : slice_index order (n - 1) ≤ n - 1). inl (omega arith)) (cases_lt (n - 1) (slice_index order (n - 1))))
    (cases_lt (slice_index order (n - 1)) (n - 1))
keeps_decided (Prefixed size align) n order = inl tt

least_cases : (b : Bool) (kind : StructKind) (n : ℕ) (size : List ℕ → ℕ) → IsNonEmptyIfUnsized kind n
    → (order : List ℕ) × MatchBool b (IsPermutation (source_order n) order × KeepsTail kind n order) (order ≡ source_order n)
    × ((other : List ℕ) → MatchBool b (IsPermutation (source_order n) other × KeepsTail kind n other) (other ≡ source_order n) → size order ≤ size other)
least_cases true kind n size some =
    least_order n (λ order. IsPermutation (source_order n) order × KeepsTail kind n order) size (λ order q. q.0)
    (λ order p. ⊎_elim (λ (keeps : KeepsTail kind n order). inl (p, keeps)) (λ (no : KeepsTail kind n order → ⊥). inr (λ q. no q.1)) (keeps_decided kind n order))
    (source_order n) (IsPermutation-refl (source_order n), source_keeps kind n some)
least_cases false kind n size some = (source_order n, refl, λ other is. let same : size other ≡ size (source_order n) = ap size is in omega arith)

-- whatever the fields, some allowed order has the least size of all allowed orders
pub some_least : (repr : FieldsRepr) (fields : List Part) → IsNonEmptyIfUnsized repr.kind (length fields)
    → (order : List ℕ) × IsAllowed repr (length fields) order × ((other : List ℕ) → IsAllowed repr (length fields) other → size_in repr fields order ≤ size_in repr fields other)
some_least repr fields some = least_cases repr.reorderable repr.kind (length fields) (size_in repr fields) some

-- ---- three fields in free order have these six orders, and no other

-- the order is one of the six of three fields
abbrev pub IsOneOfSix : List ℕ → Type 0
IsOneOfSix order =
    ((order ≡ 0 ∷ 1 ∷ 2 ∷ []) ⊎ ((order ≡ 0 ∷ 2 ∷ 1 ∷ []) ⊎ ((order ≡ 1 ∷ 0 ∷ 2 ∷ []) ⊎ ((order ≡ 1 ∷ 2 ∷ 0 ∷ []) ⊎ ((order ≡ 2 ∷ 0 ∷ 1 ∷ []) ⊎ (order ≡ 2 ∷ 1 ∷ 0 ∷ []))))))

three : (a : ℕ) → a < 3 → (a ≡ 0) ⊎ ((a ≡ 1) ⊎ (a ≡ 2))
three zero h = inl refl
three (suc zero) h = inr (inl refl)
three (suc (suc zero)) h = inr (inr refl)
three (suc (suc (suc a))) h = absurd (omega arith)

pick : (a b c : ℕ) → (a ≡ 0) ⊎ ((a ≡ 1) ⊎ (a ≡ 2)) → (b ≡ 0) ⊎ ((b ≡ 1) ⊎ (b ≡ 2)) → (c ≡ 0) ⊎ ((c ≡ 1) ⊎ (c ≡ 2)) → a ≢ b → a ≢ c → b ≢ c → IsOneOfSix (a ∷ b ∷ c ∷ [])
pick a b c (inl x) (inl y) z d e f = absurd (d (x ∙ sym y))
pick a b c (inl x) (inr (inl y)) (inl z) d e f = absurd (e (x ∙ sym z))
pick a b c (inl x) (inr (inl y)) (inr (inl z)) d e f = absurd (f (y ∙ sym z))
pick a b c (inl x) (inr (inl y)) (inr (inr z)) d e f = inl (cc)
pick a b c (inl x) (inr (inr y)) (inl z) d e f = absurd (e (x ∙ sym z))
pick a b c (inl x) (inr (inr y)) (inr (inl z)) d e f = inr (inl (cc))
pick a b c (inl x) (inr (inr y)) (inr (inr z)) d e f = absurd (f (y ∙ sym z))
pick a b c (inr (inl x)) (inl y) (inl z) d e f = absurd (f (y ∙ sym z))
pick a b c (inr (inl x)) (inl y) (inr (inl z)) d e f = absurd (e (x ∙ sym z))
pick a b c (inr (inl x)) (inl y) (inr (inr z)) d e f = inr (inr (inl (cc)))
pick a b c (inr (inl x)) (inr (inl y)) z d e f = absurd (d (x ∙ sym y))
pick a b c (inr (inl x)) (inr (inr y)) (inl z) d e f = inr (inr (inr (inl (cc))))
pick a b c (inr (inl x)) (inr (inr y)) (inr (inl z)) d e f = absurd (e (x ∙ sym z))
pick a b c (inr (inl x)) (inr (inr y)) (inr (inr z)) d e f = absurd (f (y ∙ sym z))
pick a b c (inr (inr x)) (inl y) (inl z) d e f = absurd (f (y ∙ sym z))
pick a b c (inr (inr x)) (inl y) (inr (inl z)) d e f = inr (inr (inr (inr (inl (cc)))))
pick a b c (inr (inr x)) (inl y) (inr (inr z)) d e f = absurd (e (x ∙ sym z))
pick a b c (inr (inr x)) (inr (inl y)) (inl z) d e f = inr (inr (inr (inr (inr (cc)))))
pick a b c (inr (inr x)) (inr (inl y)) (inr (inl z)) d e f = absurd (f (y ∙ sym z))
pick a b c (inr (inr x)) (inr (inl y)) (inr (inr z)) d e f = absurd (e (x ∙ sym z))
pick a b c (inr (inr x)) (inr (inr y)) z d e f = absurd (d (x ∙ sym y))

listed : (order : List ℕ) → length order ≡ 3 → All (λ i. i < 3) order → AllPairs (λ i j. i ≢ j) order → IsOneOfSix order
listed [] e within differ = cc
listed (a ∷ []) e within differ = absurd (omega arith)
listed (a ∷ b ∷ []) e within differ = absurd (omega arith)
listed (a ∷ b ∷ c ∷ []) e within differ =
    pick a b c (three a (within 0 0 (omega arith))) (three b (within 1 0 (omega arith))) (three c (within 2 0 (omega arith)))
    (differ 0 1 0 (omega arith) (omega arith)) (differ 0 2 0 (omega arith) (omega arith)) (differ 1 2 0 (omega arith) (omega arith))
listed (a ∷ b ∷ c ∷ d ∷ order) e within differ = absurd (omega arith)

pub six_orders : (order : List ℕ) → IsPermutation (source_order 3) order → IsOneOfSix order
six_orders order p = listed order (length_permutation (source_order 3) order p) (within_order 3 order p) (order_differs 3 order p)

pub order_012 : IsPermutation (source_order 3) (0 ∷ 1 ∷ 2 ∷ [])
order_012 = record { moves = []; below = tt; is = refl }

pub order_021 : IsPermutation (source_order 3) (0 ∷ 2 ∷ 1 ∷ [])
order_021 = record { moves = (1, 2) ∷ []; below = (omega arith, omega arith, tt); is = refl }

pub order_102 : IsPermutation (source_order 3) (1 ∷ 0 ∷ 2 ∷ [])
order_102 = record { moves = (0, 1) ∷ []; below = (omega arith, omega arith, tt); is = refl }

pub order_120 : IsPermutation (source_order 3) (1 ∷ 2 ∷ 0 ∷ [])
order_120 = record { moves = (0, 2) ∷ (1, 2) ∷ []; below = (omega arith, omega arith, (omega arith, omega arith, tt)); is = refl }

pub order_201 : IsPermutation (source_order 3) (2 ∷ 0 ∷ 1 ∷ [])
order_201 = record { moves = (0, 1) ∷ (1, 2) ∷ []; below = (omega arith, omega arith, (omega arith, omega arith, tt)); is = refl }

pub order_210 : IsPermutation (source_order 3) (2 ∷ 1 ∷ 0 ∷ [])
order_210 = record { moves = (0, 2) ∷ []; below = (omega arith, omega arith, tt); is = refl }

-- ---- with a tail there are two, and under C there is one

last_of : (order list : List ℕ) → order ≡ list → slice_index order 2 ≡ 2 → slice_index list 2 ≡ 2
last_of order list e keeps = ap (λ xs. slice_index xs 2) (sym e) ∙ keeps

differs : (a : ℕ) → a ≡ 2 → a < 2 → ⊥
differs a e h = omega arith

two_of_six : (order : List ℕ) → IsOneOfSix order → slice_index order 2 ≡ 2 → (order ≡ 0 ∷ 1 ∷ 2 ∷ []) ⊎ (order ≡ 1 ∷ 0 ∷ 2 ∷ [])
two_of_six order (inl e) keeps = inl e
two_of_six order (inr (inl e)) keeps = absurd (differs 1 (last_of order (0 ∷ 2 ∷ 1 ∷ []) e keeps) (omega arith))
two_of_six order (inr (inr (inl e))) keeps = inr e
two_of_six order (inr (inr (inr (inl e)))) keeps = absurd (differs 0 (last_of order (1 ∷ 2 ∷ 0 ∷ []) e keeps) (omega arith))
two_of_six order (inr (inr (inr (inr (inl e))))) keeps = absurd (differs 1 (last_of order (2 ∷ 0 ∷ 1 ∷ []) e keeps) (omega arith))
two_of_six order (inr (inr (inr (inr (inr e))))) keeps = absurd (differs 0 (last_of order (2 ∷ 1 ∷ 0 ∷ []) e keeps) (omega arith))

abbrev pub free_list : StructKind → FieldsRepr
free_list kind = record { kind = kind; pack = None; align = 0; reorderable = true }

abbrev pub fixed_list : StructKind → FieldsRepr
fixed_list kind = record { kind = kind; pack = None; align = 0; reorderable = false }

pub two_orders : (order : List ℕ) → IsAllowed (free_list MaybeUnsized) 3 order → (order ≡ 0 ∷ 1 ∷ 2 ∷ []) ⊎ (order ≡ 1 ∷ 0 ∷ 2 ∷ [])
two_orders order allowed = two_of_six order (six_orders order allowed.0) allowed.1

pub one_order : (kind : StructKind) (order : List ℕ) → IsAllowed (fixed_list kind) 3 order → order ≡ 0 ∷ 1 ∷ 2 ∷ []
one_order kind order allowed = allowed

-- ---- so the clauses on sizes refuse these bodies

-- bytes in memory of this size and alignment
abbrev pub bytes : (size align : ℕ) → Part
bytes size align = record { size = size; align = align; unadjusted_align = align; view = Memory true; largest_niche = None; free = 0; after = 0 }

-- one that keeps source order: u8, u32, u16 take 12 bytes in it, and 8 as u32, u16, u8
pub source_is_larger : size_in (free_list AlwaysSized) (bytes 1 0 ∷ bytes 4 2 ∷ bytes 2 1 ∷ []) (0 ∷ 1 ∷ 2 ∷ []) ≡ 12
source_is_larger = refl

pub moved_is_smaller : size_in (free_list AlwaysSized) (bytes 1 0 ∷ bytes 4 2 ∷ bytes 2 1 ∷ []) (1 ∷ 2 ∷ 0 ∷ []) ≡ 8
moved_is_smaller = refl

-- one that sorts down behind a prefix: behind one byte [u8; 4], u16, u32 take 16 bytes as [u8; 4], u32, u16, and 12 as u16, [u8; 4], u32
pub descending_is_larger : size_in (free_list (Prefixed 1 0)) (bytes 4 0 ∷ bytes 2 1 ∷ bytes 4 2 ∷ []) (0 ∷ 2 ∷ 1 ∷ []) ≡ 16
descending_is_larger = refl

pub ascending_is_smaller : size_in (free_list (Prefixed 1 0)) (bytes 4 0 ∷ bytes 2 1 ∷ bytes 4 2 ∷ []) (1 ∷ 0 ∷ 2 ∷ []) ≡ 12
ascending_is_smaller = refl

-- one that tests the bound before rounding: 32767 bytes in a list aligned to two take 32768 in their only order
pub rounding_reaches_the_bound : size_in (record { kind = AlwaysSized; pack = None; align = 1; reorderable = true }) (bytes 32767 0 ∷ []) (0 ∷ []) ≡ 32768
rounding_reaches_the_bound = refl

-- one that always refuses: no fields take no bytes in their only order
pub nothing_is_small : size_in (free_list AlwaysSized) [] [] ≡ 0
nothing_is_small = refl
