-- Views of lists.
use Rattle.std.proofs.Common.{◌≡◌, ℕ, zero, suc, ◌+◌, ◌^◌, ◌<◌, ◌≤◌, Bool, true, false, List, [], ◌∷◌, ◌++◌, append-nil, get_or, length, refl, sym, ap, ◌∙◌, subst, arith}
use Rattle.std.specs.Prelude.{All, filter, if◌then◌else◌}
use Rattle.std.specs.List.{range_with_len}
use Rattle.std.proofs.lemmas.List.Elements.{All-cons, All-head, All-nil, All-tail, filter-append}
use Rattle.std.specs.Int.{◌∣◌}
use Rattle.std.proofs.Math.Nat.{two-pow-succ}
use Rattle.std.proofs.lemmas.Nat.{pow_pos}
use Rattle.std.proofs.lemmas.Nat.Gcd.{le_of_dvd}
use Rattle.std.proofs.lemmas.List.FromFn.{length-range_with_len, get_or-range_with_len}
use Rattle.abi_base.specs.declared.data_layout.TargetDataLayout.{TargetDataLayout}
use Rattle.abi_base.specs.declared.primitive.Primitive.{Primitive}
use Rattle.abi_base.specs.declared.primitive.Primitive.TheVariants.{Int, Float, Pointer}
use Rattle.abi_base.specs.DataLayout.{IsLawfulDataLayout}
use Rattle.abi_base.specs.Primitive.{KnowsPrimitive, primitive_size, primitive_align, IsLawfulPrimitive}
use Rattle.abi_scalar.specs.declared.scalar.Scalar.{Scalar}
use Rattle.abi_scalar.specs.Scalar.{primitive_of, scalar_size, scalar_align, IsLawfulScalar}
use Rattle.abi_univariant.specs.declared.part.Part.{Part}
use Rattle.abi_univariant.specs.ListView.{bulk_of, bulk_with, bulky_parts, bulky_view, is_bulky, one_view, part_at, two_view}
use Rattle.abi_univariant.specs.declared.list_view.Bulk.{Bulk}
use Rattle.abi_univariant.specs.declared.list_view.Bulk.TheVariants.{One, Two, More}
use Rattle.abi_univariant.proofs.Views.NicheLemmas.{readable_size}
use Rattle.abi_univariant.specs.Placement.{source_order}

range_grows : (a k : ℕ) → range_with_len a (suc k) ≡ range_with_len a k ++ (a + k) ∷ []
range_grows a zero = ap (λ x. x ∷ []) (omega arith)
range_grows a (suc k) = ap (λ xs. a ∷ xs) (range_grows (a + 1) k ∙ ap (λ x. range_with_len (a + 1) k ++ x ∷ []) (omega arith))

pub source_more : (n : ℕ) → source_order (n + 1) ≡ source_order n ++ n ∷ []
source_more n =
    let one : n + 1 ≡ suc n = omega arith in
    ap source_order one ∙ range_grows 0 n ∙ ap (λ x. source_order n ++ x ∷ []) (omega arith)

filter_push : (P : ℕ → Bool) (xs : List ℕ) (x : ℕ) → filter P (xs ++ x ∷ []) ≡ (if P x then filter P xs ++ x ∷ [] else filter P xs)
filter_push P xs x = filter-append P xs (x ∷ []) ∙ one (P x) refl
  where
    one : (b : Bool) → P x ≡ b → filter P xs ++ filter P (x ∷ []) ≡ (if b then filter P xs ++ x ∷ [] else filter P xs)
    one true e = rw e refl
    one false e = rw e (append-nil (filter P xs))

pub bulky_more : (P : ℕ → Bool) (n : ℕ) → filter P (source_order (n + 1)) ≡ (if P n then filter P (source_order n) ++ n ∷ [] else filter P (source_order n))
bulky_more P n = ap (filter P) (source_more n) ∙ filter_push P (source_order n) n

pub bulky_then : (P : ℕ → Bool) (n : ℕ) (now next : List ℕ) → now ≡ filter P (source_order n) → P n ≡ true → next ≡ now ++ n ∷ [] → next ≡ filter P (source_order (n + 1))
bulky_then P n now next inv holds pushed = pushed ∙ ap (λ xs. xs ++ n ∷ []) inv ∙ sym (rw holds at (bulky_more P n))

pub bulky_else : (P : ℕ → Bool) (n : ℕ) (now next : List ℕ) → now ≡ filter P (source_order n) → P n ≡ false → next ≡ now → next ≡ filter P (source_order (n + 1))
bulky_else P n now next inv fails same = same ∙ inv ∙ sym (rw fails at (bulky_more P n))

-- ---- which parts have bytes

kept_all : (b : Bool) (Q : ℕ → Type 0) (x : ℕ) (xs : List ℕ) → (b ≡ true → Q x) → All Q xs → All Q (if b then x ∷ xs else xs)
kept_all true Q x xs here rest = All-cons Q x xs (here refl) rest
kept_all false Q x xs here rest = rest

filter_all : (P : ℕ → Bool) (Q : ℕ → Type 0) (xs : List ℕ) → All Q xs → All Q (filter P xs)
filter_all P Q [] all = All-nil Q
filter_all P Q (x ∷ xs) all = kept_all (P x) Q x (filter P xs) (λ e. All-head Q x xs all) (filter_all P Q xs (All-tail Q x xs all))

source_within : (n : ℕ) → All (λ i. i < n) (source_order n)
source_within n k d h = let short : k < n = omega (arith, length-range_with_len 0 n) in omega (arith, get_or-range_with_len 0 n k d short)

pub bulky_within : (parts : List Part) → All (λ i. i < length parts) (bulky_parts parts)
bulky_within parts = filter_all (λ i. is_bulky (part_at parts i)) (λ i. i < length parts) (source_order (length parts)) (source_within (length parts))

-- ---- as many of them as a view asks for

bulk_push : (xs : List ℕ) (i : ℕ) → bulk_of (xs ++ i ∷ []) ≡ bulk_with (bulk_of xs) i
bulk_push [] i = refl
bulk_push (x ∷ []) i = refl
bulk_push (x ∷ y ∷ []) i = refl
bulk_push (x ∷ y ∷ z ∷ xs) i = refl

pub bulk_then : (P : ℕ → Bool) (n : ℕ) (now next : Bulk) → now ≡ bulk_of (filter P (source_order n)) → P n ≡ true → next ≡ bulk_with now n → next ≡ bulk_of (filter P (source_order (n + 1)))
bulk_then P n now next inv holds pushed =
    pushed ∙ ap (λ b. bulk_with b n) inv ∙ sym (bulk_push (filter P (source_order n)) n) ∙ ap bulk_of (bulky_then P n (filter P (source_order n)) (filter P (source_order n) ++ n ∷ []) refl holds refl)

pub bulk_else : (P : ℕ → Bool) (n : ℕ) (now next : Bulk) → now ≡ bulk_of (filter P (source_order n)) → P n ≡ false → next ≡ now → next ≡ bulk_of (filter P (source_order (n + 1)))
bulk_else P n now next inv fails same = same ∙ inv ∙ ap bulk_of (bulky_else P n (filter P (source_order n)) (filter P (source_order n)) refl fails refl)

-- once there are more than two, there are more
pub bulk_stays : (P : ℕ → Bool) (n k : ℕ) → bulk_of (filter P (source_order n)) ≡ More → bulk_of (filter P (source_order (n + k))) ≡ More
bulk_stays P n zero e = ap (λ m. bulk_of (filter P (source_order m))) (omega arith) ∙ e
bulk_stays P n (suc k) e =
    let same : n + suc k ≡ (n + k) + 1 = omega arith in
    let before = bulk_stays P n k e in
    ap (λ m. bulk_of (filter P (source_order m))) same ∙ next (P (n + k)) refl before
  where
    next : (b : Bool) → P (n + k) ≡ b → bulk_of (filter P (source_order (n + k))) ≡ More → bulk_of (filter P (source_order (n + k + 1))) ≡ More
    next true holds before = sym (bulk_then P (n + k) More More (sym before) holds refl)
    next false fails before = sym (bulk_else P (n + k) More More (sym before) fails refl)

pub one_of : (xs : List ℕ) (i : ℕ) → One i ≡ bulk_of xs → xs ≡ i ∷ []
one_of [] i e = cc
one_of (x ∷ []) i e = cc
one_of (x ∷ y ∷ []) i e = cc
one_of (x ∷ y ∷ z ∷ xs) i e = cc

pub two_of : (xs : List ℕ) (i j : ℕ) → Two i j ≡ bulk_of xs → xs ≡ i ∷ j ∷ []
two_of [] i j e = cc
two_of (x ∷ []) i j e = cc
two_of (x ∷ y ∷ []) i j e = cc
two_of (x ∷ y ∷ z ∷ xs) i j e = cc

pub one_within : (parts : List Part) (i : ℕ) → One i ≡ bulk_of (bulky_parts parts) → i < length parts
one_within parts i e = All-head (λ k. k < length parts) i [] (subst (All (λ k. k < length parts)) (one_of (bulky_parts parts) i e) (bulky_within parts))

pub two_within : (parts : List Part) (i j : ℕ) → Two i j ≡ bulk_of (bulky_parts parts) → (i < length parts) × (j < length parts)
two_within parts i j e =
    let both : All (λ k. k < length parts) (i ∷ j ∷ []) = subst (All (λ k. k < length parts)) (two_of (bulky_parts parts) i j e) (bulky_within parts) in
    (All-head (λ k. k < length parts) i (j ∷ []) both, All-head (λ k. k < length parts) j [] (All-tail (λ k. k < length parts) i (j ∷ []) both))

-- ---- scalars are small

below_power : (a : ℕ) → a < 2 ^ a
below_power zero = pow_pos 0
below_power (suc a) = omega (arith, below_power a, two-pow-succ a)

primitive_multiple : (dl : TargetDataLayout) (p : Primitive) → IsLawfulDataLayout dl → IsLawfulPrimitive dl p → 2 ^ primitive_align dl p ∣ primitive_size dl p
primitive_multiple dl (Int i s) law h = law.integers i
primitive_multiple dl (Float f) law h = law.floats f
primitive_multiple dl (Pointer space) law h = h.1.fits

-- A scalar that is lawful is known, and small.
pub record IsSmall (dl : TargetDataLayout) (s : Scalar) : Type 0 where
  pub known : KnowsPrimitive dl (primitive_of s)
  pub some : 1 ≤ scalar_size dl s
  pub most : scalar_size dl s ≤ 16
  pub align : scalar_align dl s ≤ 29

pub scalar_small : (dl : TargetDataLayout) (s : Scalar) → IsLawfulDataLayout dl → IsLawfulScalar dl s → IsSmall dl s
scalar_small dl s law h =
    let r = readable_size dl (primitive_of s) h.pointer in
    record { known = r.0; some = r.1; most = r.2; align = omega (arith, below_power (scalar_align dl s), le_of_dvd (omega (arith, r.1)) (primitive_multiple dl (primitive_of s) law h.pointer), r.2) }

-- ---- the view by them

pub one_read : (dl : TargetDataLayout) (fixed : Bool) (size align : ℕ) (parts : List Part) (offsets : List ℕ) (i offset : ℕ) (part : Part) → One i ≡ bulk_of (bulky_parts parts)
    → offset ≡ get_or offsets i 0 → part ≡ part_at parts i → one_view fixed size align offset part ≡ bulky_view dl fixed size align parts offsets (bulky_parts parts)
one_read dl fixed size align parts offsets i offset part e o p = rw (o, p) (sym (ap (bulky_view dl fixed size align parts offsets) (one_of (bulky_parts parts) i e)))

pub two_read : (dl : TargetDataLayout) (fixed : Bool) (size align : ℕ) (parts : List Part) (offsets : List ℕ) (i j first second : ℕ) (one other : Part) → Two i j ≡ bulk_of (bulky_parts parts)
    → first ≡ get_or offsets i 0 → second ≡ get_or offsets j 0 → one ≡ part_at parts i → other ≡ part_at parts j
    → two_view dl size align first one.view second other.view ≡ bulky_view dl fixed size align parts offsets (bulky_parts parts)
two_read dl fixed size align parts offsets i j first second one other e f s o t =
    rw (f, s, o, t) (sym (ap (bulky_view dl fixed size align parts offsets) (two_of (bulky_parts parts) i j e)))
