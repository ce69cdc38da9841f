-- There is a view that is named for a union: whether a view is kept can be told.
use Rattle.std.proofs.Common.{◌≡◌, get_or, ℕ, zero, suc, ◌≤◌, Bool, true, false, List, [], ◌∷◌, inl, inr, refl, sym, ap, ap₂, ◌∙◌, subst, arith}
use Rattle.std.specs.Prelude.{◌⊎◌, ◌≢◌, ◌==◌, All, Contains, max}
use Rattle.std.specs.Prelude.{nat_le}
use Rattle.std.proofs.lemmas.Bool.Decides.{eqb_tells, nat_tests}
use Rattle.std.proofs.lemmas.List.{map-id}
use Rattle.std.proofs.lemmas.List.Elements.{All-cons, All-contains, All-head, All-nil, All-tail}
use Rattle.abi_base.specs.declared.address_space.AddressSpace.{AddressSpace}
use Rattle.abi_base.specs.declared.data_layout.TargetDataLayout.{TargetDataLayout}
use Rattle.abi_base.specs.declared.float.Float.{Float as FloatFormat}
use Rattle.abi_base.specs.declared.float.Float.TheVariants.{F16, F16B, F32, F64, F128, PpcF128}
use Rattle.abi_base.specs.declared.integer.Integer.{Integer}
use Rattle.abi_base.specs.declared.integer.Integer.TheVariants.{I8, I16, I32, I64, I128}
use Rattle.abi_base.specs.declared.primitive.Primitive.{Primitive}
use Rattle.abi_base.specs.declared.primitive.Primitive.TheVariants.{Int, Float, Pointer}
use Rattle.abi_base.specs.declared.scalable.NumScalableVectors.{NumScalableVectors}
use Rattle.abi_scalar.specs.declared.backend_repr.BackendRepr.{BackendRepr}
use Rattle.abi_scalar.specs.declared.backend_repr.BackendRepr.TheVariants.{Scalar as OneScalar, ScalarPair, SimdScalableVector, SimdVector, Memory}
use Rattle.abi_scalar.specs.declared.layout_data.LayoutData.{LayoutData}
use Rattle.abi_scalar.specs.declared.repr.ReprOptions.{ReprOptions}
use Rattle.abi_scalar.specs.declared.scalar.Scalar.{Scalar}
use Rattle.abi_scalar.specs.declared.scalar.Scalar.TheVariants.{Initialized, Union}
use Rattle.abi_scalar.specs.declared.wrapping_range.WrappingRange.{WrappingRange}
use Rattle.abi_scalar.specs.Layout.{IsZst}
use Rattle.abi_scalar.specs.Repr.{is_c}
use Rattle.abi_scalar.specs.Scalar.{scalar_align}
use Rattle.abi_scalar.specs.View.{union_view}
use Rattle.abi_univariant.specs.Union.{CountsForView, HasView, IsAlignedFor, IsCommonView, IsUnionView, KeepsView, union_align}
use Rattle.abi_univariant.proofs.UnionsVectors.UnionLemmas.{not_aligned, not_common, not_free, same_view}

-- it holds, or it doesn't
abbrev pub IsTold : Type 0 → Type 0
IsTold A = A ⊎ (A → ⊥)

pub both : {A B : Type 0} → IsTold A → IsTold B → IsTold (A × B)
both (inl a) (inl b) = inl (a, b)
both (inl a) (inr n) = inr (λ p. n p.1)
both (inr n) t = inr (λ p. n p.0)

pub same_number : (m n : ℕ) → IsTold (m ≡ n)
same_number m n = told (eqb_tells m n)
  where
    told : (((m == n) ≡ true) × (m ≡ n)) ⊎ (((m == n) ≡ false) × (m ≢ n)) → IsTold (m ≡ n)
    told (inl t) = inl t.1
    told (inr f) = inr f.1

-- things that are distinguished by a number
by_number : {A : Type 0} → (number : A → ℕ) → (at : ℕ → A) → ((a : A) → at (number a) ≡ a) → (a b : A) → IsTold (a ≡ b)
by_number number at back a b = told (same_number (number a) (number b))
  where
    told : IsTold (number a ≡ number b) → IsTold (a ≡ b)
    told (inl e) = inl (sym (back a) ∙ ap at e ∙ back b)
    told (inr n) = inr (λ e. n (ap number e))

same_flag : (a b : Bool) → IsTold (a ≡ b)
same_flag true true = inl refl
same_flag false false = inl refl
same_flag true false = inr (λ e. cc)
same_flag false true = inr (λ e. cc)

abbrev integer_number : Integer → ℕ
integer_number I8 = 0
integer_number I16 = 1
integer_number I32 = 2
integer_number I64 = 3
integer_number I128 = 4

abbrev integers : List Integer
integers = I8 ∷ I16 ∷ I32 ∷ I64 ∷ I128 ∷ []

integer_back : (a : Integer) → get_or integers (integer_number a) I8 ≡ a
integer_back I8 = refl
integer_back _ = refl

abbrev float_number : FloatFormat → ℕ
float_number F16 = 0
float_number F16B = 1
float_number F32 = 2
float_number F64 = 3
float_number F128 = 4
float_number PpcF128 = 5

abbrev floats : List FloatFormat
floats = F16 ∷ F16B ∷ F32 ∷ F64 ∷ F128 ∷ PpcF128 ∷ []

float_back : (a : FloatFormat) → get_or floats (float_number a) F16 ≡ a
float_back F16 = refl
float_back _ = refl

same_integer : (a b : Integer) → IsTold (a ≡ b)
same_integer = by_number integer_number (λ n. get_or integers n I8) integer_back

same_float : (a b : FloatFormat) → IsTold (a ≡ b)
same_float = by_number float_number (λ n. get_or floats n F16) float_back

same_space : (a b : AddressSpace) → IsTold (a ≡ b)
same_space = by_number (λ s. s.0) (λ n. record { 0 = n }) (λ s. refl)

same_vectors : (a b : NumScalableVectors) → IsTold (a ≡ b)
same_vectors = by_number (λ s. s.0) (λ n. record { 0 = n }) (λ s. refl)

-- what two things are made of, alike in both parts or not
by_parts : (A B C : Type 0) → (A → B → C) → (C → A) → (C → B) → IsTold A → IsTold B → IsTold C
by_parts A B C make first second (inl a) (inl b) = inl (make a b)
by_parts A B C make first second (inl a) (inr n) = inr (λ c. n (second c))
by_parts A B C make first second (inr n) t = inr (λ c. n (first c))

by_part : (A C : Type 0) → (A → C) → (C → A) → IsTold A → IsTold C
by_part A C make part (inl a) = inl (make a)
by_part A C make part (inr n) = inr (λ c. n (part c))

same_primitive : (a b : Primitive) → IsTold (a ≡ b)
same_primitive (Int i s) (Int j t) =
    by_parts (i ≡ j) (s ≡ t) (Int i s ≡ Int j t) (λ p q. ap₂ (λ x y. Int x y) p q) (λ e. cc) (λ e. cc) (same_integer i j) (same_flag s t)
same_primitive (Int i s) (Float g) = inr (λ e. cc)
same_primitive (Int i s) (Pointer q) = inr (λ e. cc)
same_primitive (Float f) (Int j t) = inr (λ e. cc)
same_primitive (Float f) (Float g) = by_part (f ≡ g) (Float f ≡ Float g) (λ p. ap (λ x. Float x) p) (λ e. cc) (same_float f g)
same_primitive (Float f) (Pointer q) = inr (λ e. cc)
same_primitive (Pointer p) (Int j t) = inr (λ e. cc)
same_primitive (Pointer p) (Float g) = inr (λ e. cc)
same_primitive (Pointer p) (Pointer q) = by_part (p ≡ q) (Pointer p ≡ Pointer q) (λ e. ap (λ x. Pointer x) e) (λ e. cc) (same_space p q)

same_range : (a b : WrappingRange) → IsTold (a ≡ b)
same_range a b =
    by_parts (a.start ≡ b.start) (a.end ≡ b.end) (a ≡ b) (λ p q i. record { start = p i; end = q i }) (λ e. ap (λ r. r.start) e) (λ e. ap (λ r. r.end) e)
    (same_number a.start b.start) (same_number a.end b.end)

same_scalar : (a b : Scalar) → IsTold (a ≡ b)
same_scalar (Initialized p r) (Initialized q s) =
    by_parts (p ≡ q) (r ≡ s) (Initialized p r ≡ Initialized q s) (λ e f. ap₂ (λ x y. Initialized x y) e f) (λ e. cc) (λ e. cc) (same_primitive p q) (same_range r s)
same_scalar (Initialized p r) (Union q) = inr (λ e. cc)
same_scalar (Union p) (Initialized q s) = inr (λ e. cc)
same_scalar (Union p) (Union q) = by_part (p ≡ q) (Union p ≡ Union q) (λ e. ap (λ x. Union x) e) (λ e. cc) (same_primitive p q)

same_view_told : (a b : BackendRepr) → IsTold (a ≡ b)
same_view_told (OneScalar a) (OneScalar b) = by_part (a ≡ b) (OneScalar a ≡ OneScalar b) (λ e. ap (λ x. OneScalar x) e) (λ e. cc) (same_scalar a b)
same_view_told (OneScalar a) (ScalarPair c d o) = inr (λ e. cc)
same_view_told (OneScalar a) (SimdScalableVector f n w) = inr (λ e. cc)
same_view_told (OneScalar a) (SimdVector f n) = inr (λ e. cc)
same_view_told (OneScalar a) (Memory s) = inr (λ e. cc)
same_view_told (ScalarPair a b o) (OneScalar c) = inr (λ e. cc)
same_view_told (ScalarPair a b o) (ScalarPair c d p) =
    by_parts (a ≡ c) ((b ≡ d) × (o ≡ p)) (ScalarPair a b o ≡ ScalarPair c d p) (λ e f i. ScalarPair (e i) (f.0 i) (f.1 i)) (λ e. cc) (λ e. (cc, cc))
    (same_scalar a c) (both (same_scalar b d) (same_number o p))
same_view_told (ScalarPair a b o) (SimdScalableVector f n w) = inr (λ e. cc)
same_view_told (ScalarPair a b o) (SimdVector f n) = inr (λ e. cc)
same_view_told (ScalarPair a b o) (Memory s) = inr (λ e. cc)
same_view_told (SimdScalableVector a m v) (OneScalar c) = inr (λ e. cc)
same_view_told (SimdScalableVector a m v) (ScalarPair c d p) = inr (λ e. cc)
same_view_told (SimdScalableVector a m v) (SimdScalableVector f n w) =
    by_parts (a ≡ f) ((m ≡ n) × (v ≡ w)) (SimdScalableVector a m v ≡ SimdScalableVector f n w) (λ e g i. SimdScalableVector (e i) (g.0 i) (g.1 i)) (λ e. cc) (λ e. (cc, cc))
    (same_scalar a f) (both (same_number m n) (same_vectors v w))
same_view_told (SimdScalableVector a m v) (SimdVector f n) = inr (λ e. cc)
same_view_told (SimdScalableVector a m v) (Memory s) = inr (λ e. cc)
same_view_told (SimdVector a m) (OneScalar c) = inr (λ e. cc)
same_view_told (SimdVector a m) (ScalarPair c d p) = inr (λ e. cc)
same_view_told (SimdVector a m) (SimdScalableVector f n w) = inr (λ e. cc)
same_view_told (SimdVector a m) (SimdVector f n) =
    by_parts (a ≡ f) (m ≡ n) (SimdVector a m ≡ SimdVector f n) (λ e g. ap₂ (λ x y. SimdVector x y) e g) (λ e. cc) (λ e. cc) (same_scalar a f) (same_number m n)
same_view_told (SimdVector a m) (Memory s) = inr (λ e. cc)
same_view_told (Memory r) (OneScalar c) = inr (λ e. cc)
same_view_told (Memory r) (ScalarPair c d p) = inr (λ e. cc)
same_view_told (Memory r) (SimdScalableVector f n w) = inr (λ e. cc)
same_view_told (Memory r) (SimdVector f n) = inr (λ e. cc)
same_view_told (Memory r) (Memory s) = by_part (r ≡ s) (Memory r ≡ Memory s) (λ e. ap (λ x. Memory x) e) (λ e. cc) (same_flag r s)

pub is_at_most : (m n : ℕ) → (b : Bool) → nat_le m n ≡ b → IsTold (m ≤ n)
is_at_most m n true e = inl (grind (arith, nat_tests))
is_at_most m n false e = inr (λ h. grind (arith, nat_tests))

is_aligned_for : (dl : TargetDataLayout) (view : BackendRepr) (align : ℕ) → IsTold (IsAlignedFor dl view align)
is_aligned_for dl (OneScalar s) align = same_number (scalar_align dl s) align
is_aligned_for dl (ScalarPair a b o) align = same_number (max (scalar_align dl a) (scalar_align dl b)) align
is_aligned_for dl (SimdScalableVector e n w) align = inl tt
is_aligned_for dl (SimdVector e n) align = is_at_most (scalar_align dl e) align (nat_le (scalar_align dl e) align) refl
is_aligned_for dl (Memory s) align = inl tt

-- ---- fields

module _ {F V : Type 0} where
  is_zst : (l : LayoutData F V) → IsTold (IsZst l)
  is_zst l = both (same_view_told l.backend_repr (Memory true)) (same_number l.size 0)

  -- no field counts, or some field does
  abbrev HasCounted : List (LayoutData F V) → Type 0
  HasCounted ls = All (λ l. IsZst l) ls ⊎ ((l : LayoutData F V) × Contains ls l × CountsForView l)

  counted_more : (l : LayoutData F V) (ls : List (LayoutData F V)) → IsTold (IsZst l) → HasCounted ls → HasCounted (l ∷ ls)
  counted_more l ls (inr n) rest = inr (l, (zero, omega arith, refl), n)
  counted_more l ls (inl z) (inl all) = inl (All-cons (λ l. IsZst l) l ls z all)
  counted_more l ls (inl z) (inr some) = inr (some.0, (suc some.1.0, omega (arith, some.1.1), some.1.2), some.2)

  has_counted : (ls : List (LayoutData F V)) → HasCounted ls
  has_counted [] = inl (All-nil (λ l. IsZst l))
  has_counted (l ∷ ls) = counted_more l ls (is_zst l) (has_counted ls)

  -- a field that counts agrees with a view and an alignment, or one that counts doesn't
  module _ (view : BackendRepr) (align : ℕ) where
    abbrev Agrees : LayoutData F V → Type 0
    Agrees l = CountsForView l → HasView view align l

    agrees_if : (l : LayoutData F V) → IsTold (IsZst l) → IsTold (HasView view align l) → IsTold (Agrees l)
    agrees_if l (inl z) told = inl (λ n. absurd (n z))
    agrees_if l (inr n) (inl has) = inl (λ c. has)
    agrees_if l (inr n) (inr differs) = inr (λ agrees. differs (agrees n))

    has_view : (l : LayoutData F V) → IsTold (HasView view align l)
    has_view l = both (same_view_told (union_view l.backend_repr) view) (same_number l.align.abi align)

    all_more : (l : LayoutData F V) (ls : List (LayoutData F V)) → IsTold (Agrees l) → IsTold (All Agrees ls) → IsTold (All Agrees (l ∷ ls))
    all_more l ls (inl a) (inl all) = inl (All-cons Agrees l ls a all)
    all_more l ls (inl a) (inr n) = inr (λ all. n (All-tail Agrees l ls all))
    all_more l ls (inr n) told = inr (λ all. n (All-head Agrees l ls all))

    all_agree : (ls : List (LayoutData F V)) → IsTold (All Agrees ls)
    all_agree [] = inl (All-nil Agrees)
    all_agree (l ∷ ls) = all_more l ls (agrees_if l (is_zst l) (has_view l)) (all_agree ls)

  -- ---- the view of a union

  module _ (dl : TargetDataLayout) (repr : ReprOptions) (ls : List (LayoutData F V)) where
    abbrev pub HasUnionView : Type 0
    HasUnionView = (view : BackendRepr) × IsUnionView dl repr ls view

    in_memory : ((kept : BackendRepr) → KeepsView dl repr ls kept → ⊥) → HasUnionView
    in_memory none = (Memory true, inr (refl, none))

    -- no view is common where the fields that count don't agree with one of them
    no_other : (l : LayoutData F V) → Contains ls l → CountsForView l → (All (Agrees (union_view l.backend_repr) l.align.abi) ls → ⊥)
        → (view : BackendRepr) (align : ℕ) → IsCommonView ls view align → ⊥
    no_other l there n differ view align common =
        differ (same_view (λ (l : LayoutData F V). l) ls l view align there n (subst (λ fields. IsCommonView fields view align) (sym (map-id ls)) common))

    kept_if : is_c repr ≡ false → (l : LayoutData F V) → Contains ls l → CountsForView l → All (Agrees (union_view l.backend_repr) l.align.abi) ls
        → IsTold (IsAlignedFor dl (union_view l.backend_repr) (union_align dl repr ls)) → HasUnionView
    kept_if free l there n all (inl fits) =
        (union_view l.backend_repr, inl (record { free = free; common = (l.align.abi, record { some = (l, there, n); all = all }); fits = fits }))
    kept_if free l there n all (inr off) =
        in_memory (not_aligned dl repr ls (union_view l.backend_repr) l.align.abi (record { some = (l, there, n); all = all }) off)

    common_if : is_c repr ≡ false → (l : LayoutData F V) → Contains ls l → CountsForView l → IsTold (All (Agrees (union_view l.backend_repr) l.align.abi) ls) → HasUnionView
    common_if free l there n (inl all) = kept_if free l there n all (is_aligned_for dl (union_view l.backend_repr) (union_align dl repr ls))
    common_if free l there n (inr differ) = in_memory (not_common dl repr ls (no_other l there n differ))

    counted_if : is_c repr ≡ false → HasCounted ls → HasUnionView
    counted_if free (inl none) = in_memory (not_common dl repr ls (λ view align common. common.some.2 (All-contains (λ l. IsZst l) ls common.some.0 none common.some.1)))
    counted_if free (inr some) = common_if free some.0 some.1 some.2 (all_agree (union_view some.0.backend_repr) some.0.align.abi ls)

    free_if : (c : Bool) → is_c repr ≡ c → HasUnionView
    free_if true c = in_memory (not_free dl repr ls c)
    free_if false free = counted_if free (has_counted ls)

    pub some_union_view : HasUnionView
    some_union_view = free_if (is_c repr) refl
