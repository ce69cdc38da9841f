-- Unions: the greatest of their fields, and the view that these have in common.
use Rattle.std.proofs.Common.{◌≡◌, ℕ, zero, suc, ◌≤◌, ◌↔◌, List, [], ◌∷◌, true, false, length, map, get_or, refl, sym, ap, subst, ◌∙◌, arith, inl, inr}
use Rattle.std.specs.Prelude.{All, Contains}
use Rattle.std.proofs.lemmas.List.Elements.{All-contains, All-head, All-map, All-tail}
use Rattle.std.proofs.Math.ListN.{get_or-map}
use Rattle.std.proofs.lemmas.List.{length-map}
use Rattle.abi_base.specs.declared.data_layout.TargetDataLayout.{TargetDataLayout}
use Rattle.abi_base.specs.declared.primitive.Primitive.{Primitive}
use Rattle.abi_base.specs.declared.primitive.Primitive.TheVariants.{Int, Float, Pointer}
use Rattle.abi_base.specs.Primitive.{IsLawfulPrimitive, KnowsPrimitive}
use Rattle.abi_scalar.specs.declared.backend_repr.BackendRepr.{BackendRepr}
use Rattle.abi_scalar.specs.declared.backend_repr.BackendRepr.TheVariants.{Scalar as OneScalar, ScalarPair, SimdScalableVector, SimdVector, Memory}
use Rattle.abi_scalar.specs.declared.scalar.Scalar.TheVariants.{Union}
use Rattle.abi_scalar.specs.declared.layout_data.LayoutData.{LayoutData}
use Rattle.abi_scalar.specs.declared.repr.ReprOptions.{ReprOptions}
use Rattle.abi_scalar.specs.Layout.{IsZst}
use Rattle.abi_scalar.specs.Lawful.{IsLawfulLayout, IsLawfulView}
use Rattle.abi_scalar.specs.Repr.{is_c}
use Rattle.abi_scalar.specs.Scalar.{primitive_of}
use Rattle.abi_scalar.specs.View.{IsSameUpToValidity, union_view}
use Rattle.abi_univariant.specs.Fields.{greatest}
use Rattle.abi_univariant.specs.Union.{CountsForView, HasView, IsAlignedFor, IsCommonView, IsUnionView, KeepsView, KnowsScalarsOf, union_align}

-- what is read of each is at most the bound, and so is the greatest
pub greatest_most : {L : Type 0} (number : L → ℕ) (most : ℕ) (ls : List L) → All (λ l. number l ≤ most) ls → greatest (map number ls) ≤ most
greatest_most number most [] all = omega arith
greatest_most number most (l ∷ ls) all =
    let here : number l ≤ most = All-head (λ l. number l ≤ most) l ls all in
    let later : greatest (map number ls) ≤ most = greatest_most number most ls (All-tail (λ l. number l ≤ most) l ls all) in
    omega arith

-- the greatest is no less than any
pub greatest_above : {L : Type 0} (number : L → ℕ) (ls : List L) → All (λ l. number l ≤ greatest (map number ls)) ls
greatest_above number [] k d short = absurd (omega arith)
greatest_above number (l ∷ ls) zero d short = omega arith
greatest_above number (l ∷ ls) (suc k) d short =
    let later : number (get_or ls k d) ≤ greatest (map number ls) = greatest_above number ls k d (omega arith) in
    omega arith

-- the spaces of a lawful view's scalars are known
knows_of : (dl : TargetDataLayout) (value : Primitive) → IsLawfulPrimitive dl value → KnowsPrimitive dl value
knows_of dl (Int integer signed) h = tt
knows_of dl (Float float) h = tt
knows_of dl (Pointer space) h = h.0

knows_union : (dl : TargetDataLayout) (size : ℕ) (view : BackendRepr) → IsLawfulView dl size view → KnowsScalarsOf dl (union_view view)
knows_union dl size (OneScalar s) h = knows_of dl (primitive_of s) h.0.pointer
knows_union dl size (ScalarPair a b offset) h = (knows_of dl (primitive_of a) h.0.pointer, knows_of dl (primitive_of b) h.1.pointer)
knows_union dl size (SimdScalableVector e count vectors) h = tt
knows_union dl size (SimdVector e count) h = knows_of dl (primitive_of e) h.pointer
knows_union dl size (Memory sized) h = tt

-- no field counts, so there is no common view
pub no_view : {F V H : Type 0} (layout_of : H → LayoutData F V) (fields : List H) → All (λ h. IsZst (layout_of h)) fields
    → (view : BackendRepr) (align : ℕ) → IsCommonView (map layout_of fields) view align → ⊥
no_view layout_of fields none view align common =
    common.some.2 (All-contains (λ l. IsZst l) (map layout_of fields) common.some.0 (All-map (λ l. IsZst l) layout_of fields none) common.some.1)

contains_map : {L H : Type 0} (layout_of : H → L) (fields : List H) (h : H) → Contains fields h → Contains (map layout_of fields) (layout_of h)
contains_map layout_of fields h there =
    (there.0, (let e : length (map layout_of fields) ≡ length fields = length-map fields layout_of in omega (arith, there.1)), get_or-map layout_of fields there.0 h ∙ ap layout_of there.2)

-- a field that counts, and all agree with it
pub some_view : {F V H : Type 0} (layout_of : H → LayoutData F V) (fields : List H) (h : H) (view : BackendRepr) (align : ℕ) → Contains fields h → CountsForView (layout_of h)
    → All (λ h. CountsForView (layout_of h) → HasView view align (layout_of h)) fields → IsCommonView (map layout_of fields) view align
some_view layout_of fields h view align there counts all = record {
  some = (layout_of h, contains_map layout_of fields h there, counts);
  all = All-map (λ l. CountsForView l → HasView view align l) layout_of fields all;
}

agrees : {F V : Type 0} (one other : LayoutData F V) (view : BackendRepr) (align : ℕ) → HasView view align one → HasView view align other
    → HasView (union_view one.backend_repr) one.align.abi other
agrees one other view align p q = (q.0 ∙ sym p.0, q.1 ∙ sym p.1)

-- all agree with a field that counts, where there is a common view
pub same_view : {F V H : Type 0} (layout_of : H → LayoutData F V) (fields : List H) (h : H) (view : BackendRepr) (align : ℕ) → Contains fields h → CountsForView (layout_of h)
    → IsCommonView (map layout_of fields) view align
    → All (λ o. CountsForView (layout_of o) → HasView (union_view (layout_of h).backend_repr) (layout_of h).align.abi (layout_of o)) fields
same_view layout_of fields h view align there counts common k d short counted =
    let here : HasView view align (layout_of h) = All-contains (λ l. CountsForView l → HasView view align l) (map layout_of fields) (layout_of h) common.all (contains_map layout_of fields h there) counts in
    let e : length (map layout_of fields) ≡ length fields = length-map fields layout_of in
    let at : CountsForView (get_or (map layout_of fields) k (layout_of d)) → HasView view align (get_or (map layout_of fields) k (layout_of d)) = common.all k (layout_of d) (omega arith) in
    let that = rw (get_or-map layout_of fields k d) at at in
    agrees (layout_of h) (layout_of (get_or fields k d)) view align here (that counted)

-- a field that counts among lawful ones, with the common view
pub common_field : {F V : Type 0} (P : LayoutData F V → Type 0) (ls : List (LayoutData F V)) (view : BackendRepr) (align : ℕ) → All P ls
    → IsCommonView ls view align → (l : LayoutData F V) × P l × HasView view align l × Contains ls l
common_field P ls view align all common =
    let l = common.some.0 in
    (l, All-contains P ls l all common.some.1, All-contains (λ l. CountsForView l → HasView view align l) ls l common.all common.some.1 common.some.2, common.some.1)

pub knows_common : {F V H : Type 0} (dl : TargetDataLayout) (layout_of : H → LayoutData F V) (fields : List H) (view : BackendRepr) (align : ℕ)
    → All (λ h. IsLawfulLayout dl (layout_of h)) fields → IsCommonView (map layout_of fields) view align → KnowsScalarsOf dl view
knows_common dl layout_of fields view align all common =
    let w = common_field (λ l. IsLawfulLayout dl l) (map layout_of fields) view align (All-map (λ l. IsLawfulLayout dl l) layout_of fields all) common in
    subst (λ v. KnowsScalarsOf dl v) w.2.0 (knows_union dl w.0.size w.0.backend_repr w.1.view)

-- two common views are one
pub one_view : {F V : Type 0} (ls : List (LayoutData F V)) (view other : BackendRepr) (align at : ℕ) → IsCommonView ls view align → IsCommonView ls other at → view ≡ other
one_view ls view other align at p q =
    let l = p.some.0 in
    let first : HasView view align l = All-contains (λ l. CountsForView l → HasView view align l) ls l p.all p.some.1 p.some.2 in
    let second : HasView other at l = All-contains (λ l. CountsForView l → HasView other at l) ls l q.all p.some.1 p.some.2 in
    sym first.0 ∙ second.0

-- a common view that is not aligned so is not kept, nor is another
pub not_aligned : {F V : Type 0} (dl : TargetDataLayout) (repr : ReprOptions) (ls : List (LayoutData F V)) (view : BackendRepr) (align : ℕ)
    → IsCommonView ls view align → (IsAlignedFor dl view (union_align dl repr ls) → ⊥) → (kept : BackendRepr) → KeepsView dl repr ls kept → ⊥
not_aligned dl repr ls view align common off kept keeps =
    off (subst (λ v. IsAlignedFor dl v (union_align dl repr ls)) (one_view ls kept view keeps.common.0 align keeps.common.1 common) keeps.fits)

pub not_common : {F V : Type 0} (dl : TargetDataLayout) (repr : ReprOptions) (ls : List (LayoutData F V))
    → ((view : BackendRepr) (align : ℕ) → IsCommonView ls view align → ⊥) → (kept : BackendRepr) → KeepsView dl repr ls kept → ⊥
not_common dl repr ls none kept keeps = none kept keeps.common.0 keeps.common.1

pub not_free : {F V : Type 0} (dl : TargetDataLayout) (repr : ReprOptions) (ls : List (LayoutData F V)) → is_c repr ≡ true → (kept : BackendRepr) → KeepsView dl repr ls kept → ⊥
not_free dl repr ls c kept keeps = let free : is_c repr ≡ false = keeps.free in cc

-- a union has one view
pub one_union_view : {F V : Type 0} (dl : TargetDataLayout) (repr : ReprOptions) (ls : List (LayoutData F V)) (view other : BackendRepr) → IsUnionView dl repr ls view → IsUnionView dl repr ls other → view ≡ other
one_union_view dl repr ls view other (inl p) (inl q) = one_view ls view other p.common.0 q.common.0 p.common.1 q.common.1
one_union_view dl repr ls view other (inl p) (inr q) = absurd (q.1 view p)
one_union_view dl repr ls view other (inr p) (inl q) = absurd (p.1 other q)
one_union_view dl repr ls view other (inr p) (inr q) = p.0 ∙ sym q.0

-- views of unions that agree but for the numbers that they hold are the same, as they hold any
same_to : (a b : BackendRepr) → IsSameUpToValidity (union_view a) (union_view b) → union_view a ≡ union_view b
same_to (OneScalar a) (OneScalar b) h = ap (λ v. OneScalar (Union v)) (sym h)
same_to (OneScalar a) (ScalarPair c d p) h = absurd h
same_to (OneScalar a) (SimdScalableVector f n w) h = absurd h
same_to (OneScalar a) (SimdVector f n) h = absurd h
same_to (OneScalar a) (Memory sized) h = absurd h
same_to (ScalarPair a b o) (OneScalar c) h = absurd h
same_to (ScalarPair a b o) (ScalarPair c d p) h = cc
same_to (ScalarPair a b o) (SimdScalableVector f n w) h = absurd h
same_to (ScalarPair a b o) (SimdVector f n) h = absurd h
same_to (ScalarPair a b o) (Memory sized) h = absurd h
same_to (SimdScalableVector e m v) other h = h
same_to (SimdVector e m) (OneScalar c) h = absurd h
same_to (SimdVector e m) (ScalarPair c d p) h = absurd h
same_to (SimdVector e m) (SimdScalableVector f n w) h = absurd h
same_to (SimdVector e m) (SimdVector f n) h = cc
same_to (SimdVector e m) (Memory sized) h = absurd h
same_to (Memory sized) other h = h

same_self : (a : BackendRepr) → IsSameUpToValidity (union_view a) (union_view a)
same_self (OneScalar a) = refl
same_self (ScalarPair a b o) = (refl, refl, refl)
same_self (SimdScalableVector e m v) = refl
same_self (SimdVector e m) = (refl, refl)
same_self (Memory sized) = refl

pub same_union : (a b : BackendRepr) → IsSameUpToValidity (union_view a) (union_view b) ↔ (union_view a ≡ union_view b)
same_union a b = (same_to a b, λ e. subst (λ v. IsSameUpToValidity (union_view a) v) e (same_self a))
