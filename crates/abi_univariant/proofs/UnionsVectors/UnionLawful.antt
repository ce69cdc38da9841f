-- The layout of a union is lawful.
use Rattle.std.proofs.Common.{◌≡◌, ℕ, ◌*◌, ◌^◌, ◌<◌, ◌≤◌, List, Option, None, Some, map, refl, sym, ap, subst, ◌∙◌, arith, inl, inr, ⊎_elim}
use Rattle.std.specs.Prelude.{All, IfSome, is_some}
use Rattle.std.specs.Int.{◌∣◌, next_multiple_of}
use Rattle.std.proofs.lemmas.Bool.{cases_lt}
use Rattle.std.proofs.lemmas.Nat.{pow_pos}
use Rattle.std.proofs.lemmas.List.Elements.{All-contains, All-map, All-weaker}
use Rattle.abi_base.specs.declared.data_layout.TargetDataLayout.{TargetDataLayout}
use Rattle.abi_base.specs.declared.primitive.Primitive.{Primitive}
use Rattle.abi_base.specs.declared.primitive.Primitive.TheVariants.{Int, Float, Pointer}
use Rattle.abi_base.specs.DataLayout.{IsLawfulDataLayout, size_bound}
use Rattle.abi_base.specs.Primitive.{IsLawfulPrimitive, primitive_align, primitive_size}
use Rattle.abi_scalar.specs.declared.backend_repr.BackendRepr.{BackendRepr}
use Rattle.abi_scalar.specs.declared.backend_repr.BackendRepr.TheVariants.{Scalar as OneScalar, ScalarPair, SimdScalableVector, SimdVector, Memory}
use Rattle.abi_scalar.specs.declared.scalar.Scalar.{Scalar}
use Rattle.abi_scalar.specs.declared.scalar.Scalar.TheVariants.{Union}
use Rattle.abi_scalar.specs.declared.variants.Variants.TheVariants.{Single}
use Rattle.abi_scalar.specs.declared.layout_data.LayoutData.{LayoutData}
use Rattle.abi_scalar.specs.declared.repr.ReprOptions.{ReprOptions}
use Rattle.abi_scalar.specs.Lawful.{IsLawfulLayout, IsLawfulView}
use Rattle.abi_scalar.specs.Scalar.{IsLawfulScalar, primitive_of, scalar_size}
use Rattle.abi_scalar.specs.View.{union_view}
use Rattle.abi_univariant.specs.Fields.{greatest, greatest_align, greatest_size}
use Rattle.abi_univariant.specs.Union.{CountsForView, HasView, IsAlignedFor, IsCommonView, IsUnionView, KeepsView, raised_to, unraised_align, union_align, union_size}
use Rattle.abi_univariant.specs.Placement.{own_align}
use Rattle.abi_univariant.proofs.Views.Lawful.{bound_small}
use Rattle.abi_univariant.proofs.Sorted.Least.{cut_small}
use Rattle.abi_univariant.proofs.Layouts.ListLemmas.{own_small}
use Rattle.abi_univariant.proofs.Offsets.Rounding.{round_multiple, rounded_to}
use Rattle.abi_univariant.proofs.UnionsVectors.UnionLemmas.{common_field, greatest_above, greatest_most}

-- alignments

raised_small : (least : Option ℕ) (align : ℕ) → IfSome least (λ a. a ≤ 29) → align ≤ 29 → raised_to least align ≤ 29
raised_small None align l h = h
raised_small (Some least) align l h = let small : least ≤ 29 = l in omega arith

pub union_align_small : {F V H : Type 0} (layout_of : H → LayoutData F V) (dl : TargetDataLayout) (repr : ReprOptions) (fields : List H) → IsLawfulDataLayout dl
    → All (λ h. IsLawfulLayout dl (layout_of h)) fields → IfSome repr.align (λ a. a ≤ 29) → union_align dl repr (map layout_of fields) ≤ 29
union_align_small layout_of dl repr fields lawful all least =
    let ls = map layout_of fields in
    let each = All-weaker (λ l. IsLawfulLayout dl l) (λ l. l.align.abi ≤ 29) (λ l h. h.limit) ls (All-map (λ l. IsLawfulLayout dl l) layout_of fields all) in
    let most : greatest (map (λ l. l.align.abi) (map layout_of fields)) ≤ 29 = greatest_most (λ l. l.align.abi) 29 ls each in
    let first : own_align dl repr ≤ 29 = own_small (is_some repr.pack) dl lawful in
    raised_small repr.align (unraised_align dl repr ls) least (cut_small repr.pack (greatest_align (own_align dl repr) ls) (omega arith))

-- sizes

pub greatest_size_small : {F V H : Type 0} (layout_of : H → LayoutData F V) (dl : TargetDataLayout) (fields : List H) → IsLawfulDataLayout dl
    → All (λ h. IsLawfulLayout dl (layout_of h)) fields → greatest_size (map layout_of fields) < 2 ^ 62
greatest_size_small layout_of dl fields lawful all =
    let ls = map layout_of fields in
    let bound : size_bound dl ≤ 2 ^ 61 = bound_small dl lawful in
    let each = All-weaker (λ l. IsLawfulLayout dl l) (λ l. l.size ≤ 2 ^ 61) (λ l h. let below : l.size < size_bound dl = h.bound in omega arith) ls
    (All-map (λ l. IsLawfulLayout dl l) layout_of fields all) in
    let most : greatest (map (λ l. l.size) (map layout_of fields)) ≤ 2 ^ 61 = greatest_most (λ l. l.size) (2 ^ 61) ls each in
    omega arith

-- views

union_lawful : (dl : TargetDataLayout) (scalar : Scalar) → IsLawfulScalar dl scalar → IsLawfulScalar dl (Union (primitive_of scalar))
union_lawful dl scalar h =
    let some : 0 < 2 ^ (8 * scalar_size dl scalar) = pow_pos (8 * scalar_size dl scalar) in
    record { pointer = h.pointer; within = (some, omega arith) }

-- a lawful scalar's size is a multiple of its alignment
whole : (dl : TargetDataLayout) (value : Primitive) → IsLawfulDataLayout dl → IsLawfulPrimitive dl value → 2 ^ primitive_align dl value ∣ primitive_size dl value
whole dl (Int integer signed) lawful h = lawful.integers integer
whole dl (Float float) lawful h = lawful.floats float
whole dl (Pointer space) lawful h = h.1.fits

-- a field with the view of a union's scalar is as large as the scalar
size_of_scalar : (dl : TargetDataLayout) (size : ℕ) (value : Primitive) (view : BackendRepr) → IsLawfulView dl size view → union_view view ≡ OneScalar (Union value) → size ≡ primitive_size dl value
size_of_scalar dl size value (OneScalar s) h e = let same : primitive_of s ≡ value = cc in sym h.1 ∙ ap (λ v. primitive_size dl v) same
size_of_scalar dl size value (ScalarPair a b o) h e = absurd (cc)
size_of_scalar dl size value (SimdScalableVector f n w) h e = absurd (cc)
size_of_scalar dl size value (SimdVector f n) h e = absurd (cc)
size_of_scalar dl size value (Memory sized) h e = absurd (cc)

-- no field is larger than the scalar that is the common view
no_larger : {F V : Type 0} (dl : TargetDataLayout) (value : Primitive) (align : ℕ) (l : LayoutData F V) → IsLawfulLayout dl l
    → (CountsForView l → HasView (OneScalar (Union value)) align l) → l.size ≤ primitive_size dl value
no_larger dl value align l h view =
    ⊎_elim
    (λ (some : 0 < l.size). let same : l.size ≡ primitive_size dl value = size_of_scalar dl l.size value l.backend_repr h.view (view (λ z. let none : l.size ≡ 0 = z.1 in omega arith)).0 in omega arith)
    (λ (none : l.size ≤ 0). omega arith)
    (cases_lt 0 l.size)

both : {L : Type 0} (P Q R : L → Type 0) → ((l : L) → P l → Q l → R l) → (ls : List L) → All P ls → All Q ls → All R ls
both P Q R f ls p q k d short = f _ (p k d short) (q k d short)

-- the greatest field is as large as the scalar that is the common view
scalar_whole : {F V : Type 0} (dl : TargetDataLayout) (value : Primitive) (align : ℕ) (ls : List (LayoutData F V)) → All (λ l. IsLawfulLayout dl l) ls
    → IsCommonView ls (OneScalar (Union value)) align → greatest_size ls ≡ primitive_size dl value
scalar_whole dl value align ls all common =
    let each = both (λ l. IsLawfulLayout dl l) (λ l. CountsForView l → HasView (OneScalar (Union value)) align l) (λ l. l.size ≤ primitive_size dl value)
    (λ l p q. no_larger dl value align l p q) ls all common.all in
    let most : greatest (map (λ l. l.size) ls) ≤ primitive_size dl value = greatest_most (λ l. l.size) (primitive_size dl value) ls each in
    let w = common_field (λ l. IsLawfulLayout dl l) ls (OneScalar (Union value)) align all common in
    let own : w.0.size ≡ primitive_size dl value = size_of_scalar dl w.0.size value w.0.backend_repr w.1.view w.2.0 in
    let there : w.0.size ≤ greatest (map (λ l. l.size) ls) = All-contains (λ l. l.size ≤ greatest (map (λ l. l.size) ls)) ls w.0 (greatest_above (λ l. l.size) ls) w.3 in
    omega arith

-- a lawful view is lawful in a union that is no smaller, where one scalar is the whole of it
kept_at : (dl : TargetDataLayout) (small large : ℕ) (view : BackendRepr) → IsLawfulView dl small view → small ≤ large
    → ((value : Primitive) → union_view view ≡ OneScalar (Union value) → IsLawfulPrimitive dl value → primitive_size dl value ≡ large) → IsLawfulView dl large (union_view view)
kept_at dl small large (OneScalar s) h le whole = (union_lawful dl s h.0, whole (primitive_of s) refl h.0.pointer)
kept_at dl small large (ScalarPair a b o) h le whole = (union_lawful dl a h.0, union_lawful dl b h.1, h.2, omega (arith, h.3))
kept_at dl small large (SimdScalableVector f n w) h le whole = union_lawful dl f h
kept_at dl small large (SimdVector f n) h le whole = union_lawful dl f h
kept_at dl small large (Memory sized) h le whole = tt

-- one scalar that is kept is the whole union
whole_union : {F V : Type 0} (dl : TargetDataLayout) (repr : ReprOptions) (ls : List (LayoutData F V)) (view : BackendRepr) (align : ℕ) → IsLawfulDataLayout dl
    → All (λ l. IsLawfulLayout dl l) ls → IsCommonView ls view align → IsAlignedFor dl view (union_align dl repr ls)
    → (value : Primitive) → view ≡ OneScalar (Union value) → IsLawfulPrimitive dl value → primitive_size dl value ≡ union_size dl repr ls
whole_union dl repr ls view align lawful all common fits value e pointer =
    let same : primitive_align dl value ≡ union_align dl repr ls = subst (λ v. IsAlignedFor dl v (union_align dl repr ls)) e fits in
    let size : greatest_size ls ≡ primitive_size dl value = scalar_whole dl value align ls all (subst (λ v. IsCommonView ls v align) e common) in
    let d : 2 ^ union_align dl repr ls ∣ primitive_size dl value = subst (λ a. 2 ^ a ∣ primitive_size dl value) same (whole dl value lawful pointer) in
    sym (ap (λ n. next_multiple_of n (2 ^ union_align dl repr ls)) size ∙ round_multiple (primitive_size dl value) (union_align dl repr ls) d)

kept_lawful : {F V : Type 0} (dl : TargetDataLayout) (repr : ReprOptions) (ls : List (LayoutData F V)) (view : BackendRepr) → IsLawfulDataLayout dl
    → All (λ l. IsLawfulLayout dl l) ls → KeepsView dl repr ls view → IsLawfulView dl (union_size dl repr ls) view
kept_lawful dl repr ls view lawful all keeps =
    let align = keeps.common.0 in
    let common = keeps.common.1 in
    let w = common_field (λ l. IsLawfulLayout dl l) ls view align all common in
    let there : w.0.size ≤ greatest_size ls = All-contains (λ l. l.size ≤ greatest (map (λ l. l.size) ls)) ls w.0 (greatest_above (λ l. l.size) ls) w.3 in
    let up : greatest_size ls ≤ union_size dl repr ls = (rounded_to (greatest_size ls) (union_align dl repr ls)).above in
    let it : union_view w.0.backend_repr ≡ view = w.2.0 in
    subst (λ v. IsLawfulView dl (union_size dl repr ls) v) it
    (kept_at dl w.0.size (union_size dl repr ls) w.0.backend_repr w.1.view (omega arith)
    (λ value e pointer. whole_union dl repr ls view align lawful all common keeps.fits value (sym it ∙ e) pointer))

view_lawful : {F V : Type 0} (dl : TargetDataLayout) (repr : ReprOptions) (ls : List (LayoutData F V)) (view : BackendRepr) → IsLawfulDataLayout dl
    → All (λ l. IsLawfulLayout dl l) ls → IsUnionView dl repr ls view → IsLawfulView dl (union_size dl repr ls) view
view_lawful dl repr ls view lawful all (inl keeps) = kept_lawful dl repr ls view lawful all keeps
view_lawful dl repr ls view lawful all (inr none) = rw none.0 tt

-- a union's layout, by its parts
pub union_is_lawful : {F V H : Type 0} (layout_of : H → LayoutData F V) (dl : TargetDataLayout) (repr : ReprOptions) (fields : List H) (layout : LayoutData F V) (first : V)
    → IsLawfulDataLayout dl → All (λ h. IsLawfulLayout dl (layout_of h)) fields → IfSome repr.align (λ a. a ≤ 29)
    → layout.align.abi ≡ union_align dl repr (map layout_of fields) → layout.size ≡ union_size dl repr (map layout_of fields) → layout.size < size_bound dl
    → layout.largest_niche ≡ None → layout.variants ≡ Single first → IsUnionView dl repr (map layout_of fields) layout.backend_repr → IsLawfulLayout dl layout
union_is_lawful layout_of dl repr fields layout first lawful all least align size bound niche variants view =
    let ls = map layout_of fields in
    record {
      multiple = rw (size, align) (rounded_to (greatest_size ls) (union_align dl repr ls)).multiple;
      bound = bound;
      limit = rw align (union_align_small layout_of dl repr fields lawful all least);
      niche = rw niche tt;
      view = rw size (view_lawful dl repr ls layout.backend_repr lawful (All-map (λ l. IsLawfulLayout dl l) layout_of fields all) view);
      niche_of_view = rw niche tt;
      tag = rw variants tt;
    }
