-- Unit, scalars and `repr(C)` unions, as the Reference has them.
use Rattle.std.proofs.Common.{◌≡◌, ℕ, ◌%◌, ◌^◌, ◌<◌, ◌≤◌, Bool, true, false, List, [], ◌∷◌, Option, None, Some, length, map, refl, sym, ap, ap₂, ◌∙◌, subst, arith, lit<, inl, inr, Ok, Err}
use Rattle.std.specs.Prelude.{◌==◌, MatchOption, max, is_some, nat_le, unwrap_or, if◌then◌else◌}
use Rattle.std.specs.Int.{◌∣◌, next_multiple_of}
use Rattle.std.proofs.Math.Nat.{le_of_dvd}
use Rattle.std.proofs.lemmas.Nat.{pow_pos}
use Rattle.std.proofs.lemmas.Nat.Gcd.{dvd_of_mod-eq-zero}
use Rattle.std.proofs.lemmas.Bool.{and_parts, eqb-true, leb-true}
use Rattle.std.proofs.lemmas.List.{length-map}
use Rattle.abi_base.specs.declared.data_layout.TargetDataLayout.{TargetDataLayout}
use Rattle.abi_base.specs.declared.pointer_spec.PointerSpec.{PointerSpec}
use Rattle.abi_base.specs.declared.integer.Integer.{Integer}
use Rattle.abi_base.specs.declared.float.Float.{Float}
use Rattle.abi_base.specs.DataLayout.{IsLawfulDataLayout, known_spec}
use Rattle.abi_base.specs.Float.{float_size}
use Rattle.abi_base.specs.Integer.{integer_size}
use Rattle.abi_base.specs.declared.integer.Integer.TheVariants.{I8, I16, I32, I64, I128}
use Rattle.abi_base.specs.declared.float.Float.TheVariants.{F16, F16B, F32, F64, F128, PpcF128}
use Rattle.abi_base.specs.declared.primitive.Primitive.{Primitive}
use Rattle.abi_base.specs.declared.primitive.Primitive.TheVariants.{Int, Float as OneFloat, Pointer}
use Rattle.abi_base.specs.Primitive.{primitive_align, primitive_size}
use Rattle.abi_scalar.specs.declared.repr.ReprOptions.{ReprOptions}
use Rattle.abi_scalar.specs.declared.scalar.Scalar.{Scalar}
use Rattle.abi_scalar.specs.Scalar.{primitive_of}
use Rattle.abi_scalar.specs.Simple.{unit_layout}
use Rattle.abi_univariant.specs.Fields.{greatest, greatest_align, greatest_size}
use Rattle.abi_univariant.specs.Placement.{cut}
use Rattle.abi_univariant.specs.Union.{raised_to, union_layout}
use Rattle.abi_tree.specs.declared.mark.Mark.TheVariants.{Unit}
use Rattle.abi_tree.specs.Placed.{Placed, layout_of, size_of, fields as placed_fields_of, no_parts}
use Rattle.abi_scalar.specs.Layout.{Layout}
use Rattle.abi_tree.specs.Tree.{Tree, Trees, scalar, unit, union}
use Rattle.rustc_abi.specs.declared.error.LayError.{LayError}
use Rattle.rustc_abi.specs.Error.{Follows}
use Rattle.rustc_abi.specs.declared.error.LayError.TheVariants.{BadRange, UnknownSpace}
use Rattle.rustc_abi.specs.ScalarFault.{has_range_within, is_lawful_primitive, is_lawful_spec, scalar_fault}
use Rattle.rustc_abi.specs.Laying.{AreLaying, IsLaying, IsUnited, fields_fault, one_scalar, placed_together, unless}
use Rattle.guarantees.specs.Reference.Words.{Extent, align_in_bytes, extent_of, largest, most_aligned, rounded_up}
use Rattle.guarantees.specs.Reference.CUnion.{IsCUnion, c_union}
use Rattle.guarantees.proofs.ReferenceLemmas.Answers.{faultless, inj-Ok, no_error}
use Rattle.guarantees.specs.Reference.Primitive.{HasTableSize, IsAlignedBySize, IsSizedByTable, IsUnit}
use Rattle.guarantees.proofs.ReferenceLemmas.Lists.{extents_of-parts_at, offsets_of-parts_at, part_for_each, pow_max, rounded}

-- ---- unit

one_byte : (align : ℕ) → 2 ^ align ∣ 1 → 2 ^ align ≡ 1
one_byte align fits =
    let some : 0 < 2 ^ align = pow_pos align in
    let most : 2 ^ align ≤ 1 = le_of_dvd (omega arith) fits in
    omega arith

pub laid_unit : (dl : TargetDataLayout) → IsLawfulDataLayout dl → (t : Tree) (p : Placed) → IsLaying dl t (Ok p) → IsUnit t p
laid_unit dl law unit p h =
    let is : p ≡ placed_fields_of (unit_layout 0 dl true) Unit no_parts = inj-Ok _ _ h in
    subst (λ q. (size_of q ≡ 0) × (align_in_bytes q ≡ 1)) (sym is) (refl, one_byte dl.i8_align (law.integers I8))
laid_unit dl law _ p h = tt

-- ---- scalars

table : (dl : TargetDataLayout) (p : Primitive) → HasTableSize p (primitive_size dl p)
table dl (Int I8 signed) = refl
table dl (Int I16 signed) = refl
table dl (Int I32 signed) = refl
table dl (Int I64 signed) = refl
table dl (Int I128 signed) = refl
table dl (OneFloat F16) = tt
table dl (OneFloat F16B) = tt
table dl (OneFloat F32) = refl
table dl (OneFloat F64) = refl
table dl (OneFloat F128) = tt
table dl (OneFloat PpcF128) = tt
table dl (Pointer space) = tt

pub laid_scalar : (dl : TargetDataLayout) → (t : Tree) (p : Placed) → IsLaying dl t (Ok p) → IsSizedByTable t p
laid_scalar dl (scalar s) p h =
    subst (λ q. HasTableSize (primitive_of s) (size_of q)) (sym (faultless (one_scalar dl s) p (scalar_fault dl s) h)) (table dl (primitive_of s))
laid_scalar dl _ p h = tt

-- a scalar is no less large than it is aligned
some_integer : (i : Integer) → 0 < integer_size i
some_integer I8 = lit< tt
some_integer _ = lit< tt

some_float : (f : Float) → 0 < float_size f
some_float F16 = lit< tt
some_float _ = lit< tt

pointer_fits : (spec : Option PointerSpec) (other : PointerSpec) → is_lawful_spec spec ≡ true
    → 2 ^ (unwrap_or spec other).pointer_align ≤ (unwrap_or spec other).pointer_size
pointer_fits None other is = absurd (cc)
pointer_fits (Some spec) other is =
    let some = and_parts (nat_le 1 spec.pointer_size) _ is in
    let more = and_parts (nat_le spec.pointer_size 16) (spec.pointer_size % 2 ^ spec.pointer_align == 0) some.1 in
    let least : 1 ≤ spec.pointer_size = leb-true 1 spec.pointer_size some.0 in
    le_of_dvd (omega arith) (dvd_of_mod-eq-zero (2 ^ spec.pointer_align) (eqb-true (spec.pointer_size % 2 ^ spec.pointer_align) 0 more.1))

no_less_large : (dl : TargetDataLayout) → IsLawfulDataLayout dl → (p : Primitive) → is_lawful_primitive dl p ≡ true
    → 2 ^ primitive_align dl p ≤ primitive_size dl p
no_less_large dl law (Int i signed) is = le_of_dvd (some_integer i) (law.integers i)
no_less_large dl law (OneFloat f) is = le_of_dvd (some_float f) (law.floats f)
no_less_large dl law (Pointer space) is = pointer_fits (known_spec dl space) dl.default_address_space_pointer_spec is

lawful_by : (dl : TargetDataLayout) (s : Scalar) (p : Placed) (pointer range : Bool)
    → Ok p ≡ unless (if pointer then (if range then None else Some BadRange) else Some UnknownSpace) (Ok (one_scalar dl s)) → pointer ≡ true
lawful_by dl s p true range e = refl
lawful_by dl s p false range e = absurd (no_error p UnknownSpace e)

pub laid_by_size : (dl : TargetDataLayout) → IsLawfulDataLayout dl → (t : Tree) (p : Placed) → IsLaying dl t (Ok p) → IsAlignedBySize t p
laid_by_size dl law (scalar s) p h =
    subst (λ q. align_in_bytes q ≤ size_of q) (sym (faultless (one_scalar dl s) p (scalar_fault dl s) h))
    (no_less_large dl law (primitive_of s) (lawful_by dl s p (is_lawful_primitive dl (primitive_of s)) (has_range_within dl s) h))
laid_by_size dl law _ p h = tt

-- ---- unions

abbrev same : Layout → Layout
same l = l

greatest_aligned : (ps : List Placed) → 2 ^ greatest (map (λ (f : Layout). f.align.abi) (map same (map layout_of ps))) ≡ most_aligned (map extent_of ps)
greatest_aligned [] = refl
greatest_aligned (p ∷ ps) =
    pow_max (layout_of p).align.abi (greatest (map (λ (f : Layout). f.align.abi) (map same (map layout_of ps))))
    ∙ ap (λ k. max (align_in_bytes p) k) (greatest_aligned ps)

greatest_sized : (ps : List Placed) → greatest_size (map same (map layout_of ps)) ≡ largest (map extent_of ps)
greatest_sized [] = refl
greatest_sized (p ∷ ps) = ap (λ k. max (size_of p) k) (greatest_sized ps)

zeros : (ps : List Placed) → map {B = ℕ} (λ p. 0) ps ≡ map {B = ℕ} (λ field. 0) (map extent_of ps)
zeros [] = refl
zeros (p ∷ ps) = ap (λ (os : List ℕ). 0 ∷ os) (zeros ps)

c_united : (dl : TargetDataLayout) (repr : ReprOptions) (all : Trees) (ps : List Placed) (layout : Layout) → dl.aggregate_align ≡ 0
    → AreLaying dl all (Ok ps) → IsUnited dl repr (map layout_of ps) (Ok layout)
    → IsCUnion (union repr all) (placed_together repr ps layout)
c_united dl repr all ps layout byte are h = λ plain.
    let ls : List Layout = map same (map layout_of ps) in
    let made : layout ≡ union_layout 0 dl repr ls layout.backend_repr = h.2 in
    let os : List ℕ = map {B = ℕ} (λ p. 0) ps in
    let many : length os ≡ length ps = length-map {B = ℕ} ps (λ p. 0) in
    let exponent : layout.align.abi ≡ greatest (map (λ (f : Layout). f.align.abi) ls) =
    ap (λ (l : Layout). l.align.abi) made
    ∙ ap₂ (λ (raised pack : Option ℕ). raised_to raised (cut pack (greatest_align (if is_some pack then dl.i8_align else dl.aggregate_align) ls))) plain.1 plain.2
    ∙ omega (arith, byte) in
    let align : 2 ^ layout.align.abi ≡ most_aligned (map extent_of ps) = ap (λ k. 2 ^ k) exponent ∙ greatest_aligned ps in
    let size : layout.size ≡ rounded_up (largest (map extent_of ps)) (most_aligned (map extent_of ps)) =
    ap (λ (l : Layout). l.size) made
    ∙ ap (λ k. next_multiple_of (greatest_size ls) (2 ^ k)) (sym (ap (λ (l : Layout). l.align.abi) made))
    ∙ sym (rounded (greatest_size ls) layout.align.abi) ∙ ap₂ rounded_up (greatest_sized ps) align in
    let extent : extent_of (placed_together repr ps layout) ≡ c_union (map extent_of ps) =
    ap₂ (λ (n a : ℕ). let e : Extent = record { size = n; align = a } in e) size align in
    record {
      each = part_for_each dl all os ps many are;
      offsets = offsets_of-parts_at os ps many ∙ zeros ps ∙ ap (map {B = ℕ} (λ field. 0)) (sym (extents_of-parts_at os ps many));
      extent = extent ∙ ap c_union (sym (extents_of-parts_at os ps many));
    }

answered : (dl : TargetDataLayout) (repr : ReprOptions) (placed : Placed) (ps : List Placed) (P : Placed → Type 0)
    → ((layout : Layout) → IsUnited dl repr (map layout_of ps) (Ok layout) → P (placed_together repr ps layout))
    → (fault : Option LayError) → MatchOption fault
    (Follows (IsUnited dl repr (map layout_of ps)) (λ layout r. r ≡ Ok (placed_together repr ps layout)) (Ok placed))
    (λ e. Ok placed ≡ Err e) → P placed
answered dl repr placed ps P each None (inl h) = absurd (no_error placed h.0 h.2)
answered dl repr placed ps P each None (inr h) =
    subst P (sym (inj-Ok placed (placed_together repr ps h.0) h.2)) (each h.0 h.1)
answered dl repr placed ps P each (Some e) h = absurd (no_error placed e h)

pub laid_c_union : (dl : TargetDataLayout) → dl.aggregate_align ≡ 0 → (t : Tree) (p : Placed) → IsLaying dl t (Ok p) → IsCUnion t p
laid_c_union dl byte (union repr all) p (inl h) = absurd (no_error p h.0 h.2)
laid_c_union dl byte (union repr all) p (inr h) =
    answered dl repr p h.0 (IsCUnion (union repr all)) (λ layout united. c_united dl repr all h.0 layout byte h.1 united) (fields_fault repr h.0) h.2
laid_c_union dl byte _ p h = tt
