-- Where the view of a tagged enum says that a number lies beside the tag, each variant has one there.
use Rattle.std.proofs.Common.{◌≡◌, ℕ, ◌≤◌, ◌==◌, Bool, true, false, List, [], ◌∷◌, Option, None, Some, ap, arith, eqb-true, inl, inr, length, map, refl, subst, suc, sym, ◌∙◌, ⊎_elim}
use Rattle.std.specs.Prelude.{◌⊎◌, ◌&&◌, All, IfSome, fold, if◌then◌else◌, max, nat_lt}
use Rattle.std.proofs.lemmas.Bool.{ltb-false}
use Rattle.std.proofs.lemmas.List.Elements.{All-cons, All-head, All-nil, All-tail}
use Rattle.abi_base.specs.declared.data_layout.TargetDataLayout.{TargetDataLayout}
use Rattle.abi_base.specs.declared.float.Float.{Float as FloatFormat}
use Rattle.abi_base.specs.declared.float.Float.TheVariants.{F16, F16B, F32, F64, F128, PpcF128}
use Rattle.abi_base.specs.declared.integer.Integer.{Integer}
use Rattle.abi_base.specs.declared.primitive.Primitive.{Primitive}
use Rattle.abi_base.specs.declared.primitive.Primitive.TheVariants.{Int, Float, Pointer}
use Rattle.abi_base.specs.declared.struct_kind.StructKind.{StructKind}
use Rattle.abi_base.specs.Float.{float_size}
use Rattle.abi_base.specs.Integer.{integer_size}
use Rattle.abi_base.specs.Primitive.{primitive_align, primitive_size}
use Rattle.abi_scalar.specs.declared.backend_repr.BackendRepr.{BackendRepr}
use Rattle.abi_scalar.specs.declared.backend_repr.BackendRepr.TheVariants.{Scalar as OneScalar, ScalarPair, SimdScalableVector, SimdVector, Memory}
use Rattle.abi_scalar.specs.declared.layout_data.LayoutData.{LayoutData}
use Rattle.abi_scalar.specs.declared.repr.ReprOptions.{ReprOptions}
use Rattle.abi_scalar.specs.declared.scalar.Scalar.{Scalar}
use Rattle.abi_scalar.specs.declared.scalar.Scalar.TheVariants.{Initialized, Union}
use Rattle.abi_scalar.specs.declared.variants.VariantLayout.{VariantLayout}
use Rattle.abi_scalar.specs.Pair.{pair_align, pair_size, second_offset}
use Rattle.abi_scalar.specs.Scalar.{primitive_of, scalar_size}
use Rattle.abi_scalar.specs.Shape.{listed_offsets}
use Rattle.abi_scalar.specs.Variant.{variant_of, variants_of}
use Rattle.abi_univariant.specs.Part.{is_empty_view}
use Rattle.abi_univariant.proofs.Views.LawfulList.{by_test}
use Rattle.abi_calc.specs.declared.enums.payload.Payload.{Payload}
use Rattle.abi_calc.specs.declared.enums.payload.Payload.TheVariants.{Nothing, One, Other}
use Rattle.abi_calc.specs.Enums.Filled.{EachHasNumberAt, HasNumberAt, IsFilled, IsNumber}
use Rattle.abi_calc.specs.Enums.Growth.{grown_tag, grown_variant, moved_offset, start_align}
use Rattle.abi_calc.specs.Enums.Lists.{AreListLayouts}
use Rattle.abi_calc.specs.Enums.Payload.{payload_of_two, beside_tag, common_payload, common_of, has_same_place, is_same_float, payload_at, payload_of, payload_of_field, payload_of_view, variant_with_view, shared_primitive, tagged_view}
use Rattle.abi_calc.specs.Enums.Tagged.{IsTaggedBy, lists_align, lists_size, payloads_of}
use Rattle.abi_calc.proofs.EnumLemmas.Growth.{grown_size}
use Rattle.abi_calc.proofs.EnumLemmas.Places.{seen_offsets}

-- ---- the payload of one variant

-- the payload is one scalar of so many bytes at the offset, and holds a number
abbrev pub IsNumberAt : TargetDataLayout → (width offset : ℕ) → Payload → Type 0
IsNumberAt dl width offset (One (Initialized value range) o) = (o ≡ offset) × (primitive_size dl value ≡ width)
IsNumberAt dl width offset _ = ⊥

-- a view that makes such a payload is such a scalar
view_number : (dl : TargetDataLayout) (width offset : ℕ) (view : BackendRepr) (o : ℕ) → IsNumberAt dl width offset (payload_of_view dl view o) → (o ≡ offset) × IsNumber dl width view
view_number dl width offset (OneScalar (Initialized value range)) o h = h
view_number dl width offset (OneScalar (Union value)) o h = absurd h
view_number dl width offset (ScalarPair a b b_offset) o h = absurd h
view_number dl width offset (SimdScalableVector element count vectors) o h = absurd h
view_number dl width offset (SimdVector element count) o h = absurd h
view_number dl width offset (Memory sized) o h = absurd h

-- and so is a field's
field_number : {F V : Type 0} (dl : TargetDataLayout) (width offset : ℕ) (field : LayoutData F V) (o : ℕ) → IsNumberAt dl width offset (payload_of_field dl field o) → (o ≡ offset) × IsNumber dl width field.backend_repr
field_number dl width offset field o = by (is_empty_view field.backend_repr field.size)
  where
    by : (b : Bool) → IsNumberAt dl width offset (if b then Nothing else payload_of_view dl field.backend_repr o) → (o ≡ offset) × IsNumber dl width field.backend_repr
    by true h = absurd h
    by false h = view_number dl width offset field.backend_repr o h

-- of two payloads that are one number together, one is it
beside_number : (dl : TargetDataLayout) (width offset : ℕ) (p q : Payload) → IsNumberAt dl width offset (payload_of_two p q) → IsNumberAt dl width offset p ⊎ IsNumberAt dl width offset q
beside_number dl width offset Nothing q h = inr h
beside_number dl width offset (One a i) Nothing h = inl h
beside_number dl width offset (One a i) (One b j) h = absurd h
beside_number dl width offset (One a i) Other h = absurd h
beside_number dl width offset Other q h = absurd h

-- where a variant's fields are one number together, some field is it
pub fields_number : {F V : Type 0} (dl : TargetDataLayout) (width offset : ℕ) (fields : List (LayoutData F V)) (offsets : List ℕ) → IsNumberAt dl width offset (payload_of dl fields offsets)
    → HasNumberAt dl width offset offsets fields
fields_number dl width offset [] offsets h = absurd h
fields_number dl width offset (field ∷ fields) [] h = absurd h
fields_number dl width offset (field ∷ fields) (o ∷ offsets) h =
    ⊎_elim (λ (here : IsNumberAt dl width offset (payload_of_field dl field o)). inl (field_number dl width offset field o here))
    (λ (later : IsNumberAt dl width offset (payload_of dl fields offsets)). inr (fields_number dl width offset fields offsets later))
    (beside_number dl width offset (payload_of_field dl field o) (payload_of dl fields offsets) h)

-- ---- what all variants have in common

-- both primitives are as large as this one
abbrev pub AreAsLarge : TargetDataLayout → (a b value : Primitive) → Type 0
AreAsLarge dl a b value = (primitive_size dl a ≡ primitive_size dl value) × (primitive_size dl b ≡ primitive_size dl value)

-- what holds of the one thing that a test may give, where the test holds
if_passed : (b : Bool) {A : Type 0} (x : A) (P : A → Type 0) → (b ≡ true → P x) → IfSome (if b then Some x else None) P
if_passed true x P h = h refl
if_passed false x P h = tt

-- floats of one format are as large as each other
same_float : (a b : FloatFormat) → is_same_float a b ≡ true → float_size a ≡ float_size b
same_float F16 F16 e = refl
same_float F16B F16B e = refl
same_float F32 F32 e = refl
same_float F64 F64 e = refl
same_float F128 F128 e = refl
same_float PpcF128 PpcF128 e = refl
same_float _ _ e = absurd (cc)

-- primitives with the same place are as large as each other
same_place : (dl : TargetDataLayout) (a b : Primitive) → has_same_place dl a b ≡ true → primitive_size dl a ≡ primitive_size dl b
same_place dl a b e = by (primitive_size dl a == primitive_size dl b) (primitive_align dl a == primitive_align dl b) (eqb-true (primitive_size dl a) (primitive_size dl b)) e
  where
    by : (x y : Bool) → (x ≡ true → primitive_size dl a ≡ primitive_size dl b) → (x && y) ≡ true → primitive_size dl a ≡ primitive_size dl b
    by true y h both = h refl
    by false y h both = absurd (cc)

-- the primitive that two share is as large as either
pub shared_size : (dl : TargetDataLayout) (a b : Primitive) → IfSome (shared_primitive dl a b) (AreAsLarge dl a b)
shared_size dl (Int i signed) (Int j signed') =
    if_passed (integer_size i == integer_size j) (Int i signed) (AreAsLarge dl (Int i signed) (Int j signed')) (λ e. (refl, sym (eqb-true (integer_size i) (integer_size j) e)))
shared_size dl (Int i signed) (Float f) = tt
shared_size dl (Int i signed) (Pointer space) =
    if_passed (has_same_place dl (Int i signed) (Pointer space)) (Pointer space) (AreAsLarge dl (Int i signed) (Pointer space)) (λ e. (same_place dl (Int i signed) (Pointer space) e, refl))
shared_size dl (Float f) (Int j signed') = tt
shared_size dl (Float f) (Float g) = if_passed (is_same_float f g) (Float f) (AreAsLarge dl (Float f) (Float g)) (λ e. (refl, sym (same_float f g e)))
shared_size dl (Float f) (Pointer space) = tt
shared_size dl (Pointer space) (Int j signed') =
    if_passed (has_same_place dl (Pointer space) (Int j signed')) (Pointer space) (AreAsLarge dl (Pointer space) (Int j signed')) (λ e. (refl, sym (same_place dl (Pointer space) (Int j signed') e)))
shared_size dl (Pointer space) (Float g) = tt
shared_size dl (Pointer space) (Pointer other) =
    if_passed (space.0 == other.0) (Pointer space) (AreAsLarge dl (Pointer space) (Pointer other))
    (λ e. (refl, sym (ap (λ n. primitive_size dl (Pointer (record { 0 = n }))) (eqb-true space.0 other.0 e))))

-- two scalars of this size at an offset
abbrev BothAt : TargetDataLayout → (width offset : ℕ) → (a b : Primitive) → (i : ℕ) → Type 0
BothAt dl width offset a b i = (i ≡ offset) × (primitive_size dl a ≡ width) × (primitive_size dl b ≡ width)

-- a shared number is as large as either
at_number : (dl : TargetDataLayout) (width offset : ℕ) (a b : Primitive) (i : ℕ) (shared : Option Primitive) → IfSome shared (AreAsLarge dl a b) → IsNumberAt dl width offset (payload_at dl true i shared)
    → BothAt dl width offset a b i
at_number dl width offset a b i (Some value) large h = (h.0, large.0 ∙ h.1, large.1 ∙ h.1)
at_number dl width offset a b i None large h = absurd h

-- where only one of them holds a number, what they share doesn't
no_number : (dl : TargetDataLayout) (width offset : ℕ) (i : ℕ) (shared : Option Primitive) → IsNumberAt dl width offset (payload_at dl false i shared) → ⊥
no_number dl width offset i (Some value) h = h
no_number dl width offset i None h = h

-- two payloads that have a number in common both are one
pub common_number : (dl : TargetDataLayout) (width offset : ℕ) (p q : Payload) → IsNumberAt dl width offset (common_payload dl p q) → IsNumberAt dl width offset p × IsNumberAt dl width offset q
common_number dl width offset Nothing Nothing h = absurd h
common_number dl width offset Nothing (One b j) h = absurd h
common_number dl width offset Nothing Other h = absurd h
common_number dl width offset (One a i) Nothing h = absurd h
common_number dl width offset (One a i) Other h = absurd h
common_number dl width offset Other q h = absurd h
common_number dl width offset (One (Initialized a r) i) (One (Initialized b s) j) h = by (i == j) (eqb-true i j) h
  where
    by : (t : Bool) → (t ≡ true → i ≡ j) → IsNumberAt dl width offset (if t then payload_at dl true i (shared_primitive dl a b) else Other)
        → ((i ≡ offset) × (primitive_size dl a ≡ width)) × ((j ≡ offset) × (primitive_size dl b ≡ width))
    by true same k =
        let both : BothAt dl width offset a b i = at_number dl width offset a b i (shared_primitive dl a b) (shared_size dl a b) k in
        ((both.0, both.1), (sym (same refl) ∙ both.0, both.2))
    by false same k = absurd k
common_number dl width offset (One (Initialized a r) i) (One (Union b) j) h = by (i == j) h
  where
    by : (t : Bool) → IsNumberAt dl width offset (if t then payload_at dl false i (shared_primitive dl a b) else Other) → ((i ≡ offset) × (primitive_size dl a ≡ width)) × ⊥
    by true k = absurd (no_number dl width offset i (shared_primitive dl a b) k)
    by false k = absurd k
common_number dl width offset (One (Union a) i) (One b j) h = by (i == j) h
  where
    by : (t : Bool) → IsNumberAt dl width offset (if t then payload_at dl false i (shared_primitive dl a (primitive_of b)) else Other) → ⊥ × IsNumberAt dl width offset (One b j)
    by true k = absurd (no_number dl width offset i (shared_primitive dl a (primitive_of b)) k)
    by false k = absurd k

-- and so are all that have one in common
fold_number : (dl : TargetDataLayout) (width offset : ℕ) (p : Payload) (ps : List Payload) → IsNumberAt dl width offset (fold (common_payload dl) p ps)
    → IsNumberAt dl width offset p × All (IsNumberAt dl width offset) ps
fold_number dl width offset p [] h = (h, All-nil (IsNumberAt dl width offset))
fold_number dl width offset p (q ∷ ps) h =
    let rest = fold_number dl width offset (common_payload dl p q) ps h in
    let both = common_number dl width offset p q rest.0 in
    (both.0, All-cons (IsNumberAt dl width offset) q ps both.1 rest.1)

-- where a number is what all variants have in common, each variant's payload is one
pub all_numbers : (dl : TargetDataLayout) (width offset : ℕ) (ps : List Payload) → IsNumberAt dl width offset (common_of dl ps) → All (IsNumberAt dl width offset) ps
all_numbers dl width offset [] h = absurd h
all_numbers dl width offset (p ∷ ps) h =
    let both = fold_number dl width offset p ps h in
    All-cons (IsNumberAt dl width offset) p ps both.0 both.1

-- ---- where the variants' fields lie

-- a tag that stays moves nothing
moved_nowhere : (old offset : ℕ) → moved_offset old old offset ≡ offset
moved_nowhere old offset = by (offset == old) (eqb-true offset old)
  where
    by : (b : Bool) → (b ≡ true → offset ≡ old) → (if b then old else offset) ≡ offset
    by true h = sym (h refl)
    by false h = refl

-- nor does it move any of a list
all_nowhere : (old : ℕ) (offsets : List ℕ) → map (moved_offset old old) offsets ≡ offsets
all_nowhere old [] = refl
all_nowhere old (o ∷ offsets) = let here = moved_nowhere old o in let later = all_nowhere old offsets in cc

-- beside a tag that grew a variant's fields are the moved ones
pub grown_offsets : {F : Type 0} (old new : ℕ) (variant : VariantLayout F) → old ≤ new → (grown_variant old new variant).field_offsets ≡ map (moved_offset old new) variant.field_offsets
grown_offsets old new variant grows = by (nat_lt old new) refl
  where
    by : (b : Bool) → nat_lt old new ≡ b
        → (if b then (record variant { size = max variant.size new; field_offsets = map (moved_offset old new) variant.field_offsets }) else variant).field_offsets ≡ map (moved_offset old new) variant.field_offsets
    by true e = refl
    by false e =
        let same : new ≡ old = omega (arith, ltb-false old new e) in
        rw same (sym (all_nowhere old variant.field_offsets))

-- where each payload is a number, each variant has it
pub each_number : {F V : Type 0} (dl : TargetDataLayout) (width offset old new : ℕ) (view : BackendRepr) (whole : ℕ) (variants : List (List (LayoutData F V))) (lists : List (LayoutData F V))
    → length lists ≡ length variants → old ≤ new → All (IsNumberAt dl width offset) (payloads_of dl old new variants lists)
    → EachHasNumberAt dl width offset (map (λ list. variant_with_view view whole (grown_variant old new (variant_of list))) lists) variants
each_number dl width offset old new view whole [] [] count grows h = tt
each_number dl width offset old new view whole [] (list ∷ lists) count grows h = absurd (omega (arith, count))
each_number dl width offset old new view whole (fields ∷ variants) [] count grows h = absurd (omega (arith, count))
each_number dl width offset old new view whole (fields ∷ variants) (list ∷ lists) count grows h =
    let place : (variant_with_view view whole (grown_variant old new (variant_of list))).field_offsets ≡ map (moved_offset old new) (listed_offsets list.fields)
    = seen_offsets view whole (grown_variant old new (variant_of list)) ∙ grown_offsets old new (variant_of list) grows in
    let rest : length lists ≡ length variants = omega (arith, count) in (
      subst (λ os. HasNumberAt dl width offset os fields) (sym place)
          (fields_number dl width offset fields (map (moved_offset old new) (listed_offsets list.fields))
          (All-head (IsNumberAt dl width offset) (payload_of dl fields (map (moved_offset old new) (listed_offsets list.fields))) (payloads_of dl old new variants lists) h)),
      each_number dl width offset old new view whole variants lists rest grows
          (All-tail (IsNumberAt dl width offset) (payload_of dl fields (map (moved_offset old new) (listed_offsets list.fields))) (payloads_of dl old new variants lists) h),
    )

-- ---- the view

-- of four tests that hold together the second holds
second_of_four : (a b c d : Bool) → (a && b && c && d) ≡ true → b ≡ true
second_of_four a true c d e = refl
second_of_four true false c d e = cc
second_of_four false false c d e = cc

module _ {F V : Type 0} (dl : TargetDataLayout) (tag : Scalar) (size align : ℕ) (layouts : List (VariantLayout F)) (variants : List (List (LayoutData F V))) where
  -- what the variants have in common lies at its place in the pair
  pair_filled : (offset : ℕ) (value : Scalar) → ((width : ℕ) → IsNumberAt dl width offset (One value offset) → EachHasNumberAt dl width offset layouts variants)
      → IsFilled dl (beside_tag dl tag size align (One value offset)) layouts variants
  pair_filled offset (Initialized value range) each =
      let b : Scalar = Initialized value range in
      by_test ((0 == 0) && (offset == second_offset dl tag b) && (align == pair_align dl tag b) && (size == pair_size dl tag b)) (λ v. IsFilled dl v layouts variants)
      (ScalarPair tag b (second_offset dl tag b)) (Memory true)
      (λ e. subst (λ o. EachHasNumberAt dl (primitive_size dl value) o layouts variants)
      (eqb-true offset (second_offset dl tag b) (second_of_four (0 == 0) (offset == second_offset dl tag b) (align == pair_align dl tag b) (size == pair_size dl tag b) e))
      (each (primitive_size dl value) (refl, refl))) tt
  pair_filled offset (Union value) each =
      let b : Scalar = Union value in
      by_test ((0 == 0) && (offset == second_offset dl tag b) && (align == pair_align dl tag b) && (size == pair_size dl tag b)) (λ v. IsFilled dl v layouts variants)
      (ScalarPair tag b (second_offset dl tag b)) (Memory true) (λ e. tt) tt

  -- beside the tag lies what they have in common, or nothing is said
  beside_filled : (p : Payload) → ((width offset : ℕ) → IsNumberAt dl width offset p → EachHasNumberAt dl width offset layouts variants) → IsFilled dl (beside_tag dl tag size align p) layouts variants
  beside_filled Nothing each = tt
  beside_filled (One value offset) each = pair_filled offset value (λ width. each width offset)
  beside_filled Other each = tt

  -- a view of two scalars says no more of the second than what holds of each variant
  pub view_filled : (payloads : List Payload) → ((width offset : ℕ) → All (IsNumberAt dl width offset) payloads → EachHasNumberAt dl width offset layouts variants)
      → IsFilled dl (tagged_view dl tag size align payloads) layouts variants
  view_filled payloads each =
      by_test (scalar_size dl tag == size) (λ v. IsFilled dl v layouts variants) (OneScalar tag) (beside_tag dl tag size align (common_of dl payloads)) (λ e. tt)
      (beside_filled (common_of dl payloads) (λ width offset h. each width offset (all_numbers dl width offset payloads h)))

-- the view of a tagged enum says no more of its variants than they hold
pub tagged_filled : {F V : Type 0} (number : F → ℕ) (first : F) (dl : TargetDataLayout) (repr : ReprOptions) (asked : Integer) (signed : Bool) (values : List ℕ) (variants : List (List (LayoutData F V))) (lists : List (LayoutData F V))
    (layout : LayoutData F V) → length lists ≡ length variants → IsTaggedBy number first dl repr asked signed values variants lists layout → IsFilled dl layout.backend_repr (variants_of layout.variants) variants
tagged_filled number first dl repr asked signed values variants lists layout count by =
    let old = integer_size asked in
    let grown = grown_tag dl repr asked (start_align number variants lists) in
    let tag : Scalar = Initialized (Int grown signed) by.ranged.0 in
    let whole = lists_size dl lists in
    let payloads = payloads_of dl old (integer_size grown) variants lists in
    let view = tagged_view dl tag whole (lists_align dl lists) payloads in
    let no_less : old ≤ integer_size grown = (grown_size dl repr asked (start_align number variants lists)).no_less in
    subst (λ (m : LayoutData _ _). IsFilled dl m.backend_repr (variants_of m.variants) variants) (sym by.ranged.2)
    (view_filled dl tag whole (lists_align dl lists) (map (λ list. variant_with_view view whole (grown_variant old (integer_size grown) (variant_of list))) lists) variants payloads
    (λ width offset h. each_number dl width offset old (integer_size grown) view whole variants lists count no_less h))

-- each variant has one list
pub listed_count : {F V H : Type 0} (layout_of : H → LayoutData F V) (at : ℕ → F) (first : V) (dl : TargetDataLayout) (repr : ReprOptions) (kind : StructKind) (variants : List (List H)) (lists : List (LayoutData F V))
    → AreListLayouts layout_of at first dl repr kind variants lists → length lists ≡ length (map (map layout_of) variants)
listed_count layout_of at first dl repr kind [] [] h = refl
listed_count layout_of at first dl repr kind [] (list ∷ lists) h = absurd h
listed_count layout_of at first dl repr kind (fields ∷ variants) [] h = absurd h
listed_count layout_of at first dl repr kind (fields ∷ variants) (list ∷ lists) h = ap suc (listed_count layout_of at first dl repr kind variants lists h.1)
