-- The layout of a union: all fields at offset 0.
use Rattle.std.specs.Prelude.{◌≡◌, ℕ, ◌^◌, ◌<◌, ◌≤◌, ◌==◌, ⊤, ◌⊎◌, All, Contains, IfErr, IfOk, true, false, List, [], ◌∷◌, length, map, max, nat_lt, Option, Some, None, Result, Ok, Err, if◌then◌else◌}
use Rattle.std.specs.Int.{next_multiple_of}
use Rattle.std.specs.List.{find}
use Rattle.abi_base.specs.declared.data_layout.TargetDataLayout.{TargetDataLayout}
use Rattle.abi_base.specs.DataLayout.{size_bound}
use Rattle.abi_scalar.specs.declared.backend_repr.BackendRepr.{BackendRepr}
use Rattle.abi_scalar.specs.declared.backend_repr.BackendRepr.TheVariants.{Scalar as OneScalar, ScalarPair, SimdScalableVector, SimdVector, Memory}
use Rattle.abi_scalar.specs.declared.fields_shape.FieldsShape.TheVariants.{Union}
use Rattle.abi_scalar.specs.declared.variants.Variants.TheVariants.{Single}
use Rattle.abi_scalar.specs.declared.layout_data.LayoutData.{LayoutData}
use Rattle.abi_scalar.specs.declared.error.LayoutCalculatorError.{LayoutCalculatorError}
use Rattle.abi_scalar.specs.declared.error.LayoutCalculatorError.TheVariants.{EmptyUnion, SizeOverflow, UnexpectedUnsized}
use Rattle.abi_scalar.specs.declared.repr.ReprOptions.{ReprOptions}
use Rattle.abi_scalar.specs.Layout.{IsZst}
use Rattle.abi_scalar.specs.Repr.{is_c}
use Rattle.abi_base.specs.Primitive.{KnowsPrimitive}
use Rattle.abi_scalar.specs.Scalar.{primitive_of, scalar_align}
use Rattle.abi_scalar.specs.View.{union_view}
use Rattle.abi_univariant.specs.Fields.{greatest_align, greatest_repr_align, greatest_size, lies_as_in_c, seed_with}
use Rattle.abi_univariant.specs.List.{AreSized}
use Rattle.abi_univariant.specs.Part.{is_unsized}
use Rattle.abi_univariant.specs.Placement.{cut, own_align}

-- the fields of the one variant that a union has
abbrev pub only_of : {H : Type 0} → List (List H) → List H
only_of [] = []
only_of (fields ∷ others) = fields

-- no less than asked for, where that is
abbrev pub raised_to : Option ℕ → ℕ → ℕ
raised_to None align = align
raised_to (Some least) align = max align least

-- a union's alignment before `repr(align)` raises it: the greatest of its fields', cut to the packing
abbrev pub unraised_align : {F V : Type 0} → TargetDataLayout → ReprOptions → List (LayoutData F V) → ℕ
unraised_align dl repr fields = cut repr.pack (greatest_align (own_align dl repr) fields)

-- a union's alignment
abbrev pub union_align : {F V : Type 0} → TargetDataLayout → ReprOptions → List (LayoutData F V) → ℕ
union_align dl repr fields = raised_to repr.align (unraised_align dl repr fields)

-- a union's size: the greatest of its fields', rounded up to its alignment
abbrev pub union_size : {F V : Type 0} → TargetDataLayout → ReprOptions → List (LayoutData F V) → ℕ
union_size dl repr fields = next_multiple_of (greatest_size fields) (2 ^ union_align dl repr fields)

-- a union of sized fields that are too large
abbrev pub IsUnionTooLarge : {F V : Type 0} → TargetDataLayout → ReprOptions → List (LayoutData F V) → Type 0
IsUnionTooLarge dl repr fields = AreSized fields × (size_bound dl ≤ union_size dl repr fields)

-- How large a union is: the greatest of its fields, rounded up; and when it is refused for its size: exactly where its fields are sized and it
-- is too large. Sized fields, where there is one, are refused by no other name.
pub record IsSizedUnion {F V H : Type 0} (dl : TargetDataLayout) (repr : ReprOptions) (fields : List (LayoutData F V))
    (result : Result (LayoutData F V) (LayoutCalculatorError H)) : Type 0 where
  pub size : IfOk result (λ l. l.size ≡ next_multiple_of (greatest_size fields) (2 ^ l.align.abi))
  pub too_large : result ≡ Err SizeOverflow → IsUnionTooLarge dl repr fields
  pub refused : IsUnionTooLarge dl repr fields → result ≡ Err SizeOverflow
  pub no_other : AreSized fields → 0 < length fields → IfErr result (λ e. e ≡ SizeOverflow)

-- the field is no sized type without bytes
abbrev pub CountsForView : {F V : Type 0} → LayoutData F V → Type 0
CountsForView field = IsZst field → ⊥

-- the field's view, holding any numbers, and its alignment are these
abbrev pub HasView : {F V : Type 0} → BackendRepr → (align : ℕ) → LayoutData F V → Type 0
HasView view align field = (union_view field.backend_repr ≡ view) × (field.align.abi ≡ align)

-- There is a field that counts, and each of these has this view and this alignment.
pub record IsCommonView {F V : Type 0} (fields : List (LayoutData F V)) (view : BackendRepr) (align : ℕ) : Type 0 where
  pub some : (f : LayoutData F V) × Contains fields f × CountsForView f
  pub all : All (λ f. CountsForView f → HasView view align f) fields

-- one scalar or two are aligned as the whole of this alignment is, and a vector's lanes to no more; vectors of the machine's
-- length and bytes in memory go with any
abbrev pub IsAlignedFor : TargetDataLayout → BackendRepr → (align : ℕ) → Type 0
IsAlignedFor dl (OneScalar scalar) align = scalar_align dl scalar ≡ align
IsAlignedFor dl (ScalarPair a b b_offset) align = max (scalar_align dl a) (scalar_align dl b) ≡ align
IsAlignedFor dl (SimdVector element count) align = scalar_align dl element ≤ align
IsAlignedFor dl (SimdScalableVector element count vectors) align = ⊤
IsAlignedFor dl (Memory sized) align = ⊤

-- the spaces of its scalars are known
abbrev pub KnowsScalarsOf : TargetDataLayout → BackendRepr → Type 0
KnowsScalarsOf dl (OneScalar scalar) = KnowsPrimitive dl (primitive_of scalar)
KnowsScalarsOf dl (ScalarPair a b b_offset) = KnowsPrimitive dl (primitive_of a) × KnowsPrimitive dl (primitive_of b)
KnowsScalarsOf dl (SimdVector element count) = KnowsPrimitive dl (primitive_of element)
KnowsScalarsOf dl _ = ⊤

-- A union keeps the view: it is not laid out as in C, and the view is common to its fields and goes with its alignment.
pub record KeepsView {F V : Type 0} (dl : TargetDataLayout) (repr : ReprOptions) (fields : List (LayoutData F V)) (view : BackendRepr) : Type 0 where
  pub free : is_c repr ≡ false
  pub common : (align : ℕ) × IsCommonView fields view align
  pub fits : IsAlignedFor dl view (union_align dl repr fields)

-- the union's view: the one that it keeps, or bytes in memory where it keeps none
abbrev pub IsUnionView : {F V : Type 0} → TargetDataLayout → ReprOptions → List (LayoutData F V) → BackendRepr → Type 0
IsUnionView dl repr fields view =
    KeepsView dl repr fields view ⊎ ((view ≡ Memory true) × ((kept : BackendRepr) → KeepsView dl repr fields kept → ⊥))

-- the layout of a union of these fields with this view; `first` is the index of its one variant
abbrev pub union_layout : {F V : Type 0} → (first : V) → TargetDataLayout → ReprOptions → List (LayoutData F V) → BackendRepr → LayoutData F V
union_layout first dl repr fields view = record {
  fields = Union (length fields);
  variants = Single first;
  backend_repr = view;
  largest_niche = None;
  uninhabited = false;
  align = record { abi = union_align dl repr fields };
  size = union_size dl repr fields;
  max_repr_align = greatest_repr_align repr.align fields;
  unadjusted_abi_align = unraised_align dl repr fields;
  repr_c = lies_as_in_c repr fields;
  randomization_seed = seed_with repr.field_shuffle_seed fields;
}

-- the first unsized field
abbrev pub first_unsized : {F V H : Type 0} → (layout_of : H → LayoutData F V) → List H → Option H
first_unsized layout_of fields = find (λ h. is_unsized (layout_of h).backend_repr) fields

-- why a union of sized fields has no layout: it has no fields, or is too large
abbrev pub sized_fault : {F V H : Type 0} → TargetDataLayout → ReprOptions → List (LayoutData F V) → Option (LayoutCalculatorError H)
sized_fault dl repr fields =
    if length fields == 0 then Some EmptyUnion
    else (if nat_lt (union_size dl repr fields) (size_bound dl) then None else Some SizeOverflow)

-- that a field is unsized, if there is one, else the fault of a union of sized fields
abbrev pub fault_before : {H : Type 0} → Option H → Option (LayoutCalculatorError H) → Option (LayoutCalculatorError H)
fault_before None later = later
fault_before (Some h) later = Some (UnexpectedUnsized h)

-- why a union has no layout: its first unsized field, else that it has no fields, else its size
abbrev pub union_fault : {F V H : Type 0} → (layout_of : H → LayoutData F V) → TargetDataLayout → ReprOptions → List H → Option (LayoutCalculatorError H)
union_fault layout_of dl repr fields = fault_before (first_unsized layout_of fields) (sized_fault dl repr (map layout_of fields))

-- the answer to a union: its fault, or without one its layout, with the union's view
abbrev pub IsUnionAnswer : {F V H : Type 0} → (layout_of : H → LayoutData F V) → (first : V) → TargetDataLayout → ReprOptions → List H
    → Result (LayoutData F V) (LayoutCalculatorError H) → Type 0
IsUnionAnswer layout_of first dl repr fields (Ok layout) =
    (union_fault layout_of dl repr fields ≡ None) × IsUnionView dl repr (map layout_of fields) layout.backend_repr
    × (layout ≡ union_layout first dl repr (map layout_of fields) layout.backend_repr)
IsUnionAnswer layout_of first dl repr fields (Err error) = union_fault layout_of dl repr fields ≡ Some error
