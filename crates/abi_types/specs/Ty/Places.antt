-- Data places: the bytes of a type that some part of it covers. All others are padding.
use Rattle.std.specs.Prelude.{ℕ, ◌-◌, ◌/◌, ◌%◌, ◌&&◌, ◌||◌, not, Bool, false, length, nat_le, nat_lt}
use Rattle.std.specs.List.{list_any, range_with_len}
use Rattle.abi_scalar.specs.declared.backend_repr.BackendRepr.{BackendRepr}
use Rattle.abi_scalar.specs.declared.backend_repr.BackendRepr.TheVariants.{Scalar as OneScalar}
use Rattle.abi_scalar.specs.declared.fields_shape.FieldsShape.{FieldsShape}
use Rattle.abi_scalar.specs.declared.fields_shape.FieldsShape.TheVariants.{Primitive, Union, Array, Arbitrary}
use Rattle.abi_scalar.specs.declared.variants.Variants.{Variants}
use Rattle.abi_scalar.specs.declared.variants.Variants.TheVariants.{Multiple}
use Rattle.abi_scalar.specs.Shape.{field_offset}
use Rattle.abi_types.specs.Ty.Typed.{Typed, typed, no_type, field_in, layout_in, variant_in}
use Rattle.abi_scalar.specs.Layout.{Layout}

-- an element of one scalar covers all its bytes, any other what its fields cover
abbrev pub covers_element : Layout → (own : ℕ → Bool) → (k : ℕ) → Bool
covers_element element own k = by element.backend_repr
  where
    by : BackendRepr → Bool
    by (OneScalar scalar) = nat_lt k element.size
    by _ = own k

-- fields of a type of this size, each of which covers these bytes, cover the byte at their offsets; a type without fields is covered whole
abbrev pub fields_cover : (size : ℕ) → (fields : FieldsShape ℕ) → (field : ℕ → Typed) → (own : (index k : ℕ) → Bool) → (k : ℕ) → Bool
fields_cover size Primitive field own k = nat_lt k size
fields_cover size (Union count) field own k = list_any (λ i. own i k) (range_with_len 0 count)
fields_cover size (Array stride count) field own k = nat_lt (k / stride) count && covers_element (layout_in (field 0)) (own 0) (k % stride)
fields_cover size (Arbitrary offsets order) field own k =
    list_any (λ i. nat_le (field_offset (Arbitrary offsets order) i) k && own i (k - field_offset (Arbitrary offsets order) i)) (range_with_len 0 (length offsets))

-- some variant that a tag distinguishes covers the byte
abbrev pub variants_cover : Variants ℕ ℕ → (own : (index k : ℕ) → Bool) → (k : ℕ) → Bool
variants_cover (Multiple tag encoding at layouts) own k = list_any (λ v. own v k) (range_with_len 0 (length layouts))
variants_cover _ own k = false

-- byte k of the type is a data place
abbrev pub is_place : Typed → (k : ℕ) → Bool
is_place (typed layout marks field variant) k =
    fields_cover layout.size layout.fields field (λ i. is_place (field i)) k || variants_cover layout.variants (λ v. is_place (variant v)) k
is_place no_type k = false

-- byte k is covered by a field of the whole type, as by its tag
abbrev pub is_shared_place : Typed → (k : ℕ) → Bool
is_shared_place t k = fields_cover (layout_in t).size (layout_in t).fields (field_in t) (λ i. is_place (field_in t i)) k

-- byte k is padding of the type
abbrev pub is_padding : Typed → (k : ℕ) → Bool
is_padding t k = nat_lt k (layout_in t).size && not (is_place t k)

-- byte k is one that some variant covers, and neither this one nor a field that all have
abbrev pub is_unused : Typed → (variant k : ℕ) → Bool
is_unused t v k = by (layout_in t).variants
  where
    by : Variants ℕ ℕ → Bool
    by (Multiple tag encoding at layouts) = is_place t k && not (is_shared_place t k || is_place (variant_in t v) k)
    by _ = false
