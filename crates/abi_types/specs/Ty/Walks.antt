-- What walks over a laid-out type answer.
use Rattle.std.specs.Prelude.{ℕ, ◌==◌, ◌&&◌, not, Bool, true, false, List, [], ◌∷◌, filter, length, nat_lt, Option, None, Some, if◌then◌else◌}
use Rattle.std.specs.List.{list_any, range_with_len}
use Rattle.abi_base.specs.declared.float.Float.{Float}
use Rattle.abi_base.specs.declared.float.Float.TheVariants.{F16B}
use Rattle.abi_base.specs.declared.numeric.Numeric.{Numeric}
use Rattle.abi_base.specs.declared.numeric.Numeric.TheVariants as numeric
use Rattle.abi_base.specs.declared.primitive.Primitive.{Primitive}
use Rattle.abi_base.specs.declared.primitive.Primitive.TheVariants as primitive
use Rattle.abi_scalar.specs.declared.backend_repr.BackendRepr.{BackendRepr}
use Rattle.abi_scalar.specs.declared.backend_repr.BackendRepr.TheVariants.{Scalar as OneScalar, SimdVector, Memory}
use Rattle.abi_scalar.specs.declared.fields_shape.FieldsShape.{FieldsShape}
use Rattle.abi_scalar.specs.declared.fields_shape.FieldsShape.TheVariants.{Array, Arbitrary}
use Rattle.abi_scalar.specs.declared.variants.Variants.{Variants}
use Rattle.abi_scalar.specs.declared.variants.Variants.TheVariants.{Empty, Single, Multiple}
use Rattle.abi_scalar.specs.Scalar.{primitive_of}
use Rattle.abi_scalar.specs.Shape.{field_count, field_offset}
use Rattle.abi_types.specs.Ty.Typed.{Typed, typed, no_type, field_in, layout_in, marks_of}
use Rattle.abi_scalar.specs.Layout.{Layout}

-- the view is bytes in memory, whose size is known beforehand
abbrev pub is_sized_memory : BackendRepr → Bool
is_sized_memory (Memory sized) = sized
is_sized_memory _ = false

-- the size is known beforehand
abbrev pub is_sized : BackendRepr → Bool
is_sized (Memory sized) = sized
is_sized _ = true

-- sized, of no bytes, and of no view
abbrev pub is_zst : Layout → Bool
is_zst layout = is_sized_memory layout.backend_repr && (layout.size == 0)

-- sized, of no bytes, and of the least alignment
abbrev pub is_1zst : Layout → Bool
is_1zst layout = is_sized layout.backend_repr && (layout.size == 0) && (layout.align.abi == 0)

-- the one item, where there is just one
abbrev pub only_item : List ℕ → Option ℕ
only_item (i ∷ []) = Some i
only_item _ = None

-- the index of the one field whose layout isn't of this kind
abbrev pub only_field : (kind : Layout → Bool) → Layout → (field : ℕ → Typed) → Option ℕ
only_field kind layout field = only_item (filter (λ i. not (kind (layout_in (field i)))) (range_with_len 0 (field_count layout.fields)))

-- the one field that is more than a place
abbrev pub non_1zst_field : Typed → Option ℕ
non_1zst_field t = only_field is_1zst (layout_in t) (field_in t)

-- the one field that takes bytes
abbrev pub non_zst_field : Typed → Option ℕ
non_zst_field t = only_field is_zst (layout_in t) (field_in t)

-- a type, or what another makes of its one field
abbrev pub peeled_to : Option ℕ → Typed → (peeled : ℕ → Typed) → Typed
peeled_to None t peeled = t
peeled_to (Some i) t peeled = peeled i

-- what transparent types are wrapped around: the one field that is more than a place, as long as there is one
abbrev pub peel : Typed → Typed
peel (typed layout marks field variant) =
    peeled_to (if marks.is_transparent then only_field is_1zst layout field else None) (typed layout marks field variant) (λ i. peel (field i))
peel no_type = no_type

-- the type is passed by a pointer where the calling convention isn't Rust's
abbrev pub is_passed_indirectly : Typed → Bool
is_passed_indirectly t = not (is_1zst (layout_in t)) && (marks_of (peel t)).is_passed_indirectly

-- ---- complex numbers

-- the kind of number that parts of a complex number may be
abbrev pub part_of_complex : Primitive → Option Numeric
part_of_complex (primitive.Int integer signed) = Some (numeric.Int integer signed)
part_of_complex (primitive.Float F16B) = None
part_of_complex (primitive.Float float) = Some (numeric.Float float)
part_of_complex (primitive.Pointer space) = None

-- the integer or float that a view of one scalar is
abbrev pub number_in : BackendRepr → Option Numeric
number_in (OneScalar scalar) = part_of_complex (primitive_of scalar)
number_in _ = None

-- the kind of number that the parts of a complex number are, through transparent types around it and around its parts
abbrev pub complex_number : Typed → Option Numeric
complex_number t = if (marks_of (peel t)).is_complex then number_in (layout_in (peel (field_in (peel t) 0))).backend_repr else None

-- that, where it is a float
abbrev pub float_of : Option Numeric → Option Float
float_of (Some (numeric.Float float)) = Some float
float_of _ = None

-- ---- vectors

-- a vector of this size, or a type whose one field, at 0, is one or is such a type
abbrev pub is_single_vector : (size : ℕ) → Typed → Bool
is_single_vector size no_type = false
is_single_vector size (typed layout marks field variant) =
    by_view layout.backend_repr (layout.size == size) ((field_count layout.fields == 1) && (field_offset layout.fields 0 == 0) && is_single_vector size (field 0))
  where
    by_view : BackendRepr → (vector inner : Bool) → Bool
    by_view (SimdVector element count) vector inner = vector
    by_view (Memory sized) vector inner = inner
    by_view _ vector inner = false

-- ---- padding of some variants

-- some field has it, of which each has it or not; what a union holds doesn't count
abbrev pub some_field_has : FieldsShape ℕ → (each : ℕ → Bool) → Bool
some_field_has (Array stride count) each = nat_lt 0 count && each 0
some_field_has (Arbitrary offsets order) each = list_any each (range_with_len 0 (length offsets))
some_field_has _ each = false

-- some bytes are padding of some variants and not of others
abbrev pub has_variant_dependent_padding : Typed → Bool
has_variant_dependent_padding no_type = false
has_variant_dependent_padding (typed layout marks field variant) = by_variants layout.variants (some_field_has layout.fields (λ i. has_variant_dependent_padding (field i)))
  where
    by_variants : Variants ℕ ℕ → (fields : Bool) → Bool
    by_variants (Multiple tag encoding at layouts) fields = true
    by_variants Empty fields = false
    by_variants (Single i) fields = fields
