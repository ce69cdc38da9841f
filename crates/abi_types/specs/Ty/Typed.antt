-- A type that is laid out, as handles show it.
use Rattle.std.specs.Prelude.{ℕ, Bool, false, true, None, Option}
use Rattle.abi_base.specs.declared.pointee.PointeeInfo.{PointeeInfo}
use Rattle.abi_scalar.specs.declared.backend_repr.BackendRepr.TheVariants.{Memory}
use Rattle.abi_scalar.specs.declared.fields_shape.FieldsShape.TheVariants.{Primitive}
use Rattle.abi_scalar.specs.declared.variants.Variants.{Variants}
use Rattle.abi_scalar.specs.declared.variants.Variants.TheVariants.{Empty, Multiple}
use Rattle.abi_scalar.specs.Layout.{Layout}

-- What a type says of itself, beside its layout.
pub record Marks : Type 0 where
  -- a struct, a union or an enum, or a variant of one
  pub is_adt : Bool
  pub is_enum : Bool
  pub is_never : Bool
  pub is_tuple : Bool
  pub is_unit : Bool
  -- laid out as its one field that is more than a place
  pub is_transparent : Bool
  -- the complex number of a language, whose parts are its fields
  pub is_complex : Bool
  pub is_scalable_vector : Bool
  -- passed by a pointer where the calling convention isn't Rust's
  pub is_passed_indirectly : Bool
  -- what stands behind the pointer at an offset
  pub pointee : (offset : ℕ) → Option PointeeInfo

-- A type: its layout, what it says of itself, its fields by index, and what it is at each variant that a tag distinguishes; and
-- what stands at an index of no field and no variant.
pub data Typed : Type 0 where
  typed : Layout → Marks → (field : (index : ℕ) → Typed) → (variant : (index : ℕ) → Typed) → Typed
  no_type : Typed

-- the layout of nothing
abbrev pub no_layout : Layout
no_layout = record {
  fields = Primitive;
  variants = Empty;
  backend_repr = Memory true;
  largest_niche = None;
  uninhabited = true;
  align = record { abi = 0 };
  size = 0;
  max_repr_align = None;
  unadjusted_abi_align = 0;
  repr_c = false;
  randomization_seed = 0;
}

-- a type that says nothing of itself
abbrev pub no_marks : Marks
no_marks = record {
  is_adt = false;
  is_enum = false;
  is_never = false;
  is_tuple = false;
  is_unit = false;
  is_transparent = false;
  is_complex = false;
  is_scalable_vector = false;
  is_passed_indirectly = false;
  pointee = λ offset. None;
}

-- the layout of the type
abbrev pub layout_in : Typed → Layout
layout_in (typed layout marks field variant) = layout
layout_in no_type = no_layout

-- what the type says of itself
abbrev pub marks_of : Typed → Marks
marks_of (typed layout marks field variant) = marks
marks_of no_type = no_marks

-- the type's field with this index
abbrev pub field_in : Typed → (index : ℕ) → Typed
field_in (typed layout marks field variant) i = field i
field_in no_type i = no_type

-- the type's variant with this index
abbrev pub variant_in : Typed → (index : ℕ) → Typed
variant_in (typed layout marks field variant) i = variant i
variant_in no_type i = no_type

-- the type at one of its variants: what it is there, and the type itself where no tag distinguishes variants
abbrev pub at_variant : Typed → (index : ℕ) → Typed
at_variant t i = by (layout_in t).variants
  where
    by : Variants ℕ ℕ → Typed
    by (Multiple tag encoding at layouts) = variant_in t i
    by _ = t
