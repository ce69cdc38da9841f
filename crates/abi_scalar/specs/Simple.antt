-- The layouts of types without parts.
use Rattle.std.specs.Prelude.{ℕ, ◌+◌, ◌*◌, ◌%◌, ◌^◌, ◌==◌, Bool, None, true, false, [], if◌then◌else◌}
use Rattle.std.specs.Int.{rotate_right, w64}
use Rattle.abi_base.specs.declared.primitive.Primitive.{Primitive}
use Rattle.abi_base.specs.declared.primitive.Primitive.TheVariants.{Int, Float, Pointer}
use Rattle.abi_base.specs.declared.data_layout.TargetDataLayout.{TargetDataLayout}
use Rattle.abi_scalar.specs.declared.scalar.Scalar.{Scalar}
use Rattle.abi_scalar.specs.declared.backend_repr.BackendRepr.TheVariants.{Scalar as OneScalar, Memory}
use Rattle.abi_scalar.specs.declared.fields_shape.FieldsShape.{FieldsShape}
use Rattle.abi_scalar.specs.declared.fields_shape.FieldsShape.TheVariants.{Primitive as NoFields, Union, Arbitrary}
use Rattle.abi_scalar.specs.declared.variants.Variants.TheVariants.{Empty, Single}
use Rattle.abi_scalar.specs.declared.layout_data.LayoutData.{LayoutData}
use Rattle.abi_scalar.specs.Scalar.{primitive_of, scalar_size, scalar_align, range_of}
use Rattle.abi_scalar.specs.Niche.{niche_at}

-- what distinguishes the seeds of equally large primitives
abbrev pub seed_kind : Primitive → ℕ
seed_kind (Int integer true) = 1
seed_kind (Int integer false) = 2
seed_kind (Float float) = 3
seed_kind (Pointer space) = 4

-- the low 64 bits, rotated right by 16
abbrev pub mixed : ℕ → ℕ
mixed n = rotate_right w64 (n % 2 ^ 64) 16

-- the seed of a scalar
abbrev pub scalar_seed : TargetDataLayout → Scalar → ℕ
scalar_seed dl scalar =
    (scalar_size dl scalar + seed_kind (primitive_of scalar) * 2 ^ 32
    + mixed (range_of dl scalar).start + mixed (range_of dl scalar).end) % 2 ^ 64

-- the layout of a scalar; `first` is the index of the first variant
abbrev pub scalar_layout : {F V : Type 0} → (first : V) → TargetDataLayout → Scalar → LayoutData F V
scalar_layout first dl scalar = record {
  fields = NoFields;
  variants = Single first;
  backend_repr = OneScalar scalar;
  largest_niche = niche_at dl 0 scalar;
  uninhabited = false;
  align = record { abi = scalar_align dl scalar };
  size = scalar_size dl scalar;
  max_repr_align = None;
  unadjusted_abi_align = scalar_align dl scalar;
  repr_c = false;
  randomization_seed = scalar_seed dl scalar;
}

-- the layout of a type without fields; a tail of unknown size may follow where it is not `sized`
abbrev pub unit_layout : {F V : Type 0} → (first : V) → TargetDataLayout → (sized : Bool) → LayoutData F V
unit_layout first dl sized = record {
  fields = Arbitrary [] [];
  variants = Single first;
  backend_repr = Memory sized;
  largest_niche = None;
  uninhabited = false;
  align = record { abi = dl.i8_align };
  size = 0;
  max_repr_align = None;
  unadjusted_abi_align = dl.i8_align;
  repr_c = false;
  randomization_seed = 0;
}

-- the layout of a type with no values
abbrev pub never_layout : {F V : Type 0} → TargetDataLayout → LayoutData F V
never_layout dl = record {
  fields = NoFields;
  variants = Empty;
  backend_repr = Memory true;
  largest_niche = None;
  uninhabited = true;
  align = record { abi = dl.i8_align };
  size = 0;
  max_repr_align = None;
  unadjusted_abi_align = dl.i8_align;
  repr_c = false;
  randomization_seed = 0;
}

-- so many fields at offset 0, or none
abbrev pub fields_at_zero : {F : Type 0} → ℕ → FieldsShape F
fields_at_zero count = if count == 0 then Arbitrary [] [] else Union count

-- the layout of a variant that no value has
abbrev pub uninhabited_layout : {F V : Type 0} → (index : V) → TargetDataLayout → (fields : ℕ) → LayoutData F V
uninhabited_layout index dl fields = record {
  fields = fields_at_zero fields;
  variants = Single index;
  backend_repr = Memory true;
  largest_niche = None;
  uninhabited = true;
  align = record { abi = dl.i8_align };
  size = 0;
  max_repr_align = None;
  unadjusted_abi_align = dl.i8_align;
  repr_c = false;
  randomization_seed = 0;
}
