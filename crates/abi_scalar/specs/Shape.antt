-- Where the fields of a type lie.
use Rattle.std.specs.Prelude.{ℕ, ◌*◌, ⊤, List, [], length, slice_get, unwrap_or}
use Rattle.abi_base.specs.declared.size.Size.{Size}
use Rattle.abi_scalar.specs.declared.fields_shape.FieldsShape.{FieldsShape}
use Rattle.abi_scalar.specs.declared.fields_shape.FieldsShape.TheVariants.{Primitive, Union, Array, Arbitrary}

-- how many fields there are
abbrev pub field_count : {F : Type 0} → FieldsShape F → ℕ
field_count Primitive = 0
field_count (Union count) = count
field_count (Array stride count) = count
field_count (Arbitrary offsets in_memory_order) = length offsets

-- how many bytes before the field
abbrev pub field_offset : {F : Type 0} → FieldsShape F → ℕ → ℕ
field_offset Primitive i = 0
field_offset (Union count) i = 0
field_offset (Array stride count) i = stride * i
field_offset (Arbitrary offsets in_memory_order) i = unwrap_or (slice_get offsets i) 0

-- the fields are listed one by one
abbrev pub IsListed : {F : Type 0} → FieldsShape F → Type 0
IsListed (Arbitrary offsets in_memory_order) = ⊤
IsListed _ = ⊥

-- the offsets of fields that are listed one by one, in source order
abbrev pub listed_offsets : {F : Type 0} → FieldsShape F → List Size
listed_offsets (Arbitrary offsets in_memory_order) = offsets
listed_offsets _ = []

-- the fields that are listed one by one, as they follow one another in memory
abbrev pub listed_order : {F : Type 0} → FieldsShape F → List F
listed_order (Arbitrary offsets in_memory_order) = in_memory_order
listed_order _ = []
