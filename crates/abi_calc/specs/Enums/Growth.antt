-- A tag that grows into the space before the variants' fields.
use Rattle.std.specs.Prelude.{ℕ, ◌==◌, Option, None, Some, List, [], ◌∷◌, map, max, min, nat_lt, slice_get, unwrap_or, if◌then◌else◌}
use Rattle.std.specs.List.{find}
use Rattle.abi_base.specs.declared.data_layout.TargetDataLayout.{TargetDataLayout}
use Rattle.abi_base.specs.declared.integer.Integer.{Integer}
use Rattle.abi_base.specs.Integer.{integer_size, integers, is_of_align}
use Rattle.abi_scalar.specs.declared.layout_data.LayoutData.{LayoutData}
use Rattle.abi_scalar.specs.declared.repr.ReprOptions.{ReprOptions}
use Rattle.abi_scalar.specs.declared.variants.VariantLayout.{VariantLayout}
use Rattle.abi_scalar.specs.Order.{indices_by_offset}
use Rattle.abi_univariant.specs.Part.{max_align}
use Rattle.abi_calc.specs.Enums.EnumStrategy.{is_free, takes_no_room}

-- the field's alignment where it takes room, else what comes later
abbrev pub align_or : {F V : Type 0} → Option (LayoutData F V) → (later : Option ℕ) → Option ℕ
align_or None later = later
align_or (Some field) later = if takes_no_room field then later else Some field.align.abi

-- the alignment of the first field in this order that takes room
abbrev pub first_align : {F V : Type 0} → List (LayoutData F V) → (order : List ℕ) → Option ℕ
first_align fields [] = None
first_align fields (i ∷ order) = align_or (slice_get fields i) (first_align fields order)

-- the least of those alignments over the variants, whose lists these are; the greatest there is, which no integer has, where
-- no variant has one
abbrev pub start_align : {F V : Type 0} → (number : F → ℕ) → (variants : List (List (LayoutData F V))) → (lists : List (LayoutData F V)) → ℕ
start_align number (fields ∷ variants) (list ∷ lists) =
    min (unwrap_or (first_align fields (indices_by_offset number list.fields)) max_align) (start_align number variants lists)
start_align number _ _ = max_align

-- the larger integer, the first where none is
abbrev pub larger_integer : (first second : Integer) → Integer
larger_integer first second = if nat_lt (integer_size first) (integer_size second) then second else first

-- the tag grows to the integer of that size and alignment, where there is a larger one and the layout is free
abbrev pub grown_tag : TargetDataLayout → ReprOptions → Integer → (start : ℕ) → Integer
grown_tag dl repr tag start =
    if is_free repr then larger_integer tag (unwrap_or (find (is_of_align dl start) integers) tag) else tag

-- a field at the end of the old tag lies at that of the new one
abbrev pub moved_offset : (old new : ℕ) → (offset : ℕ) → ℕ
moved_offset old new offset = if offset == old then new else offset

-- a variant beside a tag that grew from the old size to the new one, which the variant's size is no less than
abbrev pub grown_variant : {F : Type 0} → (old new : ℕ) → VariantLayout F → VariantLayout F
grown_variant old new variant =
    if nat_lt old new then record variant { size = max variant.size new; field_offsets = map (moved_offset old new) variant.field_offsets } else variant
