-- The layout of one variant, by itself and as a part of its type's.
use Rattle.std.specs.Prelude.{ℕ, List, []}
use Rattle.abi_scalar.specs.declared.fields_shape.FieldsShape.TheVariants.{Arbitrary}
use Rattle.abi_scalar.specs.declared.variants.Variants.{Variants}
use Rattle.abi_scalar.specs.declared.variants.Variants.TheVariants.{Single, Multiple}
use Rattle.abi_scalar.specs.declared.variants.VariantLayout.{VariantLayout}
use Rattle.abi_scalar.specs.declared.layout_data.LayoutData.{LayoutData}
use Rattle.abi_scalar.specs.Shape.{listed_offsets, listed_order}
use Rattle.abi_scalar.specs.Order.{HasOrder}

-- what the layout of a list of fields has of its own
abbrev pub variant_of : {F V : Type 0} → LayoutData F V → VariantLayout F
variant_of layout = record {
  size = layout.size;
  backend_repr = layout.backend_repr;
  field_offsets = listed_offsets layout.fields;
  fields_in_memory_order = listed_order layout.fields;
  largest_niche = layout.largest_niche;
  uninhabited = layout.uninhabited;
}

-- each field of the variant has a place in memory order, and that order never steps back
abbrev pub IsOrderedVariant : {F : Type 0} → (number : F → ℕ) → VariantLayout F → Type 0
IsOrderedVariant number variant = HasOrder number (Arbitrary variant.field_offsets variant.fields_in_memory_order)

-- the variants that a tag distinguishes
abbrev pub variants_of : {F V : Type 0} → Variants F V → List (VariantLayout F)
variants_of (Multiple tag encoding field variants) = variants
variants_of _ = []

-- the variant with this index as a type of its own: the alignments and the mark of `repr(C)` are those of the type that it
-- is a variant of, everything else is the variant's
abbrev pub variant_layout : {F V : Type 0} → (parent : LayoutData F V) → (index : V) → VariantLayout F → LayoutData F V
variant_layout parent index variant = record {
  fields = Arbitrary variant.field_offsets variant.fields_in_memory_order;
  variants = Single index;
  backend_repr = variant.backend_repr;
  largest_niche = variant.largest_niche;
  uninhabited = variant.uninhabited;
  align = parent.align;
  size = variant.size;
  max_repr_align = parent.max_repr_align;
  unadjusted_abi_align = parent.unadjusted_abi_align;
  repr_c = parent.repr_c;
  randomization_seed = 0;
}
