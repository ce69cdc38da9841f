-- Lists of fields as the variants of a type: what each has as a variant, and the rest.
use Rattle.std.specs.Prelude.{List, [], ◌∷◌}
use Rattle.abi_scalar.specs.declared.fields_shape.FieldsShape.TheVariants.{Arbitrary}
use Rattle.abi_scalar.specs.declared.layout_data.LayoutData.{LayoutData}
use Rattle.abi_scalar.specs.declared.variants.VariantLayout.{VariantLayout}
use Rattle.abi_scalar.specs.declared.variants.Variants.TheVariants.{Single}
use Rattle.abi_univariant.specs.declared.univariant_layouts.VariantRest.{VariantRest}

-- the layout of a list, put together of what it has as a variant and of the rest
abbrev pub list_of : {F V : Type 0} → VariantLayout F → VariantRest V → LayoutData F V
list_of variant rest = record {
  fields = Arbitrary variant.field_offsets variant.fields_in_memory_order;
  variants = Single rest.index;
  backend_repr = variant.backend_repr;
  largest_niche = variant.largest_niche;
  uninhabited = variant.uninhabited;
  align = record { abi = rest.align };
  size = variant.size;
  max_repr_align = rest.max_repr_align;
  unadjusted_abi_align = rest.unadjusted_abi_align;
  repr_c = rest.repr_c;
  randomization_seed = rest.randomization_seed;
}

-- the layouts of several
abbrev pub lists_of : {F V : Type 0} → List (VariantLayout F) → List (VariantRest V) → List (LayoutData F V)
lists_of (variant ∷ variants) (rest ∷ rests) = list_of variant rest ∷ lists_of variants rests
lists_of _ _ = []
