-- What fields, variants and the parts of a type are called.
use Rattle.std.specs.Prelude.{ℕ, List, [], ◌++◌, codes, Option, None, Some, slice_get}
use Rattle.std.specs.Fmt.{decimal}
use Rattle.abi_tree.specs.declared.parts.PartName.{PartName}
use Rattle.abi_tree.specs.declared.parts.PartName.TheVariants.{Number, Elements, Lanes, Field, Tag, VariantField}
use Rattle.abi_rust.specs.declared.report.Label.{Label}
use Rattle.abi_rust.specs.declared.report.VariantLabels.{VariantLabels}
use Rattle.rust_source.specs.declared.item.FieldName.{FieldName}
use Rattle.rust_source.specs.declared.item.FieldName.TheVariants.{Named, Numbered}
use Rattle.rust_source.specs.declared.names.Names.{Names}
use Rattle.rust_source.specs.Names.{text_of}

module _ (names : Names) where
  -- a field is called as it is written; one of a tuple by its number
  abbrev pub field_text : FieldName → List ℕ
  field_text (Named name) = text_of names name.0
  field_text (Numbered number) = decimal number

  -- the field that has this label, where there is one
  abbrev pub label_text : Option Label → List ℕ
  label_text None = []
  label_text (Some label) = field_text label.name

  -- the variant that has these labels, where there is one
  abbrev pub variant_text : Option VariantLabels → List ℕ
  variant_text None = []
  variant_text (Some variant) = text_of names variant.name.0

-- the labels of a variant's fields, where there is one
abbrev pub labels_in : Option VariantLabels → List Label
labels_in None = []
labels_in (Some variant) = variant.fields.items

-- a part of a type whose own fields have the first labels, and whose variants the second
abbrev pub part_text : Names → (fields : List Label) → (variants : List VariantLabels) → PartName → List ℕ
part_text names fields variants Number = codes "number"
part_text names fields variants Elements = codes "elements"
part_text names fields variants Lanes = codes "lanes"
part_text names fields variants (Field i) = codes "field " ++ label_text names (slice_get fields i)
part_text names fields variants Tag = codes "tag"
part_text names fields variants (VariantField v i) =
    codes "variant " ++ variant_text names (slice_get variants v) ++ codes " field " ++ label_text names (slice_get (labels_in (slice_get variants v)) i)
