-- A type as lines, with the names of its fields and variants.
use Rattle.std.specs.Prelude.{ℕ, ◌+◌, ◌==◌, List, [], ◌∷◌, ◌++◌, codes, get_or, slice_get, Option, None, Some, Bool, false, if◌then◌else◌}
use Rattle.std.specs.Fmt.{decimal}
use Rattle.abi_tree.specs.Placed.{Placed, layout_of}
use Rattle.abi_rust.specs.declared.report.Label.{Label}
use Rattle.abi_rust.specs.declared.report.ReportShape.{ReportShape}
use Rattle.abi_rust.specs.declared.report.ReportShape.TheVariants.{Plain, Struct, Union, Enum}
use Rattle.abi_rust.specs.declared.report.VariantLabels.{VariantLabels}
use Rattle.abi_scalar.specs.declared.fields_shape.FieldsShape.{FieldsShape}
use Rattle.abi_scalar.specs.declared.fields_shape.FieldsShape.TheVariants.{Arbitrary}
use Rattle.abi_scalar.specs.declared.scalar.Scalar.{Scalar}
use Rattle.abi_scalar.specs.declared.variants.RangeInclusive.{RangeInclusive}
use Rattle.abi_scalar.specs.declared.variants.TagEncoding.{TagEncoding}
use Rattle.abi_scalar.specs.declared.variants.TagEncoding.TheVariants.{Direct, Niche as InNiche}
use Rattle.abi_scalar.specs.declared.variants.VariantLayout.{VariantLayout}
use Rattle.abi_scalar.specs.declared.variants.Variants.{Variants}
use Rattle.abi_scalar.specs.declared.variants.Variants.TheVariants.{Empty, Single, Multiple}
use Rattle.abi_scalar.specs.Layout.{Layout}
use Rattle.abi_text.specs.Printing.{niche_line, padding_lines, printed_scalar, size_line, uninhabited_line, unused_lines}
use Rattle.rust_source.specs.declared.names.Names.{Names}
use Rattle.rust_source.specs.Names.{text_of}
use Rattle.type_reports.specs.Labels.{field_text, variant_text}

-- the offsets of the fields, in source order, where they are listed; else they all lie at 0
abbrev pub offsets_in : FieldsShape ℕ → List ℕ
offsets_in (Arbitrary offsets order) = offsets
offsets_in _ = []

-- a line for each field, the first of which has this index: its name, and its offset in bytes, 0 where the list has none
abbrev pub labelled_fields : Names → (index : ℕ) → List Label → (offsets : List ℕ) → List ℕ
labelled_fields names index [] offsets = []
labelled_fields names index (l ∷ labels) offsets =
    codes "field " ++ field_text names l.name ++ codes " offset " ++ decimal (get_or offsets index 0) ++ codes "\n" ++ labelled_fields names (index + 1) labels offsets

-- the line that begins a variant, where there is one, and those of its fields, which lie at these offsets
abbrev pub labelled_variant : Names → Option VariantLabels → (offsets : List ℕ) → List ℕ
labelled_variant names None offsets = codes "variant \n"
labelled_variant names (Some v) offsets = codes "variant " ++ text_of names v.name.0 ++ codes "\n" ++ labelled_fields names 0 v.fields.items offsets

-- the offsets are those of the variant with this index, and not of others
abbrev pub own_offsets : (single : Option ℕ) → (index : ℕ) → (offsets : List ℕ) → List ℕ
own_offsets None index offsets = []
own_offsets (Some single) index offsets = if single == index then offsets else []

-- variants, the first of which has this index, of an enum that is laid out as one of them or as none; the fields of the others lie at 0
abbrev pub single_lines : Names → (single : Option ℕ) → (index : ℕ) → List VariantLabels → (offsets : List ℕ) → List ℕ
single_lines names single index [] offsets = []
single_lines names single index (v ∷ variants) offsets =
    labelled_variant names (Some v) (own_offsets single index offsets) ++ single_lines names single (index + 1) variants offsets

-- variants that a tag tells apart, the first of which has this index, with the bytes that each doesn't use
abbrev pub several_lines : {F : Type 0} → Names → List VariantLabels → Placed → (index : ℕ) → List (VariantLayout F) → List ℕ
several_lines names labels placed index [] = []
several_lines names labels placed index (v ∷ variants) =
    labelled_variant names (slice_get labels index) v.field_offsets ++ unused_lines placed index ++ several_lines names labels placed (index + 1) variants

-- the first and the last of the variants that a niche names
abbrev pub labelled_range : Names → List VariantLabels → RangeInclusive ℕ → List ℕ
labelled_range names labels named = codes " variants " ++ variant_text names (slice_get labels named.start) ++ codes "..=" ++ variant_text names (slice_get labels named.last)

-- the variant that a niche doesn't name, and those that it names by the numbers from this one on
abbrev pub labelled_niche : Names → List VariantLabels → (untagged : ℕ) → (named : RangeInclusive ℕ) → (start : ℕ) → List ℕ
labelled_niche names labels untagged named start =
    codes " untagged " ++ variant_text names (slice_get labels untagged) ++ labelled_range names labels named ++ codes " start " ++ decimal start

-- where the tag lies, what it holds, and how it names a variant: by its discriminant, or in a niche
abbrev pub labelled_tag : Names → List VariantLabels → (offset : ℕ) → (tag : Scalar) → TagEncoding ℕ → List ℕ
labelled_tag names labels offset tag Direct = codes "tag offset " ++ decimal offset ++ codes " direct " ++ printed_scalar tag ++ codes "\n"
labelled_tag names labels offset tag (InNiche untagged named start) =
    codes "tag offset " ++ decimal offset ++ codes " niche " ++ printed_scalar tag ++ labelled_niche names labels untagged named start ++ codes "\n"

-- the variants of an enum, and behind several of them the tag
abbrev pub labelled_variants : Names → List VariantLabels → Placed → (offsets : List ℕ) → Variants ℕ ℕ → List ℕ
labelled_variants names labels placed offsets Empty = single_lines names None 0 labels []
labelled_variants names labels placed offsets (Single index) = single_lines names (Some index) 0 labels offsets
labelled_variants names labels placed offsets (Multiple tag encoding field variants) =
    several_lines names labels placed 0 variants ++ labelled_tag names labels (get_or offsets field 0) tag encoding

-- where the parts of a type lie, and whether it has no values; a union has some, and of a type without names nothing is told
abbrev pub parts_lines : Names → ReportShape → Placed → Layout → List ℕ
parts_lines names Plain placed layout = []
parts_lines names (Struct labels) placed layout = uninhabited_line layout.uninhabited ++ labelled_fields names 0 labels.items (offsets_in layout.fields)
parts_lines names (Union labels) placed layout = labelled_fields names 0 labels.items []
parts_lines names (Enum labels) placed layout = uninhabited_line layout.uninhabited ++ labelled_variants names labels.items placed (offsets_in layout.fields) layout.variants

-- the largest niche and the padding, of a type with named parts
abbrev pub rest_lines : ReportShape → Placed → List ℕ
rest_lines Plain placed = []
rest_lines _ placed = niche_line (layout_of placed).largest_niche ++ padding_lines placed

-- all lines of a type behind that of its name
abbrev pub type_lines : Names → ReportShape → Placed → List ℕ
type_lines names shape placed = size_line (layout_of placed) ++ parts_lines names shape placed (layout_of placed) ++ rest_lines shape placed
