-- How a laid-out type is written, one line for each fact.
use Rattle.std.specs.Prelude.{ℕ, ◌+◌, ◌^◌, Bool, true, false, List, [], ◌∷◌, ◌++◌, codes, nat_lt, replicate, Option, None, Some, if◌then◌else◌}
use Rattle.std.specs.Fmt.{decimal}
use Rattle.abi_base.specs.Primitive.{primitive_text}
use Rattle.abi_scalar.specs.declared.fields_shape.FieldsShape.{FieldsShape}
use Rattle.abi_scalar.specs.declared.fields_shape.FieldsShape.TheVariants.{Primitive as NoFields, Union, Array, Arbitrary}
use Rattle.abi_scalar.specs.declared.niche.Niche.{Niche}
use Rattle.abi_scalar.specs.declared.scalar.Scalar.{Scalar}
use Rattle.abi_scalar.specs.declared.scalar.Scalar.TheVariants.{Initialized, Union as OfUnion}
use Rattle.abi_scalar.specs.declared.variants.RangeInclusive.{RangeInclusive}
use Rattle.abi_scalar.specs.declared.variants.TagEncoding.{TagEncoding}
use Rattle.abi_scalar.specs.declared.variants.TagEncoding.TheVariants.{Direct, Niche as InNiche}
use Rattle.abi_scalar.specs.declared.variants.VariantLayout.{VariantLayout}
use Rattle.abi_scalar.specs.declared.variants.Variants.{Variants}
use Rattle.abi_scalar.specs.declared.variants.Variants.TheVariants.{Empty, Single, Multiple}
use Rattle.abi_scalar.specs.RangeText.{range_text}
use Rattle.abi_tree.specs.Placed.{Placed, layout_of, size_of}
use Rattle.abi_scalar.specs.Layout.{Layout}
use Rattle.abi_tree.specs.Runs.{padding_of, unused_of}

-- size and alignment, in bytes
abbrev pub size_line : Layout → List ℕ
size_line layout = codes "size " ++ decimal layout.size ++ codes " align " ++ decimal (2 ^ layout.align.abi) ++ codes "\n"

-- the line of a type that is marked as having no values
abbrev pub uninhabited_line : (uninhabited : Bool) → List ℕ
uninhabited_line true = codes "uninhabited\n"
uninhabited_line false = []

-- the offsets of fields, the first of which has this index
abbrev pub field_lines : (index : ℕ) → (offsets : List ℕ) → List ℕ
field_lines index [] = []
field_lines index (o ∷ offsets) = codes "field " ++ decimal index ++ codes " offset " ++ decimal o ++ codes "\n" ++ field_lines (index + 1) offsets

-- a union's fields, each at offset 0
abbrev pub shape_lines : {F : Type 0} → FieldsShape F → List ℕ
shape_lines NoFields = []
shape_lines (Union count) = field_lines 0 (replicate count 0)
shape_lines (Array stride count) = codes "elements stride " ++ decimal stride ++ codes " count " ++ decimal count ++ codes "\n"
shape_lines (Arbitrary offsets order) = field_lines 0 offsets

-- the line of the largest niche
abbrev pub niche_line : Option Niche → List ℕ
niche_line None = codes "niche none\n"
niche_line (Some n) =
    codes "niche " ++ decimal n.offset ++ codes " " ++ primitive_text n.value ++ codes " " ++ range_text n.valid_range.start n.valid_range.end ++ codes "\n"

-- each run, a first byte and how many, behind this word, with the byte after its last
abbrev pub range_lines : (word : List ℕ) → List (ℕ × ℕ) → List ℕ
range_lines word [] = []
range_lines word (r ∷ runs) = word ++ codes " " ++ decimal r.0 ++ codes ".." ++ decimal (r.0 + r.1) ++ codes "\n" ++ range_lines word runs

-- the runs of bytes that a variant doesn't use though another one may, listed for a type of at most 2 ^ 16 bytes
abbrev pub unused_lines : Placed → (variant : ℕ) → List ℕ
unused_lines placed variant = if nat_lt 65536 (size_of placed) then [] else range_lines (codes "unused") (unused_of placed variant)

-- a variant, with the offsets of its fields and the lines of the bytes that it doesn't use
abbrev pub variant_lines : (variant : ℕ) → (offsets unused : List ℕ) → List ℕ
variant_lines variant offsets unused = codes "variant " ++ decimal variant ++ codes "\n" ++ field_lines 0 offsets ++ unused

-- variants, the first of which has this index
abbrev pub lines_of_variants : {F : Type 0} → Placed → (index : ℕ) → List (VariantLayout F) → List ℕ
lines_of_variants placed index [] = []
lines_of_variants placed index (v ∷ variants) = variant_lines index v.field_offsets (unused_lines placed index) ++ lines_of_variants placed (index + 1) variants

-- a scalar's primitive, and its range, which a union's scalar doesn't have
abbrev pub printed_scalar : Scalar → List ℕ
printed_scalar (Initialized value range) = primitive_text value ++ codes " " ++ range_text range.start range.end
printed_scalar (OfUnion value) = primitive_text value

-- the variant that a niche doesn't name, and those that it names by the numbers from this one on
abbrev pub named_text : (untagged : ℕ) → (named : RangeInclusive ℕ) → (start : ℕ) → List ℕ
named_text untagged named start =
    codes " untagged " ++ decimal untagged ++ codes " variants " ++ decimal named.start ++ codes "..=" ++ decimal named.last ++ codes " start " ++ decimal start

-- which field the tag is, what it holds, and how it names a variant: by its discriminant, or in a niche
abbrev pub tag_line : (field : ℕ) → (tag : Scalar) → TagEncoding ℕ → List ℕ
tag_line field tag Direct = codes "tag " ++ decimal field ++ codes " direct " ++ printed_scalar tag ++ codes "\n"
tag_line field tag (InNiche untagged named start) =
    codes "tag " ++ decimal field ++ codes " niche " ++ printed_scalar tag ++ named_text untagged named start ++ codes "\n"

-- several variants, and behind them the tag that tells them apart
abbrev pub variants_lines : Placed → Variants ℕ ℕ → List ℕ
variants_lines placed (Multiple tag encoding field variants) = lines_of_variants placed 0 variants ++ tag_line field tag encoding
variants_lines placed Empty = []
variants_lines placed (Single index) = []

-- the runs of padding, listed for a type of at most 2 ^ 16 bytes
abbrev pub padding_lines : Placed → List ℕ
padding_lines placed = if nat_lt 65536 (size_of placed) then codes "padding not listed\n" else range_lines (codes "padding") (padding_of placed)

-- what is written of a type as a whole
abbrev pub layout_lines : Layout → List ℕ
layout_lines layout = size_line layout ++ uninhabited_line layout.uninhabited ++ shape_lines layout.fields

-- all that is written of a type
abbrev pub type_text : Placed → List ℕ
type_text placed =
    layout_lines (layout_of placed) ++ variants_lines placed (layout_of placed).variants ++ niche_line (layout_of placed).largest_niche ++ padding_lines placed
