-- The parts of a type that was laid out, each with its name and with the bytes of the type that it has. Types inside them aren't opened.
use Rattle.std.specs.Prelude.{ℕ, suc, ◌++◌, Bool, List, [], ◌∷◌, Option, None, Some, nat_lt, if◌then◌else◌}
use Rattle.abi_index.specs.RangeSet.{is_in_ranges}
use Rattle.abi_index.specs.Runs.{moved_to}
use Rattle.abi_tree.specs.declared.parts.PartName.{PartName}
use Rattle.abi_tree.specs.declared.parts.PartName.TheVariants.{Number, Elements, Lanes, Field, Tag, VariantField}
use Rattle.abi_tree.specs.declared.parts.PartBytes.{PartBytes}
use Rattle.abi_tree.specs.Placed.{Placed, scalar, pair, never, elements, vector, fields, union, single, tagged, states, Parts, no_parts, part, TaggedVariants, nothing_tagged, tagged_variant, size_of}
use Rattle.abi_tree.specs.Places.{is_data_place}

-- A part: its name, and which bytes of the type it has.
pub record Part : Type 0 where
  pub name : PartName
  pub has : (k : ℕ) → Bool

-- the part whose bytes are kept as a set
abbrev pub kept_part : PartBytes → Part
kept_part kept = record { name = kept.name; has = is_in_ranges kept.bytes }

-- the data places of a type that lies at an offset
abbrev pub placed_part : PartName → (offset : ℕ) → Placed → Part
placed_part name offset placed = record { name = name; has = moved_to offset (is_data_place placed) }

-- a field by its index: of the variant with the first, where one is given
abbrev pub field_name : (variant : Option ℕ) → (index : ℕ) → PartName
field_name None i = Field i
field_name (Some v) i = VariantField v i

-- fields from an index on, of the type or of a variant
abbrev pub field_parts : (variant : Option ℕ) → (index : ℕ) → Parts → List Part
field_parts v i no_parts = []
field_parts v i (part offset placed parts) = placed_part (field_name v i) offset placed ∷ field_parts v (suc i) parts

-- the fields of all variants from an index on
abbrev pub parts_of_tagged_variants : (index : ℕ) → TaggedVariants → List Part
parts_of_tagged_variants v nothing_tagged = []
parts_of_tagged_variants v (tagged_variant number layout mark parts tagged_variants) = field_parts (Some v) 0 parts ++ parts_of_tagged_variants (suc v) tagged_variants

-- the parts that a type has whatever its variant
abbrev pub common_parts : Placed → List Part
common_parts (scalar layout s) = placed_part Number 0 (scalar layout s) ∷ []
common_parts (pair layout parts) = field_parts None 0 parts
common_parts (never layout mark) = placed_part Number 0 (never layout mark) ∷ []
common_parts (elements layout count element) = placed_part Elements 0 (elements layout count element) ∷ []
common_parts (vector layout lanes) = placed_part Lanes 0 (vector layout lanes) ∷ []
common_parts (fields layout mark parts) = field_parts None 0 parts
common_parts (union layout mark parts) = field_parts None 0 parts
common_parts (single layout mark index parts) = field_parts None 0 parts
common_parts (tagged layout mark offset tag encoding tagged_variants) = placed_part Tag offset tag ∷ []
common_parts (states layout prefix offset tag tagged_variants) = field_parts None 0 prefix ++ placed_part Tag offset tag ∷ []

-- the fields of the variants that a tag distinguishes
abbrev pub variant_parts : Placed → List Part
variant_parts (tagged layout mark offset tag encoding tagged_variants) = parts_of_tagged_variants 0 tagged_variants
variant_parts (states layout prefix offset tag tagged_variants) = parts_of_tagged_variants 0 tagged_variants
variant_parts _ = []

-- all parts, in the order in which they are listed; a type without bytes has none that has one
abbrev pub all_parts : Placed → List Part
all_parts placed = if nat_lt 0 (size_of placed) then common_parts placed ++ variant_parts placed else []
