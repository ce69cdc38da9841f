-- What handles see of a laid-out type: its layout, what it says of itself, and its parts, each at its offset.
use Rattle.std.specs.Prelude.{◌≡◌, ℕ, suc, ◌+◌, ◌-◌, [], ⊤}
use Rattle.abi_scalar.specs.Shape.{IsListed, field_count, field_offset}
use Rattle.abi_scalar.specs.Variant.{variants_of}
use Rattle.abi_types.specs.Ty.Typed.{Marks, Typed, field_in, layout_in, marks_of, no_marks, variant_in}
use Rattle.abi_tree.specs.Mark.{marks_by}
use Rattle.abi_tree.specs.Placed.{Placed, scalar, pair, never, elements, vector, fields, union, single, tagged, states, Parts, no_parts, part, TaggedVariants, nothing_tagged, tagged_variant}
use Rattle.abi_scalar.specs.Layout.{Layout}

-- the type has this layout, and says this of itself
abbrev pub SeesWhole : Typed → Layout → Marks → Type 0
SeesWhole t layout marks = (layout_in t ≡ layout) × (marks_of t ≡ marks)

-- the field with this index lies at the offset
abbrev pub HasOffset : Typed → (index offset : ℕ) → Type 0
HasOffset t i offset = field_offset (layout_in t).fields i ≡ offset

-- how many parts there are
abbrev pub part_count : Parts → ℕ
part_count no_parts = 0
part_count (part offset p parts) = part_count parts + 1

-- the type lists its fields one by one, as many as the parts, and no tag distinguishes variants of it
abbrev pub IsListOf : Parts → Typed → Type 0
IsListOf parts t = IsListed (layout_in t).fields × (field_count (layout_in t).fields ≡ part_count parts) × (variants_of (layout_in t).variants ≡ [])

-- the last field: of a coroutine the tag
abbrev pub last_field : Layout → ℕ
last_field layout = field_count layout.fields - 1

abbrev mutual
  -- the type of a handle is the laid-out type, with all parts
  pub Sees : Typed → Placed → Type 0
  Sees t (scalar layout s) = SeesWhole t layout no_marks
  Sees t (pair layout parts) = SeesWhole t layout no_marks × SeesParts t 0 parts
  Sees t (never layout mark) = SeesWhole t layout (marks_by mark)
  Sees t (elements layout count element) = SeesWhole t layout no_marks × ((i : ℕ) → Sees (field_in t i) element)
  Sees t (vector layout lanes) = SeesWhole t layout no_marks × Sees (field_in t 0) lanes
  Sees t (fields layout mark parts) = SeesWhole t layout (marks_by mark) × SeesParts t 0 parts
  Sees t (union layout mark parts) = SeesWhole t layout (marks_by mark) × SeesTypes t 0 parts
  Sees t (single layout mark index parts) = SeesWhole t layout (marks_by mark) × SeesParts t 0 parts
  Sees t (tagged layout mark offset tag encoding tagged_variants) = SeesWhole t layout (marks_by mark) × HasOffset t 0 offset × Sees (field_in t 0) tag × SeesTaggedVariants t 0 tagged_variants
  Sees t (states layout prefix offset tag tagged_variants) =
      SeesWhole t layout no_marks × SeesParts t 0 prefix × HasOffset t (last_field layout) offset × Sees (field_in t (last_field layout)) tag × SeesTaggedVariants t 0 tagged_variants

  -- the fields from this index on are the parts
  pub SeesParts : Typed → (index : ℕ) → Parts → Type 0
  SeesParts t i no_parts = ⊤
  SeesParts t i (part offset p parts) = HasOffset t i offset × Sees (field_in t i) p × SeesParts t (suc i) parts

  -- the fields from this index on are of the parts' types, wherever they lie
  pub SeesTypes : Typed → (index : ℕ) → Parts → Type 0
  SeesTypes t i no_parts = ⊤
  SeesTypes t i (part offset p parts) = Sees (field_in t i) p × SeesTypes t (suc i) parts

  -- each variant from this index on has the tagged variant's layout, says of itself what the tagged variant does, and has the parts that the
  -- tagged variant has of its own, and no others
  pub SeesTaggedVariants : Typed → (index : ℕ) → TaggedVariants → Type 0
  SeesTaggedVariants t i nothing_tagged = ⊤
  SeesTaggedVariants t i (tagged_variant number layout mark parts tagged_variants) =
      SeesWhole (variant_in t i) layout (marks_by mark) × IsListOf parts (variant_in t i)
      × SeesParts (variant_in t i) 0 parts × SeesTaggedVariants t (suc i) tagged_variants
