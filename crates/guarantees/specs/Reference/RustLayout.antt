-- `repr.rust.layout`: what the default representation promises.
use Rattle.std.specs.Prelude.{◌≡◌, ℕ, ◌+◌, ◌≤◌, ⊤, List, [], ◌∷◌, None, IsPermutation}
use Rattle.std.specs.Int.{◌∣◌}
use Rattle.abi_tree.specs.Tree.{Tree, struct, union, enum}
use Rattle.abi_tree.specs.Placed.{Placed, Parts, no_parts, part, TaggedVariants, nothing_tagged, tagged_variant, fields, single, tagged, parts_in, size_of}
use Rattle.guarantees.specs.Reference.Words.{HasPartForEach, align_in_bytes}

-- each offset is a multiple of the field's alignment, and the type's alignment is at least the field's
abbrev pub ArePartsAligned : (whole : ℕ) → Parts → Type 0
ArePartsAligned whole no_parts = ⊤
ArePartsAligned whole (part offset placed parts) =
    (align_in_bytes placed ∣ offset) × (align_in_bytes placed ≤ whole) × ArePartsAligned whole parts

-- the same of each variant's fields
abbrev pub AreAlignedIn : (whole : ℕ) → TaggedVariants → Type 0
AreAlignedIn whole nothing_tagged = ⊤
AreAlignedIn whole (tagged_variant number layout mark parts tagged_variants) = ArePartsAligned whole parts × AreAlignedIn whole tagged_variants

-- of structs, unions and enums that aren't packed
abbrev pub IsAligned : Tree → Placed → Type 0
IsAligned (struct repr always_sized order all) placed = repr.pack ≡ None → ArePartsAligned (align_in_bytes placed) (parts_in placed)
IsAligned (union repr all) placed = repr.pack ≡ None → ArePartsAligned (align_in_bytes placed) (parts_in placed)
IsAligned (enum repr all) (single layout mark index parts) =
    repr.pack ≡ None → ArePartsAligned (align_in_bytes (single layout mark index parts)) parts
IsAligned (enum repr all) (tagged layout mark offset tag encoding tagged_variants) =
    repr.pack ≡ None → AreAlignedIn (align_in_bytes (tagged layout mark offset tag encoding tagged_variants)) tagged_variants
IsAligned _ placed = ⊤

-- where each field begins and how many bytes it has
abbrev pub places : Parts → List (ℕ × ℕ)
places no_parts = []
places (part offset placed parts) = (offset, size_of placed) ∷ places parts

-- each of them ends before the next one begins
abbrev pub DontOverlap : (from : ℕ) → List (ℕ × ℕ) → Type 0
DontOverlap from [] = ⊤
DontOverlap from ((offset, size) ∷ more) = (from ≤ offset) × DontOverlap (offset + size) more

-- `repr.rust.layout.struct`: a struct's fields can be ordered so; there is a part for each of them
abbrev pub IsApart : Tree → Placed → Type 0
IsApart (struct repr always_sized order all) (fields layout mark parts) =
    HasPartForEach all parts × ((ordered : List (ℕ × ℕ)) × IsPermutation (places parts) ordered × DontOverlap 0 ordered)
IsApart (struct repr always_sized order all) _ = ⊥
IsApart _ placed = ⊤

module _ (HasLayout : Tree → Placed → Type 0) where
  -- `repr.inter-field`: a type lies in another as it does by itself, and it has no second layout
  abbrev pub LiesAsAlone : Tree → Placed → Type 0
  LiesAsAlone tree placed = ((other : Placed) → HasLayout tree other → other ≡ placed) × HasLayout tree placed
