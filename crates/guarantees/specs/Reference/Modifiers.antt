-- `repr.alignment`: `align(n)` and `packed(n)`. What a modifier leaves alone is said of the same type without it, so the
-- rules speak of which layout a type has.
use Rattle.std.specs.Prelude.{◌≡◌, ℕ, ◌+◌, ◌^◌, ◌<◌, ◌≤◌, ◌⊎◌, ⊤, All, IsSome, List, [], ◌∷◌, None, Some, map, max, min, true, IsPermutation}
use Rattle.abi_scalar.specs.declared.repr.ReprOptions.{ReprOptions}
use Rattle.abi_scalar.specs.Repr.{is_c}
use Rattle.abi_tree.specs.Tree.{Tree, more_trees, no_trees, Variants, more_variants, struct, union, enum}
use Rattle.abi_tree.specs.Placed.{Placed, Parts, no_parts, part, fields, single, tagged, parts_in, size_of}
use Rattle.guarantees.specs.Reference.Words.{Extent, HasPartForEach, align_in_bytes, extent_of, extents_of, padding_needed_for, rounded_up}
use Rattle.rustc_abi.specs.Lists.{offsets_of}
use Rattle.guarantees.specs.Reference.CStruct.{c_offsets, c_struct}
use Rattle.guarantees.specs.Reference.Tags.{discriminants}

-- `repr.alignment.packed-fields`: the smaller of the specified alignment and the field's own, for positioning it
abbrev pub packed_to : (bytes : ℕ) → Extent → Extent
packed_to bytes field = record { size = field.size; align = min bytes field.align }

-- each extent lies at the first place behind the one before it that fits its alignment, the last one ends at `end`
abbrev pub LieClosely : (from : ℕ) → List (ℕ × Extent) → (end : ℕ) → Type 0
LieClosely from [] end = end ≡ from
LieClosely from ((offset, field) ∷ more) end =
    (offset ≡ from + padding_needed_for from field.align) × LieClosely (offset + field.size) more end

-- where the fields lie, by the alignments that they are positioned with
abbrev pub positioned : (bytes : ℕ) → Parts → List (ℕ × Extent)
positioned bytes no_parts = []
positioned bytes (part offset placed parts) = (offset, packed_to bytes (extent_of placed)) ∷ positioned bytes parts

-- `repr.alignment.packed-padding`: in some order no padding is more than these alignments ask for, and the size is where the
-- last field ends, rounded up to the alignment of the whole.
pub record LiePacked (bytes : ℕ) (parts : Parts) (size align : ℕ) : Type 0 where
  pub ordered : List (ℕ × Extent)
  pub end : ℕ
  pub fields : IsPermutation (positioned bytes parts) ordered
  pub close : LieClosely 0 ordered end
  pub extent : size ≡ rounded_up end align

-- which order, only `repr(C)` says
abbrev pub IsPacked : Tree → Placed → Type 0
IsPacked (struct repr always_sized order all) placed =
    (n : ℕ) → repr.pack ≡ Some n → LiePacked (2 ^ n) (parts_in placed) (size_of placed) (align_in_bytes placed)
IsPacked _ placed = ⊤

-- a packed `repr(C)` struct: the C algorithm with the cut alignments
abbrev pub IsPackedC : Tree → Placed → Type 0
IsPackedC (struct repr always_sized None all) (fields layout mark parts) =
    (n : ℕ) → repr.pack ≡ Some n → repr.align ≡ None → is_c repr ≡ true →
    HasPartForEach all parts
    × (offsets_of parts ≡ c_offsets 0 (map (packed_to (2 ^ n)) (extents_of parts)))
    × (extent_of (fields layout mark parts) ≡ c_struct (map (packed_to (2 ^ n)) (extents_of parts)))
IsPackedC _ placed = ⊤

-- the same type without `align`, and without `packed`
abbrev pub unaligned : ReprOptions → ReprOptions
unaligned repr = record repr { align = None }

abbrev pub unpacked : ReprOptions → ReprOptions
unpacked repr = record repr { pack = None }

-- C's representation, or an integer's
abbrev pub IsForeign : ReprOptions → Type 0
IsForeign repr = (is_c repr ≡ true) ⊎ IsSome repr.int

-- some variant is left: the enum isn't laid out as a type without values
abbrev pub HasVariant : Placed → Type 0
HasVariant (single layout mark index parts) = ⊤
HasVariant (tagged layout mark offset tag encoding tagged_variants) = ⊤
HasVariant _ = ⊥

-- such a representation; or Rust's own, a variant that is left, and discriminants of a byte
abbrev pub IsRaisable : ReprOptions → Variants → Placed → Type 0
IsRaisable repr all placed = IsForeign repr ⊎ ((repr.pack ≡ None) × All (λ d. d < 256) (discriminants all) × HasVariant placed)

module _ (HasLayout : Tree → Placed → Type 0) where
  -- `repr.alignment.align`: with `align(n)` the alignment is n, or that of the type without it where that is greater
  abbrev pub IsRaisedFrom : (bytes : ℕ) → (without : Tree) → Placed → Type 0
  IsRaisedFrom bytes without placed =
      (before : Placed) → HasLayout without before → align_in_bytes placed ≡ max bytes (align_in_bytes before)

  abbrev pub IsRaised : Tree → Placed → Type 0
  IsRaised (struct repr always_sized order all) placed =
      (n : ℕ) → repr.align ≡ Some n → IsRaisedFrom (2 ^ n) (struct (unaligned repr) always_sized order all) placed
  IsRaised (union repr all) placed = (n : ℕ) → repr.align ≡ Some n → IsRaisedFrom (2 ^ n) (union (unaligned repr) all) placed
  IsRaised _ placed = ⊤

  -- `repr.alignment.packed`: one that is no smaller than the type's alignment without it leaves that; where the fields lie
  -- it leaves under `repr(C)` alone (`IsPackedC` says so, since no alignment is cut then)
  abbrev pub IsPackedWide : Tree → Placed → Type 0
  IsPackedWide (struct repr always_sized order all) placed =
      (n : ℕ) → repr.pack ≡ Some n → (before : Placed) → HasLayout (struct (unpacked repr) always_sized order all) before
      → align_in_bytes before ≤ 2 ^ n → align_in_bytes placed ≡ align_in_bytes before
  IsPackedWide (union repr all) placed =
      (n : ℕ) → repr.pack ≡ Some n → (before : Placed) → HasLayout (union (unpacked repr) all) before
      → align_in_bytes before ≤ 2 ^ n → align_in_bytes placed ≡ align_in_bytes before
  IsPackedWide _ placed = ⊤

  -- `repr.alignment.enum`: an enum under `align(n)` is aligned as a struct under it around the enum without it. Of an enum without
  -- a variant nothing is said.
  abbrev pub IsRaisedEnum : Tree → Placed → Type 0
  IsRaisedEnum (enum repr (more_variants discriminant ts others)) placed =
      (n : ℕ) → repr.align ≡ Some n → IsRaisable repr (more_variants discriminant ts others) placed
      → (around : ReprOptions) → around.align ≡ Some n → around.pack ≡ None → (wrapped : Placed)
      → HasLayout (struct around true None (more_trees (enum (unaligned repr) (more_variants discriminant ts others)) no_trees)) wrapped
      → align_in_bytes placed ≡ align_in_bytes wrapped
  IsRaisedEnum _ placed = ⊤
