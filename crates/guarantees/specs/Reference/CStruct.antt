-- `repr.c.struct`: the C algorithm.
use Rattle.std.specs.Prelude.{◌≡◌, ℕ, ◌+◌, ⊤, List, [], ◌∷◌, None, true}
use Rattle.abi_scalar.specs.declared.repr.ReprOptions.{ReprOptions}
use Rattle.abi_scalar.specs.Repr.{is_c}
use Rattle.abi_tree.specs.Tree.{Tree, Trees, struct}
use Rattle.abi_tree.specs.Placed.{Placed, Parts, fields}
use Rattle.guarantees.specs.Reference.Words.{Extent, HasPartForEach, extent_of, extents_of, most_aligned, padding_needed_for, rounded_up}
use Rattle.rustc_abi.specs.Lists.{offsets_of}

-- Start with a current offset. For each field add padding until it is a multiple of the field's alignment: that is the
-- field's offset. Then add the field's size.
abbrev pub c_offsets : (current : ℕ) → List Extent → List ℕ
c_offsets current [] = []
c_offsets current (field ∷ rest) =
    let offset : ℕ = current + padding_needed_for current field.align in offset ∷ c_offsets (offset + field.size) rest

-- the current offset behind the last field
abbrev pub c_end : (current : ℕ) → List Extent → ℕ
c_end current [] = current
c_end current (field ∷ rest) = c_end (current + padding_needed_for current field.align + field.size) rest

-- a struct of these fields: aligned as the most aligned one, and as large as the current offset is at the end, rounded up
abbrev pub c_struct : List Extent → Extent
c_struct all = record { size = rounded_up (c_end 0 all) (most_aligned all); align = most_aligned all }

-- `repr(C)` with neither `align` nor `packed`
abbrev pub IsPlainC : ReprOptions → Type 0
IsPlainC repr = (is_c repr ≡ true) × (repr.align ≡ None) × (repr.pack ≡ None)

-- the whole lies as a `repr(C)` struct of its fields
pub record LiesInC (all : Trees) (parts : Parts) (whole : Placed) : Type 0 where
  pub each : HasPartForEach all parts
  pub offsets : offsets_of parts ≡ c_offsets 0 (extents_of parts)
  pub extent : extent_of whole ≡ c_struct (extents_of parts)

-- of other types nothing is said; a `repr(C)` struct that is laid out as another kind of type doesn't lie in C
abbrev pub IsCStruct : Tree → Placed → Type 0
IsCStruct (struct repr always_sized None all) (fields layout mark parts) =
    IsPlainC repr → LiesInC all parts (fields layout mark parts)
IsCStruct (struct repr always_sized None all) _ = IsPlainC repr → ⊥
IsCStruct _ placed = ⊤
