-- `repr.c.union`: as large as its largest field, rounded up to the alignment of its most aligned one; each field at 0.
use Rattle.std.specs.Prelude.{◌≡◌, ⊤, List, map}
use Rattle.abi_tree.specs.Tree.{Tree, Trees, union}
use Rattle.abi_tree.specs.Placed.{Placed, Parts, union as together}
use Rattle.guarantees.specs.Reference.Words.{Extent, HasPartForEach, extent_of, extents_of, largest, most_aligned, rounded_up}
use Rattle.rustc_abi.specs.Lists.{offsets_of}
use Rattle.guarantees.specs.Reference.CStruct.{IsPlainC}

abbrev pub c_union : List Extent → Extent
c_union fields = record { size = rounded_up (largest fields) (most_aligned fields); align = most_aligned fields }

pub record LiesTogetherInC (all : Trees) (parts : Parts) (whole : Placed) : Type 0 where
  pub each : HasPartForEach all parts
  pub offsets : offsets_of parts ≡ map (λ field. 0) (extents_of parts)
  pub extent : extent_of whole ≡ c_union (extents_of parts)

abbrev pub IsCUnion : Tree → Placed → Type 0
IsCUnion (union repr all) (together layout mark parts) =
    IsPlainC repr → LiesTogetherInC all parts (together layout mark parts)
IsCUnion (union repr all) _ = IsPlainC repr → ⊥
IsCUnion _ placed = ⊤
