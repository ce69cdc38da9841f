-- Fields that lie as C has them.
use Rattle.std.specs.Prelude.{◌≡◌, ℕ, ◌+◌, ◌^◌, ◌≤◌, All, List, [], ◌∷◌, Option, None, Ok, if◌then◌else◌, is_some, true}
use Rattle.std.specs.Int.{◌∣◌}
use Rattle.abi_base.specs.DataLayout.{IsLawfulDataLayout}
use Rattle.abi_base.specs.declared.data_layout.TargetDataLayout.{TargetDataLayout}
use Rattle.abi_scalar.specs.declared.repr.ReprOptions.{ReprOptions}
use Rattle.abi_scalar.specs.Repr.{has_fixed_order}
use Rattle.abi_scalar.specs.Shape.{listed_offsets}
use Rattle.abi_univariant.specs.Placement.{cut}
use Rattle.abi_univariant.specs.Union.{raised_to}
use Rattle.abi_tree.specs.Placed.{Placed, layout_of, size_of}
use Rattle.abi_tree.specs.Tree.{Tree, Trees, struct, union}
use Rattle.rustc_abi.specs.Laying.{IsLaying}

-- the tree is a struct of these fields, under a repr that fixes their order, as `repr(C)` does, and names this pack and this
-- alignment, if any
abbrev pub IsInC : (pack raised : Option ℕ) → Tree → Trees → Type 0
IsInC pack raised tree fields =
    (repr : ReprOptions) × (tree ≡ struct repr true None fields) × (has_fixed_order repr ≡ true)
    × (repr.pack ≡ pack) × (repr.align ≡ raised)

-- laid out under a lawful data layout, the tree lists its fields at these offsets, and has this size and this alignment
abbrev pub IsLaidOutAs : TargetDataLayout → Tree → (offsets : List ℕ) → (size align : ℕ) → Type 0
IsLaidOutAs dl tree offsets size align =
    IsLawfulDataLayout dl × (placed : Placed) × IsLaying dl tree (Ok placed)
    × (listed_offsets (layout_of placed).fields ≡ offsets) × (size_of placed ≡ size) × ((layout_of placed).align.abi ≡ align)

-- The place is the least multiple of the alignment, an exponent of two, that isn't before `from`.
pub record IsLeastMultiple (align from place : ℕ) : Type 0 where
  pub multiple : 2 ^ align ∣ place
  pub after : from ≤ place
  pub least : (other : ℕ) → 2 ^ align ∣ other → from ≤ other → place ≤ other

-- how a type that was laid out is aligned, as an exponent of two
abbrev pub align_exponent : Placed → ℕ
align_exponent placed = (layout_of placed).align.abi

-- how it is aligned as a field: no more than the pack says, if one is named
abbrev pub field_align : (pack : Option ℕ) → Placed → ℕ
field_align pack field = cut pack (align_exponent field)

-- each field lies at the least multiple of its alignment that isn't before the end of the one before it, the first from
-- `from` on, and the last one ends at `end`
abbrev pub FollowEachOther : (pack : Option ℕ) → (from : ℕ) → List Placed → (offsets : List ℕ) → (end : ℕ) → Type 0
FollowEachOther pack from [] [] end = end ≡ from
FollowEachOther pack from (field ∷ fields) (offset ∷ offsets) end =
    IsLeastMultiple (field_align pack field) from offset × FollowEachOther pack (offset + size_of field) fields offsets end
FollowEachOther pack from _ _ end = ⊥

-- The alignment is the greatest one: of `least`, and of those of the fields.
pub record IsGreatestAlign (pack : Option ℕ) (least : ℕ) (fields : List Placed) (align : ℕ) : Type 0 where
  pub above : least ≤ align
  pub each : All (λ field. field_align pack field ≤ align) fields
  pub no_greater : (other : ℕ) → least ≤ other → All (λ field. field_align pack field ≤ other) fields → align ≤ other

-- a struct is aligned so at least: as aggregates, or as a byte where its fields are packed, and as it asks for, if it does
abbrev pub least_align : TargetDataLayout → (pack raised : Option ℕ) → ℕ
least_align dl pack raised = raised_to raised (if is_some pack then dl.i8_align else dl.aggregate_align)

-- Fields lie so at these offsets, from 0 on. The alignment of the whole is the greatest one, and the size is the end of
-- the fields, rounded up to it.
pub record LieAsInC (pack : Option ℕ) (least : ℕ) (fields : List Placed) (offsets : List ℕ) (size align : ℕ) : Type 0 where
  pub end : ℕ
  pub follow : FollowEachOther pack 0 fields offsets end
  pub aligned : IsGreatestAlign pack least fields align
  pub rounded : IsLeastMultiple align end size

-- ---- unions

-- the tree is a union of these fields, under a repr that names no alignment, as `repr(C)` does
abbrev pub IsUnionInC : Tree → Trees → Type 0
IsUnionInC tree fields = (repr : ReprOptions) × (tree ≡ union repr fields) × (repr.pack ≡ None) × (repr.align ≡ None)

-- laid out under a lawful data layout, the tree has this size and this alignment
abbrev pub HasExtent : TargetDataLayout → Tree → (size align : ℕ) → Type 0
HasExtent dl tree size align =
    IsLawfulDataLayout dl × (placed : Placed) × IsLaying dl tree (Ok placed) × (size_of placed ≡ size)
    × ((layout_of placed).align.abi ≡ align)

-- Fields lie so, each at 0: the alignment of the whole is the greatest one, and the size is the greatest size, rounded up
-- to it.
pub record LieTogetherAsInC (least : ℕ) (fields : List Placed) (size align : ℕ) : Type 0 where
  pub end : ℕ
  pub each : All (λ field. size_of field ≤ end) fields
  pub no_less : (other : ℕ) → All (λ field. size_of field ≤ other) fields → end ≤ other
  pub aligned : IsGreatestAlign None least fields align
  pub rounded : IsLeastMultiple align end size
