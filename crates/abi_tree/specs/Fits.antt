-- What each node that is laid out keeps.
use Rattle.std.specs.Prelude.{◌≡◌, ℕ, ◌<◌, true}
use Rattle.abi_base.specs.declared.data_layout.TargetDataLayout.{TargetDataLayout}
use Rattle.abi_scalar.specs.Lawful.{IsLawfulLayout}
use Rattle.abi_tree.specs.Tree.{Tree}
use Rattle.abi_tree.specs.Placed.{Placed, layout_of, size_of}
use Rattle.abi_tree.specs.Places.{is_data_place}
use Rattle.abi_tree.specs.Values.{LocalsHaveValues}
use Rattle.abi_tree.specs.Room.{has_room}
use Rattle.abi_tree.specs.Faithful.{IsFaithful}
use Rattle.abi_tree.specs.Unions.{IsCommon, InUnions}
use Rattle.abi_tree.specs.Untagged.{UntaggedNamed}

-- The laid-out type keeps the tree's values, its layout is lawful, each part ends inside, its data places lie inside it,
-- byte lists that hold one value of a union in it hold the same values of the union's fields, and the fields of the untagged
-- variant of each enum in it that a niche distinguishes hold a number that names this variant.
pub record Fits (dl : TargetDataLayout) (tree : Tree) (placed : Placed) : Type 0 where
  pub faithful : LocalsHaveValues dl tree → IsFaithful dl tree placed
  pub lawful : IsLawfulLayout dl (layout_of placed)
  pub room : has_room placed ≡ true
  pub within : (k : ℕ) → is_data_place placed k ≡ true → k < size_of placed
  pub common : LocalsHaveValues dl tree → InUnions (IsCommon dl.endian) placed
  pub untagged : LocalsHaveValues dl tree → UntaggedNamed dl.endian placed
