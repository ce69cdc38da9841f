-- What a laid-out type keeps of the tree that it was laid out from.
use Rattle.std.specs.Prelude.{◌≡◌, true}
use Rattle.abi_base.specs.declared.data_layout.TargetDataLayout.{TargetDataLayout}
use Rattle.abi_tree.specs.declared.laid.Laid.{Laid}
use Rattle.abi_tree.specs.Deciding.{KeepsPlaces, all_inhabited_of}
use Rattle.abi_tree.specs.Faithful.{PaddingDecidesNothing}
use Rattle.abi_tree.specs.Laid.{endian_of, placed_of}
use Rattle.abi_tree.specs.Reading.{KeepsValues}
use Rattle.abi_tree.specs.Tree.{Tree}
use Rattle.abi_tree.specs.Unused.{KeepsToPlaces, ListsUnused}
use Rattle.abi_tree.specs.Values.{LocalsHaveValues}

-- The laid-out type keeps the data layout's byte order; the tree's values, and padding decides nothing, where each local of each
-- coroutine in the tree has a value; and its data places, where each type in it has values. Values keep to their places, and handles tell
-- what variants leave unused.
pub record KeepsTree (dl : TargetDataLayout) (tree : Tree) (laid : Laid) : Type 0 where
  pub order : endian_of laid ≡ dl.endian
  pub values : LocalsHaveValues dl tree → KeepsValues dl tree laid
  pub padding : LocalsHaveValues dl tree → PaddingDecidesNothing dl (placed_of laid)
  pub places : all_inhabited_of laid ≡ true → KeepsPlaces dl tree laid
  pub own_places : KeepsToPlaces dl.endian (placed_of laid)
  pub unused : ListsUnused laid

-- The laid-out type is one of some tree, under some data layout: it keeps the tree, in which each local of each coroutine has a value.
pub record IsOfTree (laid : Laid) : Type 0 where
  pub dl : TargetDataLayout
  pub tree : Tree
  pub locals : LocalsHaveValues dl tree
  pub keeps : KeepsTree dl tree laid
