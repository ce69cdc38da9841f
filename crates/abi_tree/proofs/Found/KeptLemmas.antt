-- A value that was found in bytes, where the layout keeps a tree's values.
use Rattle.std.proofs.Common.{◌≡◌, ◌-◌, List, ℕ, Option, Some, None, length, subst}
use Rattle.std.specs.Prelude.{IfSome}
use Rattle.abi_base.specs.declared.data_layout.TargetDataLayout.{TargetDataLayout}
use Rattle.abi_base.specs.declared.endian.Endian.{Endian}
use Rattle.abi_tree.specs.declared.laid.Laid.{Laid}
use Rattle.abi_tree.specs.declared.node.Node.{Node}
use Rattle.abi_tree.specs.declared.value.Value.{Value as Kept}
use Rattle.abi_tree.specs.Value.{Value, value_of}
use Rattle.abi_tree.specs.Values.{IsValueOf}
use Rattle.abi_tree.specs.Tree.{Tree}
use Rattle.abi_tree.specs.Bytes.{AreBytes}
use Rattle.abi_tree.specs.Nodes.{placed_at, root_of}
use Rattle.abi_tree.specs.Holding.{Holds}
use Rattle.abi_tree.specs.Laid.{endian_of, placed_of}
use Rattle.abi_tree.specs.Reading.{Finds, KeepsValues}

-- the value of a laid-out type is that of its last node
pub found_laid : (laid : Laid) (b : List ℕ) (ns : List Node) (last : ℕ) (order : Endian) (found : Option Kept) → ns ≡ laid.nodes → last ≡ length ns - 1 → order ≡ endian_of laid →
    Finds (Holds order (placed_at ns last) b) found → Finds (Holds (endian_of laid) (placed_of laid) b) found
found_laid laid b ns last order found same end is h =
    subst (λ xs. Finds (Holds (endian_of laid) (root_of xs) b) found) same (subst (λ o. Finds (Holds o (root_of ns) b) found) is (subst (λ i. Finds (Holds order (placed_at ns i) b) found) end h))

module _ (laid : Laid) (b : List ℕ) where
  -- it is one of the tree's
  pub found_value : (found : Option Kept) → AreBytes b → Finds (Holds (endian_of laid) (placed_of laid) b) found →
      IfSome found (λ v. (dl : TargetDataLayout) (tree : Tree) → KeepsValues dl tree laid → IsValueOf dl tree (placed_of laid) (value_of v))
  found_value None all h = tt
  found_value (Some v) all h = λ dl tree keeps. keeps.only b (value_of v) all (subst (λ o. Holds o (placed_of laid) b (value_of v)) keeps.order h)

  -- and no other is held
  pub found_alone : (found : Option Kept) → Finds (Holds (endian_of laid) (placed_of laid) b) found →
      IfSome found (λ v. (dl : TargetDataLayout) (tree : Tree) → KeepsValues dl tree laid →
      (other : Value) → Holds (endian_of laid) (placed_of laid) b other → other ≡ value_of v)
  found_alone None h = tt
  found_alone (Some v) h = λ dl tree keeps other holds.
      keeps.unique b other (value_of v) (subst (λ o. Holds o (placed_of laid) b other) keeps.order holds) (subst (λ o. Holds o (placed_of laid) b (value_of v)) keeps.order h)
