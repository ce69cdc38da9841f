-- What all nodes keep, and that one more was put behind them.
use Rattle.std.specs.Prelude.{◌≡◌, ℕ, ◌+◌, ◌&&◌, Bool, true, List, [], ◌∷◌, length, map, nat_lt}
use Rattle.std.specs.List.{list_all}
use Rattle.abi_tree.specs.declared.node.Shape.{Shape}
use Rattle.abi_tree.specs.declared.node.Shape.TheVariants.{Scalar, Pair, Never, Elements, Fields, Union, Vector, Single, Tagged, States}
use Rattle.abi_tree.specs.declared.node.Node.{Node}
use Rattle.abi_tree.specs.Placed.{Placed}
use Rattle.abi_tree.specs.Nodes.{placed_in, types_in, placed_at, Keeps}
use Rattle.abi_tree.specs.Laws.{keep_laws}
use Rattle.abi_tree.specs.Widths.{have_widths}

-- a node at this place names only earlier ones
abbrev pub is_node : ℕ → Shape → Bool
is_node i (Scalar s) = true
is_node i (Pair first second) = nat_lt first i && nat_lt second i
is_node i (Never mark) = true
is_node i (Elements count element) = nat_lt element i
is_node i (Fields mark children) = list_all (λ child. nat_lt child i) children.items
is_node i (Union mark children) = list_all (λ child. nat_lt child i) children.items
is_node i (Vector lanes) = nat_lt lanes i
is_node i (Single mark children) = list_all (λ child. nat_lt child i) children.items
is_node i (Tagged mark tag variants) = nat_lt tag i && list_all (λ v. nat_lt v.1 i) variants.items
is_node i (States prefix tag all) =
    list_all (λ child. nat_lt child i) prefix.items && (nat_lt tag i && list_all (λ v. nat_lt v.1 i) all.items)

-- each node, from this place on, names only earlier ones
abbrev pub are_nodes : ℕ → List Node → Bool
are_nodes i [] = true
are_nodes i (n ∷ ns) = is_node i n.shape && are_nodes (i + 1) ns

-- What all nodes keep.
pub record AreWell (ns : List Node) : Type 0 where
  pub earlier : are_nodes 0 ns ≡ true
  pub laws : keep_laws [] ns ≡ true
  pub widths : have_widths [] ns ≡ true

-- A node was put last, and each node that was there kept.
pub record IsPut (old new : List Node) (i : ℕ) (placed : Placed) : Type 0 where
  pub kept : Keeps (types_in old) (types_in new)
  pub well : AreWell old → AreWell new
  pub last : i + 1 ≡ length new
  pub meant : placed_at new i ≡ placed

-- what the nodes at these places mean
abbrev pub all_at : List Node → List ℕ → List Placed
all_at ns children = map (placed_in (types_in ns)) children
