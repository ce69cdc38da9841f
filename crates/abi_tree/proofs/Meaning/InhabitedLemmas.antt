-- Whether no node is flagged, told node after node.
use Rattle.std.proofs.Common.{◌≡◌, ℕ, ◌+◌, ◌<◌, true, false, List, [], ◌∷◌, drop, length, arith, sym, ap, ◌∙◌}
use Rattle.std.specs.Prelude.{◌&&◌, not}
use Rattle.std.proofs.lemmas.List.{drop_more}
use Rattle.abi_tree.specs.declared.node.Node.{Node}
use Rattle.abi_tree.specs.Placed.{layout_of}
use Rattle.abi_scalar.specs.Layout.{Layout}
use Rattle.abi_tree.specs.Nodes.{placed_at}
use Rattle.abi_tree.specs.Deciding.{are_inhabited}
use Rattle.abi_tree.proofs.Meaning.NodesLemmas.{layout_of-placed_at}

from_here : (ns : List Node) (i : ℕ) (d : Node) → i < length ns → are_inhabited (drop i ns) ≡ (not (layout_of (placed_at ns i)).uninhabited && are_inhabited (drop (i + 1) ns))
from_here ns i d lt =
    ap are_inhabited (drop_more ns i d lt) ∙ ap (λ (l : Layout). not l.uninhabited && are_inhabited (drop (i + 1) ns)) (sym (layout_of-placed_at ns i d lt))

some_node : (ns : List Node) (i : ℕ) → i < length ns → Node
some_node [] i lt = absurd (omega arith)
some_node (n ∷ ns) i lt = n

-- past a node that isn't flagged
pub inhabited_from : (ns : List Node) (i : ℕ) → i < length ns → (layout_of (placed_at ns i)).uninhabited ≡ false → are_inhabited (drop i ns) ≡ are_inhabited (drop (i + 1) ns)
inhabited_from ns i lt clear = from_here ns i (some_node ns i lt) lt ∙ ap (λ b. not b && are_inhabited (drop (i + 1) ns)) clear

-- at one that is
pub flagged_from : (ns : List Node) (i : ℕ) → i < length ns → (layout_of (placed_at ns i)).uninhabited ≡ true → are_inhabited (drop i ns) ≡ false
flagged_from ns i lt set = from_here ns i (some_node ns i lt) lt ∙ ap (λ b. not b && are_inhabited (drop (i + 1) ns)) set
