use Rattle.std.proofs.Common.{◌≡◌, ◌+◌, ◌*◌, ℕ, List, length}
use Rattle.abi_tree.specs.Bytes.{AreBytes}
use Rattle.abi_tree.specs.Deciding.{covering_value, covering_values, each_value}
use Rattle.abi_tree.specs.Placed.{size_of}
use Rattle.abi_tree.specs.Nodes.{parts_at, placed_at}
use Rattle.abi_tree.specs.Well.{all_at}
use Rattle.abi_tree.specs.Holding.{HoldEach, HoldParts, Holds}
use Rattle.abi_tree.proofs.Deciding.CoverLemmas.{ElementsPut, FieldsPut}
use Rattle.abi_tree.proofs.value.decide.+cover.Given as goal

abbrev pub decreases-put_parts : goal.decreases-put_parts
decreases-put_parts l = 6 * l.node

abbrev pub decreases-put_tagged_variant : goal.decreases-put_tagged_variant
decreases-put_tagged_variant l = 6 * l.node + 1

abbrev pub decreases-put_variant : goal.decreases-put_variant
decreases-put_variant l = 6 * l.node + 2

abbrev pub decreases-put_state : goal.decreases-put_state
decreases-put_state l = 6 * l.node + 2

abbrev pub decreases-put_node : goal.decreases-put_node
decreases-put_node l = 6 * l.node + 3

abbrev pub decreases-put_elements : goal.decreases-put_elements
decreases-put_elements l = 6 * l.element + 5

abbrev pub invariant-put_elements-loop-i : goal.invariant-put_elements-loop-i
invariant-put_elements-loop-i l = record {
  long : length l.bytes ≡ length l.fn.bytes;
  put : (b : List ℕ) → AreBytes b →
      HoldEach (Holds l.cover.order (placed_at l.cover.nodes.now l.element)) (size_of (placed_at l.cover.nodes.now l.element)) 0 b
      (each_value (covering_value (placed_at l.cover.nodes.now l.element)) (size_of (placed_at l.cover.nodes.now l.element)) 0 l.count l.place) →
      ElementsPut l.cover.order (placed_at l.cover.nodes.now l.element) l.place l.count l.at b l.fn.bytes l.i l.bytes;
}

abbrev pub invariant-put_parts-loop-i : goal.invariant-put_parts-loop-i
invariant-put_parts-loop-i l = record {
  long : length l.bytes ≡ length l.fn.bytes;
  put : (b : List ℕ) → AreBytes b →
      HoldParts l.cover.order (parts_at l.offsets (all_at l.cover.nodes.now l.children)) b
      (covering_values (parts_at l.offsets (all_at l.cover.nodes.now l.children)) l.place) →
      FieldsPut l.cover.order l.offsets (all_at l.cover.nodes.now l.children) l.place l.at b l.fn.bytes l.i l.bytes;
}
