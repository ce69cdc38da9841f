use Rattle.std.proofs.Common.{◌≡◌, ◌+◌, ◌*◌, ℕ, List, length}
use Rattle.abi_tree.specs.Value.{values_of}
use Rattle.abi_tree.specs.Bytes.{AreBytes}
use Rattle.abi_tree.specs.Placed.{size_of}
use Rattle.abi_tree.specs.Nodes.{parts_at, placed_at}
use Rattle.abi_tree.specs.Well.{all_at}
use Rattle.abi_tree.specs.Holding.{HoldEach, HoldParts, Holds}
use Rattle.abi_tree.proofs.Written.WriteLemmas.{AreWritten, WrittenElements}
use Rattle.abi_tree.proofs.value.write.+write.Given as goal

abbrev pub decreases-write_parts : goal.decreases-write_parts
decreases-write_parts l = 6 * l.node

abbrev pub decreases-write_own : goal.decreases-write_own
decreases-write_own l = 6 * l.variant + 1

abbrev pub decreases-write_tagged_variant : goal.decreases-write_tagged_variant
decreases-write_tagged_variant l = 6 * l.node + 1

abbrev pub decreases-write_fields : goal.decreases-write_fields
decreases-write_fields l = 6 * l.node + 1

abbrev pub decreases-write_variant : goal.decreases-write_variant
decreases-write_variant l = 6 * l.node + 2

abbrev pub decreases-write_state : goal.decreases-write_state
decreases-write_state l = 6 * l.node + 2

abbrev pub decreases-write_node : goal.decreases-write_node
decreases-write_node l = 6 * l.node + 3

abbrev pub decreases-write_elements : goal.decreases-write_elements
decreases-write_elements l = 6 * l.element + 5

abbrev pub invariant-write_elements-loop-i : goal.invariant-write_elements-loop-i
invariant-write_elements-loop-i l = record {
  long : length l.bytes ≡ length l.fn.bytes;
  put : (b : List ℕ) → AreBytes b → HoldEach (Holds l.walk.order (placed_at l.walk.nodes.now l.element)) (size_of (placed_at l.walk.nodes.now l.element)) 0 b (values_of l.values) →
      WrittenElements l.walk.order (placed_at l.walk.nodes.now l.element) l.values l.at b l.fn.bytes l.i l.bytes;
}

abbrev pub invariant-write_parts-loop-i : goal.invariant-write_parts-loop-i
invariant-write_parts-loop-i l = record {
  long : length l.bytes ≡ length l.fn.bytes;
  put : (b : List ℕ) → AreBytes b → HoldParts l.walk.order (parts_at l.offsets (all_at l.walk.nodes.now l.children)) b (values_of l.values) →
      AreWritten l.walk.order l.offsets (all_at l.walk.nodes.now l.children) l.values l.at b l.fn.bytes l.i l.bytes;
}
