use Rattle.std.proofs.Common.{◌<◌, ◌+◌, ◌*◌, ℕ}
use Rattle.abi_tree.specs.Value.{Values}
use Rattle.abi_tree.specs.Placed.{size_of}
use Rattle.abi_tree.specs.Tag.{Names}
use Rattle.abi_tree.specs.Nodes.{tagged_variants_in, placed_at, types_in}
use Rattle.abi_tree.specs.Well.{all_at}
use Rattle.abi_tree.specs.Holding.{HoldTaggedVariant, Holds}
use Rattle.abi_tree.proofs.Found.ReadLemmas.{AreRead, HoldAll, HoldFrom, IsRead}
use Rattle.abi_tree.proofs.value.read.+read.Given as goal

abbrev pub decreases-read_tagged_variant : goal.decreases-read_tagged_variant
decreases-read_tagged_variant l = 6 * l.node

abbrev pub decreases-read_parts : goal.decreases-read_parts
decreases-read_parts l = 6 * l.node

abbrev pub decreases-read_own : goal.decreases-read_own
decreases-read_own l = 6 * l.variant + 1

abbrev pub decreases-read_named : goal.decreases-read_named
decreases-read_named l = 6 * l.node + 1

abbrev pub decreases-read_variant : goal.decreases-read_variant
decreases-read_variant l = 6 * l.node + 2

abbrev pub decreases-read_state : goal.decreases-read_state
decreases-read_state l = 6 * l.node + 2

abbrev pub decreases-read_node : goal.decreases-read_node
decreases-read_node l = 6 * l.node + 3

abbrev pub decreases-read_part : goal.decreases-read_part
decreases-read_part l = 6 * l.node + 4

abbrev pub decreases-read_elements : goal.decreases-read_elements
decreases-read_elements l = 6 * l.element + 5

-- no variant before the i-th is named and held
abbrev pub invariant-read_tagged_variant-loop-i : goal.invariant-read_tagged_variant-loop-i
invariant-read_tagged_variant-loop-i l =
    (j : ℕ) (vs : Values) → j < l.i → Names l.encoding l.width (tagged_variants_in (types_in l.walk.nodes.now) l.variants) l.tag j → HoldTaggedVariant l.walk.order (tagged_variants_in (types_in l.walk.nodes.now) l.variants) j l.bytes vs → ⊥

abbrev pub invariant-read_elements-loop-i : goal.invariant-read_elements-loop-i
invariant-read_elements-loop-i l =
    let hold = Holds l.walk.order (placed_at l.walk.nodes.now l.element) in
    let size = size_of (placed_at l.walk.nodes.now l.element) in
    IsRead (HoldAll hold size l.bytes l.count) (HoldFrom hold size l.bytes l.count l.i) l.values.items

abbrev pub invariant-read_parts-loop-i : goal.invariant-read_parts-loop-i
invariant-read_parts-loop-i l = AreRead l.walk.order l.offsets (all_at l.walk.nodes.now l.children) l.bytes l.i l.values.items
