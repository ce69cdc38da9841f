use Rattle.std.proofs.Common.{◌+◌, ◌*◌, ◌<◌, ℕ}
use Rattle.std.specs.Prelude.{MatchOption}
use Rattle.abi_tree.specs.Nodes.{placed_at}
use Rattle.abi_tree.specs.Placed.{size_of}
use Rattle.abi_tree.specs.Tag.{Names}
use Rattle.abi_bytes.specs.Formulas.{HoldBetween}
use Rattle.abi_bytes.specs.Holding.{HoldCells, HoldCellsOfVariant, cells_at}
use Rattle.abi_bytes.specs.WrongParts.{IsWrongNamed, variants_in}
use Rattle.abi_bytes.proofs.wrong_parts.+wrong.Given as goal

abbrev pub decreases-named_wrong : goal.decreases-named_wrong
decreases-named_wrong l = 6 * l.node

abbrev pub decreases-parts_wrong : goal.decreases-parts_wrong
decreases-parts_wrong l = 6 * l.node

abbrev pub decreases-own_wrong : goal.decreases-own_wrong
decreases-own_wrong l = 6 * l.variant + 1

abbrev pub decreases-variants_wrong : goal.decreases-variants_wrong
decreases-variants_wrong l = 6 * l.node + 1

abbrev pub decreases-pair_wrong : goal.decreases-pair_wrong
decreases-pair_wrong l = 6 * l.node + 2

abbrev pub decreases-states_wrong : goal.decreases-states_wrong
decreases-states_wrong l = 6 * l.node + 2

abbrev pub decreases-node_wrong : goal.decreases-node_wrong
decreases-node_wrong l = 6 * l.node + 3

abbrev pub decreases-vector_wrong : goal.decreases-vector_wrong
decreases-vector_wrong l = 6 * l.lanes + 5

abbrev pub decreases-elements_wrong : goal.decreases-elements_wrong
decreases-elements_wrong l = 6 * l.element + 5

-- each element before the i-th is held
abbrev pub invariant-elements_wrong-loop-i : goal.invariant-elements_wrong-loop-i
invariant-elements_wrong-loop-i l =
    let p = placed_at l.walk.nodes.now l.element in
    (k : ℕ) → k < l.i → HoldCells l.walk.order p (cells_at l.walk.cells.now (l.at + k * size_of p) (size_of p))

-- each field before the i-th is held
abbrev pub invariant-parts_wrong-loop-i : goal.invariant-parts_wrong-loop-i
invariant-parts_wrong-loop-i l =
    HoldBetween l.walk.order l.walk.nodes.now l.parts.offsets.now l.parts.children.now 0 l.i (cells_at l.walk.cells.now l.parts.at l.parts.size)

-- no variant before the i-th is named and held; what was found is of one that is named
abbrev pub invariant-named_wrong-loop-i : goal.invariant-named_wrong-loop-i
invariant-named_wrong-loop-i l =
    let variants = variants_in l.walk l.tag in
    ((j : ℕ) → j < l.i → Names l.tag.encoding.now l.tag.width variants l.number j →
    HoldCellsOfVariant l.walk.order variants j (cells_at l.walk.cells.now l.tag.at l.tag.size) → ⊥)
    × MatchOption l.found
    ((j : ℕ) → j < l.i → Names l.tag.encoding.now l.tag.width variants l.number j → ⊥)
    (λ f. IsWrongNamed l.walk.order l.walk.cells.now l.tag.encoding.now variants l.tag.at l.tag.offset l.tag.width f.way.items f.part)
