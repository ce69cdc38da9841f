use Rattle.std.proofs.Common.{◌≡◌, drop}
use Rattle.std.specs.Cmp.Lexicographic.{pointwise}
use Rattle.abi_tree.specs.contracts.node.NodePartialEq.TheImpl as node_eq
use Rattle.abi_tree.proofs.nodes.NodesPartialEq.eq.Given as goal

-- What is left decides: the nodes before are equal.
abbrev pub invariant-loop-at : goal.invariant-loop-at
invariant-loop-at l = pointwise (node_eq.ghosts).eq l.self l.other ≡ pointwise (node_eq.ghosts).eq (drop l.at l.self) (drop l.at l.other)
