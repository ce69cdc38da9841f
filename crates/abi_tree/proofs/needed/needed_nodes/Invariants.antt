use Rattle.std.proofs.Common.{◌≡◌}
use Rattle.abi_tree.proofs.Places.NeededLemmas.{AreRead}
use Rattle.abi_tree.proofs.needed.needed_nodes.Given as goal

abbrev pub invariant-loop-at : goal.invariant-loop-at
invariant-loop-at l = record {
  same : l.nodes.nodes ≡ l.fn.nodes.nodes;
  read : AreRead l.fn.nodes.nodes.now l.root l.at l.needed.items l.kept.items l.nodes.visits;
}
