use Rattle.std.proofs.Common.{List}
use Rattle.abi_tree.specs.declared.node.Node.{Node}
use Rattle.abi_tree.specs.Needed.{AreMade, AreNeeded}
use Rattle.abi_tree.proofs.runs_of.sets_of.Given as goal

abbrev pub invariant-loop-at : goal.invariant-loop-at
invariant-loop-at l = (ns : List Node) → AreNeeded ns l.kept → AreMade ns l.kept l.at l.done.items
