use Rattle.std.proofs.Common.{List, take}
use Rattle.abi_tree.specs.declared.node.Node.{Node}
use Rattle.abi_tree.specs.Needed.{AreNeeded}
use Rattle.abi_tree.specs.Well.{all_at}
use Rattle.abi_tree.proofs.Places.MarkedLemmas.{MarksParts}
use Rattle.abi_tree.proofs.runs_of.mark_numbers.Given as goal

abbrev pub invariant-loop-i : goal.invariant-loop-i
invariant-loop-i l = (ns : List Node) → AreNeeded ns l.kept → MarksParts l.fn.marks l.marks (take l.i l.offsets) (take l.i (all_at ns l.children))
