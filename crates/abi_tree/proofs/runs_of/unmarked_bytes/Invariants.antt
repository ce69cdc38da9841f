use Rattle.abi_tree.proofs.Places.MarkedLemmas.{LeavesBelow}
use Rattle.abi_tree.proofs.runs_of.unmarked_bytes.Given as goal

abbrev pub invariant-loop-at : goal.invariant-loop-at
invariant-loop-at l = LeavesBelow l.set l.marks l.at
