use Rattle.abi_tree.proofs.Places.MarkedLemmas.{MarksRun}
use Rattle.abi_tree.proofs.runs_of.mark_run.Given as goal

abbrev pub invariant-loop-at : goal.invariant-loop-at
invariant-loop-at l = MarksRun l.fn.marks l.marks l.offset l.at
