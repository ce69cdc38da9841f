use Rattle.std.proofs.Common.{◌<◌, length, List, reverse}
use Rattle.automata.specs.Formula.{Formula}
use Rattle.automata.specs.Visits.{AreSteps, Leads}
use Rattle.automata.proofs.inclusion.cells_to.Given as goal

abbrev pub invariant-loop-at : goal.invariant-loop-at
invariant-loop-at l = (l.at < length l.visits) × ((fs : List Formula) → AreSteps fs l.visits → Leads fs l.visits l.at l.visit (reverse l.cells.items))

abbrev pub decreases-loop-at : goal.decreases-loop-at
decreases-loop-at l = l.at
