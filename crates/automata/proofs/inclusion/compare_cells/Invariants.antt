use Rattle.std.proofs.Common.{◌≤◌, ◌^◌, ◌-◌}
use Rattle.automata.specs.Nodes.{formulas_in}
use Rattle.automata.proofs.VisitsLemmas.{IsSearched}
use Rattle.automata.proofs.inclusion.compare_cells.Given as goal

abbrev pub invariant-loop-i : goal.invariant-loop-i
invariant-loop-i l = (l.i ≤ 2 ^ 22) × IsSearched (formulas_in l.initial.formulas) (formulas_in l.formulas) l.visits l.left l.right l.size l.i

abbrev pub decreases-loop-i : goal.decreases-loop-i
decreases-loop-i l = 2 ^ 22 - l.i
