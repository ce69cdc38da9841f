use Rattle.std.proofs.Common.{◌<◌, ◌≤◌, ◌-◌}
use Rattle.automata.specs.Nodes.{formulas_in}
use Rattle.automata.specs.Visits.{Follows}
use Rattle.automata.proofs.inclusion.follow.Given as goal

abbrev pub invariant-loop-letter : goal.invariant-loop-letter
invariant-loop-letter l = (l.letter ≤ 257) × Follows (formulas_in l.initial.formulas) (formulas_in l.formulas) l.initial.visits l.visits l.at (λ k. k < l.letter)

abbrev pub decreases-loop-letter : goal.decreases-loop-letter
decreases-loop-letter l = 257 - l.letter
