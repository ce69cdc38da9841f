use Rattle.std.proofs.Common.{◌≡◌}
use Rattle.automata.proofs.visits.Visits.double_chains.Given as goal

abbrev pub invariant-loop-at : goal.invariant-loop-at
invariant-loop-at l = l.self ≡ l.initial.self
