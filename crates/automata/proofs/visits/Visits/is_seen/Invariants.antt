use Rattle.automata.proofs.visits.Visits.is_seen.Given as goal

abbrev pub decreases-loop-at : goal.decreases-loop-at
decreases-loop-at l = l.at
