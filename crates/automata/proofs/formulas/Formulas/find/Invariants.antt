use Rattle.automata.proofs.formulas.Formulas.find.Given as goal

abbrev pub decreases-loop-at : goal.decreases-loop-at
decreases-loop-at l = l.at
