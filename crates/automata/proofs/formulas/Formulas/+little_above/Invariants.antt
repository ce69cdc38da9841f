use Rattle.automata.proofs.formulas.Formulas.+little_above.Given as goal

abbrev pub decreases-little_above : goal.decreases-little_above
decreases-little_above l = l.width
