use Rattle.automata.proofs.formulas.Formulas.+little_below.Given as goal

abbrev pub decreases-little_below : goal.decreases-little_below
decreases-little_below l = l.width
