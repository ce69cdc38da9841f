use Rattle.automata.proofs.formulas.Formulas.+little_number.Given as goal

abbrev pub decreases-little_number : goal.decreases-little_number
decreases-little_number l = l.width
