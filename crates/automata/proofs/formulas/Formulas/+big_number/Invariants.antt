use Rattle.automata.proofs.formulas.Formulas.+big_number.Given as goal

abbrev pub decreases-big_number : goal.decreases-big_number
decreases-big_number l = l.width
