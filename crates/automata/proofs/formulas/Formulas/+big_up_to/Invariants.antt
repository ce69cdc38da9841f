use Rattle.automata.proofs.formulas.Formulas.+big_up_to.Given as goal

abbrev pub decreases-big_up_to : goal.decreases-big_up_to
decreases-big_up_to l = l.width
