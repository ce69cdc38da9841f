use Rattle.automata.proofs.formulas.Formulas.+big_from.Given as goal

abbrev pub decreases-big_from : goal.decreases-big_from
decreases-big_from l = l.width
