use Rattle.automata.proofs.formulas.Formulas.+bytes.Given as goal

abbrev pub decreases-bytes : goal.decreases-bytes
decreases-bytes l = l.width
