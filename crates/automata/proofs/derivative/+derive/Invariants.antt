use Rattle.automata.proofs.derivative.+derive.Given as goal

abbrev pub decreases-derive : goal.decreases-derive
decreases-derive l = l.f
