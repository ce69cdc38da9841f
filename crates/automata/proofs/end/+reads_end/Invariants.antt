use Rattle.automata.proofs.end.+reads_end.Given as goal

abbrev pub decreases-reads_end : goal.decreases-reads_end
decreases-reads_end l = l.f
