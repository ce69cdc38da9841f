use Rattle.std.proofs.Common.{◌≡◌}
use Rattle.automata.proofs.formulas.Formulas.double_chains.Given as goal

abbrev pub invariant-loop-place : goal.invariant-loop-place
invariant-loop-place l = l.self ≡ l.initial.self
