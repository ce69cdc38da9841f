use Rattle.abi_scalar.specs.Range.{numbers_of}
use Rattle.abi_scalar.proofs.LeastLemmas.{IsBestSoFar}
use Rattle.abi_scalar.proofs.least_range.least_of_ascending.Given as goal

abbrev pub invariant-loop-k : goal.invariant-loop-k
invariant-loop-k l = IsBestSoFar (numbers_of l.size) l.values l.k l.best.start l.best.end l.fewest
