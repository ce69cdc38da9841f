-- As many as the place says.
use Rattle.std.proofs.Common.{◌≡◌, vec_len}
use Rattle.bench.proofs.inputs.leaves.Given as goal

abbrev pub invariant-loop-place : goal.invariant-loop-place
invariant-loop-place l = vec_len l.leaves ≡ l.place
