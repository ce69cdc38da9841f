-- The run has come as far as the index.
use Rattle.std.proofs.Common.{◌≡◌, drop}
use Rattle.rust_source.specs.Blanks.{run_from}
use Rattle.rust_source.proofs.tokens.runs.run_length.Given as goal

abbrev pub invariant-loop-index : goal.invariant-loop-index
invariant-loop-index l = run_from l.run l.index (drop l.index l.rest) ≡ run_from l.run 0 l.rest
