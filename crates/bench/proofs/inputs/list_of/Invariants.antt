-- As many as the steps.
use Rattle.std.proofs.Common.{◌≡◌, length}
use Rattle.bench.proofs.inputs.list_of.Given as goal

abbrev pub invariant-loop-step : goal.invariant-loop-step
invariant-loop-step l = length l.fields ≡ l._step
