-- The numbers so far have four bytes.
use Rattle.std.proofs.Common.{◌<◌, ◌^◌, All}
use Rattle.bench.proofs.values.values_of.Given as goal

abbrev pub invariant-loop-step : goal.invariant-loop-step
invariant-loop-step l = All (λ v. v < 2 ^ 32) l.values.items
