-- The list has what came so far.
use Rattle.std.proofs.Common.{◌≡◌}
use Rattle.abi_scalar.proofs.least_range.wide_values_of.Given as goal

abbrev pub invariant-loop-value : goal.invariant-loop-value
invariant-loop-value g l = l.all.items ≡ l.yielded
