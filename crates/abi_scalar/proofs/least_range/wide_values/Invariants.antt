-- The numbers up to the index.
use Rattle.std.proofs.Common.{◌≡◌, take}
use Rattle.abi_scalar.proofs.least_range.wide_values.Given as goal

abbrev pub invariant-loop-value : goal.invariant-loop-value
invariant-loop-value l = l.values.items ≡ take l.value-index l.short
