-- The list has the lower halves of what came so far, and these are its ends.
use Rattle.std.proofs.Common.{◌≡◌, ◌%◌, ◌^◌, map}
use Rattle.abi_scalar.proofs.EndsLemmas.{AreEnds}
use Rattle.abi_scalar.proofs.least_range.values_of.Given as goal

abbrev pub invariant-loop-value : goal.invariant-loop-value
invariant-loop-value g l = (l.list.items ≡ map (λ v. v % 2 ^ 64) l.yielded) × AreEnds l.list.items l.least l.greatest
