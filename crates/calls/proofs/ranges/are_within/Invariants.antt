-- Those before the index are numbers of so many bytes.
use Rattle.std.proofs.Common.{◌<◌, All, take}
use Rattle.abi_scalar.specs.Range.{numbers_of}
use Rattle.calls.proofs.ranges.are_within.Given as goal

abbrev pub invariant-loop-number : goal.invariant-loop-number
invariant-loop-number l = All (λ v. v < numbers_of l.size) (take l.number-index l.numbers)
