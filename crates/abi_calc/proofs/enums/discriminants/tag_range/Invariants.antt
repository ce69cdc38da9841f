-- The numbers before, cut.
use Rattle.std.proofs.Common.{◌≡◌, ◌%◌, map, take}
use Rattle.abi_scalar.specs.Range.{numbers_of}
use Rattle.abi_calc.proofs.enums.discriminants.tag_range.Given as goal

abbrev pub invariant-loop-value : goal.invariant-loop-value
invariant-loop-value l = l.cut.items ≡ map (λ v. v % numbers_of l.size) (take l.value-index l.values)
