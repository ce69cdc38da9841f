-- The greatest of 0 and the numbers before.
use Rattle.std.proofs.Common.{◌≡◌, map, take}
use Rattle.std.specs.Prelude.{pos, fold}
use Rattle.std.specs.Int.{int_max}
use Rattle.abi_calc.proofs.enums.discriminants.greatest_of.Given as goal

abbrev pub invariant-loop-value : goal.invariant-loop-value
invariant-loop-value l = pos l.greatest ≡ fold int_max (pos 0) (map pos (take l.value-index l.values))
