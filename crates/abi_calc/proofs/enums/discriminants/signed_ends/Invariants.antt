-- The least and the greatest of 0 and what the numbers before stand for.
use Rattle.std.proofs.Common.{◌≡◌, ◌*◌, ◌%◌, ◌^◌, map, take}
use Rattle.std.specs.Prelude.{pos, fold}
use Rattle.std.specs.Int.{int_max, int_min}
use Rattle.abi_base.specs.Size.{signed_value}
use Rattle.abi_calc.proofs.enums.discriminants.signed_ends.Given as goal

abbrev pub invariant-loop-value : goal.invariant-loop-value
invariant-loop-value l = record {
  least : l.least ≡ fold int_min (pos 0) (map (λ v. signed_value (l.size * 8) (v % 2 ^ (l.size * 8))) (take l.value-index l.values));
  greatest : l.greatest ≡ fold int_max (pos 0) (map (λ v. signed_value (l.size * 8) (v % 2 ^ (l.size * 8))) (take l.value-index l.values));
}
