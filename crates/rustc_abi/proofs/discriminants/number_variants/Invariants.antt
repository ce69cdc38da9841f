-- Those before, each with its index.
use Rattle.std.proofs.Common.{◌≡◌, take}
use Rattle.rustc_abi.specs.Enums.{numbered_from}
use Rattle.rustc_abi.proofs.discriminants.number_variants.Given as goal

abbrev pub invariant-loop-at : goal.invariant-loop-at
invariant-loop-at l = l.items.items ≡ numbered_from 0 (take l.at l.numbers)
