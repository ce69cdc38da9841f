-- Each conflict before names two of the locals.
use Rattle.std.proofs.Common.{◌≡◌, false, take}
use Rattle.std.specs.Prelude.{nat_le, ◌||◌}
use Rattle.std.specs.List.{list_any}
use Rattle.rustc_abi.proofs.coroutine_fault.has_unknown_conflict.Given as goal

abbrev pub invariant-loop-pair : goal.invariant-loop-pair
invariant-loop-pair l = list_any (λ c. nat_le l.locals c.0 || nat_le l.locals c.1) (take l.pair-index l.conflicts) ≡ false
