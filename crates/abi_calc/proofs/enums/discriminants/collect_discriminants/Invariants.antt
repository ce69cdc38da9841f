use Rattle.std.proofs.Common.{◌≡◌}
use Rattle.abi_calc.proofs.enums.discriminants.collect_discriminants.Given as goal

abbrev pub invariant-loop-item : goal.invariant-loop-item
invariant-loop-item g l = l.list.items ≡ l.yielded
