-- Each index before names one of the locals.
use Rattle.std.proofs.Common.{◌≡◌, false, take}
use Rattle.std.specs.Prelude.{nat_le}
use Rattle.std.specs.List.{list_any}
use Rattle.rustc_abi.proofs.coroutine_fault.is_some_unknown.Given as goal

abbrev pub invariant-loop-index : goal.invariant-loop-index
invariant-loop-index l = list_any (nat_le l.locals) (take l.index-index l.indices) ≡ false
