-- Each state before names the locals alone.
use Rattle.std.proofs.Common.{◌≡◌, false, map, take}
use Rattle.std.specs.Prelude.{nat_le}
use Rattle.std.specs.List.{list_any}
use Rattle.rustc_abi.proofs.coroutine_fault.has_unknown_local.Given as goal

abbrev pub invariant-loop-state : goal.invariant-loop-state
invariant-loop-state l = list_any (list_any (nat_le l.locals)) (map (λ state. state.items) (take l.state-index l.states)) ≡ false
