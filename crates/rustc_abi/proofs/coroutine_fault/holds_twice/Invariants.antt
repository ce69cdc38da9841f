-- Each state before names its locals once.
use Rattle.std.proofs.Common.{◌≡◌, false, map, take}
use Rattle.std.specs.List.{list_any}
use Rattle.rustc_abi.specs.Enums.{has_equal}
use Rattle.rustc_abi.proofs.coroutine_fault.holds_twice.Given as goal

abbrev pub invariant-loop-state : goal.invariant-loop-state
invariant-loop-state l = list_any has_equal (map (λ state. state.items) (take l.state-index l.states)) ≡ false
