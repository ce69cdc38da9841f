-- The states before.
use Rattle.std.proofs.Common.{◌≡◌, map, take}
use Rattle.rustc_abi.proofs.conflicts.each_state_locals.Given as goal

abbrev pub invariant-loop-state : goal.invariant-loop-state
invariant-loop-state l = l.each.items ≡ map (λ state. state.items) (take l.state-index l.states)
