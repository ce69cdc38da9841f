-- As many as the steps, each held.
use Rattle.std.proofs.Common.{◌≡◌, All, length}
use Rattle.rustc_abi.specs.Coroutines.{IsHeld}
use Rattle.bench.proofs.calculator.states_of.Given as goal

abbrev pub invariant-loop-step : goal.invariant-loop-step
invariant-loop-step l = record {
  count : length l.states.items ≡ l._step;
  held : All (IsHeld l.locals) l.states.items;
}
