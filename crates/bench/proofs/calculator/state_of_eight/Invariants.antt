-- As many as the locals before, which are held.
use Rattle.std.proofs.Common.{◌≡◌, ◌+◌, length}
use Rattle.rustc_abi.specs.Coroutines.{IsHeld}
use Rattle.bench.proofs.calculator.state_of_eight.Given as goal

abbrev pub invariant-loop-local : goal.invariant-loop-local
invariant-loop-local l = record {
  count : length l.state + l.from ≡ l.local;
  held : IsHeld l.local l.state;
}
