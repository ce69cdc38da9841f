-- No number before equals the one after it.
use Rattle.std.proofs.Common.{◌≢◌, ◌<◌, ◌≤◌, ℕ, suc, length, get_or}
use Rattle.rustc_abi.proofs.discriminants.has_equal.Given as goal

abbrev pub invariant-loop-at : goal.invariant-loop-at
invariant-loop-at l = record {
  some : 1 ≤ l.at;
  differ : (i : ℕ) → suc i < l.at → suc i < length l.sorted.items → get_or l.sorted.items i 0 ≢ get_or l.sorted.items (suc i) 0;
}
