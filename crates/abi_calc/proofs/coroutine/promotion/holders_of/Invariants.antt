-- The states from the place on are noted.
use Rattle.std.proofs.Common.{◌≡◌, ℕ, ◌+◌, ◌<◌, ◌≤◌, drop, get_or, length, map}
use Rattle.abi_calc.specs.Coroutine.Promotion.{holder_of}
use Rattle.abi_calc.proofs.coroutine.promotion.holders_of.Given as goal

abbrev pub invariant-loop-place : goal.invariant-loop-place
invariant-loop-place g l = record {
  within : l.place ≤ length l.states;
  size : length l.holders.items ≡ l.count;
  noted : (k : ℕ) → k < l.count → get_or l.holders.items k 0 ≡ l.place + holder_of (drop l.place (map (map g.LocalIdx.Idx.number) l.states)) k;
}
