-- The count is that of the states so far.
use Rattle.std.proofs.Common.{◌≡◌, ◌≤◌, map, take}
use Rattle.abi_calc.specs.Coroutine.Promotion.{used_count}
use Rattle.abi_calc.proofs.coroutine.promotion.used_count.Given as goal

abbrev pub invariant-loop-state : goal.invariant-loop-state
invariant-loop-state g l = record {
  counted : l.count ≡ used_count (take l.state-index (map (map g.LocalIdx.Idx.number) l.states)) l.promoted;
  few : l.count ≤ l.state-index;
}
