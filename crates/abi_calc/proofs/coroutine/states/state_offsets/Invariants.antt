-- The offsets of the locals before the index.
use Rattle.std.proofs.Common.{◌≡◌, ◌≤◌, length, map, take}
use Rattle.abi_calc.specs.Coroutine.Lists.{own_of}
use Rattle.abi_calc.specs.Coroutine.States.{state_offsets}
use Rattle.abi_calc.proofs.coroutine.states.state_offsets.Given as goal

abbrev pub invariant-loop-local : goal.invariant-loop-local
invariant-loop-local g l = record {
  all : l.offsets ≡ state_offsets l.promoted l.shared l.own (map g.LocalIdx.Idx.number (take l.local-index l.state));
  next : l.next ≡ length (own_of l.promoted (map g.LocalIdx.Idx.number (take l.local-index l.state)));
  few : l.next ≤ l.local-index;
  room : length l.offsets ≡ l.local-index;
}
