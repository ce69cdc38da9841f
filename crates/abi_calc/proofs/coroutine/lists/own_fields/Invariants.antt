-- The fields of the locals before the index.
use Rattle.std.proofs.Common.{◌≡◌, ◌≤◌, length, map, take}
use Rattle.abi_calc.specs.Coroutine.Lists.{own_list}
use Rattle.abi_calc.proofs.coroutine.lists.own_fields.Given as goal

abbrev pub invariant-loop-local : goal.invariant-loop-local
invariant-loop-local g l = record {
  all : l.own ≡ own_list l.locals l.promoted (map g.LocalIdx.Idx.number (take l.local-index l.local-items));
  room : length l.own ≤ l.local-index;
}
