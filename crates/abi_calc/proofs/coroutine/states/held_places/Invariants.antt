-- The table says the places before this one.
use Rattle.std.proofs.Common.{◌≡◌, ◌<◌, length, map}
use Rattle.std.specs.Prelude.{All, IfSome}
use Rattle.abi_calc.proofs.CoroutineLemmas.States.{IsHeldBefore}
use Rattle.abi_calc.proofs.coroutine.states.held_places.Given as goal

abbrev pub invariant-loop-place : goal.invariant-loop-place
invariant-loop-place g l = record {
  long : length l.held.items ≡ l.count;
  within : All (λ found. IfSome found (λ place. place < length l.state)) l.held.items;
  all : IsHeldBefore l.promoted (map g.LocalIdx.Idx.number l.state) l.held.items l.place;
}
