-- The ranks of the locals before the place.
use Rattle.std.proofs.Common.{◌≡◌, ◌≤◌, map}
use Rattle.abi_univariant.specs.Placement.{source_order}
use Rattle.abi_calc.specs.Coroutine.States.{rank_of}
use Rattle.abi_calc.proofs.coroutine.states.ranks_below.Given as goal

abbrev pub invariant-loop-place : goal.invariant-loop-place
invariant-loop-place g l = record {
  all : l.ranks.items ≡ map (rank_of l.promoted) (source_order l.place);
  next : l.below ≡ rank_of l.promoted l.place;
  room : l.below ≤ l.place;
}
