-- The places before this one.
use Rattle.std.proofs.Common.{◌≡◌, ◌<◌, length, map}
use Rattle.std.specs.Prelude.{All, filter, not, slice_index}
use Rattle.std.specs.List.{range_with_len}
use Rattle.abi_index.specs.BitSet.{is_member}
use Rattle.abi_calc.proofs.coroutine.states.own_places.Given as goal

abbrev pub invariant-loop-place : goal.invariant-loop-place
invariant-loop-place g l = record {
  all : l.places.items ≡ filter (λ k. not (is_member l.promoted (slice_index (map g.LocalIdx.Idx.number l.state) k))) (range_with_len 0 l.place);
  within : All (λ place. place < length l.state) l.places.items;
}
