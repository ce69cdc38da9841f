-- The places of the ranks before the index, and then those that the indices before it name.
use Rattle.std.proofs.Common.{◌≡◌, ◌+◌, ◌≤◌, ◌++◌, None, length, map, take}
use Rattle.std.specs.Prelude.{flat_map, slice_index, slice_index_or}
use Rattle.std.specs.Option.{option_to_list}
use Rattle.abi_calc.proofs.coroutine.states.joined_places.Given as goal

abbrev pub invariant-loop-rank : goal.invariant-loop-rank
invariant-loop-rank g l = record {
  all : l.list ≡ map g.FieldIdx.Idx.at (flat_map (λ rank. option_to_list (slice_index_or l.held rank None)) (take l.rank-index l.ranks));
  room : length l.list ≤ l.rank-index;
}

abbrev pub invariant-loop-index : goal.invariant-loop-index
invariant-loop-index g l = record {
  all : l.list ≡ map g.FieldIdx.Idx.at (flat_map (λ rank. option_to_list (slice_index_or l.held rank None)) l.ranks ++ map (slice_index l.places) (map g.FieldIdx.Idx.number (take l.index-index l.own)));
  room : length l.list ≤ length l.ranks + l.index-index;
}
