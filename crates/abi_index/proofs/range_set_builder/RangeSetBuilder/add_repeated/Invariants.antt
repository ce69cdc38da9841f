use Rattle.abi_index.specs.RangeSet.{is_in_ranges}
use Rattle.abi_index.specs.Runs.{Adds, Extends, moved_to, repeated}
use Rattle.abi_index.proofs.range_set_builder.RangeSetBuilder.add_repeated.Given as goal

abbrev pub invariant-loop-i : goal.invariant-loop-i
invariant-loop-i l = record {
  bytes : Adds l.fn.self l.self (moved_to l.offset (repeated l.stride l.i (is_in_ranges l.set)));
  kept : Extends l.fn.self l.self;
}
