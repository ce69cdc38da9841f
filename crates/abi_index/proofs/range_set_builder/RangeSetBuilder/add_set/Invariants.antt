use Rattle.std.proofs.Common.{take}
use Rattle.abi_index.specs.RangeSet.{is_in_ranges}
use Rattle.abi_index.specs.Runs.{Adds, Extends, moved_to}
use Rattle.abi_index.proofs.range_set_builder.RangeSetBuilder.add_set.Given as goal

abbrev pub invariant-loop-run : goal.invariant-loop-run
invariant-loop-run l = record {
  bytes : Adds l.fn.self l.self (moved_to l.offset (is_in_ranges (take l.run-index l.run-items)));
  kept : Extends l.fn.self l.self;
}
