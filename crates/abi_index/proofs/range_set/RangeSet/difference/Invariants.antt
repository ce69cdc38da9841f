use Rattle.std.proofs.Common.{◌≡◌, ℕ, ◌≤◌, ◌&&◌, ◌||◌, not, length, take, drop}
use Rattle.abi_index.specs.RangeSet.{is_in_ranges, AreMaximalRuns, EndBy}
use Rattle.abi_index.proofs.range_set.RangeSet.difference.Given as goal

abbrev pub invariant-loop-run : goal.invariant-loop-run
invariant-loop-run l = record {
  place : l.next ≤ length l.other;
  passed : (low : ℕ) × AreMaximalRuns low (drop l.run-index l.run-items) × EndBy low (take l.next l.other);
  bytes : (k : ℕ) → ((is_in_ranges (drop l.run-index l.run-items) k && not (is_in_ranges l.other k)) || is_in_ranges l.rest k)
      ≡ (is_in_ranges l.run-items k && not (is_in_ranges l.other k));
}
