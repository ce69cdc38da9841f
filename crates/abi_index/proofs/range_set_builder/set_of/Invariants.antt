use Rattle.std.proofs.Common.{◌≡◌, ℕ, take}
use Rattle.abi_index.specs.RangeSet.{is_in_ranges}
use Rattle.abi_index.proofs.range_set_builder.set_of.Given as goal

abbrev pub invariant-loop-run : goal.invariant-loop-run
invariant-loop-run l = (k : ℕ) → is_in_ranges l.set k ≡ is_in_ranges (take l.run-index l.runs) k
