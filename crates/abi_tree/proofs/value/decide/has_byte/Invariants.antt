use Rattle.std.proofs.Common.{◌≡◌, drop}
use Rattle.abi_index.specs.RangeSet.{is_in_ranges}
use Rattle.abi_tree.proofs.value.decide.has_byte.Given as goal

abbrev pub invariant-loop-run : goal.invariant-loop-run
invariant-loop-run l = is_in_ranges l.runs l.k ≡ is_in_ranges (drop l.run-index l.runs) l.k
