use Rattle.std.proofs.Common.{◌≡◌, ◌-◌, ◌++◌, get_or, take}
use Rattle.std.specs.List.{range_with_len}
use Rattle.abi_map.specs.Numbers.{numbers}
use Rattle.abi_map.proofs.starts.numbers.Given as goal

abbrev pub invariant-loop-run : goal.invariant-loop-run
invariant-loop-run l = l.all.items ≡ numbers (take l.run-index l.run-items)

abbrev pub invariant-loop-k : goal.invariant-loop-k
invariant-loop-k l = l.all.items ≡ numbers (take l.run-index l.run-items) ++ range_with_len (get_or l.run-items l.run-index (0, 0)).0 (l.k - (get_or l.run-items l.run-index (0, 0)).0)
