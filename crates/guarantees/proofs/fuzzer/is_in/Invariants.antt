use Rattle.std.proofs.Common.{◌≡◌, false, take}
use Rattle.std.specs.List.{list_any}
use Rattle.abi_index.specs.RangeSet.{is_in_run}
use Rattle.guarantees.proofs.fuzzer.is_in.Given as goal

abbrev pub invariant-loop-run : goal.invariant-loop-run
invariant-loop-run l = list_any (is_in_run l.place) (take l.run-index l.ranges) ≡ false
