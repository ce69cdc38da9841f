use Rattle.std.proofs.Common.{◌≡◌, ◌<◌, ◌^◌, ◌++◌, drop}
use Rattle.abi_index.specs.RangeSet.{AreMaximalRuns}
use Rattle.abi_index.proofs.RangeSetLemmas.{added}
use Rattle.abi_index.proofs.add_run.with_run.Given as goal

abbrev pub invariant-loop-i : goal.invariant-loop-i
invariant-loop-i l = (l.start < l.end) × (l.end < 2 ^ 64) × AreMaximalRuns 0 (drop l.i l.runs)
    × (l.made.items ++ added l.start l.end (drop l.i l.runs) ≡ added l.fn.from l.fn.to l.runs)
