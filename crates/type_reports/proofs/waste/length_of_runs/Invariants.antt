-- The runs that are left begin no earlier than there are bytes so far.
use Rattle.std.proofs.Common.{◌≡◌, ◌≤◌, ◌+◌, ℕ, drop}
use Rattle.std.specs.Prelude.{sum_by}
use Rattle.abi_index.specs.RangeSet.{AreMaximalRuns}
use Rattle.type_reports.proofs.waste.length_of_runs.Given as goal

abbrev pub invariant-loop-run : goal.invariant-loop-run
invariant-loop-run l =
    (low : ℕ) × AreMaximalRuns low (drop l.run-index l.runs) × (l.length ≤ low)
    × (l.length + sum_by (λ run. run.1) (drop l.run-index l.runs) ≡ sum_by (λ run. run.1) l.runs)
