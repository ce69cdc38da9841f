-- There are as many names as entries so far.
use Rattle.std.proofs.Common.{◌≡◌, length}
use Rattle.type_reports.proofs.entries.names_of.Given as goal

abbrev pub invariant-loop-entry : goal.invariant-loop-entry
invariant-loop-entry l = length l.names.items ≡ l.entry-index
