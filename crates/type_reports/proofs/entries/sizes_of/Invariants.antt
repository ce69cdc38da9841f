-- Those of the entries that are left go on from those that are listed.
use Rattle.std.proofs.Common.{◌≡◌, ◌++◌, drop, map}
use Rattle.type_reports.proofs.entries.sizes_of.Given as goal

abbrev pub invariant-loop-entry : goal.invariant-loop-entry
invariant-loop-entry l = l.sizes.items ++ map (λ entry. entry.size) (drop l.entry-index l.entries) ≡ map (λ entry. entry.size) l.entries
