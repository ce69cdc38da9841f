-- Those of the entries that are left go on from those that are listed.
use Rattle.std.proofs.Common.{◌≡◌, ◌++◌, drop, map}
use Rattle.std.specs.Prelude.{unwrap_or}
use Rattle.type_reports.proofs.entries.wastes_of.Given as goal

abbrev pub invariant-loop-entry : goal.invariant-loop-entry
invariant-loop-entry l = l.wastes.items ++ map (λ entry. unwrap_or entry.waste 0) (drop l.entry-index l.entries) ≡ map (λ entry. unwrap_or entry.waste 0) l.entries
