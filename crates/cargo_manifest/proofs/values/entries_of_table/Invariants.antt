-- The entries so far stand before those that are left.
use Rattle.std.proofs.Common.{◌≡◌, ◌++◌, map}
use Rattle.toml.specs.View.{members_view}
use Rattle.cargo_manifest.specs.Values.{entries, entry_view}
use Rattle.cargo_manifest.proofs.values.entries_of_table.Given as goal

abbrev pub invariant-loop-key : goal.invariant-loop-key
invariant-loop-key l = map entry_view l.all.items ++ entries (members_view l.key-iterator) ≡ entries (members_view l.table.entries)
