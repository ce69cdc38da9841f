-- The binaries so far stand before those that are left.
use Rattle.std.proofs.Common.{◌≡◌, ◌++◌, drop, map}
use Rattle.toml.specs.View.{view}
use Rattle.cargo_manifest.specs.Manifests.{bin_said, bin_view}
use Rattle.cargo_manifest.proofs.manifest.bins_of.Given as goal

abbrev pub invariant-loop-table : goal.invariant-loop-table
invariant-loop-table l =
    map bin_view l.all.items ++ map bin_said (map (λ v. view v.now) (drop l.table-index l.tables)) ≡ map bin_said (map (λ v. view v.now) l.tables)
