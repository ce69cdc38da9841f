-- The dependencies so far stand before those of the targets that are left.
use Rattle.std.proofs.Common.{◌≡◌, ◌++◌, drop, map}
use Rattle.std.specs.Prelude.{Some, flat_map}
use Rattle.cargo_manifest.specs.Dependencies.{dependencies_in, dependency_view}
use Rattle.cargo_manifest.specs.Values.{entry_view}
use Rattle.cargo_manifest.proofs.manifest.dependencies_of.Given as goal

abbrev pub invariant-loop-target : goal.invariant-loop-target
invariant-loop-target l =
    map dependency_view l.all.items ++ flat_map (λ e. dependencies_in l.key (Some e.0) e.1) (map entry_view (drop l.target-index l.target-items))
    ≡ map dependency_view l.initial.all.items ++ flat_map (λ e. dependencies_in l.key (Some e.0) e.1) (map entry_view l.target-items)
