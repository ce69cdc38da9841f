-- The names so far stand before those of the dependencies that are left.
use Rattle.std.proofs.Common.{◌≡◌, ◌++◌, drop, map}
use Rattle.cargo_manifest.specs.Dependencies.{dependency_view}
use Rattle.cargo_manifest.specs.Features.{optional_names}
use Rattle.cargo_manifest.specs.Values.{texts}
use Rattle.cargo_manifest.proofs.features.optional_names.Given as goal

abbrev pub invariant-loop-dependency : goal.invariant-loop-dependency
invariant-loop-dependency l =
    texts l.all.items ++ optional_names (map dependency_view (drop l.dependency-index l.dependencies)) ≡ optional_names (map dependency_view l.dependencies)
