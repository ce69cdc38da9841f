-- The dependencies so far stand before those that are left.
use Rattle.std.proofs.Common.{◌≡◌, ◌++◌, drop, map}
use Rattle.std.specs.Prelude.{option_map}
use Rattle.cargo_manifest.specs.Dependencies.{dependency_at, dependency_view}
use Rattle.cargo_manifest.specs.Values.{entry_view}
use Rattle.cargo_manifest.proofs.dependency.put_dependencies.Given as goal

abbrev pub invariant-loop-name : goal.invariant-loop-name
invariant-loop-name l =
    map dependency_view l.all.items ++ map (dependency_at (option_map (λ t. t.now) l.target)) (map entry_view (drop l.name-index l.name-items))
    ≡ map dependency_view l.initial.all.items ++ map (dependency_at (option_map (λ t. t.now) l.target)) (map entry_view l.name-items)
