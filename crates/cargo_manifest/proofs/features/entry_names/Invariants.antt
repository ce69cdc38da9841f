-- The names so far stand before those that are left.
use Rattle.std.proofs.Common.{◌≡◌, ◌++◌, drop, map}
use Rattle.cargo_manifest.specs.Values.{entry_view, texts}
use Rattle.cargo_manifest.proofs.features.entry_names.Given as goal

abbrev pub invariant-loop-name : goal.invariant-loop-name
invariant-loop-name l =
    texts l.all.items ++ map (λ e. e.0) (map entry_view (drop l.name-index l.entries)) ≡ map (λ e. e.0) (map entry_view l.entries)
