-- The names so far stand before those among what is left.
use Rattle.std.proofs.Common.{◌≡◌, ◌++◌, drop, map}
use Rattle.cargo_manifest.specs.Enabled.{link_view}
use Rattle.cargo_manifest.specs.Features.{implicit_features}
use Rattle.cargo_manifest.specs.Values.{texts}
use Rattle.cargo_manifest.proofs.features.put_implicit.Given as goal

abbrev pub invariant-loop-name : goal.invariant-loop-name
invariant-loop-name l =
    texts l.names.items ++ implicit_features (texts (drop l.name-index l.optional)) (texts l.explicit) (map link_view l.links)
    ≡ texts l.initial.names.items ++ implicit_features (texts l.optional) (texts l.explicit) (map link_view l.links)
