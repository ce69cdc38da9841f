-- The links so far stand before those that are left lead to.
use Rattle.std.proofs.Common.{◌≡◌, ◌++◌, drop, map}
use Rattle.std.specs.Prelude.{flat_map}
use Rattle.cargo_manifest.specs.Enabled.{link_view}
use Rattle.cargo_manifest.specs.Features.{with_dependency}
use Rattle.cargo_manifest.specs.Values.{texts}
use Rattle.cargo_manifest.proofs.features.all_links.Given as goal

abbrev pub invariant-loop-link : goal.invariant-loop-link
invariant-loop-link l =
    map link_view l.links.items ++ flat_map (with_dependency (texts l.optional) (texts l.names)) (map link_view (drop l.link-index l.listed))
    ≡ flat_map (with_dependency (texts l.optional) (texts l.names)) (map link_view l.listed)
