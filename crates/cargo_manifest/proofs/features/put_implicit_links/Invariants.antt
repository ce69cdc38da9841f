-- The links so far stand before those of the names that are left.
use Rattle.std.proofs.Common.{◌≡◌, ◌++◌, drop, map}
use Rattle.cargo_manifest.specs.Enabled.{link_view}
use Rattle.cargo_manifest.specs.Features.{implicit_link}
use Rattle.cargo_manifest.specs.Values.{texts}
use Rattle.cargo_manifest.proofs.features.put_implicit_links.Given as goal

abbrev pub invariant-loop-name : goal.invariant-loop-name
invariant-loop-name l =
    map link_view l.links.items ++ map implicit_link (texts (drop l.name-index l.implicit)) ≡ map link_view l.initial.links.items ++ map implicit_link (texts l.implicit)
