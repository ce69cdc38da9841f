-- The links so far stand before those of the strings that are left.
use Rattle.std.proofs.Common.{◌≡◌, ◌++◌, drop, map}
use Rattle.cargo_manifest.specs.Enabled.{link_view}
use Rattle.cargo_manifest.specs.Features.{named}
use Rattle.cargo_manifest.specs.Values.{texts}
use Rattle.cargo_manifest.proofs.features.put_links.Given as goal

abbrev pub invariant-loop-text : goal.invariant-loop-text
invariant-loop-text l =
    map link_view l.links.items ++ named l.feature (texts (drop l.text-index l.said)) ≡ map link_view l.initial.links.items ++ named l.feature (texts l.said)
