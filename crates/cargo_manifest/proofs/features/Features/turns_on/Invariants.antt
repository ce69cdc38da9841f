-- The links so far don't turn it on.
use Rattle.std.proofs.Common.{◌≡◌, drop, map}
use Rattle.cargo_manifest.specs.Enabled.{link_view}
use Rattle.cargo_manifest.specs.Features.{turns_on}
use Rattle.cargo_manifest.specs.Values.{texts}
use Rattle.cargo_manifest.proofs.features.Features.turns_on.Given as goal

abbrev pub invariant-loop-link : goal.invariant-loop-link
invariant-loop-link l =
    turns_on (map link_view (drop l.link-index l.link-items)) (texts l.on) l.dependency ≡ turns_on (map link_view l.link-items) (texts l.on) l.dependency
