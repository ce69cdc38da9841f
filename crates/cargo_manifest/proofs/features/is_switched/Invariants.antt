-- The links so far turn on others.
use Rattle.std.proofs.Common.{◌≡◌, drop, map}
use Rattle.cargo_manifest.specs.Enabled.{link_view}
use Rattle.cargo_manifest.specs.Features.{is_switched}
use Rattle.cargo_manifest.proofs.features.is_switched.Given as goal

abbrev pub invariant-loop-link : goal.invariant-loop-link
invariant-loop-link l = is_switched (map link_view (drop l.link-index l.links)) l.name ≡ is_switched (map link_view l.links) l.name
