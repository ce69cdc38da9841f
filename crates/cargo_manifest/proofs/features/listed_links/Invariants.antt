-- The links so far stand before those of the features that are left.
use Rattle.std.proofs.Common.{◌≡◌, ◌++◌, drop, map}
use Rattle.cargo_manifest.specs.Enabled.{link_view}
use Rattle.cargo_manifest.specs.Features.{listed_links}
use Rattle.cargo_manifest.specs.Values.{entry_view}
use Rattle.cargo_manifest.proofs.features.listed_links.Given as goal

abbrev pub invariant-loop-feature : goal.invariant-loop-feature
invariant-loop-feature l =
    map link_view l.links.items ++ listed_links (map entry_view (drop l.feature-index l.entries)) ≡ listed_links (map entry_view l.entries)
