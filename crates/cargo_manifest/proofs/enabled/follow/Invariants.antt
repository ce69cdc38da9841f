-- What the links that are left lead to comes behind what is on, and those of other features behind the others.
use Rattle.std.proofs.Common.{◌≡◌, ◌++◌, drop, map}
use Rattle.cargo_manifest.specs.Enabled.{followed, link_view, other_links}
use Rattle.cargo_manifest.specs.Values.{texts}
use Rattle.cargo_manifest.proofs.enabled.follow.Given as goal

abbrev pub invariant-loop-link : goal.invariant-loop-link
invariant-loop-link l = record {
  on : followed l.feature (map link_view (drop l.link-index l.left)) (texts l.on.items) ≡ followed l.feature (map link_view l.left) (texts l.initial.on.items);
  others : map link_view l.others.items ++ other_links l.feature (map link_view (drop l.link-index l.left)) ≡ other_links l.feature (map link_view l.left);
}
