-- What is on so far, and what the features that were followed turn on.
use Rattle.std.proofs.Common.{◌≤◌, ◌+◌, ◌-◌, length, map}
use Rattle.cargo_manifest.specs.Enabled.{link_view}
use Rattle.cargo_manifest.specs.Values.{texts}
use Rattle.cargo_manifest.proofs.EnabledLemmas.{IsFollowed}
use Rattle.cargo_manifest.proofs.enabled.enabled.Given as goal

abbrev pub invariant-loop-at : goal.invariant-loop-at
invariant-loop-at l = record {
  so_far : IsFollowed (map link_view l.links) (texts l.fn.asked.items) (texts l.on.items) (map link_view l.left.items) l.at;
}

abbrev pub decreases-loop-at : goal.decreases-loop-at
decreases-loop-at l = length l.fn.asked.items + length l.links - l.at
