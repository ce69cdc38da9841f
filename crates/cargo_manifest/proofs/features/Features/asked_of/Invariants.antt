-- The features so far stand before those that the links ask for that are left.
use Rattle.std.proofs.Common.{◌≡◌, ◌++◌, drop, map}
use Rattle.cargo_manifest.specs.Enabled.{link_view}
use Rattle.cargo_manifest.specs.Features.{asked_of}
use Rattle.cargo_manifest.specs.Values.{texts}
use Rattle.cargo_manifest.proofs.features.Features.asked_of.Given as goal

abbrev pub invariant-loop-link : goal.invariant-loop-link
invariant-loop-link l =
    texts l.all.items ++ asked_of (map link_view (drop l.link-index l.link-items)) (texts l.on) l.dependency ≡ asked_of (map link_view l.link-items) (texts l.on) l.dependency
