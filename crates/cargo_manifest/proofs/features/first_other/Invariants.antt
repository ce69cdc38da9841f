-- The texts so far are among the others.
use Rattle.std.proofs.Common.{◌≡◌, drop}
use Rattle.cargo_manifest.specs.Features.{first_other}
use Rattle.cargo_manifest.specs.Values.{texts}
use Rattle.cargo_manifest.proofs.features.first_other.Given as goal

abbrev pub invariant-loop-text : goal.invariant-loop-text
invariant-loop-text l = first_other (texts (drop l.text-index l.some)) (texts l.others) ≡ first_other (texts l.some) (texts l.others)
