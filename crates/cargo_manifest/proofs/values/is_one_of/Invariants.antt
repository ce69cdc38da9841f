-- The texts so far are others.
use Rattle.std.proofs.Common.{◌≡◌, drop}
use Rattle.cargo_manifest.specs.Values.{is_one_of, texts}
use Rattle.cargo_manifest.proofs.values.is_one_of.Given as goal

abbrev pub invariant-loop-one : goal.invariant-loop-one
invariant-loop-one l = is_one_of (texts (drop l.one-index l.all)) l.text ≡ is_one_of (texts l.all) l.text
