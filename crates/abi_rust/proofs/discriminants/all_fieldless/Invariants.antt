use Rattle.std.proofs.Common.{◌≡◌, drop}
use Rattle.abi_rust.specs.Evaluating.{all_fieldless}
use Rattle.abi_rust.proofs.discriminants.all_fieldless.Given as goal

-- all are so where those that are left are
abbrev pub invariant-loop-variant : goal.invariant-loop-variant
invariant-loop-variant l = all_fieldless (drop l.variant-index l.variants) ≡ all_fieldless l.variants
