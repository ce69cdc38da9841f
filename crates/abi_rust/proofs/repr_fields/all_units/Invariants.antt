use Rattle.std.proofs.Common.{◌≡◌, drop}
use Rattle.abi_rust.specs.Aligned.{all_units}
use Rattle.abi_rust.proofs.repr_fields.all_units.Given as goal

-- those before are all so
abbrev pub invariant-loop-variant : goal.invariant-loop-variant
invariant-loop-variant l = all_units (drop l.variant-index l.variants) ≡ all_units l.variants
