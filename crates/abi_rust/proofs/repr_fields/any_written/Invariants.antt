use Rattle.std.proofs.Common.{◌≡◌, drop}
use Rattle.abi_rust.specs.Aligned.{any_written}
use Rattle.abi_rust.proofs.repr_fields.any_written.Given as goal

-- none before has any
abbrev pub invariant-loop-variant : goal.invariant-loop-variant
invariant-loop-variant l = any_written (drop l.variant-index l.variants) ≡ any_written l.variants
