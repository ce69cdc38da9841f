use Rattle.std.proofs.Common.{◌≡◌, drop}
use Rattle.abi_rust.specs.Evaluating.{variant_from}
use Rattle.abi_rust.proofs.discriminants.variant_at.Given as goal

-- none before has the name
abbrev pub invariant-loop-index : goal.invariant-loop-index
invariant-loop-index l = variant_from l.index l.name (drop l.index l.variants) ≡ variant_from 0 l.name l.variants
