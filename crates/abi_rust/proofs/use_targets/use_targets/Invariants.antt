use Rattle.std.proofs.Common.{◌≡◌}
use Rattle.abi_rust.specs.Names.{use_targets}
use Rattle.abi_rust.proofs.use_targets.use_targets.Given as goal

-- what so many rounds found
abbrev pub invariant-loop-round : goal.invariant-loop-round
invariant-loop-round l = l.known.items ≡ use_targets l.items l.scope l.round
