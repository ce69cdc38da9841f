use Rattle.std.proofs.Common.{◌≡◌, drop}
use Rattle.abi_rust.specs.Tails.{may_any}
use Rattle.abi_rust.proofs.tail.may_any.Given as goal

-- none before may
abbrev pub invariant-loop-parameter : goal.invariant-loop-parameter
invariant-loop-parameter l = may_any (drop l.parameter-index l.parameters) ≡ may_any l.parameters
