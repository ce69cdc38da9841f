use Rattle.std.proofs.Common.{◌≡◌, drop}
use Rattle.abi_rust.specs.Resolving.{given_early}
use Rattle.abi_rust.proofs.resolve.given_early.Given as goal

-- none before is given anything
abbrev pub invariant-loop-index : goal.invariant-loop-index
invariant-loop-index l = given_early (drop l.index l.segments) ≡ given_early l.segments
