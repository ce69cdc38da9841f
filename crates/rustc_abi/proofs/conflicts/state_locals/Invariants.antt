-- The locals before.
use Rattle.std.proofs.Common.{◌≡◌, take}
use Rattle.rustc_abi.proofs.conflicts.state_locals.Given as goal

abbrev pub invariant-loop-index : goal.invariant-loop-index
invariant-loop-index l = l.named ≡ take l.index-index l.indices
