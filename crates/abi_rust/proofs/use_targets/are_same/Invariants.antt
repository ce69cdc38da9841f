use Rattle.std.proofs.Common.{◌≡◌, drop}
use Rattle.abi_rust.proofs.use_targets.are_same.Given as goal

-- the lists are the same where what is left of them is
abbrev pub invariant-loop-index : goal.invariant-loop-index
invariant-loop-index l = drop l.index l.a ≡ drop l.index l.b → l.a ≡ l.b
