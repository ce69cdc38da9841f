use Rattle.std.proofs.Common.{◌≡◌, drop}
use Rattle.abi_rust.specs.Globs.{is_in}
use Rattle.abi_rust.proofs.scope.is_in.Given as goal

-- the glob is among those that are left, if it is among all
abbrev pub invariant-loop-other : goal.invariant-loop-other
invariant-loop-other l = is_in (drop l.other-index l.known) l.glob ≡ is_in l.known l.glob
