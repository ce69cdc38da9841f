-- What the globs add that are left is what all of them add.
use Rattle.std.proofs.Common.{◌≡◌, drop}
use Rattle.abi_rust.specs.Globs.{with_ways}
use Rattle.abi_rust.proofs.scope.add_ways.Given as goal

abbrev pub invariant-loop-glob : goal.invariant-loop-glob
invariant-loop-glob l = with_ways l.items l.ways.items l.before (drop l.glob-index l.more) ≡ with_ways l.items l.initial.ways.items l.before l.more
