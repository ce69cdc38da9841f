-- What the uses add that are left is what all of them add.
use Rattle.std.proofs.Common.{◌≡◌, drop, false}
use Rattle.abi_rust.specs.Globs.{glob_target, globs_added, lists_of, with_globs}
use Rattle.abi_rust.proofs.scope.Scope.add_globs.Given as goal

abbrev pub invariant-loop-number : goal.invariant-loop-number
invariant-loop-number l =
    (with_globs (glob_target l.self) l.number (drop l.number l.items.uses.items) (lists_of l.direct.items)
    ≡ globs_added l.items l.self (lists_of l.initial.direct.items))
    × (l.is_new ≡ false → lists_of l.direct.items ≡ lists_of l.initial.direct.items)
