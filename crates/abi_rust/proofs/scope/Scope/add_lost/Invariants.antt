-- What the uses add that are left is what all of them add.
use Rattle.std.proofs.Common.{◌≡◌, drop}
use Rattle.abi_rust.specs.Globs.{lists_of, lost_added, lost_target, with_globs}
use Rattle.abi_rust.proofs.scope.Scope.add_lost.Given as goal

abbrev pub invariant-loop-number : goal.invariant-loop-number
invariant-loop-number l =
    with_globs (lost_target l.items l.self) l.number (drop l.number l.items.uses.items) (lists_of l.direct.items)
    ≡ lost_added l.items l.self (lists_of l.initial.direct.items)
