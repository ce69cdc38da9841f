use Rattle.std.proofs.Common.{◌≡◌, ◌++◌, drop}
use Rattle.abi_rust.specs.Names.{targets_on, use_target}
use Rattle.abi_rust.proofs.use_targets.targets_on.Given as goal

-- what was found, and what the uses bring in that are left, is what all of them do
abbrev pub invariant-loop-number : goal.invariant-loop-number
invariant-loop-number l =
    l.all.items ++ targets_on (use_target l.items l.scope l.known) l.number (drop l.number l.items.uses.items)
    ≡ targets_on (use_target l.items l.scope l.known) 0 l.items.uses.items
