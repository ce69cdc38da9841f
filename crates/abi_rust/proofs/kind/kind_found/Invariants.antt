use Rattle.std.proofs.Common.{◌≡◌, ◌-◌}
use Rattle.abi_rust.specs.Kinds.{kind_within}
use Rattle.abi_rust.proofs.kind.kind_found.Given as goal

-- what the aliases that are left lead to is what all lead to
abbrev pub invariant-loop-turn : goal.invariant-loop-turn
invariant-loop-turn l =
    kind_within l.cx.items.now l.cx.scope.now (l.turns - l.turn) l.found ≡ kind_within l.cx.items.now l.cx.scope.now l.turns l.initial.found
