use Rattle.std.proofs.Common.{◌≡◌, ◌-◌}
use Rattle.abi_rust.specs.Kinds.{type_within}
use Rattle.abi_rust.proofs.paths.type_named.Given as goal

-- what the aliases that are left lead to is what all lead to
abbrev pub invariant-loop-turn : goal.invariant-loop-turn
invariant-loop-turn l =
    type_within l.items l.scope (l.turns - l.turn) l.found ≡ type_within l.items l.scope l.turns l.initial.found
