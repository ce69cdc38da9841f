use Rattle.std.proofs.Common.{◌≡◌, ◌-◌}
use Rattle.rust_source.specs.KnownAttributes.{copy_from}
use Rattle.rust_source.proofs.reader.known_attributes.names_copy.Given as goal

-- one of the tokens that are left is `Copy`, if one of all is
abbrev pub invariant-loop-turn : goal.invariant-loop-turn
invariant-loop-turn l = copy_from (l.turns - l.turn) l.left ≡ copy_from l.turns l.initial.left
