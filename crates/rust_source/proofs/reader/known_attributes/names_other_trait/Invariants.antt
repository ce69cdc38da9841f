use Rattle.std.proofs.Common.{◌≡◌, ◌-◌}
use Rattle.rust_source.specs.KnownAttributes.{other_trait_from}
use Rattle.rust_source.proofs.reader.known_attributes.names_other_trait.Given as goal

-- one of the tokens that are left is another trait's name, if one of all is
abbrev pub invariant-loop-turn : goal.invariant-loop-turn
invariant-loop-turn l = other_trait_from (l.turns - l.turn) l.left ≡ other_trait_from l.turns l.initial.left
