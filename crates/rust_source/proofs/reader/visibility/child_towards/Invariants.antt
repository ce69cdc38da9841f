-- The module that is looked for is that around the one that was come to, or is it.
use Rattle.std.proofs.Common.{◌≡◌, ◌-◌}
use Rattle.rust_source.specs.Visibility.{child_from, child_towards}
use Rattle.rust_source.proofs.reader.visibility.child_towards.Given as goal

abbrev pub invariant-loop-turn : goal.invariant-loop-turn
invariant-loop-turn l = child_from l.modules (l.turns - l.turn) l.outer l.at ≡ child_towards l.modules l.outer l.number
