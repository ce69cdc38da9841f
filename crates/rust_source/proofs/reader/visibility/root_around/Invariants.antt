-- The root around the module that was come to is the one that is looked for.
use Rattle.std.proofs.Common.{◌≡◌, ◌-◌}
use Rattle.rust_source.specs.Visibility.{root_around, root_from}
use Rattle.rust_source.proofs.reader.visibility.root_around.Given as goal

abbrev pub invariant-loop-turn : goal.invariant-loop-turn
invariant-loop-turn l = root_from l.modules (l.turns - l.turn) l.at ≡ root_around l.modules l.number
