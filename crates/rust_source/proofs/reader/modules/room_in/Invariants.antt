-- The room in the module that was come to is the one that is looked for.
use Rattle.std.proofs.Common.{◌≡◌, ◌-◌}
use Rattle.rust_source.specs.Outlines.{room_from, room_in}
use Rattle.rust_source.proofs.reader.modules.room_in.Given as goal

abbrev pub invariant-loop-turn : goal.invariant-loop-turn
invariant-loop-turn l = room_from l.modules (l.turns - l.turn) l.at ≡ room_in l.modules l.number
