-- The operators so far.
use Rattle.std.proofs.Common.{◌≡◌, ◌-◌}
use Rattle.rust_source.specs.Simple.{signs, signs_from}
use Rattle.rust_source.proofs.reader.expressions.take_signs.Given as goal

abbrev pub invariant-loop-turn : goal.invariant-loop-turn
invariant-loop-turn l = signs_from (l.turns - l.turn) l.all.items l.cursor ≡ signs l.fn.cursor
