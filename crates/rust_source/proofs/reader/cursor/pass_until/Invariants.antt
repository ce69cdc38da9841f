-- What is passed over so far.
use Rattle.std.proofs.Common.{◌≡◌, ◌-◌}
use Rattle.rust_source.specs.Until.{until, until_from}
use Rattle.rust_source.proofs.reader.cursor.pass_until.Given as goal

abbrev pub invariant-loop-turn : goal.invariant-loop-turn
invariant-loop-turn l = until_from (l.turns - l.turn) l.character l.cursor ≡ until l.character l.fn.cursor
