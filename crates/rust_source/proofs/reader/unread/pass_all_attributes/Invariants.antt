-- What is passed over so far.
use Rattle.std.proofs.Common.{◌≡◌, ◌-◌}
use Rattle.rust_source.specs.Unread.{all_attributes_passed, attributes_from}
use Rattle.rust_source.proofs.reader.unread.pass_all_attributes.Given as goal

abbrev pub invariant-loop-turn : goal.invariant-loop-turn
invariant-loop-turn l = attributes_from (l.turns - l.turn) l.cursor ≡ all_attributes_passed l.fn.cursor
