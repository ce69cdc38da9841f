-- The words so far.
use Rattle.std.proofs.Common.{◌≡◌, ◌-◌}
use Rattle.rust_source.specs.Functions.{qualifiers_from, qualifiers_passed}
use Rattle.rust_source.proofs.reader.functions.pass_qualifiers.Given as goal

abbrev pub invariant-loop-turn : goal.invariant-loop-turn
invariant-loop-turn l = qualifiers_from (l.turns - l.turn) l.cursor ≡ qualifiers_passed l.fn.cursor
