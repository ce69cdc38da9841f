-- The names so far.
use Rattle.std.proofs.Common.{◌≡◌, ◌-◌}
use Rattle.rust_source.specs.Simple.{associated_passed, names_from}
use Rattle.rust_source.proofs.reader.types.pass_associated.Given as goal

abbrev pub invariant-loop-turn : goal.invariant-loop-turn
invariant-loop-turn l = names_from (l.turns - l.turn) l.cursor ≡ associated_passed l.fn.cursor
