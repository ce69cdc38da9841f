-- The bounds have come this far.
use Rattle.std.proofs.Common.{◌≡◌, ◌-◌}
use Rattle.rust_source.specs.Passing.{bounds, bounds_from}
use Rattle.rust_source.proofs.reader.passing.pass_bounds.Given as goal

abbrev pub invariant-loop-turn : goal.invariant-loop-turn
invariant-loop-turn l = bounds_from (l.turns - l.turn) l.depth l.has_question l.cursor ≡ bounds l.fn.cursor
