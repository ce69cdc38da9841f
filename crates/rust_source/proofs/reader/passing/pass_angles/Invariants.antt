-- The brackets have come this far.
use Rattle.std.proofs.Common.{◌≡◌, ◌-◌}
use Rattle.rust_source.specs.Passing.{angles_from, angles_passed}
use Rattle.rust_source.proofs.reader.passing.pass_angles.Given as goal

abbrev pub invariant-loop-turn : goal.invariant-loop-turn
invariant-loop-turn l = angles_from (l.turns - l.turn) l.depth l.cursor ≡ angles_passed l.fn.cursor
