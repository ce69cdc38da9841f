-- The item has come this far.
use Rattle.std.proofs.Common.{◌≡◌, ◌-◌}
use Rattle.rust_source.specs.Passing.{body_from, body_passed}
use Rattle.rust_source.proofs.reader.passing.pass_to_body.Given as goal

abbrev pub invariant-loop-turn : goal.invariant-loop-turn
invariant-loop-turn l = body_from (l.turns - l.turn) l.depth l.cursor ≡ body_passed l.fn.cursor
