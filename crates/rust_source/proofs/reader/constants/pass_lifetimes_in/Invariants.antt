-- The lifetimes so far.
use Rattle.std.proofs.Common.{◌≡◌, ◌-◌}
use Rattle.rust_source.specs.Constants.{lifetimes_from, lifetimes_in}
use Rattle.rust_source.proofs.reader.constants.pass_lifetimes_in.Given as goal

abbrev pub invariant-loop-turn : goal.invariant-loop-turn
invariant-loop-turn l = lifetimes_from (l.turns - l.turn) l.cursor ≡ lifetimes_in l.fn.cursor
