-- What stands before the type so far.
use Rattle.std.proofs.Common.{◌≡◌, ◌-◌}
use Rattle.rust_source.specs.Simple.{pointings, pointings_from}
use Rattle.rust_source.proofs.reader.types.take_all_pointing.Given as goal

abbrev pub invariant-loop-turn : goal.invariant-loop-turn
invariant-loop-turn l = pointings_from (l.turns - l.turn) l.all.items l.cursor ≡ pointings l.fn.cursor
