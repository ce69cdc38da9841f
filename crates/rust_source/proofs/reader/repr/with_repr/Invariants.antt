-- What is asked for so far.
use Rattle.std.proofs.Common.{◌≡◌, ◌-◌}
use Rattle.rust_source.specs.Repr.{with_repr, words_from}
use Rattle.rust_source.proofs.reader.repr.with_repr.Given as goal

abbrev pub invariant-loop-turn : goal.invariant-loop-turn
invariant-loop-turn l = words_from (l.turns - l.turn) l.asked l.inside ≡ with_repr l.fn.asked l.fn.inside
