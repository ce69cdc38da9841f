-- What is looked at so far begins no other item.
use Rattle.std.proofs.Common.{◌≡◌, ◌-◌}
use Rattle.rust_source.specs.Unread.{has_other, other_from}
use Rattle.rust_source.proofs.reader.unread.has_other.Given as goal

abbrev pub invariant-loop-turn : goal.invariant-loop-turn
invariant-loop-turn l = other_from (l.turns - l.turn) l.ahead ≡ has_other l.tokens
