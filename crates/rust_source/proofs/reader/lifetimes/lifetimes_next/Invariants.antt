use Rattle.std.proofs.Common.{◌≡◌, ◌-◌}
use Rattle.rust_source.specs.Lifetimes.{lifetimes_from}
use Rattle.rust_source.proofs.reader.lifetimes.lifetimes_next.Given as goal

-- those that are counted, and those that are left, are all
abbrev pub invariant-loop-turn : goal.invariant-loop-turn
invariant-loop-turn l = lifetimes_from (l.turns - l.turn) l.count l.left ≡ lifetimes_from l.turns 0 l.initial.left
