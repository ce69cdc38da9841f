-- The escapes so far.
use Rattle.std.proofs.Common.{◌≡◌, ◌-◌}
use Rattle.rust_source.specs.Cfg.{escapes_from, has_escapes}
use Rattle.rust_source.proofs.reader.cfg.has_escapes.Given as goal

abbrev pub invariant-loop-turn : goal.invariant-loop-turn
invariant-loop-turn l = escapes_from (l.turns - l.turn) l.rest ≡ has_escapes l.fn.inside
