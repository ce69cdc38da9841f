-- What is looked at so far has the name in paths and calls of the macro alone.
use Rattle.std.proofs.Common.{◌≡◌, ◌-◌}
use Rattle.rust_source.specs.CfgIf.{has_own, own_from}
use Rattle.rust_source.proofs.reader.cfg_if.has_own.Given as goal

abbrev pub invariant-loop-turn : goal.invariant-loop-turn
invariant-loop-turn l = own_from (l.turns - l.turn) l.ahead ≡ has_own l.tokens
