-- The calls that are decided so far.
use Rattle.std.proofs.Common.{◌≡◌, ◌-◌}
use Rattle.rust_source.specs.CfgCalls.{calls_from, calls_of}
use Rattle.rust_source.proofs.reader.cfg_calls.calls_of.Given as goal

abbrev pub invariant-loop-turn : goal.invariant-loop-turn
invariant-loop-turn l = calls_from (l.turns - l.turn) l.target l.all.items l.ahead ≡ calls_of l.target l.tokens
