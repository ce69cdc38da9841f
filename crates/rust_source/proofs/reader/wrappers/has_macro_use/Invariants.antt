-- What is looked at so far has no `macro_use` of a module.
use Rattle.std.proofs.Common.{◌≡◌, ◌-◌}
use Rattle.rust_source.specs.Wrappers.{has_macro_use, use_from}
use Rattle.rust_source.proofs.reader.wrappers.has_macro_use.Given as goal

abbrev pub invariant-loop-turn : goal.invariant-loop-turn
invariant-loop-turn l = use_from (l.turns - l.turn) l.ahead ≡ has_macro_use l.tokens
