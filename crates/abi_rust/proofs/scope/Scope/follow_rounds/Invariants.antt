-- The names stay, and so many rounds were made.
use Rattle.abi_rust.specs.Globs.{AreRounds, lists_of}
use Rattle.abi_rust.specs.ScopeNames.{HasSameNames}
use Rattle.abi_rust.proofs.scope.Scope.follow_rounds.Given as goal

abbrev pub invariant-loop-round : goal.invariant-loop-round
invariant-loop-round l = HasSameNames l.fn.self l.self × AreRounds l.items l._round (lists_of l.direct.items) l.self
