-- The macros before aren't the one that is looked for.
use Rattle.std.proofs.Common.{◌≡◌, drop}
use Rattle.rust_source.specs.MacroScope.{known_in}
use Rattle.rust_source.proofs.reader.macro_scope.known_in.Given as goal

abbrev pub invariant-loop-one : goal.invariant-loop-one
invariant-loop-one l = known_in l.root l.name (drop l.one-index l.known) ≡ known_in l.root l.name l.known
