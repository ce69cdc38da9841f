-- The next two tokens are none of the operators before the index.
use Rattle.std.proofs.Common.{◌≡◌, drop}
use Rattle.rust_source.specs.Operators.{pair_in}
use Rattle.rust_source.proofs.reader.operators.pair_in.Given as goal

abbrev pub invariant-loop-first : goal.invariant-loop-first
invariant-loop-first l = pair_in (drop l.first-index l.table) l.cursor ≡ pair_in l.table l.cursor
