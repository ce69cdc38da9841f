-- What is left is written behind what is.
use Rattle.std.proofs.Common.{◌≡◌, ◌++◌, drop}
use Rattle.types.specs.Escape.{escaped}
use Rattle.types.proofs.escape.write_escaped.Given as goal

abbrev pub invariant-loop-byte : goal.invariant-loop-byte
invariant-loop-byte l = l.out.items ++ escaped (drop l.byte-index l.text) ≡ l.initial.out.items ++ escaped l.text
