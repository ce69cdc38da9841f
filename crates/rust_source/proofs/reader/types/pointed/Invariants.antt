-- The type with what is left before it is the whole.
use Rattle.std.proofs.Common.{◌≡◌, vec_len}
use Rattle.rust_source.specs.Simple.{pointed}
use Rattle.rust_source.specs.Syntax.{type_of}
use Rattle.rust_source.proofs.reader.types.pointed.Given as goal

abbrev pub invariant-loop-nearest : goal.invariant-loop-nearest
invariant-loop-nearest l = pointed (type_of l.whole) l.pointing.items ≡ pointed (type_of l.initial.whole) l.initial.pointing.items

abbrev pub decreases-loop-nearest : goal.decreases-loop-nearest
decreases-loop-nearest l = vec_len l.pointing
