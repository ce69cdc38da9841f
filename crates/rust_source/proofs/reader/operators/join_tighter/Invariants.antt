-- What is joined so far makes what all makes.
use Rattle.std.proofs.Common.{◌≡◌, reverse, vec_len}
use Rattle.rust_source.specs.Operators.{joined_tighter, operands_of}
use Rattle.rust_source.proofs.reader.operators.join_tighter.Given as goal

abbrev pub invariant-joining : goal.invariant-joining
invariant-joining l =
    joined_tighter l.least (operands_of l.operands.items) (reverse l.waiting.items)
    ≡ joined_tighter l.least (operands_of l.initial.operands.items) (reverse l.initial.waiting.items)

abbrev pub decreases-joining : goal.decreases-joining
decreases-joining l = vec_len l.waiting
