-- The operand with the operators that are left is the whole.
use Rattle.std.proofs.Common.{◌≡◌, vec_len}
use Rattle.rust_source.specs.Operators.{with_operators}
use Rattle.rust_source.specs.Syntax.{expr_of}
use Rattle.rust_source.proofs.reader.operators.with_signs.Given as goal

abbrev pub invariant-loop-sign : goal.invariant-loop-sign
invariant-loop-sign l = with_operators (expr_of l.operand) l.signs.items ≡ with_operators (expr_of l.initial.operand) l.initial.signs.items

abbrev pub decreases-loop-sign : goal.decreases-loop-sign
decreases-loop-sign l = vec_len l.signs
