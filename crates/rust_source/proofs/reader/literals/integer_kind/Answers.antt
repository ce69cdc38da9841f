-- The table has the integer types.
use Rattle.rust_source.specs.Literals.{integer_kind, integer_kinds}
use Rattle.rust_source.proofs.reader.literals.integer_kind.Goals as goal

pub returns : goal.returns
unfolding integer_kind integer_kinds
returns c = c.integer_kind_in.ensures
