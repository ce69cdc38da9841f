-- The table has the operators.
use Rattle.rust_source.specs.Operators.{pairs}
use Rattle.rust_source.proofs.reader.operators.next_pair.Goals as goal

pub returns : goal.returns
unfolding pairs
returns c = c.pair_in.ensures
