use Rattle.abi_index.proofs.BitMatrixLemmas.{bounded_rest}
use Rattle.abi_index.proofs.bit_row_iter.BitRowIterIterator.next.Goals as goal

pub invariant_of-self : goal.invariant_of-self
invariant_of-self g c = record { within = bounded_rest _ _ _ _ c.in_ok-first.ensures.cases.0 c.args.self.now.within }
