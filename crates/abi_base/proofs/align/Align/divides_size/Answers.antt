use Rattle.abi_base.proofs.align.Align.divides_size.Goals as goal

pub returns : goal.returns
returns c = rw c.bytes.ensures at c.divides.ensures
