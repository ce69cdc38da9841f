-- The bound is small, and the fields' alignments have their limit.
use Rattle.std.proofs.Common.{arith}
use Rattle.abi_calc.proofs.EnumLemmas.Lists.{align_small_all}
use Rattle.abi_calc.proofs.enums.bounds.least_whole.Goals as goal

pub round_up-requires-clause-align : goal.round_up-requires-clause-align
round_up-requires-clause-align g c =
    rw (c.align_with_all.ensures) (align_small_all g.F.LayoutHandle.layout_of c.args.dl.now 0 c.args.variants.now (omega arith) c.requires.fields)
