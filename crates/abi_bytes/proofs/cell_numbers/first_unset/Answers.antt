use Rattle.std.proofs.Common.{ap, ◌∙◌}
use Rattle.std.specs.Prelude.{not}
use Rattle.abi_bytes.proofs.WrongLemmas.{AreSet-more}
use Rattle.abi_bytes.proofs.cell_numbers.first_unset.Goals as goal

pub loop-i-preserved : goal.loop-i-preserved
loop-i-preserved c =
    AreSet-more c.args.cells.now c.args.at c.args.size c.loop-i.i _ c.requires c.loop-i-test.true c.loop-i.invariant (c.is_none.ensures ∙ ap not c.if-is_none.false)
