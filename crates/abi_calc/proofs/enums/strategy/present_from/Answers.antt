use Rattle.std.proofs.Common.{sym, ◌∙◌}
use Rattle.abi_calc.proofs.EnumLemmas.EnumStrategy.{absent_here, present_here}
use Rattle.abi_calc.proofs.enums.strategy.present_from.Goals as goal

pub returns-then-is_present : goal.returns-then-is_present
returns-then-is_present g c =
    present_here g.F.LayoutHandle.layout_of c.args.repr.now c.args.variants.now c.loop-index.index _ _ c.loop-index-test.true c.index-variants-index.is (c.as_raw.ensures.items ∙ c.as_slice.ensures)
    (sym c.is_present.ensures ∙ c.if-is_present.true)
    ∙ c.loop-index.invariant

pub loop-index-preserved : goal.loop-index-preserved
loop-index-preserved g c =
    absent_here g.F.LayoutHandle.layout_of c.args.repr.now c.args.variants.now c.loop-index.index _ _ c.loop-index-test.true c.index-variants-index.is (c.as_raw.ensures.items ∙ c.as_slice.ensures)
    (sym c.is_present.ensures ∙ c.if-is_present.false)
    ∙ c.loop-index.invariant
