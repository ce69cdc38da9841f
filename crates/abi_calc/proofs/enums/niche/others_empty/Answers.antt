use Rattle.std.proofs.Common.{sym, ◌∙◌}
use Rattle.abi_calc.proofs.EnumLemmas.Niche.{others_next, others_stop}
use Rattle.abi_calc.proofs.enums.niche.others_empty.Goals as goal

pub returns-then-not-stays_empty : goal.returns-then-not-stays_empty
returns-then-not-stays_empty g c =
    others_stop c.args.untagged c.args.variants.now c.loop-index.index c.index-variants-index.result c.loop-index-test.true c.index-variants-index.is (sym c.stays_empty.ensures ∙ c.if-not-stays_empty.true) ∙ c.loop-index.invariant

pub loop-index-preserved : goal.loop-index-preserved
loop-index-preserved g c =
    others_next c.args.untagged c.args.variants.now c.loop-index.index c.index-variants-index.result c.loop-index-test.true c.index-variants-index.is (sym c.stays_empty.ensures ∙ c.if-not-stays_empty.false) ∙ c.loop-index.invariant
