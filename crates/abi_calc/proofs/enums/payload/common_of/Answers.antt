use Rattle.std.proofs.Common.{◌∙◌, arith, refl, sym}
use Rattle.abi_calc.proofs.AtIndex.{still_within}
use Rattle.abi_calc.proofs.EnumLemmas.Payload.{common_begin, common_end, common_none, common_step}
use Rattle.abi_calc.proofs.enums.payload.common_of.Goals as goal

pub returns-then-len-eq0-clause-value : goal.returns-then-len-eq0-clause-value
returns-then-len-eq0-clause-value g c =
    common_none c.args.dl.now c.args.old c.args.new g.F.LayoutHandle.layout_of c.args.variants.now c.args.lists.now (sym c.len.ensures ∙ c.if-len-eq0.true)

pub variant_payload-shared-requires-clause-within : goal.variant_payload-shared-requires-clause-within
variant_payload-shared-requires-clause-within g c = omega (arith, c.len.ensures, c.if-len-eq0.false)

pub loop-index-init : goal.loop-index-init
loop-index-init g c = record {
  value = common_begin c.args.dl.now _ c.variant_payload-shared.result c.variant_payload-shared.ensures.value;
  lawful = c.variant_payload-shared.ensures.lawful;
}

pub loop-index-preserved : goal.loop-index-preserved
loop-index-preserved g c = record {
  value = rw c.common_payload-shared.ensures.value (common_step c.args.dl.now _ c.loop-index.index c.loop-index.shared c.variant_payload.result _ c.variant_payload.ensures.value c.loop-index.invariant.value);
  lawful = c.common_payload-shared.ensures.lawful;
}

pub returns-clause-value : goal.returns-clause-value
returns-clause-value g c =
    common_end c.args.dl.now c.args.old c.args.new g.F.LayoutHandle.layout_of c.args.variants.now c.args.lists.now c.loop-index.index c.loop-index.shared _ c.requires.lists (still_within _ _ _ _ c.len-index-end.ensures refl c.loop-index-test.false) c.loop-index.invariant.value
