use Rattle.std.proofs.Common.{subst, sym, ap, ◌∙◌}
use Rattle.abi_scalar.specs.Lawful.{IsLawfulLayout}
use Rattle.abi_calc.specs.Enums.Growth.{moved_offset}
use Rattle.abi_calc.proofs.EnumLemmas.Payload.{beside_lawful, payload_step}
use Rattle.abi_calc.proofs.enums.payload.payload_of.Goals as goal

pub payload_of_field-requires-clause-field : goal.payload_of_field-requires-clause-field
payload_of_field-requires-clause-field g c =
    subst (λ l. IsLawfulLayout c.args.dl.now l) (ap g.F.LayoutHandle.layout_of (sym c.index-fields-index.is) ∙ sym c.layout.ensures)
    (c.requires.fields c.loop-index.index c.index-fields-index.result c.loop-index-test.true)

pub loop-index-preserved : goal.loop-index-preserved
loop-index-preserved g c = record {
  value =
      let step = payload_step c.args.dl.now g.F.LayoutHandle.layout_of (moved_offset c.args.old c.args.new) c.args.fields.now c.args.offsets.now c.loop-index.index c.index-fields-index.result
      c.index-offsets-index.result c.loop-index.payload _ c.loop-index-test.true c.requires.count c.index-fields-index.is c.index-offsets-index.is c.loop-index.invariant.value in
      rw (c.payload_of_two-payload.ensures, c.payload_of_field.ensures.value, c.layout.ensures, c.moved_offset-offset.ensures) step;
  lawful = rw c.payload_of_two-payload.ensures (beside_lawful c.args.dl.now c.loop-index.payload c.payload_of_field.result c.loop-index.invariant.lawful c.payload_of_field.ensures.lawful);
}
