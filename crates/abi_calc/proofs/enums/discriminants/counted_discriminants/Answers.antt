use Rattle.std.proofs.Common.{ap, map}
use Rattle.abi_calc.specs.Enums.Discriminants.{counts}
use Rattle.abi_calc.proofs.EnumLemmas.Discriminants.{kept, left_out}
use Rattle.abi_calc.proofs.enums.discriminants.counted_discriminants.Goals as goal
use Rattle.abi_calc.proofs.enums.discriminants.counted_discriminants.Goals.{then-counts+in_ok-push, else-counts}

pub loop-item-preserved : goal.loop-item-preserved
loop-item-preserved g c =
    let variants = map (map g.F.LayoutHandle.layout_of) c.args.variants.now in
    elim c.if-counts.branch [
      | then-counts+in_ok-push w ↦
          kept (counts g.VariantIdx.Idx.number c.args.repr.now variants) (λ item. item.1) c.args.items.now c.loop-item.item-index c.item-item.result c.counts.result c.loop-item.values.items _ c.if-counts.values.items
          c.loop-item.invariant c.loop-item-test.true c.item-item.is c.counts.ensures w.if-counts.true (ap (λ v. v.items) w.values-is) w.in_ok-push.ensures.items
      | else-counts w ↦
          left_out (counts g.VariantIdx.Idx.number c.args.repr.now variants) (λ item. item.1) c.args.items.now c.loop-item.item-index c.item-item.result c.counts.result c.loop-item.values.items c.if-counts.values.items
          c.loop-item.invariant c.loop-item-test.true c.item-item.is c.counts.ensures w.if-counts.false (ap (λ v. v.items) w.values-is)
    ]
