use Rattle.abi_c.proofs.NumberLemmas.Layouts.{variants_step}
use Rattle.abi_c.proofs.numbers.layout.write_each_variant.Goals as goal

pub loop-variant-preserved : goal.loop-variant-preserved
loop-variant-preserved c =
    variants_step c.args.out.now.items c.loop-variant.out.items c.write_variant.new.out.items c.args.variants.now c.loop-variant.variant-index c.variant-item.result c.loop-variant-test.true
    c.variant-item.is c.loop-variant.invariant c.in_ok-write_variant.ensures
