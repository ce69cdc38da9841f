use Rattle.abi_tree.specs.Nodes.{types_in}
use Rattle.abi_tree.proofs.Places.PartsLemmas.{variant_put}
use Rattle.abi_tree.proofs.parts.put_variants.Goals as goal

pub loop-v-preserved : goal.loop-v-preserved
loop-v-preserved c = λ ns have keeps.
    variant_put (types_in ns) c.args.variants.now c.args.parts.now.items c.loop-v.parts.items c.put_variant.new.parts.items c.loop-v.v _ c.loop-v-test.true (c.loop-v.invariant ns have keeps)
    (c.in_ok-put_variant.ensures ns have (keeps c.loop-v.v _ c.loop-v-test.true))
