use Rattle.abi_c.proofs.NumberLemmas.ValueSteps.{values_end, values_step}
use Rattle.abi_c.proofs.numbers.write_value.+write.Goals as goal

pub write_each-loop-value-preserved : goal.write_each-loop-value-preserved
write_each-loop-value-preserved t c =
    values_step _ c.loop-value.out.items c.write_one.new.out.items c.args.values.now c.loop-value.value-index c.value-item.result c.loop-value-test.true c.value-item.is c.loop-value.invariant
    c.in_ok-write_one.ensures

pub write_each-returns : goal.write_each-returns
write_each-returns t c =
    values_end c.args.out.now.items _ c.loop-value.out.items c.args.values.now c.loop-value.value-index c.loop-value-test.false c.in_ok-push.ensures.items c.loop-value.invariant
