use Rattle.std.proofs.Common.{arith, ◌∙◌}
use Rattle.abi_calc.proofs.CoroutineLemmas.Steps.{used_more}
use Rattle.abi_calc.proofs.coroutine.promotion.used_count.Goals as goal
use Rattle.abi_calc.proofs.coroutine.promotion.used_count.Goals.{then-is_used, else-is_used}

pub loop-state-preserved : goal.loop-state-preserved
loop-state-preserved g c =
    elim c.if-is_used.branch [
      | then-is_used w ↦ record {
        counted = used_more g.LocalIdx.Idx.number c.args.promoted.now c.args.states.now c.loop-state.state-index c.loop-state.count c.if-is_used.count c.state-item.result c.as_raw.result.now c.is_used.result
            c.loop-state-test.true c.state-item.is (c.as_raw.ensures.items ∙ c.as_slice.ensures) c.loop-state.invariant.counted c.is_used.ensures (rw w.if-is_used.true (omega (arith, w.count-is)));
        few = omega (arith, w.count-is, c.loop-state.invariant.few);
      }
      | else-is_used w ↦ record {
        counted = used_more g.LocalIdx.Idx.number c.args.promoted.now c.args.states.now c.loop-state.state-index c.loop-state.count c.if-is_used.count c.state-item.result c.as_raw.result.now c.is_used.result
            c.loop-state-test.true c.state-item.is (c.as_raw.ensures.items ∙ c.as_slice.ensures) c.loop-state.invariant.counted c.is_used.ensures (rw w.if-is_used.false (omega (arith, w.count-is)));
        few = omega (arith, w.count-is, c.loop-state.invariant.few);
      }
    ]
