use Rattle.std.proofs.Common.{sym, ◌∙◌}
use Rattle.abi_calc.proofs.CoroutineLemmas.Steps.{used_here}
use Rattle.abi_calc.proofs.coroutine.promotion.is_used.Goals as goal

pub returns-then-not-contains : goal.returns-then-not-contains
returns-then-not-contains g c =
    used_here g.LocalIdx.Idx.number c.args.promoted.now c.args.state.now c.loop-local.local-index c.local-item.result c.loop-local-test.true c.local-item.is (sym c.contains.ensures ∙ c.if-not-contains.true)
