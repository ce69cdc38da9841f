use Rattle.std.proofs.Common.{◌<◌, map, subst}
use Rattle.std.proofs.lemmas.Bool.{lt-ltb}
use Rattle.abi_calc.specs.Coroutine.Promotion.{used_count}
use Rattle.abi_calc.proofs.CoroutineLemmas.Steps.{promoted_all}
use Rattle.abi_calc.proofs.coroutine.promotion.promote_if_few.Goals as goal

pub returns-then-used_count-lt2 : goal.returns-then-used_count-lt2
returns-then-used_count-lt2 g c =
    let few : used_count (map (map g.LocalIdx.Idx.number) c.args.states.now) c.args.promoted.now < 2 = subst (λ n. n < 2) c.used_count.ensures c.if-used_count-lt2.true in
    rw (lt-ltb _ _ few) (promoted_all c.args.promoted.now c.insert_all.new.self c.insert_all.ensures.size c.insert_all.ensures.members)
