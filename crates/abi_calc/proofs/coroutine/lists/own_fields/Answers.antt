-- One local more.
use Rattle.std.proofs.Common.{◌≡◌, ◌<◌, ◌∷◌, ◌++◌, ◌∙◌, [], ap, arith, get_or, length, subst, sym}
use Rattle.std.proofs.lemmas.List.{length-append}
use Rattle.std.specs.Prelude.{All, not}
use Rattle.abi_calc.proofs.CoroutineLemmas.Lists.{own_kept, own_left}
use Rattle.abi_calc.proofs.coroutine.lists.own_fields.Goals as goal
use Rattle.abi_calc.proofs.coroutine.lists.own_fields.Goals.{then-not-contains+in_ok-_index, else-not-contains}

pub loop-local-preserved : goal.loop-local-preserved
loop-local-preserved g c = elim c.if-not-contains.branch [
  | then-not-contains+in_ok-_index w ↦
      let number = g.LocalIdx.Idx.number in
      let pushed : c.if-not-contains.own ≡ c.loop-local.own ++ w.index-locals-index.result ∷ [] = w.own-is ∙ w.in_ok-_index.ensures.ok in
      let more = length-append c.loop-local.own (w.index-locals-index.result ∷ []) in
      let same : w.index.result ≡ number c.local-item.result = w.index.ensures.place in
      let within : number c.local-item.result < length c.args.locals.now
      = subst (λ l. number l < length c.args.locals.now) (sym c.local-item.is) (subst (All (λ l. number l < length c.args.locals.now)) (sym (c.as_raw-local-items.ensures.items ∙ c.as_slice.ensures)) c.requires.within c.loop-local.local-index c.local-item.result c.loop-local-test.true) in
      record {
        all = pushed ∙ ap (λ xs. xs ++ w.index-locals-index.result ∷ []) c.loop-local.invariant.all
            ∙ sym (own_kept number c.args.locals.now c.args.promoted.now c.as_raw-local-items.result.now c.loop-local.local-index c.local-item.result w.index-locals-index.result c.loop-local-test.true c.local-item.is
            within (subst (λ n. w.index-locals-index.result ≡ get_or c.args.locals.now n w.index-locals-index.result) same w.index-locals-index.is) (ap not (sym w.if-not-contains.ensures)));
        room = omega (arith, c.loop-local.invariant.room, more, ap length pushed);
      }
  | else-not-contains w ↦ record {
    all = w.own-is ∙ c.loop-local.invariant.all
        ∙ sym (own_left g.LocalIdx.Idx.number c.args.locals.now c.args.promoted.now c.as_raw-local-items.result.now c.loop-local.local-index c.local-item.result c.loop-local-test.true c.local-item.is (ap not (sym w.if-not-contains.ensures)));
    room = omega (arith, c.loop-local.invariant.room, ap length w.own-is);
  }
]
