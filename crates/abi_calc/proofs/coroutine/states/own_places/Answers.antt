-- One place more.
use Rattle.std.proofs.Common.{◌≡◌, ◌<◌, ◌∷◌, ◌++◌, ◌∙◌, [], ap, length, map, subst, sym, true, false}
use Rattle.std.specs.Prelude.{All, filter, not, slice_index}
use Rattle.std.specs.List.{range_with_len}
use Rattle.std.proofs.lemmas.List.{append-nil}
use Rattle.std.proofs.lemmas.List.Elements.{All-push}
use Rattle.abi_index.specs.BitSet.{is_member}
use Rattle.abi_calc.proofs.CoroutineLemmas.Lists.{kept_more}
use Rattle.abi_calc.proofs.CoroutineLemmas.States.{name_at}
use Rattle.abi_calc.proofs.coroutine.states.own_places.Goals as goal
use Rattle.abi_calc.proofs.coroutine.states.own_places.Goals.{then-not-contains+in_ok-push, else-not-contains}

pub loop-place-preserved : goal.loop-place-preserved
loop-place-preserved g c =
    let place = c.loop-place.place in
    let named = name_at g.LocalIdx.Idx.number c.args.state.now c.loop-place.place c.index-state-place.result c.loop-place-test.true c.index-state-place.is in
    let test = ap (λ m. not (is_member c.args.promoted.now m)) named in
    elim c.if-not-contains.branch [
      | then-not-contains+in_ok-push w ↦
          let pushed : c.if-not-contains.places.items ≡ c.loop-place.places.items ++ c.loop-place.place ∷ [] = ap (λ v. v.items) w.places-is ∙ w.in_ok-push.ensures.items in
          record {
            all = pushed ∙ ap (λ xs. xs ++ c.loop-place.place ∷ []) c.loop-place.invariant.all
                ∙ sym (kept_more (λ k. not (is_member c.args.promoted.now (slice_index (map g.LocalIdx.Idx.number c.args.state.now) k))) c.loop-place.place true (test ∙ ap not (sym w.if-not-contains.ensures)));
            within = subst (All (λ p. p < length c.args.state.now)) (sym pushed) (All-push (λ p. p < length c.args.state.now) c.loop-place.places.items c.loop-place.place c.loop-place.invariant.within c.loop-place-test.true);
          }
      | else-not-contains w ↦ record {
        all = ap (λ v. v.items) w.places-is ∙ c.loop-place.invariant.all
            ∙ sym (kept_more (λ k. not (is_member c.args.promoted.now (slice_index (map g.LocalIdx.Idx.number c.args.state.now) k))) c.loop-place.place false (test ∙ ap not (sym w.if-not-contains.ensures))
            ∙ append-nil (filter (λ k. not (is_member c.args.promoted.now (slice_index (map g.LocalIdx.Idx.number c.args.state.now) k))) (range_with_len 0 c.loop-place.place)));
        within = subst (All (λ p. p < length c.args.state.now)) (sym (ap (λ v. v.items) w.places-is)) c.loop-place.invariant.within;
      }
    ]
