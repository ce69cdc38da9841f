-- One place more.
use Rattle.std.proofs.Common.{◌≡◌, ◌+◌, ◌<◌, ◌∙◌, Some, ap, arith, length, map, set, subst, sym}
use Rattle.std.specs.Prelude.{All, IfSome, slice_index}
use Rattle.std.proofs.lemmas.List.{length-set}
use Rattle.std.proofs.lemmas.List.Elements.{All-set}
use Rattle.std.proofs.lemmas.List.{length-map}
use Rattle.abi_index.specs.BitSet.{is_member}
use Rattle.abi_calc.specs.Coroutine.States.{rank_of}
use Rattle.abi_calc.proofs.CoroutineLemmas.States.{IsHeldBefore, held_same, held_set, name_at, places_before}
use Rattle.abi_calc.proofs.coroutine.states.held_places.Goals as goal
use Rattle.abi_calc.proofs.coroutine.states.held_places.Goals.{then-contains, else-contains}

pub loop-place-preserved : goal.loop-place-preserved
loop-place-preserved g c =
    let promoted = c.args.promoted.now in
    let named = name_at g.LocalIdx.Idx.number c.args.state.now c.loop-place.place c.index-state-place.result c.loop-place-test.true c.index-state-place.is in
    let low : c.loop-place.place < length (map g.LocalIdx.Idx.number c.args.state.now) = omega (arith, c.loop-place-test.true, length-map c.args.state.now g.LocalIdx.Idx.number) in
    elim c.if-contains.branch [
      | then-contains w ↦
          let place = c.loop-place.place in
          let written : c.if-contains.held.items ≡ set c.loop-place.held.items (rank_of c.args.promoted.now (slice_index (map g.LocalIdx.Idx.number c.args.state.now) c.loop-place.place)) (Some c.loop-place.place)
          = ap (λ v. v.items) w.held-is ∙ ap (λ r. set c.loop-place.held.items r (Some c.loop-place.place)) (w.rank_in.ensures.rank ∙ ap (rank_of c.args.promoted.now) (sym named)) in
          record {
            long = ap length written ∙ length-set c.loop-place.held.items (rank_of c.args.promoted.now (slice_index (map g.LocalIdx.Idx.number c.args.state.now) c.loop-place.place)) (Some c.loop-place.place) ∙ c.loop-place.invariant.long;
            within = subst (All (λ found. IfSome found (λ place. place < length c.args.state.now))) (sym written)
                (All-set (λ found. IfSome found (λ place. place < length c.args.state.now)) c.loop-place.held.items (rank_of c.args.promoted.now (slice_index (map g.LocalIdx.Idx.number c.args.state.now) c.loop-place.place)) (Some c.loop-place.place)
                c.loop-place-test.true c.loop-place.invariant.within);
            all = subst (λ xs. IsHeldBefore c.args.promoted.now (map g.LocalIdx.Idx.number c.args.state.now) xs (c.loop-place.place + 1)) (sym written)
                (held_set c.args.promoted.now (map g.LocalIdx.Idx.number c.args.state.now) c.loop-place.held.items c.loop-place.place low c.requires.once (c.loop-place.invariant.long ∙ c.requires.count)
                (ap (is_member c.args.promoted.now) named ∙ sym w.if-contains.ensures) c.loop-place.invariant.all);
          }
      | else-contains w ↦ record {
        long = ap (λ v. length v.items) w.held-is ∙ c.loop-place.invariant.long;
        within = subst (λ v. All (λ found. IfSome found (λ place. place < length c.args.state.now)) v.items) (sym w.held-is) c.loop-place.invariant.within;
        all = subst (λ v. IsHeldBefore c.args.promoted.now (map g.LocalIdx.Idx.number c.args.state.now) v.items (c.loop-place.place + 1)) (sym w.held-is)
            (held_same c.args.promoted.now (map g.LocalIdx.Idx.number c.args.state.now) c.loop-place.held.items c.loop-place.place (ap (is_member c.args.promoted.now) named ∙ sym w.if-contains.ensures) c.loop-place.invariant.all);
      }
    ]

pub returns-clause-held : goal.returns-clause-held
returns-clause-held g c rank low =
    let whole : c.loop-place.place ≡ length (map g.LocalIdx.Idx.number c.args.state.now) = omega (arith, c.loop-place.auto, c.loop-place-test.false, length-map c.args.state.now g.LocalIdx.Idx.number) in
    c.loop-place.invariant.all rank (omega (arith, low, c.requires.count)) ∙ ap (places_before c.args.promoted.now (map g.LocalIdx.Idx.number c.args.state.now) rank) whole
