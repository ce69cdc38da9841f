-- One local more.
use Rattle.std.proofs.Common.{◌+◌, ◌++◌, ◌∷◌, ◌∙◌, [], ap, arith, length, map, sym, take, true, false}
use Rattle.std.specs.Prelude.{not, slice_index}
use Rattle.std.proofs.lemmas.List.{get_or_read, length-append}
use Rattle.abi_calc.proofs.CoroutineLemmas.States.{offset_own, offset_shared, offsets_more, own_count, own_count_most}
use Rattle.abi_calc.proofs.coroutine.states.state_offsets.Goals as goal
use Rattle.abi_calc.proofs.coroutine.states.state_offsets.Goals.{then-contains, else-contains}

pub bounds-own-place : goal.bounds-own-place
bounds-own-place g c =
    let more = own_count g.LocalIdx.Idx.number c.args.promoted.now c.args.state.now c.loop-local.local-index c.local-item.result true c.loop-local-test.true c.local-item.is (ap not (sym c.if-contains.ensures)) in
    let most = own_count_most g.LocalIdx.Idx.number c.args.promoted.now c.args.state.now (c.loop-local.local-index + 1) in
    omega (arith, more, most, c.loop-local.invariant.next, c.requires.own)

pub loop-local-preserved : goal.loop-local-preserved
loop-local-preserved g c =
    let long = length-append c.loop-local.offsets (c.if-contains.offset ∷ []) in
    elim c.if-contains.branch [
      | then-contains w ↦
          let offset = w.offset-is ∙ get_or_read c.args.shared.now w.rank_in.result w.index-shared-rank_in.result (omega (arith, w.rank_in.ensures.within, c.requires.shared)) w.index-shared-rank_in.is 0
          ∙ ap (slice_index c.args.shared.now) w.rank_in.ensures.rank
          ∙ sym (offset_shared c.args.promoted.now c.args.shared.now c.args.own.now (map g.LocalIdx.Idx.number (take c.loop-local.local-index c.args.state.now)) (g.LocalIdx.Idx.number c.local-item.result) (sym w.if-contains.ensures)) in
          let more = own_count g.LocalIdx.Idx.number c.args.promoted.now c.args.state.now c.loop-local.local-index c.local-item.result false c.loop-local-test.true c.local-item.is (ap not (sym w.if-contains.ensures)) in
          record {
            all = c.in_ok-_index.ensures.ok ∙ ap (λ xs. xs ++ c.if-contains.offset ∷ []) c.loop-local.invariant.all
                ∙ sym (offsets_more g.LocalIdx.Idx.number c.args.promoted.now c.args.shared.now c.args.own.now c.args.state.now c.loop-local.local-index c.local-item.result c.if-contains.offset c.loop-local-test.true c.local-item.is offset);
            next = omega (arith, w.next-is, c.loop-local.invariant.next, more);
            few = omega (arith, w.next-is, c.loop-local.invariant.few);
            room = omega (arith, ap length c.in_ok-_index.ensures.ok, long, c.loop-local.invariant.room);
          }
      | else-contains w ↦
          let more = own_count g.LocalIdx.Idx.number c.args.promoted.now c.args.state.now c.loop-local.local-index c.local-item.result true c.loop-local-test.true c.local-item.is (ap not (sym w.if-contains.ensures)) in
          let most = own_count_most g.LocalIdx.Idx.number c.args.promoted.now c.args.state.now (c.loop-local.local-index + 1) in
          let offset = w.offset-is ∙ get_or_read c.args.own.now c.loop-local.next w.index-own-place.result (omega (arith, more, most, c.loop-local.invariant.next, c.requires.own)) w.index-own-place.is 0
          ∙ ap (slice_index c.args.own.now) c.loop-local.invariant.next
          ∙ sym (offset_own c.args.promoted.now c.args.shared.now c.args.own.now (map g.LocalIdx.Idx.number (take c.loop-local.local-index c.args.state.now)) (g.LocalIdx.Idx.number c.local-item.result) (sym w.if-contains.ensures)) in
          record {
            all = c.in_ok-_index.ensures.ok ∙ ap (λ xs. xs ++ c.if-contains.offset ∷ []) c.loop-local.invariant.all
                ∙ sym (offsets_more g.LocalIdx.Idx.number c.args.promoted.now c.args.shared.now c.args.own.now c.args.state.now c.loop-local.local-index c.local-item.result c.if-contains.offset c.loop-local-test.true c.local-item.is offset);
            next = omega (arith, w.next-is, c.loop-local.invariant.next, more);
            few = omega (arith, w.next-is, c.loop-local.invariant.few);
            room = omega (arith, ap length c.in_ok-_index.ensures.ok, long, c.loop-local.invariant.room);
          }
    ]
