-- The rank of one local more.
use Rattle.std.proofs.Common.{◌≡◌, ◌+◌, ◌∷◌, ◌++◌, ◌∙◌, [], ap, ap₂, arith, map, sym}
use Rattle.std.proofs.lemmas.List.FromFn.{map-range_with_len_more}
use Rattle.abi_index.specs.BitSet.{is_member}
use Rattle.abi_univariant.specs.Placement.{source_order}
use Rattle.abi_calc.specs.Coroutine.States.{rank_of}
use Rattle.abi_calc.proofs.CoroutineLemmas.States.{rank_more}
use Rattle.abi_calc.proofs.coroutine.states.ranks_below.Goals as goal
use Rattle.abi_calc.proofs.coroutine.states.ranks_below.Goals.{then-contains, else-contains}

pub loop-place-preserved : goal.loop-place-preserved
loop-place-preserved g c =
    let promoted = c.args.promoted.now in
    let place : g.LocalIdx.Idx.number c.new.result ≡ c.loop-place.place = ap g.LocalIdx.Idx.number c.new.ensures ∙ g.met.LocalIdx.Idx.number_at c.loop-place.place (omega (arith, c.requires.named, c.loop-place-test.true)) in
    let all : c.push.new.self.items ≡ map (rank_of c.args.promoted.now) (source_order (c.loop-place.place + 1))
    = c.in_ok-push.ensures.items ∙ ap₂ (λ xs x. xs ++ x ∷ []) c.loop-place.invariant.all c.loop-place.invariant.next ∙ sym (map-range_with_len_more (rank_of c.args.promoted.now) 0 c.loop-place.place c.loop-place.place (omega arith)) in
    elim c.if-contains.branch [
      | then-contains w ↦ record {
        all = all;
        next = omega (arith, w.below-is, c.loop-place.invariant.next, rank_more c.args.promoted.now c.loop-place.place _ (sym (w.if-contains.ensures ∙ ap (is_member c.args.promoted.now) place)));
        room = omega (arith, w.below-is, c.loop-place.invariant.room);
      }
      | else-contains w ↦ record {
        all = all;
        next = omega (arith, w.below-is, c.loop-place.invariant.next, rank_more c.args.promoted.now c.loop-place.place _ (sym (w.if-contains.ensures ∙ ap (is_member c.args.promoted.now) place)));
        room = omega (arith, w.below-is, c.loop-place.invariant.room);
      }
    ]
