-- One place more.
use Rattle.std.proofs.Common.{◌≤◌, ◌++◌, ◌∷◌, ◌∙◌, [], None, ap, arith, get_or, length, subst}
use Rattle.std.specs.Prelude.{IfSome, flat_map, slice_index, slice_index_or}
use Rattle.std.specs.Option.{option_to_list}
use Rattle.std.proofs.lemmas.List.{length-append}
use Rattle.abi_calc.proofs.CoroutineLemmas.States.{joined_kept, joined_left, joined_more, none_found}
use Rattle.abi_calc.proofs.coroutine.states.joined_places.Goals as goal
use Rattle.abi_calc.proofs.coroutine.states.joined_places.Goals.{in-Some+in_ok-_place, in_default}

pub new-requires : goal.new-requires
new-requires g c =
    subst (λ found. IfSome found (λ place. place ≤ g.FieldIdx.Idx.MAX_INDEX)) c.in-Some.is
    (c.requires.held (get_or c.args.ranks.now c.loop-rank.rank-index 0) None (c.requires.ranks c.loop-rank.rank-index 0 c.loop-rank-test.true))

pub loop-rank-preserved : goal.loop-rank-preserved
loop-rank-preserved g c = elim c.match-held-rank.branch [
  | in-Some+in_ok-_place w ↦
      let pushed = w.list-is ∙ w.in_ok-_place.ensures.ok ∙ ap (λ x. c.loop-rank.list ++ x ∷ []) w.new.ensures in
      record {
        all = pushed ∙ joined_kept g.FieldIdx.Idx.at c.args.held.now c.args.ranks.now c.loop-rank.list c.loop-rank.rank-index w.in-Some.place c.loop-rank-test.true w.in-Some.is c.loop-rank.invariant.all;
        room = omega (arith, c.loop-rank.invariant.room, ap length pushed, length-append c.loop-rank.list (g.FieldIdx.Idx.at w.in-Some.place ∷ []));
      }
  | in_default w ↦ record {
    all = w.list-is ∙ joined_left g.FieldIdx.Idx.at c.args.held.now c.args.ranks.now c.loop-rank.list c.loop-rank.rank-index c.loop-rank-test.true
        (none_found (get_or c.args.held.now (get_or c.args.ranks.now c.loop-rank.rank-index 0) None) w.in_default.not-Some) c.loop-rank.invariant.all;
    room = omega (arith, c.loop-rank.invariant.room, ap length w.list-is);
  }
]

pub loop-index-preserved : goal.loop-index-preserved
loop-index-preserved g c =
    let pushed = c.in_ok-_place-2.ensures.ok ∙ ap (λ x. c.loop-index.list ++ x ∷ []) (c.new-in-loop-index.ensures ∙ ap (λ n. g.FieldIdx.Idx.at (slice_index c.args.places.now n)) c.index.ensures.place) in
    record {
      all = pushed ∙ joined_more g.FieldIdx.Idx.at g.FieldIdx.Idx.number (flat_map (λ rank. option_to_list (slice_index_or c.args.held.now rank None)) c.args.ranks.now) c.args.places.now c.args.own.now c.loop-index.list c.loop-index.index-index c.index-item.result
          c.loop-index-test.true c.index-item.is c.loop-index.invariant.all;
      room = omega (arith, c.loop-index.invariant.room, ap length c.in_ok-_place-2.ensures.ok, length-append c.loop-index.list (c.new-in-loop-index.result ∷ []));
    }
