use Rattle.std.proofs.Common.{◌<◌, ap, arith, get_or, length, map, ◌∙◌}
use Rattle.std.proofs.lemmas.List.{length-map}
use Rattle.std.proofs.lemmas.List.FromFn.{get_or-map-range_with_len}
use Rattle.abi_calc.specs.Coroutine.Promotion.{holder_of}
use Rattle.abi_calc.proofs.CoroutineLemmas.Holders.{numbers_there, several_all, several_step}
use Rattle.abi_calc.proofs.coroutine.promotion.held_by_several.Goals as goal

pub loop-place-preserved : goal.loop-place-preserved
loop-place-preserved g c =
    let states = map (map g.LocalIdx.Idx.number) c.args.states.now in
    let within : c.loop-place.place < length (map (map g.LocalIdx.Idx.number) c.args.states.now) = omega (arith, length-map c.args.states.now (map g.LocalIdx.Idx.number)) in
    record {
      size = omega arith;
      members = λ k short. several_step states (map g.LocalIdx.Idx.number c.as_raw.result.now) c.loop-place.place k (get_or c.args.holders.now k 0) _ _ within
          (numbers_there g.LocalIdx.Idx.number c.args.states.now c.loop-place.place c.index-states-place.result c.as_raw.result.now c.loop-place-test.true c.index-states-place.is (c.as_raw.ensures.items ∙ c.as_slice.ensures))
          (ap (λ hs. get_or hs k 0) c.requires.holders ∙ get_or-map-range_with_len (holder_of states) 0 (length c.args.holders.now) k k 0 short (omega arith))
          (c.loop-place.invariant.members k short) (c.insert_later.ensures.members k);
    }

pub returns : goal.returns
returns g c =
    several_all (map (map g.LocalIdx.Idx.number) c.args.states.now) c.loop-place.several (length c.args.holders.now) c.loop-place.place
    (omega (arith, c.loop-place-test.false, length-map c.args.states.now (map g.LocalIdx.Idx.number))) c.loop-place.invariant.size c.loop-place.invariant.members
