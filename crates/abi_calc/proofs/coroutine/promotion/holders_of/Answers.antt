use Rattle.std.proofs.Common.{◌≡◌, [], rules, ◌+◌, ◌-◌, ◌≤◌, ap, arith, get_or, length, map, refl, subst, sym, ◌++◌, drop, take, ◌∙◌}
use Rattle.std.proofs.lemmas.List.{drop_all, length-map, take_at}
use Rattle.std.specs.Prelude.{if◌then◌else◌}
use Rattle.abi_index.specs.AscendingList.{has_number}
use Rattle.abi_calc.specs.Coroutine.Promotion.{holder_of}
use Rattle.abi_calc.proofs.CoroutineLemmas.Holders.{first_all, first_step, numbers_there}
use Rattle.abi_calc.proofs.coroutine.promotion.holders_of.Goals as goal

pub loop-place-init : goal.loop-place-init
loop-place-init g c = record {
  within = omega arith;
  size = search rules;
  noted = λ k short.
      let states = map (map g.LocalIdx.Idx.number) c.args.states.now in
      let none : drop (length c.args.states.now) states ≡ [] = drop_all (length c.args.states.now) states (omega (arith, length-map c.args.states.now (map g.LocalIdx.Idx.number))) in
      let noted : get_or c.resize.new.self.items k 0 ≡ length c.args.states.now = c.in_ok-resize.ensures.by_index.1 k 0 refl (omega (arith, c.in_ok-holders.ensures.len)) short in
      rw none (omega (arith, noted));
}

pub loop-place-preserved : goal.loop-place-preserved
loop-place-preserved g c =
    let states = map (map g.LocalIdx.Idx.number) c.args.states.now in
    let within : c.loop-place.place ≤ length (map (map g.LocalIdx.Idx.number) c.args.states.now) = omega (arith, length-map c.args.states.now (map g.LocalIdx.Idx.number)) in
    let long : length c.note_holder.new.holders ≡ c.loop-place.holders.len = omega (arith, c.deref_mut.ensures.len, c.note_holder.auto.holders, c.loop-place.holders.ok) in
    let back : take c.loop-place.holders.len (c.note_holder.new.holders ++ drop (length c.note_holder.new.holders) c.loop-place.holders.items) ≡ c.note_holder.new.holders
    = take_at c.note_holder.new.holders (drop (length c.note_holder.new.holders) c.loop-place.holders.items) c.loop-place.holders.len long in
    record {
      within = omega arith;
      size = ap length back ∙ long ∙ omega (arith, c.loop-place.invariant.size, c.loop-place.holders.ok);
      noted = λ k short.
          let here : get_or c.note_holder.new.holders k 0 ≡ c.loop-place.place - 1 + holder_of (drop (c.loop-place.place - 1) (map (map g.LocalIdx.Idx.number) c.args.states.now)) k
          = first_step states (map g.LocalIdx.Idx.number c.as_raw.result.now) c.loop-place.place k (get_or c.loop-place.holders.items k 0) (get_or c.note_holder.new.holders k 0) c.loop-place-test.true within
          (numbers_there g.LocalIdx.Idx.number c.args.states.now (c.loop-place.place - 1) c.index-states-place.result c.as_raw.result.now (omega arith) c.index-states-place.is (c.as_raw.ensures.items ∙ c.as_slice.ensures))
          (c.loop-place.invariant.noted k short)
          (subst (λ xs. get_or c.note_holder.new.holders k 0 ≡ (if has_number (map g.LocalIdx.Idx.number c.as_raw.result.now) k then c.loop-place.place - 1 else get_or xs k 0)) c.deref_mut.ensures.value
          (c.note_holder.ensures k (omega (arith, short, long, c.note_holder.auto.holders, c.loop-place.invariant.size)))) in
          subst (λ xs. get_or xs k 0 ≡ c.loop-place.place - 1 + holder_of (drop (c.loop-place.place - 1) (map (map g.LocalIdx.Idx.number) c.args.states.now)) k) (sym back) here;
    }

pub returns : goal.returns
returns g c =
    first_all (map (map g.LocalIdx.Idx.number) c.args.states.now) c.loop-place.holders.items c.args.count c.loop-place.place c.loop-place-test.false c.loop-place.invariant.size c.loop-place.invariant.noted
