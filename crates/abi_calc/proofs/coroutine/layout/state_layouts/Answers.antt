-- Each list is that of the state in its place.
use Rattle.std.proofs.Common.{◌≡◌, ◌≢◌, ◌+◌, ◌<◌, ◌≤◌, ◌++◌, ◌∙◌, ap, append-nil, arith, drop, length, map, refl, rules, subst, sym, take}
use Rattle.std.specs.Prelude.{All, IsPermutation}
use Rattle.std.specs.List.{AllPairs}
use Rattle.std.proofs.lemmas.List.{drop_all, length-map, length-set, take_all, take_more_set, take_rest}
use Rattle.abi_index.specs.BitSet.{members_of}
use Rattle.abi_univariant.specs.Placement.{source_order}
use Rattle.abi_scalar.specs.Shape.{listed_offsets}
use Rattle.abi_scalar.specs.Variant.{variant_of}
use Rattle.abi_calc.specs.Coroutine.Lists.{own_of}
use Rattle.abi_calc.specs.Coroutine.States.{HasFields, rank_of, ranks_of, state_layout, state_layouts, stitched}
use Rattle.abi_calc.proofs.AtIndex.{written_back}
use Rattle.abi_calc.proofs.CoroutineLemmas.Layout.{layouts_next, layouts_none, ranks_count, ranks_within, shared_count, zip_count, zip_there}
use Rattle.abi_calc.proofs.CoroutineLemmas.States.{item_in}
use Rattle.abi_calc.proofs.EnumLemmas.Niche.{list_behind, lists_behind}
use Rattle.abi_calc.proofs.coroutine.layout.state_layouts.Goals as goal

pub loop-at-init : goal.loop-at-init
loop-at-init g c = record {
  all = refl;
  left = c.deref_mut-variant-items.ensures.value ∙ c.into_parts-variants.ensures.variants;
  count = ap length (c.deref_mut-variant-items.ensures.value ∙ c.into_parts-variants.ensures.variants) ∙ length-map c.args.lists variant_of;
}

pub bounds-states-at : goal.bounds-states-at
bounds-states-at g c =
    let short : c.loop-at.at < length c.args.saved.states.now = omega (arith, zip_count (λ state list. HasFields g.FieldIdx.Idx.number (length (own_of c.args.saved.promoted.now (map g.LocalIdx.Idx.number state))) list) c.args.saved.states.now c.args.lists c.requires.lists, c.loop-at-test.true, c.loop-at.auto.variant-items, c.loop-at.invariant.count) in
    short

pub offset_bounds-states-at : goal.offset_bounds-states-at
offset_bounds-states-at g c =
    let short : c.loop-at.at < length c.args.saved.states.now = omega (arith, zip_count (λ state list. HasFields g.FieldIdx.Idx.number (length (own_of c.args.saved.promoted.now (map g.LocalIdx.Idx.number state))) list) c.args.saved.states.now c.args.lists c.requires.lists, c.loop-at-test.true, c.loop-at.auto.variant-items, c.loop-at.invariant.count) in
    search rules

pub place_state-requires-clause-placed : goal.place_state-requires-clause-placed
place_state-requires-clause-placed g c = record {
  below_each = c.deref.ensures.value ∙ c.in_ok-below.ensures ∙ ap (λ n. map (rank_of c.args.saved.promoted.now) (source_order n)) c.requires.count;
  offset_each = ap length (take_rest c.offsets.result.now c.args.before ∙ ap (drop c.args.before) c.offsets.ensures) ∙ shared_count c.args.before (length (members_of c.args.saved.promoted.now)) (listed_offsets c.args.first.now.fields) c.requires.first.offsets;
  rank_each = ap length (c.deref-2.ensures.value ∙ c.in_ok-ranks.ensures ∙ ap (ranks_of g.FieldIdx.Idx.number c.args.before) c.in_memory_order.ensures.order) ∙ ranks_count g.FieldIdx.Idx.number c.args.before (length (members_of c.args.saved.promoted.now)) c.args.first.now c.requires.first;
  within = subst (All (λ rank. rank < length (members_of c.args.saved.promoted.now))) (sym (c.deref-2.ensures.value ∙ c.in_ok-ranks.ensures ∙ ap (ranks_of g.FieldIdx.Idx.number c.args.before) c.in_memory_order.ensures.order))
      (ranks_within g.FieldIdx.Idx.number c.args.before (length (members_of c.args.saved.promoted.now)) c.args.first.now c.requires.first);
}

pub place_state-requires-clause-within : goal.place_state-requires-clause-within
place_state-requires-clause-within g c =
    let short : c.loop-at.at < length c.args.saved.states.now = omega (arith, zip_count (λ state list. HasFields g.FieldIdx.Idx.number (length (own_of c.args.saved.promoted.now (map g.LocalIdx.Idx.number state))) list) c.args.saved.states.now c.args.lists c.requires.lists, c.loop-at-test.true, c.loop-at.auto.variant-items, c.loop-at.invariant.count) in
    subst (λ n. All (λ l. g.LocalIdx.Idx.number l < n) c.index-states-at.result) c.requires.count
    (item_in (All (λ l. g.LocalIdx.Idx.number l < c.args.saved.count)) c.args.saved.states.now c.loop-at.at c.index-states-at.result c.requires.within short c.index-states-at.is)

pub place_state-requires-clause-once : goal.place_state-requires-clause-once
place_state-requires-clause-once g c =
    let short : c.loop-at.at < length c.args.saved.states.now = omega (arith, zip_count (λ state list. HasFields g.FieldIdx.Idx.number (length (own_of c.args.saved.promoted.now (map g.LocalIdx.Idx.number state))) list) c.args.saved.states.now c.args.lists c.requires.lists, c.loop-at-test.true, c.loop-at.auto.variant-items, c.loop-at.invariant.count) in
    item_in (λ state. AllPairs (λ a b. a ≢ b) (map g.LocalIdx.Idx.number state)) c.args.saved.states.now c.loop-at.at c.index-states-at.result c.requires.once short c.index-states-at.is

pub place_state-requires-clause-offsets : goal.place_state-requires-clause-offsets
place_state-requires-clause-offsets g c =
    let within : c.loop-at.at < length c.args.lists = omega (arith, c.loop-at-test.true, c.loop-at.auto.variant-items, c.loop-at.invariant.count) in
    let here = list_behind c.loop-at.variant-items c.args.lists c.loop-at.at c.variant-item.result (omega (arith, c.loop-at-test.true, c.loop-at.auto.variant-items)) c.loop-at.invariant.left in
    let has = zip_there (λ state list. HasFields g.FieldIdx.Idx.number (length (own_of c.args.saved.promoted.now (map g.LocalIdx.Idx.number state))) list) c.args.saved.states.now c.args.lists c.loop-at.at c.index-states-at.result here.0 within c.index-states-at.is here.1 c.requires.lists in
    ap (λ v. length v.field_offsets) here.2 ∙ has.offsets

pub place_state-requires-clause-order : goal.place_state-requires-clause-order
place_state-requires-clause-order g c =
    let within : c.loop-at.at < length c.args.lists = omega (arith, c.loop-at-test.true, c.loop-at.auto.variant-items, c.loop-at.invariant.count) in
    let here = list_behind c.loop-at.variant-items c.args.lists c.loop-at.at c.variant-item.result (omega (arith, c.loop-at-test.true, c.loop-at.auto.variant-items)) c.loop-at.invariant.left in
    let has = zip_there (λ state list. HasFields g.FieldIdx.Idx.number (length (own_of c.args.saved.promoted.now (map g.LocalIdx.Idx.number state))) list) c.args.saved.states.now c.args.lists c.loop-at.at c.index-states-at.result here.0 within c.index-states-at.is here.1 c.requires.lists in
    subst (λ v. IsPermutation (source_order (length (own_of c.args.saved.promoted.now (map g.LocalIdx.Idx.number c.index-states-at.result)))) (map g.FieldIdx.Idx.number v.fields_in_memory_order)) (sym here.2) has.order

pub loop-at-preserved : goal.loop-at-preserved
loop-at-preserved g c =
    let within : c.loop-at.at < length c.args.lists = omega (arith, c.loop-at-test.true, c.loop-at.auto.variant-items, c.loop-at.invariant.count) in
    let short : c.loop-at.at < length c.args.saved.states.now = omega (arith, zip_count (λ state list. HasFields g.FieldIdx.Idx.number (length (own_of c.args.saved.promoted.now (map g.LocalIdx.Idx.number state))) list) c.args.saved.states.now c.args.lists c.requires.lists, c.loop-at-test.true, c.loop-at.auto.variant-items, c.loop-at.invariant.count) in
    let here = list_behind c.loop-at.variant-items c.args.lists c.loop-at.at c.variant-item.result (omega (arith, c.loop-at-test.true, c.loop-at.auto.variant-items)) c.loop-at.invariant.left in
    let state = map g.LocalIdx.Idx.number c.index-states-at.result in
    let made = c.place_state.new.variant in
    let laid : made ≡ state_layout g.FieldIdx.Idx.at g.FieldIdx.Idx.number c.args.before c.args.saved.promoted.now c.args.first.now state here.0
    = c.in_ok-place_state.ensures ∙ (λ i. stitched g.FieldIdx.Idx.at g.FieldIdx.Idx.number c.args.saved.promoted.now ((take_rest c.offsets.result.now c.args.before ∙ ap (drop c.args.before) c.offsets.ensures) i) ((c.deref-2.ensures.value ∙ c.in_ok-ranks.ensures ∙ ap (ranks_of g.FieldIdx.Idx.number c.args.before) c.in_memory_order.ensures.order) i) state (here.2 i)) in
    let next = layouts_next g.FieldIdx.Idx.at g.FieldIdx.Idx.number c.args.before c.args.saved.promoted.now c.args.first.now g.LocalIdx.Idx.number (take c.loop-at.at c.loop-at.variant-items) c.loop-at.at c.args.saved.states.now c.index-states-at.result
    c.args.lists here.0 made _ short c.index-states-at.is within here.1 laid c.loop-at.invariant.all in
    record {
      all = ap (λ done. done ++ state_layouts g.FieldIdx.Idx.at g.FieldIdx.Idx.number c.args.before c.args.saved.promoted.now c.args.first.now (map (map g.LocalIdx.Idx.number) (drop (c.loop-at.at + 1) c.args.saved.states.now)) (drop (c.loop-at.at + 1) c.args.lists))
          (take_more_set c.loop-at.variant-items c.loop-at.at made (omega (arith, c.loop-at-test.true, c.loop-at.auto.variant-items))) ∙ next;
      left = lists_behind c.loop-at.variant-items c.args.lists c.loop-at.at made c.loop-at.invariant.left;
      count = length-set c.loop-at.variant-items c.loop-at.at made ∙ c.loop-at.invariant.count;
    }

pub from_raw-requires : goal.from_raw-requires
from_raw-requires g c =
    let items = c.loop-at.variant-items in
    let long : length items ≡ c.into_parts-variants.result.0.len = omega (arith, c.loop-at.auto.variant-items, ap length c.deref_mut-variant-items.ensures.value) in
    subst (λ xs. length xs ≤ g.VariantIdx.Idx.MAX_INDEX + 1) (sym (written_back items _ c.into_parts-variants.result.0.len long))
    (omega (arith, c.loop-at.invariant.count, zip_count (λ state list. HasFields g.FieldIdx.Idx.number (length (own_of c.args.saved.promoted.now (map g.LocalIdx.Idx.number state))) list) c.args.saved.states.now c.args.lists c.requires.lists, c.requires.few))

pub returns : goal.returns
returns g c =
    let items = c.loop-at.variant-items in
    let states = map (map g.LocalIdx.Idx.number) (drop c.loop-at.at c.args.saved.states.now) in
    let long : length items ≡ c.into_parts-variants.result.0.len = omega (arith, c.loop-at.auto.variant-items, ap length c.deref_mut-variant-items.ensures.value) in
    let none = drop_all c.loop-at.at c.args.lists (omega (arith, c.loop-at-test.false, c.loop-at.auto.variant-items, c.loop-at.invariant.count)) in
    c.from_raw.ensures ∙ written_back items _ c.into_parts-variants.result.0.len long
    ∙ sym (ap (λ ls. take c.loop-at.at items ++ state_layouts g.FieldIdx.Idx.at g.FieldIdx.Idx.number c.args.before c.args.saved.promoted.now c.args.first.now states ls) none
    ∙ ap (λ more. take c.loop-at.at items ++ more) (layouts_none g.FieldIdx.Idx.at g.FieldIdx.Idx.number c.args.before c.args.saved.promoted.now c.args.first.now g.LocalIdx.Idx.number states)
    ∙ append-nil (take c.loop-at.at items) ∙ take_all c.loop-at.at items (omega (arith, c.loop-at-test.false, c.loop-at.auto.variant-items))) ∙ c.loop-at.invariant.all
