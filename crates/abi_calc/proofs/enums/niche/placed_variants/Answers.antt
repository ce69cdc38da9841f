-- Each list's variant takes its place, if there is room for it.
use Rattle.std.proofs.Common.{◌≡◌, ◌≤◌, ◌<◌, ◌∙◌, ap, arith, length, subst, sym, take}
use Rattle.std.specs.Prelude.{◌==◌, All, Some}
use Rattle.std.proofs.lemmas.Iterator.Adapters.{option_map_id}
use Rattle.std.proofs.lemmas.List.{length-map, length-set}
use Rattle.abi_scalar.specs.Variant.{variant_of}
use Rattle.abi_calc.specs.Enums.Niche.{variants_from}
use Rattle.abi_calc.proofs.AtIndex.{same_there, written_back}
use Rattle.abi_calc.proofs.EnumLemmas.Niche.{list_behind, lists_behind, place_last, place_none, place_step, placed_next, told_of_list}
use Rattle.abi_calc.proofs.enums.niche.placed_variants.Goals as goal

pub loop-at-init : goal.loop-at-init
loop-at-init g c = record {
  all = option_map_id (variants_from c.args.room.now c.args.untagged 0 c.args.lists);
  left = c.deref_mut-variant-items.ensures.value ∙ c.into_parts-variants.ensures.variants;
  count = ap length (c.deref_mut-variant-items.ensures.value ∙ c.into_parts-variants.ensures.variants) ∙ length-map c.args.lists variant_of;
}

pub index-requires : goal.index-requires
index-requires g c =
    let many = ap length c.into_parts-variants.ensures.aligns in
    omega (arith, c.loop-at-test.true, c.loop-at.auto.variant-items, c.loop-at.invariant.count, many, length-map c.into_parts-variants.result.1.items (λ r. r.align), length-map c.args.lists (λ l. l.align.abi))

pub place_at-requires-clause-align : goal.place_at-requires-clause-align
place_at-requires-clause-align g c =
    let within : c.loop-at.at < length c.args.lists = omega (arith, c.loop-at-test.true, c.loop-at.auto.variant-items, c.loop-at.invariant.count) in
    let here = list_behind c.loop-at.variant-items c.args.lists c.loop-at.at c.variant-item.result (omega (arith, c.loop-at-test.true, c.loop-at.auto.variant-items)) c.loop-at.invariant.left in
    let small = c.requires.small c.loop-at.at here.0 within in
    let many = ap length c.into_parts-variants.ensures.aligns in
    let beside : c.loop-at.at < length c.into_parts-variants.result.1.items = omega (arith, within, many, length-map c.into_parts-variants.result.1.items (λ r. r.align), length-map c.args.lists (λ l. l.align.abi)) in
    let align : c.align.result ≡ here.0.align.abi = c.align.ensures ∙ same_there (λ r. r.align) (λ l. l.align.abi) c.into_parts-variants.result.1.items c.args.lists c.loop-at.at c.index.result.now here.0 c.into_parts-variants.ensures.aligns beside within c.index.ensures here.1 in
    omega (arith, align, ap (λ l. l.align.abi) here.1, small.align)

pub place_at-requires-clause-small : goal.place_at-requires-clause-small
place_at-requires-clause-small g c =
    let within : c.loop-at.at < length c.args.lists = omega (arith, c.loop-at-test.true, c.loop-at.auto.variant-items, c.loop-at.invariant.count) in
    let here = list_behind c.loop-at.variant-items c.args.lists c.loop-at.at c.variant-item.result (omega (arith, c.loop-at-test.true, c.loop-at.auto.variant-items)) c.loop-at.invariant.left in
    let small = c.requires.small c.loop-at.at here.0 within in
    omega (arith, ap (λ v. v.size) here.2, ap (λ l. l.size) here.1, small.size)

pub place_at-requires-clause-inside : goal.place_at-requires-clause-inside
place_at-requires-clause-inside g c =
    let within : c.loop-at.at < length c.args.lists = omega (arith, c.loop-at-test.true, c.loop-at.auto.variant-items, c.loop-at.invariant.count) in
    let here = list_behind c.loop-at.variant-items c.args.lists c.loop-at.at c.variant-item.result (omega (arith, c.loop-at-test.true, c.loop-at.auto.variant-items)) c.loop-at.invariant.left in
    let small = c.requires.small c.loop-at.at here.0 within in
    subst (λ v. All (λ o. o ≤ v.size) v.field_offsets) (sym (here.2 ∙ ap variant_of here.1)) small.inside

pub returns-then-not-branch : goal.returns-then-not-branch
returns-then-not-branch g c =
    let within : c.loop-at.at < length c.args.lists = omega (arith, c.loop-at-test.true, c.loop-at.auto.variant-items, c.loop-at.invariant.count) in
    let here = list_behind c.loop-at.variant-items c.args.lists c.loop-at.at c.variant-item.result (omega (arith, c.loop-at-test.true, c.loop-at.auto.variant-items)) c.loop-at.invariant.left in
    let many = ap length c.into_parts-variants.ensures.aligns in
    let beside : c.loop-at.at < length c.into_parts-variants.result.1.items = omega (arith, within, many, length-map c.into_parts-variants.result.1.items (λ r. r.align), length-map c.args.lists (λ l. l.align.abi)) in
    let align : c.align.result ≡ here.0.align.abi = c.align.ensures ∙ same_there (λ r. r.align) (λ l. l.align.abi) c.into_parts-variants.result.1.items c.args.lists c.loop-at.at c.index.result.now here.0 c.into_parts-variants.ensures.aligns beside within c.index.ensures here.1 in
    let tag_distinguishes = told_of_list c.args.room.now (c.loop-at.at == c.args.untagged) c.align.result _ c.place_at.new.variant here.0 c.in_ok-place_at.field-0 here.2 align c.in_ok-place_at.ensures in
    let next = placed_next c.args.room.now c.args.untagged c.loop-at.at (take c.loop-at.at c.loop-at.variant-items) c.args.lists here.0 _ within here.1 c.loop-at.invariant.all in
    place_none (take c.loop-at.at c.loop-at.variant-items) c.place_at.new.variant _ _ _ c.in_ok-place_at.field-0 tag_distinguishes c.if-not-branch.true next

pub loop-at-preserved : goal.loop-at-preserved
loop-at-preserved g c =
    let within : c.loop-at.at < length c.args.lists = omega (arith, c.loop-at-test.true, c.loop-at.auto.variant-items, c.loop-at.invariant.count) in
    let here = list_behind c.loop-at.variant-items c.args.lists c.loop-at.at c.variant-item.result (omega (arith, c.loop-at-test.true, c.loop-at.auto.variant-items)) c.loop-at.invariant.left in
    let many = ap length c.into_parts-variants.ensures.aligns in
    let beside : c.loop-at.at < length c.into_parts-variants.result.1.items = omega (arith, within, many, length-map c.into_parts-variants.result.1.items (λ r. r.align), length-map c.args.lists (λ l. l.align.abi)) in
    let align : c.align.result ≡ here.0.align.abi = c.align.ensures ∙ same_there (λ r. r.align) (λ l. l.align.abi) c.into_parts-variants.result.1.items c.args.lists c.loop-at.at c.index.result.now here.0 c.into_parts-variants.ensures.aligns beside within c.index.ensures here.1 in
    let tag_distinguishes = told_of_list c.args.room.now (c.loop-at.at == c.args.untagged) c.align.result _ c.place_at.new.variant here.0 c.in_ok-place_at.field-0 here.2 align c.in_ok-place_at.ensures in
    let next = placed_next c.args.room.now c.args.untagged c.loop-at.at (take c.loop-at.at c.loop-at.variant-items) c.args.lists here.0 _ within here.1 c.loop-at.invariant.all in
    record {
      all = place_step c.loop-at.variant-items c.loop-at.at c.place_at.new.variant _ _ _ c.in_ok-place_at.field-0 (omega (arith, c.loop-at-test.true, c.loop-at.auto.variant-items)) tag_distinguishes c.if-not-branch.false next;
      left = lists_behind c.loop-at.variant-items c.args.lists c.loop-at.at c.place_at.new.variant c.loop-at.invariant.left;
      count = length-set c.loop-at.variant-items c.loop-at.at c.place_at.new.variant ∙ c.loop-at.invariant.count;
    }

pub returns : goal.returns
returns g c =
    let long : length c.loop-at.variant-items ≡ c.into_parts-variants.result.0.len = omega (arith, c.loop-at.auto.variant-items, ap length c.deref_mut-variant-items.ensures.value) in
    ap (λ vs. Some vs) (c.from_raw.ensures ∙ written_back c.loop-at.variant-items _ c.into_parts-variants.result.0.len long)
    ∙ place_last c.args.room.now c.args.untagged c.loop-at.at c.loop-at.variant-items c.args.lists _ (omega (arith, c.loop-at-test.false, c.loop-at.auto.variant-items, c.loop-at.invariant.count)) (omega (arith, c.loop-at-test.false, c.loop-at.auto.variant-items)) c.loop-at.invariant.all
