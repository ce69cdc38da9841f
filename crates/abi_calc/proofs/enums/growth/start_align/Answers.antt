use Rattle.std.proofs.Common.{◌<◌, length, arith, map, refl, rules, sym, ◌∙◌}
use Rattle.abi_calc.proofs.AtIndex.{found_there, least_within, still_below, still_within}
use Rattle.abi_calc.proofs.EnumLemmas.Growth.{lists_count, start_end, start_most, start_step}
use Rattle.abi_calc.proofs.enums.growth.start_align.Goals as goal

pub loop-index-init : goal.loop-index-init
loop-index-init g c = record {
  within = omega arith;
  least = omega (arith, start_most g.FieldIdx.Idx.number (map (map g.F.LayoutHandle.layout_of) c.args.variants.now) c.args.lists.now);
}

pub bounds-variants-index : goal.bounds-variants-index
bounds-variants-index g c = omega (arith, lists_count c.args.variants.now c.args.lists.now c.requires, c.len-index-end.ensures, c.loop-index-test.true)

pub offset_bounds-variants-index : goal.offset_bounds-variants-index
offset_bounds-variants-index g c =
    let fits : c.loop-index.index < length c.args.variants.now = omega (arith, lists_count c.args.variants.now c.args.lists.now c.requires, c.len-index-end.ensures, c.loop-index-test.true) in
    search rules

pub loop-index-preserved : goal.loop-index-preserved
loop-index-preserved g c =
    let step = start_step g.FieldIdx.Idx.number g.F.LayoutHandle.layout_of c.args.variants.now c.args.lists.now c.loop-index.index c.index-variants-index.result c.at.result c.loop-index.least _ c.requires
    (still_below _ _ _ _ refl c.len-index-end.ensures c.loop-index-test.true) c.index-variants-index.is (found_there c.args.lists.now c.loop-index.index c.at.result c.at.ensures) c.loop-index.invariant.least in
    record {
      within = least_within c.loop-index.least _ _ _ c.least_with-least.ensures c.loop-index.invariant.within;
      least = rw (c.least_with-least.ensures, c.first_align-first.ensures, c.in_memory_order.ensures.places, c.as_raw-fields.ensures.items, c.as_slice.ensures) step;
    }

pub returns : goal.returns
returns g c =
    sym (start_end g.FieldIdx.Idx.number g.F.LayoutHandle.layout_of c.args.variants.now c.args.lists.now c.loop-index.index c.loop-index.least (still_within _ _ _ _ c.len-index-end.ensures refl c.loop-index-test.false) c.loop-index.invariant.within)
    ∙ c.loop-index.invariant.least
