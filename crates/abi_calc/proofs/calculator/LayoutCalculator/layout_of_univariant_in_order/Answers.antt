use Rattle.std.proofs.Common.{◌+◌, ◌≤◌, length}
use Rattle.abi_index.specs.Slice.{items_of}
use Rattle.abi_univariant.proofs.Promised.InOrderLemmas.{handed_after, handed_aligned, handed_apart, handed_ascends, handed_bad, handed_large, handed_largest, handed_lies, handed_niche, handed_no_other, handed_ok, handed_places, handed_refused, handed_told}
use Rattle.abi_calc.proofs.Handed.{free_of_random, handed_marks, handed_viewed}
use Rattle.abi_calc.proofs.calculator.LayoutCalculator.layout_of_univariant_in_order.Goals as goal

pub layout_of_fields_in_order-requires-clause-fields : goal.layout_of_fields_in_order-requires-clause-fields
layout_of_fields_in_order-requires-clause-fields g c = rw c.data_layout.ensures c.requires.fields

pub layout_of_fields_in_order-requires-clause-free : goal.layout_of_fields_in_order-requires-clause-free
layout_of_fields_in_order-requires-clause-free g c = free_of_random c.args.repr.now c.requires.random

pub returns : goal.returns
returns g c =
    let lo = g.F.LayoutHandle.layout_of in
    let repr = c.args.repr.now in
    let kind = c.args.kind in
    let number = g.FieldIdx.Idx.number in
    let few : length (items_of c.args.fields) ≤ g.FieldIdx.Idx.MAX_INDEX + 1 = c.layout_of_fields_in_order.ensures.within in
    let answer = c.layout_of_fields_in_order.result in
    let exact = rw c.data_layout.ensures at c.layout_of_fields_in_order.ensures.exact in
    record {
      exact = exact;
      lawful = rw c.data_layout.ensures at c.layout_of_fields_in_order.ensures.lawful;
      good = handed_ok lo _ _ _ repr kind _ _ _ (λ offsets l r. record {
        apart = handed_apart lo _ _ _ repr kind _ _ offsets l r;
        after = handed_after lo _ _ _ repr kind _ _ offsets l r;
        aligned = handed_aligned lo _ _ _ repr kind _ _ offsets l r;
        niche = handed_niche lo _ _ _ repr kind _ _ offsets l r;
        largest = handed_largest lo _ _ _ repr kind _ _ offsets l c.requires.fields r;
        single = r.variants;
        view = handed_viewed lo _ _ _ repr kind _ _ offsets l r;
        marks = handed_marks lo _ _ _ repr kind _ _ offsets l r;
        places = handed_places lo _ _ _ repr kind _ _ offsets l r;
        ascending = handed_ascends lo _ _ _ repr kind _ _ number _ g.met.FieldIdx.Idx.number_at few offsets l r;
      }) answer exact;
      placed = handed_ok lo _ _ _ repr kind _ _ _ (λ offsets l r. handed_lies lo _ number _ _ repr kind _ _ _ g.met.FieldIdx.Idx.at_number few offsets l r) answer exact;
      bad_order = handed_bad lo _ _ _ repr kind _ _ answer exact;
      bad_order_reported = handed_told lo _ _ _ repr kind _ _ answer exact;
      too_large = handed_large lo _ _ _ repr kind _ _ answer exact;
      refused = handed_refused lo _ _ _ repr kind _ _ answer exact;
      no_other = handed_no_other lo _ _ _ repr kind _ _ answer exact;
    }
