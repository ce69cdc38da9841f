use Rattle.std.proofs.Common.{◌+◌, ◌≤◌, length, refl, inr}
use Rattle.abi_index.specs.Slice.{items_of}
use Rattle.abi_univariant.proofs.Promised.LeastLemmas.{answer_large, answer_refused, ascends, first_never, has_greatest_niche, has_least, has_own_niche, has_places, keeps_apart, lies_after, lies_aligned, lies_in_order, listed_err, listed_ok, sized_error, sums_up}
use Rattle.abi_calc.proofs.Seen.{list_marks, list_viewed}
use Rattle.abi_calc.proofs.calculator.LayoutCalculator.layout_of_univariant.Goals as goal

pub layout_of_fields-requires-clause-fields : goal.layout_of_fields-requires-clause-fields
layout_of_fields-requires-clause-fields g c = rw c.data_layout.ensures c.requires.fields

pub returns : goal.returns
returns g c =
    let lo = g.F.LayoutHandle.layout_of in
    let at = g.FieldIdx.Idx.at in
    let first = g.VariantIdx.Idx.at 0 in
    let dl = g.Cx.HasDataLayout.target c.args.self.now.cx in
    let repr = c.args.repr.now in
    let kind = c.args.kind in
    let hs = items_of c.args.fields in
    let tail = c.requires.tail in
    let few : length hs ≤ g.FieldIdx.Idx.MAX_INDEX + 1 = c.layout_of_fields.ensures.within in
    let exact = rw c.data_layout.ensures at c.layout_of_fields.ensures.exact in
    record {
      exact = exact;
      lawful = rw c.data_layout.ensures at c.layout_of_fields.ensures.lawful;
      good = listed_ok lo _ _ _ repr kind _ _ (λ order offsets l r. record {
        apart = keeps_apart lo at first dl repr kind hs order offsets l tail r;
        after = lies_after lo at first dl repr kind hs order offsets l tail r;
        aligned = lies_aligned lo at first dl repr kind hs order offsets l tail r;
        niche = has_own_niche lo at first dl repr kind hs order offsets l tail r;
        largest = has_greatest_niche lo at first dl repr kind hs order offsets l c.requires.fields tail r;
        single = r.variants;
        view = list_viewed lo at first dl repr kind hs order offsets l r;
        marks = list_marks lo at first dl repr kind hs order offsets l r;
        places = has_places lo at first dl repr kind hs order offsets l tail r;
        ascending = ascends lo at first dl repr kind hs g.FieldIdx.Idx.number _ g.met.FieldIdx.Idx.number_at few order offsets l tail r;
      }) c.layout_of_fields.result exact;
      placed = listed_ok lo _ _ _ repr kind _ _ (λ order offsets l r. lies_in_order lo at first dl repr kind hs order offsets l tail r) c.layout_of_fields.result exact;
      least = listed_ok lo _ _ _ repr kind _ _ (λ order offsets l r. has_least lo at first dl repr kind hs order offsets l c.requires.fields tail r) c.layout_of_fields.result exact;
      sum = λ free sized. listed_ok lo _ _ _ repr kind _ _ (λ order offsets l r. sums_up lo at first dl repr kind hs order offsets l c.requires.fields free sized r) c.layout_of_fields.result exact;
      too_large = answer_large lo _ _ _ repr kind _ c.layout_of_fields.result c.requires.fields tail exact;
      refused = answer_refused lo _ _ _ repr kind _ c.layout_of_fields.result tail exact;
      no_other = λ sized. listed_err lo _ _ _ repr kind _ _ (λ e r. sized_error lo at first dl repr kind hs e sized tail r) (inr refl) c.layout_of_fields.result exact;
      second = λ clear. listed_err lo _ _ _ repr kind _ _ (λ e r. first_never lo at first dl repr kind hs e clear r) refl c.layout_of_fields.result exact;
    }
