-- Each step is one of the definition's.
use Rattle.std.proofs.Common.{◌≡◌, ◌∙◌, ◌<◌, ap, arith, length, map, rules}
use Rattle.std.specs.Prelude.{Some, slice_get}
use Rattle.std.proofs.lemmas.List.{length-map}
use Rattle.abi_scalar.specs.Niche.{available_in}
use Rattle.abi_univariant.proofs.Views.Lawful.{bound_small}
use Rattle.abi_univariant.proofs.Views.NicheLemmas.{lawful_readable}
use Rattle.abi_calc.specs.Enums.Niche.{if_placed, needing_numbers, niche_layout, room_beside, span_count, variants_from, untagged_of}
use Rattle.abi_calc.proofs.EnumLemmas.InNiche.{enough, few_of, handed_lawful, known_niche, known_span, much_of, ok_weaker, needing_ascends, needing_within, niche_known, niche_there, no_niche, no_span, span_ascends, span_holds, too_few}
use Rattle.abi_calc.proofs.enums.in_niche.niche_of_lists.Goals as goal

pub returns-in_default : goal.returns-in_default
returns-in_default g c =
    let vs = map (map g.F.LayoutHandle.layout_of) c.args.variants.now in
    let span = known_span vs c.args.lists c.untagged_of-untagged.result c.untagged_of-untagged.ensures c.span_of.result c.span_of.ensures in
    no_span (g.FieldIdx.Idx.at 0) g.VariantIdx.Idx.at c.args.dl.now c.args.repr.now vs c.args.lists (span ∙ c.in_default.is)

pub returns-in_default-niche_at : goal.returns-in_default-niche_at
returns-in_default-niche_at g c =
    let vs = map (map g.F.LayoutHandle.layout_of) c.args.variants.now in
    let span = known_span vs c.args.lists c.untagged_of-untagged.result c.untagged_of-untagged.ensures c.span_of.result c.span_of.ensures in
    let found = known_niche c.args.lists c.untagged_of-untagged.result c.untagged_of-untagged.ensures c.niche_at.result c.niche_at.ensures in
    no_niche (g.FieldIdx.Idx.at 0) g.VariantIdx.Idx.at c.args.dl.now c.args.repr.now vs c.args.lists c.in-Some.span (span ∙ c.in-Some.is) (found ∙ c.in_default-niche_at.is)

pub span_count-requires : goal.span_count-requires
span_count-requires g c =
    let vs = map (map g.F.LayoutHandle.layout_of) c.args.variants.now in
    let span = known_span vs c.args.lists c.untagged_of-untagged.result c.untagged_of-untagged.ensures c.span_of.result c.span_of.ensures in
    span_ascends (needing_numbers (untagged_of c.args.lists) vs) c.in-Some.span (span ∙ c.in-Some.is) (needing_ascends (untagged_of c.args.lists) vs)

pub reserve-requires-clause-readable : goal.reserve-requires-clause-readable
reserve-requires-clause-readable g c =
    let there = niche_there c.args.dl.now c.args.lists (untagged_of c.args.lists) c.in-Some-niche_at.niche c.requires.lawful (known_niche c.args.lists c.untagged_of-untagged.result c.untagged_of-untagged.ensures c.niche_at.result c.niche_at.ensures ∙ c.in-Some-niche_at.is) in
    lawful_readable c.args.dl.now there.0 (Some c.in-Some-niche_at.niche) there.1

pub returns-in_default-reserve : goal.returns-in_default-reserve
returns-in_default-reserve g c =
    let vs = map (map g.F.LayoutHandle.layout_of) c.args.variants.now in
    let span = known_span vs c.args.lists c.untagged_of-untagged.result c.untagged_of-untagged.ensures c.span_of.result c.span_of.ensures in
    let found = known_niche c.args.lists c.untagged_of-untagged.result c.untagged_of-untagged.ensures c.niche_at.result c.niche_at.ensures in
    let known = niche_known (slice_get c.args.lists (untagged_of c.args.lists)) c.in-Some-niche_at.niche (found ∙ c.in-Some-niche_at.is) in
    too_few (g.FieldIdx.Idx.at 0) g.VariantIdx.Idx.at c.args.dl.now c.args.repr.now vs c.args.lists c.in-Some.span known.0 c.in-Some-niche_at.niche (span ∙ c.in-Some.is) known.1 known.2 (few_of c.reserve.result (span_count c.in-Some.span) (available_in c.args.dl.now c.in-Some-niche_at.niche) c.in_default-reserve.is (rw c.span_count.ensures at c.reserve.ensures.room))

pub layout_in_niche-requires : goal.layout_in_niche-requires
layout_in_niche-requires g c =
    let vs = map (map g.F.LayoutHandle.layout_of) c.args.variants.now in
    let span = known_span vs c.args.lists c.untagged_of-untagged.result c.untagged_of-untagged.ensures c.span_of.result c.span_of.ensures in
    let there = niche_there c.args.dl.now c.args.lists (untagged_of c.args.lists) c.in-Some-niche_at.niche c.requires.lawful (known_niche c.args.lists c.untagged_of-untagged.result c.untagged_of-untagged.ensures c.niche_at.result c.niche_at.ensures ∙ c.in-Some-niche_at.is) in
    record {
      data_layout = c.requires.data_layout;
      lawful = c.requires.lawful;
      small = c.requires.small;
      count = c.requires.count;
      untagged = omega (arith, c.untagged_of-untagged.ensures, there.3);
      first =
          let within = (span_holds (λ i. i < length vs) (needing_numbers (untagged_of c.args.lists) vs) c.in-Some.span (span ∙ c.in-Some.is) (needing_within (untagged_of c.args.lists) vs)).0 in
          omega (arith, within, length-map c.args.variants.now (map g.F.LayoutHandle.layout_of), c.requires.each, c.requires.count);
      last =
          let within = (span_holds (λ i. i < length vs) (needing_numbers (untagged_of c.args.lists) vs) c.in-Some.span (span ∙ c.in-Some.is) (needing_within (untagged_of c.args.lists) vs)).1 in
          omega (arith, within, length-map c.args.variants.now (map g.F.LayoutHandle.layout_of), c.requires.each, c.requires.count);
      readable = lawful_readable c.args.dl.now there.0 (Some c.in-Some-niche_at.niche) there.1;
      offset = omega (arith, there.1.inside, there.2, bound_small c.args.dl.now c.requires.data_layout);
      handed = search rules;
      tag = handed_lawful c.args.dl.now c.in-Some-niche_at.niche c.in-Some-reserve.handed c.span_count.result c.in-Some-reserve.ensures.side there.1.pointer c.in-Some-reserve.ensures.set.within;
    }

pub returns : goal.returns
returns g c =
    let vs = map (map g.F.LayoutHandle.layout_of) c.args.variants.now in
    let first = g.FieldIdx.Idx.at 0 in
    let index = g.VariantIdx.Idx.at in
    let untagged : c.untagged_of-untagged.result ≡ untagged_of c.args.lists = c.untagged_of-untagged.ensures in
    let span = known_span vs c.args.lists c.untagged_of-untagged.result c.untagged_of-untagged.ensures c.span_of.result c.span_of.ensures in
    let found = known_niche c.args.lists c.untagged_of-untagged.result c.untagged_of-untagged.ensures c.niche_at.result c.niche_at.ensures in
    let known = niche_known (slice_get c.args.lists (untagged_of c.args.lists)) c.in-Some-niche_at.niche (found ∙ c.in-Some-niche_at.is) in
    let much = much_of c.reserve.result c.in-Some-reserve.handed (span_count c.in-Some.span) (available_in c.args.dl.now c.in-Some-niche_at.niche) c.in-Some-reserve.is (rw c.span_count.ensures at c.reserve.ensures.room) in
    let whole = enough first index c.args.dl.now c.args.repr.now vs c.args.lists c.in-Some.span known.0 c.in-Some-niche_at.niche (span ∙ c.in-Some.is) known.1 known.2 much in
    ok_weaker _ (λ found. found ≡ niche_layout first index c.args.dl.now c.args.repr.now vs c.args.lists) c.layout_in_niche.result
    (λ layout is. is known.0 (ap (slice_get c.args.lists) untagged ∙ known.1)
    ∙ (λ i. if_placed first index c.args.dl.now c.args.repr.now (untagged i) c.in-Some.span c.args.lists known.0 c.in-Some-niche_at.niche (variants_from (room_beside c.args.dl.now c.in-Some-niche_at.niche c.args.lists) (untagged i) 0 c.args.lists)) ∙ whole)
    c.layout_in_niche.ensures
