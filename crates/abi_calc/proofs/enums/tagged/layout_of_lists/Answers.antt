-- The parts of the layout are the ones that are named.
use Rattle.std.proofs.Common.{◌≡◌, ◌∙◌, ◌<◌, ap, inl, map, refl, subst, sym}
use Rattle.abi_base.specs.DataLayout.{size_bound}
use Rattle.abi_base.specs.Integer.{integer_size}
use Rattle.abi_base.specs.declared.primitive.Primitive.TheVariants.{Int}
use Rattle.abi_scalar.specs.declared.scalar.Scalar.{Scalar}
use Rattle.abi_scalar.specs.declared.scalar.Scalar.TheVariants.{Initialized}
use Rattle.abi_calc.specs.Enums.Discriminants.{IsTagRange}
use Rattle.abi_calc.specs.Enums.Growth.{grown_tag, start_align}
use Rattle.abi_calc.specs.Enums.Payload.{tagged_view}
use Rattle.abi_calc.specs.Enums.Tagged.{lists_align, lists_size, payloads_of}
use Rattle.abi_calc.proofs.EnumLemmas.Growth.{lists_count}
use Rattle.abi_calc.proofs.EnumLemmas.Tagged.{integer_most, integer_some, tag_lawful, tagged_exact}
use Rattle.abi_calc.proofs.enums.tagged.layout_of_lists.Goals as goal

pub returns-in_default-clause-fault : goal.returns-in_default-clause-fault
returns-in_default-clause-fault g c = inl (c.bounded_size.ensures.none c.in_default.is, refl)

pub tag_range-requires-clause-some : goal.tag_range-requires-clause-some
tag_range-requires-clause-some g c = rw c.size.ensures (integer_some c.grown_tag-integer.result)

pub tag_range-requires-clause-most : goal.tag_range-requires-clause-most
tag_range-requires-clause-most g c = rw c.size.ensures (integer_most c.grown_tag-integer.result)

pub tagged_view-view-requires-clause-tag : goal.tagged_view-view-requires-clause-tag
tagged_view-view-requires-clause-tag g c =
    tag_lawful c.args.dl.now c.grown_tag-integer.result c.args.request.is_signed c.args.request.values.now c.in_ok-range.range
    (subst (λ n. IsTagRange n c.args.request.values.now c.in_ok-range.range) c.size.ensures c.in_ok-range.ensures)

pub layout_with_view-requires-clause-tag : goal.layout_with_view-requires-clause-tag
layout_with_view-requires-clause-tag g c =
    tag_lawful c.args.dl.now c.grown_tag-integer.result c.args.request.is_signed c.args.request.values.now c.in_ok-range.range
    (subst (λ n. IsTagRange n c.args.request.values.now c.in_ok-range.range) c.size.ensures c.in_ok-range.ensures)

pub layout_with_view-requires-clause-count : goal.layout_with_view-requires-clause-count
layout_with_view-requires-clause-count g c = rw (lists_count c.args.variants.now c.args.lists c.requires.lists) c.requires.count

pub returns-in-Ok-clause-exact : goal.returns-in-Ok-clause-exact
returns-in-Ok-clause-exact g c =
    let vs = map (map g.F.LayoutHandle.layout_of) c.args.variants.now in
    let align : c.lists_align-align.result ≡ lists_align c.args.dl.now c.args.lists = c.lists_align-align.ensures in
    let size : c.in-Some.size ≡ lists_size c.args.dl.now c.args.lists = c.in-Some.ensures.some.0 in
    let grown : c.grown_tag-integer.result ≡ grown_tag c.args.dl.now c.args.repr.now c.args.request.integer (start_align g.FieldIdx.Idx.number vs c.args.lists)
    = c.grown_tag-integer.ensures ∙ ap (grown_tag c.args.dl.now c.args.repr.now c.args.request.integer) c.start_align.ensures in
    let tag : Scalar = Initialized (Int c.grown_tag-integer.result c.args.request.is_signed) c.in_ok-range.range in
    record {
      small = subst (λ n. n < size_bound c.args.dl.now) size c.in-Some.ensures.some.1;
      ranged = (
        c.in_ok-range.range,
        subst (λ n. IsTagRange n c.args.request.values.now c.in_ok-range.range) (c.size.ensures ∙ ap integer_size grown) c.in_ok-range.ensures,
        tagged_exact g.FieldIdx.Idx.number (g.FieldIdx.Idx.at 0) c.args.dl.now c.args.repr.now c.args.request.integer c.grown_tag-integer.result c.args.request.is_signed c.in_ok-range.range vs c.args.lists
            c.size-3.result c.in-Some.size c.lists_align-align.result c.tagged_view-view.result c.in-Ok.layout grown c.size-3.ensures size align
            (c.tagged_view-view.ensures
            ∙ ap (λ o. tagged_view c.args.dl.now tag c.in-Some.size c.lists_align-align.result (payloads_of c.args.dl.now o (integer_size c.grown_tag-integer.result) vs c.args.lists)) (c.size-2.ensures ∙ sym c.size-3.ensures))
            c.in-Ok.ensures,
      );
    }
