-- Where sums tell it, the layout with a tag is the better one.
use Rattle.std.proofs.Common.{◌∙◌, inr, sym}
use Rattle.abi_calc.proofs.EnumLemmas.TagWins.{beside_answer, holds_anyway, refused_answer, tag_answer}
use Rattle.abi_calc.proofs.calculator.LayoutCalculator.layout_tag_first.Goals as goal

pub returns-then-tag_wins-clause-exact : goal.returns-then-tag_wins-clause-exact
returns-then-tag_wins-clause-exact g c =
    let won = rw (c.data_layout.ensures, c.requires.least, c.requires.free) at (sym c.tag_wins.ensures ∙ c.if-tag_wins.true) in
    inr (tag_answer g.F.LayoutHandle.layout_of g.FieldIdx.Idx.at g.VariantIdx.Idx.at (g.Cx.HasDataLayout.target c.args.self.now.cx) c.args.repr.now c.args.variants.now c.requires.data_layout c.requires.fields c.requires.repr
    g.FieldIdx.Idx.number c.args.tag.integer c.args.tag.is_signed c.args.tag.values.now c.requires.unpacked c.in-Ok.tagged won c.in-Ok.ensures.exact)

pub returns-else-tag_wins-clause-exact : goal.returns-else-tag_wins-clause-exact
returns-else-tag_wins-clause-exact g c =
    beside_answer g.F.LayoutHandle.layout_of g.FieldIdx.Idx.at g.VariantIdx.Idx.at (g.Cx.HasDataLayout.target c.args.self.now.cx) c.args.repr.now c.args.variants.now c.requires.data_layout c.requires.fields c.requires.repr
    g.FieldIdx.Idx.number c.args.tag.integer c.args.tag.is_signed c.args.tag.values.now c.in-Ok.tagged c.in-Ok.ensures.exact c.layout_beside_tag.result c.layout_beside_tag.ensures.exact

pub returns-else-tag_wins-clause-within : goal.returns-else-tag_wins-clause-within
returns-else-tag_wins-clause-within g c = holds_anyway _ c.layout_beside_tag.result c.in-Ok.ensures.within

pub returns-in-Err-clause-exact : goal.returns-in-Err-clause-exact
returns-in-Err-clause-exact g c =
    inr (refused_answer g.F.LayoutHandle.layout_of g.FieldIdx.Idx.at g.VariantIdx.Idx.at (g.Cx.HasDataLayout.target c.args.self.now.cx) c.args.repr.now c.args.variants.now c.requires.data_layout c.requires.fields c.requires.repr
    g.FieldIdx.Idx.number c.args.tag.integer c.args.tag.is_signed c.args.tag.values.now c.in-Err.refusal c.in-Err.ensures.exact)
