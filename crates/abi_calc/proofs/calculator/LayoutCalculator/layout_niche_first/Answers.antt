-- The better of both, where there is one with a niche.
use Rattle.std.proofs.Common.{inr}
use Rattle.abi_calc.proofs.EnumLemmas.TagWins.{alone_answer, holds_anyway, one_answer}
use Rattle.abi_calc.proofs.calculator.LayoutCalculator.layout_niche_first.Goals as goal

pub layout_beside_niche-requires-clause-niche : goal.layout_beside_niche-requires-clause-niche
layout_beside_niche-requires-clause-niche g c = rw c.in-Ok-Some.field-0-is at c.in-Ok-Some.ensures.good

pub layout_beside_niche-requires-clause-within : goal.layout_beside_niche-requires-clause-within
layout_beside_niche-requires-clause-within g c = rw c.in-Ok-Some.field-0-is at c.in-Ok-Some.ensures.within

pub returns-in-Ok-Some : goal.returns-in-Ok-Some
returns-in-Ok-Some g c = record {
  exact = one_answer g.F.LayoutHandle.layout_of g.FieldIdx.Idx.at g.VariantIdx.Idx.at (g.Cx.HasDataLayout.target c.args.self.now.cx) c.args.repr.now c.args.variants.now c.requires.data_layout c.requires.fields c.requires.repr
      g.FieldIdx.Idx.number c.args.tag.integer c.args.tag.is_signed c.args.tag.values.now c.in-Ok-Some.niche (rw c.in-Ok-Some.field-0-is at c.in-Ok-Some.ensures.exact) c.layout_beside_niche.result c.layout_beside_niche.ensures.exact;
  within = holds_anyway _ c.layout_beside_niche.result (rw c.in-Ok-Some.field-0-is at c.in-Ok-Some.ensures.within);
}

pub returns-in-Ok-None : goal.returns-in-Ok-None
returns-in-Ok-None g c = record {
  exact = inr (alone_answer g.F.LayoutHandle.layout_of g.FieldIdx.Idx.at g.VariantIdx.Idx.at (g.Cx.HasDataLayout.target c.args.self.now.cx) c.args.repr.now c.args.variants.now c.requires.data_layout c.requires.fields c.requires.repr
      g.FieldIdx.Idx.number c.args.tag.integer c.args.tag.is_signed c.args.tag.values.now (rw c.in-Ok-None.field-0-is at c.in-Ok-None.ensures.exact) c.layout_of_tagged.result c.layout_of_tagged.ensures.exact);
  within = c.layout_of_tagged.ensures.within;
}
