-- Where no field's niche has a free number, there is only the layout with a tag; where it is made first, both bounds are those of the rules.
use Rattle.std.proofs.Common.{◌∙◌, inr, map, sym}
use Rattle.abi_calc.proofs.EnumLemmas.TagWins.{only_answer}
use Rattle.abi_calc.proofs.EnumLemmas.WhichFirst.{none_free, told_bounds}
use Rattle.abi_calc.proofs.calculator.LayoutCalculator.better_layout.Goals as goal

pub returns-in-OnlyTagged : goal.returns-in-OnlyTagged
returns-in-OnlyTagged g c =
    let none = rw c.data_layout.ensures at (none_free c.data_layout.result.now c.args.repr.now c.args.tag.integer (map (map g.F.LayoutHandle.layout_of) c.args.variants.now) (sym c.which_first.ensures ∙ c.in-OnlyTagged.is)) in
    record {
      exact = inr (only_answer g.F.LayoutHandle.layout_of g.FieldIdx.Idx.at g.VariantIdx.Idx.at (g.Cx.HasDataLayout.target c.args.self.now.cx) c.args.repr.now c.args.variants.now c.requires.data_layout c.requires.fields c.requires.repr
          g.FieldIdx.Idx.number c.args.tag.integer c.args.tag.is_signed c.args.tag.values.now c.requires.unpacked none c.layout_of_tagged.result c.layout_of_tagged.ensures.exact);
      within = c.layout_of_tagged.ensures.within;
    }

pub layout_tag_first-requires-clause-least : goal.layout_tag_first-requires-clause-least
layout_tag_first-requires-clause-least g c = rw c.data_layout.ensures at (told_bounds c.data_layout.result.now c.args.repr.now c.args.tag.integer (map (map g.F.LayoutHandle.layout_of) c.args.variants.now) c.in-Tagged.least c.in-Tagged.free (sym c.which_first.ensures ∙ c.in-Tagged.is)).0

pub layout_tag_first-requires-clause-free : goal.layout_tag_first-requires-clause-free
layout_tag_first-requires-clause-free g c = rw c.data_layout.ensures at (told_bounds c.data_layout.result.now c.args.repr.now c.args.tag.integer (map (map g.F.LayoutHandle.layout_of) c.args.variants.now) c.in-Tagged.least c.in-Tagged.free (sym c.which_first.ensures ∙ c.in-Tagged.is)).1
