use Rattle.std.proofs.Common.{rules}
use Rattle.abi_index.specs.Slice.{items_of}
use Rattle.abi_univariant.specs.Union.{only_of}
use Rattle.abi_univariant.proofs.UnionsVectors.TooLarge.{union_sized}
use Rattle.abi_calc.proofs.Seen.{union_aligned, union_fields, union_marks, union_single, union_viewed}
use Rattle.abi_calc.proofs.calculator.LayoutCalculator.layout_of_union.Goals as goal

pub layout_of_union-requires-clause-fields : goal.layout_of_union-requires-clause-fields
layout_of_union-requires-clause-fields g c = rw (c.only_fields-fields.ensures, c.data_layout.ensures) c.requires.fields

pub returns : goal.returns
returns g c =
    let dl = g.Cx.HasDataLayout.target c.args.self.now.cx in
    let exact = rw (c.only_fields-fields.ensures, c.data_layout.ensures) at c.layout_of_union.ensures.exact in
    record {
      exact = exact;
      sized = union_sized g.F.LayoutHandle.layout_of (g.VariantIdx.Idx.at 0) dl c.args.repr.now (only_of (items_of c.args.variants)) c.layout_of_union.result c.requires.data_layout exact;
      lawful = rw c.data_layout.ensures at c.layout_of_union.ensures.lawful;
      fields = union_fields g.F.LayoutHandle.layout_of (g.VariantIdx.Idx.at 0) dl c.args.repr.now (only_of (items_of c.args.variants)) c.layout_of_union.result exact;
      niche = search rules;
      inhabited = search rules;
      single = union_single g.F.LayoutHandle.layout_of (g.VariantIdx.Idx.at 0) dl c.args.repr.now (only_of (items_of c.args.variants)) c.layout_of_union.result exact;
      alignment = union_aligned g.F.LayoutHandle.layout_of (g.VariantIdx.Idx.at 0) dl c.args.repr.now (only_of (items_of c.args.variants)) c.layout_of_union.result exact;
      view = union_viewed g.F.LayoutHandle.layout_of (g.VariantIdx.Idx.at 0) dl c.args.repr.now (only_of (items_of c.args.variants)) c.layout_of_union.result exact;
      marks = union_marks g.F.LayoutHandle.layout_of (g.VariantIdx.Idx.at 0) dl c.args.repr.now (only_of (items_of c.args.variants)) c.layout_of_union.result exact;
      places = search rules;
      ascending = search rules;
    }
