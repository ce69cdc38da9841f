-- The variants before have these lists, and no more fields than the index type can name.
use Rattle.std.proofs.Common.{◌+◌, ◌≤◌, length, take}
use Rattle.std.specs.Prelude.{All}
use Rattle.abi_calc.specs.Enums.Lists.{AreGoodLists}
use Rattle.abi_calc.proofs.calculator.LayoutCalculator.lists_of_variants.Given as goal

abbrev pub invariant-loop-fields : goal.invariant-loop-fields
invariant-loop-fields g l = record {
  good : AreGoodLists g.F.LayoutHandle.layout_of g.FieldIdx.Idx.at (g.VariantIdx.Idx.at 0) (g.Cx.HasDataLayout.target l.self.cx) l.repr l.kind (take l.fields-index l.variants) l.lists;
  within : All (λ fields. length fields ≤ g.FieldIdx.Idx.MAX_INDEX + 1) (take l.fields-index l.variants);
}
