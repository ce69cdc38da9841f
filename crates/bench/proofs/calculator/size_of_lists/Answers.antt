use Rattle.std.proofs.Common.{Bor, List, All, subst, sym}
use Rattle.abi_index.specs.declared.idx.FieldIdx.{FieldIdx}
use Rattle.abi_index.specs.declared.idx.VariantIdx.{VariantIdx}
use Rattle.abi_scalar.specs.declared.layout_data.LayoutData.{LayoutData}
use Rattle.abi_scalar.specs.Lawful.{IsLawfulLayout}
use Rattle.bench.proofs.calculator.size_of_lists.Goals as goal

pub layout_of_univariant-made-requires-clause-fields : goal.layout_of_univariant-made-requires-clause-fields
layout_of_univariant-made-requires-clause-fields c =
    let P = λ (fields : List (Bor (LayoutData FieldIdx VariantIdx))). All (λ f. IsLawfulLayout c.args.it.now.dl.now f.now) fields in
    let all : All P c.deref-fields-items.result.now = rw c.deref-fields-items.ensures.value c.requires.lists in
    rw (c.new-calculator.ensures, c.as_slice.ensures) (subst P (sym c.fields-item.is) (all c.loop-fields.fields-index c.fields-item.result c.loop-fields-test.true))
