use Rattle.std.proofs.Common.{Bor, ◌∙◌, All, IsTrue, List, get_or, rules, subst, take}
use Rattle.std.proofs.lemmas.List.{take_all, take_more}
use Rattle.std.proofs.lemmas.List.Elements.{All-push}
use Rattle.abi_index.specs.declared.idx.FieldIdx.{FieldIdx}
use Rattle.abi_index.specs.declared.idx.VariantIdx.{VariantIdx}
use Rattle.abi_scalar.specs.declared.layout_data.LayoutData.{LayoutData}
use Rattle.abi_scalar.specs.Lawful.{IsLawfulLayout}
use Rattle.bench.proofs.inputs.are_lawful_lists.Goals as goal

pub loop-fields-preserved : goal.loop-fields-preserved
loop-fields-preserved c =
    let P = λ (fields : List (Bor (LayoutData FieldIdx VariantIdx))). All (λ f. IsLawfulLayout c.args.dl.now f.now) fields in
    let yes : IsTrue c.are_lawful.result = search rules in
    let item : P c.fields-item.result = subst P (c.as_raw.ensures.items ∙ c.as_slice.ensures) (c.are_lawful.ensures yes) in
    rw (take_more c.args.lists.now c.loop-fields.fields-index c.fields-item.result c.loop-fields-test.true)
    (All-push P (take c.loop-fields.fields-index c.args.lists.now) (get_or c.args.lists.now c.loop-fields.fields-index c.fields-item.result) c.loop-fields.invariant (subst P c.fields-item.is item))

pub returns : goal.returns
returns c _ = rw (take_all c.loop-fields.fields-index c.args.lists.now c.loop-fields-test.false) at c.loop-fields.invariant
