use Rattle.std.proofs.Common.{Bor, get_or, take, rules, subst}
use Rattle.std.proofs.lemmas.List.{take_all, take_more}
use Rattle.std.proofs.lemmas.List.Elements.{All-push}
use Rattle.abi_index.specs.declared.idx.FieldIdx.{FieldIdx}
use Rattle.abi_index.specs.declared.idx.VariantIdx.{VariantIdx}
use Rattle.abi_scalar.specs.declared.layout_data.LayoutData.{LayoutData}
use Rattle.abi_scalar.specs.Lawful.{IsLawfulLayout}
use Rattle.bench.proofs.inputs.are_lawful.Goals as goal

pub loop-layout-preserved : goal.loop-layout-preserved
loop-layout-preserved c =
    let P = λ (f : Bor (LayoutData FieldIdx VariantIdx)). IsLawfulLayout c.args.dl.now f.now in
    let item : P c.layout-item.result = search rules in
    rw (take_more c.args.layouts.now c.loop-layout.layout-index c.layout-item.result c.loop-layout-test.true)
    (All-push P (take c.loop-layout.layout-index c.args.layouts.now) (get_or c.args.layouts.now c.loop-layout.layout-index c.layout-item.result) c.loop-layout.invariant (subst P c.layout-item.is item))

pub returns : goal.returns
returns c _ = rw (take_all c.loop-layout.layout-index c.args.layouts.now c.loop-layout-test.false) at c.loop-layout.invariant
