-- The fields of each variant are lawful.
use Rattle.std.proofs.Common.{◌∙◌, subst, sym}
use Rattle.std.specs.Prelude.{All}
use Rattle.abi_scalar.specs.Lawful.{IsLawfulLayout}
use Rattle.abi_calc.proofs.enums.bounds.greatest_of_all.Goals as goal

pub greatest_free-requires : goal.greatest_free-requires
greatest_free-requires g c =
    subst (All (λ f. IsLawfulLayout c.args.dl.now (g.F.LayoutHandle.layout_of f))) (sym (c.as_raw.ensures.items ∙ c.as_slice.ensures ∙ c.fields-item.is)) (c.requires c.loop-fields.fields-index c.fields-item.result c.loop-fields-test.true)
