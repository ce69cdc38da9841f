use Rattle.std.proofs.Common.{◌∙◌, refl}
use Rattle.abi_scalar.proofs.LawfulLemmas.{scalar_lawful}
use Rattle.abi_scalar.proofs.layout_data.LayoutData.scalar.Goals as goal

pub returns-clause-lawful : goal.returns-clause-lawful
returns-clause-lawful g c law lawful =
    scalar_lawful (g.C.HasDataLayout.target c.args.cx.now) c.args.scalar _ c.requires law lawful
    c.size.ensures (c.new-2.ensures ∙ c.default_align-align.ensures) c.from_scalar.ensures.exact refl tt
