use Rattle.std.proofs.Common.{true, refl, ap, ◌∙◌}
use Rattle.abi_base.specs.declared.data_layout.TargetDataLayout.{TargetDataLayout}
use Rattle.abi_scalar.proofs.LawfulLemmas.{empty_lawful}
use Rattle.abi_scalar.proofs.layout_data.LayoutData.never_type.Goals as goal

pub returns-clause-lawful : goal.returns-clause-lawful
returns-clause-lawful g c law =
    empty_lawful (g.C.HasDataLayout.target c.args.cx.now) true _ law refl (c.new.ensures ∙ ap (λ (d : TargetDataLayout). d.i8_align) c.data_layout.ensures) refl refl tt
