use Rattle.std.proofs.Common.{ap, ◌∙◌}
use Rattle.std.specs.Prelude.{None, Some}
use Rattle.abi_calc.specs.Enums.Growth.{align_or}
use Rattle.abi_calc.proofs.EnumLemmas.Growth.{field_past, field_there}
use Rattle.abi_calc.proofs.enums.growth.align_at.Goals as goal

pub returns-in-None : goal.returns-in-None
returns-in-None g c = ap (λ f. align_or f None) (field_past g.F.LayoutHandle.layout_of c.args.fields.now c.args.index c.in-None.ensures.lookup.0)

pub returns-in-Some : goal.returns-in-Some
returns-in-Some g c =
    c.room_align.ensures ∙ ap (λ l. align_or (Some l) None) c.layout.ensures
    ∙ ap (λ f. align_or f None) (field_there g.F.LayoutHandle.layout_of c.args.fields.now c.args.index c.in-Some.field.now c.in-Some.ensures.lookup.0 c.in-Some.ensures.lookup.1)
