use Rattle.std.proofs.Common.{rules, sym, subst}
use Rattle.std.proofs.lemmas.List.{take_all}
use Rattle.std.proofs.lemmas.List.Elements.{All-more, All-same}
use Rattle.abi_scalar.specs.Layout.{IsZst}
use Rattle.abi_univariant.proofs.unions.first_counted.Goals as goal

pub loop-field-preserved : goal.loop-field-preserved
loop-field-preserved g c =
    let zst : IsZst (g.F.LayoutHandle.layout_of c.field-item.result) = search rules in
    All-more (λ h. IsZst (g.F.LayoutHandle.layout_of h)) c.args.fields.now c.loop-field.field-index c.field-item.result c.loop-field-test.true c.loop-field.invariant
    (subst (λ h. IsZst (g.F.LayoutHandle.layout_of h)) c.field-item.is zst)

pub returns-clause-none : goal.returns-clause-none
returns-clause-none g c none =
    All-same (λ h. IsZst (g.F.LayoutHandle.layout_of h)) c.args.fields.now _ (sym (take_all c.loop-field.field-index c.args.fields.now c.loop-field-test.false)) c.loop-field.invariant
