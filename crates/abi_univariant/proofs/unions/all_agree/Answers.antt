use Rattle.std.proofs.Common.{refl, sym, subst}
use Rattle.std.proofs.lemmas.List.{take_all}
use Rattle.std.proofs.lemmas.List.Elements.{All-more, All-same}
use Rattle.abi_scalar.specs.View.{union_view}
use Rattle.abi_univariant.specs.Union.{CountsForView, HasView}
use Rattle.abi_univariant.proofs.unions.all_agree.Goals as goal

pub loop-field-preserved : goal.loop-field-preserved
loop-field-preserved g c =
    let view = union_view c.args.first.now.backend_repr in
    let align = c.args.first.now.align.abi in
    let here : CountsForView (g.F.LayoutHandle.layout_of c.field-item.result) → HasView (union_view c.args.first.now.backend_repr) c.args.first.now.align.abi (g.F.LayoutHandle.layout_of c.field-item.result)
    = subst (λ l. CountsForView l → HasView view align l) c.layout.ensures (c.if-not-agrees.ensures.0 refl) in
    All-more (λ h. CountsForView (g.F.LayoutHandle.layout_of h) → HasView view align (g.F.LayoutHandle.layout_of h))
    c.args.fields.now c.loop-field.field-index c.field-item.result c.loop-field-test.true c.loop-field.invariant
    (subst (λ h. CountsForView (g.F.LayoutHandle.layout_of h) → HasView view align (g.F.LayoutHandle.layout_of h)) c.field-item.is here)

pub returns : goal.returns
returns g c =
    let view = union_view c.args.first.now.backend_repr in
    let align = c.args.first.now.align.abi in (
      λ t. All-same (λ h. CountsForView (g.F.LayoutHandle.layout_of h) → HasView view align (g.F.LayoutHandle.layout_of h))
          c.args.fields.now _ (sym (take_all c.loop-field.field-index c.args.fields.now c.loop-field-test.false)) c.loop-field.invariant,
      λ h. refl,
    )
