use Rattle.std.proofs.Common.{◌∷◌, [], ◌++◌, sym, ap, ◌∙◌}
use Rattle.rustc_abi.proofs.Enums.DiscriminantLemmas.{discriminants_more}
use Rattle.rustc_abi.proofs.discriminants.discriminants.Goals as goal

pub loop-variant-preserved : goal.loop-variant-preserved
loop-variant-preserved c =
    let more = discriminants_more c.args.all.now c.loop-variant.variant-index c.variant-item.result c.loop-variant-test.true c.variant-item.is in
    c.in_ok-push.ensures.items ∙ ap (λ numbers. numbers ++ c.variant-item.result.0 ∷ []) c.loop-variant.invariant ∙ sym more
