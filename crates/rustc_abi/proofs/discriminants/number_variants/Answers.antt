use Rattle.std.proofs.Common.{◌∷◌, [], ◌++◌, get_or, refl, sym, ap, ◌∙◌}
use Rattle.rustc_abi.proofs.Enums.DiscriminantLemmas.{numbered_more}
use Rattle.rustc_abi.proofs.discriminants.number_variants.Goals as goal

pub loop-at-preserved : goal.loop-at-preserved
loop-at-preserved c =
    let n = get_or c.args.numbers.now c.loop-at.at 0 in
    let more = numbered_more c.args.numbers.now c.loop-at.at n c.loop-at-test.true refl in
    c.in_ok-push.ensures.items ∙ ap (λ i. c.loop-at.items.items ++ (i, n) ∷ []) c.from_usize.ensures
    ∙ ap (λ items. items ++ (c.loop-at.at, n) ∷ []) c.loop-at.invariant ∙ sym more
