use Rattle.std.proofs.Common.{arith}
use Rattle.std.proofs.lemmas.List.{get_or-map, length-map}
use Rattle.abi_tree.proofs.Places.NeededLemmas.{marks_variant}
use Rattle.abi_tree.proofs.needed.mark_variants.Goals as goal

pub bounds-needed-variant : goal.bounds-needed-variant
bounds-needed-variant c =
    let vs = c.args.variants.now in
    let i = c.loop-variant.variant-index in
    let there = c.requires i 0 (omega (arith, c.loop-variant-test.true, length-map vs (λ v. v.1))) in
    omega (arith, there, get_or-map (λ v. v.1) vs i (0, 0) 0 c.loop-variant-test.true, c.loop-variant.auto.needed)

pub loop-variant-preserved : goal.loop-variant-preserved
loop-variant-preserved c =
    let vs = c.args.variants.now in
    let i = c.loop-variant.variant-index in
    let there = c.requires i 0 (omega (arith, c.loop-variant-test.true, length-map vs (λ v. v.1))) in
    marks_variant c.args.needed.now c.loop-variant.needed vs i (0, 0) c.loop-variant.invariant c.loop-variant-test.true
    (omega (arith, there, get_or-map (λ v. v.1) vs i (0, 0) 0 c.loop-variant-test.true))
