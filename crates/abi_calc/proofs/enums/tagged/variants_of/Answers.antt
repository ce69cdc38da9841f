-- What each list gives takes the place of its variant.
use Rattle.std.proofs.Common.{◌≡◌, ◌∙◌, ap, arith, length, map}
use Rattle.std.proofs.lemmas.Simd.{map-map}
use Rattle.abi_scalar.specs.Variant.{variant_of}
use Rattle.abi_calc.specs.Enums.Growth.{grown_variant}
use Rattle.abi_calc.specs.Enums.Payload.{variant_with_view}
use Rattle.abi_calc.proofs.AtIndex.{all_replaced, replaced, written_back}
use Rattle.abi_calc.proofs.enums.tagged.variants_of.Goals as goal

pub loop-variant-init : goal.loop-variant-init
loop-variant-init g c =
    ap (map (λ v. variant_with_view c.args.view.now c.args.size (grown_variant c.args.old c.args.new v))) (c.deref_mut-variant-items.ensures.value ∙ c.into_parts-variants.ensures.variants)
    ∙ map-map (λ v. variant_with_view c.args.view.now c.args.size (grown_variant c.args.old c.args.new v)) variant_of c.args.lists

pub loop-variant-preserved : goal.loop-variant-preserved
loop-variant-preserved g c =
    replaced (λ v. variant_with_view c.args.view.now c.args.size (grown_variant c.args.old c.args.new v)) c.loop-variant.variant-items c.loop-variant.variant-index c.variant-item.result c.complete_variant.new.variant _
    (omega (arith, c.loop-variant-test.true, c.loop-variant.auto.variant-items)) c.in_ok-complete_variant.ensures c.loop-variant.invariant

pub returns : goal.returns
returns g c =
    let long : length c.loop-variant.variant-items ≡ c.into_parts-variants.result.0.len = omega (arith, c.loop-variant.auto.variant-items, ap length c.deref_mut-variant-items.ensures.value) in
    c.from_raw.ensures ∙ written_back c.loop-variant.variant-items _ c.into_parts-variants.result.0.len long
    ∙ all_replaced (λ v. variant_with_view c.args.view.now c.args.size (grown_variant c.args.old c.args.new v)) c.loop-variant.variant-items c.loop-variant.variant-index _
    (omega (arith, c.loop-variant-test.false, c.loop-variant.auto.variant-items)) c.loop-variant.invariant
