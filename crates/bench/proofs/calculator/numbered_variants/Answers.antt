use Rattle.std.proofs.Common.{ℕ, ◌+◌, ◌<◌, ◌∙◌, ◌∷◌, [], ◌++◌, All, ap, ap₂, arith, map, subst, sym}
use Rattle.std.specs.List.{AllPairs}
use Rattle.std.proofs.lemmas.List.{map-append}
use Rattle.std.proofs.lemmas.List.Elements.{All-push, All-weaker}
use Rattle.std.proofs.lemmas.List.Quantifiers.{all_pairs_push}
use Rattle.abi_index.specs.declared.idx.VariantIdx.{VariantIdx}
use Rattle.abi_univariant.proofs.Offsets.Steps.{source_more}
use Rattle.bench.proofs.calculator.numbered_variants.Goals as goal

pub loop-at-preserved : goal.loop-at-preserved
loop-at-preserved c =
    let index = λ (item : VariantIdx × ℕ). item.0 in
    let items = c.loop-at.items.items in
    let at = c.loop-at.at in
    let item : VariantIdx × ℕ = (c.from_usize.result, at) in
    let Ascends : VariantIdx × ℕ → VariantIdx × ℕ → Type 0 = λ a b. a.1 < b.1 in
    let IsBelow : VariantIdx × ℕ → Type 0 = λ item. item.1 < at + 1 in
    let below : All IsBelow items = All-weaker (λ (item : VariantIdx × ℕ). item.1 < at) IsBelow (λ i less. omega (arith, less)) items c.loop-at.invariant.within in
    record {
      each =
          ap (map index) c.in_ok-push.ensures.items ∙ map-append index items (item ∷ [])
          ∙ ap₂ (λ xs i. xs ++ i ∷ []) c.loop-at.invariant.each c.from_usize.ensures ∙ sym (source_more at);
      ascending = subst (AllPairs Ascends) (sym c.in_ok-push.ensures.items) (all_pairs_push Ascends items item c.loop-at.invariant.ascending c.loop-at.invariant.within);
      within = subst (All IsBelow) (sym c.in_ok-push.ensures.items) (All-push IsBelow items item below (omega arith));
    }
