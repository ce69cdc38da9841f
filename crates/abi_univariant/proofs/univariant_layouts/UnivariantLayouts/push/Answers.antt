use Rattle.std.proofs.Common.{◌++◌, ◌∷◌, [], ◌∙◌, ap, ap₂, arith, length, sym}
use Rattle.std.proofs.lemmas.List.{length-append}
use Rattle.abi_univariant.specs.UnivariantLayouts.{list_of, lists_of}
use Rattle.abi_univariant.specs.Summary.{summary_of, with_list}
use Rattle.abi_univariant.proofs.Layouts.ListLayoutsLemmas.{list_more}
use Rattle.abi_univariant.proofs.Layouts.OverallLemmas.{overall_more}
use Rattle.abi_univariant.proofs.univariant_layouts.UnivariantLayouts.push.Goals as goal

pub invariant_of-self-2 : goal.invariant_of-self-2
invariant_of-self-2 g c =
    let variant = c.into_parts-variant.result.0 in
    let rest = c.into_parts-variant.result.1 in
    let vs = c.self.inside.variants.items in
    let rs = c.self.inside.rests.items in
    let variants = c.push_reserved.ensures.items ∙ ap (λ vs. vs ++ variant ∷ []) c.in_ok-reserve.ensures.items in
    let rests = c.push_reserved-2.ensures.items ∙ ap (λ rs. rs ++ rest ∷ []) c.in_ok-reserve-2.ensures.items in (
      omega (arith, ap length variants, ap length rests, length-append vs (variant ∷ []), length-append rs (rest ∷ []), c.self.invariant.0),
      c.with-self-inside.ensures ∙ ap (λ o. with_list o (list_of variant rest)) c.self.invariant.1 ∙ overall_more (lists_of vs rs) (list_of variant rest)
          ∙ ap summary_of (sym (list_more vs rs variant rest c.self.invariant.0)) ∙ ap₂ (λ vs rs. summary_of (lists_of vs rs)) (sym variants) (sym rests),
    )

pub returns : goal.returns
returns g c =
    ap₂ lists_of (c.push_reserved.ensures.items ∙ ap (λ vs. vs ++ c.into_parts-variant.result.0 ∷ []) c.in_ok-reserve.ensures.items) (c.push_reserved-2.ensures.items ∙ ap (λ rs. rs ++ c.into_parts-variant.result.1 ∷ []) c.in_ok-reserve-2.ensures.items)
    ∙ list_more c.self.inside.variants.items c.self.inside.rests.items c.into_parts-variant.result.0 c.into_parts-variant.result.1 c.self.invariant.0
    ∙ ap₂ (λ lists list. lists ++ list ∷ []) c.self.view_is c.into_parts-variant.ensures
