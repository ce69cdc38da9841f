-- What is promised follows from the answer by the integer that is asked for.
use Rattle.std.proofs.Common.{◌∙◌, List, subst, sym, ℕ}
use Rattle.std.specs.Prelude.{Bool, Err, IfOk, Ok, Result, ℤ}
use Rattle.abi_base.specs.declared.data_layout.TargetDataLayout.{TargetDataLayout}
use Rattle.abi_base.specs.declared.integer.Integer.{Integer}
use Rattle.abi_scalar.specs.declared.variants.RangeFrom.{RangeFrom}
use Rattle.abi_scalar.specs.declared.variants.RangeToInclusive.{RangeToInclusive}
use Rattle.abi_calc.specs.Enums.Several.{IsAskedFor}
use Rattle.abi_calc.proofs.EnumLemmas.DiscrRange.{answer_lawful, answer_of, answer_sized, answer_told}
use Rattle.abi_calc.proofs.EnumLemmas.Several.{memory_sized}
use Rattle.abi_calc.proofs.EnumLemmas.TagWins.{by_niche, good_niche}
use Rattle.abi_calc.proofs.calculator.LayoutCalculator.layout_of_enum.Goals as goal

-- what follows from something that holds where there is a layout holds there
follows : {A E : Type 0} (P : Type 0) (Q : A → Type 0) (r : Result A E) → IfOk r (λ l. P) → (P → IfOk r Q) → IfOk r Q
follows P Q (Ok l) h k = k h
follows P Q (Err e) h k = tt

pub returns-in_err-values-clause-sized : goal.returns-in_err-values-clause-sized
returns-in_err-values-clause-sized g c = memory_sized g.F.LayoutHandle.layout_of _ _ _ _ _ _ c.from_residual.result c.from_residual.ensures.1

pub returns : goal.returns
returns g c =
    let layout_of = g.F.LayoutHandle.layout_of in
    let dl : TargetDataLayout = g.Cx.HasDataLayout.target c.args.self.now.cx in
    let repr = c.args.repr.now in
    let variants = c.args.variants.now in
    let asks : RangeFrom ℤ → RangeToInclusive ℕ → Integer × Bool → Type 0 = λ least greatest answer. g.D.Fn.post c.args.discr_range_of_repr (least, (greatest, tt)) answer in
    let asked = c.tag_integer-asked.result.0 in
    let signed = c.tag_integer-asked.result.1 in
    let values : List ℕ = c.deref-2.result.now in
    let same = c.deref-2.ensures.value ∙ c.in_ok-values.ensures in
    let is = subst (λ ns. IsAskedFor dl repr asks ns asked signed) (c.deref.ensures.value ∙ sym c.deref-2.ensures.value)
    (subst (λ d. IsAskedFor d repr asks c.deref.result.now asked signed) c.data_layout.ensures c.tag_integer-asked.ensures) in
    let result = c.better_layout.result in
    let found = by_niche layout_of g.FieldIdx.Idx.at g.VariantIdx.Idx.at dl repr variants c.requires.data_layout c.requires.fields c.requires.repr g.FieldIdx.Idx.number asked signed values result c.better_layout.ensures.exact in
    let niche = good_niche layout_of g.FieldIdx.Idx.at g.VariantIdx.Idx.at dl repr variants c.requires.data_layout c.requires.fields c.requires.repr found.0 found.1 in
    let within = c.better_layout.ensures.within in
    record {
      exact = answer_of layout_of g.FieldIdx.Idx.at g.FieldIdx.Idx.number g.VariantIdx.Idx.at g.VariantIdx.Idx.number dl c.requires.data_layout repr variants c.requires.repr c.requires.fields c.requires.some c.requires.unpacked
          asks c.args.discriminants.now c.requires.tags asked signed values same is found.0 niche found.1 result found.2;
      lawful = follows _ _ result within (λ all. answer_lawful layout_of g.FieldIdx.Idx.at g.FieldIdx.Idx.number g.VariantIdx.Idx.at g.VariantIdx.Idx.number dl c.requires.data_layout repr variants c.requires.repr c.requires.fields c.requires.some c.requires.unpacked
          asks c.args.discriminants.now c.requires.tags asked signed values same is found.0 niche g.FieldIdx.Idx.MAX_INDEX g.met.FieldIdx.Idx.number_at all result found.2);
      within = within;
      tag_distinguishes = follows _ _ result within (λ all. answer_told layout_of g.FieldIdx.Idx.at g.FieldIdx.Idx.number g.VariantIdx.Idx.at g.VariantIdx.Idx.number dl c.requires.data_layout repr variants c.requires.repr c.requires.fields c.requires.some c.requires.unpacked
          asks c.args.discriminants.now c.requires.tags asked signed values same is found.0 niche g.FieldIdx.Idx.MAX_INDEX g.met.FieldIdx.Idx.number_at all
          g.VariantIdx.Idx.MAX_INDEX g.met.VariantIdx.Idx.number_at c.requires.count result found.2);
      sized = answer_sized layout_of g.FieldIdx.Idx.at g.FieldIdx.Idx.number g.VariantIdx.Idx.at g.VariantIdx.Idx.number dl c.requires.data_layout repr variants c.requires.repr c.requires.fields c.requires.some c.requires.unpacked
          asks c.args.discriminants.now c.requires.tags asked signed values same is found.0 niche result found.2;
    }
