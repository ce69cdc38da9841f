-- The variants before have their lists; the first error is that of the variant at hand.
use Rattle.std.proofs.Common.{◌≡◌, ◌+◌, ◌≤◌, arith, length, subst, sym, take}
use Rattle.std.proofs.lemmas.List.{take_all}
use Rattle.std.specs.Prelude.{All}
use Rattle.abi_scalar.specs.Lawful.{IsLawfulLayout}
use Rattle.abi_calc.specs.Enums.Lists.{AreGoodLists}
use Rattle.abi_calc.proofs.EnumLemmas.Lists.{all_next, error_next, good_exact, good_lawful, good_listed, good_next}
use Rattle.abi_calc.proofs.calculator.LayoutCalculator.lists_of_variants.Goals as goal

pub loop-fields-init : goal.loop-fields-init
loop-fields-init g c = record {
  good = rw c.in_ok-lists.ensures tt;
  within = λ k d short. absurd (omega (arith, short));
}

pub list_of_variant-requires-clause-fields : goal.list_of_variant-requires-clause-fields
list_of_variant-requires-clause-fields g c =
    subst (All (λ f. IsLawfulLayout (g.Cx.HasDataLayout.target c.args.self.now.cx) (g.F.LayoutHandle.layout_of f))) (sym c.fields-item.is) (c.requires.fields c.loop-fields.fields-index c.fields-item.result c.loop-fields-test.true)

pub returns-in-Err-clause-fault : goal.returns-in-Err-clause-fault
returns-in-Err-clause-fault g c =
    error_next g.F.LayoutHandle.layout_of g.FieldIdx.Idx.at (g.VariantIdx.Idx.at 0) (g.Cx.HasDataLayout.target c.args.self.now.cx) c.args.repr.now c.args.kind.now c.args.variants.now c.loop-fields.fields-index
    c.loop-fields.lists c.fields-item.result c.in-Err.error c.loop-fields-test.true c.fields-item.is c.loop-fields.invariant.good c.in-Err.ensures.fault

pub loop-fields-preserved : goal.loop-fields-preserved
loop-fields-preserved g c =
    record {
      good = rw c.in_ok-push.ensures
          (good_next g.F.LayoutHandle.layout_of g.FieldIdx.Idx.at (g.VariantIdx.Idx.at 0) (g.Cx.HasDataLayout.target c.args.self.now.cx) c.args.repr.now c.args.kind.now c.args.variants.now c.loop-fields.fields-index
          c.loop-fields.lists c.fields-item.result c.in-Ok.list c.loop-fields-test.true c.fields-item.is c.loop-fields.invariant.good c.in-Ok.ensures.good);
      within = all_next (λ fields. length fields ≤ g.FieldIdx.Idx.MAX_INDEX + 1) c.args.variants.now c.loop-fields.fields-index c.fields-item.result c.loop-fields-test.true c.fields-item.is c.loop-fields.invariant.within c.list_of_variant.ensures.within;
    }

pub returns-clause-exact : goal.returns-clause-exact
returns-clause-exact g c =
    let all : take c.loop-fields.fields-index c.args.variants.now ≡ c.args.variants.now = take_all c.loop-fields.fields-index c.args.variants.now c.loop-fields-test.false in
    good_exact g.F.LayoutHandle.layout_of g.FieldIdx.Idx.at (g.VariantIdx.Idx.at 0) (g.Cx.HasDataLayout.target c.args.self.now.cx) c.args.repr.now c.args.kind.now c.args.variants.now c.loop-fields.lists
    (subst (λ vs. AreGoodLists g.F.LayoutHandle.layout_of g.FieldIdx.Idx.at (g.VariantIdx.Idx.at 0) (g.Cx.HasDataLayout.target c.args.self.now.cx) c.args.repr.now c.args.kind.now vs c.loop-fields.lists) all c.loop-fields.invariant.good)

pub returns-clause-lists : goal.returns-clause-lists
returns-clause-lists g c =
    let all : take c.loop-fields.fields-index c.args.variants.now ≡ c.args.variants.now = take_all c.loop-fields.fields-index c.args.variants.now c.loop-fields-test.false in
    good_listed g.F.LayoutHandle.layout_of g.FieldIdx.Idx.at (g.VariantIdx.Idx.at 0) (g.Cx.HasDataLayout.target c.args.self.now.cx) c.args.repr.now c.args.kind.now c.args.variants.now c.loop-fields.lists
    (subst (λ vs. AreGoodLists g.F.LayoutHandle.layout_of g.FieldIdx.Idx.at (g.VariantIdx.Idx.at 0) (g.Cx.HasDataLayout.target c.args.self.now.cx) c.args.repr.now c.args.kind.now vs c.loop-fields.lists) all c.loop-fields.invariant.good)

pub returns-clause-lawful : goal.returns-clause-lawful
returns-clause-lawful g c =
    good_lawful g.F.LayoutHandle.layout_of g.FieldIdx.Idx.at (g.VariantIdx.Idx.at 0) (g.Cx.HasDataLayout.target c.args.self.now.cx) c.args.repr.now c.args.kind.now (take c.loop-fields.fields-index c.args.variants.now) c.loop-fields.lists c.loop-fields.invariant.good

pub returns-clause-good : goal.returns-clause-good
returns-clause-good g c =
    let all : take c.loop-fields.fields-index c.args.variants.now ≡ c.args.variants.now = take_all c.loop-fields.fields-index c.args.variants.now c.loop-fields-test.false in
    subst (λ vs. AreGoodLists g.F.LayoutHandle.layout_of g.FieldIdx.Idx.at (g.VariantIdx.Idx.at 0) (g.Cx.HasDataLayout.target c.args.self.now.cx) c.args.repr.now c.args.kind.now vs c.loop-fields.lists) all c.loop-fields.invariant.good

pub returns-clause-within : goal.returns-clause-within
returns-clause-within g c =
    let all : take c.loop-fields.fields-index c.args.variants.now ≡ c.args.variants.now = take_all c.loop-fields.fields-index c.args.variants.now c.loop-fields-test.false in
    subst (All (λ fields. length fields ≤ g.FieldIdx.Idx.MAX_INDEX + 1)) all c.loop-fields.invariant.within
