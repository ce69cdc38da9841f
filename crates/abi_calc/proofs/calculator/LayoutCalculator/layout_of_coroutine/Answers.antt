-- The slices have the views' items, the promoted locals are those that the states and the conflicts demand, and the tag is the one of
-- the count of states.
use Rattle.std.proofs.Common.{◌≡◌, ◌≢◌, ◌+◌, ◌<◌, ◌≤◌, ◌∙◌, ℕ, List, ap, get_or, inr, length, map, refl, subst, sym}
use Rattle.std.specs.Prelude.{All, Err, Ok, Result}
use Rattle.std.specs.List.{AllPairs}
use Rattle.std.specs.Result.{IsErrAnd}
use Rattle.std.proofs.lemmas.List.{length-map}
use Rattle.std.proofs.lemmas.List.Elements.{All-map}
use Rattle.abi_base.specs.declared.data_layout.TargetDataLayout.{TargetDataLayout}
use Rattle.abi_index.specs.Slice.{items_of}
use Rattle.abi_scalar.specs.declared.error.LayoutCalculatorError.{LayoutCalculatorError}
use Rattle.abi_scalar.specs.declared.error.LayoutCalculatorError.TheVariants.{OutOfMemory}
use Rattle.abi_scalar.specs.declared.scalar.Scalar.{Scalar}
use Rattle.abi_scalar.specs.Lawful.{IsLawfulLayout}
use Rattle.abi_scalar.specs.Simple.{scalar_layout}
use Rattle.abi_calc.specs.Coroutine.Answer.{IsPromotedAnswer}
use Rattle.abi_calc.specs.Coroutine.Layout.{IsStateTag}
use Rattle.abi_calc.specs.Coroutine.Promised.{IsSizedCoroutine, IsSizedPromoted}
use Rattle.abi_calc.specs.Coroutine.Promotion.{promoted_of}
use Rattle.abi_calc.proofs.CoroutineLemmas.Good.{coroutine_good}
use Rattle.abi_calc.proofs.CoroutineLemmas.OneCoroutine.{one_tag}
use Rattle.abi_calc.proofs.CoroutineLemmas.Promised.{IsAsked}
use Rattle.abi_calc.proofs.CoroutineLemmas.Promotion.{promoted_count}
use Rattle.abi_calc.proofs.CoroutineLemmas.Ordered.{coroutine_ordered}
use Rattle.abi_calc.proofs.CoroutineLemmas.Seen.{coroutine_align, coroutine_made, coroutine_marks, coroutine_niche, coroutine_view}
use Rattle.abi_calc.proofs.CoroutineLemmas.Shared.{overlap_promised}
use Rattle.abi_calc.proofs.calculator.LayoutCalculator.layout_of_coroutine.Goals as goal

-- what may answer that memory ran out may be what is told to be it
no_memory : {A H : Type 0} (P : Result A (LayoutCalculatorError H) → Type 0) (result : Result A (LayoutCalculatorError H)) → IsErrAnd result (λ e. e ≡ OutOfMemory) → P (Err OutOfMemory) → P result
no_memory P (Ok a) tag_distinguishes may = absurd tag_distinguishes
no_memory P (Err e) tag_distinguishes may = subst (λ e. P (Err e)) (sym tag_distinguishes) may

pub state_tag-tag-requires : goal.state_tag-tag-requires
state_tag-tag-requires g c = rw c.as_raw-states.ensures.items c.requires.states.some

pub promoted_locals-requires-clause-within : goal.promoted_locals-requires-clause-within
promoted_locals-requires-clause-within g c =
    rw (c.as_raw-states.ensures.items, c.requires.states.rows) c.requires.states.within

pub layout_of_promoted-requires-clause-locals : goal.layout_of_promoted-requires-clause-locals
layout_of_promoted-requires-clause-locals g c =
    subst (All (λ f. IsLawfulLayout (g.Cx.HasDataLayout.target c.args.self.now.cx) (g.F.LayoutHandle.layout_of f))) (sym c.as_raw-locals.ensures.items) c.requires.locals

pub layout_of_promoted-requires-clause-field : goal.layout_of_promoted-requires-clause-field
layout_of_promoted-requires-clause-field g c =
    c.requires.tag c.state_tag-tag.result c.tag_to_layout-field.result (subst (λ s. IsStateTag (length s) c.state_tag-tag.result) c.as_raw-states.ensures.items c.state_tag-tag.ensures) c.tag_to_layout-field.ensures

pub layout_of_promoted-requires-clause-within : goal.layout_of_promoted-requires-clause-within
layout_of_promoted-requires-clause-within g c = rw (c.as_raw-locals.ensures.items, c.as_raw-states.ensures.items) c.requires.states.within

pub layout_of_promoted-requires-clause-once : goal.layout_of_promoted-requires-clause-once
layout_of_promoted-requires-clause-once g c = rw c.as_raw-states.ensures.items c.requires.states.once

pub layout_of_promoted-requires-clause-same : goal.layout_of_promoted-requires-clause-same
layout_of_promoted-requires-clause-same g c =
    ap length c.in_ok-promoted.ensures.exact ∙ promoted_count (map (map g.LocalIdx.Idx.number) c.as_raw-states.result.now) c.args.storage_conflicts.now ∙ c.requires.states.rows
    ∙ ap length (sym c.as_raw-locals.ensures.items)

pub layout_of_promoted-requires-clause-count : goal.layout_of_promoted-requires-clause-count
layout_of_promoted-requires-clause-count g c =
    subst (λ ls. length c.args.prefix_layouts + length ls ≤ g.FieldIdx.Idx.MAX_INDEX) (sym c.as_raw-locals.ensures.items) c.requires.count

pub returns-in_err-promoted-clause-exact : goal.returns-in_err-promoted-clause-exact
returns-in_err-promoted-clause-exact g c =
    let states : List (List ℕ) = map (map g.LocalIdx.Idx.number) (items_of c.args.variant_fields) in
    let answer = IsPromotedAnswer g.F.LayoutHandle.layout_of g.FieldIdx.Idx.at g.FieldIdx.Idx.number (g.VariantIdx.Idx.at 0) (g.Cx.HasDataLayout.target c.args.self.now.cx) c.args.prefix_layouts c.state_tag-tag.result c.tag_to_layout-field.result (items_of c.args.local_layouts) states
    (promoted_of states c.args.storage_conflicts.now) in (
      c.state_tag-tag.result,
      subst (λ s. IsStateTag (length s) c.state_tag-tag.result) c.as_raw-states.ensures.items c.state_tag-tag.ensures,
      c.tag_to_layout-field.result,
      c.tag_to_layout-field.ensures,
      no_memory answer c.from_residual.result c.from_residual.ensures.1 (inr (inr refl)),
    )

pub returns-in_err-promoted-clause-sized : goal.returns-in_err-promoted-clause-sized
returns-in_err-promoted-clause-sized g c tag is =
    let lo = g.F.LayoutHandle.layout_of in
    let dl : TargetDataLayout = g.Cx.HasDataLayout.target c.args.self.now.cx in
    let states : List (List ℕ) = map (map g.LocalIdx.Idx.number) (items_of c.args.variant_fields) in
    no_memory (IsSizedCoroutine dl (map lo c.args.prefix_layouts) (scalar_layout (g.VariantIdx.Idx.at 0) dl tag) (map lo (items_of c.args.local_layouts)) states c.args.storage_conflicts.now)
    c.from_residual.result c.from_residual.ensures.1
    (record { size = tt; overlap = λ may. tt; too_large = λ large. absurd (cc); refused = λ front rest large. inr refl; no_other = λ front rest. inr refl })

pub returns : goal.returns
returns g c =
    let lo = g.F.LayoutHandle.layout_of in
    let at = g.FieldIdx.Idx.at in
    let number = g.FieldIdx.Idx.number in
    let first = g.VariantIdx.Idx.at 0 in
    let dl : TargetDataLayout = g.Cx.HasDataLayout.target c.args.self.now.cx in
    let before = map lo c.args.prefix_layouts in
    let conflicts = c.args.storage_conflicts.now in
    let tag = c.state_tag-tag.result in
    let field = c.tag_to_layout-field.result in
    let result = c.layout_of_promoted.result in
    let locals = items_of c.args.local_layouts in
    let all = map lo locals in
    let states : List (List ℕ) = map (map g.LocalIdx.Idx.number) (items_of c.args.variant_fields) in
    let promoted = promoted_of states conflicts in
    let fields = sym c.as_raw-locals.ensures.items in
    let known = rw (c.as_raw-states.ensures.items) at c.in_ok-promoted.ensures.exact in
    let is : IsStateTag (length (items_of c.args.variant_fields)) tag = subst (λ s. IsStateTag (length s) tag) c.as_raw-states.ensures.items c.state_tag-tag.ensures in
    let answer : IsPromotedAnswer lo at number first dl c.args.prefix_layouts tag field locals states promoted result = rw (sym known, fields, sym c.as_raw-states.ensures.items) c.layout_of_promoted.ensures.exact in
    let sized : IsSizedPromoted dl before (scalar_layout first dl tag) all states promoted result = rw (sym known, fields, sym c.as_raw-states.ensures.items) c.layout_of_promoted.ensures.sized in
    let by : (t : Scalar) → IsStateTag (length (items_of c.args.variant_fields)) t → IsSizedPromoted dl before (scalar_layout first dl t) all states promoted result
    = λ t same. subst (λ t. IsSizedPromoted dl before (scalar_layout first dl t) all states promoted result) (one_tag (length (items_of c.args.variant_fields)) tag t is same) sized in
    let holds : lo field ≡ scalar_layout first dl tag = c.requires.tag tag field is c.tag_to_layout-field.ensures in
    let is_state_tag : IsStateTag (length states) tag = subst (λ n. IsStateTag n tag) (sym (length-map (items_of c.args.variant_fields) (map g.LocalIdx.Idx.number))) is in
    let asked : IsAsked lo first dl c.args.prefix_layouts tag field locals states
    = record { law = c.requires.data_layout; before = c.requires.prefix; all = c.requires.locals; is_state_tag = is_state_tag; holds = holds } in
    record {
      exact = (tag, is, field, c.tag_to_layout-field.ensures, answer);
      lawful = c.layout_of_promoted.ensures.lawful;
      good = coroutine_good at number first dl before all states conflicts result
          (coroutine_niche lo at number first dl c.args.prefix_layouts tag field locals states conflicts result answer)
          (coroutine_view lo at number first dl c.args.prefix_layouts tag field locals states conflicts result answer)
          (coroutine_align lo at number first dl c.args.prefix_layouts tag field locals states conflicts holds is_state_tag result answer)
          (coroutine_marks lo at number first dl c.args.prefix_layouts tag field locals states conflicts holds result answer)
          (coroutine_ordered lo at number g.FieldIdx.Idx.MAX_INDEX g.met.FieldIdx.Idx.number_at first dl c.args.prefix_layouts tag field locals states conflicts c.requires.states.rows c.requires.count
          (All-map (AllPairs (λ a b. a ≢ b)) (map g.LocalIdx.Idx.number) (items_of c.args.variant_fields) c.requires.states.once)
          (All-map (All (λ l. l < length locals)) (map g.LocalIdx.Idx.number) (items_of c.args.variant_fields)
          (λ k d short. All-map (λ l. l < length locals) g.LocalIdx.Idx.number (get_or (items_of c.args.variant_fields) k d) (c.requires.states.within k d short)))
          result answer)
          (coroutine_made lo at number first dl c.args.prefix_layouts tag field locals states conflicts holds asked result answer)
          (rw (fields, sym c.as_raw-states.ensures.items) c.layout_of_promoted.ensures.tag_distinguishes)
          (rw (fields, sym c.as_raw-states.ensures.items) (c.layout_of_promoted.ensures.apart conflicts (record { by = c.in_ok-promoted.ensures.exact; rows = c.requires.states.rows ∙ ap length fields; columns = c.requires.states.columns ∙ ap length fields })));
      sized = λ t same. record {
        size = (by t same).size;
        overlap = λ may. overlap_promised dl before (scalar_layout first dl t) all states conflicts result may (by t same).size;
        too_large = (by t same).too_large;
        refused = (by t same).refused;
        no_other = (by t same).no_other;
      };
    }
