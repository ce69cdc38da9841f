-- Each type that is laid out is sized, and its layout is lawful.
use Rattle.std.proofs.Common.{◌≡◌, ◌≢◌, ℕ, ◌+◌, ◌*◌, ◌^◌, ◌<◌, ◌≤◌, Bool, true, false, List, [], ◌∷◌, Option, Some, None, length, map, inl, inr, refl, sym, ap, ◌∙◌, subst, arith, All, Result, Ok, Err, zero, suc}
use Rattle.std.specs.Prelude.{◌⊎◌, ◌||◌, ◌==◌, IfOk, nat_lt, unwrap_or, if◌then◌else◌, slice_index, MatchOption}
use Rattle.std.specs.Int.{next_multiple_of}
use Rattle.std.proofs.lemmas.List.{length-map, map-id}
use Rattle.std.proofs.lemmas.List.Elements.{All-nil, All-cons, All-contains, All-head, All-tail, All-map, All-weaker}
use Rattle.std.proofs.lemmas.Bool.{eqb-false, ltb-true}
use Rattle.abi_base.specs.declared.niche_optimizations.NicheOptimizations.TheVariants.{Enabled}
use Rattle.abi_base.specs.declared.data_layout.TargetDataLayout.{TargetDataLayout}
use Rattle.abi_base.specs.Align.{IsLeastPower, next_exponent, factor_exponent}
use Rattle.abi_base.specs.DataLayout.{IsLawfulDataLayout, size_bound, vector_align_of}
use Rattle.abi_base.proofs.Powers.{factor_divides, least_power}
use Rattle.abi_scalar.specs.declared.variants.Variants.{Variants as LayoutVariants}
use Rattle.abi_scalar.specs.declared.variants.Variants.TheVariants.{Empty, Single, Multiple}
use Rattle.abi_scalar.specs.declared.repr.ReprOptions.{ReprOptions}
use Rattle.abi_scalar.specs.declared.scalar.Scalar.{Scalar}
use Rattle.abi_scalar.specs.declared.niche.Niche.{Niche}
use Rattle.abi_scalar.specs.declared.error.LayoutCalculatorError.{LayoutCalculatorError}
use Rattle.abi_scalar.specs.Lawful.{IsLawfulLayout}
use Rattle.abi_scalar.specs.declared.backend_repr.BackendRepr.{BackendRepr}
use Rattle.abi_scalar.specs.declared.backend_repr.BackendRepr.TheVariants.{Scalar as OneScalar, ScalarPair, SimdScalableVector, SimdVector, Memory}
use Rattle.abi_scalar.specs.Pair.{pair_layout, pair_size, second_offset}
use Rattle.abi_scalar.specs.Repr.{is_abi_fixed}
use Rattle.abi_scalar.specs.Shape.{listed_offsets}
use Rattle.abi_scalar.specs.Simple.{scalar_layout, never_layout, unit_layout}
use Rattle.abi_scalar.specs.View.{union_view}
use Rattle.abi_scalar.proofs.LawfulLemmas.{scalar_lawful, empty_lawful}
use Rattle.abi_scalar.proofs.PairLemmas.{pair_lawful_at}
use Rattle.abi_scalar.proofs.ReadableLemmas.{lawful_readable}
use Rattle.abi_univariant.specs.declared.part.Part.{Part}
use Rattle.abi_univariant.specs.Array.{elements_layout}
use Rattle.abi_univariant.specs.List.{AreSized, HasLawfulAligns}
use Rattle.abi_univariant.specs.ListView.{any_unsized, bulky_parts, bulky_view, kept_view, list_view, pair_view, part_at, two_view}
use Rattle.abi_univariant.specs.Part.{is_unsized, part_of, parts_of}
use Rattle.abi_univariant.specs.LawfulPart.{IsAlignedPart, IsLawfulPart}
use Rattle.abi_univariant.specs.Placement.{IsWellFormedPrefix, IsNonEmptyIfUnsized, align_of, end_from, in_order, fields_repr, size_in, start_of}
use Rattle.abi_univariant.specs.Simd.{if_below, is_tight, lanes_answer, simd_align, simd_answer, simd_view, vector_layout}
use Rattle.abi_univariant.specs.Union.{CountsForView, HasView, IsUnionView, fault_before, first_unsized, sized_fault, union_size}
use Rattle.abi_univariant.proofs.Promised.DeepLemmas.{in_order_of}
use Rattle.abi_univariant.proofs.Promised.OrderedLemmas.{ordered_index, ordered_inside}
use Rattle.abi_univariant.proofs.Placed.FaultLemmas.{clear_of}
use Rattle.abi_univariant.proofs.Views.LawfulList.{made_lawful}
use Rattle.abi_univariant.proofs.Views.Lawful.{array_lawful}
use Rattle.abi_univariant.proofs.Sorted.Least.{align_small}
use Rattle.abi_univariant.proofs.Layouts.ListLemmas.{parts_lawful, repr_lawful}
use Rattle.abi_univariant.proofs.Placed.RunLemmas.{aligned_parts, biased_of}
use Rattle.abi_univariant.specs.Run.{IsInOrder}
use Rattle.abi_univariant.proofs.UnionsVectors.UnionLawful.{union_is_lawful}
use Rattle.abi_univariant.proofs.UnionsVectors.VectorLemmas.{factor_small, lanes_are, lanes_bounded, simd_of_view, simd_viewed, vector_small, vectors_lawful}
use Rattle.abi_calc.specs.declared.enums.strategy.EnumStrategy.{EnumStrategy}
use Rattle.abi_calc.specs.declared.enums.strategy.EnumStrategy.TheVariants.{NoValue, OneList, Several}
use Rattle.abi_calc.specs.Coroutine.Layout.{IsStateTag}
use Rattle.abi_calc.specs.Coroutine.Promotion.{promoted_of}
use Rattle.abi_calc.proofs.CoroutineLemmas.Promised.{IsAsked, IsPromised}
use Rattle.abi_calc.proofs.CoroutineLemmas.Deep.{coroutine_promised, coroutine_told}
use Rattle.abi_calc.specs.Enums.Several.{AreWellFormedTags}
use Rattle.abi_calc.specs.Enums.Answer.{HasOneEach, IsTypeAnswer}
use Rattle.abi_calc.specs.Enums.EnumStrategy.{variant_at, strategy_of}
use Rattle.abi_calc.proofs.EnumLemmas.Deep.{enum_sized}
use Rattle.abi_calc.proofs.EnumLemmas.EnumExtent.{several_some}
use Rattle.rustc_abi.specs.declared.error.LayError.{LayError}
use Rattle.rustc_abi.specs.declared.error.LayError.TheVariants.{SizeOverflow}
use Rattle.abi_types.specs.Ty.Walks.{is_sized}
use Rattle.abi_tree.specs.Tree.{Tree, scalar, pair, never, unit, array, vector, struct, union, enum, coroutine, Trees, no_trees, more_trees, Variants, no_variants, more_variants}
use Rattle.abi_tree.specs.declared.mark.Mark.TheVariants.{Never, Unit}
use Rattle.abi_tree.specs.Placed.{Placed, layout_of, size_of, elements, fields, vector as placed_vector, no_parts, never as placed_never}
use Rattle.abi_scalar.specs.Layout.{Layout}
use Rattle.rustc_abi.specs.ScalarFault.{scalar_fault}
use Rattle.rustc_abi.specs.Error.{named, Follows}
use Rattle.rustc_abi.specs.Laying.{IsListedInOrder, ordered_fault, with_randomize_flag}
use Rattle.rustc_abi.specs.Laying.{IsLaying, AreLaying, IsLaidList, IsUnited, fields_fault, kind_of, lanes_of, one_scalar, pair_answer, placed_by, placed_fields, placed_together, scalar_answer, two_scalars, unless, vector_answer, placed_variants, placed_enum, enum_fault, VariantsLaying, coroutine_fault, placed_coroutine}
use Rattle.rustc_abi.specs.Coroutines.{IsCoroutined, IsStated, conflicts_of}
use Rattle.rustc_abi.specs.Enums.{layouts_of, IsTagIntegerAnswer, numbered_from, IsEnumed, discriminants_of}
use Rattle.rustc_abi.proofs.Unions.CalcLemmas.{after_ok, chosen_ok, named-ok, united_layout}
use Rattle.rustc_abi.proofs.Faults.FaultLemmas.{faultless}
use Rattle.rustc_abi.proofs.Trees.LayLemmas.{faultless_aligns}
use Rattle.rustc_abi.proofs.Trees.OrderLemmas.{in_this_order, ordered_faultless, randomized_aligns}
use Rattle.rustc_abi.proofs.Enums.TagIntegerLemmas.{lawful_tags, one_each}
use Rattle.rustc_abi.proofs.Faults.FaultlessLemmas.{none_equal, all_discriminants, lawful_aligns}
use Rattle.rustc_abi.proofs.Faults.CoroutineFaultLemmas.{conflict_rows, states_once, states_within}
use Rattle.rustc_abi.proofs.Enums.CalculatedLemmas.{calculated_lawful}
use Rattle.abi_scalar.specs.declared.error.LayoutCalculatorError.TheVariants as calculator

-- the type's layout is lawful, and it is sized
abbrev pub IsWhole : TargetDataLayout → Placed → Type 0
IsWhole dl p = IsLawfulLayout dl (layout_of p) × (is_unsized (layout_of p).backend_repr ≡ false)

-- a list is always sized, or has a field
pub some_field : (always_sized : Bool) (ps : List Placed) → IsNonEmptyIfUnsized (kind_of always_sized ps) (length ps)
some_field always_sized [] = tt
some_field true (p ∷ ps) = tt
some_field false (p ∷ ps) = omega arith

-- and has no prefix
pub no_prefix : (always_sized : Bool) (ps : List Placed) (bound : ℕ) → IsWellFormedPrefix (kind_of always_sized ps) bound
no_prefix always_sized [] bound = tt
no_prefix true (p ∷ ps) bound = tt
no_prefix false (p ∷ ps) bound = tt

pub length-asked : (dl : TargetDataLayout) (ps : List Placed) → length (parts_of dl (map layout_of ps)) ≡ length ps
length-asked dl ps = length-map (map layout_of ps) (λ l. part_of dl l) ∙ length-map ps layout_of

pub whole_lawful : (dl : TargetDataLayout) (ps : List Placed) → All (IsWhole dl) ps → All (λ p. IsLawfulLayout dl (layout_of p)) ps
whole_lawful dl ps h = All-weaker (IsWhole dl) (λ p. IsLawfulLayout dl (layout_of p)) (λ p whole. whole.0) ps h

-- what the calculator is asked of these types
pub asked_lawful : (dl : TargetDataLayout) (ps : List Placed) → All (IsWhole dl) ps → All (IsLawfulPart dl) (parts_of dl (map layout_of ps))
asked_lawful dl ps h = parts_lawful layout_of dl ps (whole_lawful dl ps h)

pub asked_aligned : (dl : TargetDataLayout) (ps : List Placed) → All (IsWhole dl) ps → All IsAlignedPart (parts_of dl (map layout_of ps))
asked_aligned dl ps h = aligned_parts dl (parts_of dl (map layout_of ps)) (asked_lawful dl ps h)

pub asked_sized : (dl : TargetDataLayout) (ps : List Placed) → All (IsWhole dl) ps → AreSized (map layout_of ps)
asked_sized dl ps h =
    All-map (λ l. is_unsized l.backend_repr ≡ false) layout_of ps (All-weaker (IsWhole dl) (λ p. is_unsized (layout_of p).backend_repr ≡ false) (λ p whole. whole.1) ps h)

-- both words for a view of sized bytes are one
sized_view : (view : BackendRepr) → is_unsized view ≡ false → is_sized view ≡ true
sized_view (OneScalar s) h = refl
sized_view (ScalarPair a b offset) h = refl
sized_view (SimdScalableVector element count vectors) h = refl
sized_view (SimdVector element count) h = refl
sized_view (Memory true) h = refl
sized_view (Memory false) h = absurd (cc h)

-- ---- the view of sized parts is sized

kept_sized : (fixed : Bool) (view : BackendRepr) → is_unsized (kept_view fixed view) ≡ false
kept_sized true (OneScalar s) = refl
kept_sized false (OneScalar s) = refl
kept_sized true (SimdVector element count) = refl
kept_sized false (SimdVector element count) = refl
kept_sized fixed (ScalarPair a b offset) = refl
kept_sized fixed (SimdScalableVector element count vectors) = refl
kept_sized fixed (Memory sized) = refl

if_sized : (b : Bool) (v w : BackendRepr) → is_unsized v ≡ false → is_unsized w ≡ false → is_unsized (if b then v else w) ≡ false
if_sized true v w h k = h
if_sized false v w h k = k

two_sized : (dl : TargetDataLayout) (size align first : ℕ) (v : BackendRepr) (second : ℕ) (w : BackendRepr) → is_unsized (two_view dl size align first v second w) ≡ false
two_sized dl size align first (OneScalar a) second (OneScalar b) =
    if_sized (nat_lt first second) (pair_view dl size align first a second b) (pair_view dl size align second b first a)
    (if_sized _ (ScalarPair a b (second_offset dl a b)) (Memory true) refl refl) (if_sized _ (ScalarPair b a (second_offset dl b a)) (Memory true) refl refl)
two_sized dl size align first (OneScalar a) second (ScalarPair b c offset) = refl
two_sized dl size align first (OneScalar a) second (SimdScalableVector element count vectors) = refl
two_sized dl size align first (OneScalar a) second (SimdVector element count) = refl
two_sized dl size align first (OneScalar a) second (Memory sized) = refl
two_sized dl size align first (ScalarPair a b offset) second w = refl
two_sized dl size align first (SimdScalableVector element count vectors) second w = refl
two_sized dl size align first (SimdVector element count) second w = refl
two_sized dl size align first (Memory sized) second w = refl

bulky_sized : (dl : TargetDataLayout) (fixed : Bool) (size align : ℕ) (parts : List Part) (offsets bulky : List ℕ) → is_unsized (bulky_view dl fixed size align parts offsets bulky) ≡ false
bulky_sized dl fixed size align parts offsets [] = refl
bulky_sized dl fixed size align parts offsets (i ∷ []) = if_sized _ (kept_view fixed (part_at parts i).view) (Memory true) (kept_sized fixed (part_at parts i).view) refl
bulky_sized dl fixed size align parts offsets (i ∷ j ∷ []) = two_sized dl size align (slice_index offsets i) (part_at parts i).view (slice_index offsets j) (part_at parts j).view
bulky_sized dl fixed size align parts offsets (i ∷ j ∷ k ∷ more) = refl

none_unsized : (dl : TargetDataLayout) (ls : List Layout) → AreSized ls → any_unsized (parts_of dl ls) ≡ false
none_unsized dl [] h = refl
none_unsized dl (l ∷ ls) h =
    ap (λ b. b || any_unsized (parts_of dl ls)) (All-head (λ l. is_unsized l.backend_repr ≡ false) l ls h)
    ∙ none_unsized dl ls (All-tail (λ l. is_unsized l.backend_repr ≡ false) l ls h)

view_sized : (dl : TargetDataLayout) (fixed : Bool) (size align : ℕ) (ls : List Layout) (offsets : List ℕ) → AreSized ls → is_unsized (list_view dl fixed size align (parts_of dl ls) offsets) ≡ false
view_sized dl fixed size align ls offsets h =
    rw (none_unsized dl ls h)
    (if_sized (size == 0) (Memory true) (bulky_view dl fixed size align (parts_of dl ls) offsets (bulky_parts (parts_of dl ls))) refl
    (bulky_sized dl fixed size align (parts_of dl ls) offsets (bulky_parts (parts_of dl ls))))

-- a union's view is sized
of_union_sized : (view : BackendRepr) → is_unsized (union_view view) ≡ false
of_union_sized (OneScalar s) = refl
of_union_sized (ScalarPair a b offset) = refl
of_union_sized (SimdScalableVector element count vectors) = refl
of_union_sized (SimdVector element count) = refl
of_union_sized (Memory sized) = refl

union_sized : (dl : TargetDataLayout) (repr : ReprOptions) (ls : List Layout) (view : BackendRepr) → IsUnionView dl repr ls view → is_unsized view ≡ false
union_sized dl repr ls view (inl kept) =
    let f = kept.common.1.some in
    let is = All-contains (λ l. CountsForView l → HasView view kept.common.0 l) ls f.0 kept.common.1.all f.1 f.2 in
    subst (λ v. is_unsized v ≡ false) is.0 (of_union_sized f.0.backend_repr)
union_sized dl repr ls view (inr memory) = ap is_unsized memory.0

-- ---- vectors

tight_or_not : (dl : TargetDataLayout) (tight : Bool) (size : ℕ) → IsLawfulDataLayout dl → 1 ≤ size → size ≤ 2 ^ 29
    → (if tight then factor_exponent size else vector_align_of dl size) ≤ 29
tight_or_not dl true size law some most = factor_small size (factor_exponent size) some most (factor_divides 64 size)
tight_or_not dl false size law some most =
    vector_small dl size (vector_align_of dl size) law most (λ a e. ap (λ o. unwrap_or o (next_exponent size)) e)
    (λ e. subst (IsLeastPower size) (sym (ap (λ o. unwrap_or o (next_exponent size)) e)) (least_power size (omega arith)))

view_of_lanes : (tight : Bool) (s : Scalar) (n : ℕ) → is_unsized (if tight then Memory true else SimdVector s n) ≡ false
view_of_lanes true s n = refl
view_of_lanes false s n = refl

vector_whole : (dl : TargetDataLayout) (element layout : Layout) (count : ℕ) (packed : Bool) → IsLawfulDataLayout dl → IsLawfulLayout dl element
    → simd_answer {H = Layout} (λ l. l) 0 0 dl element count packed ≡ Ok layout → IsLawfulLayout dl layout × (is_unsized layout.backend_repr ≡ false)
vector_whole dl element layout count packed law lawful e =
    let whole = after_ok (lanes_answer {H = Layout} (λ l. l) (size_bound dl) element count) _ layout e in
    let lanes = whole.0 in
    let are = lanes_are {H = Layout} (λ l. l) (size_bound dl) element count lanes (sym whole.1) in
    let bounded = lanes_bounded dl element count lanes lawful are in
    let align : simd_align dl packed lanes ≤ 29 = tight_or_not dl (is_tight packed lanes.count) lanes.size law bounded.some (omega (arith, bounded.most)) in
    let made = vector_layout 0 0 element (simd_view packed lanes) lanes.size (simd_align dl packed lanes) lanes.count in
    let all = vectors_lawful {H = Layout} dl element count lanes 0 0 (simd_view packed lanes) lanes.size (simd_align dl packed lanes) (if_below (size_bound dl) made) lawful are (omega arith) align
    (λ n h. simd_viewed dl packed lanes n h) (λ n. simd_of_view packed lanes n) refl in
    let last = chosen_ok (nat_lt made.size (size_bound dl)) made layout calculator.SizeOverflow whole.2 in (
      subst (λ r. IfOk r (IsLawfulLayout dl)) whole.2 all,
      subst (λ (l : Layout). is_unsized l.backend_repr ≡ false) last.1 (view_of_lanes (is_tight packed lanes.count) lanes.scalar lanes.count),
    )

-- each variant's types are lawful, where they are whole
pub each_lawful : (dl : TargetDataLayout) (variants : List (List Placed)) → All (All (IsWhole dl)) variants → All (All (λ p. IsLawfulLayout dl (layout_of p))) variants
each_lawful dl variants h = All-weaker (All (IsWhole dl)) (All (λ p. IsLawfulLayout dl (layout_of p))) (λ ps whole. whole_lawful dl ps whole) variants h

-- an enum has its layout
pub layout_of-variants : (dl : TargetDataLayout) (repr : ReprOptions) (numbers : List ℕ) (variants : List (List Placed)) (layout : Layout) (vs : LayoutVariants ℕ ℕ) → layout_of (placed_variants dl repr numbers variants layout vs) ≡ layout
layout_of-variants dl repr numbers variants layout Empty = refl
layout_of-variants dl repr numbers variants layout (Single i) = refl
layout_of-variants dl repr numbers variants layout (Multiple tag encoding field layouts) = refl

-- the answer to fields whose own fault is this, laid out by this relation and put together so
abbrev pub AnswersBy : Option LayError → (Result Layout LayError → Type 0) → (Layout → Placed) → Result Placed LayError → Type 0
AnswersBy fault P make r = MatchOption fault (Follows P (λ layout z. z ≡ Ok (make layout)) r) (λ e. r ≡ Err e)

-- what is laid out has no fault of its own, and a layout
pub laid_by : (fault : Option LayError) (P : Result Layout LayError → Type 0) (make : Layout → Placed) (p : Placed) → AnswersBy fault P make (Ok p) → (layout : Layout) × P (Ok layout) × (make layout ≡ p) × (fault ≡ None)
laid_by None P make p (inl f) = absurd (cc f.2)
laid_by None P make p (inr (layout, made, e)) = (layout, made, cc, refl)
laid_by (Some f) P make p e = absurd (cc)

-- the answer to a coroutine whose own fault is this
abbrev pub CoroutineAnswersBy : TargetDataLayout → (pres ps : List Placed) → (states : List (List ℕ)) → (conflicts : List (ℕ × ℕ)) → Option LayError → Result Placed LayError → Type 0
CoroutineAnswersBy dl pres ps states conflicts fault r =
    MatchOption fault
    ((tag : Scalar) × IsStateTag (length states) tag
    × Follows (IsCoroutined dl pres tag (one_scalar dl tag) ps states conflicts) (λ layout z. z ≡ Ok (placed_coroutine dl pres tag ps states layout)) r)
    (λ e. r ≡ Err e)

module _ (dl : TargetDataLayout) (law : IsLawfulDataLayout dl) where
  -- ---- the variants of an enum

  module _ (repr : ReprOptions) (numbers : List ℕ) (variants : List (List Placed)) (none : enum_fault dl repr numbers variants ≡ None) (long : length numbers ≡ length variants) where
    -- the question for its tag's integer has a lawful answer
    pub tags_of : AreWellFormedTags (λ v. v) dl repr (IsTagIntegerAnswer dl repr) (layouts_of variants) (numbered_from 0 numbers)
    tags_of = lawful_tags dl law repr numbers (layouts_of variants) (none_equal dl repr numbers variants none) (all_discriminants dl repr numbers variants none)

    pub each_of : HasOneEach (λ v. v) (length variants) (numbered_from 0 numbers)
    each_of = one_each numbers (length variants) long

    pub aligns_of : HasLawfulAligns repr
    aligns_of = lawful_aligns dl repr numbers variants none

    sized_at : (all : List (List Placed)) (i : ℕ) → All (All (IsWhole dl)) all → AreSized (map layout_of (variant_at all i))
    sized_at [] i h = All-nil (λ l. is_unsized l.backend_repr ≡ false)
    sized_at (ps ∷ all) zero h = asked_sized dl ps (All-head (All (IsWhole dl)) ps all h)
    sized_at (ps ∷ all) (suc i) h = sized_at all i (All-tail (All (IsWhole dl)) ps all h)

    sized_by : All (All (IsWhole dl)) variants → (strategy : EnumStrategy) → strategy_of true repr (layouts_of variants) ≡ strategy → (l : Layout) →
        IsTypeAnswer layout_of (λ i. i) (λ i. i) (λ i. i) (λ i. i) dl repr variants true true Enabled (IsTagIntegerAnswer dl repr) (λ items. items ≡ numbered_from 0 numbers) strategy (Ok l) →
        is_unsized l.backend_repr ≡ false
    sized_by whole NoValue strategy l h = let same : never_layout dl ≡ l = cc in subst (λ (m : Layout). is_unsized m.backend_repr ≡ false) same refl
    sized_by whole (OneList i) strategy l h =
        let made = h.1.2 in
        let sized : is_unsized h.0.backend_repr ≡ false =
        ap is_unsized made.view ∙ view_sized dl (is_abi_fixed repr) h.0.size h.0.align.abi (map layout_of (variant_at variants i)) h.1.1 (sized_at variants i whole) in
        subst (λ (m : Layout). is_unsized m.backend_repr ≡ false) (sym h.2) sized
    sized_by whole Several strategy l h =
        enum_sized layout_of dl law repr (IsTagIntegerAnswer dl repr) variants (numbered_from 0 numbers) aligns_of (each_lawful dl variants whole) (several_some layout_of repr variants true strategy) each_of tags_of l h

    -- its layout is lawful, and it is sized
    enumed_whole : All (All (IsWhole dl)) variants → (l : Layout) → IsEnumed dl repr numbers variants (Ok l) → IsWhole dl (placed_enum dl repr numbers variants l)
    enumed_whole whole l h =
        let lawful = calculated_lawful dl law repr numbers variants aligns_of (each_lawful dl variants whole) each_of tags_of l h in
        let sized = sized_by whole (strategy_of true repr (layouts_of variants)) refl l h in
        let same : layout_of (placed_enum dl repr numbers variants l) ≡ l = layout_of-variants dl repr numbers variants l l.variants in
        (subst (IsLawfulLayout dl) (sym same) lawful, subst (λ (m : Layout). is_unsized m.backend_repr ≡ false) (sym same) sized)

  -- there is a discriminant for each variant that is laid out
  pub numbers_for : (all : Variants) (variants : List (List Placed)) → VariantsLaying dl all (Ok variants) → length (discriminants_of all) ≡ length variants
  numbers_for no_variants variants h = let none : [] ≡ variants = cc in ap length none
  numbers_for (more_variants d ts others) variants (inl f) = absurd (cc f.2)
  numbers_for (more_variants d ts others) variants (inr (ps, here, inl f)) = absurd (cc f.2)
  numbers_for (more_variants d ts others) variants (inr (ps, here, inr (rest, later, e))) =
      let same : ps ∷ rest ≡ variants = cc in
      ap suc (numbers_for others rest later) ∙ ap length same

  -- what an answer is where it is no refusal
  pub no_fault : (fault : Option LayError) (r : Result Placed LayError) (p : Placed) → Ok p ≡ unless fault r → (fault ≡ None) × (Ok p ≡ r)
  no_fault None r p e = (refl, e)
  no_fault (Some f) r p e = absurd (cc)

  pub fitted : (b : Bool) (q p : Placed) (e : LayError) → Ok p ≡ (if b then Ok q else Err e) → (b ≡ true) × (p ≡ q)
  fitted true q p e h = (refl, cc)
  fitted false q p e h = absurd (cc)

  whole_scalar : (s : Scalar) (p : Placed) → Ok p ≡ scalar_answer dl s → IsWhole dl p
  whole_scalar s p e =
      let one = no_fault (scalar_fault dl s) (Ok (one_scalar dl s)) p e in
      let lawful = faultless dl s one.0 in
      let same : one_scalar dl s ≡ p = cc in
      subst (IsWhole dl) same (scalar_lawful dl s (scalar_layout 0 dl s) (lawful_readable dl s lawful) law lawful refl refl refl refl tt, refl)

  whole_pair : (a b : Scalar) (p : Placed) → Ok p ≡ pair_answer dl a b → IsWhole dl p
  whole_pair a b p e =
      let one = no_fault (scalar_fault dl a) (unless (scalar_fault dl b) (if nat_lt (pair_size dl a b) (size_bound dl) then Ok (two_scalars dl a b) else Err SizeOverflow)) p e in
      let two = no_fault (scalar_fault dl b) (if nat_lt (pair_size dl a b) (size_bound dl) then Ok (two_scalars dl a b) else Err SizeOverflow) p one.1 in
      let fits = fitted (nat_lt (pair_size dl a b) (size_bound dl)) (two_scalars dl a b) p SizeOverflow two.1 in
      let la = faultless dl a one.0 in
      let lb = faultless dl b two.0 in
      subst (IsWhole dl) (sym fits.1) (
        pair_lawful_at 0 0 1 dl a b (pair_layout 0 0 1 dl a b) (lawful_readable dl a la) (lawful_readable dl b lb) law la lb
            (ltb-true (pair_size dl a b) (size_bound dl) fits.0) refl,
        refl,
      )

  whole_never : IsWhole dl (placed_never (never_layout dl) Never)
  whole_never = (empty_lawful dl true (never_layout dl) law refl refl refl refl tt, refl)

  whole_unit : IsWhole dl (fields (unit_layout 0 dl true) Unit no_parts)
  whole_unit = (empty_lawful dl true (unit_layout 0 dl true) law refl refl refl refl tt, refl)

  kept_niche : (none : Bool) (count : ℕ) (niche : Option Niche) → (none ≡ false → count ≢ 0)
      → ((if none then None else niche) ≡ None) ⊎ (((if none then None else niche) ≡ niche) × (0 < count))
  kept_niche true count niche some = inl refl
  kept_niche false count niche some = let there = some refl in inr (refl, omega arith)

  array_whole : (count : ℕ) (element : Layout) → IsLawfulLayout dl element → element.size * count < size_bound dl → IsLawfulLayout dl (elements_layout 0 true count element)
  array_whole count element h below =
      array_lawful dl element (elements_layout 0 true count element) 0 true count h refl below refl (kept_niche (count == 0) count element.largest_niche (λ e. eqb-false count 0 e)) refl refl

  whole_elements : (b : Bool) (count : ℕ) (element p : Placed) → IsWhole dl element → b ≡ nat_lt (size_of element * count) (size_bound dl) →
      Ok p ≡ placed_by (λ layout. elements layout count element) (named {H = ℕ} (if b then Ok (elements_layout 0 true count (layout_of element)) else Err calculator.SizeOverflow)) → IsWhole dl p
  whole_elements true count element p h below e =
      let same : elements (elements_layout 0 true count (layout_of element)) count element ≡ p = cc in
      subst (IsWhole dl) same (array_whole count (layout_of element) h.0 (ltb-true (size_of element * count) (size_bound dl) (sym below)), refl)
  whole_elements false count element p h below e = absurd (cc)

  -- a list in an allowed order, with the view of its fields
  in_order_whole : (repr : ReprOptions) (always_sized : Bool) (ps : List Placed) (order offsets : List ℕ) (layout : Layout) → HasLawfulAligns repr → All (IsWhole dl) ps →
      IsInOrder dl (fields_repr dl repr (kind_of always_sized ps)) (parts_of dl (map layout_of ps)) order offsets layout.size layout.align.abi layout.largest_niche →
      layout.backend_repr ≡ list_view dl (is_abi_fixed repr) layout.size layout.align.abi (parts_of dl (map layout_of ps)) offsets → layout.variants ≡ Single 0 →
      IsLawfulLayout dl layout × (is_unsized layout.backend_repr ≡ false)
  in_order_whole repr always_sized ps order offsets layout aligns h made view alone =
      let kind = kind_of always_sized ps in
      let list = fields_repr dl repr kind in
      let parts = parts_of dl (map layout_of ps) in
      let some = subst (IsNonEmptyIfUnsized kind) (sym (length-asked dl ps)) (some_field always_sized ps) in
      let lawful = repr_lawful dl repr kind (length parts) law aligns (no_prefix always_sized ps (size_bound dl)) some in
      let small : align_of list parts ≤ 29 = align_small list parts (length parts) (size_bound dl) (asked_aligned dl ps h) lawful in
      let last : ℕ = end_from list.pack (start_of list.pack list.kind) (in_order parts order) in
      let size : layout.size ≡ next_multiple_of last (2 ^ layout.align.abi) = made.placed.extent ∙ ap (λ a. next_multiple_of last (2 ^ a)) (sym made.placed.alignment) in
      let below : size_in list parts order < size_bound dl = (clear_of list (size_bound dl) parts order made.placed.faultless).1 in (
        made_lawful dl layout 0 last layout.align.abi (is_abi_fixed repr) parts offsets (asked_lawful dl ps h) refl (omega (arith, made.placed.alignment, small)) size
            (omega (arith, below, made.placed.extent))
            (ordered_inside dl list parts order offsets layout.size layout.align.abi layout.largest_niche (asked_lawful dl ps h) made)
            (ordered_index dl list parts order offsets layout.size layout.align.abi layout.largest_niche made) view alone,
        rw view (view_sized dl (is_abi_fixed repr) layout.size layout.align.abi (map layout_of ps) offsets (asked_sized dl ps h)),
      )

  listed_whole : (repr : ReprOptions) (always_sized : Bool) (ps : List Placed) (layout : Layout) → fields_fault repr ps ≡ None → All (IsWhole dl) ps →
      IsLaidList dl repr (kind_of always_sized ps) (map layout_of ps) (Ok layout) → IsWhole dl (placed_fields repr ps layout)
  listed_whole repr always_sized ps layout none h listed =
      let kind = kind_of always_sized ps in
      let list = fields_repr dl repr kind in
      let parts = parts_of dl (map layout_of ps) in
      let made = biased_of dl list parts listed.0 listed.1 layout.size layout.align.abi layout.largest_niche listed.2.named in
      let some = subst (IsNonEmptyIfUnsized kind) (sym (length-asked dl ps)) (some_field always_sized ps) in
      in_order_whole repr always_sized ps listed.0 listed.1 layout (faultless_aligns repr ps none) h
      (in_order_of dl list parts listed.0 listed.1 layout.size layout.align.abi layout.largest_niche some made) listed.2.view listed.2.variants

  ordered_whole : (repr : ReprOptions) (always_sized : Bool) (order : List ℕ) (ps : List Placed) (layout : Layout) → ordered_fault repr ps ≡ None → All (IsWhole dl) ps →
      IsListedInOrder dl (with_randomize_flag repr) (kind_of always_sized ps) order (map layout_of ps) (Ok layout) → IsWhole dl (placed_fields repr ps layout)
  ordered_whole repr always_sized order ps layout none h listed =
      in_order_whole (with_randomize_flag repr) always_sized ps order listed.0 layout (randomized_aligns repr (faultless_aligns repr ps (ordered_faultless repr ps none).0)) h
      (in_this_order dl (with_randomize_flag repr) (kind_of always_sized ps) order ps layout listed) listed.1.view listed.1.variants

  answer_whole : (fault : Option LayError) (P : Result Layout LayError → Type 0) (make : Layout → Placed) (p : Placed)
      → (fault ≡ None → (layout : Layout) → P (Ok layout) → IsWhole dl (make layout)) → AnswersBy fault P make (Ok p) → IsWhole dl p
  answer_whole fault P make p each answer =
      let found = laid_by fault P make p answer in
      subst (IsWhole dl) found.2 (each found.3 found.0 found.1)

  fault_none : (none below : Bool) (e f : LayoutCalculatorError Layout) → (if none then Some e else (if below then None else Some f)) ≡ None → below ≡ true
  fault_none true below e f h = absurd (cc)
  fault_none false true e f h = refl
  fault_none false false e f h = absurd (cc)

  later_none : (found : Option Layout) (later : Option (LayoutCalculatorError Layout)) → fault_before found later ≡ None → later ≡ None
  later_none None later e = e
  later_none (Some l) later e = absurd (cc)

  united_whole : (repr : ReprOptions) (ps : List Placed) (layout : Layout) → fields_fault repr ps ≡ None → All (IsWhole dl) ps →
      IsUnited dl repr (map layout_of ps) (Ok layout) → IsWhole dl (placed_together repr ps layout)
  united_whole repr ps layout none h united =
      let ls = map layout_of ps in
      let made = united_layout dl repr ls layout united in
      let unfaulted : sized_fault {H = Layout} dl repr (map (λ (l : Layout). l) ls) ≡ None = later_none (first_unsized (λ (l : Layout). l) ls) (sized_fault dl repr (map (λ (l : Layout). l) ls)) united.0 in
      let below : nat_lt (union_size dl repr ls) (size_bound dl) ≡ true =
      subst (λ xs. nat_lt (union_size dl repr xs) (size_bound dl) ≡ true) (map-id ls) (fault_none (length (map (λ (l : Layout). l) ls) == 0) _ calculator.EmptyUnion calculator.SizeOverflow unfaulted) in
      let size : layout.size ≡ union_size dl repr ls = ap (λ l. l.size) made.1 in (
        union_is_lawful layout_of dl repr ps layout 0 law (whole_lawful dl ps h) (faultless_aligns repr ps none).align (ap (λ l. l.align.abi) made.1) size
            (omega (arith, size, ltb-true (union_size dl repr ls) (size_bound dl) below)) (ap (λ l. l.largest_niche) made.1) (ap (λ l. l.variants) made.1) made.0,
        union_sized dl repr ls layout.backend_repr made.0,
      )

  -- ---- the lists of a coroutine

  -- one that is laid out has no fault of its own, and the calculator's layout
  pub coroutine_laid : (pres ps : List Placed) (states : List (List ℕ)) (conflicts : List (ℕ × ℕ)) (fault : Option LayError) (p : Placed) → CoroutineAnswersBy dl pres ps states conflicts fault (Ok p)
      → (tag : Scalar) × IsStateTag (length states) tag × (layout : Layout) × IsStated dl pres tag (one_scalar dl tag) ps states conflicts (Ok layout)
      × (placed_coroutine dl pres tag ps states layout ≡ p) × (fault ≡ None)
  coroutine_laid pres ps states conflicts None p (tag, is_state_tag, inl f) = absurd (cc f.2)
  coroutine_laid pres ps states conflicts None p (tag, is_state_tag, inr (layout, stated, e)) = (tag, is_state_tag, layout, stated, cc, refl)
  coroutine_laid pres ps states conflicts (Some f) p e = absurd (cc)

  module _ (pres ps : List Placed) (states : List (List ℕ)) (conflicts : List (ℕ × ℕ)) (before : All (λ p. IsLawfulLayout dl (layout_of p)) pres) (there : All (λ p. IsLawfulLayout dl (layout_of p)) ps) where
    -- what a coroutine's layout is asked of
    pub coroutine_asked : (tag : Scalar) → IsStateTag (length states) tag → IsAsked layout_of 0 dl pres tag (one_scalar dl tag) ps states
    coroutine_asked tag is_state_tag = record { law = law; before = before; all = there; is_state_tag = is_state_tag; holds = refl }

    -- and what is promised of the answer
    pub stated_promised : (tag : Scalar) → IsStateTag (length states) tag → (r : Result Layout (LayoutCalculatorError Placed)) → IsStated dl pres tag (one_scalar dl tag) ps states conflicts r
        → IsPromised layout_of (λ i. i) (λ i. i) 0 dl pres tag (one_scalar dl tag) ps states (promoted_of states (conflicts_of (length ps) conflicts)) r
    stated_promised tag is_state_tag r h = coroutine_promised layout_of dl pres tag (one_scalar dl tag) ps states (conflicts_of (length ps) conflicts) (coroutine_asked tag is_state_tag) r h

    -- its layout is lawful, and it is sized
    stated_whole : (tag : Scalar) → IsStateTag (length states) tag → (layout : Layout) → IsStated dl pres tag (one_scalar dl tag) ps states conflicts (Ok layout)
        → IsWhole dl (placed_coroutine dl pres tag ps states layout)
    stated_whole tag is_state_tag layout h =
        let sized : is_unsized layout.backend_repr ≡ false = ap (λ (l : Layout). is_unsized l.backend_repr) h.5 in (IsPromised.lawful (stated_promised tag is_state_tag (Ok layout) h), sized)

    coroutine_whole : (fault : Option LayError) (p : Placed) → CoroutineAnswersBy dl pres ps states conflicts fault (Ok p) → IsWhole dl p
    coroutine_whole fault p h =
        let found = coroutine_laid pres ps states conflicts fault p h in
        subst (IsWhole dl) found.4 (stated_whole found.0 found.1 found.2 found.3)

    -- its prefix fields and its tag have offsets
    pub stated_offsets : coroutine_fault (length pres) (length ps) states conflicts ≡ None → (tag : Scalar) → IsStateTag (length states) tag → (layout : Layout) → IsStated dl pres tag (one_scalar dl tag) ps states conflicts (Ok layout)
        → length (listed_offsets layout.fields) ≡ length pres + 1
    stated_offsets none tag is_state_tag layout h =
        let tag_distinguishes =
        coroutine_told layout_of dl pres tag (one_scalar dl tag) ps states (conflicts_of (length ps) conflicts) (coroutine_asked tag is_state_tag) (states_within (length pres) (length ps) states conflicts none) (conflict_rows (length ps) conflicts)
        (states_once (length pres) (length ps) states conflicts none) layout h in
        ap (λ shape. length (listed_offsets shape)) tag_distinguishes.fields ∙ tag_distinguishes.count ∙ ap (λ n. n + 1) (length-map pres layout_of)

  pub placed_back : (make : Layout → Placed) (r : Result Layout LayError) (p : Placed) → Ok p ≡ placed_by make r → (layout : Layout) × (r ≡ Ok layout) × (make layout ≡ p)
  placed_back make (Ok layout) p e = (layout, refl, cc)
  placed_back make (Err f) p e = absurd (cc)

  whole_vector : (lanes : ℕ) (packed : Bool) (element p : Placed) → IsWhole dl element → Ok p ≡ vector_answer dl lanes packed element → IsWhole dl p
  whole_vector lanes packed element p h e =
      let found = placed_back (λ layout. placed_vector layout (lanes_of lanes element)) (named (simd_answer {H = Layout} (λ l. l) 0 0 dl (layout_of element) lanes packed)) p e in
      subst (IsWhole dl) found.2 (vector_whole dl (layout_of element) found.0 lanes packed law h.0 (named-ok _ found.0 found.1))

  mutual
    -- a type that is laid out
    pub laid_whole : (t : Tree) (p : Placed) → IsLaying dl t (Ok p) → IsWhole dl p
    laid_whole (scalar s) p h = whole_scalar s p h
    laid_whole (pair a b) p h = whole_pair a b p h
    laid_whole never p h = let same : placed_never (never_layout dl) Never ≡ p = cc in subst (IsWhole dl) same whole_never
    laid_whole unit p h = let same : fields (unit_layout 0 dl true) Unit no_parts ≡ p = cc in subst (IsWhole dl) same whole_unit
    laid_whole (array count element) p (inl f) = absurd (cc f.2)
    laid_whole (array count element) p (inr (q, there, e)) =
        whole_elements (nat_lt (size_of q * count) (size_bound dl)) count q p (laid_whole element q there) refl e
    laid_whole (struct repr always_sized order all) p (inl f) = absurd (cc f.2)
    laid_whole (struct repr always_sized None all) p (inr (ps, there, answer)) =
        answer_whole (fields_fault repr ps) (IsLaidList dl repr (kind_of always_sized ps) (map layout_of ps)) (placed_fields repr ps) p
        (λ none layout listed. listed_whole repr always_sized ps layout none (all_whole all ps there) listed) answer
    laid_whole (struct repr always_sized (Some order) all) p (inr (ps, there, answer)) =
        answer_whole (ordered_fault repr ps) (IsListedInOrder dl (with_randomize_flag repr) (kind_of always_sized ps) order (map layout_of ps)) (placed_fields repr ps) p
        (λ none layout listed. ordered_whole repr always_sized order ps layout none (all_whole all ps there) listed) answer
    laid_whole (vector lanes packed element) p (inl f) = absurd (cc f.2)
    laid_whole (vector lanes packed element) p (inr (q, there, e)) = whole_vector lanes packed q p (laid_whole element q there) e
    laid_whole (union repr all) p (inl f) = absurd (cc f.2)
    laid_whole (union repr all) p (inr (ps, there, answer)) =
        answer_whole (fields_fault repr ps) (IsUnited dl repr (map layout_of ps)) (placed_together repr ps) p
        (λ none layout united. united_whole repr ps layout none (all_whole all ps there) united) answer
    laid_whole (enum repr all) p (inl f) = absurd (cc f.2)
    laid_whole (enum repr all) p (inr (variants, there, answer)) =
        answer_whole (enum_fault dl repr (discriminants_of all) variants) (IsEnumed dl repr (discriminants_of all) variants) (placed_enum dl repr (discriminants_of all) variants) p
        (λ none layout enumed. enumed_whole repr (discriminants_of all) variants none (numbers_for all variants there) (variants_whole all variants there) layout enumed) answer
    laid_whole (coroutine prefix locals states conflicts) p (inl f) = absurd (cc f.2)
    laid_whole (coroutine prefix locals states conflicts) p (inr (pres, before, inl f)) = absurd (cc f.2)
    laid_whole (coroutine prefix locals states conflicts) p (inr (pres, before, inr (ps, there, answer))) =
        coroutine_whole pres ps states conflicts (whole_lawful dl pres (all_whole prefix pres before)) (whole_lawful dl ps (all_whole locals ps there)) (coroutine_fault (length pres) (length ps) states conflicts) p answer

    pub all_whole : (ts : Trees) (ps : List Placed) → AreLaying dl ts (Ok ps) → All (IsWhole dl) ps
    all_whole no_trees ps h = let none : [] ≡ ps = cc in subst (All (IsWhole dl)) none (All-nil (IsWhole dl))
    all_whole (more_trees t ts) ps (inl f) = absurd (cc f.2)
    all_whole (more_trees t ts) ps (inr (p, here, inl f)) = absurd (cc f.2)
    all_whole (more_trees t ts) ps (inr (p, here, inr (rest, later, e))) =
        let same : p ∷ rest ≡ ps = cc in
        subst (All (IsWhole dl)) same (All-cons (IsWhole dl) p rest (laid_whole t p here) (all_whole ts rest later))

    pub variants_whole : (all : Variants) (variants : List (List Placed)) → VariantsLaying dl all (Ok variants) → All (All (IsWhole dl)) variants
    variants_whole no_variants variants h = let none : [] ≡ variants = cc in subst (All (All (IsWhole dl))) none (All-nil (All (IsWhole dl)))
    variants_whole (more_variants d ts others) variants (inl f) = absurd (cc f.2)
    variants_whole (more_variants d ts others) variants (inr (ps, here, inl f)) = absurd (cc f.2)
    variants_whole (more_variants d ts others) variants (inr (ps, here, inr (rest, later, e))) =
        let same : ps ∷ rest ≡ variants = cc in
        subst (All (All (IsWhole dl))) same (All-cons (All (IsWhole dl)) ps rest (all_whole ts ps here) (variants_whole others rest later))

  -- its bytes are sized
  pub laid_sized : (t : Tree) (p : Placed) → IsLaying dl t (Ok p) → is_sized (layout_of p).backend_repr ≡ true
  laid_sized t p h = sized_view (layout_of p).backend_repr (laid_whole t p h).1
