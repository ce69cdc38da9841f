-- What holds of each type that is laid out holds of each type in one.
use Rattle.std.proofs.Common.{◌≡◌, ℕ, ◌+◌, ◌*◌, ◌<◌, ◌≤◌, true, List, [], ◌∷◌, length, map, inl, inr, sym, ap, ◌∙◌}
use Rattle.std.proofs.Common.{subst, arith, refl, All, Bool, None, Some, Ok, zero, suc}
use Rattle.std.specs.Prelude.{nat_lt}
use Rattle.std.proofs.lemmas.List.{length-map}
use Rattle.abi_base.specs.declared.data_layout.TargetDataLayout.{TargetDataLayout}
use Rattle.abi_base.specs.DataLayout.{IsLawfulDataLayout, size_bound}
use Rattle.abi_scalar.specs.declared.repr.ReprOptions.{ReprOptions}
use Rattle.abi_scalar.specs.declared.variants.VariantLayout.{VariantLayout}
use Rattle.abi_scalar.specs.declared.variants.Variants.{Variants as LayoutVariants}
use Rattle.abi_scalar.specs.declared.variants.Variants.TheVariants.{Empty, Multiple, Single}
use Rattle.abi_scalar.specs.Shape.{listed_offsets}
use Rattle.abi_univariant.specs.Array.{elements_layout}
use Rattle.abi_calc.specs.Enums.EnumStrategy.{variant_at}
use Rattle.abi_univariant.specs.Simd.{simd_answer}
use Rattle.abi_tree.specs.Tree.{Tree, scalar, pair, never, unit, array, vector, struct, union, enum, coroutine, Trees, no_trees, more_trees, Variants, no_variants, more_variants}
use Rattle.abi_tree.specs.declared.mark.Mark.{Mark}
use Rattle.abi_tree.specs.Mark.{mark_of}
use Rattle.abi_tree.specs.Placed.{Placed, layout_of, size_of, vector as placed_vector}
use Rattle.abi_scalar.specs.Layout.{Layout}
use Rattle.abi_tree.specs.Nodes.{parts_at, placed_in}
use Rattle.abi_tree.specs.declared.mark.Mark.TheVariants.{Plain}
use Rattle.std.proofs.lemmas.List.FromFn.{length-range_with_len}
use Rattle.abi_scalar.specs.declared.scalar.Scalar.{Scalar}
use Rattle.abi_scalar.specs.Lawful.{IsLawfulLayout}
use Rattle.abi_scalar.specs.Variant.{variants_of as layouts_in}
use Rattle.abi_calc.specs.Coroutine.Layout.{IsStateTag}
use Rattle.abi_calc.specs.Coroutine.Made.{AreStatesOf, IsMadeOfStates}
use Rattle.abi_calc.specs.Coroutine.Promotion.{promoted_of}
use Rattle.abi_univariant.specs.Placement.{source_order}
use Rattle.abi_calc.proofs.CoroutineLemmas.Seen.{coroutine_made}
use Rattle.rustc_abi.specs.Coroutines.{IsStated, conflicts_of}
use Rattle.rustc_abi.proofs.Sizes.EachListLemmas.{state_count}
use Rattle.rustc_abi.specs.Error.{named}
use Rattle.rustc_abi.specs.Enums.{IsEnumed, tagged_variants_at, discriminants_of}
use Rattle.rustc_abi.specs.Laying.{AreLaying, IsLaying, IsLaidList, IsListedInOrder, IsUnited, VariantsLaying, coroutine_fault, enum_fault}
use Rattle.rustc_abi.specs.Laying.{ordered_fault, with_randomize_flag}
use Rattle.rustc_abi.proofs.Trees.OrderLemmas.{ordered_count}
use Rattle.rustc_abi.specs.Laying.{one_scalar}
use Rattle.rustc_abi.specs.Laying.{fields_fault, kind_of, lanes_of, placed_enum, placed_fields, placed_together}
use Rattle.rustc_abi.specs.Laying.{placed_variants}
use Rattle.rustc_abi.specs.Everywhere.{Everywhere, HaveLocals, OfAbsent, OfTaggedVariants, OfEach, OfVariant, Within}
use Rattle.rustc_abi.proofs.Enums.TaggedVariantsLemmas.{EachApart}
use Rattle.rustc_abi.proofs.Sizes.EnumSizeLemmas.{IsShaped, apart_long, enumed_shaped, fields_back}
use Rattle.rustc_abi.proofs.Trees.LaidLemmas.{all_whole, whole_lawful, coroutine_asked, coroutine_laid, laid_by, numbers_for}
use Rattle.rustc_abi.proofs.Trees.LaidLemmas.{placed_back, stated_offsets, variants_whole}
use Rattle.rustc_abi.proofs.Sizes.LeastLemmas.{listed_count}
use Rattle.rustc_abi.proofs.Sizes.SizeLemmas.{elements_there}

module _ (dl : TargetDataLayout) (P : Tree → Placed → Type 0) where
  -- from the fields of one variant that is left, or of each one beside a tag
  within_variants : (repr : ReprOptions) (all : Variants) (numbers : List ℕ) (variants : List (List Placed)) (l : Layout) (vs : LayoutVariants ℕ ℕ) → IsShaped dl repr numbers variants l vs
      → OfAbsent dl P all
      → ((i : ℕ) (offsets : List ℕ) → i < length variants → length offsets ≡ length (variant_at variants i) → OfVariant dl P all i (parts_at offsets (variant_at variants i)))
      → ((size : ℕ) (layouts : List (VariantLayout ℕ)) → EachApart size variants layouts → OfTaggedVariants dl P all (tagged_variants_at l (mark_of true repr) 0 layouts numbers variants))
      → Within dl P (enum repr all) (placed_variants dl repr numbers variants l vs)
  within_variants repr all numbers variants l Empty h absent each_at each_tagged_variant = absent
  within_variants repr all numbers variants l (Single i) h absent each_at each_tagged_variant =
      each_at i (listed_offsets l.fields) h.0 h.1
  within_variants repr all numbers variants l (Multiple tag encoding field layouts) h absent each_at each_tagged_variant =
      each_tagged_variant l.size layouts h.0

-- each state of a coroutine has the locals that it holds
module _ (ps : List Placed) (promoted : List Bool) (shared ranks : List ℕ) (whole : Layout) (mark : Mark) where
  states_have : (first : ℕ) (numbers : List ℕ) (states : List (List ℕ)) (lists : List Layout)
      (layouts : List (VariantLayout ℕ)) → length numbers ≡ length states
      → AreStatesOf (λ i. i) (λ i. i) promoted shared ranks states lists layouts
      → HaveLocals ps states (tagged_variants_at whole mark first layouts numbers (map (map (placed_in ps)) states))
  states_have first numbers [] [] [] long h = tt
  states_have first numbers [] [] (l ∷ layouts) long h = absurd h
  states_have first numbers [] (x ∷ lists) layouts long h = absurd h
  states_have first numbers (s ∷ states) [] layouts long h = absurd h
  states_have first numbers (s ∷ states) (x ∷ lists) [] long h = absurd h
  states_have first [] (s ∷ states) (x ∷ lists) (l ∷ layouts) long h = absurd (omega (arith, long))
  states_have first (n ∷ numbers) (s ∷ states) (x ∷ lists) (l ∷ layouts) long h =
      let count : length l.field_offsets ≡ length (map (placed_in ps) s) = ap length h.0.offsets
      ∙ state_count promoted shared (listed_offsets x.fields) s ∙ sym (length-map s (placed_in ps)) in (
        fields_back l.field_offsets (map (placed_in ps) s) (omega (arith, count)),
        states_have (first + 1) numbers states lists layouts (omega (arith, long)) h.1,
      )

module _ (dl : TargetDataLayout) (law : IsLawfulDataLayout dl) where
  pub coroutine_has : (pres ps : List Placed) (states : List (List ℕ)) (conflicts : List (ℕ × ℕ))
      → All (λ p. IsLawfulLayout dl (layout_of p)) pres → All (λ p. IsLawfulLayout dl (layout_of p)) ps
      → (tag : Scalar) → IsStateTag (length states) tag → (layout : Layout)
      → IsStated dl pres tag (one_scalar dl tag) ps states conflicts (Ok layout)
      → HaveLocals ps states (tagged_variants_at layout Plain 0 (layouts_in layout.variants) (source_order (length states))
      (map (map (placed_in ps)) states))
  coroutine_has pres ps states conflicts before there tag is_state_tag layout stated =
      let rules = conflicts_of (length ps) conflicts in
      let asked = coroutine_asked dl law pres ps states conflicts before there tag is_state_tag in
      let made : IsMadeOfStates (λ i. i) (λ i. i) 0 dl (map layout_of pres) (map layout_of ps) states rules layout =
      coroutine_made layout_of (λ i. i) (λ i. i) 0 dl pres tag (one_scalar dl tag) ps states rules refl asked
      (Ok layout) stated in
      states_have ps (promoted_of states rules) _ _ layout Plain 0 (source_order (length states)) states made.lists
      (layouts_in layout.variants) (length-range_with_len 0 (length states)) made.layouts

module _ (dl : TargetDataLayout) (law : IsLawfulDataLayout dl) (P : Tree → Placed → Type 0) (each : (t : Tree) (p : Placed) → IsLaying dl t (Ok p) → P t p) where
  mutual
    -- of each type in a type
    within : (t : Tree) (p : Placed) → IsLaying dl t (Ok p) → Within dl P t p
    within (scalar s) p h = tt
    within (pair a b) p h = tt
    within never p h = tt
    within unit p h = tt
    within (array count element) p (inl f) = absurd (cc f.2)
    within (array count element) p (inr (q, there, e)) =
        subst (Within dl P (array count element)) (elements_there (nat_lt (size_of q * count) (size_bound dl)) count (elements_layout 0 true count (layout_of q)) q p e)
        (each element q there, within element q there)
    within (vector lanes packed element) p (inl f) = absurd (cc f.2)
    within (vector lanes packed element) p (inr (q, there, e)) =
        let found = placed_back dl law (λ layout. placed_vector layout (lanes_of lanes q)) (named (simd_answer {H = Layout} (λ l. l) 0 0 dl (layout_of q) lanes packed)) p e in
        subst (Within dl P (vector lanes packed element)) found.2 (each element q there, within element q there)
    within (struct repr always_sized order all) p (inl f) = absurd (cc f.2)
    within (struct repr always_sized None all) p (inr (ps, there, answer)) =
        let found = laid_by (fields_fault repr ps) (IsLaidList dl repr (kind_of always_sized ps) (map layout_of ps)) (placed_fields repr ps) p answer in
        let count = listed_count dl repr always_sized ps (all_whole dl law all ps there) found.0 found.1 in
        subst (Within dl P (struct repr always_sized None all)) found.2 (of_each all ps (listed_offsets found.0.fields) (omega (arith, count)) there)
    within (struct repr always_sized (Some order) all) p (inr (ps, there, answer)) =
        let kind = kind_of always_sized ps in
        let found = laid_by (ordered_fault repr ps) (IsListedInOrder dl (with_randomize_flag repr) kind order (map layout_of ps)) (placed_fields repr ps) p answer in
        let count = ordered_count dl (with_randomize_flag repr) kind order ps found.0 found.1 in
        subst (Within dl P (struct repr always_sized (Some order) all)) found.2 (of_each all ps (listed_offsets found.0.fields) (omega (arith, count)) there)
    within (union repr all) p (inl f) = absurd (cc f.2)
    within (union repr all) p (inr (ps, there, answer)) =
        let found = laid_by (fields_fault repr ps) (IsUnited dl repr (map layout_of ps)) (placed_together repr ps) p answer in
        subst (Within dl P (union repr all)) found.2 (of_each all ps (map (λ q. 0) ps) (omega (arith, length-map {B = ℕ} ps (λ q. 0))) there)
    within (enum repr all) p (inl f) = absurd (cc f.2)
    within (enum repr all) p (inr (variants, there, answer)) =
        let found = laid_by (enum_fault dl repr (discriminants_of all) variants) (IsEnumed dl repr (discriminants_of all) variants) (placed_enum dl repr (discriminants_of all) variants) p answer in
        let shaped = enumed_shaped dl law repr (discriminants_of all) variants found.3 (numbers_for dl law all variants there) (variants_whole dl law all variants there) found.0 found.1 in
        subst (Within dl P (enum repr all)) found.2
        (within_variants dl P repr all (discriminants_of all) variants found.0 found.0.variants shaped
        (of_absent all variants there)
        (λ i offsets short e. of_variant all variants i offsets short e there)
        (λ size layouts apart. of_tagged_variants found.0 (mark_of true repr) 0 all variants size layouts apart there))
    within (coroutine prefix locals states conflicts) p (inl f) = absurd (cc f.2)
    within (coroutine prefix locals states conflicts) p (inr (pres, before, inl f)) = absurd (cc f.2)
    within (coroutine prefix locals states conflicts) p (inr (pres, before, inr (ps, there, answer))) =
        let found = coroutine_laid dl law pres ps states conflicts (coroutine_fault (length pres) (length ps) states conflicts) p answer in
        let first = whole_lawful dl pres (all_whole dl law prefix pres before) in
        let others = whole_lawful dl ps (all_whole dl law locals ps there) in
        let count =
        stated_offsets dl law pres ps states conflicts first others found.5 found.0 found.1 found.2 found.3 in
        let own = of_each locals ps (map (λ q. 0) ps) (omega (arith, length-map {B = ℕ} ps (λ q. 0))) there in
        let held = coroutine_has dl law pres ps states conflicts first others found.0 found.1 found.2 found.3 in
        subst (Within dl P (coroutine prefix locals states conflicts)) found.4
        (of_each prefix pres (listed_offsets found.2.fields) (omega (arith, count)) before, (ps, there, own, held))

    -- of each of these types
    of_each : (ts : Trees) (ps : List Placed) (offsets : List ℕ) → length ps ≤ length offsets → AreLaying dl ts (Ok ps) → OfEach dl P ts (parts_at offsets ps)
    of_each no_trees ps offsets e h = tt
    of_each (more_trees t ts) ps offsets e (inl f) = absurd (cc f.2)
    of_each (more_trees t ts) ps offsets e (inr (p, here, inl f)) = absurd (cc f.2)
    of_each (more_trees t ts) ps [] e (inr (p, here, inr (rest, later, is))) = let same : p ∷ rest ≡ ps = cc in absurd (omega (arith, e, ap (λ qs. length qs) same))
    of_each (more_trees t ts) ps (o ∷ offsets) e (inr (p, here, inr (rest, later, is))) =
        let same : p ∷ rest ≡ ps = cc in
        subst (λ qs. OfEach dl P (more_trees t ts) (parts_at (o ∷ offsets) qs)) same
        ((each t p here, within t p here), of_each ts rest offsets (omega (arith, e, ap (λ qs. length qs) same)) later)

    -- of each field of variants that have no place
    of_absent : (all : Variants) (variants : List (List Placed)) → VariantsLaying dl all (Ok variants)
        → OfAbsent dl P all
    of_absent no_variants variants h = tt
    of_absent (more_variants d ts others) variants (inl f) = absurd (cc f.2)
    of_absent (more_variants d ts others) variants (inr (ps, here, inl f)) = absurd (cc f.2)
    of_absent (more_variants d ts others) variants (inr (ps, here, inr (rest, later, is))) = (
      (ps, here, of_each ts ps (map (λ q. 0) ps) (omega (arith, length-map {B = ℕ} ps (λ q. 0))) here),
      of_absent others rest later,
    )

    -- of each field of the variant with this index
    of_variant : (all : Variants) (variants : List (List Placed)) (i : ℕ) (offsets : List ℕ) → i < length variants → length offsets ≡ length (variant_at variants i) → VariantsLaying dl all (Ok variants) →
        OfVariant dl P all i (parts_at offsets (variant_at variants i))
    of_variant no_variants variants i offsets short e h = let none : [] ≡ variants = cc in absurd (omega (arith, short, ap (λ vs. length vs) none))
    of_variant (more_variants d ts others) variants i offsets short e (inl f) = absurd (cc f.2)
    of_variant (more_variants d ts others) variants i offsets short e (inr (ps, here, inl f)) = absurd (cc f.2)
    of_variant (more_variants d ts others) variants zero offsets short e (inr (ps, here, inr (rest, later, is))) =
        let same : ps ∷ rest ≡ variants = cc in
        let enough : length offsets ≡ length ps = e ∙ ap (λ vs. length (variant_at vs 0)) (sym same) in
        subst (λ vs. OfVariant dl P (more_variants d ts others) 0 (parts_at offsets (variant_at vs 0))) same
        (of_each ts ps offsets (omega (arith, enough)) here, of_absent others rest later)
    of_variant (more_variants d ts others) variants (suc i) offsets short e (inr (ps, here, inr (rest, later, is))) =
        let same : ps ∷ rest ≡ variants = cc in
        let long : length variants ≡ suc (length rest) = ap (λ vs. length vs) (sym same) in
        let own = of_each ts ps (map (λ q. 0) ps) (omega (arith, length-map {B = ℕ} ps (λ q. 0))) here in (
          (ps, here, own),
          subst (λ vs. OfVariant dl P others i (parts_at offsets (variant_at vs (suc i)))) same
              (of_variant others rest i offsets (omega (arith, short, long))
              (e ∙ ap (λ vs. length (variant_at vs (suc i))) (sym same)) later),
        )

    -- and of each variant's
    of_tagged_variants : (whole : Layout) (mark : Mark) (from : ℕ) (all : Variants) (variants : List (List Placed)) (size : ℕ) (layouts : List (VariantLayout ℕ)) → EachApart size variants layouts → VariantsLaying dl all (Ok variants) →
        OfTaggedVariants dl P all (tagged_variants_at whole mark from layouts (discriminants_of all) variants)
    of_tagged_variants whole mark from no_variants variants size [] apart h = tt
    of_tagged_variants whole mark from no_variants [] size (l ∷ layouts) apart h = absurd apart
    of_tagged_variants whole mark from no_variants (ps ∷ variants) size (l ∷ layouts) apart h = tt
    of_tagged_variants whole mark from (more_variants d ts others) variants size layouts apart (inl f) = absurd (cc f.2)
    of_tagged_variants whole mark from (more_variants d ts others) variants size layouts apart (inr (ps, here, inl f)) = absurd (cc f.2)
    of_tagged_variants whole mark from (more_variants d ts others) [] size layouts apart (inr (ps, here, inr (rest, later, is))) = absurd (cc)
    of_tagged_variants whole mark from (more_variants d ts others) (qs ∷ variants) size [] apart (inr (ps, here, inr (rest, later, is))) = absurd apart
    of_tagged_variants whole mark from (more_variants d ts others) (qs ∷ variants) size (l ∷ layouts) apart (inr (ps, here, inr (rest, later, is))) =
        let first : ps ≡ qs = cc in
        let others_same : rest ≡ variants = cc in
        let count : length l.field_offsets ≡ length qs = apart_long size l.field_offsets (map size_of qs) apart.0 ∙ length-map qs size_of in (
          of_each ts qs l.field_offsets (omega (arith, count)) (subst (λ xs. AreLaying dl ts (Ok xs)) first here),
          of_tagged_variants whole mark (from + 1) others variants size layouts apart.1 (subst (λ xs. VariantsLaying dl others (Ok xs)) others_same later),
        )

-- what holds of each type that is laid out holds of it and of each type in it
pub everywhere : (dl : TargetDataLayout) (law : IsLawfulDataLayout dl) (P : Tree → Placed → Type 0) (each : (t : Tree) (p : Placed) → IsLaying dl t (Ok p) → P t p) (t : Tree) (p : Placed) → IsLaying dl t (Ok p) → Everywhere dl P t p
everywhere dl law P each t p h = (each t p h, within dl law P each t p h)
