-- What each kind of type has where its parts have it, each type that is laid out has.
use Rattle.std.proofs.Common.{◌≡◌, ℕ, ◌+◌, ◌*◌, ◌<◌, ⊎_elim, Bool, true, false, List, [], ◌∷◌, Ok, Err, Option, Some, None, length, map, get_or, inl, inr, refl, sym, ap, ◌∙◌, subst, All}
use Rattle.std.specs.Prelude.{nat_lt, if◌then◌else◌}
use Rattle.std.proofs.lemmas.List.{length-map}
use Rattle.std.proofs.lemmas.List.Elements.{All-cons, All-map, All-nil, All-weaker}
use Rattle.std.proofs.lemmas.List.FromFn.{length-range_with_len}
use Rattle.abi_base.specs.declared.data_layout.TargetDataLayout.{TargetDataLayout}
use Rattle.abi_base.specs.declared.niche_optimizations.NicheOptimizations.TheVariants.{Enabled}
use Rattle.abi_base.specs.declared.struct_kind.StructKind.{StructKind}
use Rattle.abi_base.specs.declared.struct_kind.StructKind.TheVariants.{AlwaysSized}
use Rattle.abi_base.specs.DataLayout.{IsLawfulDataLayout, size_bound}
use Rattle.abi_scalar.specs.declared.backend_repr.BackendRepr.TheVariants.{Scalar as OneScalar, SimdVector, Memory}
use Rattle.abi_scalar.specs.declared.fields_shape.FieldsShape.TheVariants.{Union as AtStart, Arbitrary}
use Rattle.abi_scalar.specs.declared.repr.ReprOptions.{ReprOptions}
use Rattle.abi_scalar.specs.declared.scalar.Scalar.{Scalar}
use Rattle.abi_scalar.specs.declared.variants.TagEncoding.{TagEncoding}
use Rattle.abi_scalar.specs.declared.variants.TagEncoding.TheVariants.{Direct}
use Rattle.abi_scalar.specs.declared.variants.VariantLayout.{VariantLayout}
use Rattle.abi_scalar.specs.declared.variants.Variants.TheVariants.{Multiple}
use Rattle.abi_scalar.specs.Lawful.{IsLawfulLayout}
use Rattle.abi_scalar.specs.Pair.{pair_layout, pair_size, second_offset}
use Rattle.abi_scalar.specs.Repr.{is_abi_fixed}
use Rattle.abi_scalar.specs.Scalar.{scalar_size}
use Rattle.abi_scalar.specs.Shape.{listed_offsets, listed_order}
use Rattle.abi_scalar.specs.Simple.{never_layout, unit_layout}
use Rattle.abi_scalar.specs.Variant.{variants_of}
use Rattle.abi_univariant.specs.Array.{elements_layout}
use Rattle.abi_univariant.specs.List.{IsListBy}
use Rattle.abi_univariant.specs.ListView.{list_view}
use Rattle.abi_univariant.specs.Part.{parts_of}
use Rattle.abi_univariant.specs.Placement.{source_order}
use Rattle.abi_univariant.specs.Simd.{is_tight, lanes_answer, simd_align, simd_answer, simd_view, vector_layout}
use Rattle.abi_calc.specs.declared.enums.strategy.EnumStrategy.{EnumStrategy}
use Rattle.abi_calc.specs.declared.enums.strategy.EnumStrategy.TheVariants.{NoValue, OneList, Several}
use Rattle.abi_calc.specs.Coroutine.Layout.{IsStateTag}
use Rattle.abi_calc.specs.Enums.Answer.{IsTypeAnswer}
use Rattle.abi_calc.specs.Enums.Beside.{HasTagAt, IsToldByNiche, IsToldByTag}
use Rattle.abi_calc.specs.Enums.EnumStrategy.{strategy_of, variant_at}
use Rattle.abi_calc.specs.Enums.Payload.{BeginsWithTag}
use Rattle.abi_calc.specs.Enums.Single.{single_layout}
use Rattle.abi_calc.proofs.EnumLemmas.GoodLists.{good_list}
use Rattle.abi_tree.specs.declared.mark.Mark.{Mark}
use Rattle.abi_tree.specs.declared.mark.Mark.TheVariants.{Never, Plain, Unit}
use Rattle.rustc_abi.specs.declared.error.LayError.TheVariants.{SizeOverflow}
use Rattle.abi_tree.specs.Mark.{mark_of}
use Rattle.abi_tree.specs.Tree.{Tree, scalar, pair, never, unit, array, vector, struct, union, enum, coroutine, Trees, no_trees, more_trees, Variants, no_variants, more_variants}
use Rattle.abi_tree.specs.Placed.{Placed, layout_of, size_of, elements, fields, nothing, no_parts, pair as placed_pair, never as placed_never, vector as placed_vector, union as placed_union, single as placed_single, tagged as placed_tagged, states as placed_states}
use Rattle.abi_scalar.specs.Layout.{Layout}
use Rattle.abi_tree.specs.Nodes.{parts_at, parts_at_0, placed_in}
use Rattle.rustc_abi.specs.Inside.{VariantsInside}
use Rattle.rustc_abi.specs.Error.{named}
use Rattle.rustc_abi.specs.ScalarFault.{scalar_fault}
use Rattle.rustc_abi.specs.Coroutines.{IsStated}
use Rattle.rustc_abi.specs.Enums.{IsEnumed, IsTagIntegerAnswer, tagged_variants_at, discriminants_of, layouts_of, numbered_from}
use Rattle.rustc_abi.specs.Laying.{IsListedInOrder, ordered_fault, with_randomize_flag}
use Rattle.rustc_abi.specs.Laying.{AreLaying, IsLaying, IsLaidList, IsUnited, VariantsLaying, coroutine_fault, enum_fault, fields_fault, kind_of, lanes_of, one_scalar, pair_answer, placed_by, placed_coroutine, placed_enum, placed_fields, placed_together, placed_variants, scalar_answer, two_scalars, unless, vector_answer}
use Rattle.rustc_abi.proofs.Unions.CalcLemmas.{after_ok, chosen_ok, named-ok, united_layout, vector_made}
use Rattle.rustc_abi.proofs.Enums.CalculatedLemmas.{calculated_lawful, lawful_at, tag_distinguishes}
use Rattle.rustc_abi.proofs.Faults.CoroutineFaultLemmas.{states_within}
use Rattle.rustc_abi.proofs.Places.CoveredLemmas.{HasOneWhole, IsNoScalar, list_whole, memory_none, one_size, union_whole}
use Rattle.rustc_abi.proofs.Sizes.EnumSizeLemmas.{apart_long, fact_at}
use Rattle.rustc_abi.proofs.Places.InsideLemmas.{coroutine_places, inside_coroutine, inside_enum}
use Rattle.rustc_abi.proofs.Trees.LaidLemmas.{IsWhole, aligns_of, all_whole, coroutine_laid, each_lawful, each_of, fitted, laid_by, laid_whole, no_fault, numbers_for, placed_back, stated_offsets, tags_of, variants_whole, whole_lawful}
use Rattle.rustc_abi.proofs.Sizes.LeastLemmas.{listed_count}
use Rattle.rustc_abi.proofs.Trees.OrderLemmas.{ordered_count}
use Rattle.abi_scalar.specs.declared.niche.Niche.{Niche}
use Rattle.abi_scalar.specs.declared.error.LayoutCalculatorError.TheVariants as calculator

-- Types at these offsets are the fields, listed one by one, of a type of this layout, and no tag distinguishes variants of it.
pub record AreFields (layout : Layout) (offsets : List ℕ) (ps : List Placed) : Type 0 where
  pub order : List ℕ
  pub shape : layout.fields ≡ Arbitrary offsets order
  pub count : length offsets ≡ length ps
  pub alone : variants_of layout.variants ≡ []
  pub one : HasOneWhole layout offsets ps

-- Prefix types at these offsets and, behind them, a tag are the fields of a type of this layout; the tag distinguishes its variants, of
-- these layouts.
pub record AreBeside (layout : Layout) (offsets : List ℕ) (pres : List Placed) (tag : Scalar) (numbers : List ℕ) (layouts : List (VariantLayout ℕ)) (variants : List (List Placed)) : Type 0 where
  pub order : List ℕ
  pub shape : layout.fields ≡ Arbitrary offsets order
  pub count : length offsets ≡ length pres + 1
  pub encoding : TagEncoding ℕ
  pub field : ℕ
  pub tag_distinguishes : layout.variants ≡ Multiple tag encoding field layouts
  pub inside : VariantsInside layout.size layouts variants
  pub number_variants : length numbers ≡ length variants

-- a tag that is seen as the whole begins it, and is as large
abbrev pub IsTagWhole : TargetDataLayout → Layout → (offset : ℕ) → (tag : Scalar) → Type 0
IsTagWhole dl layout offset tag = (s : Scalar) → layout.backend_repr ≡ OneScalar s → (offset ≡ 0) × (scalar_size dl tag ≡ layout.size)

-- Each kind of type has the fact where its parts have it.
pub record IsKept (dl : TargetDataLayout) (P : Placed → Type 0) : Type 0 where
  pub of_scalar : (s : Scalar) → P (one_scalar dl s)
  pub of_never : (mark : Mark) → P (placed_never (never_layout dl) mark)
  pub of_elements : (count : ℕ) (q : Placed) → IsLawfulLayout dl (layout_of q) → P q → P (elements (elements_layout 0 true count (layout_of q)) count q)
  pub of_vector : (layout : Layout) (q : Placed) → AreFields layout (0 ∷ []) (q ∷ []) → P q → P (placed_vector layout q)
  pub of_pair : (layout : Layout) (offsets : List ℕ) (ps : List Placed) → AreFields layout offsets ps → All P ps → P (placed_pair layout (parts_at offsets ps))
  pub of_fields : (layout : Layout) (mark : Mark) (offsets : List ℕ) (ps : List Placed) → AreFields layout offsets ps → All P ps → P (fields layout mark (parts_at offsets ps))
  pub of_single : (layout : Layout) (mark : Mark) (index : ℕ) (offsets : List ℕ) (ps : List Placed) → AreFields layout offsets ps → All P ps → P (placed_single layout mark index (parts_at offsets ps))
  pub of_union : (layout : Layout) (mark : Mark) (ps : List Placed) → layout.fields ≡ AtStart (length ps) → variants_of layout.variants ≡ [] → HasOneWhole layout (map (λ p. 0) ps) ps → All P ps →
      P (placed_union layout mark (parts_at_0 ps))
  pub of_tagged : (layout : Layout) (mark : Mark) (offset : ℕ) (tag : Scalar) (encoding : TagEncoding ℕ) (numbers : List ℕ) (layouts : List (VariantLayout ℕ)) (variants : List (List Placed)) →
      AreBeside layout (offset ∷ []) [] tag numbers layouts variants → IsTagWhole dl layout offset tag → All (All P) variants →
      P (placed_tagged layout mark offset (one_scalar dl tag) encoding (tagged_variants_at layout mark 0 layouts numbers variants))
  pub of_states : (layout : Layout) (offsets : List ℕ) (pres : List Placed) (tag : Scalar) (numbers : List ℕ) (layouts : List (VariantLayout ℕ)) (variants : List (List Placed)) →
      AreBeside layout offsets pres tag numbers layouts variants → IsNoScalar layout.backend_repr → All P pres → All (All P) variants →
      P (placed_states layout (parts_at offsets pres) (get_or offsets (length pres) 0) (one_scalar dl tag) (tagged_variants_at layout Plain 0 layouts numbers variants))

-- ---- lists

-- a list's layout has its fields
fields_of : {Rule : (order offsets : List ℕ) → (size align : ℕ) → Option Niche → Type 0} (dl : TargetDataLayout) (repr : ReprOptions) (kind : StructKind) (ps : List Placed)
    (order offsets : List ℕ) (layout : Layout) → IsListBy Rule (λ i. i) 0 dl repr kind (map layout_of ps) order offsets layout → length (listed_offsets layout.fields) ≡ length ps → AreFields layout (listed_offsets layout.fields) ps
fields_of dl repr kind ps order offsets layout made count =
    let same : offsets ≡ listed_offsets layout.fields = sym (ap listed_offsets made.shape) in
    record {
      order = map (λ i. i) order;
      shape = made.shape ∙ ap (λ os. Arbitrary os (map (λ i. i) order)) same;
      count = count;
      alone = ap variants_of made.variants;
      one = list_whole dl ps (is_abi_fixed repr) layout.align.abi layout (listed_offsets layout.fields)
          (made.view ∙ ap (list_view dl (is_abi_fixed repr) layout.size layout.align.abi (parts_of dl (map layout_of ps))) same);
    }

lanes_none : (tight : Bool) (s : Scalar) (n : ℕ) → IsNoScalar (if tight then Memory true else SimdVector s n)
lanes_none true s n t e = absurd (cc)
lanes_none false s n t e = absurd (cc)

vector_none : (dl : TargetDataLayout) (element layout : Layout) (count : ℕ) (packed : Bool) → simd_answer {H = Layout} (λ l. l) 0 0 dl element count packed ≡ Ok layout → IsNoScalar layout.backend_repr
vector_none dl element layout count packed e s view =
    let whole = after_ok (lanes_answer {H = Layout} (λ l. l) (size_bound dl) element count) _ layout e in
    let lanes = whole.0 in
    let made : Layout = vector_layout 0 0 element (simd_view packed lanes) lanes.size (simd_align dl packed lanes) lanes.count in
    let last = chosen_ok (nat_lt made.size (size_bound dl)) made layout calculator.SizeOverflow whole.2 in
    lanes_none (is_tight packed lanes.count) lanes.scalar lanes.count s (ap (λ (l : Layout). l.backend_repr) last.1 ∙ view)

module _ (dl : TargetDataLayout) (law : IsLawfulDataLayout dl) (P : Placed → Type 0) (kept : IsKept dl P) where
  kept_scalar : (s : Scalar) (p : Placed) → Ok p ≡ scalar_answer dl s → P p
  kept_scalar s p e =
      let one = no_fault dl law (scalar_fault dl s) (Ok (one_scalar dl s)) p e in
      let same : one_scalar dl s ≡ p = cc in
      subst P same (kept.of_scalar s)

  kept_pair : (a b : Scalar) (p : Placed) → Ok p ≡ pair_answer dl a b → P p
  kept_pair a b p e =
      let one = no_fault dl law (scalar_fault dl a) (unless (scalar_fault dl b) (if nat_lt (pair_size dl a b) (size_bound dl) then Ok (two_scalars dl a b) else Err SizeOverflow)) p e in
      let two = no_fault dl law (scalar_fault dl b) (if nat_lt (pair_size dl a b) (size_bound dl) then Ok (two_scalars dl a b) else Err SizeOverflow) p one.1 in
      let fits = fitted dl law (nat_lt (pair_size dl a b) (size_bound dl)) (two_scalars dl a b) p SizeOverflow two.1 in
      let ps : List Placed = one_scalar dl a ∷ one_scalar dl b ∷ [] in
      subst P (sym fits.1)
      (kept.of_pair (pair_layout 0 0 1 dl a b) (0 ∷ second_offset dl a b ∷ []) ps
      (record { order = 0 ∷ 1 ∷ []; shape = refl; count = refl; alone = refl; one = λ s view. absurd (cc) })
      (All-cons P (one_scalar dl a) (one_scalar dl b ∷ []) (kept.of_scalar a) (All-cons P (one_scalar dl b) [] (kept.of_scalar b) (All-nil P))))

  kept_unit : P (fields (unit_layout 0 dl true) Unit no_parts)
  kept_unit = kept.of_fields (unit_layout 0 dl true) Unit [] [] (record { order = []; shape = refl; count = refl; alone = refl; one = λ s view. absurd (cc) }) (All-nil P)

  kept_elements : (b : Bool) (count : ℕ) (q p : Placed) → IsLawfulLayout dl (layout_of q) → P q →
      Ok p ≡ placed_by (λ layout. elements layout count q) (named {H = ℕ} (if b then Ok (elements_layout 0 true count (layout_of q)) else Err calculator.SizeOverflow)) → P p
  kept_elements true count q p lawful own e =
      let same : elements (elements_layout 0 true count (layout_of q)) count q ≡ p = cc in
      subst P same (kept.of_elements count q lawful own)
  kept_elements false count q p lawful own e = absurd (cc)

  kept_vector : (lanes : ℕ) (packed : Bool) (q p : Placed) → IsLawfulLayout dl (layout_of q) → P q → Ok p ≡ vector_answer dl lanes packed q → P p
  kept_vector lanes packed q p lawful own e =
      let found = placed_back dl law (λ layout. placed_vector layout (lanes_of lanes q)) (named (simd_answer {H = Layout} (λ l. l) 0 0 dl (layout_of q) lanes packed)) p e in
      let made = vector_made dl (layout_of q) lanes packed found.0 found.1 in
      let none = vector_none dl (layout_of q) found.0 lanes packed (named-ok _ found.0 found.1) in
      subst P found.2
      (kept.of_vector found.0 (lanes_of lanes q)
      (record { order = 0 ∷ []; shape = made.places; count = refl; alone = ap variants_of made.alone; one = λ s view. absurd (none s view) })
      (kept.of_elements lanes q lawful own))

  -- ---- enums

  module _ (repr : ReprOptions) (numbers : List ℕ) (variants : List (List Placed)) (none : enum_fault dl repr numbers variants ≡ None)
      (long : length numbers ≡ length variants) (whole : All (All (IsWhole dl)) variants) (own : All (All P) variants) where
    abbrev Answers : EnumStrategy → Layout → Type 0
    Answers strategy l =
        IsTypeAnswer layout_of (λ i. i) (λ i. i) (λ i. i) (λ i. i) dl repr variants true true Enabled (IsTagIntegerAnswer dl repr) (λ items. items ≡ numbered_from 0 numbers) strategy (Ok l)

    lawful : All (All (λ p. IsLawfulLayout dl (layout_of p))) variants
    lawful = each_lawful dl variants whole

    kept_one : (i : ℕ) (l : Layout) → Answers (OneList i) l → P (placed_enum dl repr numbers variants l)
    kept_one i l h =
        let ps : List Placed = variant_at variants i in
        let list : Layout = h.0 in
        let good = good_list layout_of (λ i. i) 0 dl repr AlwaysSized ps list law (lawful_at dl variants i lawful) (aligns_of dl law repr numbers variants none long) tt tt h.1 in
        let count : length (listed_offsets list.fields) ≡ length ps = apart_long list.size (listed_offsets list.fields) (map size_of ps) good.apart ∙ length-map ps size_of in
        let listed = fields_of dl repr AlwaysSized ps h.1.0 h.1.1 list h.1.2 count in
        let made : Layout = single_layout i dl Enabled list in
        subst (λ (m : Layout). P (placed_enum dl repr numbers variants m)) (sym h.2)
        (kept.of_single made (mark_of true repr) i (listed_offsets list.fields) ps
        (record { order = listed.order; shape = listed.shape; count = count; alone = refl; one = listed.one })
        (fact_at (All P) (All-nil P) variants i own))

    kept_tagged : (l : Layout) → IsEnumed dl repr numbers variants (Ok l) → (offset field : ℕ) (tag : Scalar) (encoding : TagEncoding ℕ) (layouts : List (VariantLayout ℕ)) →
        l.fields ≡ Arbitrary (offset ∷ []) (field ∷ []) → l.variants ≡ Multiple tag encoding field layouts → IsTagWhole dl l offset tag → P (placed_enum dl repr numbers variants l)
    kept_tagged l enumed offset field tag encoding layouts place tag_distinguishes view =
        let made = λ (o : ℕ). placed_tagged l (mark_of true repr) o (one_scalar dl tag) encoding (tagged_variants_at l (mark_of true repr) 0 layouts numbers variants) in
        let same : placed_enum dl repr numbers variants l ≡ made offset =
        ap (placed_variants dl repr numbers variants l) tag_distinguishes ∙ ap made (ap (λ shape. get_or (listed_offsets shape) 0 0) place) in
        subst P (sym same)
        (kept.of_tagged l (mark_of true repr) offset tag encoding numbers layouts variants
        (record {
          order = field ∷ [];
          shape = place;
          count = refl;
          encoding = encoding;
          field = field;
          tag_distinguishes = tag_distinguishes;
          inside = inside_enum dl law repr numbers variants none long lawful l enumed tag encoding field layouts tag_distinguishes;
          number_variants = long;
        }) view own)

    kept_by : (strategy : EnumStrategy) → strategy_of true repr (layouts_of variants) ≡ strategy → (l : Layout) → IsEnumed dl repr numbers variants (Ok l) → Answers strategy l → P (placed_enum dl repr numbers variants l)
    kept_by NoValue strategy l enumed h =
        let same : never_layout dl ≡ l = cc in subst (λ (m : Layout). P (placed_enum dl repr numbers variants m)) same (kept.of_never (mark_of true repr))
    kept_by (OneList i) strategy l enumed h = kept_one i l h
    kept_by Several strategy l enumed h =
        let aligns = aligns_of dl law repr numbers variants none long in
        let each = each_of dl law repr numbers variants none long in
        let tags = tags_of dl law repr numbers variants none long in
        let own_lawful = calculated_lawful dl law repr numbers variants aligns lawful each tags l enumed in
        ⊎_elim
        (λ (t : IsToldByTag dl (λ v. v) (layouts_of variants) (numbered_from 0 numbers) l).
        kept_tagged l enumed 0 t.field t.tag _ t.layouts t.place t.tag_distinguishes
        (λ s e. let is : s ≡ t.tag = subst (BeginsWithTag dl t.tag) e t.view in (refl, ap (scalar_size dl) (sym is) ∙ one_size dl l s own_lawful e)))
        (λ (t : IsToldByNiche dl (λ v. v) (layouts_of variants) l).
        kept_tagged l enumed t.niche.offset t.field t.tag _ t.layouts t.place t.tag_distinguishes
        (λ s e. let is = subst (HasTagAt t.niche.offset t.tag) e t.view in (is.0, ap (scalar_size dl) (sym is.1) ∙ one_size dl l s own_lawful e)))
        (tag_distinguishes dl law repr numbers variants aligns lawful each tags strategy l h)

    kept_enum : (l : Layout) → IsEnumed dl repr numbers variants (Ok l) → P (placed_enum dl repr numbers variants l)
    kept_enum l h = kept_by (strategy_of true repr (layouts_of variants)) refl l h h

  -- ---- coroutines

  -- the types of a state's locals
  kept_picked : (ps : List Placed) (state : List ℕ) → All P ps → All (λ k. k < length ps) state → All P (map (placed_in ps) state)
  kept_picked ps state own known = All-map P (placed_in ps) state (All-weaker (λ k. k < length ps) (λ k. P (placed_in ps k)) (λ k lt. own k nothing lt) state known)

  kept_coroutine : (pres ps : List Placed) (states : List (List ℕ)) (conflicts : List (ℕ × ℕ)) → All (IsWhole dl) pres → All (IsWhole dl) ps → coroutine_fault (length pres) (length ps) states conflicts ≡ None →
      (tag : Scalar) → IsStateTag (length states) tag → (layout : Layout) → IsStated dl pres tag (one_scalar dl tag) ps states conflicts (Ok layout) → All P pres → All P ps →
      P (placed_coroutine dl pres tag ps states layout)
  kept_coroutine pres ps states conflicts before there none tag is_state_tag layout h own_pres own =
      let front = whole_lawful dl pres before in
      let locals = whole_lawful dl ps there in
      let variants : List (List Placed) = map (map (placed_in ps)) states in
      let several = ap (λ (l : Layout). l.variants) h.5 in
      let layouts : List (VariantLayout ℕ) = variants_of layout.variants in
      let many : length (source_order (length states)) ≡ length variants = length-range_with_len 0 (length states) ∙ sym (length-map states (map (placed_in ps))) in
      kept.of_states layout (listed_offsets layout.fields) pres tag (source_order (length states)) layouts variants
      (record {
        order = listed_order layout.fields;
        shape = (coroutine_places dl law pres ps states conflicts front locals none tag is_state_tag layout h).1;
        count = stated_offsets dl law pres ps states conflicts front locals none tag is_state_tag layout h;
        encoding = Direct;
        field = length pres;
        tag_distinguishes = several ∙ ap (Multiple tag Direct (length pres)) (sym (ap variants_of several));
        inside = inside_coroutine dl law pres ps states conflicts front locals none tag is_state_tag layout h;
        number_variants = many;
      })
      (λ s e. memory_none true s (sym (ap (λ (l : Layout). l.backend_repr) h.5) ∙ e)) own_pres
      (All-map (All P) (map (placed_in ps)) states
      (All-weaker (All (λ k. k < length ps)) (λ state. All P (map (placed_in ps) state)) (λ state known. kept_picked ps state own known) states (states_within (length pres) (length ps) states conflicts none)))

  -- ---- trees

  mutual
    pub laid_kept : (t : Tree) (p : Placed) → IsLaying dl t (Ok p) → P p
    laid_kept (scalar s) p h = kept_scalar s p h
    laid_kept (pair a b) p h = kept_pair a b p h
    laid_kept never p h = let same : placed_never (never_layout dl) Never ≡ p = cc in subst P same (kept.of_never Never)
    laid_kept unit p h = let same : fields (unit_layout 0 dl true) Unit no_parts ≡ p = cc in subst P same kept_unit
    laid_kept (array count element) p (inl f) = absurd (cc f.2)
    laid_kept (array count element) p (inr (q, there, e)) =
        kept_elements (nat_lt (size_of q * count) (size_bound dl)) count q p (laid_whole dl law element q there).0 (laid_kept element q there) e
    laid_kept (vector lanes packed element) p (inl f) = absurd (cc f.2)
    laid_kept (vector lanes packed element) p (inr (q, there, e)) = kept_vector lanes packed q p (laid_whole dl law element q there).0 (laid_kept element q there) e
    laid_kept (struct repr always_sized order all) p (inl f) = absurd (cc f.2)
    laid_kept (struct repr always_sized None all) p (inr (ps, there, answer)) =
        let found = laid_by (fields_fault repr ps) (IsLaidList dl repr (kind_of always_sized ps) (map layout_of ps)) (placed_fields repr ps) p answer in
        let count = listed_count dl repr always_sized ps (all_whole dl law all ps there) found.0 found.1 in
        subst P found.2
        (kept.of_fields found.0 (mark_of false repr) (listed_offsets found.0.fields) ps (fields_of dl repr (kind_of always_sized ps) ps found.1.0 found.1.1 found.0 found.1.2 count) (all_kept all ps there))
    laid_kept (struct repr always_sized (Some order) all) p (inr (ps, there, answer)) =
        let kind = kind_of always_sized ps in
        let found = laid_by (ordered_fault repr ps) (IsListedInOrder dl (with_randomize_flag repr) kind order (map layout_of ps)) (placed_fields repr ps) p answer in
        let count = ordered_count dl (with_randomize_flag repr) kind order ps found.0 found.1 in
        subst P found.2
        (kept.of_fields found.0 (mark_of false repr) (listed_offsets found.0.fields) ps (fields_of dl (with_randomize_flag repr) kind ps order found.1.0 found.0 found.1.1 count) (all_kept all ps there))
    laid_kept (union repr all) p (inl f) = absurd (cc f.2)
    laid_kept (union repr all) p (inr (ps, there, answer)) =
        let found = laid_by (fields_fault repr ps) (IsUnited dl repr (map layout_of ps)) (placed_together repr ps) p answer in
        let whole = subst (IsWhole dl) (sym found.2) (laid_whole dl law (union repr all) p (inr (ps, there, answer))) in
        let made = united_layout dl repr (map layout_of ps) found.0 found.1 in
        subst P found.2
        (kept.of_union found.0 (mark_of false repr) ps (ap (λ (l : Layout). l.fields) made.1 ∙ ap AtStart (length-map ps layout_of)) (ap (λ (l : Layout). variants_of l.variants) made.1)
        (union_whole dl repr ps found.0 whole.0 (whole_lawful dl ps (all_whole dl law all ps there)) made.0) (all_kept all ps there))
    laid_kept (enum repr all) p (inl f) = absurd (cc f.2)
    laid_kept (enum repr all) p (inr (variants, there, answer)) =
        let found = laid_by (enum_fault dl repr (discriminants_of all) variants) (IsEnumed dl repr (discriminants_of all) variants) (placed_enum dl repr (discriminants_of all) variants) p answer in
        subst P found.2
        (kept_enum repr (discriminants_of all) variants found.3 (numbers_for dl law all variants there) (variants_whole dl law all variants there) (variants_kept all variants there) found.0 found.1)
    laid_kept (coroutine prefix locals states conflicts) p (inl f) = absurd (cc f.2)
    laid_kept (coroutine prefix locals states conflicts) p (inr (pres, before, inl f)) = absurd (cc f.2)
    laid_kept (coroutine prefix locals states conflicts) p (inr (pres, before, inr (ps, there, answer))) =
        let found = coroutine_laid dl law pres ps states conflicts (coroutine_fault (length pres) (length ps) states conflicts) p answer in
        subst P found.4
        (kept_coroutine pres ps states conflicts (all_whole dl law prefix pres before) (all_whole dl law locals ps there) found.5 found.0 found.1 found.2 found.3 (all_kept prefix pres before) (all_kept locals ps there))

    all_kept : (ts : Trees) (ps : List Placed) → AreLaying dl ts (Ok ps) → All P ps
    all_kept no_trees ps h = let none : [] ≡ ps = cc in subst (All P) none (All-nil P)
    all_kept (more_trees t ts) ps (inl f) = absurd (cc f.2)
    all_kept (more_trees t ts) ps (inr (p, here, inl f)) = absurd (cc f.2)
    all_kept (more_trees t ts) ps (inr (p, here, inr (rest, later, e))) =
        let same : p ∷ rest ≡ ps = cc in
        subst (All P) same (All-cons P p rest (laid_kept t p here) (all_kept ts rest later))

    variants_kept : (all : Variants) (variants : List (List Placed)) → VariantsLaying dl all (Ok variants) → All (All P) variants
    variants_kept no_variants variants h = let none : [] ≡ variants = cc in subst (All (All P)) none (All-nil (All P))
    variants_kept (more_variants d ts others) variants (inl f) = absurd (cc f.2)
    variants_kept (more_variants d ts others) variants (inr (ps, here, inl f)) = absurd (cc f.2)
    variants_kept (more_variants d ts others) variants (inr (ps, here, inr (rest, later, e))) =
        let same : ps ∷ rest ≡ variants = cc in
        subst (All (All P)) same (All-cons (All P) ps rest (all_kept ts ps here) (variants_kept others rest later))
