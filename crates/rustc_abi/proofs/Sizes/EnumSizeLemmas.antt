-- How large an enum is, what its layout is, and when it is too large, from the calculator's answer.
use Rattle.std.proofs.Common.{◌≡◌, ℕ, zero, suc, ◌+◌, ◌<◌, ◌≤◌, List, [], ◌∷◌, map, length, true, None, arith, refl, sym, ap, subst, ◌∙◌, inl, inr, All, Result, Ok, Err, ⊎_elim}
use Rattle.std.specs.Prelude.{◌⊎◌, ⊤}
use Rattle.std.proofs.lemmas.List.{length-map}
use Rattle.std.proofs.lemmas.List.Elements.{All-head, All-tail, All-nil, All-cons}
use Rattle.abi_base.specs.declared.data_layout.TargetDataLayout.{TargetDataLayout}
use Rattle.abi_base.specs.declared.niche_optimizations.NicheOptimizations.TheVariants.{Enabled}
use Rattle.abi_base.specs.declared.struct_kind.StructKind.TheVariants.{AlwaysSized}
use Rattle.abi_base.specs.DataLayout.{IsLawfulDataLayout}
use Rattle.abi_scalar.specs.declared.error.LayoutCalculatorError.{LayoutCalculatorError}
use Rattle.abi_scalar.specs.declared.repr.ReprOptions.{ReprOptions}
use Rattle.abi_scalar.specs.declared.variants.VariantLayout.{VariantLayout}
use Rattle.abi_scalar.specs.declared.variants.TagEncoding.{TagEncoding}
use Rattle.abi_scalar.specs.declared.scalar.Scalar.{Scalar}
use Rattle.abi_scalar.specs.declared.variants.Variants.{Variants as LayoutVariants}
use Rattle.abi_scalar.specs.declared.variants.Variants.TheVariants.{Empty, Multiple, Single}
use Rattle.abi_scalar.specs.Lawful.{IsLawfulLayout}
use Rattle.abi_scalar.specs.Shape.{listed_offsets}
use Rattle.abi_scalar.specs.Simple.{never_layout}
use Rattle.abi_univariant.specs.Answer.{IsAnswer}
use Rattle.abi_univariant.specs.Apart.{AreApart}
use Rattle.abi_univariant.specs.List.{AreSized}
use Rattle.abi_univariant.proofs.Promised.LeastLemmas.{answer_large, answer_refused, never_large as listed_never_large}
use Rattle.abi_univariant.specs.Least.{IsLeastSize}
use Rattle.abi_calc.specs.declared.enums.strategy.EnumStrategy.{EnumStrategy}
use Rattle.abi_calc.specs.declared.enums.strategy.EnumStrategy.TheVariants.{NoValue, OneList, Several}
use Rattle.abi_calc.specs.Enums.Answer.{IsTypeAnswer}
use Rattle.abi_calc.specs.Enums.Lists.{behind_tag}
use Rattle.abi_calc.specs.Enums.EnumStrategy.{strategy_of, variant_at}
use Rattle.abi_calc.specs.Enums.Several.{IsAlwaysTooLarge, IsAskedTooLarge, IsSeveralAnswer}
use Rattle.abi_calc.specs.Enums.Single.{IsSingleAnswer}
use Rattle.abi_calc.specs.Enums.Sizes.{IsTaggedTooLarge}
use Rattle.abi_calc.proofs.EnumLemmas.Deep.{enum_refused, enum_size, enum_told, enum_too_large}
use Rattle.abi_calc.proofs.EnumLemmas.EnumExtent.{index_within, several_some}
use Rattle.abi_calc.proofs.EnumLemmas.GoodLists.{good_list}
use Rattle.abi_calc.proofs.EnumLemmas.OneEnum.{one_asked_for}
use Rattle.rustc_abi.specs.declared.error.LayError.{LayError}
use Rattle.rustc_abi.specs.declared.error.LayError.TheVariants.{SizeOverflow}
use Rattle.abi_tree.specs.declared.mark.Mark.{Mark}
use Rattle.abi_tree.specs.Mark.{mark_of}
use Rattle.abi_tree.specs.Placed.{Placed, layout_of, size_of}
use Rattle.abi_scalar.specs.Layout.{Layout}
use Rattle.rustc_abi.specs.Error.{lay_error}
use Rattle.abi_tree.specs.Nodes.{parts_at}
use Rattle.rustc_abi.specs.Enums.{IsCalculated, IsEnumed, IsTagIntegerAnswer, tagged_variants_at, counted, layouts_of, numbered_from}
use Rattle.rustc_abi.specs.Laying.{enum_fault, placed_enum, placed_variants}
use Rattle.rustc_abi.specs.Least.{IsEnumSized, IsEnumTooLarge, IsLeastEnum, IsTooLargeBy, fields_of, fields_of_tagged_variants}
use Rattle.rustc_abi.proofs.Enums.TaggedVariantsLemmas.{EachApart, apart_behind, apart_beside}
use Rattle.rustc_abi.proofs.Trees.LaidLemmas.{IsWhole, aligns_of, asked_sized, each_lawful, each_of, tags_of}
use Rattle.rustc_abi.proofs.Enums.TagIntegerLemmas.{tag_integer_one}
use Rattle.abi_scalar.specs.declared.error.LayoutCalculatorError.TheVariants as calculator

-- the parts are the types that were put at the offsets, of which there are enough
pub fields_back : (offsets : List ℕ) (ps : List Placed) → length ps ≤ length offsets → fields_of (parts_at offsets ps) ≡ ps
fields_back [] [] e = refl
fields_back [] (p ∷ ps) e = absurd (omega (arith, e))
fields_back (o ∷ offsets) [] e = refl
fields_back (o ∷ offsets) (p ∷ ps) e = ap (λ rest. p ∷ rest) (fields_back offsets ps (omega (arith, e)))

-- there is an offset for each part
pub apart_long : (size : ℕ) (offsets sizes : List ℕ) → AreApart size offsets sizes → length offsets ≡ length sizes
apart_long size [] [] h = refl
apart_long size (o ∷ offsets) [] h = absurd h
apart_long size [] (n ∷ sizes) h = absurd h
apart_long size (o ∷ offsets) (n ∷ sizes) h = ap suc (apart_long size offsets sizes h.2)

-- the variants are the types that were put at the offsets, of which there are enough
pub variants_back : (whole : Layout) (mark : Mark) (first : ℕ) (size : ℕ) (layouts : List (VariantLayout ℕ))
    (numbers : List ℕ) (variants : List (List Placed)) → EachApart size variants layouts
    → length numbers ≡ length variants →
    fields_of_tagged_variants (tagged_variants_at whole mark first layouts numbers variants) ≡ variants
variants_back whole mark first size [] numbers [] apart long = refl
variants_back whole mark first size [] numbers (ps ∷ variants) apart long = absurd apart
variants_back whole mark first size (l ∷ layouts) numbers [] apart long = absurd apart
variants_back whole mark first size (l ∷ layouts) [] (ps ∷ variants) apart long = absurd (omega (arith, long))
variants_back whole mark first size (l ∷ layouts) (n ∷ numbers) (ps ∷ variants) apart long =
    let here : fields_of (parts_at l.field_offsets ps) ≡ ps = fields_back l.field_offsets ps (omega (arith, apart_long size l.field_offsets (map size_of ps) apart.0 ∙ length-map ps size_of)) in
    ap (λ qs. qs ∷ fields_of_tagged_variants (tagged_variants_at whole mark (first + 1) layouts numbers variants)) here ∙ ap (λ rest. ps ∷ rest) (variants_back whole mark (first + 1) size layouts numbers variants apart.1 (omega (arith, long)))

-- an error that is told as that of a size is it
pub size_error : (error : LayoutCalculatorError Placed) → SizeOverflow ≡ lay_error error → error ≡ calculator.SizeOverflow
size_error (calculator.UnexpectedUnsized f) e = absurd (cc)
size_error calculator.SizeOverflow e = refl
size_error calculator.EmptyUnion e = absurd (cc)
size_error calculator.ReprConflict e = absurd (cc)
size_error calculator.ZeroLengthSimdType e = absurd (cc)
size_error (calculator.OversizedSimdType n) e = absurd (cc)
size_error (calculator.NonPrimitiveSimdType f) e = absurd (cc)
size_error calculator.BadOrder e = absurd (cc)
size_error calculator.OutOfMemory e = absurd (cc)

each_sized : (dl : TargetDataLayout) (variants : List (List Placed)) → All (All (IsWhole dl)) variants → All AreSized (layouts_of variants)
each_sized dl [] h = All-nil AreSized
each_sized dl (ps ∷ variants) h =
    All-cons AreSized (map layout_of ps) (layouts_of variants) (asked_sized dl ps (All-head (All (IsWhole dl)) ps variants h)) (each_sized dl variants (All-tail (All (IsWhole dl)) ps variants h))

pub fact_at : (P : List Placed → Type 0) → P [] → (variants : List (List Placed)) (i : ℕ) → All P variants → P (variant_at variants i)
fact_at P none [] i h = none
fact_at P none (ps ∷ variants) zero h = All-head P ps variants h
fact_at P none (ps ∷ variants) (suc i) h = fact_at P none variants i (All-tail P ps variants h)

-- What the layout of these variants is: of one that is left, each field has an offset, and the size is the least; several are laid
-- apart, and the size is what their lists allow.
abbrev pub IsShaped : TargetDataLayout → ReprOptions → (numbers : List ℕ) → (variants : List (List Placed)) → Layout → LayoutVariants ℕ ℕ → Type 0
IsShaped dl repr numbers variants l Empty = ⊤
IsShaped dl repr numbers variants l (Single i) =
    (i < length variants) × (length (listed_offsets l.fields) ≡ length (variant_at variants i)) × IsLeastSize dl repr AlwaysSized (map layout_of (variant_at variants i)) l.size
IsShaped dl repr numbers variants l (Multiple tag encoding field layouts) = EachApart l.size variants layouts × IsEnumSized dl repr numbers variants l.size

module _ (dl : TargetDataLayout) (law : IsLawfulDataLayout dl) (repr : ReprOptions) (numbers : List ℕ) (variants : List (List Placed)) (none : enum_fault dl repr numbers variants ≡ None)
    (long : length numbers ≡ length variants) (whole : All (All (IsWhole dl)) variants) where
  abbrev pub Answers : EnumStrategy → Result Layout (LayoutCalculatorError Placed) → Type 0
  Answers strategy r =
      IsTypeAnswer layout_of (λ i. i) (λ i. i) (λ i. i) (λ i. i) dl repr variants true true Enabled (IsTagIntegerAnswer dl repr) (λ items. items ≡ numbered_from 0 numbers) strategy r

  lawful : All (All (λ p. IsLawfulLayout dl (layout_of p))) variants
  lawful = each_lawful dl variants whole

  pub lawful_at : (i : ℕ) → All (λ p. IsLawfulLayout dl (layout_of p)) (variant_at variants i)
  lawful_at i = fact_at (All (λ p. IsLawfulLayout dl (layout_of p))) (All-nil (λ p. IsLawfulLayout dl (layout_of p))) variants i lawful

  sized_at : (i : ℕ) → AreSized (map layout_of (variant_at variants i))
  sized_at i = asked_sized dl (variant_at variants i) (fact_at (All (IsWhole dl)) (All-nil (IsWhole dl)) variants i whole)

  -- ---- when it is too large

  not_packed : IsSeveralAnswer layout_of (λ i. i) (λ i. i) (λ i. i) (λ i. i) dl repr (IsTagIntegerAnswer dl repr) variants (λ items. items ≡ numbered_from 0 numbers) (Err calculator.SizeOverflow) → repr.pack ≡ None
  not_packed (inl packed) = absurd (cc packed.1)
  not_packed (inr (inl want)) = want.0
  not_packed (inr (inr h)) = h.0

  large_by : (strategy : EnumStrategy) → strategy_of true repr (layouts_of variants) ≡ strategy → Answers strategy (Err calculator.SizeOverflow) → IsTooLargeBy dl repr numbers variants strategy
  large_by NoValue way h = absurd (cc)
  large_by (OneList i) way h = answer_large layout_of (λ i. i) 0 dl repr AlwaysSized (variant_at variants i) (Err calculator.SizeOverflow) (lawful_at i) tt h refl
  large_by Several way h = (
    not_packed h,
    enum_too_large layout_of dl law repr (IsTagIntegerAnswer dl repr) variants (numbered_from 0 numbers) (aligns_of dl law repr numbers variants none long) lawful (several_some layout_of repr variants true way)
        (each_of dl law repr numbers variants none long) (tags_of dl law repr numbers variants none long) h,
  )

  -- an enum that is refused for its size is too large
  pub enumed_large : IsEnumed dl repr numbers variants (Err SizeOverflow) → IsEnumTooLarge dl repr numbers variants
  enumed_large (error, h, other, e) =
      let is : error ≡ calculator.SizeOverflow = size_error error e in
      large_by (strategy_of true repr (layouts_of variants)) refl (subst (λ x. IsCalculated dl repr numbers variants (Err x)) is h)

  -- what is too large by the integer that is asked for is so by each
  always : IsAskedTooLarge dl repr (IsTagIntegerAnswer dl repr) (counted repr numbers variants) (layouts_of variants) → IsAlwaysTooLarge dl repr (IsTagIntegerAnswer dl repr) (counted repr numbers variants) (layouts_of variants)
  always (asked, signed, answered, large) other sign also =
      let same = one_asked_for dl repr (IsTagIntegerAnswer dl repr) (counted repr numbers variants) asked other signed sign (tag_integer_one dl repr) answered also in
      subst (λ i. IsTaggedTooLarge dl repr (behind_tag dl repr i (layouts_of variants)) (layouts_of variants)) same.0 large

  abbrev IsSizeOrMemory : Result Layout (LayoutCalculatorError Placed) → Type 0
  IsSizeOrMemory r = (r ≡ Err calculator.SizeOverflow) ⊎ (r ≡ Err calculator.OutOfMemory)

  one_of : (e : LayoutCalculatorError Placed) → IsAnswer {A = Layout} (Err calculator.SizeOverflow) (Err e) → IsSizeOrMemory (Err e)
  one_of e (inl is) = inl is
  one_of e (inr is) = inr is

  refused_by : (strategy : EnumStrategy) → strategy_of true repr (layouts_of variants) ≡ strategy → IsTooLargeBy dl repr numbers variants strategy → (r : Result Layout (LayoutCalculatorError Placed)) → Answers strategy r → IsSizeOrMemory r
  refused_by NoValue way large r h = absurd large
  refused_by (OneList i) way large (Ok l) h = absurd (listed_never_large layout_of (λ i. i) 0 dl repr AlwaysSized (variant_at variants i) h.1.0 h.1.1 h.0 tt h.1.2 large)
  refused_by (OneList i) way large (Err e) h = one_of e (answer_refused layout_of (λ i. i) 0 dl repr AlwaysSized (variant_at variants i) (Err e) tt h (sized_at i) large)
  refused_by Several way large r h =
      enum_refused layout_of dl law repr (IsTagIntegerAnswer dl repr) variants (numbered_from 0 numbers) (aligns_of dl law repr numbers variants none long) lawful (several_some layout_of repr variants true way)
      (each_of dl law repr numbers variants none long) (tags_of dl law repr numbers variants none long) large.0 (each_sized dl variants whole) (always large.1) r h

  -- an enum that is too large is refused for its size
  pub enumed_refused : IsEnumTooLarge dl repr numbers variants → (r : Result Layout LayError) → IsEnumed dl repr numbers variants r → r ≡ Err SizeOverflow
  enumed_refused large (Ok l) h = never (refused_by (strategy_of true repr (layouts_of variants)) refl large (Ok l) h)
    where
      never : IsSizeOrMemory (Ok l) → ◌≡◌ {A = Result Layout LayError} (Ok l) (Err SizeOverflow)
      never (inl e) = absurd (cc)
      never (inr e) = absurd (cc)
  enumed_refused large (Err e) (error, h, other, is) = named (refused_by (strategy_of true repr (layouts_of variants)) refl large (Err error) h)
    where
      named : IsSizeOrMemory (Err error) → ◌≡◌ {A = Result Layout LayError} (Err e) (Err SizeOverflow)
      named (inl size) = let same : error ≡ calculator.SizeOverflow = cc in ap (λ x. Err x) (is ∙ ap lay_error same)
      named (inr memory) = let same : error ≡ calculator.OutOfMemory = cc in absurd (other same)

  -- ---- how large it is

  shaped_one : (i : ℕ) → strategy_of true repr (layouts_of variants) ≡ OneList i → (l : Layout) → IsSingleAnswer layout_of (λ i. i) 0 i dl repr AlwaysSized Enabled (variant_at variants i) (Ok l) → IsShaped dl repr numbers variants l l.variants
  shaped_one i way l h =
      let ps : List Placed = variant_at variants i in
      let good = good_list layout_of (λ i. i) 0 dl repr AlwaysSized ps h.0 law (lawful_at i) (aligns_of dl law repr numbers variants none long) tt tt h.1 in
      let count : length (listed_offsets h.0.fields) ≡ length ps = apart_long h.0.size (listed_offsets h.0.fields) (map size_of ps) good.apart ∙ length-map ps size_of in
      subst (λ (m : Layout). IsShaped dl repr numbers variants m m.variants) (sym h.2) (index_within layout_of repr variants true i (λ e. absurd (cc)) way, count, good.least)

  abbrev pub OfTaggedVariantsApart : (Q : LayoutVariants ℕ ℕ → Type 0) → (size : ℕ) → Type 0
  OfTaggedVariantsApart Q size = (tag : Scalar) (encoding : TagEncoding ℕ) (field : ℕ) (layouts : List (VariantLayout ℕ))
      → EachApart size variants layouts → Q (Multiple tag encoding field layouts)

  tagged_variants_by : (Q : LayoutVariants ℕ ℕ → Type 0) (l : Layout) (tag : Scalar) (encoding : TagEncoding ℕ) (field : ℕ)
      (layouts : List (VariantLayout ℕ)) → l.variants ≡ Multiple tag encoding field layouts
      → EachApart l.size variants layouts →
      OfTaggedVariantsApart Q l.size → Q l.variants
  tagged_variants_by Q l tag encoding field layouts tag_distinguishes apart each = subst Q (sym tag_distinguishes) (each tag encoding field layouts apart)

  -- what holds of several variants that are laid apart holds of those of the layout
  pub by_tagged_variants : (Q : LayoutVariants ℕ ℕ → Type 0) (l : Layout) → strategy_of true repr (layouts_of variants) ≡ Several
      → Answers Several (Ok l) → OfTaggedVariantsApart Q l.size → Q l.variants
  by_tagged_variants Q l way h each =
      ⊎_elim
      (λ t. tagged_variants_by Q l t.tag _ t.field t.layouts t.tag_distinguishes (apart_behind l.size _ variants t.layouts t.apart) each)
      (λ t. tagged_variants_by Q l t.tag _ t.field t.layouts t.tag_distinguishes (apart_beside l.size _ _ _ 0 variants t.layouts t.apart) each)
      (enum_told layout_of dl law repr (IsTagIntegerAnswer dl repr) variants (numbered_from 0 numbers)
      (aligns_of dl law repr numbers variants none long) lawful (several_some layout_of repr variants true way)
      (each_of dl law repr numbers variants none long) (tags_of dl law repr numbers variants none long) l h)

  several_size : (l : Layout) → strategy_of true repr (layouts_of variants) ≡ Several → Answers Several (Ok l)
      → IsEnumSized dl repr numbers variants l.size
  several_size l way h =
      enum_size layout_of dl law repr (IsTagIntegerAnswer dl repr) variants (numbered_from 0 numbers)
      (aligns_of dl law repr numbers variants none long) lawful (several_some layout_of repr variants true way)
      (each_of dl law repr numbers variants none long) (tags_of dl law repr numbers variants none long) l h

  shaped_by : (strategy : EnumStrategy) → strategy_of true repr (layouts_of variants) ≡ strategy → (l : Layout) → Answers strategy (Ok l) → IsShaped dl repr numbers variants l l.variants
  shaped_by NoValue way l h = let same : never_layout dl ≡ l = cc in subst (λ (m : Layout). IsShaped dl repr numbers variants m m.variants) same tt
  shaped_by (OneList i) way l h = shaped_one i way l h
  shaped_by Several way l h =
      by_tagged_variants (IsShaped dl repr numbers variants l) l way h
      (λ tag encoding field layouts apart. (apart, several_size l way h))

  -- an enum that is laid out has such a layout
  pub enumed_shaped : (l : Layout) → IsEnumed dl repr numbers variants (Ok l) → IsShaped dl repr numbers variants l l.variants
  enumed_shaped l h = shaped_by (strategy_of true repr (layouts_of variants)) refl l h

  abbrev IsLeastBy : EnumStrategy → Layout → LayoutVariants ℕ ℕ → Type 0
  IsLeastBy strategy l vs = IsLeastEnum dl repr numbers variants strategy (placed_variants dl repr numbers variants l vs)

  least_one : (i : ℕ) (l : Layout) → IsSingleAnswer layout_of (λ i. i) 0 i dl repr AlwaysSized Enabled
      (variant_at variants i) (Ok l) → IsLeastBy (OneList i) l l.variants
  least_one i l h =
      let ps : List Placed = variant_at variants i in
      let good = good_list layout_of (λ i. i) 0 dl repr AlwaysSized ps h.0 law (lawful_at i)
      (aligns_of dl law repr numbers variants none long) tt tt h.1 in
      let count : length (listed_offsets h.0.fields) ≡ length ps = apart_long h.0.size (listed_offsets h.0.fields)
      (map size_of ps) good.apart ∙ length-map ps size_of in
      subst (λ (m : Layout). IsLeastBy (OneList i) m m.variants) (sym h.2)
      (refl, fields_back (listed_offsets h.0.fields) ps (omega (arith, count)), good.least)

  least_by : (strategy : EnumStrategy) → strategy_of true repr (layouts_of variants) ≡ strategy → (l : Layout) → Answers strategy (Ok l)
      → IsLeastBy strategy l l.variants
  least_by NoValue way l h = let same : never_layout dl ≡ l = cc in
      subst (λ (m : Layout). IsLeastBy NoValue m m.variants) same refl
  least_by (OneList i) way l h = least_one i l h
  least_by Several way l h =
      by_tagged_variants (IsLeastBy Several l) l way h (λ tag encoding field layouts
      apart. (variants_back l (mark_of true repr) 0 l.size layouts numbers variants apart long, several_size l way h))

  -- and has the size that its variants allow
  pub enumed_least : (l : Layout) → IsEnumed dl repr numbers variants (Ok l)
      → IsLeastEnum dl repr numbers variants (strategy_of true repr (layouts_of variants))
      (placed_enum dl repr numbers variants l)
  enumed_least l h = least_by (strategy_of true repr (layouts_of variants)) refl l h
