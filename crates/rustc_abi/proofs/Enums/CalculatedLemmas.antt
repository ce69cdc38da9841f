-- What the calculator's answer to the variants of an enum keeps, whichever way the enum is laid out.
use Rattle.std.proofs.Common.{false, None, ◌≡◌, ℕ, zero, suc, ◌<◌, List, [], ◌∷◌, map, length, true, arith, refl, sym, ap, subst, ◌∙◌, ⊎_elim, All, Ok}
use Rattle.std.proofs.lemmas.List.{length-map}
use Rattle.std.proofs.lemmas.List.Elements.{All-head, All-nil, All-tail}
use Rattle.std.proofs.lemmas.Option.{IfSome_then}
use Rattle.abi_base.specs.declared.data_layout.TargetDataLayout.{TargetDataLayout}
use Rattle.abi_base.specs.declared.niche_optimizations.NicheOptimizations.TheVariants.{Enabled}
use Rattle.abi_base.specs.declared.struct_kind.StructKind.TheVariants.{AlwaysSized}
use Rattle.abi_base.specs.DataLayout.{IsLawfulDataLayout}
use Rattle.abi_scalar.specs.declared.repr.ReprOptions.{ReprOptions}
use Rattle.abi_scalar.specs.declared.variants.VariantLayout.{VariantLayout}
use Rattle.abi_scalar.specs.declared.variants.Variants.{Variants as LayoutVariants}
use Rattle.abi_scalar.specs.declared.variants.Variants.TheVariants.{Empty, Single, Multiple}
use Rattle.abi_scalar.specs.Lawful.{HasLawfulTag, IsLawfulLayout}
use Rattle.abi_scalar.specs.Repr.{is_abi_fixed}
use Rattle.abi_scalar.specs.Shape.{listed_offsets}
use Rattle.abi_scalar.specs.Simple.{never_layout}
use Rattle.abi_scalar.proofs.LawfulLemmas.{empty_lawful}
use Rattle.abi_scalar.proofs.ReadableLemmas.{lawful_readable}
use Rattle.abi_univariant.specs.List.{HasLawfulAligns}
use Rattle.abi_univariant.specs.ListView.{list_view}
use Rattle.abi_univariant.specs.Part.{parts_of}
use Rattle.abi_calc.specs.declared.enums.strategy.EnumStrategy.{EnumStrategy}
use Rattle.abi_calc.specs.declared.enums.strategy.EnumStrategy.TheVariants.{NoValue, OneList, Several}
use Rattle.abi_calc.specs.Enums.Answer.{HasOneEach, IsTypeAnswer}
use Rattle.abi_calc.specs.Enums.Beside.{AreDistinguished}
use Rattle.abi_calc.specs.Enums.EnumStrategy.{strategy_of, variant_at}
use Rattle.abi_calc.specs.Enums.Several.{AreWellFormedTags}
use Rattle.abi_calc.specs.Enums.Single.{IsSingleAnswer, single_layout}
use Rattle.abi_calc.proofs.EnumLemmas.Deep.{enum_flag, enum_lawful, enum_told}
use Rattle.abi_calc.proofs.EnumLemmas.Single.{single_lawful}
use Rattle.abi_calc.proofs.EnumLemmas.EnumExtent.{index_within, several_some}
use Rattle.abi_calc.proofs.EnumLemmas.GoodLists.{good_list}
use Rattle.abi_tree.specs.Tree.{Variants, enum, struct}
use Rattle.abi_tree.specs.Mark.{mark_of}
use Rattle.abi_tree.specs.Placed.{Placed, layout_of, fields}
use Rattle.abi_scalar.specs.Layout.{Layout}
use Rattle.abi_tree.specs.Fits.{Fits}
use Rattle.abi_tree.specs.Nodes.{parts_at}
use Rattle.rustc_abi.specs.Enums.{IsCalculated, IsTagIntegerAnswer, discriminants_of, layouts_of, numbered_from}
use Rattle.rustc_abi.specs.Laying.{placed_enum}
use Rattle.rustc_abi.specs.Adding.{HasWellFormedTag, HasVariants, VariantsFit}
use Rattle.rustc_abi.proofs.Enums.TaggedVariantsLemmas.{EachApart, apart_behind, apart_beside}
use Rattle.rustc_abi.proofs.Enums.EnumLemmas.{Fits-by-tag}
use Rattle.rustc_abi.proofs.Values.FieldsLemmas.{Fits-fields, part_of_list}
use Rattle.rustc_abi.proofs.Trees.LayLemmas.{EachFits-lawful}
use Rattle.rustc_abi.proofs.Enums.NicheEnumLemmas.{Fits-by-niche}
use Rattle.rustc_abi.proofs.Enums.PresentLemmas.{all_absent, others_absent}
use Rattle.rustc_abi.proofs.Enums.SingleLemmas.{Fits-no-variant, Fits-single, fields_at, fits_at}

-- a fact of each variant's fields is one of those of the variant with this index
pub lawful_at : (dl : TargetDataLayout) (variants : List (List Placed)) (i : ℕ) → All (All (λ p. IsLawfulLayout dl (layout_of p))) variants → All (λ p. IsLawfulLayout dl (layout_of p)) (variant_at variants i)
lawful_at dl [] i h = All-nil (λ p. IsLawfulLayout dl (layout_of p))
lawful_at dl (ps ∷ variants) zero h = All-head (All (λ p. IsLawfulLayout dl (layout_of p))) ps variants h
lawful_at dl (ps ∷ variants) (suc i) h = lawful_at dl variants i (All-tail (All (λ p. IsLawfulLayout dl (layout_of p))) ps variants h)

layouts_at : (variants : List (List Placed)) (i : ℕ) → variant_at (layouts_of variants) i ≡ map layout_of (variant_at variants i)
layouts_at [] i = refl
layouts_at (ps ∷ variants) zero = refl
layouts_at (ps ∷ variants) (suc i) = layouts_at variants i

-- there is a layout for each variant
each_long : (size : ℕ) (variants : List (List Placed)) (layouts : List (VariantLayout ℕ)) → EachApart size variants layouts → length layouts ≡ length variants
each_long size [] [] h = refl
each_long size [] (l ∷ layouts) h = absurd h
each_long size (ps ∷ variants) [] h = absurd h
each_long size (ps ∷ variants) (l ∷ layouts) h = ap suc (each_long size variants layouts h.1)

-- a lawful tag can be asked for its numbers
readable : (dl : TargetDataLayout) (vs : LayoutVariants ℕ ℕ) → HasLawfulTag dl vs → HasWellFormedTag dl vs
readable dl Empty h = tt
readable dl (Single i) h = tt
readable dl (Multiple tag encoding field layouts) h = lawful_readable dl tag h

module _ (dl : TargetDataLayout) (law : IsLawfulDataLayout dl) (repr : ReprOptions) (numbers : List ℕ) (variants : List (List Placed)) (aligns : HasLawfulAligns repr)
    (lawful : All (All (λ p. IsLawfulLayout dl (layout_of p))) variants) (each : HasOneEach (λ v. v) (length variants) (numbered_from 0 numbers))
    (tags : AreWellFormedTags (λ v. v) dl repr (IsTagIntegerAnswer dl repr) (layouts_of variants) (numbered_from 0 numbers)) where
  abbrev Answers : EnumStrategy → Layout → Type 0
  Answers strategy l =
      IsTypeAnswer layout_of (λ i. i) (λ i. i) (λ i. i) (λ i. i) dl repr variants true true Enabled (IsTagIntegerAnswer dl repr) (λ items. items ≡ numbered_from 0 numbers) strategy (Ok l)

  never_is_lawful : IsLawfulLayout {F = ℕ} {V = ℕ} dl (never_layout dl)
  never_is_lawful = empty_lawful dl true (never_layout dl) law refl refl refl refl tt

  pub some_variant : strategy_of true repr (layouts_of variants) ≡ Several → 0 < length variants
  some_variant strategy = several_some layout_of repr variants true strategy

  pub tag_distinguishes : strategy_of true repr (layouts_of variants) ≡ Several → (l : Layout) → Answers Several l → AreDistinguished dl (λ v. v) (layouts_of variants) (numbered_from 0 numbers) l
  tag_distinguishes strategy l h = enum_told layout_of dl law repr (IsTagIntegerAnswer dl repr) variants (numbered_from 0 numbers) aligns lawful (some_variant strategy) each tags l h

  -- its layout is lawful
  lawful_by : (strategy : EnumStrategy) → strategy_of true repr (layouts_of variants) ≡ strategy → (l : Layout) → Answers strategy l → IsLawfulLayout dl l
  lawful_by NoValue strategy l h = let same : never_layout dl ≡ l = cc in subst (IsLawfulLayout dl) same never_is_lawful
  lawful_by (OneList i) strategy l h =
      let good = good_list layout_of (λ i. i) 0 dl repr AlwaysSized (variant_at variants i) h.0 law (lawful_at dl variants i lawful) aligns tt tt h.1 in
      subst (IsLawfulLayout dl) (sym h.2) (single_lawful i dl Enabled h.0 good.lawful)
  lawful_by Several strategy l h = enum_lawful layout_of dl law repr (IsTagIntegerAnswer dl repr) variants (numbered_from 0 numbers) aligns lawful (some_variant strategy) each tags l h

  pub calculated_lawful : (l : Layout) → IsCalculated dl repr numbers variants (Ok l) → IsLawfulLayout dl l
  calculated_lawful l h = lawful_by (strategy_of true repr (layouts_of variants)) refl l h

  -- it has a layout for each variant, or names one of them
  variants_by : (strategy : EnumStrategy) → strategy_of true repr (layouts_of variants) ≡ strategy → (l : Layout) → Answers strategy l → HasVariants (length variants) l.variants
  variants_by NoValue strategy l h = let same : never_layout dl ≡ l = cc in subst (λ (m : Layout). HasVariants (length variants) m.variants) same tt
  variants_by (OneList i) strategy l h =
      subst (λ (m : Layout). HasVariants (length variants) m.variants) (sym h.2) (index_within layout_of repr variants true i (λ e. absurd (cc)) strategy)
  variants_by Several strategy l h =
      ⊎_elim
      (λ t. subst (HasVariants (length variants)) (sym t.tag_distinguishes) (each_long l.size variants t.layouts (apart_behind l.size _ variants t.layouts t.apart)))
      (λ t. subst (HasVariants (length variants)) (sym t.tag_distinguishes) (each_long l.size variants t.layouts (apart_beside l.size _ _ _ 0 variants t.layouts t.apart)))
      (tag_distinguishes strategy l h)

  pub calculated_variants : (l : Layout) → IsCalculated dl repr numbers variants (Ok l) → HasVariants (length variants) l.variants
  calculated_variants l h = variants_by (strategy_of true repr (layouts_of variants)) refl l h

  pub calculated_tag : (l : Layout) → IsCalculated dl repr numbers variants (Ok l) → HasWellFormedTag dl l.variants
  calculated_tag l h = readable dl l.variants (IsLawfulLayout.tag (calculated_lawful l h))

  module _ (all : Variants) (is : numbers ≡ discriminants_of all) (fits : VariantsFit dl all variants) where
    -- the one variant that is left keeps its values
    fits_one : (i : ℕ) → strategy_of true repr (layouts_of variants) ≡ OneList i → (l : Layout) → IsSingleAnswer layout_of (λ i. i) 0 i dl repr AlwaysSized Enabled (variant_at variants i) (Ok l) →
        Fits dl (enum repr all) (placed_enum dl repr numbers variants l)
    fits_one i strategy l h =
        let ps : List Placed = variant_at variants i in
        let list : Layout = h.0 in
        let good = good_list layout_of (λ i. i) 0 dl repr AlwaysSized ps list law (lawful_at dl variants i lawful) aligns tt tt h.1 in
        let made = h.1.2 in
        let offsets : listed_offsets list.fields ≡ h.1.1 = ap listed_offsets made.shape in
        let view : list.backend_repr ≡ list_view dl (is_abi_fixed repr) list.size list.align.abi (parts_of dl (map layout_of ps)) (listed_offsets list.fields) =
        made.view ∙ ap (list_view dl (is_abi_fixed repr) list.size list.align.abi (parts_of dl (map layout_of ps))) (sym offsets) in
        let own = fits_at dl all variants i fits in
        let one : Layout = single_layout i dl Enabled list in
        let as_struct : Fits dl (struct repr true None (fields_at all i)) (fields one (mark_of false repr) (parts_at (listed_offsets list.fields) ps)) =
        Fits-fields dl repr true (is_abi_fixed repr) None (fields_at all i) one (listed_offsets list.fields) ps own good.apart
        (IfSome_then list.largest_niche good.niche (part_of_list (listed_offsets list.fields) ps)) view made.uninhabited (EachFits-lawful dl (fields_at all i) ps own) (single_lawful i dl Enabled list good.lawful) in
        let short : i < length variants = index_within layout_of repr variants true i (λ e. absurd (cc)) strategy in
        subst (λ m. Fits dl (enum repr all) (placed_enum dl repr numbers variants m)) (sym h.2)
        (Fits-single dl repr all variants i one (parts_at (listed_offsets list.fields) ps) fits short
        (λ j before other. others_absent repr (layouts_of variants) i strategy j (omega (arith, before, length-map variants (map layout_of))) other) as_struct)

    fits_by : (strategy : EnumStrategy) → strategy_of true repr (layouts_of variants) ≡ strategy → (l : Layout) → Answers strategy l → Fits dl (enum repr all) (placed_enum dl repr numbers variants l)
    fits_by NoValue strategy l h =
        let same : never_layout dl ≡ l = cc in
        subst (λ m. Fits dl (enum repr all) (placed_enum dl repr numbers variants m)) same
        (Fits-no-variant dl repr all variants fits (λ j before. all_absent repr (layouts_of variants) strategy j (omega (arith, before, length-map variants (map layout_of)))) never_is_lawful)
    fits_by (OneList i) strategy l h = fits_one i strategy l h
    fits_by Several strategy l h =
        let law_l = lawful_by Several strategy l h in
        let flag = enum_flag layout_of dl law repr (IsTagIntegerAnswer dl repr) variants (numbered_from 0 numbers) aligns lawful (some_variant strategy) each tags l h in
        subst (λ ns. Fits dl (enum repr all) (placed_enum dl repr ns variants l)) (sym is)
        (⊎_elim
        (λ t. Fits-by-tag dl repr all variants l (some_variant strategy) fits law_l flag t)
        (λ t. Fits-by-niche dl repr all variants l fits law_l flag t)
        (subst (λ ns. AreDistinguished dl (λ v. v) (layouts_of variants) (numbered_from 0 ns) l) is (tag_distinguishes strategy l h)))

    -- an enum that the calculator laid out keeps its values
    pub calculated_fits : (l : Layout) → IsCalculated dl repr numbers variants (Ok l) → Fits dl (enum repr all) (placed_enum dl repr numbers variants l)
    calculated_fits l h = fits_by (strategy_of true repr (layouts_of variants)) refl l h
