-- The fields of structs, and of enums of which one variant is left, lie in an allowed order: in the one that is handed in.
use Rattle.std.proofs.Common.{◌≡◌, ℕ, Bool, true, List, None, Some, length, map, sym, ◌∙◌, subst, arith, refl, All, Ok, inl, inr}
use Rattle.std.proofs.lemmas.List.{length-map}
use Rattle.abi_base.specs.declared.data_layout.TargetDataLayout.{TargetDataLayout}
use Rattle.abi_base.specs.declared.niche_optimizations.NicheOptimizations.TheVariants.{Enabled}
use Rattle.abi_base.specs.declared.struct_kind.StructKind.{StructKind}
use Rattle.abi_base.specs.declared.struct_kind.StructKind.TheVariants.{AlwaysSized}
use Rattle.abi_base.specs.DataLayout.{IsLawfulDataLayout}
use Rattle.abi_scalar.specs.declared.repr.ReprOptions.{ReprOptions}
use Rattle.abi_scalar.specs.declared.variants.Variants.{Variants as LayoutVariants}
use Rattle.abi_scalar.specs.Shape.{listed_offsets}
use Rattle.abi_scalar.specs.Simple.{never_layout}
use Rattle.abi_univariant.specs.Least.{IsPlacedBy}
use Rattle.abi_calc.specs.declared.enums.strategy.EnumStrategy.{EnumStrategy}
use Rattle.abi_calc.specs.declared.enums.strategy.EnumStrategy.TheVariants.{NoValue, OneList, Several}
use Rattle.abi_calc.specs.Enums.EnumStrategy.{strategy_of, variant_at}
use Rattle.abi_calc.specs.Enums.Single.{IsSingleAnswer}
use Rattle.abi_calc.proofs.Made.{field_list}
use Rattle.abi_tree.specs.Tree.{Tree, struct, enum, Trees, Variants}
use Rattle.abi_tree.specs.Nodes.{parts_at}
use Rattle.abi_tree.specs.Placed.{Placed, layout_of}
use Rattle.abi_scalar.specs.Layout.{Layout}
use Rattle.rustc_abi.specs.Enums.{IsEnumed, discriminants_of, layouts_of}
use Rattle.rustc_abi.specs.Laying.{AreLaying, IsLaying, IsLaidList, IsListedInOrder, VariantsLaying, enum_fault, fields_fault, kind_of, ordered_fault}
use Rattle.rustc_abi.specs.Laying.{placed_enum, placed_fields, placed_variants, with_randomize_flag}
use Rattle.rustc_abi.specs.Least.{fields_of}
use Rattle.rustc_abi.specs.Lists.{types_of}
use Rattle.rustc_abi.specs.Orders.{LieIn, LiesAsAsked}
use Rattle.rustc_abi.proofs.Sizes.EachListLemmas.{offsets_back}
use Rattle.rustc_abi.proofs.Sizes.EnumSizeLemmas.{Answers, by_tagged_variants, fields_back, lawful_at}
use Rattle.rustc_abi.proofs.Sizes.LeastLemmas.{listed_count}
use Rattle.rustc_abi.proofs.Trees.LaidLemmas.{IsWhole, all_whole, laid_by, numbers_for, some_field, variants_whole, whole_lawful}
use Rattle.rustc_abi.proofs.Trees.OrderLemmas.{ordered_count, ordered_placed}

-- parts lie where their types were put
lie_there : (dl : TargetDataLayout) (repr : ReprOptions) (kind : StructKind) (order : List ℕ) (ps : List Placed) (layout : Layout) → length (listed_offsets layout.fields) ≡ length ps
    → IsPlacedBy dl repr kind (map layout_of ps) order (listed_offsets layout.fields) layout.size layout.align.abi → LieIn dl repr kind order (parts_at (listed_offsets layout.fields) ps) layout
lie_there dl repr kind order ps layout count placed =
    let os : List ℕ = listed_offsets layout.fields in
    subst (λ at. IsPlacedBy dl repr kind (types_of (parts_at os ps)) order at layout.size layout.align.abi) (sym (offsets_back os ps count))
    (subst (λ qs. IsPlacedBy dl repr kind (map layout_of qs) order os layout.size layout.align.abi) (sym (fields_back os ps (omega (arith, count)))) placed)

module _ (dl : TargetDataLayout) (law : IsLawfulDataLayout dl) where
  -- ---- structs

  -- a struct's parts are of the kind of its fields
  of_kind : (repr : ReprOptions) (always_sized : Bool) (order : List ℕ) (ps : List Placed) (layout : Layout) → length (listed_offsets layout.fields) ≡ length ps
      → LieIn dl repr (kind_of always_sized ps) order (parts_at (listed_offsets layout.fields) ps) layout
      → LieIn dl repr (kind_of always_sized (fields_of (parts_at (listed_offsets layout.fields) ps))) order (parts_at (listed_offsets layout.fields) ps) layout
  of_kind repr always_sized order ps layout count h =
      subst (λ qs. LieIn dl repr (kind_of always_sized qs) order (parts_at (listed_offsets layout.fields) ps) layout)
      (sym (fields_back (listed_offsets layout.fields) ps (omega (arith, count)))) h

  placed_struct : (repr : ReprOptions) (always_sized : Bool) (all : Trees) (ps : List Placed) (layout : Layout)
      → AreLaying dl all (Ok ps) → IsLaidList dl repr (kind_of always_sized ps) (map layout_of ps) (Ok layout)
      → LiesAsAsked dl (struct repr always_sized None all) (placed_fields repr ps layout)
  placed_struct repr always_sized all ps layout there listed =
      let kind = kind_of always_sized ps in
      let own = all_whole dl law all ps there in
      let list = field_list layout_of (λ i. i) 0 dl repr kind ps layout (whole_lawful dl ps own) (some_field always_sized ps) listed in
      let count : length (listed_offsets layout.fields) ≡ length ps = listed_count dl repr always_sized ps own layout listed in
      (list.placed.0, of_kind repr always_sized list.placed.0 ps layout count (lie_there dl repr kind list.placed.0 ps layout count list.placed.2))

  placed_ordered : (repr : ReprOptions) (always_sized : Bool) (order : List ℕ) (all : Trees) (ps : List Placed) (layout : Layout)
      → IsListedInOrder dl (with_randomize_flag repr) (kind_of always_sized ps) order (map layout_of ps) (Ok layout)
      → LiesAsAsked dl (struct repr always_sized (Some order) all) (placed_fields repr ps layout)
  placed_ordered repr always_sized order all ps layout listed =
      let kind = kind_of always_sized ps in
      let count = ordered_count dl (with_randomize_flag repr) kind order ps layout listed in
      of_kind (with_randomize_flag repr) always_sized order ps layout count
      (lie_there dl (with_randomize_flag repr) kind order ps layout count (ordered_placed dl (with_randomize_flag repr) kind order ps layout listed))

  -- ---- enums

  module _ (repr : ReprOptions) (all : Variants) (variants : List (List Placed)) (none : enum_fault dl repr (discriminants_of all) variants ≡ None)
      (there : VariantsLaying dl all (Ok variants)) where
    long : length (discriminants_of all) ≡ length variants
    long = numbers_for dl law all variants there

    whole : All (All (IsWhole dl)) variants
    whole = variants_whole dl law all variants there

    -- the enum with this layout and these variants
    abbrev With : Layout → LayoutVariants ℕ ℕ → Type 0
    With l vs = LiesAsAsked dl (enum repr all) (placed_variants dl repr (discriminants_of all) variants l vs)

    placed_one : (i : ℕ) (l : Layout) → IsSingleAnswer layout_of (λ i. i) 0 i dl repr AlwaysSized Enabled (variant_at variants i) (Ok l) → With l l.variants
    placed_one i l h =
        let ps : List Placed = variant_at variants i in
        let list = field_list layout_of (λ i. i) 0 dl repr AlwaysSized ps h.0 (lawful_at dl law repr (discriminants_of all) variants none long whole i) tt h.1 in
        let count : length (listed_offsets h.0.fields) ≡ length ps = list.placed.2.count ∙ length-map ps layout_of in
        subst (λ (m : Layout). With m m.variants) (sym h.2) (list.placed.0, lie_there dl repr AlwaysSized list.placed.0 ps h.0 count list.placed.2)

    placed_by : (strategy : EnumStrategy) → strategy_of true repr (layouts_of variants) ≡ strategy → (l : Layout)
        → Answers dl law repr (discriminants_of all) variants none long whole strategy (Ok l) → With l l.variants
    placed_by NoValue way l h = let same : never_layout dl ≡ l = cc in subst (λ (m : Layout). With m m.variants) same tt
    placed_by (OneList i) way l h = placed_one i l h
    placed_by Several way l h =
        by_tagged_variants dl law repr (discriminants_of all) variants none long whole (λ vs. With l vs) l way h (λ tag encoding field layouts apart. tt)

    placed_several : (l : Layout) → IsEnumed dl repr (discriminants_of all) variants (Ok l) → LiesAsAsked dl (enum repr all) (placed_enum dl repr (discriminants_of all) variants l)
    placed_several l h = placed_by (strategy_of true repr (layouts_of variants)) refl l h

  -- each type that is laid out lies as it is asked
  pub laid_as_asked : (t : Tree) (p : Placed) → IsLaying dl t (Ok p) → LiesAsAsked dl t p
  laid_as_asked (struct repr always_sized order all) p (inl f) = absurd (cc f.2)
  laid_as_asked (struct repr always_sized None all) p (inr (ps, there, answer)) =
      let found = laid_by (fields_fault repr ps) (IsLaidList dl repr (kind_of always_sized ps) (map layout_of ps)) (placed_fields repr ps) p answer in
      subst (LiesAsAsked dl (struct repr always_sized None all)) found.2 (placed_struct repr always_sized all ps found.0 there found.1)
  laid_as_asked (struct repr always_sized (Some order) all) p (inr (ps, there, answer)) =
      let found = laid_by (ordered_fault repr ps) (IsListedInOrder dl (with_randomize_flag repr) (kind_of always_sized ps) order (map layout_of ps)) (placed_fields repr ps) p answer in
      subst (LiesAsAsked dl (struct repr always_sized (Some order) all)) found.2 (placed_ordered repr always_sized order all ps found.0 found.1)
  laid_as_asked (enum repr all) p (inl f) = absurd (cc f.2)
  laid_as_asked (enum repr all) p (inr (variants, there, answer)) =
      let found = laid_by (enum_fault dl repr (discriminants_of all) variants) (IsEnumed dl repr (discriminants_of all) variants) (placed_enum dl repr (discriminants_of all) variants) p answer in
      subst (LiesAsAsked dl (enum repr all)) found.2 (placed_several repr all variants found.3 there found.0 found.1)
  laid_as_asked _ p h = tt
