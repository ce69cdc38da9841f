-- What each type takes over from its parts: its niche, its alignment and its marks.
use Rattle.std.proofs.Common.{◌≡◌, ℕ, ◌+◌, ◌*◌, Bool, true, false, List, [], ◌∷◌, None, Some, length, map}
use Rattle.std.proofs.Common.{Err, get_or, max, refl, sym, ap, ap₂, ◌∙◌, subst, arith, inl, inr, All, Ok}
use Rattle.std.specs.Prelude.{IfSome, nat_lt, if◌then◌else◌}
use Rattle.std.proofs.lemmas.List.{length-map}
use Rattle.abi_base.specs.declared.data_layout.TargetDataLayout.{TargetDataLayout}
use Rattle.abi_base.specs.declared.niche_optimizations.NicheOptimizations.TheVariants.{Enabled}
use Rattle.abi_base.specs.declared.struct_kind.StructKind.{StructKind}
use Rattle.abi_base.specs.declared.struct_kind.StructKind.TheVariants.{AlwaysSized}
use Rattle.abi_base.specs.DataLayout.{IsLawfulDataLayout, size_bound}
use Rattle.abi_scalar.specs.declared.repr.ReprOptions.{ReprOptions}
use Rattle.abi_scalar.specs.declared.scalar.Scalar.{Scalar}
use Rattle.abi_scalar.specs.declared.variants.TagEncoding.{TagEncoding}
use Rattle.abi_scalar.specs.declared.variants.VariantLayout.{VariantLayout}
use Rattle.abi_scalar.specs.declared.variants.Variants.{Variants as LayoutVariants}
use Rattle.abi_scalar.specs.declared.variants.Variants.TheVariants.{Multiple}
use Rattle.abi_scalar.specs.Layout.{Layout}
use Rattle.abi_scalar.specs.Niche.{niche_at}
use Rattle.abi_scalar.specs.Pair.{pair_size}
use Rattle.abi_scalar.specs.Shape.{listed_offsets}
use Rattle.abi_scalar.specs.Simple.{never_layout, unit_layout}
use Rattle.abi_scalar.specs.Variant.{variants_of as layouts_in}
use Rattle.abi_univariant.specs.Array.{elements_layout}
use Rattle.abi_univariant.specs.Fields.{greatest, greatest_align}
use Rattle.abi_univariant.specs.Least.{align_by}
use Rattle.abi_univariant.specs.ListNiche.{IsNicheOfPart}
use Rattle.abi_univariant.specs.Placement.{fields_repr, source_order}
use Rattle.abi_univariant.specs.Union.{union_align}
use Rattle.abi_univariant.specs.Simd.{lanes_align, lanes_answer, simd_align, simd_answer, simd_view, vector_layout}
use Rattle.abi_univariant.proofs.Promised.OrderedLemmas.{ordered_largest, ordered_of_part}
use Rattle.abi_univariant.proofs.UnionsVectors.VectorLemmas.{lanes_are}
use Rattle.abi_calc.specs.declared.enums.strategy.EnumStrategy.{EnumStrategy}
use Rattle.abi_calc.specs.declared.enums.strategy.EnumStrategy.TheVariants.{NoValue, OneList, Several}
use Rattle.abi_calc.specs.Coroutine.Lists.{first_list}
use Rattle.abi_calc.specs.Coroutine.Promotion.{promoted_of}
use Rattle.abi_calc.specs.Coroutine.Sizes.{align_of_all, own_lists}
use Rattle.abi_calc.specs.Enums.Made.{IsMadeOfLists}
use Rattle.abi_calc.specs.Enums.EnumStrategy.{strategy_of, variant_at}
use Rattle.abi_calc.specs.Enums.Beside.{AreDistinguished}
use Rattle.abi_calc.specs.Enums.Single.{IsSingleAnswer}
use Rattle.abi_calc.specs.Made.{AreFieldLists}
use Rattle.abi_calc.specs.Enums.Discriminants.{counted_discriminants}
use Rattle.abi_calc.specs.Marks.{HasCoroutineMarks, HasEnumMarks, HasListMarks, HasMarks, HasUnionMarks}
use Rattle.abi_calc.proofs.CoroutineLemmas.OneCoroutine.{one_tag}
use Rattle.abi_calc.proofs.CoroutineLemmas.Seen.{coroutine_align, coroutine_marks, coroutine_niche}
use Rattle.abi_calc.proofs.EnumLemmas.Deep.{enum_told}
use Rattle.abi_calc.proofs.EnumLemmas.Made.{niche_made, several_holds, tagged_made}
use Rattle.abi_calc.proofs.EnumLemmas.EnumExtent.{several_some}
use Rattle.abi_calc.proofs.Handed.{handed_marks}
use Rattle.abi_calc.proofs.Made.{field_list}
use Rattle.abi_calc.proofs.Seen.{single_seen}
use Rattle.abi_tree.specs.Tree.{Tree, scalar, pair, never, unit, array, vector, struct, union, enum, coroutine, Trees}
use Rattle.abi_tree.specs.Tree.{Variants}
use Rattle.abi_tree.specs.declared.mark.Mark.{Mark}
use Rattle.abi_tree.specs.declared.mark.Mark.TheVariants.{Never, Plain, Unit}
use Rattle.abi_tree.specs.Mark.{mark_of}
use Rattle.abi_tree.specs.Nodes.{parts_at, placed_in, tag_offset}
use Rattle.abi_tree.specs.Placed.{Placed, fields, layout_of, size_of, never as placed_never, no_parts}
use Rattle.abi_tree.specs.Placed.{vector as placed_vector}
use Rattle.rustc_abi.specs.Aligns.{HasAlignOfParts, IsKindOfVariants, variants_align}
use Rattle.rustc_abi.specs.Coroutines.{conflicts_of}
use Rattle.rustc_abi.specs.declared.error.LayError.TheVariants.{SizeOverflow}
use Rattle.rustc_abi.specs.Enums.{IsEnumed, IsTagIntegerAnswer, tagged_variants_at, counted, discriminants_of, layouts_of, numbered_from}
use Rattle.rustc_abi.specs.Error.{named}
use Rattle.rustc_abi.specs.Laying.{AreLaying, IsCoroutineOf, IsLaying, IsLaidList, IsListedInOrder, IsUnited, VariantsLaying}
use Rattle.rustc_abi.specs.Laying.{coroutine_fault, elements_answer, enum_fault, fields_fault, kind_of, lanes_of, one_scalar}
use Rattle.rustc_abi.specs.Laying.{ordered_fault, pair_answer, placed_enum, placed_fields, placed_together}
use Rattle.rustc_abi.specs.Laying.{placed_variants, with_randomize_flag, scalar_answer, two_scalars, unless, vector_answer}
use Rattle.rustc_abi.specs.Least.{fields_of}
use Rattle.rustc_abi.specs.Lists.{offsets_of, types_of}
use Rattle.rustc_abi.specs.Marks.{AreMarked, HasMarksOfParts}
use Rattle.rustc_abi.specs.Niches.{HasNicheOfParts, IsBestNiche}
use Rattle.rustc_abi.specs.ScalarFault.{scalar_fault}
use Rattle.rustc_abi.proofs.Enums.TaggedVariantsLemmas.{EachApart}
use Rattle.rustc_abi.proofs.Sizes.EachListLemmas.{offsets_back}
use Rattle.rustc_abi.proofs.Sizes.EnumSizeLemmas.{Answers, by_tagged_variants, fields_back, lawful_at, variants_back}
use Rattle.rustc_abi.proofs.Sizes.LeastLemmas.{listed_count}
use Rattle.rustc_abi.proofs.Sizes.SizeLemmas.{elements_there}
use Rattle.rustc_abi.proofs.Trees.LaidLemmas.{IsWhole, aligns_of, all_whole, coroutine_laid, each_lawful}
use Rattle.rustc_abi.proofs.Trees.LaidLemmas.{each_of, fitted, laid_by, no_fault, numbers_for, placed_back, some_field}
use Rattle.rustc_abi.proofs.Trees.LaidLemmas.{stated_offsets, tags_of, variants_whole, whole_lawful}
use Rattle.rustc_abi.proofs.Trees.OrderLemmas.{in_this_order, ordered_count, ordered_placed}
use Rattle.rustc_abi.proofs.Unions.CalcLemmas.{after_ok, chosen_ok, named-ok, united_layout}
use Rattle.abi_scalar.specs.declared.error.LayoutCalculatorError.TheVariants as calculator

-- ---- one list

-- what the layout of one list takes over from its fields
abbrev IsTakenOf : TargetDataLayout → ReprOptions → StructKind → (offsets : List ℕ) → (fields : List Layout) → Layout
    → Type 0
IsTakenOf dl repr kind offsets types layout =
    IsBestNiche dl offsets types layout.largest_niche × (layout.align.abi ≡ align_by dl repr kind types)
    × HasListMarks dl repr kind types layout

-- the same of the types that were put at its offsets
taken_there : (dl : TargetDataLayout) (repr : ReprOptions) (kind : List Placed → StructKind) (ps : List Placed)
    (layout : Layout) → length (listed_offsets layout.fields) ≡ length ps
    → IsTakenOf dl repr (kind ps) (listed_offsets layout.fields) (map layout_of ps) layout
    → IsTakenOf dl repr (kind (fields_of (parts_at (listed_offsets layout.fields) ps)))
    (offsets_of (parts_at (listed_offsets layout.fields) ps)) (types_of (parts_at (listed_offsets layout.fields) ps))
    layout
taken_there dl repr kind ps layout count h =
    let os : List ℕ = listed_offsets layout.fields in
    subst (λ qs. IsTakenOf dl repr (kind qs) (offsets_of (parts_at os ps)) (map layout_of qs) layout)
    (sym (fields_back os ps (omega (arith, count))))
    (subst (λ at. IsTakenOf dl repr (kind ps) at (map layout_of ps) layout) (sym (offsets_back os ps count)) h)

-- ---- types without parts

never_marks : (dl : TargetDataLayout) → HasMarks true None dl.i8_align false 0 (never_layout {F = ℕ} {V = ℕ} dl)
never_marks dl = record { uninhabited = refl; max_repr_align = refl; unadjusted_abi_align = refl; repr_c = refl; seed = refl }

unit_marks : (dl : TargetDataLayout) → HasMarks false None dl.i8_align false 0 (unit_layout {F = ℕ} {V = ℕ} 0 dl true)
unit_marks dl = record { uninhabited = refl; max_repr_align = refl; unadjusted_abi_align = refl; repr_c = refl; seed = refl }

-- ---- the variants of an enum

-- lists are aligned as their fields ask
lists_aligned : (dl : TargetDataLayout) (repr : ReprOptions) (kind : StructKind) (variants : List (List Layout))
    (lists : List Layout) → AreFieldLists (λ i. i) dl repr kind variants lists
    → map (λ (l : Layout). l.align.abi) lists ≡ map (align_by dl repr kind) variants
lists_aligned dl repr kind [] [] h = refl
lists_aligned dl repr kind [] (l ∷ ls) h = absurd h
lists_aligned dl repr kind (v ∷ vs) [] h = absurd h
lists_aligned dl repr kind (v ∷ vs) (l ∷ ls) h =
    ap₂ (λ a rest. a ∷ rest) h.0.placed.2.alignment (lists_aligned dl repr kind vs ls h.1)

-- what a layout of several variants takes over from their lists, by what distinguishes them
abbrev AreTakenOf : TargetDataLayout → ReprOptions → (numbers : List ℕ) → (variants : List (List Placed)) → Layout
    → LayoutVariants ℕ ℕ → Type 0
AreTakenOf dl repr numbers variants l (Multiple tag encoding field layouts) =
    (kind : StructKind) × IsKindOfVariants dl repr numbers variants encoding kind
    × (lists : List Layout) × AreFieldLists (λ i. i) dl repr kind (layouts_of variants) lists
    × (l.align.abi ≡ greatest_align dl.aggregate_align lists) × HasEnumMarks dl repr lists l
AreTakenOf dl repr numbers variants l _ = ⊥

-- its niche is what the tag leaves
abbrev IsLeft : TargetDataLayout → Layout → LayoutVariants ℕ ℕ → Type 0
IsLeft dl l (Multiple tag encoding field layouts) = l.largest_niche ≡ niche_at dl (tag_offset l) tag
IsLeft dl l _ = ⊥

-- each variant is marked as the whole is
all_marked : (whole : Layout) (mark : Mark) (from : ℕ) (layouts : List (VariantLayout ℕ)) (numbers : List ℕ)
    (variants : List (List Placed)) → AreMarked mark (tagged_variants_at whole mark from layouts numbers variants)
all_marked whole mark from [] numbers variants = tt
all_marked whole mark from (l ∷ layouts) [] variants = tt
all_marked whole mark from (l ∷ layouts) (n ∷ numbers) [] = tt
all_marked whole mark from (l ∷ layouts) (n ∷ numbers) (ps ∷ variants) =
    (refl, all_marked whole mark (from + 1) layouts numbers variants)

module _ (dl : TargetDataLayout) where
  -- all three
  abbrev pub IsTaken : Tree → Placed → Type 0
  IsTaken t p = HasNicheOfParts dl t p × HasAlignOfParts dl t p × HasMarksOfParts dl t p

module _ (dl : TargetDataLayout) (law : IsLawfulDataLayout dl) (repr : ReprOptions) (all : Variants)
    (variants : List (List Placed)) (none : enum_fault dl repr (discriminants_of all) variants ≡ None)
    (there : VariantsLaying dl all (Ok variants)) where
  abbrev numbers : List ℕ
  numbers = discriminants_of all

  long : length (discriminants_of all) ≡ length variants
  long = numbers_for dl law all variants there

  whole : All (All (IsWhole dl)) variants
  whole = variants_whole dl law all variants there

  -- the enum with this layout and these variants
  abbrev With : Layout → LayoutVariants ℕ ℕ → Type 0
  With l vs = IsTaken dl (enum repr all) (placed_variants dl repr (discriminants_of all) variants l vs)

  taken_one : (i : ℕ) (l : Layout) → IsSingleAnswer layout_of (λ i. i) 0 i dl repr AlwaysSized Enabled
      (variant_at variants i) (Ok l) → With l l.variants
  taken_one i l h =
      let ps : List Placed = variant_at variants i in
      let own = lawful_at dl law repr (discriminants_of all) variants none long whole i in
      let list = field_list layout_of (λ i. i) 0 dl repr AlwaysSized ps h.0 own tt h.1 in
      let seen = single_seen layout_of (λ i. i) 0 dl repr AlwaysSized ps Enabled i (Ok l) own tt h in
      let fields : listed_offsets l.fields ≡ listed_offsets h.0.fields = ap (λ (m : Layout). listed_offsets m.fields) h.2 in
      let count : length (listed_offsets l.fields) ≡ length ps
      = ap length fields ∙ list.placed.2.count ∙ length-map ps layout_of in
      let align : l.align.abi ≡ align_by dl repr AlwaysSized (map layout_of ps)
      = ap (λ (m : Layout). m.align.abi) h.2 ∙ list.placed.2.alignment in
      let taken = taken_there dl repr (λ qs. AlwaysSized) ps l count
      (record { own = seen.niche; most = seen.largest }, align, seen.marks) in
      subst (With l) (sym seen.variants) (taken.0, taken.1, (refl, taken.2))

  -- several are made of their lists
  taken_lists : (l : Layout) → IsMadeOfLists (λ i. i) (λ i. i) (λ i. i) dl repr (IsTagIntegerAnswer dl repr)
      (counted repr (discriminants_of all) variants) (layouts_of variants) l
      → AreTakenOf dl repr (discriminants_of all) variants l l.variants
  taken_lists l (inl m) =
      subst (AreTakenOf dl repr (discriminants_of all) variants l) (sym m.tag_distinguishes)
      (_, (m.asked, m.signed, m.is, refl), m.lists, m.own, m.alignment, m.marks)
  taken_lists l (inr m) =
      subst (AreTakenOf dl repr (discriminants_of all) variants l) (sym m.tag_distinguishes)
      (AlwaysSized, refl, m.lists, m.own, m.alignment, m.marks)

  -- and their niche is what the tag leaves
  left_by : (l : Layout) → AreDistinguished dl (λ i. i) (layouts_of variants) (numbered_from 0 (discriminants_of all)) l
      → IsLeft dl l l.variants
  left_by l (inl t) =
      let at : tag_offset l ≡ 0 = ap (λ shape. get_or (listed_offsets shape) 0 0) t.place in
      subst (IsLeft dl l) (sym t.tag_distinguishes) (t.niche ∙ ap (λ o. niche_at dl o t.tag) (sym at))
  left_by l (inr t) =
      let at : tag_offset l ≡ t.niche.offset = ap (λ shape. get_or (listed_offsets shape) 0 0) t.place in
      subst (IsLeft dl l) (sym t.tag_distinguishes) (t.left ∙ ap (λ o. niche_at dl o t.tag) (sym at))

  -- beside the tag each variant has its fields
  taken_tagged_variants : (l : Layout) (tag : Scalar) (encoding : TagEncoding ℕ) (field : ℕ) (layouts : List (VariantLayout ℕ))
      → EachApart l.size variants layouts
      → AreTakenOf dl repr (discriminants_of all) variants l (Multiple tag encoding field layouts)
      → IsLeft dl l (Multiple tag encoding field layouts) → With l (Multiple tag encoding field layouts)
  taken_tagged_variants l tag encoding field layouts apart (kind, of_kind, lists, own, align, marks) left =
      let back = variants_back l (mark_of true repr) 0 l.size layouts (discriminants_of all) variants apart long in
      let greatest_of : l.align.abi ≡ variants_align dl repr kind variants
      = align ∙ ap (λ aligns. max dl.aggregate_align (greatest aligns))
      (lists_aligned dl repr kind (layouts_of variants) lists own) in
      let kind_back = subst (λ vs. IsKindOfVariants dl repr (discriminants_of all) vs encoding kind) (sym back) of_kind in (
        (tag, refl, left),
        (kind, kind_back, subst (λ vs. l.align.abi ≡ variants_align dl repr kind vs) (sym back) greatest_of),
        (
          refl,
          all_marked l (mark_of true repr) 0 layouts (discriminants_of all) variants,
          kind,
          kind_back,
          lists,
          subst (λ vs. AreFieldLists (λ i. i) dl repr kind (layouts_of vs) lists) (sym back) own,
          marks,
        ),
      )

  taken_several : (l : Layout) → strategy_of true repr (layouts_of variants) ≡ Several
      → Answers dl law repr (discriminants_of all) variants none long whole Several (Ok l) → With l l.variants
  taken_several l way h =
      let fields = each_lawful dl variants whole in
      let found =
      several_holds layout_of (λ i. i) (λ i. i) (λ i. i) (λ i. i) dl repr (IsTagIntegerAnswer dl repr) variants
      (λ items m. IsMadeOfLists (λ i. i) (λ i. i) (λ i. i) dl repr (IsTagIntegerAnswer dl repr)
      (counted_discriminants (λ i. i) repr (layouts_of variants) items) (layouts_of variants) m)
      (tagged_made layout_of (λ i. i) (λ i. i) (λ i. i) (λ i. i) dl repr (IsTagIntegerAnswer dl repr) variants fields)
      (niche_made layout_of (λ i. i) (λ i. i) (λ i. i) (λ i. i) dl repr (IsTagIntegerAnswer dl repr) variants fields
      (length variants) (λ i small. refl) (omega arith))
      (λ items. items ≡ numbered_from 0 (discriminants_of all)) l h in
      let made = subst (λ items. IsMadeOfLists (λ i. i) (λ i. i) (λ i. i) dl repr (IsTagIntegerAnswer dl repr)
      (counted_discriminants (λ i. i) repr (layouts_of variants) items) (layouts_of variants) l) found.1 found.2 in
      let tag_distinguishes =
      enum_told layout_of dl law repr (IsTagIntegerAnswer dl repr) variants (numbered_from 0 (discriminants_of all))
      (aligns_of dl law repr (discriminants_of all) variants none long) fields
      (several_some layout_of repr variants true way)
      (each_of dl law repr (discriminants_of all) variants none long)
      (tags_of dl law repr (discriminants_of all) variants none long) l h in
      by_tagged_variants dl law repr (discriminants_of all) variants none long whole
      (λ vs. AreTakenOf dl repr (discriminants_of all) variants l vs → IsLeft dl l vs → With l vs) l way h
      (λ tag encoding field layouts apart of_lists left. taken_tagged_variants l tag encoding field layouts apart of_lists left)
      (taken_lists l made) (left_by l tag_distinguishes)

  taken_by : (strategy : EnumStrategy) → strategy_of true repr (layouts_of variants) ≡ strategy → (l : Layout)
      → Answers dl law repr (discriminants_of all) variants none long whole strategy (Ok l) → With l l.variants
  taken_by NoValue way l h =
      let same : never_layout dl ≡ l = cc in
      subst (λ (m : Layout). With m m.variants) same (tt, refl, (refl, never_marks dl))
  taken_by (OneList i) way l h = taken_one i l h
  taken_by Several way l h = taken_several l way h

  taken_enum : (l : Layout) → IsEnumed dl repr (discriminants_of all) variants (Ok l)
      → IsTaken dl (enum repr all) (placed_enum dl repr (discriminants_of all) variants l)
  taken_enum l h = taken_by (strategy_of true repr (layouts_of variants)) refl l h

-- ---- a coroutine

module _ (dl : TargetDataLayout) (law : IsLawfulDataLayout dl) where
  taken_coroutine : (prefix locals : Trees) (pres ps : List Placed) (states : List (List ℕ)) (conflicts : List (ℕ × ℕ))
      → AreLaying dl prefix (Ok pres) → AreLaying dl locals (Ok ps) → (p : Placed)
      → IsCoroutineOf dl pres ps states conflicts (Ok p) → IsTaken dl (coroutine prefix locals states conflicts) p
  taken_coroutine prefix locals pres ps states conflicts before there p answer =
      let found = coroutine_laid dl law pres ps states conflicts
      (coroutine_fault (length pres) (length ps) states conflicts) p answer in
      let first = whole_lawful dl pres (all_whole dl law prefix pres before) in
      let others = whole_lawful dl ps (all_whole dl law locals ps there) in
      let tag : Scalar = found.0 in
      let layout : Layout = found.2 in
      let rules = conflicts_of (length ps) conflicts in
      let promoted = promoted_of states rules in
      let offsets = stated_offsets dl law pres ps states conflicts first others found.5 tag found.1 layout found.3 in
      let back = fields_back (listed_offsets layout.fields) pres (omega (arith, offsets)) in
      let aligned = coroutine_align layout_of (λ i. i) (λ i. i) 0 dl pres tag (one_scalar dl tag) ps states rules
      refl found.1 (Ok layout) found.3 in
      let marks = coroutine_marks layout_of (λ i. i) (λ i. i) 0 dl pres tag (one_scalar dl tag) ps states rules
      refl (Ok layout) found.3 in
      let align : layout.align.abi ≡ align_of_all dl
      (first_list (map layout_of pres) (layout_of (one_scalar dl tag)) (map layout_of ps) promoted)
      0 (own_lists (map layout_of ps) promoted states)
      = subst (λ t. layout.align.abi ≡ align_of_all dl
      (first_list (map layout_of pres) (layout_of (one_scalar dl t)) (map layout_of ps) promoted)
      0 (own_lists (map layout_of ps) promoted states))
      (one_tag (length states) aligned.0 tag aligned.1 found.1) aligned.2 in
      let P : List Placed → Type 0 = λ qs.
      (layout.align.abi ≡ align_of_all dl
      (first_list (map layout_of qs) (layout_of (one_scalar dl tag)) (map layout_of ps) promoted)
      0 (own_lists (map layout_of ps) promoted states))
      × HasCoroutineMarks (map layout_of qs) (map layout_of ps) states rules layout in
      let both = subst P (sym back) (align, marks) in
      subst (IsTaken dl (coroutine prefix locals states conflicts)) found.4 (
        coroutine_niche layout_of (λ i. i) (λ i. i) 0 dl pres tag (one_scalar dl tag) ps states rules (Ok layout) found.3,
        (ps, there, both.0),
        (
          all_marked layout Plain 0 (layouts_in layout.variants) (source_order (length states))
              (map (map (placed_in ps)) states),
          ps,
          there,
          both.1,
        ),
      )

  -- ---- structs

  taken_struct : (repr : ReprOptions) (always_sized : Bool) (all : Trees) (ps : List Placed) (layout : Layout)
      → AreLaying dl all (Ok ps) → IsLaidList dl repr (kind_of always_sized ps) (map layout_of ps) (Ok layout)
      → IsTaken dl (struct repr always_sized None all) (placed_fields repr ps layout)
  taken_struct repr always_sized all ps layout there listed =
      let own = all_whole dl law all ps there in
      let list = field_list layout_of (λ i. i) 0 dl repr (kind_of always_sized ps) ps layout (whole_lawful dl ps own)
      (some_field always_sized ps) listed in
      let count : length (listed_offsets layout.fields) ≡ length ps
      = listed_count dl repr always_sized ps own layout listed in
      let taken = taken_there dl repr (kind_of always_sized) ps layout count
      (record { own = list.niche; most = list.largest }, list.placed.2.alignment, list.marks) in
      (taken.0, taken.1, (refl, taken.2))

  taken_ordered : (repr : ReprOptions) (always_sized : Bool) (order : List ℕ) (all : Trees) (ps : List Placed)
      (layout : Layout) → AreLaying dl all (Ok ps)
      → IsListedInOrder dl (with_randomize_flag repr) (kind_of always_sized ps) order (map layout_of ps) (Ok layout)
      → IsTaken dl (struct repr always_sized (Some order) all) (placed_fields repr ps layout)
  taken_ordered repr always_sized order all ps layout there listed =
      let free : ReprOptions = with_randomize_flag repr in
      let kind = kind_of always_sized ps in
      let lies = in_this_order dl free kind order ps layout listed in
      let at : listed.0 ≡ listed_offsets layout.fields = sym (ap listed_offsets listed.1.shape) in
      let own = ordered_of_part layout_of dl (fields_repr dl free kind) ps order listed.0 layout.size layout.align.abi
      layout.largest_niche lies in
      let most = ordered_largest layout_of dl (fields_repr dl free kind) ps order listed.0 layout.size layout.align.abi
      layout.largest_niche (whole_lawful dl ps (all_whole dl law all ps there)) lies in
      let taken = taken_there dl free (kind_of always_sized) ps layout (ordered_count dl free kind order ps layout listed) (
        record {
          own = subst (λ os. IfSome layout.largest_niche (IsNicheOfPart os (map layout_of ps))) at own;
          most = most;
        },
        (ordered_placed dl free kind order ps layout listed).alignment,
        handed_marks layout_of (λ i. i) 0 dl free kind order ps listed.0 layout listed.1,
      ) in
      (taken.0, taken.1, (refl, taken.2))

  -- ---- types that are no list

  taken_scalar : (s : Scalar) (p : Placed) → Ok p ≡ scalar_answer dl s → IsTaken dl (scalar s) p
  taken_scalar s p e =
      let one = no_fault dl law (scalar_fault dl s) (Ok (one_scalar dl s)) p e in
      let there : Ok p ≡ Ok (one_scalar dl s) = one.1 in
      let same : one_scalar dl s ≡ p = cc in
      subst (IsTaken dl (scalar s)) same (tt, refl, tt)

  taken_pair : (a b : Scalar) (p : Placed) → Ok p ≡ pair_answer dl a b → IsTaken dl (pair a b) p
  taken_pair a b p e =
      let one = no_fault dl law (scalar_fault dl a) (unless (scalar_fault dl b)
      (if nat_lt (pair_size dl a b) (size_bound dl) then Ok (two_scalars dl a b) else Err SizeOverflow)) p e in
      let two = no_fault dl law (scalar_fault dl b) (if nat_lt (pair_size dl a b) (size_bound dl) then Ok
      (two_scalars dl a b) else Err SizeOverflow) p one.1 in
      let fits = fitted dl law (nat_lt (pair_size dl a b) (size_bound dl)) (two_scalars dl a b) p SizeOverflow two.1 in
      subst (IsTaken dl (pair a b)) (sym fits.1) (tt, refl, tt)

  taken_never : (p : Placed) → IsLaying dl never (Ok p) → IsTaken dl never p
  taken_never p e =
      let same : placed_never (never_layout dl) Never ≡ p = cc in
      subst (IsTaken dl never) same (tt, refl, (refl, never_marks dl))

  taken_unit : (p : Placed) → IsLaying dl unit (Ok p) → IsTaken dl unit p
  taken_unit p e =
      let same : fields (unit_layout 0 dl true) Unit no_parts ≡ p = cc in
      subst (IsTaken dl unit) same (tt, refl, (refl, unit_marks dl))

  taken_elements : (count : ℕ) (element : Tree) (q p : Placed) → Ok p ≡ elements_answer dl count q
      → IsTaken dl (array count element) p
  taken_elements count element q p e =
      subst (IsTaken dl (array count element)) (elements_there (nat_lt (size_of q * count) (size_bound dl)) count
      (elements_layout 0 true count (layout_of q)) q p e) (refl, refl, tt)

  -- a vector is aligned as its bytes ask, and has its element's niche
  taken_lanes : (element layout : Layout) (count : ℕ) (packed : Bool)
      → simd_answer {H = Layout} (λ l. l) 0 0 dl element count packed ≡ Ok layout
      → (layout.largest_niche ≡ element.largest_niche)
      × (layout.align.abi ≡ lanes_align dl packed count (element.size * count))
  taken_lanes element layout count packed e =
      let whole = after_ok (lanes_answer {H = Layout} (λ l. l) (size_bound dl) element count) _ layout e in
      let lanes = whole.0 in
      let are = lanes_are {H = Layout} (λ l. l) (size_bound dl) element count lanes (sym whole.1) in
      let made = vector_layout 0 0 element (simd_view packed lanes) lanes.size
      (simd_align dl packed lanes) lanes.count in
      let last = chosen_ok (nat_lt made.size (size_bound dl)) made layout calculator.SizeOverflow whole.2 in
      let bytes : lanes.size ≡ element.size * count = are.size ∙ ap (λ n. element.size * n) are.count_is in (
        ap (λ (l : Layout). l.largest_niche) (sym last.1),
        ap (λ (l : Layout). l.align.abi) (sym last.1)
            ∙ ap (λ n. lanes_align dl packed lanes.count n) bytes
            ∙ ap (λ k. lanes_align dl packed k (element.size * count)) are.count_is,
      )

  taken_vector : (lanes : ℕ) (packed : Bool) (element : Tree) (q p : Placed)
      → Ok p ≡ vector_answer dl lanes packed q → IsTaken dl (vector lanes packed element) p
  taken_vector lanes packed element q p e =
      let found = placed_back dl law (λ layout. placed_vector layout (lanes_of lanes q))
      (named (simd_answer {H = Layout} (λ l. l) 0 0 dl (layout_of q) lanes packed)) p e in
      let taken = taken_lanes (layout_of q) found.0 lanes packed (named-ok _ found.0 found.1) in
      subst (IsTaken dl (vector lanes packed element)) found.2 (taken.0, taken.1, tt)

  taken_union : (repr : ReprOptions) (all : Trees) (ps : List Placed) (layout : Layout)
      → IsUnited dl repr (map layout_of ps) (Ok layout) → IsTaken dl (union repr all) (placed_together repr ps layout)
  taken_union repr all ps layout united =
      let made = united_layout dl repr (map layout_of ps) layout united in
      let back = fields_back (map (λ q. 0) ps) ps (omega (arith, length-map {B = ℕ} ps (λ q. 0))) in
      let P : List Placed → Type 0 = λ qs. (layout.align.abi ≡ union_align dl repr (map layout_of qs))
      × HasUnionMarks dl repr (map layout_of qs) layout in
      let both = subst P (sym back) (
        ap (λ l. l.align.abi) made.1,
        record {
          uninhabited = ap (λ l. l.uninhabited) made.1;
          max_repr_align = ap (λ l. l.max_repr_align) made.1;
          unadjusted_abi_align = ap (λ l. l.unadjusted_abi_align) made.1;
          repr_c = ap (λ l. l.repr_c) made.1;
          seed = ap (λ l. l.randomization_seed) made.1;
        },
      ) in
      (ap (λ l. l.largest_niche) made.1, both.0, (refl, both.1))

  -- each type that is laid out takes over what its parts tell
  pub laid_taken : (t : Tree) (p : Placed) → IsLaying dl t (Ok p) → IsTaken dl t p
  laid_taken (scalar s) p h = taken_scalar s p h
  laid_taken (pair a b) p h = taken_pair a b p h
  laid_taken never p h = taken_never p h
  laid_taken unit p h = taken_unit p h
  laid_taken (array count element) p (inl f) = absurd (cc f.2)
  laid_taken (array count element) p (inr (q, there, e)) = taken_elements count element q p e
  laid_taken (vector lanes packed element) p (inl f) = absurd (cc f.2)
  laid_taken (vector lanes packed element) p (inr (q, there, e)) = taken_vector lanes packed element q p e
  laid_taken (struct repr always_sized order all) p (inl f) = absurd (cc f.2)
  laid_taken (struct repr always_sized None all) p (inr (ps, there, answer)) =
      let found = laid_by (fields_fault repr ps) (IsLaidList dl repr (kind_of always_sized ps) (map layout_of ps))
      (placed_fields repr ps) p answer in
      subst (IsTaken dl (struct repr always_sized None all)) found.2
      (taken_struct repr always_sized all ps found.0 there found.1)
  laid_taken (struct repr always_sized (Some order) all) p (inr (ps, there, answer)) =
      let found = laid_by (ordered_fault repr ps)
      (IsListedInOrder dl (with_randomize_flag repr) (kind_of always_sized ps) order (map layout_of ps))
      (placed_fields repr ps) p answer in
      subst (IsTaken dl (struct repr always_sized (Some order) all)) found.2
      (taken_ordered repr always_sized order all ps found.0 there found.1)
  laid_taken (union repr all) p (inl f) = absurd (cc f.2)
  laid_taken (union repr all) p (inr (ps, there, answer)) =
      let found = laid_by (fields_fault repr ps) (IsUnited dl repr (map layout_of ps)) (placed_together repr ps) p
      answer in
      subst (IsTaken dl (union repr all)) found.2 (taken_union repr all ps found.0 found.1)
  laid_taken (enum repr all) p (inl f) = absurd (cc f.2)
  laid_taken (enum repr all) p (inr (variants, there, answer)) =
      let found = laid_by (enum_fault dl repr (discriminants_of all) variants)
      (IsEnumed dl repr (discriminants_of all) variants)
      (placed_enum dl repr (discriminants_of all) variants) p answer in
      subst (IsTaken dl (enum repr all)) found.2 (taken_enum dl law repr all variants found.3 there found.0 found.1)
  laid_taken (coroutine prefix locals states conflicts) p (inl f) = absurd (cc f.2)
  laid_taken (coroutine prefix locals states conflicts) p (inr (pres, before, inl f)) = absurd (cc f.2)
  laid_taken (coroutine prefix locals states conflicts) p (inr (pres, before, inr (ps, there, answer))) =
      taken_coroutine prefix locals pres ps states conflicts before there p answer
