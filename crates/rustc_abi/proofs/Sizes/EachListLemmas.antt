-- Each list of a type that is laid out has the least size of its orders, and its fields lie as one of these has them.
use Rattle.std.proofs.Common.{◌≡◌, ℕ, suc, ◌+◌, ◌^◌, ◌≤◌, ◌==◌, ◌++◌, Bool, true, false, List, [], ◌∷◌}
use Rattle.std.proofs.Common.{None, length, map, drop, get_or, inl, inr, refl, sym, ap, ◌∙◌, subst, arith}
use Rattle.std.proofs.Common.{All, Ok}
use Rattle.std.specs.Prelude.{MatchBool, slice_index, take, if◌then◌else◌}
use Rattle.std.specs.Int.{next_multiple_of}
use Rattle.std.proofs.lemmas.List.{length-append, length-map}
use Rattle.std.proofs.lemmas.List.FromFn.{length-range_with_len}
use Rattle.abi_base.specs.declared.data_layout.TargetDataLayout.{TargetDataLayout}
use Rattle.abi_base.specs.declared.integer.Integer.{Integer}
use Rattle.abi_base.specs.declared.primitive.Primitive.TheVariants.{Int}
use Rattle.abi_base.specs.declared.niche_optimizations.NicheOptimizations.TheVariants.{Enabled}
use Rattle.abi_base.specs.declared.struct_kind.StructKind.{StructKind}
use Rattle.abi_base.specs.declared.struct_kind.StructKind.TheVariants.{AlwaysSized, Prefixed}
use Rattle.abi_base.specs.DataLayout.{IsLawfulDataLayout}
use Rattle.abi_base.specs.Integer.{integer_size}
use Rattle.abi_index.specs.BitSet.{is_member, members_of}
use Rattle.abi_scalar.specs.declared.repr.ReprOptions.{ReprOptions}
use Rattle.abi_scalar.specs.declared.scalar.Scalar.{Scalar}
use Rattle.abi_scalar.specs.declared.scalar.Scalar.TheVariants.{Initialized}
use Rattle.abi_scalar.specs.declared.variants.TagEncoding.{TagEncoding}
use Rattle.abi_scalar.specs.declared.variants.TagEncoding.TheVariants.{Direct, Niche}
use Rattle.abi_scalar.specs.declared.variants.VariantLayout.{VariantLayout}
use Rattle.abi_scalar.specs.declared.variants.Variants.{Variants as LayoutVariants}
use Rattle.abi_scalar.specs.declared.variants.Variants.TheVariants.{Multiple}
use Rattle.abi_scalar.specs.Niche.{niche_size}
use Rattle.abi_scalar.specs.Scalar.{scalar_size}
use Rattle.abi_scalar.specs.Shape.{listed_offsets, listed_order}
use Rattle.abi_scalar.specs.Simple.{never_layout}
use Rattle.abi_scalar.specs.Variant.{variant_of, variants_of as layouts_in}
use Rattle.abi_calc.specs.Coroutine.Layout.{IsStateTag}
use Rattle.abi_calc.specs.Coroutine.Lists.{default_repr, first_list, own_list, picked}
use Rattle.abi_calc.specs.Coroutine.Made.{AreStatesOf, IsMadeOfStates}
use Rattle.abi_calc.specs.Coroutine.Promotion.{promoted_of}
use Rattle.abi_calc.specs.Coroutine.Sizes.{behind_first, own_lists}
use Rattle.abi_calc.specs.Coroutine.States.{rank_of, ranks_of, state_offsets}
use Rattle.abi_calc.specs.Enums.Discriminants.{counted_discriminants}
use Rattle.abi_calc.specs.Enums.Growth.{grown_tag, moved_offset, start_align}
use Rattle.abi_calc.specs.Enums.Lists.{behind_tag}
use Rattle.abi_calc.specs.Enums.Made.{AreBehindTag, AreBesideNiche, IsBesideNiche}
use Rattle.abi_calc.specs.Enums.Niche.{room_beside, span_count, untagged_of}
use Rattle.abi_calc.specs.Enums.EnumStrategy.{strategy_of, variant_at}
use Rattle.abi_calc.specs.Enums.Payload.{tagged_view}
use Rattle.abi_calc.specs.Enums.Several.{IsAskedFor}
use Rattle.abi_calc.specs.Enums.Single.{IsSingleAnswer}
use Rattle.abi_calc.specs.Enums.Tagged.{lists_align, lists_size, payloads_of}
use Rattle.abi_univariant.specs.Least.{IsPlacedBy, align_by}
use Rattle.abi_calc.specs.Made.{AreFieldLists, IsFieldList}
use Rattle.abi_univariant.specs.Placement.{source_order}
use Rattle.abi_calc.specs.declared.enums.strategy.EnumStrategy.{EnumStrategy}
use Rattle.abi_calc.specs.declared.enums.strategy.EnumStrategy.TheVariants.{NoValue, OneList, Several}
use Rattle.abi_calc.proofs.CoroutineLemmas.Seen.{coroutine_made}
use Rattle.abi_calc.proofs.EnumLemmas.Growth.{grown_size}
use Rattle.abi_calc.proofs.EnumLemmas.Made.{OfNiche, OfTagged, all_behind, all_beside, several_holds}
use Rattle.abi_calc.proofs.EnumLemmas.NicheLawful.{niche_parts, tag_size}
use Rattle.abi_calc.proofs.Made.{field_list, field_lists}
use Rattle.abi_calc.proofs.CoroutineLemmas.OneCoroutine.{one_tag}
use Rattle.abi_tree.specs.Tree.{Tree, struct, enum, coroutine, Trees}
use Rattle.abi_tree.specs.Tree.{Variants}
use Rattle.abi_tree.specs.declared.mark.Mark.{Mark}
use Rattle.abi_tree.specs.declared.mark.Mark.TheVariants.{Plain}
use Rattle.abi_tree.specs.Mark.{mark_of}
use Rattle.abi_tree.specs.Nodes.{parts_at, placed_in, state_tag_offset, tag_offset}
use Rattle.abi_tree.specs.Placed.{Placed, TaggedVariants, layout_of, size_of}
use Rattle.abi_scalar.specs.Layout.{Layout}
use Rattle.rustc_abi.specs.Coroutines.{conflicts_of}
use Rattle.rustc_abi.specs.Enums.{IsEnumed, IsTagIntegerAnswer, tagged_variants_at, counted, discriminants_of, layouts_of, numbered_from}
use Rattle.rustc_abi.specs.Laying.{AreLaying, IsCoroutineOf, IsLaying, IsLaidList, VariantsLaying, coroutine_fault}
use Rattle.rustc_abi.specs.Laying.{enum_fault, fields_fault, kind_of, one_scalar, placed_coroutine, placed_enum}
use Rattle.rustc_abi.specs.Laying.{placed_fields, placed_variants}
use Rattle.rustc_abi.specs.Least.{fields_of}
use Rattle.rustc_abi.specs.Lists.{AreLeastVariants, AreListsBeside, AreMovedLists, AreStateLists}
use Rattle.rustc_abi.specs.Lists.{HasLeastLists, IsLeastList, MayMove, offsets_of, types_of}
use Rattle.rustc_abi.proofs.Enums.TaggedVariantsLemmas.{EachApart}
use Rattle.rustc_abi.proofs.Sizes.EnumSizeLemmas.{Answers, apart_long, by_tagged_variants, fields_back, lawful_at, variants_back}
use Rattle.rustc_abi.proofs.Trees.LaidLemmas.{IsWhole, all_whole, coroutine_asked, coroutine_laid, each_lawful, laid_by}
use Rattle.rustc_abi.proofs.Trees.LaidLemmas.{numbers_for, some_field, stated_offsets, variants_whole, whole_lawful}
use Rattle.rustc_abi.proofs.Sizes.LeastLemmas.{listed_count}

-- ---- one list

-- a list of the calculator's is one
least_list : (dl : TargetDataLayout) (repr : ReprOptions) (kind : StructKind) (fields : List Layout) (list : Layout)
    → IsFieldList (λ i. i) dl repr kind fields list
    → IsLeastList dl repr kind fields (listed_offsets list.fields) list.size
least_list dl repr kind fields list h =
    let by : IsPlacedBy dl repr kind fields h.placed.0
    (listed_offsets list.fields) list.size list.align.abi = h.placed.2 in
    record {
      order = h.placed.0;
      placed = subst (λ a. IsPlacedBy dl repr kind fields h.placed.0 (listed_offsets list.fields) list.size a)
          by.alignment by;
      least = h.least;
    }

-- parts lie where they were put
pub offsets_back : (offsets : List ℕ) (ps : List Placed) → length offsets ≡ length ps
    → offsets_of (parts_at offsets ps) ≡ offsets
offsets_back [] [] e = refl
offsets_back [] (p ∷ ps) e = absurd (omega (arith, e))
offsets_back (o ∷ offsets) [] e = absurd (omega (arith, e))
offsets_back (o ∷ offsets) (p ∷ ps) e = ap (λ os. o ∷ os) (offsets_back offsets ps (omega (arith, e)))

-- a list of types that were put at its offsets
put_list : (dl : TargetDataLayout) (repr : ReprOptions) (kind : StructKind) (offsets at : List ℕ) (size : ℕ)
    (ps : List Placed) → length at ≡ length ps → IsLeastList dl repr kind (map layout_of ps) offsets size
    → IsLeastList dl repr kind (types_of (parts_at at ps)) offsets size
put_list dl repr kind offsets at size ps e h =
    subst (λ qs. IsLeastList dl repr kind (map layout_of qs) offsets size)
    (sym (fields_back at ps (omega (arith, e)))) h

-- and lies where they lie
put_there : (dl : TargetDataLayout) (repr : ReprOptions) (kind : StructKind) (offsets : List ℕ) (size : ℕ)
    (ps : List Placed) → length offsets ≡ length ps → IsLeastList dl repr kind (map layout_of ps) offsets size
    → IsLeastList dl repr kind (types_of (parts_at offsets ps)) (offsets_of (parts_at offsets ps)) size
put_there dl repr kind offsets size ps e h =
    subst (λ os. IsLeastList dl repr kind (types_of (parts_at offsets ps)) os size) (sym (offsets_back offsets ps e))
    (put_list dl repr kind offsets offsets size ps e h)

-- ---- the variants of an enum

-- nothing is moved by no bytes
not_moved : (os : List ℕ) → os ≡ map (λ o. 0 + o) os
not_moved [] = refl
not_moved (o ∷ os) = let same : o ≡ 0 + o = omega arith in
    ap (λ n. n ∷ os) same ∙ ap (λ rest. (0 + o) ∷ rest) (not_moved os)

module _ (dl : TargetDataLayout) (repr : ReprOptions) where
  -- a variant lies beside a niche by such a move
  moved_one : (place width whole : ℕ) (same : Bool) (list : Layout) (v : VariantLayout ℕ)
      → MatchBool same (v ≡ variant_of list) (IsBesideNiche place width whole list v)
      → (by : ℕ) × (v.field_offsets ≡ map (λ o. by + o) (listed_offsets list.fields))
      × MatchBool same (by ≡ 0) (MayMove place width whole list.size list.align.abi by)
  moved_one place width whole true list v h =
      (0, ap (λ w. w.field_offsets) h ∙ not_moved (listed_offsets list.fields), refl)
  moved_one place width whole false list v (inl h) = (0, h.1.offsets, inl (refl, h.0))
  moved_one place width whole false list v (inr h) =
      (next_multiple_of (place + width) (2 ^ list.align.abi), h.1.offsets, inr (refl, h.0))

  module _ (whole : Layout) (mark : Mark) (size : ℕ) where
    -- variants behind a tag
    moved_tagged_variants : (kind : StructKind) (old new : ℕ) (first : ℕ) (numbers : List ℕ) (variants : List (List Placed))
        (lists : List Layout) (layouts : List (VariantLayout ℕ)) → EachApart size variants layouts
        → length numbers ≡ length variants → AreFieldLists (λ i. i) dl repr kind (layouts_of variants) lists
        → AreBehindTag old new size lists layouts
        → AreMovedLists dl repr kind (moved_offset old new) (tagged_variants_at whole mark first layouts numbers variants)
    moved_tagged_variants kind old new first numbers [] lists [] apart long own places = tt
    moved_tagged_variants kind old new first numbers [] lists (l ∷ layouts) apart long own places = absurd apart
    moved_tagged_variants kind old new first numbers (ps ∷ variants) lists [] apart long own places = absurd apart
    moved_tagged_variants kind old new first numbers (ps ∷ variants) [] (l ∷ layouts) apart long own places = absurd own
    moved_tagged_variants kind old new first [] (ps ∷ variants) (list ∷ lists) (l ∷ layouts) apart long own places =
        absurd (omega (arith, long))
    moved_tagged_variants kind old new first (n ∷ numbers) (ps ∷ variants) (list ∷ lists) (l ∷ layouts) apart long own places =
        let count : length l.field_offsets ≡ length ps = apart_long size l.field_offsets (map size_of ps) apart.0
        ∙ length-map ps size_of in (
          (
            listed_offsets list.fields,
            list.size,
            put_list dl repr kind (listed_offsets list.fields) l.field_offsets list.size ps count
                (least_list dl repr kind (map layout_of ps) list own.0),
            offsets_back l.field_offsets ps count ∙ places.0.offsets,
          ),
          moved_tagged_variants kind old new (first + 1) numbers variants lists layouts apart.1
              (omega (arith, long)) own.1 places.1,
        )

    -- variants beside a niche
    beside_tagged_variants : (place width untagged from : ℕ) (first : ℕ) (numbers : List ℕ) (variants : List (List Placed))
        (lists : List Layout) (layouts : List (VariantLayout ℕ)) → EachApart size variants layouts
        → length numbers ≡ length variants → AreFieldLists (λ i. i) dl repr AlwaysSized (layouts_of variants) lists
        → AreBesideNiche place width size untagged from lists layouts
        → AreListsBeside dl repr place width size untagged from (tagged_variants_at whole mark first layouts numbers variants)
    beside_tagged_variants place width untagged from first numbers [] lists [] apart long own places = tt
    beside_tagged_variants place width untagged from first numbers [] lists (l ∷ layouts) apart long own places = absurd apart
    beside_tagged_variants place width untagged from first numbers (ps ∷ variants) lists [] apart long own places = absurd apart
    beside_tagged_variants place width untagged from first numbers (ps ∷ variants) [] (l ∷ layouts) apart long own places =
        absurd own
    beside_tagged_variants place width untagged from first [] (ps ∷ variants) (list ∷ lists) (l ∷ layouts) apart long own places =
        absurd (omega (arith, long))
    beside_tagged_variants place width untagged from first (n ∷ numbers) (ps ∷ variants) (list ∷ lists)
        (l ∷ layouts) apart long own places =
        let count : length l.field_offsets ≡ length ps = apart_long size l.field_offsets (map size_of ps) apart.0
        ∙ length-map ps size_of in
        let one = moved_one place width size (from == untagged) list l places.0 in
        let align : list.align.abi ≡ align_by dl repr AlwaysSized (map layout_of ps) = own.0.placed.2.alignment in
        let type : align_by dl repr AlwaysSized (map layout_of ps) ≡ align_by dl repr AlwaysSized
        (types_of (parts_at l.field_offsets ps))
        = ap (λ qs. align_by dl repr AlwaysSized (map layout_of qs))
        (sym (fields_back l.field_offsets ps (omega (arith, count)))) in (
          (
            one.0,
            listed_offsets list.fields,
            list.size,
            put_list dl repr AlwaysSized (listed_offsets list.fields) l.field_offsets list.size ps count
                (least_list dl repr AlwaysSized (map layout_of ps) list own.0),
            offsets_back l.field_offsets ps count ∙ one.1,
            subst (λ a. MatchBool (from == untagged) (one.0 ≡ 0) (MayMove place width size list.size a one.0))
                (align ∙ type) one.2,
          ),
          beside_tagged_variants place width untagged (from + 1) (first + 1) numbers variants lists layouts apart.1
              (omega (arith, long)) own.1 places.1,
        )

-- the lists that several variants come from, by what distinguishes them
abbrev HasLists : TargetDataLayout → ReprOptions → (values : List ℕ) → (variants : List (List Layout)) → Layout
    → LayoutVariants ℕ ℕ → Type 0
HasLists dl repr values variants l (Multiple tag Direct field layouts) =
    (asked : Integer) × (signed : Bool) × IsAskedFor dl repr (IsTagIntegerAnswer dl repr) values asked signed
    × (integer_size asked ≤ scalar_size dl tag)
    × (lists : List Layout) × AreFieldLists (λ i. i) dl repr (behind_tag dl repr asked variants) variants lists
    × AreBehindTag (integer_size asked) (scalar_size dl tag) l.size lists layouts
HasLists dl repr values variants l (Multiple tag (Niche untagged span start) field layouts) =
    (lists : List Layout) × AreFieldLists (λ i. i) dl repr AlwaysSized variants lists
    × AreBesideNiche (tag_offset l) (scalar_size dl tag) l.size untagged 0 lists layouts
HasLists dl repr values variants l _ = ⊥

module _ (dl : TargetDataLayout) (law : IsLawfulDataLayout dl) (repr : ReprOptions) (numbers : List ℕ)
    (variants : List (List Placed)) (none : enum_fault dl repr numbers variants ≡ None)
    (long : length numbers ≡ length variants) (whole : All (All (IsWhole dl)) variants) where
  -- the layout's lists, by discriminants
  abbrev Listed : List (ℕ × ℕ) → Layout → Type 0
  Listed items l =
      HasLists dl repr (counted_discriminants (λ i. i) repr (map (map layout_of) variants) items)
      (map (map layout_of) variants) l l.variants

  tagged_lists : OfTagged layout_of (λ i. i) (λ i. i) (λ i. i) (λ i. i) dl repr (IsTagIntegerAnswer dl repr) variants Listed
  tagged_lists items asked signed lists t unpacked is are by =
      let grown : Integer = grown_tag dl repr asked (start_align (λ i. i) (map (map layout_of) variants) lists) in
      let tag : Scalar = Initialized (Int grown signed) by.ranged.0 in
      let view = tagged_view dl tag (lists_size dl lists) (lists_align dl lists)
      (payloads_of dl (integer_size asked) (integer_size grown) (map (map layout_of) variants) lists) in
      let no_less = (grown_size dl repr asked (start_align (λ i. i) (map (map layout_of) variants) lists)).no_less in
      subst (Listed items) (sym by.ranged.2) (
        asked,
        signed,
        is,
        no_less,
        lists,
        field_lists layout_of (λ i. i) 0 dl repr (behind_tag dl repr asked (map (map layout_of) variants)) variants
            lists (each_lawful dl variants whole) tt are,
        all_behind (integer_size asked) (integer_size grown) no_less view (lists_size dl lists) lists,
      )

  niche_lists : OfNiche layout_of (λ i. i) (λ i. i) (λ i. i) (λ i. i) dl repr (IsTagIntegerAnswer dl repr) variants Listed
  niche_lists items lists t unpacked are is =
      let p = niche_parts 0 (λ i. i) dl repr (map (map layout_of) variants) lists t is in
      subst (Listed items) (sym p.is) (
        lists,
        field_lists layout_of (λ i. i) 0 dl repr AlwaysSized variants lists (each_lawful dl variants whole) tt are,
        subst (λ w. AreBesideNiche p.niche.offset w (lists_size dl lists) (untagged_of lists) 0 lists p.placed)
            (sym (tag_size dl p.niche (span_count p.span)))
            (all_beside p.niche.offset (niche_size dl p.niche) (room_beside dl p.niche lists) refl refl
            (untagged_of lists) 0 lists p.placed p.beside),
      )

  -- each tagged variant comes from its list
  each_tagged_variant : (l : Layout) (tag : Scalar) (encoding : TagEncoding ℕ) (field : ℕ) (layouts : List (VariantLayout ℕ))
      → EachApart l.size variants layouts
      → HasLists dl repr (counted repr numbers variants) (layouts_of variants) l (Multiple tag encoding field layouts)
      → AreLeastVariants dl repr numbers l.size (tag_offset l) (one_scalar dl tag) encoding
      (tagged_variants_at l (mark_of true repr) 0 layouts numbers variants)
  each_tagged_variant l tag Direct field layouts apart (asked, signed, is, no_less, lists, own, places) =
      let back = variants_back l (mark_of true repr) 0 l.size layouts numbers variants apart long in (
        asked,
        signed,
        subst (λ vs. IsAskedFor dl repr (IsTagIntegerAnswer dl repr) (counted repr numbers vs) asked signed) (sym back) is,
        no_less,
        subst (λ vs. AreMovedLists dl repr (behind_tag dl repr asked (layouts_of vs))
            (moved_offset (integer_size asked) (scalar_size dl tag))
            (tagged_variants_at l (mark_of true repr) 0 layouts numbers variants))
            (sym back)
            (moved_tagged_variants dl repr l (mark_of true repr) l.size (behind_tag dl repr asked (layouts_of variants))
            (integer_size asked) (scalar_size dl tag) 0 numbers variants lists layouts apart long own places),
      )
  each_tagged_variant l tag (Niche untagged span start) field layouts apart (lists, own, places) =
      beside_tagged_variants dl repr l (mark_of true repr) l.size (tag_offset l)
      (scalar_size dl tag) untagged 0 0 numbers variants lists layouts apart long own places

module _ (dl : TargetDataLayout) (law : IsLawfulDataLayout dl) (repr : ReprOptions) (all : Variants)
    (variants : List (List Placed)) (none : enum_fault dl repr (discriminants_of all) variants ≡ None)
    (there : VariantsLaying dl all (Ok variants)) where
  long : length (discriminants_of all) ≡ length variants
  long = numbers_for dl law all variants there

  whole : All (All (IsWhole dl)) variants
  whole = variants_whole dl law all variants there

  -- the enum with this layout and these variants
  abbrev With : Layout → LayoutVariants ℕ ℕ → Type 0
  With l vs = HasLeastLists dl (enum repr all) (placed_variants dl repr (discriminants_of all) variants l vs)

  listed_one : (i : ℕ) (l : Layout) → IsSingleAnswer layout_of (λ i. i) 0 i dl repr AlwaysSized Enabled
      (variant_at variants i) (Ok l) → With l l.variants
  listed_one i l h =
      let ps : List Placed = variant_at variants i in
      let list = field_list layout_of (λ i. i) 0 dl repr AlwaysSized ps h.0
      (lawful_at dl law repr (discriminants_of all) variants none long whole i) tt h.1 in
      let count : length (listed_offsets h.0.fields) ≡ length ps = list.placed.2.count ∙ length-map ps layout_of in
      subst (λ (m : Layout). With m m.variants) (sym h.2)
      (put_there dl repr AlwaysSized (listed_offsets h.0.fields) h.0.size ps count
      (least_list dl repr AlwaysSized (map layout_of ps) h.0 list))

  listed_several : (l : Layout) → strategy_of true repr (layouts_of variants) ≡ Several
      → Answers dl law repr (discriminants_of all) variants none long whole Several (Ok l) → With l l.variants
  listed_several l way h =
      let found =
      several_holds layout_of (λ i. i) (λ i. i) (λ i. i) (λ i. i) dl repr (IsTagIntegerAnswer dl repr) variants
      (Listed dl law repr (discriminants_of all) variants none long whole)
      (tagged_lists dl law repr (discriminants_of all) variants none long whole)
      (niche_lists dl law repr (discriminants_of all) variants none long whole)
      (λ items. items ≡ numbered_from 0 (discriminants_of all)) l h in
      let lists : HasLists dl repr (counted repr (discriminants_of all) variants) (layouts_of variants) l l.variants
      = subst (λ items. Listed dl law repr (discriminants_of all) variants none long whole items l) found.1 found.2 in
      by_tagged_variants dl law repr (discriminants_of all) variants none long whole
      (λ vs. HasLists dl repr (counted repr (discriminants_of all) variants) (layouts_of variants) l vs → With l vs) l
      way h
      (λ tag encoding field layouts apart have. each_tagged_variant dl law repr
      (discriminants_of all) variants none long whole l tag encoding field layouts apart have) lists

  listed_by : (strategy : EnumStrategy) → strategy_of true repr (layouts_of variants) ≡ strategy → (l : Layout)
      → Answers dl law repr (discriminants_of all) variants none long whole strategy (Ok l) → With l l.variants
  listed_by NoValue way l h = let same : never_layout dl ≡ l = cc in subst (λ (m : Layout). With m m.variants) same tt
  listed_by (OneList i) way l h = listed_one i l h
  listed_by Several way l h = listed_several l way h

  listed_enum : (l : Layout) → IsEnumed dl repr (discriminants_of all) variants (Ok l)
      → HasLeastLists dl (enum repr all) (placed_enum dl repr (discriminants_of all) variants l)
  listed_enum l h = listed_by (strategy_of true repr (layouts_of variants)) refl l h

-- ---- a coroutine

-- the prefix fields and the tag lie where the first list has them, and the others behind
split_at : (pre : List Placed) (os : List ℕ) → suc (length pre) ≤ length os
    → offsets_of (parts_at (take (suc (length pre)) os) pre) ++ get_or (take (suc (length pre)) os)
    (length pre) 0 ∷ drop (suc (length pre)) os ≡ os
split_at [] [] short = absurd (omega (arith, short))
split_at [] (o ∷ os) short = refl
split_at (p ∷ pre) [] short = absurd (omega (arith, short))
split_at (p ∷ pre) (o ∷ os) short = ap (λ rest. o ∷ rest) (split_at pre os (omega (arith, short)))

split_by : (pre : List Placed) (os : List ℕ) (n : ℕ) → n ≡ suc (length pre) → n ≤ length os
    → offsets_of (parts_at (take n os) pre) ++ get_or (take n os) (length pre) 0 ∷ drop n os ≡ os
split_by pre os n e short =
    subst (λ k. offsets_of (parts_at (take k os) pre) ++ get_or (take k os) (length pre) 0 ∷ drop k os ≡ os) (sym e)
    (split_at pre os (omega (arith, e, short)))

-- a state has an offset for each of its locals
pub state_count : (promoted : List Bool) (shared own state : List ℕ)
    → length (state_offsets promoted shared own state) ≡ length state
state_count promoted shared own [] = refl
state_count promoted shared own (local ∷ state) =
    by (is_member promoted local) (state_count promoted shared own state)
    (state_count promoted shared (drop 1 own) state)
  where
    by : (b : Bool) → length (state_offsets promoted shared own state) ≡ length state
        → length (state_offsets promoted shared (drop 1 own) state) ≡ length state
        → length (if b then slice_index shared (rank_of promoted local) ∷ state_offsets promoted shared own state else
        slice_index own 0 ∷ state_offsets promoted shared (drop 1 own) state) ≡ suc (length state)
    by true one other = ap suc one
    by false one other = ap suc other

module _ (dl : TargetDataLayout) (kind : StructKind) (ps : List Placed) (promoted : List Bool) (shared ranks : List ℕ)
    (whole : Layout) (mark : Mark) where
  -- each state comes from its own list
  states_from : (first : ℕ) (numbers : List ℕ) (states : List (List ℕ)) (lists : List Layout)
      (layouts : List (VariantLayout ℕ)) → length numbers ≡ length states
      → AreFieldLists (λ i. i) dl default_repr kind (own_lists (map layout_of ps) promoted states) lists
      → AreStatesOf (λ i. i) (λ i. i) promoted shared ranks states lists layouts
      → AreStateLists dl kind (map layout_of ps) promoted shared states
      (tagged_variants_at whole mark first layouts numbers (map (map (placed_in ps)) states))
  states_from first numbers [] [] [] long own h = tt
  states_from first numbers [] [] (l ∷ layouts) long own h = absurd h
  states_from first numbers [] (x ∷ lists) layouts long own h = absurd own
  states_from first numbers (s ∷ states) [] layouts long own h = absurd own
  states_from first numbers (s ∷ states) (x ∷ lists) [] long own h = absurd h
  states_from first [] (s ∷ states) (x ∷ lists) (l ∷ layouts) long own h = absurd (omega (arith, long))
  states_from first (n ∷ numbers) (s ∷ states) (x ∷ lists) (l ∷ layouts) long own h =
      let count : length l.field_offsets ≡ length (map (placed_in ps) s) = ap length h.0.offsets
      ∙ state_count promoted shared (listed_offsets x.fields) s ∙ sym (length-map s (placed_in ps)) in (
        (
          listed_offsets x.fields,
          x.size,
          least_list dl default_repr kind (own_list (map layout_of ps) promoted s) x own.0,
          offsets_back l.field_offsets (map (placed_in ps) s) count ∙ h.0.offsets,
        ),
        states_from (first + 1) numbers states lists layouts (omega (arith, long)) own.1 h.1,
      )

module _ (dl : TargetDataLayout) (law : IsLawfulDataLayout dl) where
  module _ (prefix locals : Trees) (pres ps : List Placed) (states : List (List ℕ)) (conflicts : List (ℕ × ℕ))
      (before : AreLaying dl prefix (Ok pres)) (there : AreLaying dl locals (Ok ps))
      (tag : Scalar) (is_state_tag : IsStateTag (length states) tag) (layout : Layout) where
    abbrev promoted : List Bool
    promoted = promoted_of states (conflicts_of (length ps) conflicts)

    abbrev tagged_variants : TaggedVariants
    tagged_variants = tagged_variants_at layout Plain 0 (layouts_in layout.variants) (source_order (length states))
        (map (map (placed_in ps)) states)

    abbrev first_of : List Placed → Scalar → List Layout
    first_of qs t = first_list (map layout_of qs) (layout_of (one_scalar dl t)) (map layout_of ps) promoted

    -- a first list and those behind it
    abbrev AreLists : (shared : List ℕ) → (size : ℕ) → List Placed → Scalar → (offsets : List ℕ) → Type 0
    AreLists shared size qs t offsets =
        IsLeastList dl default_repr AlwaysSized (first_of qs t) offsets size
        × AreStateLists dl (behind_first dl (first_of qs t) size) (map layout_of ps) promoted shared states tagged_variants

    module _ (made : IsMadeOfStates (λ i. i) (λ i. i) 0 dl (map layout_of pres) (map layout_of ps) states
        (conflicts_of (length ps) conflicts) layout)
        (back : fields_of (parts_at (listed_offsets layout.fields) pres) ≡ pres) where
      abbrev count : ℕ
      count = length (map layout_of pres) + 1

      abbrev offsets : List ℕ
      offsets = listed_offsets made.first.fields

      made_lists : AreLists (drop count offsets) made.first.size pres made.tag offsets
      made_lists =
          let align : made.first.align.abi ≡ align_by dl default_repr AlwaysSized
          (first_of pres made.tag) = made.shared.placed.2.alignment in (
            least_list dl default_repr AlwaysSized (first_of pres made.tag) made.first made.shared,
            subst (λ a. AreStateLists dl (Prefixed made.first.size a) (map layout_of ps) promoted
                (drop count offsets) states tagged_variants) align
                (states_from dl (Prefixed made.first.size made.first.align.abi) ps promoted (drop count offsets)
                (ranks_of (λ i. i) count (listed_order made.first.fields)) layout Plain 0
                (source_order (length states)) states made.lists
                (layouts_in layout.variants) (length-range_with_len 0 (length states)) made.own made.layouts),
          )

      enough : length (map layout_of pres) + 1 ≤ length (listed_offsets made.first.fields)
      enough =
          let all : length (listed_offsets made.first.fields)
          ≡ length
          (map layout_of pres ++ layout_of (one_scalar dl made.tag) ∷ picked (map layout_of ps) (members_of promoted))
          = made.shared.placed.2.count in
          let parts = length-append (map layout_of pres)
          (layout_of (one_scalar dl made.tag) ∷ picked (map layout_of ps) (members_of promoted)) in
          omega (arith, all, parts)

      -- where the prefix fields, the tag and the promoted locals lie
      abbrev places : List ℕ
      places =
          offsets_of (parts_at (listed_offsets layout.fields) pres)
          ++ state_tag_offset layout (length pres) ∷ drop count offsets

      places_are : places ≡ offsets
      places_are =
          let last : length (map layout_of pres) + 1 ≡ suc (length pres) = omega (arith, length-map pres layout_of) in
          ap (λ xs. offsets_of (parts_at xs pres) ++ get_or xs (length pres) 0 ∷ drop count offsets) made.fields
          ∙ split_by pres offsets count last enough

      made_least : HasLeastLists dl (coroutine prefix locals states conflicts)
          (placed_coroutine dl pres tag ps states layout)
      made_least =
          let own : AreLists (drop count offsets) made.first.size pres tag offsets
          = subst (λ t. AreLists (drop count offsets) made.first.size pres t offsets)
          (one_tag (length states) made.tag tag made.is_state_tag is_state_tag) made_lists in
          let there_too : AreLists (drop count offsets) made.first.size pres tag places
          = subst (λ os. AreLists (drop count offsets) made.first.size pres tag os) (sym places_are) own in
          let of_parts = subst (λ qs. AreLists (drop count offsets) made.first.size qs tag places) (sym back)
          there_too in
          (ps, there, (drop count offsets, made.first.size, of_parts.0, of_parts.1))

  listed_coroutine : (prefix locals : Trees) (pres ps : List Placed) (states : List (List ℕ)) (conflicts : List (ℕ × ℕ))
      → AreLaying dl prefix (Ok pres) → AreLaying dl locals (Ok ps) → (p : Placed)
      → IsCoroutineOf dl pres ps states conflicts (Ok p) → HasLeastLists dl (coroutine prefix locals states conflicts) p
  listed_coroutine prefix locals pres ps states conflicts before there p answer =
      let found = coroutine_laid dl law pres ps states conflicts
      (coroutine_fault (length pres) (length ps) states conflicts) p answer in
      let first = whole_lawful dl pres (all_whole dl law prefix pres before) in
      let others = whole_lawful dl ps (all_whole dl law locals ps there) in
      let asked = coroutine_asked dl law pres ps states conflicts first others found.0 found.1 in
      let layout : Layout = found.2 in
      let made = coroutine_made layout_of (λ i. i) (λ i. i) 0 dl pres found.0 (one_scalar dl found.0) ps states
      (conflicts_of (length ps) conflicts) refl asked (Ok layout) found.3 in
      let offsets = stated_offsets dl law pres ps states conflicts first others found.5 found.0 found.1 layout found.3
      in
      let back = fields_back (listed_offsets layout.fields) pres (omega (arith, offsets)) in
      subst (HasLeastLists dl (coroutine prefix locals states conflicts)) found.4
      (made_least prefix locals pres ps states conflicts before there found.0 found.1 layout made back)

  -- ---- types

  listed_struct : (repr : ReprOptions) (always_sized : Bool) (all : Trees) (ps : List Placed) (layout : Layout)
      → AreLaying dl all (Ok ps) → IsLaidList dl repr (kind_of always_sized ps) (map layout_of ps) (Ok layout)
      → HasLeastLists dl (struct repr always_sized None all) (placed_fields repr ps layout)
  listed_struct repr always_sized all ps layout there listed =
      let own = all_whole dl law all ps there in
      let os : List ℕ = listed_offsets layout.fields in
      let list = field_list layout_of (λ i. i) 0 dl repr (kind_of always_sized ps) ps layout (whole_lawful dl ps own)
      (some_field always_sized ps) listed in
      let count : length (listed_offsets layout.fields) ≡ length ps = listed_count dl repr always_sized ps own layout
      listed in
      let least = least_list dl repr (kind_of always_sized ps) (map layout_of ps) layout list in
      subst (λ qs. IsLeastList dl repr (kind_of always_sized qs) (map layout_of qs)
      (offsets_of (parts_at (listed_offsets layout.fields) ps)) layout.size)
      (sym (fields_back (listed_offsets layout.fields) ps (omega (arith, count))))
      (subst (λ at. IsLeastList dl repr (kind_of always_sized ps) (map layout_of ps) at layout.size)
      (sym (offsets_back (listed_offsets layout.fields) ps count)) least)

  -- each list of a type that is laid out is such a list
  pub laid_lists : (t : Tree) (p : Placed) → IsLaying dl t (Ok p) → HasLeastLists dl t p
  laid_lists (struct repr always_sized None all) p (inl f) = absurd (cc f.2)
  laid_lists (struct repr always_sized None all) p (inr (ps, there, answer)) =
      let found = laid_by (fields_fault repr ps) (IsLaidList dl repr (kind_of always_sized ps) (map layout_of ps))
      (placed_fields repr ps) p answer in
      subst (HasLeastLists dl (struct repr always_sized None all)) found.2
      (listed_struct repr always_sized all ps found.0 there found.1)
  laid_lists (enum repr all) p (inl f) = absurd (cc f.2)
  laid_lists (enum repr all) p (inr (variants, there, answer)) =
      let found = laid_by (enum_fault dl repr (discriminants_of all) variants)
      (IsEnumed dl repr (discriminants_of all) variants)
      (placed_enum dl repr (discriminants_of all) variants) p answer in
      subst (HasLeastLists dl (enum repr all)) found.2
      (listed_enum dl law repr all variants found.3 there found.0 found.1)
  laid_lists (coroutine prefix locals states conflicts) p (inl f) = absurd (cc f.2)
  laid_lists (coroutine prefix locals states conflicts) p (inr (pres, before, inl f)) = absurd (cc f.2)
  laid_lists (coroutine prefix locals states conflicts) p (inr (pres, before, inr (ps, there, answer))) =
      listed_coroutine prefix locals pres ps states conflicts before there p answer
  laid_lists _ p h = tt
