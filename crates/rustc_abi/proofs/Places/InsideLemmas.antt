-- The fields of each variant end inside the variant, and the variant inside the whole.
use Rattle.std.proofs.Common.{◌≡◌, ◌≢◌, ℕ, ◌+◌, ◌==◌, ◌<◌, ◌≤◌, ◌∙◌, Bool, true, false, List, [], ◌∷◌, ◌++◌, Option, Some, None, All, Result, Ok, Err, ap, arith, inl, inr, length, map, max, refl, subst, sym, take}
use Rattle.std.specs.Prelude.{◌&&◌, drop, if◌then◌else◌, nat_le, nat_lt, not}
use Rattle.std.specs.List.{AllPairs, list_any}
use Rattle.std.proofs.lemmas.Bool.{leb-true, ltb-true}
use Rattle.std.proofs.lemmas.List.{append_assoc, length-append, length-map, map-append}
use Rattle.std.proofs.lemmas.List.Elements.{All-cons, All-head, All-nil, All-tail, All-weaker}
use Rattle.abi_base.specs.declared.data_layout.TargetDataLayout.{TargetDataLayout}
use Rattle.abi_base.specs.declared.integer.Integer.{Integer}
use Rattle.abi_base.specs.declared.niche_optimizations.NicheOptimizations.TheVariants.{Enabled}
use Rattle.abi_base.specs.declared.primitive.Primitive.TheVariants.{Int}
use Rattle.abi_base.specs.declared.struct_kind.StructKind.{StructKind}
use Rattle.abi_base.specs.declared.struct_kind.StructKind.TheVariants.{AlwaysSized, Prefixed}
use Rattle.abi_base.specs.DataLayout.{IsLawfulDataLayout, size_bound}
use Rattle.abi_base.specs.Integer.{integer_size}
use Rattle.abi_scalar.specs.declared.backend_repr.BackendRepr.{BackendRepr}
use Rattle.abi_scalar.specs.declared.error.LayoutCalculatorError.{LayoutCalculatorError}
use Rattle.abi_scalar.specs.declared.repr.ReprOptions.{ReprOptions}
use Rattle.abi_scalar.specs.declared.scalar.Scalar.{Scalar}
use Rattle.abi_scalar.specs.declared.scalar.Scalar.TheVariants.{Initialized}
use Rattle.abi_scalar.specs.declared.variants.TagEncoding.{TagEncoding}
use Rattle.abi_scalar.specs.declared.variants.VariantLayout.{VariantLayout}
use Rattle.abi_scalar.specs.declared.variants.Variants.TheVariants.{Empty, Single, Multiple}
use Rattle.abi_scalar.specs.Lawful.{IsLawfulLayout}
use Rattle.abi_scalar.specs.declared.fields_shape.FieldsShape.TheVariants.{Arbitrary}
use Rattle.abi_scalar.specs.Shape.{field_count, listed_offsets, listed_order}
use Rattle.abi_scalar.specs.Simple.{never_layout}
use Rattle.abi_scalar.specs.Variant.{variant_of, variants_of}
use Rattle.abi_univariant.specs.Apart.{AreApart}
use Rattle.abi_univariant.specs.Fields.{greatest_size}
use Rattle.abi_univariant.specs.List.{HasLawfulAligns, IsUnivariantAnswer}
use Rattle.abi_univariant.specs.Part.{parts_of}
use Rattle.abi_univariant.specs.Placement.{IsWellFormedPrefix, IsSized, align_of, cut, end_from, in_order, fields_repr, start_of}
use Rattle.abi_univariant.proofs.Offsets.Ends.{end_from-above}
use Rattle.abi_univariant.proofs.Offsets.Rounding.{rounded_to}
use Rattle.abi_calc.specs.declared.enums.niche.Room.{Room}
use Rattle.abi_calc.specs.declared.enums.strategy.EnumStrategy.{EnumStrategy}
use Rattle.abi_calc.specs.declared.enums.strategy.EnumStrategy.TheVariants.{NoValue, OneList, Several}
use Rattle.abi_calc.specs.Coroutine.Layout.{IsStateTag, whole_size}
use Rattle.abi_index.specs.BitSet.{is_member, members_of}
use Rattle.abi_calc.specs.Coroutine.Lists.{AreOwnLists, state_list_kind, default_repr, first_list, own_list, picked}
use Rattle.abi_calc.specs.Coroutine.Promotion.{promoted_of}
use Rattle.abi_calc.specs.Coroutine.Sizes.{own_lists}
use Rattle.abi_calc.specs.Coroutine.States.{state_layout, state_layouts, state_offsets}
use Rattle.abi_calc.specs.Enums.Answer.{IsTypeAnswer}
use Rattle.abi_calc.specs.Enums.Choice.{IsNicheAnswer, preferred_layout, takes_niche}
use Rattle.abi_calc.specs.Enums.Discriminants.{counted_discriminants}
use Rattle.abi_calc.specs.Enums.Growth.{grown_tag, grown_variant, moved_offset, start_align}
use Rattle.abi_calc.specs.Enums.Lists.{AreGoodLists, AreListLayouts, IsGoodList, behind_tag}
use Rattle.abi_calc.specs.Enums.Niche.{beside_niche, moved_on, niche_layout, place_after, room_beside, untagged_of, variants_from, with_first, without_niche}
use Rattle.abi_calc.specs.Enums.EnumStrategy.{strategy_of}
use Rattle.abi_calc.specs.Enums.Payload.{is_memory, is_of_scalars, variant_with_view, tagged_view}
use Rattle.abi_calc.specs.Enums.Several.{IsAskedAnswer, IsSeveralAnswer, better_of}
use Rattle.abi_calc.specs.Enums.Tagged.{IsTaggedAnswer, lists_align, lists_size, payloads_of}
use Rattle.abi_calc.proofs.CoroutineLemmas.Promised.{first_lawful, own_all}
use Rattle.abi_calc.proofs.CoroutineLemmas.Apart.{shared_count, shared_offsets, shared_sizes, states_apart, whole_above}
use Rattle.abi_calc.proofs.CoroutineLemmas.Promotion.{promoted_count}
use Rattle.abi_calc.proofs.EnumLemmas.NicheLawful.{niche_parts}
use Rattle.abi_calc.proofs.EnumLemmas.Places.{AreClear, AreClearAmong, IsClear, clear_grown, greatest_within, new_fits}
use Rattle.abi_calc.proofs.EnumLemmas.Several.{by_both}
use Rattle.abi_calc.proofs.EnumLemmas.EnumExtent.{several_some}
use Rattle.abi_calc.proofs.EnumLemmas.GoodLists.{good_list, good_lists, tag_prefix}
use Rattle.abi_calc.proofs.CoroutineLemmas.OneCoroutine.{lists_own}
use Rattle.abi_tree.specs.Placed.{Placed, layout_of, size_of}
use Rattle.abi_scalar.specs.Layout.{Layout}
use Rattle.abi_tree.specs.Nodes.{placed_in}
use Rattle.rustc_abi.specs.Enums.{IsEnumed, IsTagIntegerAnswer, layouts_of, numbered_from}
use Rattle.rustc_abi.specs.Coroutines.{IsCoroutined, conflicts_of}
use Rattle.rustc_abi.specs.Inside.{EndInside, IsFlaggedByField, VariantsInside}
use Rattle.rustc_abi.specs.Laying.{coroutine_fault, enum_fault, most_fields, one_scalar}
use Rattle.rustc_abi.proofs.Faults.CoroutineFaultLemmas.{conflict_rows, states_once, states_within}
use Rattle.rustc_abi.proofs.Faults.FaultlessLemmas.{few_fields}
use Rattle.rustc_abi.proofs.Trees.LaidLemmas.{aligns_of, coroutine_asked, stated_offsets}
use Rattle.rustc_abi.proofs.Coroutines.StateFlagLemmas.{own_flagged, sizes_picked}

-- ---- parts that end inside

-- parts that share no byte end inside
apart_ends : (whole : ℕ) (offsets sizes : List ℕ) → AreApart whole offsets sizes → EndInside whole offsets sizes
apart_ends whole [] [] h = tt
apart_ends whole [] (m ∷ sizes) h = absurd h
apart_ends whole (o ∷ offsets) [] h = absurd h
apart_ends whole (o ∷ offsets) (m ∷ sizes) h = (h.0, apart_ends whole offsets sizes h.2)

-- and so do those behind others
back_ends : (whole : ℕ) (xs offsets ms sizes : List ℕ) → length xs ≡ length ms → AreApart whole (xs ++ offsets) (ms ++ sizes) → EndInside whole offsets sizes
back_ends whole [] offsets [] sizes same h = apart_ends whole offsets sizes h
back_ends whole [] offsets (m ∷ ms) sizes same h = absurd (omega (arith, same))
back_ends whole (x ∷ xs) offsets [] sizes same h = absurd (omega (arith, same))
back_ends whole (x ∷ xs) offsets (m ∷ ms) sizes same h = back_ends whole xs offsets ms sizes (omega (arith, same)) h.2

-- the first of parts that lie apart end inside
front_ends : (whole : ℕ) (offsets front rest : List ℕ) → AreApart whole offsets (front ++ rest) → EndInside whole (take (length front) offsets) front
front_ends whole [] [] rest h = tt
front_ends whole (o ∷ offsets) [] rest h = tt
front_ends whole [] (m ∷ front) rest h = absurd h
front_ends whole (o ∷ offsets) (m ∷ front) rest h = (h.0, front_ends whole offsets front rest h.2)

-- what ends inside a smaller whole ends inside a larger one
ends_wider : (small whole : ℕ) (offsets sizes : List ℕ) → small ≤ whole → EndInside small offsets sizes → EndInside whole offsets sizes
ends_wider small whole [] [] more h = tt
ends_wider small whole [] (m ∷ sizes) more h = absurd h
ends_wider small whole (o ∷ offsets) [] more h = absurd h
ends_wider small whole (o ∷ offsets) (m ∷ sizes) more h = (omega (arith, h.0, more), ends_wider small whole offsets sizes more h.1)

-- parts that moved so many bytes on end inside so many bytes more
ends_on : (by small : ℕ) (offsets sizes : List ℕ) → EndInside small offsets sizes → EndInside (by + small) (map (λ o. by + o) offsets) sizes
ends_on by small [] [] h = tt
ends_on by small [] (m ∷ sizes) h = absurd h
ends_on by small (o ∷ offsets) [] h = absurd h
ends_on by small (o ∷ offsets) (m ∷ sizes) h = (omega (arith, h.0), ends_on by small offsets sizes h.1)

-- a part that the new tag leaves clear ends inside the larger of the list and the tag, be it at the old tag's end or not
end_moved : (old new small o m : ℕ) (at_end : Bool) → IsClear old new o m → o + m ≤ small → (if at_end then new else o) + m ≤ max small new
end_moved old new small o m true (inl empty) h = omega (arith, empty.1)
end_moved old new small o m true (inr far) h = omega (arith, far, h)
end_moved old new small o m false clear h = omega (arith, h)

-- and so do all of them
ends_moved : (old new small : ℕ) (offsets sizes : List ℕ) → AreClear old new offsets sizes → EndInside small offsets sizes → EndInside (max small new) (map (moved_offset old new) offsets) sizes
ends_moved old new small [] [] clear h = tt
ends_moved old new small [] (m ∷ sizes) clear h = absurd h
ends_moved old new small (o ∷ offsets) [] clear h = absurd h
ends_moved old new small (o ∷ offsets) (m ∷ sizes) clear h = (end_moved old new small o m (o == old) clear.0 h.0, ends_moved old new small offsets sizes clear.1 h.1)

-- ---- one variant

-- a variant ends inside the whole, and has its fields inside itself; it is flagged only where one of them is
abbrev IsInside : (whole : ℕ) → (fields : List Placed) → VariantLayout ℕ → Type 0
IsInside whole fields layout = (layout.size ≤ whole) × EndInside layout.size layout.field_offsets (map size_of fields) × IsFlaggedByField layout fields

-- where its list is, one of them is
abbrev ByField : Layout → List Placed → Type 0
ByField list fields = list.uninhabited ≡ true → list_any (λ l. l.uninhabited) (map layout_of fields) ≡ true

-- however the variant is seen
seen_inside : (view : BackendRepr) (whole : ℕ) (fields : List Placed) (layout : VariantLayout ℕ) → IsInside whole fields layout → IsInside whole fields (variant_with_view view whole layout)
seen_inside view whole fields layout h = by (is_of_scalars view && is_memory layout.backend_repr && nat_lt 0 (length layout.field_offsets))
  where
    by : (b : Bool) → IsInside whole fields (if b then (record layout { backend_repr = view; size = max layout.size whole }) else layout)
    by true = (omega (arith, h.0), ends_wider layout.size (max layout.size whole) layout.field_offsets (map size_of fields) (omega arith) h.1, h.2)
    by false = h

-- beside a tag that may have grown
grown_inside : (old new whole : ℕ) (fields : List Placed) (list : Layout) → list.size ≤ whole → new ≤ whole → EndInside list.size (listed_offsets list.fields) (map size_of fields)
    → (old < new → AreClear old new (listed_offsets list.fields) (map size_of fields)) → ByField list fields → IsInside whole fields (grown_variant old new (variant_of list))
grown_inside old new whole fields list less fits ends clear flag = by (nat_lt old new) refl
  where
    by : (b : Bool) → nat_lt old new ≡ b → IsInside whole fields (if b then (record (variant_of list) { size = max list.size new; field_offsets = map (moved_offset old new) (listed_offsets list.fields) }) else variant_of list)
    by true grows = (omega (arith, less, fits), ends_moved old new list.size (listed_offsets list.fields) (map size_of fields) (clear (ltb-true old new grows)) ends, flag)
    by false stays = (less, ends, flag)

-- beside a niche, before it or behind it
beside_inside : (room : Room) (fields : List Placed) (list : Layout) (layout : VariantLayout ℕ) → list.size ≤ room.whole → EndInside list.size (listed_offsets list.fields) (map size_of fields)
    → ByField list fields → beside_niche room list.align.abi (variant_of list) ≡ Some layout → IsInside room.whole fields layout
beside_inside room fields list layout less ends flag is = by (nat_le list.size room.before) (nat_le (place_after room list.align.abi + list.size) room.whole) refl is
  where
    by : (b c : Bool) → nat_le (place_after room list.align.abi + list.size) room.whole ≡ c
        → (if b then Some (without_niche (variant_of list)) else (if c then Some (moved_on (place_after room list.align.abi) (variant_of list)) else None)) ≡ Some layout → IsInside room.whole fields layout
    by true c late e = let same : without_niche (variant_of list) ≡ layout = cc in subst (IsInside room.whole fields) same (less, ends, flag)
    by false true late e =
        let on : ℕ = place_after room list.align.abi in
        let same : moved_on on (variant_of list) ≡ layout = cc in
        subst (IsInside room.whole fields) same (leb-true (on + list.size) room.whole late, ends_on on list.size (listed_offsets list.fields) (map size_of fields) ends, flag)
    by false false late e = absurd (cc)

-- be it the one that has the niche or not
placed_inside : (own : Bool) (room : Room) (fields : List Placed) (list : Layout) (layout : VariantLayout ℕ) → list.size ≤ room.whole → EndInside list.size (listed_offsets list.fields) (map size_of fields)
    → ByField list fields → (if own then Some (variant_of list) else beside_niche room list.align.abi (variant_of list)) ≡ Some layout → IsInside room.whole fields layout
placed_inside true room fields list layout less ends flag is = let same : variant_of list ≡ layout = cc in subst (IsInside room.whole fields) same (less, ends, flag)
placed_inside false room fields list layout less ends flag is = beside_inside room fields list layout less ends flag is

-- ---- all variants

-- a first item and the others, where both are there
both_there : {A : Type 0} (o : Option A) (more : Option (List A)) (xs : List A) → with_first o more ≡ Some xs → (x : A) × (rest : List A) × (o ≡ Some x) × (more ≡ Some rest) × (x ∷ rest ≡ xs)
both_there None more xs e = absurd (cc)
both_there (Some x) None xs e = absurd (cc)
both_there (Some x) (Some rest) xs e = (x, rest, refl, refl, cc)

module _ (dl : TargetDataLayout) (repr : ReprOptions) (kind : StructKind) where
  -- the variants' fields have these lists
  abbrev Good : List (List Placed) → List Layout → Type 0
  Good variants lists = AreGoodLists layout_of (λ i. i) 0 dl repr kind variants lists

  -- fields end inside their list
  good_ends : (fields : List Placed) (list : Layout) → IsGoodList layout_of (λ i. i) 0 dl repr kind fields list → EndInside list.size (listed_offsets list.fields) (map size_of fields)
  good_ends fields list good = apart_ends list.size (listed_offsets list.fields) (map size_of fields) good.apart

  -- and it is flagged where one of them is
  good_flag : (fields : List Placed) (list : Layout) → IsGoodList layout_of (λ i. i) 0 dl repr kind fields list → ByField list fields
  good_flag fields list good flag = sym good.exact.2.uninhabited ∙ flag

  -- variants beside a tag, which leaves their fields clear where it has grown
  grown_variants : (view : BackendRepr) (old new whole : ℕ) (variants : List (List Placed)) (lists : List Layout) → Good variants lists → (old < new → AreClearAmong layout_of old new variants lists)
      → new ≤ whole → greatest_size lists ≤ whole → VariantsInside whole (map (λ list. variant_with_view view whole (grown_variant old new (variant_of list))) lists) variants
  grown_variants view old new whole [] [] good clear fits more = tt
  grown_variants view old new whole [] (list ∷ lists) good clear fits more = absurd good
  grown_variants view old new whole (fields ∷ variants) [] good clear fits more = absurd good
  grown_variants view old new whole (fields ∷ variants) (list ∷ lists) good clear fits more =
      let one = grown_inside old new whole fields list (omega (arith, more)) fits (good_ends fields list good.0) (λ grows. (clear grows).0) (good_flag fields list good.0) in
      let seen = seen_inside view whole fields (grown_variant old new (variant_of list)) one in
      (seen.0, seen.1, grown_variants view old new whole variants lists good.1 (λ grows. (clear grows).1) fits (omega (arith, more)), seen.2)

  -- variants beside a niche
  placed_variants : (room : Room) (untagged from : ℕ) (variants : List (List Placed)) (lists : List Layout) (placed : List (VariantLayout ℕ)) → Good variants lists → greatest_size lists ≤ room.whole
      → variants_from room untagged from lists ≡ Some placed → VariantsInside room.whole placed variants
  placed_variants room untagged from [] [] placed good more is = let none : [] ≡ placed = cc in subst (λ ls. VariantsInside room.whole ls []) none tt
  placed_variants room untagged from [] (list ∷ lists) placed good more is = absurd good
  placed_variants room untagged from (fields ∷ variants) [] placed good more is = absurd good
  placed_variants room untagged from (fields ∷ variants) (list ∷ lists) placed good more is =
      let there = both_there (if from == untagged then Some (variant_of list) else beside_niche room list.align.abi (variant_of list)) (variants_from room untagged (from + 1) lists) placed is in
      let one = placed_inside (from == untagged) room fields list there.0 (omega (arith, more)) (good_ends fields list good.0) (good_flag fields list good.0) there.2 in
      subst (λ ls. VariantsInside room.whole ls (fields ∷ variants)) there.4
      (one.0, one.1, placed_variants room untagged (from + 1) variants lists there.1 good.1 (omega (arith, more)) there.3, one.2)

-- ---- an enum

module _ (dl : TargetDataLayout) (law : IsLawfulDataLayout dl) (repr : ReprOptions) (numbers : List ℕ) (variants : List (List Placed)) (none : enum_fault dl repr numbers variants ≡ None)
    (long : length numbers ≡ length variants) (lawful : All (All (λ p. IsLawfulLayout dl (layout_of p))) variants) where
  -- the tag is its one field, and its variants end inside
  abbrev IsEnumInside : Layout → Type 0
  IsEnumInside l = (field_count l.fields ≡ 1) × VariantsInside l.size (variants_of l.variants) variants

  -- the lists that the rules give the variants are good
  good_kind : (kind : StructKind) (lists : List Layout) → IsWellFormedPrefix kind (size_bound dl) → IsSized kind → AreListLayouts layout_of (λ i. i) 0 dl repr kind variants lists
      → AreGoodLists layout_of (λ i. i) 0 dl repr kind variants lists
  good_kind kind lists prefix sized h = good_lists layout_of (λ i. i) 0 dl repr kind variants lists law lawful (aligns_of dl law repr numbers variants none long) prefix sized h

  -- one with a tag
  with_tag : (asked : Integer) (signed : Bool) (values : List ℕ) (l : Layout) → repr.pack ≡ None → 0 < length variants
      → IsTaggedAnswer layout_of (λ i. i) (λ i. i) 0 dl repr asked signed values variants (Ok l) → IsEnumInside l
  with_tag asked signed values l unpacked some (lists, are, laid) =
      let all : List (List Layout) = layouts_of variants in
      let good = good_kind (behind_tag dl repr asked (layouts_of variants)) lists (tag_prefix layout_of dl repr asked variants law lawful) tt are in
      let grown : Integer = grown_tag dl repr asked (start_align (λ i. i) all lists) in
      let tag : Scalar = Initialized (Int grown signed) laid.ranged.0 in
      let view = tagged_view dl tag (lists_size dl lists) (lists_align dl lists) (payloads_of dl (integer_size asked) (integer_size grown) all lists) in
      let few : All (λ fields. length fields ≤ most_fields + 1) variants
      = All-weaker (λ fields. length fields ≤ most_fields) (λ fields. length fields ≤ most_fields + 1) (λ fields h. omega (arith, h)) variants (few_fields dl repr numbers variants none) in
      let clear = clear_grown layout_of (λ i. i) (λ i. i) 0 dl repr asked all most_fields (λ i le. refl) law unpacked variants lists good few in
      let fits = new_fits layout_of (λ i. i) (λ i. i) 0 dl repr asked all most_fields (λ i le. refl) law unpacked variants lists good some few in
      let most = greatest_within dl lists in
      subst IsEnumInside (sym laid.ranged.2) (
        refl,
        grown_variants dl repr (behind_tag dl repr asked all) view (integer_size asked) (integer_size grown) (lists_size dl lists) variants lists good clear (omega (arith, fits, most)) most,
      )

  -- one with a niche
  with_niche : (l : Layout) (lists : List Layout) → AreListLayouts layout_of (λ i. i) 0 dl repr AlwaysSized variants lists → niche_layout 0 (λ i. i) dl repr (layouts_of variants) lists ≡ Some l → IsEnumInside l
  with_niche l lists are is =
      let good = good_kind AlwaysSized lists tt tt are in
      let p = niche_parts 0 (λ i. i) dl repr (layouts_of variants) lists l is in
      subst IsEnumInside (sym p.is) (refl, placed_variants dl repr AlwaysSized (room_beside dl p.niche lists) (untagged_of lists) 0 variants lists p.placed good (greatest_within dl lists) p.beside)

  -- the layout with a niche, where there is one
  abbrev IsNiche : Option Layout → Type 0
  IsNiche found = IsNicheAnswer AreListLayouts layout_of (λ i. i) (λ i. i) dl repr variants found

  -- if there is one, it comes from lists
  found_niche : (l : Layout) → IsNiche (Some l) → IsEnumInside l
  found_niche l (inl fixed) = absurd (cc fixed.1)
  found_niche l (inr (inl refused)) = absurd (cc refused.3)
  found_niche l (inr (inr h)) = with_niche l h.1 h.2 (sym h.3)

  -- the better one of both
  better_inside : (tagged : Layout) (found : Option Layout) → IsNiche found → IsEnumInside tagged → IsEnumInside (preferred_layout dl tagged found)
  better_inside tagged None niche inside = inside
  better_inside tagged (Some l) niche inside = by_both IsEnumInside (takes_niche dl tagged l) l tagged (λ takes. found_niche l niche) (λ leaves. inside)

  -- which is the answer
  chosen_inside : (values : List ℕ) (l : Layout) (found : Option Layout) (r : Result Layout (LayoutCalculatorError Placed)) → repr.pack ≡ None → 0 < length variants → IsNiche found
      → IsAskedAnswer layout_of (λ i. i) (λ i. i) 0 dl repr (IsTagIntegerAnswer dl repr) values variants r → Ok l ≡ better_of dl r found → IsEnumInside l
  chosen_inside values l found (Ok tagged) unpacked some niche (asked, signed, is, h) e =
      let same : preferred_layout dl tagged found ≡ l = cc in
      subst IsEnumInside same (better_inside tagged found niche (with_tag asked signed values tagged unpacked some h))
  chosen_inside values l found (Err error) unpacked some niche h e = absurd (cc)

  -- to variants that aren't packed; others have none
  several_inside : (gives : List (ℕ × ℕ) → Type 0) (l : Layout) → 0 < length variants
      → IsSeveralAnswer layout_of (λ i. i) (λ i. i) (λ i. i) (λ i. i) dl repr (IsTagIntegerAnswer dl repr) variants gives (Ok l) → IsEnumInside l
  several_inside gives l some (inl packed) = absurd (cc packed.1)
  several_inside gives l some (inr (inl want)) = absurd (cc want.1)
  several_inside gives l some (inr (inr (unpacked, items, given, inl want))) = absurd (cc)
  several_inside gives l some (inr (inr (unpacked, items, given, inr (found, niche, tagged, asked, e)))) =
      chosen_inside (counted_discriminants (λ i. i) repr (layouts_of variants) items) l found tagged unpacked some niche asked e

  -- no tag distinguishes variants in a type without values, or in one that is the list of one variant
  by_path : (strategy : EnumStrategy) → strategy_of true repr (layouts_of variants) ≡ strategy → (l : Layout)
      → IsTypeAnswer layout_of (λ i. i) (λ i. i) (λ i. i) (λ i. i) dl repr variants true true Enabled (IsTagIntegerAnswer dl repr) (λ items. items ≡ numbered_from 0 numbers) strategy (Ok l)
      → (tag : Scalar) (encoding : TagEncoding ℕ) (field : ℕ) (layouts : List (VariantLayout ℕ)) → l.variants ≡ Multiple tag encoding field layouts → IsEnumInside l
  by_path NoValue strategy l h tag encoding field layouts tag_distinguishes =
      let same : never_layout dl ≡ l = cc in
      let never : Empty ≡ Multiple tag encoding field layouts = ap (λ (m : Layout). m.variants) same ∙ tag_distinguishes in
      absurd (cc never)
  by_path (OneList i) strategy l h tag encoding field layouts tag_distinguishes =
      let never : Single i ≡ Multiple tag encoding field layouts = ap (λ (m : Layout). m.variants) (sym h.2) ∙ tag_distinguishes in
      absurd (cc never)
  by_path Several strategy l h tag encoding field layouts tag_distinguishes = several_inside (λ items. items ≡ numbered_from 0 numbers) l (several_some layout_of repr variants true strategy) h

  module _ (layout : Layout) (enumed : IsEnumed dl repr numbers variants (Ok layout)) (tag : Scalar) (encoding : TagEncoding ℕ) (field : ℕ) (layouts : List (VariantLayout ℕ))
      (tag_distinguishes : layout.variants ≡ Multiple tag encoding field layouts) where
    -- where a tag or a niche distinguishes the variants, each ends inside the enum, and has its fields inside itself
    pub inside_enum : VariantsInside layout.size layouts variants
    inside_enum =
        subst (λ vs. VariantsInside layout.size vs variants) (ap variants_of tag_distinguishes) (by_path (strategy_of true repr (layouts_of variants)) refl layout enumed tag encoding field layouts tag_distinguishes).1

    -- and the tag is the enum's one field
    pub enum_field_count : field_count layout.fields ≡ 1
    enum_field_count = (by_path (strategy_of true repr (layouts_of variants)) refl layout enumed tag encoding field layouts tag_distinguishes).0

-- ---- a coroutine

-- a list is no smaller than what it lies behind
behind_fits : (dl : TargetDataLayout) (repr : ReprOptions) (size align : ℕ) (fields : List Placed) (list : Layout) → IsGoodList layout_of (λ i. i) 0 dl repr (Prefixed size align) fields list → size ≤ list.size
behind_fits dl repr size align fields list good =
    let start : ℕ = start_of repr.pack (Prefixed size align) in
    let parts = in_order (parts_of dl (map layout_of fields)) good.placed.0 in
    let begins = (rounded_to size (cut repr.pack align)).above in
    let ends = end_from-above repr.pack start parts in
    let rounded = (rounded_to (end_from repr.pack start parts) (align_of (fields_repr dl repr (Prefixed size align)) (parts_of dl (map layout_of fields)))).above in
    omega (arith, begins, ends, rounded, good.placed.2.extent)

module _ (dl : TargetDataLayout) (law : IsLawfulDataLayout dl) (pres ps : List Placed) (states : List (List ℕ)) (conflicts : List (ℕ × ℕ)) (before : All (λ p. IsLawfulLayout dl (layout_of p)) pres) (there : All (λ p. IsLawfulLayout dl (layout_of p)) ps)
    (none : coroutine_fault (length pres) (length ps) states conflicts ≡ None) (tag : Scalar) (is_state_tag : IsStateTag (length states) tag) where
  -- the locals that are promoted
  abbrev promoted : List Bool
  promoted = promoted_of states (conflicts_of (length ps) conflicts)

  -- each local is or isn't
  many : length (promoted_of states (conflicts_of (length ps) conflicts)) ≡ length ps
  many = promoted_count states (conflicts_of (length ps) conflicts) ∙ conflict_rows (length ps) conflicts

  -- a repr that asks for nothing names no alignment
  aligns : HasLawfulAligns default_repr
  aligns = record { align = tt; pack = tt }

  -- the first list is good
  abbrev IsGoodFirst : Layout → Type 0
  IsGoodFirst first = IsGoodList layout_of (λ i. i) 0 dl default_repr AlwaysSized (first_list pres (one_scalar dl tag) ps promoted) first

  -- so are those of these states behind it
  abbrev AreGoodOwn : Layout → List (List ℕ) → List Layout → Type 0
  AreGoodOwn first held lists = AreGoodLists layout_of (λ i. i) 0 dl default_repr (state_list_kind first) (own_lists ps promoted held) lists

  -- both are where the rules give them
  good_first : (first : Layout) → IsUnivariantAnswer layout_of (λ i. i) 0 dl default_repr AlwaysSized (first_list pres (one_scalar dl tag) ps promoted) (Ok first) → IsGoodFirst first
  good_first first h =
      good_list layout_of (λ i. i) 0 dl default_repr AlwaysSized (first_list pres (one_scalar dl tag) ps promoted) first law
      (first_lawful layout_of (λ i. i) (λ i. i) 0 dl pres tag (one_scalar dl tag) ps states promoted (coroutine_asked dl law pres ps states conflicts before there tag is_state_tag)) aligns tt tt h

  good_own : (first : Layout) (lists : List Layout) → IsLawfulLayout dl first → AreOwnLists layout_of (λ i. i) 0 dl (state_list_kind first) ps promoted states lists → AreGoodOwn first states lists
  good_own first lists lawful h =
      good_lists layout_of (λ i. i) 0 dl default_repr (state_list_kind first) (own_lists ps promoted states) lists law
      (own_all (λ p. IsLawfulLayout dl (layout_of p)) ps promoted states there) aligns (lawful.bound, lawful.limit) tt
      (lists_own layout_of dl (state_list_kind first) ps promoted states lists h)

  -- one state: its promoted locals end inside the first list, and its own list is no smaller
  state_inside : (first : Layout) → IsGoodFirst first → (whole : ℕ) (state : List ℕ) (list : Layout) → list.size ≤ whole → All (λ l. l < length ps) state → AllPairs (λ a b. a ≢ b) state
      → IsGoodList layout_of (λ i. i) 0 dl default_repr (state_list_kind first) (own_list ps promoted state) list
      → IsInside whole (map (placed_in ps) state) (state_layout (λ i. i) (λ i. i) (length pres + 1) promoted first state list)
  state_inside first good whole state list less within once own =
      let shared : List ℕ = drop (length pres + 1) (listed_offsets first.fields) in
      let offsets : List ℕ = state_offsets promoted shared (listed_offsets list.fields) state in
      let apart = states_apart layout_of (λ i. i) (λ i. i) 0 dl pres tag (one_scalar dl tag) ps promoted refl many first good list.size (state ∷ []) (list ∷ [])
      (behind_fits dl default_repr first.size first.align.abi (own_list ps promoted state) list own)
      (All-cons (λ l. l.size ≤ list.size) list [] (omega arith) (All-nil (λ l. l.size ≤ list.size))) (All-cons (All (λ l. l < length ps)) state [] within (All-nil (All (λ l. l < length ps))))
      (All-cons (AllPairs (λ a b. a ≢ b)) state [] once (All-nil (AllPairs (λ a b. a ≢ b)))) (own, tt) in
      let ends = back_ends list.size (shared_offsets layout_of (λ i. i) (λ i. i) 0 dl pres tag (one_scalar dl tag) ps promoted refl many first good) offsets
      (shared_sizes layout_of (λ i. i) (λ i. i) 0 dl pres tag (one_scalar dl tag) ps promoted refl many first good) (map (λ (l : Layout). l.size) (picked (map layout_of ps) state))
      (shared_count layout_of (λ i. i) (λ i. i) 0 dl pres tag (one_scalar dl tag) ps promoted refl many first good) apart.0 in
      let flag = own_flagged ps (λ l. not (is_member promoted l)) state within in
      (less, subst (EndInside list.size offsets) (sizes_picked ps state within) ends, λ set. flag (sym own.exact.2.uninhabited ∙ set))

  -- all states
  states_inside : (first : Layout) → IsGoodFirst first → (whole : ℕ) (held : List (List ℕ)) (lists : List Layout) → All (λ l. l.size ≤ whole) lists → All (All (λ l. l < length ps)) held
      → All (AllPairs (λ a b. a ≢ b)) held → AreGoodOwn first held lists
      → VariantsInside whole (state_layouts (λ i. i) (λ i. i) (length pres + 1) promoted first held lists) (map (map (placed_in ps)) held)
  states_inside first good whole [] [] less within once own = tt
  states_inside first good whole [] (list ∷ lists) less within once own = absurd own
  states_inside first good whole (state ∷ held) [] less within once own = absurd own
  states_inside first good whole (state ∷ held) (list ∷ lists) less within once own =
      let one = state_inside first good whole state list (All-head (λ l. l.size ≤ whole) list lists less) (All-head (All (λ l. l < length ps)) state held within)
      (All-head (AllPairs (λ a b. a ≢ b)) state held once) own.0 in (
        one.0,
        one.1,
        states_inside first good whole held lists (All-tail (λ l. l.size ≤ whole) list lists less) (All-tail (All (λ l. l < length ps)) state held within)
            (All-tail (AllPairs (λ a b. a ≢ b)) state held once) own.1,
        one.2,
      )

  -- each state ends inside the coroutine, and has its locals inside itself
  pub inside_coroutine : (layout : Layout) → IsCoroutined dl pres tag (one_scalar dl tag) ps states conflicts (Ok layout)
      → VariantsInside layout.size (variants_of layout.variants) (map (map (placed_in ps)) states)
  inside_coroutine layout (first, h, lists, hs, below, is) =
      let good = good_first first h in
      let less = All-tail (λ l. l.size ≤ whole_size first lists) first lists (whole_above first lists) in
      let within = states_within (length pres) (length ps) states conflicts none in
      let once = states_once (length pres) (length ps) states conflicts none in
      subst (λ (l : Layout). VariantsInside l.size (variants_of l.variants) (map (map (placed_in ps)) states)) (sym is)
      (states_inside first good (whole_size first lists) states lists less within once (good_own first lists good.lawful hs))

  -- and the prefix fields and the tag are the coroutine's fields
  pub coroutine_field_count : (layout : Layout) → IsCoroutined dl pres tag (one_scalar dl tag) ps states conflicts (Ok layout) → field_count layout.fields ≡ length pres + 1
  coroutine_field_count layout h =
      let listed : field_count layout.fields ≡ length (listed_offsets layout.fields) = ap (λ (l : Layout). field_count l.fields) h.5 ∙ sym (ap (λ (l : Layout). length (listed_offsets l.fields)) h.5) in
      listed ∙ stated_offsets dl law pres ps states conflicts before there none tag is_state_tag layout h

  -- each of them ends inside the coroutine
  pub coroutine_places : (layout : Layout) → IsCoroutined dl pres tag (one_scalar dl tag) ps states conflicts (Ok layout)
      → EndInside layout.size (listed_offsets layout.fields) (map size_of pres ++ size_of (one_scalar dl tag) ∷ []) × (layout.fields ≡ Arbitrary (listed_offsets layout.fields) (listed_order layout.fields))
  coroutine_places layout (first, h, lists, hs, below, is) =
      let good = good_first first h in
      let own : List Placed = picked ps (members_of promoted) in
      let front : List ℕ = map size_of pres ++ size_of (one_scalar dl tag) ∷ [] in
      let sizes : map size_of (first_list pres (one_scalar dl tag) ps promoted) ≡ front ++ map size_of own =
      map-append size_of pres (one_scalar dl tag ∷ own) ∙ sym (append_assoc (map size_of pres) (size_of (one_scalar dl tag) ∷ []) (map size_of own)) in
      let count : length front ≡ length pres + 1 = omega (arith, length-append (map size_of pres) (size_of (one_scalar dl tag) ∷ []), length-map pres size_of) in
      let ends = front_ends first.size (listed_offsets first.fields) front (map size_of own) (subst (AreApart first.size (listed_offsets first.fields)) sizes good.apart) in
      let less : first.size ≤ whole_size first lists = All-head (λ l. l.size ≤ whole_size first lists) first lists (whole_above first lists) in
      let wide = ends_wider first.size (whole_size first lists) (take (length pres + 1) (listed_offsets first.fields)) front less
      (subst (λ n. EndInside first.size (take n (listed_offsets first.fields)) front) count ends) in (
        subst (λ (l : Layout). EndInside l.size (listed_offsets l.fields) front) (sym is) wide,
        subst (λ (l : Layout). l.fields ≡ Arbitrary (listed_offsets l.fields) (listed_order l.fields)) (sym is) refl,
      )
