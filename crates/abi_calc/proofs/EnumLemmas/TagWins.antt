-- Where sums of sizes tell it, no layout with a niche is better than one with a tag; where no niche has a free number, there is none.
use Rattle.std.proofs.Common.{◌≡◌, ℕ, zero, suc, ◌+◌, ◌-◌, ◌%◌, ◌<◌, ◌≤◌, Bool, true, false, List, [], ◌∷◌, ap, arith, fold, inl, inr, map, max, min, refl, subst, sum_by, sym}
use Rattle.std.specs.Prelude.{◌==◌, ◌&&◌, ◌||◌, ◌⊎◌, All, Err, IfOk, None, Ok, Option, Result, Some, if◌then◌else◌, nat_le, nat_lt}
use Rattle.std.proofs.lemmas.Bool.{and_parts, le-ltb, leb-true}
use Rattle.std.proofs.lemmas.List.Elements.{All-cons, All-contains, All-head, All-nil, All-tail}
use Rattle.abi_base.specs.declared.data_layout.TargetDataLayout.{TargetDataLayout}
use Rattle.abi_base.specs.declared.integer.Integer.{Integer}
use Rattle.abi_base.specs.declared.primitive.Primitive.{Primitive}
use Rattle.abi_base.specs.declared.struct_kind.StructKind.TheVariants.{AlwaysSized}
use Rattle.abi_base.specs.DataLayout.{IsLawfulDataLayout, size_bound}
use Rattle.abi_base.specs.Primitive.{primitive_size}
use Rattle.abi_scalar.specs.declared.error.LayoutCalculatorError.{LayoutCalculatorError}
use Rattle.abi_scalar.specs.declared.error.LayoutCalculatorError.TheVariants.{OutOfMemory}
use Rattle.abi_scalar.specs.declared.layout_data.LayoutData.{LayoutData}
use Rattle.abi_scalar.specs.declared.niche.Niche.{Niche}
use Rattle.abi_scalar.specs.declared.repr.ReprOptions.{ReprOptions}
use Rattle.abi_scalar.specs.declared.scalar.Scalar.{Scalar}
use Rattle.abi_scalar.specs.declared.scalar.Scalar.TheVariants.{Initialized}
use Rattle.abi_scalar.specs.declared.wrapping_range.WrappingRange.{WrappingRange}
use Rattle.abi_scalar.specs.Lawful.{IsLawfulLayout}
use Rattle.abi_scalar.specs.Niche.{available_in, niche_at, niche_size}
use Rattle.abi_scalar.specs.Range.{AreWithin, free_count, numbers_of}
use Rattle.abi_scalar.specs.Reserve.{end_moved, moves_start, reserved, start_moved}
use Rattle.abi_scalar.specs.Shape.{listed_offsets}
use Rattle.abi_scalar.proofs.RangeLemmas.{cut_once, free_by_comparison}
use Rattle.abi_univariant.specs.declared.part.Part.{Part}
use Rattle.abi_univariant.specs.Apart.{AreApart}
use Rattle.abi_univariant.specs.Fields.{greatest, greatest_align, greatest_size}
use Rattle.abi_univariant.specs.Least.{align_by}
use Rattle.abi_univariant.specs.List.{HasLawfulAligns}
use Rattle.abi_univariant.specs.Part.{free_numbers, part_of, parts_of}
use Rattle.abi_univariant.specs.Placement.{cut, fields_repr}
use Rattle.abi_univariant.proofs.Sorted.Prefixes.{round_lower}
use Rattle.abi_univariant.proofs.Sorted.Tight.{greatest_above}
use Rattle.abi_calc.specs.Enums.Bounds.{greatest_free, greatest_of_all, least_left, least_whole, left_beside, most_free, tag_wins}
use Rattle.abi_calc.specs.Enums.Choice.{IsNicheAnswer, preferred_layout, takes_niche}
use Rattle.abi_calc.specs.Enums.Lists.{AreGoodLists, AreListLayouts, IsGoodList, align_with_all}
use Rattle.abi_calc.specs.Enums.Niche.{span_count, untagged_of}
use Rattle.abi_calc.specs.Enums.EnumStrategy.{variant_at}
use Rattle.abi_calc.specs.Enums.Several.{IsBestAnswer, IsBetterAnswer, better_of}
use Rattle.abi_calc.specs.Enums.Tagged.{IsTaggedAnswer, lists_align, lists_size}
use Rattle.abi_calc.proofs.EnumLemmas.Bounds.{beside_niche}
use Rattle.abi_calc.proofs.EnumLemmas.GoodLists.{good_lists}
use Rattle.abi_calc.proofs.EnumLemmas.Lists.{good_lawful}
use Rattle.abi_calc.proofs.EnumLemmas.NicheLawful.{niche_parts, niche_size_is, own_niche}
use Rattle.abi_calc.proofs.EnumLemmas.Room.{HasAvailable, field_enough}
use Rattle.abi_calc.proofs.EnumLemmas.SomeEnum.{some_niche}
use Rattle.abi_calc.proofs.EnumLemmas.Sums.{apart_sum}

-- ---- free numbers

-- the greatest is no less than what it begins with
most_from : {A : Type 0} (h : A → ℕ) (a : ℕ) (xs : List A) → a ≤ fold (λ most x. max most (h x)) a xs
most_from h a [] = omega arith
most_from h a (x ∷ xs) = let rest : max a (h x) ≤ fold (λ most x. max most (h x)) (max a (h x)) xs = most_from h (max a (h x)) xs in omega (arith, rest)

-- nor than any of them
most_above : {A : Type 0} (h : A → ℕ) (a : ℕ) (xs : List A) → All (λ x. h x ≤ fold (λ most x. max most (h x)) a xs) xs
most_above h a [] = All-nil (λ x. h x ≤ fold (λ most x. max most (h x)) a [])
most_above h a (x ∷ xs) =
    let first : max a (h x) ≤ fold (λ most x. max most (h x)) (max a (h x)) xs = most_from h (max a (h x)) xs in
    All-cons (λ y. h y ≤ fold (λ most x. max most (h x)) a (x ∷ xs)) x xs (omega (arith, first)) (most_above h (max a (h x)) xs)

module _ {F V : Type 0} (dl : TargetDataLayout) where
  -- no field of these has more free numbers
  numbers_below : (count : ℕ) (fields : List (LayoutData F V)) → HasAvailable dl count fields → count ≤ greatest_free dl fields
  numbers_below count fields h =
      let most : free_numbers dl h.0.largest_niche ≤ greatest_free dl fields
      = All-contains (λ f. free_numbers dl f.largest_niche ≤ greatest_free dl fields) fields h.0 (most_above (λ f. free_numbers dl f.largest_niche) 0 fields) h.1 in
      let same : free_numbers dl h.0.largest_niche ≡ available_in dl h.2 = ap (free_numbers dl) h.3 in
      omega (arith, most, same, h.5)

  -- nor has any variant
  variant_below : (a : ℕ) (variants : List (List (LayoutData F V))) (i : ℕ) → greatest_free dl (variant_at variants i) ≤ fold (λ most fields. max most (greatest_free dl fields)) a variants
  variant_below a [] i = omega arith
  variant_below a (fields ∷ variants) zero =
      let rest : max a (greatest_free dl fields) ≤ fold (λ most fields. max most (greatest_free dl fields)) (max a (greatest_free dl fields)) variants
      = most_from (greatest_free dl) (max a (greatest_free dl fields)) variants in
      omega (arith, rest)
  variant_below a (fields ∷ variants) (suc i) = variant_below (max a (greatest_free dl fields)) variants i

  all_below : (count : ℕ) (variants : List (List (LayoutData F V))) (i : ℕ) → HasAvailable dl count (variant_at variants i) → count ≤ greatest_of_all dl variants
  all_below count variants i h = omega (arith, numbers_below count (variant_at variants i) h, variant_below 0 variants i)

-- numbers that are handed out are free no more
start_free : (all start end count : ℕ) → start < all → end < all → count ≤ (start + all - (end + 1)) % all
    → ((start + all - count) % all + all - (end + 1)) % all ≤ (start + all - (end + 1)) % all
start_free all start end count s e room =
    let old = free_by_comparison all start end s e in
    let moved_offset = cut_once all (start + all - count) (omega (arith, s)) in
    let new = free_by_comparison all ((start + all - count) % all) end moved_offset.below e in
    grind (arith, old.is, old.below, moved_offset.is, new.is)

end_free : (all start end count : ℕ) → start < all → end < all → count ≤ (start + all - (end + 1)) % all
    → (start + all - ((end + count) % all + 1)) % all ≤ (start + all - (end + 1)) % all
end_free all start end count s e room =
    let old = free_by_comparison all start end s e in
    let moved_offset = cut_once all (end + count) (omega (arith, e, old.below, room)) in
    let new = free_by_comparison all start ((end + count) % all) s moved_offset.below in
    grind (arith, old.is, old.below, moved_offset.is, new.is)

-- a scalar's niche has no more free numbers than its range leaves
niche_free : (dl : TargetDataLayout) (offset : ℕ) (value : Primitive) (range : WrappingRange) → free_numbers dl (niche_at dl offset (Initialized value range)) ≤ free_count (primitive_size dl value) range
niche_free dl offset value range = by (free_count (primitive_size dl value) range == 0)
  where
    by : (b : Bool) → free_numbers dl (if b then None else Some (record { offset = offset; value = value; valid_range = range })) ≤ free_count (primitive_size dl value) range
    by true = omega arith
    by false = omega arith

-- so a tag in a niche leaves no more free numbers than the niche has
handed_free : (dl : TargetDataLayout) (offset : ℕ) (niche : Niche) (count m n : ℕ) (b : Bool) → AreWithin (niche_size dl niche) niche.valid_range → count ≤ available_in dl niche
    → free_numbers dl (niche_at dl offset (if◌then◌else◌ {A = ℕ × Scalar} b (m, Initialized niche.value (start_moved (niche_size dl niche) niche.valid_range count))
    (n, Initialized niche.value (end_moved (niche_size dl niche) niche.valid_range count))).1) ≤ available_in dl niche
handed_free dl offset niche count m n true within room =
    let left = niche_free dl offset niche.value (start_moved (niche_size dl niche) niche.valid_range count) in
    let less = start_free (numbers_of (niche_size dl niche)) niche.valid_range.start niche.valid_range.end count within.0 within.1 room in
    omega (arith, left, less)
handed_free dl offset niche count m n false within room =
    let left = niche_free dl offset niche.value (end_moved (niche_size dl niche) niche.valid_range count) in
    let less = end_free (numbers_of (niche_size dl niche)) niche.valid_range.start niche.valid_range.end count within.0 within.1 room in
    omega (arith, left, less)

-- ---- sizes

-- what fields of no more than so many bytes leave
left_most : {F V : Type 0} (whole most from : ℕ) (variants : List (List (LayoutData F V))) → whole - most ≤ from → All (λ fields. sum_by (λ f. f.size) fields ≤ most) variants
    → whole - most ≤ fold (λ least fields. min least (left_beside whole fields)) from variants
left_most whole most from [] h all = h
left_most whole most from (fields ∷ variants) h all =
    let P : List (LayoutData _ _) → Type 0 = λ fields. sum_by (λ f. f.size) fields ≤ most in
    let one : sum_by (λ f. f.size) fields ≤ most = All-head P fields variants all in
    left_most whole most (min from (left_beside whole fields)) variants (omega (arith, h, one)) (All-tail P fields variants all)

uncut : (pack : Option ℕ) (align : ℕ) → pack ≡ None → cut pack align ≡ align
uncut pack align e = ap (λ p. cut p align) e

module _ {F V H : Type 0} (layout_of : H → LayoutData F V) (at : ℕ → F) (index : ℕ → V) (dl : TargetDataLayout) (repr : ReprOptions) where
  sizes_of : (fields : List H) → map (λ f. (layout_of f).size) fields ≡ map (λ f. f.size) (map layout_of fields)
  sizes_of [] = refl
  sizes_of (f ∷ fs) = ap (λ sizes. (layout_of f).size ∷ sizes) (sizes_of fs)

  -- fields are together no larger than their list
  sum_within : (fields : List H) (list : LayoutData F V) → IsGoodList layout_of at (index 0) dl repr AlwaysSized fields list → sum_by (λ f. f.size) (map layout_of fields) ≤ list.size
  sum_within fields list good =
      apart_sum (λ f. f.size) list.size (listed_offsets list.fields) (map layout_of fields) (subst (AreApart list.size (listed_offsets list.fields)) (sizes_of fields) good.apart)

  sums_within : (most : ℕ) (variants : List (List H)) (lists : List (LayoutData F V)) → AreGoodLists layout_of at (index 0) dl repr AlwaysSized variants lists → greatest_size lists ≤ most
      → All (λ fields. sum_by (λ f. f.size) fields ≤ most) (map (map layout_of) variants)
  sums_within most [] [] good below = All-nil (λ fields. sum_by (λ f. f.size) fields ≤ most)
  sums_within most [] (l ∷ ls) good below = elim good [ ]
  sums_within most (v ∷ vs) [] good below = elim good [ ]
  sums_within most (v ∷ vs) (l ∷ ls) good below =
      let both : max l.size (greatest_size ls) ≤ most = below in
      let one : sum_by (λ f. f.size) (map layout_of v) ≤ l.size = sum_within v l good.0 in
      All-cons (λ fields. sum_by (λ f. f.size) fields ≤ most) (map layout_of v) (map (map layout_of) vs) (omega (arith, one, both)) (sums_within most vs ls good.1 (omega (arith, both)))

  -- no field is aligned to more than the list
  aligns_below : (top : ℕ) (fields : List (LayoutData F V)) → repr.pack ≡ None → All (λ (p : Part). cut repr.pack p.align ≤ top) (parts_of dl fields) → greatest (map (λ f. f.align.abi) fields) ≤ top
  aligns_below top [] unpacked all = omega arith
  aligns_below top (f ∷ fs) unpacked all =
      let P : Part → Type 0 = λ p. cut repr.pack p.align ≤ top in
      let one : cut repr.pack f.align.abi ≤ top = All-head P (part_of dl f) (parts_of dl fs) all in
      let rest : greatest (map (λ f. f.align.abi) fs) ≤ top = aligns_below top fs unpacked (All-tail P (part_of dl f) (parts_of dl fs) all) in
      omega (arith, one, rest, uncut repr.pack f.align.abi unpacked)

  list_aligns : (fields : List H) (list : LayoutData F V) → repr.pack ≡ None → IsGoodList layout_of at (index 0) dl repr AlwaysSized fields list → greatest (map (λ f. f.align.abi) (map layout_of fields)) ≤ list.align.abi
  list_aligns fields list unpacked good =
      let is : list.align.abi ≡ align_by dl repr AlwaysSized (map layout_of fields) = good.placed.2.alignment in
      let below : greatest (map (λ f. f.align.abi) (map layout_of fields)) ≤ align_by dl repr AlwaysSized (map layout_of fields)
      = aligns_below (align_by dl repr AlwaysSized (map layout_of fields)) (map layout_of fields) unpacked
      (greatest_above (λ p. cut repr.pack p.align) (max (fields_repr dl repr AlwaysSized).align 0) (parts_of dl (map layout_of fields))) in
      omega (arith, is, below)

  aligns_within : (own top : ℕ) (variants : List (List H)) (lists : List (LayoutData F V)) → repr.pack ≡ None → AreGoodLists layout_of at (index 0) dl repr AlwaysSized variants lists → own ≤ top
      → greatest (map (λ l. l.align.abi) lists) ≤ top → align_with_all own (map (map layout_of) variants) ≤ top
  aligns_within own top [] [] unpacked good from below = from
  aligns_within own top [] (l ∷ ls) unpacked good from below = elim good [ ]
  aligns_within own top (v ∷ vs) [] unpacked good from below = elim good [ ]
  aligns_within own top (v ∷ vs) (l ∷ ls) unpacked good from below =
      let both : max l.align.abi (greatest (map (λ l. l.align.abi) ls)) ≤ top = below in
      let one : greatest (map (λ f. f.align.abi) (map layout_of v)) ≤ l.align.abi = list_aligns v l unpacked good.0 in
      aligns_within (greatest_align own (map layout_of v)) top vs ls unpacked good.1 (omega (arith, from, one, both)) (omega (arith, both))

  -- the enum is no smaller than its fields tell
  whole_least : (variants : List (List H)) (lists : List (LayoutData F V)) → repr.pack ≡ None → AreGoodLists layout_of at (index 0) dl repr AlwaysSized variants lists
      → least_whole dl (map (map layout_of) variants) ≤ lists_size dl lists
  whole_least variants lists unpacked good =
      let most : ℕ = greatest_size lists in
      let left : size_bound dl - most ≤ least_left (size_bound dl) (map (map layout_of) variants)
      = left_most (size_bound dl) most (size_bound dl) (map (map layout_of) variants) (omega arith) (sums_within most variants lists good (omega arith)) in
      round_lower (size_bound dl - least_left (size_bound dl) (map (map layout_of) variants)) most (align_with_all 0 (map (map layout_of) variants)) (lists_align dl lists) (omega (arith, left))
      (aligns_within 0 (lists_align dl lists) variants lists unpacked good (omega arith) (omega arith))

  -- ---- the choice

  module _ (variants : List (List H)) where
    -- the variants' layouts
    abbrev vs : List (List (LayoutData F V))
    vs = map (map layout_of) variants

    -- What a layout with a niche has at least and at most.
    record IsBounded (l : LayoutData F V) : Type 0 where
      least : least_whole dl vs ≤ l.size
      most : free_numbers dl l.largest_niche ≤ most_free dl repr vs
      some : 1 ≤ most_free dl repr vs

    bounded : (l : LayoutData F V) → repr.pack ≡ None → IsNicheAnswer AreGoodLists layout_of at index dl repr variants (Some l) → IsBounded l
    bounded l unpacked niche =
        let h = beside_niche layout_of at index dl repr variants l niche in
        let lawful = good_lawful layout_of at (index 0) dl repr AlwaysSized variants h.lists h.good in
        let p = niche_parts (at 0) index dl repr vs h.lists l h.is in
        let free : most_free dl repr vs ≡ greatest_of_all dl vs = ap (λ b. if b then greatest_of_all dl vs else 0) h.free in
        let numbers : available_in dl p.niche ≤ greatest_of_all dl vs
        = all_below dl (available_in dl p.niche) vs (untagged_of h.lists)
        (field_enough layout_of at (index 0) dl repr AlwaysSized variants h.lists (untagged_of h.lists) p.list p.niche (available_in dl p.niche) h.good p.there p.known (omega arith)) in
        let left : free_numbers dl (niche_at dl p.niche.offset (reserved dl p.niche (span_count p.span)).1) ≤ available_in dl p.niche
        = handed_free dl p.niche.offset p.niche (span_count p.span) _ _ (moves_start (niche_size dl p.niche) p.niche.valid_range (span_count p.span)) (own_niche (at 0) index dl repr vs h.lists lawful l p).within p.enough in
        let is : free_numbers dl l.largest_niche ≡ free_numbers dl (niche_at dl p.niche.offset (reserved dl p.niche (span_count p.span)).1) = ap (λ m. free_numbers dl m.largest_niche) p.is in
        record {
          least = let size : l.size ≡ lists_size dl h.lists = niche_size_is (at 0) index dl repr vs h.lists l h.is in omega (arith, size, whole_least variants h.lists unpacked h.good);
          most = omega (arith, is, left, numbers, free);
          some = omega (arith, p.enough, numbers, free);
        }

    left_if : (m n a b : ℕ) → n ≤ m → b ≤ a → (nat_lt m n || ((m == n) && nat_lt a b)) ≡ false
    left_if m n a b larger more = rw (le-ltb m n larger, le-ltb a b more) (neither (m == n))
      where
        neither : (c : Bool) → (c && false) ≡ false
        neither true = refl
        neither false = refl

    -- a layout with a tag that wins is the better one, whatever else there is
    tag_better : repr.pack ≡ None → (tagged : LayoutData F V) → tag_wins dl (least_whole dl vs) (most_free dl repr vs) tagged ≡ true → (found : Option (LayoutData F V))
        → IsNicheAnswer AreGoodLists layout_of at index dl repr variants found → preferred_layout dl tagged found ≡ tagged
    tag_better unpacked tagged won None niche = refl
    tag_better unpacked tagged won (Some l) niche =
        let two = and_parts (nat_le tagged.size (least_whole dl vs)) (nat_le (most_free dl repr vs) (free_numbers dl tagged.largest_niche)) won in
        let h = bounded l unpacked niche in
        let size : tagged.size ≤ least_whole dl vs = leb-true tagged.size (least_whole dl vs) two.0 in
        let free : most_free dl repr vs ≤ free_numbers dl tagged.largest_niche = leb-true (most_free dl repr vs) (free_numbers dl tagged.largest_niche) two.1 in
        let leaves : takes_niche dl tagged l ≡ false
        = left_if l.size tagged.size (free_numbers dl tagged.largest_niche) (free_numbers dl l.largest_niche) (omega (arith, size, h.least)) (omega (arith, free, h.most)) in
        ap (λ b. if b then l else tagged) leaves

    module _ (law : IsLawfulDataLayout dl) (fields : All (All (λ f. IsLawfulLayout dl (layout_of f))) variants) (aligns : HasLawfulAligns repr) where
      -- the lists that a layout with a niche comes from are good
      pub good_niche : (found : Option (LayoutData F V)) → IsNicheAnswer AreListLayouts layout_of at index dl repr variants found → IsNicheAnswer AreGoodLists layout_of at index dl repr variants found
      good_niche found (inl fixed) = inl fixed
      good_niche found (inr (inl none)) = inr (inl none)
      good_niche found (inr (inr (free, lists, are, is))) = inr (inr (free, lists, good_lists layout_of at (index 0) dl repr AlwaysSized variants lists law fields aligns tt tt are, is))

      module _ (number : F → ℕ) (asked : Integer) (signed : Bool) (values : List ℕ) where
        -- the answer with a tag, and the better of it and of the layout with a niche
        abbrev IsByTag : Result (LayoutData F V) (LayoutCalculatorError H) → Type 0
        IsByTag r = IsTaggedAnswer layout_of at number (index 0) dl repr asked signed values variants r

        abbrev IsBest : Result (LayoutData F V) (LayoutCalculatorError H) → Type 0
        IsBest r = IsBestAnswer layout_of at number index dl repr asked signed values variants r

        -- a layout with a tag that wins is the answer
        pub tag_answer : repr.pack ≡ None → (tagged : LayoutData F V) → tag_wins dl (least_whole dl vs) (most_free dl repr vs) tagged ≡ true → IsByTag (Ok tagged) → IsBest (Ok tagged)
        tag_answer unpacked tagged won by =
            let niche = some_niche layout_of at index dl repr variants fields in
            (niche.0, niche.1, (Ok tagged, by, ap (λ l. Ok l) (sym (tag_better unpacked tagged won niche.0 (good_niche niche.0 niche.1)))))

        -- and one that is refused
        pub refused_answer : (error : LayoutCalculatorError H) → IsByTag (Err error) → IsBest (Err error)
        refused_answer error by = let niche = some_niche layout_of at index dl repr variants fields in (niche.0, niche.1, (Err error, by, refl))

        alone : (r : Result (LayoutData F V) (LayoutCalculatorError H)) → r ≡ better_of dl r None
        alone (Ok l) = refl
        alone (Err e) = refl

        -- beside no layout with a niche the one with a tag is the answer
        pub alone_answer : IsNicheAnswer AreListLayouts layout_of at index dl repr variants None → (r : Result (LayoutData F V) (LayoutCalculatorError H)) → IsByTag r → IsBest r
        alone_answer none r by = (None, none, (r, by, alone r))

        none_answer : repr.pack ≡ None → most_free dl repr vs ≡ 0 → (found : Option (LayoutData F V)) → IsNicheAnswer AreListLayouts layout_of at index dl repr variants found
            → IsNicheAnswer AreListLayouts layout_of at index dl repr variants None
        none_answer unpacked none None niche = niche
        none_answer unpacked none (Some l) niche = let h = bounded l unpacked (good_niche (Some l) niche) in absurd (omega (arith, h.some, none))

        -- and so it is where no field's niche has a free number
        pub only_answer : repr.pack ≡ None → most_free dl repr vs ≡ 0 → (r : Result (LayoutData F V) (LayoutCalculatorError H)) → IsByTag r → IsBest r
        only_answer unpacked none r by = let niche = some_niche layout_of at index dl repr variants fields in alone_answer (none_answer unpacked none niche.0 niche.1) r by

        -- the better of a layout with a tag and of one with a niche, if there is one
        pub beside_answer : (tagged : LayoutData F V) → IsByTag (Ok tagged) → (r : Result (LayoutData F V) (LayoutCalculatorError H))
            → (r ≡ Err OutOfMemory) ⊎ ((niche : Option (LayoutData F V)) × IsNicheAnswer AreListLayouts layout_of at index dl repr variants niche × (r ≡ Ok (preferred_layout dl tagged niche)))
            → (r ≡ Err OutOfMemory) ⊎ IsBest r
        beside_answer tagged by r (inl want) = inl want
        beside_answer tagged by r (inr (niche, exact, is)) = inr (niche, exact, (Ok tagged, by, is))

        -- the better of this layout with a niche and of the one with a tag
        pub one_answer : (niche : LayoutData F V) → IsNicheAnswer AreListLayouts layout_of at index dl repr variants (Some niche) → (r : Result (LayoutData F V) (LayoutCalculatorError H))
            → (r ≡ Err OutOfMemory) ⊎ IsBetterAnswer layout_of at number (index 0) dl repr asked signed values variants (Some niche) r → (r ≡ Err OutOfMemory) ⊎ IsBest r
        one_answer niche exact r (inl want) = inl want
        one_answer niche exact r (inr preferred_layout) = inr (Some niche, exact, preferred_layout)

        -- the answer, by the layout with a niche that the rules give
        pub by_niche : (r : Result (LayoutData F V) (LayoutCalculatorError H)) → (r ≡ Err OutOfMemory) ⊎ IsBest r
            → (niche : Option (LayoutData F V)) × IsNicheAnswer AreListLayouts layout_of at index dl repr variants niche
            × ((r ≡ Err OutOfMemory) ⊎ IsBetterAnswer layout_of at number (index 0) dl repr asked signed values variants niche r)
        by_niche r (inl want) = let niche = some_niche layout_of at index dl repr variants fields in (niche.0, niche.1, inl want)
        by_niche r (inr (niche, exact, preferred_layout)) = (niche, exact, inr preferred_layout)

-- what holds anyway holds of a layout
pub holds_anyway : {A E : Type 0} (P : Type 0) (r : Result A E) → P → IfOk r (λ l. P)
holds_anyway P (Ok l) h = h
holds_anyway P (Err e) h = tt
