-- Where sums of sizes tell it, there is a layout with a tag, and the one with a niche is the better one.
use Rattle.std.proofs.Common.{◌≡◌, ℕ, ◌+◌, ◌*◌, ◌^◌, ◌<◌, ◌≤◌, Bool, true, false, List, [], ◌∷◌, ap, arith, inl, inr, length, map, max, refl, subst, sum_by, sym}
use Rattle.std.specs.Prelude.{◌==◌, ◌&&◌, ◌||◌, ◌⊎◌, All, None, Some, Ok, is_some, if◌then◌else◌, nat_le, nat_lt, not}
use Rattle.std.specs.Int.{next_multiple_of}
use Rattle.std.proofs.Math.Nat.{dvd-add, mod-lt, pow-le-pow_right}
use Rattle.std.proofs.lemmas.Bool.{cases_lt, eq-eqb, leb-true, lt-ltb, ltb-true}
use Rattle.std.proofs.lemmas.List.{length-map}
use Rattle.std.proofs.lemmas.List.Elements.{All-contains, All-cons, All-nil}
use Rattle.std.proofs.lemmas.Nat.{pow_pos}
use Rattle.abi_base.specs.declared.data_layout.TargetDataLayout.{TargetDataLayout}
use Rattle.abi_base.specs.declared.integer.Integer.{Integer}
use Rattle.abi_base.specs.declared.primitive.Primitive.{Primitive}
use Rattle.abi_base.specs.declared.primitive.Primitive.TheVariants.{Int}
use Rattle.abi_base.specs.declared.struct_kind.StructKind.TheVariants.{AlwaysSized, Prefixed}
use Rattle.abi_base.specs.DataLayout.{IsLawfulDataLayout, size_bound}
use Rattle.abi_base.specs.Integer.{integer_align, integer_size}
use Rattle.abi_base.specs.Primitive.{primitive_size}
use Rattle.abi_scalar.specs.declared.error.LayoutCalculatorError.{LayoutCalculatorError}
use Rattle.abi_scalar.specs.declared.error.LayoutCalculatorError.TheVariants.{OutOfMemory, SizeOverflow}
use Rattle.abi_scalar.specs.declared.layout_data.LayoutData.{LayoutData}
use Rattle.abi_scalar.specs.declared.repr.ReprOptions.{ReprOptions}
use Rattle.abi_scalar.specs.declared.scalar.Scalar.TheVariants.{Initialized}
use Rattle.abi_scalar.specs.declared.wrapping_range.WrappingRange.{WrappingRange}
use Rattle.abi_scalar.specs.Lawful.{IsLawfulLayout}
use Rattle.abi_scalar.specs.Niche.{niche_at}
use Rattle.abi_scalar.specs.Range.{free_count, numbers_of}
use Rattle.abi_scalar.specs.Repr.{is_c}
use Rattle.abi_univariant.specs.Fields.{greatest, greatest_size}
use Rattle.abi_univariant.specs.Least.{IsEachOrderTooLarge, align_by, size_by}
use Rattle.abi_univariant.specs.List.{AreSized, HasLawfulAligns}
use Rattle.abi_univariant.specs.Part.{free_numbers, parts_of}
use Rattle.abi_univariant.specs.Placement.{fields_repr}
use Rattle.abi_univariant.proofs.Offsets.Rounding.{round_below, round_multiple, rounded_to}
use Rattle.abi_univariant.proofs.Sorted.Prefixes.{round_lower}
use Rattle.abi_calc.specs.Enums.Discriminants.{IsTagRange}
use Rattle.abi_calc.specs.Enums.Sizes.{IsTaggedSize}
use Rattle.abi_calc.specs.Enums.Bounds.{fits_behind, least_left, most_tag, outdoes, room_of_tag, wins}
use Rattle.abi_calc.specs.Enums.Choice.{IsNicheAnswer, takes_niche}
use Rattle.abi_calc.specs.Enums.Growth.{grown_tag, start_align}
use Rattle.abi_calc.specs.Enums.Lists.{AreGoodLists, AreListLayouts, IsFirstListError, IsGoodList, align_with_all, behind_tag, tag_align}
use Rattle.abi_calc.specs.Enums.Niche.{niche_layout}
use Rattle.abi_calc.specs.Enums.EnumStrategy.{is_free}
use Rattle.abi_calc.specs.Enums.Several.{IsBetterAnswer}
use Rattle.abi_calc.specs.Enums.Tagged.{lists_align, lists_size, tagged_layout}
use Rattle.abi_calc.proofs.EnumLemmas.DiscrRange.{good_behind}
use Rattle.abi_calc.proofs.EnumLemmas.Growth.{grown_size}
use Rattle.abi_calc.proofs.EnumLemmas.OnlyField.{tag_most}
use Rattle.abi_calc.proofs.EnumLemmas.Less.{fields_sized, parts_sized, tagged_less}
use Rattle.abi_calc.proofs.EnumLemmas.NicheLawful.{niche_parts, niche_size_is}
use Rattle.abi_calc.proofs.EnumLemmas.OneEnum.{all_full}
use Rattle.abi_calc.proofs.EnumLemmas.OneRange.{some_tag_range}
use Rattle.abi_calc.proofs.EnumLemmas.Lists.{good_lawful}
use Rattle.abi_calc.proofs.EnumLemmas.Places.{greatest_within, tagged_apart}
use Rattle.abi_calc.proofs.EnumLemmas.Sizes.{error_in_each, error_sized, tagged_size}
use Rattle.abi_calc.proofs.EnumLemmas.SomeEnum.{AreListed, some_lists}
use Rattle.abi_calc.proofs.EnumLemmas.Sums.{align_behind, behind_sums, left_for_tag, size_behind}
use Rattle.abi_calc.proofs.EnumLemmas.Tagged.{align_of_lists_small, size_of_lists_small}

-- ---- lists behind a tag

module _ {F V H : Type 0} (layout_of : H → LayoutData F V) (at : ℕ → F) (first : V) (dl : TargetDataLayout) (repr : ReprOptions) (size align top whole : ℕ) (small : align ≤ top) where
  -- the tag and the whole, each rounded up
  abbrev together : ℕ
  together = next_multiple_of size (2 ^ top) + next_multiple_of whole (2 ^ top)

  -- each list fits in the whole, and is aligned to no more
  abbrev AreWithin : List (LayoutData F V) → Type 0
  AreWithin lists = (greatest_size lists ≤ whole) × (greatest (map (λ l. l.align.abi) lists) ≤ top)

  aligned : (fields : List H) (list : LayoutData F V) → IsGoodList layout_of at first dl repr AlwaysSized fields list → list.align.abi ≤ top → align_by dl repr AlwaysSized (map layout_of fields) ≤ top
  aligned fields list good below = let is : list.align.abi ≡ align_by dl repr AlwaysSized (map layout_of fields) = good.placed.2.alignment in omega (arith, is, below)

  -- a list that fits in the whole has an order behind the tag in which it fits
  fits_in : (fields : List H) (list : LayoutData F V) (good : IsGoodList layout_of at first dl repr AlwaysSized fields list) → list.size ≤ whole → list.align.abi ≤ top
      → size_by dl repr (Prefixed size align) (map layout_of fields) good.placed.0 ≤ together
  fits_in fields list good fits below =
      let is : list.size ≡ size_by dl repr AlwaysSized (map layout_of fields) good.placed.0 = good.placed.2.extent in
      size_behind dl repr size align top small (map layout_of fields) (aligned fields list good below) good.placed.0 good.placed.2.allowed whole (omega (arith, is, fits))

  module _ (bound : together < size_bound dl) where
    not_large : (fields : List H) (list : LayoutData F V) → IsGoodList layout_of at first dl repr AlwaysSized fields list → list.size ≤ whole → list.align.abi ≤ top
        → IsEachOrderTooLarge dl repr (Prefixed size align) (map layout_of fields) → ⊥
    not_large fields list good fits below large =
        let over : size_bound dl ≤ size_by dl repr (Prefixed size align) (map layout_of fields) good.placed.0 = large good.placed.0 good.placed.2.allowed in
        let under : size_by dl repr (Prefixed size align) (map layout_of fields) good.placed.0 ≤ together = fits_in fields list good fits below in
        omega (arith, over, under, bound)

    -- so no variant is too large in each order
    none_large : (variants : List (List H)) (lists : List (LayoutData F V)) → AreGoodLists layout_of at first dl repr AlwaysSized variants lists → AreWithin lists
        → All (λ fields. IsEachOrderTooLarge dl repr (Prefixed size align) fields → ⊥) (map (map layout_of) variants)
    none_large [] [] good within = All-nil (λ fields. IsEachOrderTooLarge dl repr (Prefixed size align) fields → ⊥)
    none_large [] (l ∷ ls) good within = elim good [ ]
    none_large (v ∷ vs) [] good within = elim good [ ]
    none_large (v ∷ vs) (l ∷ ls) good within =
        let size_is : max l.size (greatest_size ls) ≤ whole = within.0 in
        let align_is : max l.align.abi (greatest (map (λ l. l.align.abi) ls)) ≤ top = within.1 in
        All-cons (λ fields. IsEachOrderTooLarge dl repr (Prefixed size align) fields → ⊥) (map layout_of v) (map (map layout_of) vs)
        (not_large v l good.0 (omega (arith, size_is)) (omega (arith, align_is))) (none_large vs ls good.1 (omega (arith, size_is), omega (arith, align_is)))

    -- fields that have an always sized list are sized
    all_sized : (variants : List (List H)) (lists : List (LayoutData F V)) → AreGoodLists layout_of at first dl repr AlwaysSized variants lists → All AreSized (map (map layout_of) variants)
    all_sized [] [] good = All-nil AreSized
    all_sized [] (l ∷ ls) good = elim good [ ]
    all_sized (v ∷ vs) [] good = elim good [ ]
    all_sized (v ∷ vs) (l ∷ ls) good =
        let named = good.0.exact.2.named in
        All-cons AreSized (map layout_of v) (map (map layout_of) vs)
        (fields_sized dl (map layout_of v) (parts_sized (fields_repr dl repr AlwaysSized) (size_bound dl) (parts_of dl (map layout_of v)) named.0 tt refl named.1 named.2)) (all_sized vs ls good.1)

    -- and none has an error
    no_error : (variants : List (List H)) (lists : List (LayoutData F V)) → All (All (λ f. IsLawfulLayout dl (layout_of f))) variants → AreGoodLists layout_of at first dl repr AlwaysSized variants lists → AreWithin lists
        → (error : LayoutCalculatorError H) → (error ≡ OutOfMemory → ⊥) → IsFirstListError layout_of at first dl repr (Prefixed size align) variants error → ⊥
    no_error variants lists law good within error other bad =
        by (error_sized layout_of at first dl repr (Prefixed size align) variants error (all_sized variants lists good) tt bad)
      where
        by : (error ≡ SizeOverflow) ⊎ (error ≡ OutOfMemory) → ⊥
        by (inl is) =
            let one = error_in_each layout_of at first dl repr (Prefixed size align) variants error law tt bad is in
            All-contains (λ fields. IsEachOrderTooLarge dl repr (Prefixed size align) fields → ⊥) (map (map layout_of) variants) one.0 (none_large variants lists good within) one.1 one.2
        by (inr want) = other want

  -- the lists behind the tag fit
  tags_within : (variants : List (List H)) (lists tags : List (LayoutData F V)) → AreGoodLists layout_of at first dl repr AlwaysSized variants lists → AreGoodLists layout_of at first dl repr (Prefixed size align) variants tags
      → AreWithin lists → (greatest_size tags ≤ together) × (greatest (map (λ l. l.align.abi) tags) ≤ top)
  tags_within [] [] [] good behind within = (omega arith, omega arith)
  tags_within [] [] (t ∷ ts) good behind within = elim behind [ ]
  tags_within [] (l ∷ ls) tags good behind within = elim good [ ]
  tags_within (v ∷ vs) [] tags good behind within = elim good [ ]
  tags_within (v ∷ vs) (l ∷ ls) [] good behind within = elim behind [ ]
  tags_within (v ∷ vs) (l ∷ ls) (t ∷ ts) good behind within =
      let size_is : max l.size (greatest_size ls) ≤ whole = within.0 in
      let align_is : max l.align.abi (greatest (map (λ l. l.align.abi) ls)) ≤ top = within.1 in
      let rest = tags_within vs ls ts good.1 behind.1 (omega (arith, size_is), omega (arith, align_is)) in
      let fits : size_by dl repr (Prefixed size align) (map layout_of v) good.0.placed.0 ≤ together = fits_in v l good.0 (omega (arith, size_is)) (omega (arith, align_is)) in
      let least : t.size ≤ size_by dl repr (Prefixed size align) (map layout_of v) good.0.placed.0 = behind.0.least.least good.0.placed.0 good.0.placed.2.allowed in
      let is : t.align.abi ≡ align_by dl repr (Prefixed size align) (map layout_of v) = behind.0.placed.2.alignment in
      let below : align_by dl repr (Prefixed size align) (map layout_of v) ≤ top = align_behind dl repr size align top small (map layout_of v) (aligned v l good.0 (omega (arith, align_is))) in
      let sizes : greatest_size ts ≤ together = rest.0 in
      let aligns : greatest (map (λ l. l.align.abi) ts) ≤ top = rest.1 in
      (omega (arith, fits, least, sizes), omega (arith, is, below, aligns))

  -- so does the enum
  pub whole_within : (variants : List (List H)) (lists tags : List (LayoutData F V)) → AreGoodLists layout_of at first dl repr AlwaysSized variants lists
      → AreGoodLists layout_of at first dl repr (Prefixed size align) variants tags → greatest_size lists ≤ whole → lists_align dl lists ≤ top → lists_size dl tags ≤ together
  whole_within variants lists tags good behind fits below =
      let own : max dl.aggregate_align (greatest (map (λ l. l.align.abi) lists)) ≤ top = below in
      let both = tags_within variants lists tags good behind (fits, omega (arith, own)) in
      let aligns : greatest (map (λ l. l.align.abi) tags) ≤ top = both.1 in
      let up : lists_size dl tags ≤ next_multiple_of together (2 ^ top) = round_lower (greatest_size tags) together (lists_align dl tags) top both.0 (omega (arith, own, aligns)) in
      let stays : next_multiple_of together (2 ^ top) ≡ together = round_multiple together top (dvd-add (2 ^ top) (rounded_to size top).multiple (rounded_to whole top).multiple) in
      omega (arith, up, stays)

  -- so there are lists behind the tag
  pub lists_behind : (variants : List (List H)) (lists : List (LayoutData F V)) → All (All (λ f. IsLawfulLayout dl (layout_of f))) variants → AreGoodLists layout_of at first dl repr AlwaysSized variants lists
      → greatest_size lists ≤ whole → lists_align dl lists ≤ top → together < size_bound dl
      → (tags : List (LayoutData F V)) × AreListLayouts layout_of at first dl repr (Prefixed size align) variants tags
  lists_behind variants lists law good fits below bound =
      by (some_lists layout_of at first dl repr (Prefixed size align) variants law (all_full (Prefixed size align) variants tt))
    where
      within : AreWithin lists
      within = let own : max dl.aggregate_align (greatest (map (λ l. l.align.abi) lists)) ≤ top = below in (fits, omega (arith, own))

      by : AreListed layout_of at first dl repr (Prefixed size align) variants
          → (tags : List (LayoutData F V)) × AreListLayouts layout_of at first dl repr (Prefixed size align) variants tags
      by (inl is) = is
      by (inr (error, is, other)) = absurd (no_error bound variants lists law good within error other is)

-- ---- the choice

-- a tag leaves fewer numbers free than it has
free_of_tag : (dl : TargetDataLayout) (value : Primitive) (range : WrappingRange) → free_numbers dl (niche_at dl 0 (Initialized value range)) < numbers_of (primitive_size dl value)
free_of_tag dl value range = by (free_count (primitive_size dl value) range == 0)
  where
    by : (b : Bool) → free_numbers dl (if b then None else Some (record { offset = 0; value = value; valid_range = range })) < numbers_of (primitive_size dl value)
    by true = pow_pos (8 * primitive_size dl value)
    by false = mod-lt _ (pow_pos (8 * primitive_size dl value))

taken_if : (m n a b : ℕ) → (m < n) ⊎ ((m ≡ n) × (a < b)) → (nat_lt m n || ((m == n) && nat_lt a b)) ≡ true
taken_if m n a b (inl less) = rw (lt-ltb m n less) refl
taken_if m n a b (inr both) = rw (eq-eqb m n both.0, lt-ltb a b both.1) (either (nat_lt m n))
  where
    either : (c : Bool) → (c || true) ≡ true
    either true = refl
    either false = refl

one_holds : (b c : Bool) → (b || c) ≡ true → (b ≡ true) ⊎ (c ≡ true)
one_holds true c h = inl refl
one_holds false c h = inr h

both_hold : (b c : Bool) → (b && c) ≡ true → (b ≡ true) × (c ≡ true)
both_hold true c h = (refl, h)
both_hold false c h = cc

-- a layout that has as few bytes left is the better one, beside one of a tag that is no smaller and has room there
better_by : {F V : Type 0} (dl : TargetDataLayout) (asked : Integer) (tagged niche : LayoutData F V) (left width : ℕ) → outdoes asked left (free_numbers dl niche.largest_niche) ≡ true → niche.size ≤ tagged.size → integer_size asked ≤ width
    → (tagged.size ≤ niche.size → width ≤ left) → free_numbers dl tagged.largest_niche < numbers_of width → takes_niche dl tagged niche ≡ true
better_by dl asked tagged niche left width won less wide room free =
    taken_if niche.size tagged.size (free_numbers dl tagged.largest_niche) (free_numbers dl niche.largest_niche) (by (cases_lt niche.size tagged.size))
  where
    fewer : tagged.size ≤ niche.size → (nat_lt left (integer_size asked) ≡ true) ⊎ (nat_le (numbers_of left) (free_numbers dl niche.largest_niche) ≡ true)
        → free_numbers dl tagged.largest_niche < free_numbers dl niche.largest_niche
    fewer same (inl none) = let small : left < integer_size asked = ltb-true left (integer_size asked) none in absurd (omega (arith, small, wide, room same))
    fewer same (inr most) =
        let some : numbers_of left ≤ free_numbers dl niche.largest_niche = leb-true (numbers_of left) (free_numbers dl niche.largest_niche) most in
        let fits : width ≤ left = room same in
        let more : numbers_of width ≤ numbers_of left = pow-le-pow_right (omega arith) (omega (arith, fits)) in
        omega (arith, some, more, free)

    by : (niche.size < tagged.size) ⊎ (tagged.size ≤ niche.size) → (niche.size < tagged.size) ⊎ ((niche.size ≡ tagged.size) × (free_numbers dl tagged.largest_niche < free_numbers dl niche.largest_niche))
    by (inl smaller) = inl smaller
    by (inr same) = inr (omega (arith, less, same), fewer same (one_holds (nat_lt left (integer_size asked)) (nat_le (numbers_of left) (free_numbers dl niche.largest_niche)) won))

-- a layout is free only where C isn't asked for
not_c : (b c : Bool) → not (b || c) ≡ true → b ≡ false
not_c true c h = cc
not_c false c h = refl

module _ {F V H : Type 0} (layout_of : H → LayoutData F V) (at : ℕ → F) (index : ℕ → V) (dl : TargetDataLayout) (repr : ReprOptions) (variants : List (List H)) where
  -- the variants' layouts
  abbrev vs : List (List (LayoutData F V))
  vs = map (map layout_of) variants

  -- A layout with a niche: the layout is free, and the lists that it comes from are good.
  pub record IsBesideNiche (l : LayoutData F V) : Type 0 where
    pub free : is_free repr ≡ true
    pub lists : List (LayoutData F V)
    pub good : AreGoodLists layout_of at (index 0) dl repr AlwaysSized variants lists
    pub is : niche_layout (at 0) index dl repr (map (map layout_of) variants) lists ≡ Some l

  pub beside_niche : (l : LayoutData F V) → IsNicheAnswer AreGoodLists layout_of at index dl repr variants (Some l) → IsBesideNiche l
  beside_niche l (inl fixed) = absurd (cc fixed.1)
  beside_niche l (inr (inl none)) = absurd (cc none.3)
  beside_niche l (inr (inr h)) = record { free = h.0; lists = h.1; good = h.2; is = sym h.3 }

  align_of_niche : (l : LayoutData F V) (h : IsBesideNiche l) → l.align.abi ≡ lists_align dl h.lists
  align_of_niche l h = ap (λ m. m.align.abi) (niche_parts (at 0) index dl repr vs h.lists l h.is).is

  -- it is small
  pub niche_small : (l : LayoutData F V) → IsLawfulDataLayout dl → IsNicheAnswer AreGoodLists layout_of at index dl repr variants (Some l) → (l.size < 2 ^ 63) × (l.align.abi ≤ 29)
  niche_small l law niche =
      let h = beside_niche l niche in
      let lawful = good_lawful layout_of at (index 0) dl repr AlwaysSized variants h.lists h.good in
      let size : l.size ≡ lists_size dl h.lists = niche_size_is (at 0) index dl repr vs h.lists l h.is in
      let align : l.align.abi ≡ lists_align dl h.lists = align_of_niche l h in
      let most : lists_align dl h.lists ≤ 29 = align_of_lists_small dl h.lists law lawful in
      let sizes : greatest_size h.lists < 2 ^ 62 = size_of_lists_small dl h.lists law lawful in
      let up : lists_size dl h.lists < greatest_size h.lists + 2 ^ 29 = round_below (greatest_size h.lists) (lists_align dl h.lists) 29 most in
      (omega (arith, size, sizes, up), omega (arith, align, most))

  module _ (number : F → ℕ) (law : IsLawfulDataLayout dl) (asked : Integer) (signed : Bool) (values : List ℕ) (aligns : HasLawfulAligns repr) (fields : All (All (λ f. IsLawfulLayout dl (layout_of f))) variants)
      (some : 0 < length variants) (unpacked : repr.pack ≡ None) (most : ℕ) (laws : (i : ℕ) → i ≤ most → number (at i) ≡ i) (within : All (λ fields. length fields ≤ most + 1) variants)
      (l : LayoutData F V) (niche : IsNicheAnswer AreGoodLists layout_of at index dl repr variants (Some l)) where
    h : IsBesideNiche l
    h = beside_niche l niche

    abbrev top : ℕ
    top = max l.align.abi (integer_align dl asked)

    tag_small : tag_align dl repr asked vs ≤ top
    tag_small = by (is_c repr) (not_c (is_c repr) (is_some repr.int) h.free)
      where
        by : (b : Bool) → b ≡ false → (if b then align_with_all (integer_align dl asked) vs else integer_align dl asked) ≤ top
        by true is = cc
        by false is = omega arith

    size_is : l.size ≡ lists_size dl h.lists
    size_is = niche_size_is (at 0) index dl repr vs h.lists l h.is

    align_is : l.align.abi ≡ lists_align dl h.lists
    align_is = align_of_niche l h

    sizes_below : greatest_size h.lists ≤ l.size
    sizes_below = omega (arith, size_is, greatest_within dl h.lists)

    aligns_below : lists_align dl h.lists ≤ top
    aligns_below = omega (arith, align_is)

    -- the layout with a tag by its lists
    module _ (bound : next_multiple_of (integer_size asked) (2 ^ top) + next_multiple_of l.size (2 ^ top) < size_bound dl) where
      listed : (tags : List (LayoutData F V)) × AreListLayouts layout_of at (index 0) dl repr (behind_tag dl repr asked vs) variants tags
      listed = lists_behind layout_of at (index 0) dl repr (integer_size asked) (tag_align dl repr asked vs) top l.size tag_small variants h.lists fields h.good sizes_below aligns_below bound

      good : AreGoodLists layout_of at (index 0) dl repr (behind_tag dl repr asked vs) variants listed.0
      good = good_behind layout_of at number (index 0) dl law repr asked signed values variants aligns fields some unpacked listed.0 listed.1

      below : lists_size dl listed.0 < size_bound dl
      below =
          let fits = whole_within layout_of at (index 0) dl repr (integer_size asked) (tag_align dl repr asked vs) top l.size tag_small variants h.lists listed.0 h.good good sizes_below aligns_below in
          omega (arith, fits, bound)

      abbrev grown : Integer
      grown = grown_tag dl repr asked (start_align number vs listed.0)

      ranged : (range : WrappingRange) × IsTagRange (integer_size grown) values range
      ranged = some_tag_range (integer_size grown) values

      abbrev tagged : LayoutData F V
      tagged = tagged_layout number (at 0) dl repr asked signed ranged.0 vs listed.0

      -- it is no smaller
      no_smaller : l.size ≤ lists_size dl listed.0
      no_smaller =
          let own : IsTaggedSize dl repr AlwaysSized vs (lists_size dl h.lists) = tagged_size layout_of at (index 0) dl repr AlwaysSized variants h.lists some unpacked h.good in
          let other : IsTaggedSize dl repr (behind_tag dl repr asked vs) vs (lists_size dl listed.0) = tagged_size layout_of at (index 0) dl repr (behind_tag dl repr asked vs) variants listed.0 some unpacked good in
          let less : lists_size dl h.lists ≤ lists_size dl listed.0 = tagged_less dl repr (integer_size asked) (tag_align dl repr asked vs) vs (lists_size dl h.lists) (lists_size dl listed.0) own other in
          omega (arith, size_is, less)

      -- each variant's fields have room beside its tag
      room : All (λ fields. integer_size grown + sum_by (λ f. f.size) fields ≤ lists_size dl listed.0) vs
      room =
          behind_sums (lists_size dl listed.0) (integer_size grown) vs _
          (tagged_apart layout_of at number (index 0) dl repr asked vs most laws law unpacked signed ranged.0 variants listed.0 good some within)

      left_for : lists_size dl listed.0 ≤ l.size → integer_size grown ≤ least_left l.size vs
      left_for same =
          let is : lists_size dl listed.0 ≡ l.size = omega (arith, same, no_smaller) in
          left_for_tag l.size (integer_size grown) vs (omega (arith, some, length-map variants (map layout_of))) (subst (λ n. All (λ fields. integer_size grown + sum_by (λ f. f.size) fields ≤ n) vs) is room)

      -- and no more bytes than those that a tag may have
      tag_in_room : lists_size dl listed.0 ≤ l.size → integer_size grown ≤ room_of_tag l.size asked vs
      tag_in_room same =
          let most : integer_size grown ≤ most_tag asked vs =
          tag_most layout_of at number (index 0) dl repr (behind_tag dl repr asked vs) (laws 0 (omega arith)) asked variants listed.0 good in
          omega (arith, left_for same, most)

      takes : outdoes asked (room_of_tag l.size asked vs) (free_numbers dl l.largest_niche) ≡ true → takes_niche dl tagged l ≡ true
      takes won =
          better_by dl asked tagged l (room_of_tag l.size asked vs) (integer_size grown) won no_smaller (grown_size dl repr asked (start_align number vs listed.0)).no_less tag_in_room (free_of_tag dl (Int grown signed) ranged.0)

      answer : outdoes asked (room_of_tag l.size asked vs) (free_numbers dl l.largest_niche) ≡ true → IsBetterAnswer layout_of at number (index 0) dl repr asked signed values variants (Some l) (Ok l)
      answer won =
          (Ok tagged, (listed.0, listed.1, record { small = below; ranged = (ranged.0, ranged.1, refl) }), rw (takes won) refl)

    -- the layout with a niche is the answer where it wins
    pub wins_answer : wins dl asked l (map (map layout_of) variants) ≡ true → IsBetterAnswer layout_of at number (index 0) dl repr asked signed values variants (Some l) (Ok l)
    wins_answer won =
        let two = both_hold (fits_behind dl asked l) (outdoes asked (room_of_tag l.size asked vs) (free_numbers dl l.largest_niche)) won in
        answer (ltb-true _ (size_bound dl) two.0) two.1
