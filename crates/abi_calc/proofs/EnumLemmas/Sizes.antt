-- How large an enum with a tag is, and when it is too large, from its variants' lists.
use Rattle.std.proofs.Common.{◌≡◌, ℕ, suc, ◌^◌, ◌<◌, ◌≤◌, List, [], ◌∷◌, None, ◌∙◌, ap, ap₂, arith, inl, inr, length, map, max, refl, sym}
use Rattle.std.specs.Prelude.{◌⊎◌, All, Contains}
use Rattle.std.specs.Int.{next_multiple_of}
use Rattle.std.proofs.lemmas.List.Elements.{All-cons, All-contains, All-head, All-nil, All-tail}
use Rattle.abi_base.specs.declared.data_layout.TargetDataLayout.{TargetDataLayout}
use Rattle.abi_base.specs.declared.struct_kind.StructKind.{StructKind}
use Rattle.abi_base.specs.declared.struct_kind.StructKind.TheVariants.{AlwaysSized, MaybeUnsized, Prefixed}
use Rattle.abi_base.specs.DataLayout.{size_bound}
use Rattle.abi_scalar.specs.declared.error.LayoutCalculatorError.{LayoutCalculatorError}
use Rattle.abi_scalar.specs.declared.error.LayoutCalculatorError.TheVariants.{OutOfMemory, SizeOverflow}
use Rattle.abi_scalar.specs.declared.layout_data.LayoutData.{LayoutData}
use Rattle.abi_scalar.specs.declared.repr.ReprOptions.{ReprOptions}
use Rattle.abi_scalar.specs.Lawful.{IsLawfulLayout}
use Rattle.abi_univariant.specs.declared.part.Part.{Part}
use Rattle.abi_univariant.specs.Fields.{greatest, greatest_size}
use Rattle.abi_univariant.specs.Least.{IsEachOrderTooLarge, IsLeastSize, align_by, size_by}
use Rattle.abi_univariant.specs.List.{AreSized}
use Rattle.abi_univariant.specs.Part.{parts_of}
use Rattle.abi_univariant.specs.Placement.{IsNonEmptyIfUnsized, IsSized, cut, fields_repr, own_align, prefix_align}
use Rattle.abi_univariant.proofs.Promised.LeastLemmas.{large_in_each, sized_error}
use Rattle.abi_univariant.proofs.Sorted.Tight.{greatest_from}
use Rattle.abi_calc.specs.Enums.Lists.{AreGoodLists, IsFirstListError, IsGoodList}
use Rattle.abi_calc.specs.Enums.Sizes.{AreLeastSizes, IsTaggedSize, IsTaggedTooLarge}
use Rattle.abi_calc.specs.Enums.Tagged.{lists_align, lists_size}

-- a sized list needs no last field
pub tail_of_sized : (kind : StructKind) (count : ℕ) → IsSized kind → IsNonEmptyIfUnsized kind count
tail_of_sized AlwaysSized count sized = sized
tail_of_sized MaybeUnsized count sized = elim sized [ ]
tail_of_sized (Prefixed size align) count sized = sized

-- a list that isn't packed begins with the alignment of aggregates
own_least : (dl : TargetDataLayout) (repr : ReprOptions) → repr.pack ≡ None → own_align dl repr ≡ dl.aggregate_align
own_least dl repr e = rw e refl

-- what stands later in a list stands in it
pub later_contains : {A : Type 0} (x : A) (xs : List A) (y : A) → Contains xs y → Contains (x ∷ xs) y
later_contains x xs y c = let lt : c.0 < length xs = c.1 in (suc c.0, omega (arith, lt), c.2)

module _ {F V : Type 0} (dl : TargetDataLayout) (repr : ReprOptions) (kind : StructKind) where
  -- a list has one least size
  pub least_unique : (fields : List (LayoutData F V)) (a b : ℕ) → IsLeastSize dl repr kind fields a → IsLeastSize dl repr kind fields b → a ≡ b
  least_unique fields a b s t =
      let up : a ≤ size_by dl repr kind fields t.some.0 = s.least t.some.0 t.some.1 in
      let down : b ≤ size_by dl repr kind fields s.some.0 = t.least s.some.0 s.some.1 in
      let one : a ≡ size_by dl repr kind fields s.some.0 = s.some.2 in
      let two : b ≡ size_by dl repr kind fields t.some.0 = t.some.2 in
      omega (arith, up, down, one, two)

  -- and so have all variants' lists
  pub sizes_unique : (vs : List (List (LayoutData F V))) (ms ns : List ℕ) → AreLeastSizes dl repr kind vs ms → AreLeastSizes dl repr kind vs ns → ms ≡ ns
  sizes_unique [] [] [] s t = refl
  sizes_unique [] [] (n ∷ ns) s t = elim t [ ]
  sizes_unique [] (m ∷ ms) ns s t = elim s [ ]
  sizes_unique (v ∷ vs) [] ns s t = elim s [ ]
  sizes_unique (v ∷ vs) (m ∷ ms) [] s t = elim t [ ]
  sizes_unique (v ∷ vs) (m ∷ ms) (n ∷ ns) s t = ap₂ (λ x xs. x ∷ xs) (least_unique v m n s.0 t.0) (sizes_unique vs ms ns s.1 t.1)

  -- a tagged size is one number
  pub tagged_size_unique : (vs : List (List (LayoutData F V))) (a b : ℕ) → IsTaggedSize dl repr kind vs a → IsTaggedSize dl repr kind vs b → a ≡ b
  tagged_size_unique vs a b s t =
      s.2 ∙ ap (λ sizes. next_multiple_of (greatest sizes) (2 ^ greatest (map (align_by dl repr kind) vs))) (sizes_unique vs s.0 t.0 s.1 t.1) ∙ sym t.2

  -- so a list that isn't packed is aligned to no less
  pub align_least : (fields : List (LayoutData F V)) → repr.pack ≡ None → dl.aggregate_align ≤ align_by dl repr kind fields
  align_least fields e =
      let own : own_align dl repr ≡ dl.aggregate_align = own_least dl repr e in
      let from : max (fields_repr dl repr kind).align (prefix_align repr.pack kind) ≤ align_by dl repr kind fields
      = greatest_from (λ (p : Part). cut repr.pack p.align) (max (fields_repr dl repr kind).align (prefix_align repr.pack kind)) (parts_of dl fields) in
      omega (arith, own, from)

  -- and neither are some variants' lists together
  pub aligns_least : (vs : List (List (LayoutData F V))) → 0 < length vs → repr.pack ≡ None → dl.aggregate_align ≤ greatest (map (align_by dl repr kind) vs)
  aligns_least [] some e = absurd (omega (arith, some))
  aligns_least (v ∷ vs) some e = let one : dl.aggregate_align ≤ align_by dl repr kind v = align_least v e in omega (arith, one)

module _ {F V H : Type 0} (layout_of : H → LayoutData F V) (at : ℕ → F) (first : V) (dl : TargetDataLayout) (repr : ReprOptions) (kind : StructKind) where
  -- the lists' sizes are the least
  pub good_sizes : (variants : List (List H)) (lists : List (LayoutData F V)) → AreGoodLists layout_of at first dl repr kind variants lists
      → AreLeastSizes dl repr kind (map (map layout_of) variants) (map (λ l. l.size) lists)
  good_sizes [] [] good = tt
  good_sizes [] (l ∷ ls) good = elim good [ ]
  good_sizes (v ∷ vs) [] good = elim good [ ]
  good_sizes (v ∷ vs) (l ∷ ls) good = (good.0.least, good_sizes vs ls good.1)

  -- and their alignments are those that the fields ask for
  pub good_aligns : (variants : List (List H)) (lists : List (LayoutData F V)) → AreGoodLists layout_of at first dl repr kind variants lists
      → map (λ l. l.align.abi) lists ≡ map (align_by dl repr kind) (map (map layout_of) variants)
  good_aligns [] [] good = refl
  good_aligns [] (l ∷ ls) good = elim good [ ]
  good_aligns (v ∷ vs) [] good = elim good [ ]
  good_aligns (v ∷ vs) (l ∷ ls) good = ap₂ (λ x xs. x ∷ xs) good.0.placed.2.alignment (good_aligns vs ls good.1)

  variants_some : (variants : List (List H)) → 0 < length variants → 0 < length (map (map layout_of) variants)
  variants_some [] some = some
  variants_some (v ∷ vs) some = omega arith

  -- the greatest alignment of the lists is that of the variants' fields
  pub good_align : (variants : List (List H)) (lists : List (LayoutData F V)) → 0 < length variants → repr.pack ≡ None → AreGoodLists layout_of at first dl repr kind variants lists
      → lists_align dl lists ≡ greatest (map (align_by dl repr kind) (map (map layout_of) variants))
  good_align variants lists some free good =
      let same : greatest (map (λ l. l.align.abi) lists) ≡ greatest (map (align_by dl repr kind) (map (map layout_of) variants)) = ap greatest (good_aligns variants lists good) in
      let least : dl.aggregate_align ≤ greatest (map (align_by dl repr kind) (map (map layout_of) variants))
      = aligns_least dl repr kind (map (map layout_of) variants) (variants_some variants some) free in
      omega (arith, same, least)

  -- the lists have the enum's size
  pub tagged_size : (variants : List (List H)) (lists : List (LayoutData F V)) → 0 < length variants → repr.pack ≡ None → AreGoodLists layout_of at first dl repr kind variants lists
      → IsTaggedSize dl repr kind (map (map layout_of) variants) (lists_size dl lists)
  tagged_size variants lists some free good = (
    map (λ l. l.size) lists,
    good_sizes variants lists good,
    ap (λ align. next_multiple_of (greatest_size lists) (2 ^ align)) (good_align variants lists some free good),
  )

  -- ---- refusals

  -- the first variant that has no layout is too large in each order, where the error says so
  pub error_in_each : (variants : List (List H)) (error : LayoutCalculatorError H) → All (All (λ f. IsLawfulLayout dl (layout_of f))) variants → IsSized kind
      → IsFirstListError layout_of at first dl repr kind variants error → error ≡ SizeOverflow
      → (fields : List (LayoutData F V)) × Contains (map (map layout_of) variants) fields × IsEachOrderTooLarge dl repr kind fields
  error_in_each [] error law sized bad is = elim bad [ ]
  error_in_each (v ∷ vs) error law sized (inl here) is =
      (map layout_of v, (0, omega arith, refl), large_in_each layout_of at first dl repr kind v error (All-head (All (λ f. IsLawfulLayout dl (layout_of f))) v vs law) (tail_of_sized kind (length v) sized) here is)
  error_in_each (v ∷ vs) error law sized (inr later) is =
      let rest = error_in_each vs error (All-tail (All (λ f. IsLawfulLayout dl (layout_of f))) v vs law) sized later.2 is in
      (rest.0, later_contains (map layout_of v) (map (map layout_of) vs) rest.0 rest.1, rest.2)

  -- so the enum is too large
  pub error_large : (variants : List (List H)) (error : LayoutCalculatorError H) → All (All (λ f. IsLawfulLayout dl (layout_of f))) variants → IsSized kind
      → IsFirstListError layout_of at first dl repr kind variants error → error ≡ SizeOverflow → IsTaggedTooLarge dl repr kind (map (map layout_of) variants)
  error_large variants error law sized bad is = inl (error_in_each variants error law sized bad is)

  -- variants with sized fields are refused for their size, and by no other name
  pub error_sized : (variants : List (List H)) (error : LayoutCalculatorError H) → All AreSized (map (map layout_of) variants) → IsSized kind
      → IsFirstListError layout_of at first dl repr kind variants error → (error ≡ SizeOverflow) ⊎ (error ≡ OutOfMemory)
  error_sized [] error fields sized bad = elim bad [ ]
  error_sized (v ∷ vs) error fields sized (inl here) =
      sized_error layout_of at first dl repr kind v error (All-head AreSized (map layout_of v) (map (map layout_of) vs) fields) (tail_of_sized kind (length v) sized) here
  error_sized (v ∷ vs) error fields sized (inr later) = error_sized vs error (All-tail AreSized (map layout_of v) (map (map layout_of) vs) fields) sized later.2

  -- a list that has a layout isn't too large in each order
  pub good_fits : (fields : List H) (list : LayoutData F V) → IsGoodList layout_of at first dl repr kind fields list → IsEachOrderTooLarge dl repr kind (map layout_of fields) → ⊥
  good_fits fields list good large =
      let least = good.least in
      let over : size_bound dl ≤ size_by dl repr kind (map layout_of fields) least.some.0 = large least.some.0 least.some.1 in
      let size : list.size ≡ size_by dl repr kind (map layout_of fields) least.some.0 = least.some.2 in
      let below : list.size < size_bound dl = good.lawful.bound in
      omega (arith, over, size, below)

  pub all_fit : (variants : List (List H)) (lists : List (LayoutData F V)) → AreGoodLists layout_of at first dl repr kind variants lists
      → All (λ fields. IsEachOrderTooLarge dl repr kind fields → ⊥) (map (map layout_of) variants)
  all_fit [] [] good = All-nil (λ fields. IsEachOrderTooLarge dl repr kind fields → ⊥)
  all_fit [] (l ∷ ls) good = elim good [ ]
  all_fit (v ∷ vs) [] good = elim good [ ]
  all_fit (v ∷ vs) (l ∷ ls) good = All-cons (λ fields. IsEachOrderTooLarge dl repr kind fields → ⊥) (map layout_of v) (map (map layout_of) vs) (good_fits v l good.0) (all_fit vs ls good.1)

  -- an enum that has a layout isn't too large
  pub not_too_large : (variants : List (List H)) (lists : List (LayoutData F V)) → 0 < length variants → repr.pack ≡ None → AreGoodLists layout_of at first dl repr kind variants lists
      → lists_size dl lists < size_bound dl → IsTaggedTooLarge dl repr kind (map (map layout_of) variants) → ⊥
  not_too_large variants lists some free good below (inl one) =
      All-contains (λ fields. IsEachOrderTooLarge dl repr kind fields → ⊥) (map (map layout_of) variants) one.0 (all_fit variants lists good) one.1 one.2
  not_too_large variants lists some free good below (inr whole) =
      let same : whole.0 ≡ lists_size dl lists = tagged_size_unique dl repr kind (map (map layout_of) variants) whole.0 (lists_size dl lists) whole.1 (tagged_size variants lists some free good) in
      let over : size_bound dl ≤ whole.0 = whole.2 in
      omega (arith, same, over, below)

  -- and one whose variants have layouts is too large where the lists' size reaches the bound
  pub too_large_whole : (variants : List (List H)) (lists : List (LayoutData F V)) → 0 < length variants → repr.pack ≡ None → AreGoodLists layout_of at first dl repr kind variants lists
      → size_bound dl ≤ lists_size dl lists → IsTaggedTooLarge dl repr kind (map (map layout_of) variants)
  too_large_whole variants lists some free good over = inr (lists_size dl lists, tagged_size variants lists some free good, over)
