-- Behind a prefix no list is smaller than without one: so neither is an enum, and no fewer variants are refused.
use Rattle.std.proofs.Common.{◌≡◌, ℕ, ◌^◌, ◌<◌, ◌≤◌, false, List, [], ◌∷◌, None, Some, inl, inr, get_or, length, map, refl, arith}
use Rattle.std.specs.Prelude.{◌⊎◌, All, IsPermutation}
use Rattle.std.specs.Int.{next_multiple_of}
use Rattle.std.proofs.lemmas.List.Elements.{All-cons, All-head, All-map, All-nil, All-tail}
use Rattle.std.proofs.lemmas.List.Sorted.{All-permutation, IsPermutation-sym}
use Rattle.abi_base.specs.declared.data_layout.TargetDataLayout.{TargetDataLayout}
use Rattle.abi_base.specs.declared.struct_kind.StructKind.TheVariants.{AlwaysSized, Prefixed}
use Rattle.abi_base.specs.DataLayout.{size_bound}
use Rattle.abi_scalar.specs.declared.error.LayoutCalculatorError.{LayoutCalculatorError}
use Rattle.abi_scalar.specs.declared.error.LayoutCalculatorError.TheVariants.{OutOfMemory as NoMemory, SizeOverflow}
use Rattle.abi_scalar.specs.declared.layout_data.LayoutData.{LayoutData}
use Rattle.abi_scalar.specs.declared.repr.ReprOptions.{ReprOptions}
use Rattle.abi_scalar.specs.Lawful.{IsLawfulLayout}
use Rattle.abi_univariant.specs.declared.fields_repr.FieldsRepr.{FieldsRepr}
use Rattle.abi_univariant.specs.declared.order.NicheBias.TheVariants.{Start}
use Rattle.abi_univariant.specs.declared.part.Part.{Part}
use Rattle.abi_univariant.specs.declared.placing.FieldsFault.{FieldsFault}
use Rattle.abi_univariant.specs.declared.placing.FieldsFault.TheVariants.{Unsized, TooLarge, OutOfMemory}
use Rattle.abi_univariant.specs.Fault.{IsErrorOf, fault_in, is_maybe_unsized}
use Rattle.abi_univariant.specs.Fields.{greatest}
use Rattle.abi_univariant.specs.Least.{IsEachOrderTooLarge, IsLeastSize, align_by, size_by}
use Rattle.abi_univariant.specs.List.{AreSized, IsUnivariantError}
use Rattle.abi_univariant.specs.Order.{IsNamedOrder}
use Rattle.abi_univariant.specs.Part.{is_unsized, parts_of}
use Rattle.abi_univariant.specs.Placement.{IsNonEmptyIfUnsized, in_order, fields_repr, no_part, source_order, start_of}
use Rattle.abi_univariant.proofs.Placed.FaultLemmas.{IsSizedAt, clear_of, memory_in, sized_of_faultless}
use Rattle.abi_univariant.proofs.Sorted.Least.{allowed_permutes, named_allowed}
use Rattle.abi_univariant.proofs.Promised.LeastLemmas.{large_in_each, sized_error}
use Rattle.abi_univariant.proofs.Sorted.Prefixes.{align_of-grows, round_lower, size_by-prefixed}
use Rattle.abi_univariant.proofs.Sorted.Sorting.{in_order-permutation}
use Rattle.abi_calc.specs.Enums.Lists.{AreGoodLists, IsFirstListError, IsGoodList}
use Rattle.abi_calc.specs.Enums.Sizes.{AreLeastSizes, IsTaggedSize}

-- ---- sizes

module _ {F V : Type 0} (dl : TargetDataLayout) (repr : ReprOptions) (size align : ℕ) where
  -- behind a prefix a list is aligned to no less
  pub align_less : (fields : List (LayoutData F V)) → align_by dl repr AlwaysSized fields ≤ align_by dl repr (Prefixed size align) fields
  align_less fields =
      align_of-grows repr.pack (fields_repr dl repr AlwaysSized).align (fields_repr dl repr AlwaysSized).reorderable AlwaysSized (Prefixed size align) (parts_of dl fields) (omega arith)

  -- and its least size is no smaller
  pub least_less : (fields : List (LayoutData F V)) (s t : ℕ) → IsLeastSize dl repr AlwaysSized fields s → IsLeastSize dl repr (Prefixed size align) fields t → s ≤ t
  least_less fields s t a b =
      let least : s ≤ size_by dl repr AlwaysSized fields b.some.0 = a.least b.some.0 b.some.1 in
      let less : size_by dl repr AlwaysSized fields b.some.0 ≤ size_by dl repr (Prefixed size align) fields b.some.0 = size_by-prefixed dl repr fields b.some.0 size align in
      let same : t ≡ size_by dl repr (Prefixed size align) fields b.some.0 = b.some.2 in
      omega (arith, least, less, same)

  -- so is the greatest of the variants' least sizes
  sizes_less : (variants : List (List (LayoutData F V))) (ss ts : List ℕ) → AreLeastSizes dl repr AlwaysSized variants ss → AreLeastSizes dl repr (Prefixed size align) variants ts → greatest ss ≤ greatest ts
  sizes_less [] [] [] a b = omega arith
  sizes_less [] [] (t ∷ ts) a b = elim b [ ]
  sizes_less [] (s ∷ ss) ts a b = elim a [ ]
  sizes_less (v ∷ vs) [] ts a b = elim a [ ]
  sizes_less (v ∷ vs) (s ∷ ss) [] a b = elim b [ ]
  sizes_less (v ∷ vs) (s ∷ ss) (t ∷ ts) a b =
      let one : s ≤ t = least_less v s t a.0 b.0 in
      let rest : greatest ss ≤ greatest ts = sizes_less vs ss ts a.1 b.1 in
      omega (arith, one, rest)

  -- and the greatest of their alignments
  aligns_less : (variants : List (List (LayoutData F V))) → greatest (map (align_by dl repr AlwaysSized) variants) ≤ greatest (map (align_by dl repr (Prefixed size align)) variants)
  aligns_less [] = omega arith
  aligns_less (v ∷ vs) =
      let one : align_by dl repr AlwaysSized v ≤ align_by dl repr (Prefixed size align) v = align_less v in
      let rest : greatest (map (align_by dl repr AlwaysSized) vs) ≤ greatest (map (align_by dl repr (Prefixed size align)) vs) = aligns_less vs in
      omega (arith, one, rest)

  -- and an enum with a tag is no smaller than its variants' always sized lists
  pub tagged_less : (variants : List (List (LayoutData F V))) (s t : ℕ) → IsTaggedSize dl repr AlwaysSized variants s → IsTaggedSize dl repr (Prefixed size align) variants t → s ≤ t
  tagged_less variants s t a b =
      let less : next_multiple_of (greatest a.0) (2 ^ greatest (map (align_by dl repr AlwaysSized) variants)) ≤ next_multiple_of (greatest b.0) (2 ^ greatest (map (align_by dl repr (Prefixed size align)) variants))
      = round_lower (greatest a.0) (greatest b.0) _ _ (sizes_less variants a.0 b.0 a.1 b.1) (aligns_less variants) in
      let one : s ≡ next_multiple_of (greatest a.0) (2 ^ greatest (map (align_by dl repr AlwaysSized) variants)) = a.2 in
      let two : t ≡ next_multiple_of (greatest b.0) (2 ^ greatest (map (align_by dl repr (Prefixed size align)) variants)) = b.2 in
      rw (one, two) less

  -- what is too large in each order is so behind a prefix
  pub large_less : (fields : List (LayoutData F V)) → IsEachOrderTooLarge dl repr AlwaysSized fields → IsEachOrderTooLarge dl repr (Prefixed size align) fields
  large_less fields each order q =
      let over : size_bound dl ≤ size_by dl repr AlwaysSized fields order = each order q in
      let less : size_by dl repr AlwaysSized fields order ≤ size_by dl repr (Prefixed size align) fields order = size_by-prefixed dl repr fields order size align in
      omega (arith, over, less)

-- ---- refusals

-- parts that an order without a fault names are all sized
pub parts_sized : (list : FieldsRepr) (bound : ℕ) (parts : List Part) (order : List ℕ) → IsNonEmptyIfUnsized list.kind (length parts) → is_maybe_unsized list.kind ≡ false → IsNamedOrder list Start parts order
    → fault_in list bound parts order ≡ None → All (λ (p : Part). is_unsized p.view ≡ false) parts
parts_sized list bound parts order tail always named clear =
    let sized : All (IsSizedAt parts) order = sized_of_faultless list bound parts (start_of list.pack list.kind) order (clear_of list bound parts order clear).0 always in
    let permutes : IsPermutation (source_order (length parts)) order = allowed_permutes list (length parts) order (named_allowed list Start parts order tail named) in
    All-permutation (λ (p : Part). is_unsized p.view ≡ false) (in_order parts order) parts (IsPermutation-sym parts (in_order parts order) (in_order-permutation parts order permutes))
    (All-map (λ (p : Part). is_unsized p.view ≡ false) (λ i. get_or parts i no_part) order sized)

-- a field is sized where its part is
pub fields_sized : {F V : Type 0} (dl : TargetDataLayout) (fields : List (LayoutData F V)) → All (λ (p : Part). is_unsized p.view ≡ false) (parts_of dl fields) → AreSized fields
fields_sized dl [] all = All-nil (λ f. is_unsized f.backend_repr ≡ false)
fields_sized dl (f ∷ fs) all =
    All-cons (λ f. is_unsized f.backend_repr ≡ false) f fs (All-head (λ (p : Part). is_unsized p.view ≡ false) _ (parts_of dl fs) all)
    (fields_sized dl fs (All-tail (λ (p : Part). is_unsized p.view ≡ false) _ (parts_of dl fs) all))

-- no fault that a list has is that memory ran out
no_memory_error : {H : Type 0} (list : FieldsRepr) (bound : ℕ) (parts : List Part) (order : List ℕ) (hs : List H) (fault : FieldsFault) (error : LayoutCalculatorError H) → fault_in list bound parts order ≡ Some fault
    → IsErrorOf hs fault error → error ≡ NoMemory → ⊥
no_memory_error list bound parts order hs (Unsized i) error e h is = absurd (cc)
no_memory_error list bound parts order hs TooLarge error e h is = absurd (cc)
no_memory_error list bound parts order hs OutOfMemory error e h is = memory_in list bound parts order e

module _ {F V H : Type 0} (layout_of : H → LayoutData F V) (at : ℕ → F) (first : V) (dl : TargetDataLayout) (repr : ReprOptions) (size align : ℕ) where
  -- a list that has a layout behind a prefix has sized fields
  good_sized : (fields : List H) (list : LayoutData F V) → IsGoodList layout_of at first dl repr (Prefixed size align) fields list → AreSized (map layout_of fields)
  good_sized fields list good =
      let named = good.exact.2.named in
      fields_sized dl (map layout_of fields) (parts_sized (fields_repr dl repr (Prefixed size align)) (size_bound dl) (parts_of dl (map layout_of fields)) named.0 tt refl named.1 named.2)

  -- and isn't too large in each order without the prefix
  good_small : (fields : List H) (list : LayoutData F V) → IsGoodList layout_of at first dl repr (Prefixed size align) fields list → IsEachOrderTooLarge dl repr AlwaysSized (map layout_of fields) → ⊥
  good_small fields list good large =
      let least = good.least in
      let over : size_bound dl ≤ size_by dl repr (Prefixed size align) (map layout_of fields) least.some.0 = large_less dl repr size align (map layout_of fields) large least.some.0 least.some.1 in
      let same : list.size ≡ size_by dl repr (Prefixed size align) (map layout_of fields) least.some.0 = least.some.2 in
      let below : list.size < size_bound dl = good.lawful.bound in
      omega (arith, over, same, below)

  -- so it has no error
  good_no_error : (fields : List H) (list : LayoutData F V) (error : LayoutCalculatorError H) → All (λ f. IsLawfulLayout dl (layout_of f)) fields
      → IsGoodList layout_of at first dl repr (Prefixed size align) fields list → IsUnivariantError layout_of dl repr AlwaysSized fields error → ⊥
  good_no_error fields list error law good bad =
      error_cases (sized_error layout_of at first dl repr AlwaysSized fields error (good_sized fields list good) tt bad)
    where
      error_cases : (error ≡ SizeOverflow) ⊎ (error ≡ NoMemory) → ⊥
      error_cases (inl is) = good_small fields list good (large_in_each layout_of at first dl repr AlwaysSized fields error law tt bad is)
      error_cases (inr is) = no_memory_error (fields_repr dl repr AlwaysSized) (size_bound dl) (parts_of dl (map layout_of fields)) bad.0 fields bad.2 error bad.3 bad.4 is

  -- variants that have lists behind a prefix have always sized lists too
  pub no_first_error : (variants : List (List H)) (lists : List (LayoutData F V)) (error : LayoutCalculatorError H) → All (All (λ f. IsLawfulLayout dl (layout_of f))) variants
      → AreGoodLists layout_of at first dl repr (Prefixed size align) variants lists → IsFirstListError layout_of at first dl repr AlwaysSized variants error → ⊥
  no_first_error [] lists error law good bad = bad
  no_first_error (v ∷ vs) [] error law good bad = good
  no_first_error (v ∷ vs) (l ∷ ls) error law good (inl here) = good_no_error v l error (All-head (All (λ f. IsLawfulLayout dl (layout_of f))) v vs law) good.0 here
  no_first_error (v ∷ vs) (l ∷ ls) error law good (inr later) = no_first_error vs ls error (All-tail (All (λ f. IsLawfulLayout dl (layout_of f))) v vs law) good.1 later.2
