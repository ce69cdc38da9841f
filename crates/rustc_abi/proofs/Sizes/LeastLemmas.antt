-- Structs, enums and coroutines have the sizes that their lists allow, and no other size is refused than one that is too large.
use Rattle.std.proofs.Common.{◌≡◌, ℕ, ◌+◌, ◌*◌, ◌≤◌, Bool, true, false, List, ◌∷◌, Option, Some, None, length, map, inl, inr, refl, sym, ap, ◌∙◌, subst, arith, All, Result, Ok, Err}
use Rattle.std.specs.Prelude.{◌⊎◌, ◌||◌, nat_lt, if◌then◌else◌, MatchOption, not}
use Rattle.std.specs.Result.{IsErrAnd}
use Rattle.std.proofs.lemmas.List.{length-map, map-id}
use Rattle.std.proofs.lemmas.Bool.{ltb-false, le-ltb}
use Rattle.std.specs.List.{list_all, list_any}
use Rattle.abi_base.specs.declared.data_layout.TargetDataLayout.{TargetDataLayout}
use Rattle.abi_base.specs.DataLayout.{IsLawfulDataLayout, size_bound}
use Rattle.abi_scalar.specs.declared.error.LayoutCalculatorError.{LayoutCalculatorError}
use Rattle.abi_scalar.specs.declared.repr.ReprOptions.{ReprOptions}
use Rattle.abi_base.specs.declared.struct_kind.StructKind.{StructKind}
use Rattle.abi_scalar.specs.declared.scalar.Scalar.{Scalar}
use Rattle.abi_scalar.specs.Pair.{pair_size}
use Rattle.abi_scalar.specs.Scalar.{primitive_of}
use Rattle.abi_scalar.specs.Shape.{listed_offsets}
use Rattle.abi_univariant.specs.declared.order.NicheBias.TheVariants.{Start}
use Rattle.abi_univariant.specs.declared.placing.FieldsFault.{FieldsFault}
use Rattle.abi_univariant.specs.declared.placing.FieldsFault.TheVariants.{Unsized, TooLarge, OutOfMemory}
use Rattle.abi_univariant.specs.Array.{elements_layout}
use Rattle.abi_univariant.specs.Fault.{IsErrorOf, fault_in}
use Rattle.abi_univariant.specs.List.{AreSized}
use Rattle.abi_univariant.specs.Order.{IsNamedOrder}
use Rattle.abi_univariant.specs.Simd.{simd_answer, IsVectorTooLarge}
use Rattle.abi_univariant.specs.Placement.{IsAllowed, IsNonEmptyIfUnsized, fields_repr, size_in}
use Rattle.abi_univariant.proofs.Promised.DeepLemmas.{sized_fault, sized_in_order}
use Rattle.abi_univariant.proofs.Placed.FaultLemmas.{clear_of, large_in, memory_in}
use Rattle.abi_univariant.proofs.Sorted.Least.{all_too_large}
use Rattle.abi_univariant.specs.Least.{IsOrderOf, size_by}
use Rattle.abi_univariant.specs.Union.{IsUnionTooLarge}
use Rattle.abi_univariant.proofs.Promised.LeastLemmas.{has_least, never_large as listed_never_large}
use Rattle.abi_univariant.proofs.Placed.RunLemmas.{biased_of}
use Rattle.abi_univariant.proofs.UnionsVectors.TooLarge.{union_sized, vector_sized}
use Rattle.abi_univariant.specs.Answer.{IsAnswer}
use Rattle.abi_univariant.specs.Part.{parts_of as asked_of}
use Rattle.abi_calc.specs.Coroutine.Layout.{IsStateTag}
use Rattle.abi_calc.specs.Coroutine.Promised.{IsSizedPromoted}
use Rattle.abi_calc.specs.Coroutine.Promotion.{promoted_of}
use Rattle.abi_calc.specs.Coroutine.Sizes.{IsTooLargeWith, MayOverlap}
use Rattle.abi_calc.proofs.CoroutineLemmas.Promised.{IsPromised}
use Rattle.abi_calc.proofs.CoroutineLemmas.OneCoroutine.{one_tag}
use Rattle.abi_calc.proofs.CoroutineLemmas.Shared.{overlap_promised}
use Rattle.rustc_abi.specs.declared.error.LayError.{LayError}
use Rattle.rustc_abi.specs.declared.error.LayError.TheVariants.{SizeOverflow, UnexpectedUnsized, BadIndex, BadAlign, UnknownSpace, BadRange, DuplicateDiscriminant, DiscriminantTooWide, LocalTwice, NoState}
use Rattle.abi_tree.specs.Tree.{Tree, scalar, pair, never, unit, array, vector, struct, union, enum, coroutine, Trees, no_trees, more_trees, Variants, no_variants, more_variants}
use Rattle.abi_tree.specs.Placed.{Placed, layout_of, size_of, elements, vector as placed_vector}
use Rattle.abi_scalar.specs.Layout.{Layout}
use Rattle.abi_tree.specs.Placed.{states as placed_states}
use Rattle.rustc_abi.specs.Error.{Follows, IsRefused, named, lay_error}
use Rattle.rustc_abi.specs.ScalarFault.{is_lawful_primitive, has_range_within, scalar_fault}
use Rattle.rustc_abi.specs.Laying.{IsListedInOrder, IsOrderedFieldsAnswer, ordered_fault, with_randomize_flag}
use Rattle.rustc_abi.specs.Laying.{AreLaying, IsFieldsAnswer, IsLaying, IsLaidList, IsCoroutineOf, IsUnionOf, IsUnited, VariantsLaying, elements_answer, fields_fault, kind_of, lanes_of, one_scalar, pair_answer, placed_by, placed_fields, placed_together, scalar_answer, two_scalars, unless, vector_answer, placed_enum, enum_fault, has_bad_index, has_bad_align, IsEnumOf, coroutine_fault, most_fields, placed_coroutine}
use Rattle.rustc_abi.specs.Coroutines.{IsCoroutined, IsStated, conflicts_of, names_unknown}
use Rattle.rustc_abi.specs.Least.{HasOverlapSize, IsCoroutineSized, IsCoroutineTooLarge, IsLeast, IsOverlapSized}
use Rattle.rustc_abi.specs.Least.{fields_of, IsLeastStruct, IsStructTooLarge, IsTooLarge, AreTooLarge}
use Rattle.rustc_abi.specs.Least.{AreVariantsTooLarge, IsEnumTooLarge, IsOrderOfFields, ordered_size}
use Rattle.rustc_abi.specs.Enums.{IsEnumed, discriminants_of, has_equal, is_discriminant}
use Rattle.rustc_abi.proofs.Trees.LaidLemmas.{IsWhole, all_whole, whole_lawful, asked_aligned, asked_sized, length-asked, some_field, numbers_for, variants_whole, CoroutineAnswersBy, coroutine_laid, laid_by, stated_offsets, stated_promised}
use Rattle.rustc_abi.proofs.Faults.CoroutineFaultLemmas.{conflict_rows}
use Rattle.rustc_abi.proofs.Trees.OrderLemmas.{allowed_parts, ordered_count, ordered_placed}
use Rattle.rustc_abi.proofs.Trees.LayLemmas.{pair_overflows}
use Rattle.rustc_abi.proofs.Trees.OneAnswer.{one_answer, one_list, one_list_each}
use Rattle.rustc_abi.proofs.Sizes.SizeLemmas.{sized_elements, sized_never, sized_pair, sized_scalar, sized_union, sized_unit}
use Rattle.rustc_abi.proofs.Sizes.SizeLemmas.{sized_vector}
use Rattle.abi_tree.specs.Nodes.{parts_at}
use Rattle.rustc_abi.proofs.Sizes.EnumSizeLemmas.{enumed_large, enumed_refused, enumed_least, fields_back, size_error}
use Rattle.abi_scalar.specs.declared.error.LayoutCalculatorError.TheVariants as calculator

-- errors of one list
not_size : SizeOverflow ≡ UnexpectedUnsized → ⊥
not_size e = absurd (cc)

not_size_either : SizeOverflow ≡ LayError.OutOfMemory → ⊥
not_size_either e = absurd (cc)

not_order : SizeOverflow ≡ LayError.BadOrder → ⊥
not_order e = absurd (cc)

-- an error is of the size
large_of : (ps : List Placed) (fault : FieldsFault) (error : LayoutCalculatorError Layout) → IsErrorOf (map layout_of ps) fault error → SizeOverflow ≡ lay_error error → fault ≡ TooLarge
large_of ps (Unsized i) error h e = let other : lay_error error ≡ lay_error {H = Layout} (calculator.UnexpectedUnsized h.0) = ap lay_error h.2 in absurd (not_size (e ∙ other))
large_of ps TooLarge error h e = refl
large_of ps OutOfMemory error h e = let other : lay_error error ≡ lay_error {H = Layout} calculator.OutOfMemory = ap lay_error h in absurd (not_size_either (e ∙ other))

-- no own fault of an enum is a size
no_size : (a b c d : Bool) → (if a then Some BadIndex else (if b then Some BadAlign else (if c then Some DuplicateDiscriminant else (if not d then Some DiscriminantTooWide else None)))) ≡ Some SizeOverflow → ⊥
no_size true b c d e = cc
no_size false true c d e = cc
no_size false false true d e = cc
no_size false false false true e = cc
no_size false false false false e = cc

-- nor is one of a coroutine
no_coroutine_size : (a b c d : Bool) → (if a then Some BadIndex else (if b then Some NoState else (if c then Some BadIndex else (if d then Some LocalTwice else None)))) ≡ Some SizeOverflow → ⊥
no_coroutine_size true b c d e = cc
no_coroutine_size false true c d e = cc
no_coroutine_size false false true d e = cc
no_coroutine_size false false false true e = cc
no_coroutine_size false false false false e = cc

-- ---- one list of fields

module _ (dl : TargetDataLayout) (repr : ReprOptions) (always_sized : Bool) (ps : List Placed) (whole : All (IsWhole dl) ps) where
  some : IsNonEmptyIfUnsized (kind_of always_sized ps) (length (asked_of dl (map layout_of ps)))
  some = subst (IsNonEmptyIfUnsized (kind_of always_sized ps)) (sym (length-asked dl ps)) (some_field always_sized ps)

  asked : (order : List ℕ) → IsOrderOf dl repr (kind_of always_sized ps) (length (map layout_of ps)) order → IsAllowed (fields_repr dl repr (kind_of always_sized ps)) (length (asked_of dl (map layout_of ps))) order
  asked order q = subst (λ n. IsAllowed (fields_repr dl repr (kind_of always_sized ps)) n order) (length-map ps layout_of ∙ sym (length-asked dl ps)) q

  -- a struct has its least size
  listed_least : (layout : Layout) → IsLaidList dl repr (kind_of always_sized ps) (map layout_of ps) (Ok layout) → IsLeastStruct dl repr always_sized ps layout.size
  listed_least layout listed = has_least layout_of (λ i. i) 0 dl repr (kind_of always_sized ps) ps listed.0 listed.1 layout (whole_lawful dl ps whole) (some_field always_sized ps) listed.2

  -- each field has an offset
  pub listed_count : (layout : Layout) → IsLaidList dl repr (kind_of always_sized ps) (map layout_of ps) (Ok layout) → length (listed_offsets layout.fields) ≡ length ps
  listed_count layout listed =
      let made = biased_of dl (fields_repr dl repr (kind_of always_sized ps)) (asked_of dl (map layout_of ps)) listed.0 listed.1 layout.size layout.align.abi layout.largest_niche listed.2.named in
      ap (λ shape. length (listed_offsets shape)) listed.2.shape ∙ made.placed.count ∙ length-asked dl ps

  -- what is laid out is not too large in each order
  listed_small : (layout : Layout) → IsLaidList dl repr (kind_of always_sized ps) (map layout_of ps) (Ok layout) → IsStructTooLarge dl repr always_sized ps → ⊥
  listed_small layout listed all = listed_never_large layout_of (λ i. i) 0 dl repr (kind_of always_sized ps) ps listed.0 listed.1 layout (some_field always_sized ps) listed.2 all

  plain : map (λ (l : Layout). l) (map layout_of ps) ≡ map layout_of ps
  plain = map-id (map layout_of ps)

  -- a list that is refused for its size is too large in each order
  refused_large : IsLaidList dl repr (kind_of always_sized ps) (map layout_of ps) (Err SizeOverflow) → IsStructTooLarge dl repr always_sized ps
  refused_large (error, (first, named, fault, there, of), e) other q =
      let list = fields_repr dl repr (kind_of always_sized ps) in
      let ls = map (λ (l : Layout). l) (map layout_of ps) in
      let large : fault ≡ TooLarge = large_of ps fault error of e in
      let over : size_bound dl ≤ size_in list (asked_of dl ls) first = large_in list (size_bound dl) (asked_of dl ls) first (there ∙ ap (λ f. Some f) large) in
      let bound : size_bound dl ≤ size_in list (asked_of dl (map layout_of ps)) first = subst (λ layouts. size_bound dl ≤ size_in list (asked_of dl layouts) first) plain over in
      let order = subst (λ layouts. IsNamedOrder list Start (asked_of dl layouts) first) plain named in
      all_too_large list Start (asked_of dl (map layout_of ps)) first (size_bound dl) (asked_aligned dl ps whole) some order bound other (asked other q)

  name_of : (order : List ℕ) (fault : FieldsFault) (error : LayoutCalculatorError Layout) → IsErrorOf (map layout_of ps) fault error
      → fault_in (fields_repr dl repr (kind_of always_sized ps)) (size_bound dl) (asked_of dl (map (λ (l : Layout). l) (map layout_of ps))) order ≡ Some fault
      → (fault ≡ TooLarge) ⊎ (fault ≡ OutOfMemory) → lay_error error ≡ SizeOverflow
  name_of order (Unsized i) error h there (inl e) = absurd (cc)
  name_of order (Unsized i) error h there (inr e) = absurd (cc)
  name_of order TooLarge error h there large = ap lay_error h
  name_of order OutOfMemory error h there large =
      absurd (memory_in (fields_repr dl repr (kind_of always_sized ps)) (size_bound dl) (asked_of dl (map (λ (l : Layout). l) (map layout_of ps))) order there)

  -- a refusal of sized fields is one for their size
  refused_for_size : (e : LayError) → IsLaidList dl repr (kind_of always_sized ps) (map layout_of ps) (Err e) → e ≡ SizeOverflow
  refused_for_size e (error, (first, named, fault, there, of), is) =
      let list = fields_repr dl repr (kind_of always_sized ps) in
      let sized = subst AreSized (sym plain) (asked_sized dl ps whole) in
      let full = subst (λ layouts. IsNonEmptyIfUnsized (kind_of always_sized ps) (length (asked_of dl layouts))) (sym plain) some in
      is ∙ name_of first fault error of there (sized_fault (λ (l : Layout). l) dl list (map layout_of ps) fault sized full (inl (first, named, there)))

-- ---- one list in an order that is handed in

module _ (dl : TargetDataLayout) (repr : ReprOptions) (kind : StructKind) (order : List ℕ) (ps : List Placed) where
  -- what is laid out is not too large
  ordered_small : (layout : Layout) → IsListedInOrder dl repr kind order (map layout_of ps) (Ok layout) → size_bound dl ≤ size_by dl repr kind (map layout_of ps) order → ⊥
  ordered_small layout listed large =
      let below = (clear_of (fields_repr dl repr kind) (size_bound dl) (asked_of dl (map layout_of ps)) order listed.1.named.1.faultless).1 in
      omega (arith, below, large)

  ordered_plain : map (λ (l : Layout). l) (map layout_of ps) ≡ map layout_of ps
  ordered_plain = map-id (map layout_of ps)

  -- a list that is refused for its size is too large in the order
  ordered_large : IsListedInOrder dl repr kind order (map layout_of ps) (Err SizeOverflow) →
      IsOrderOf dl repr kind (length (map layout_of ps)) order × (size_bound dl ≤ size_by dl repr kind (map layout_of ps) order)
  ordered_large (error, inl (bad, is), e) = let other : lay_error error ≡ lay_error {H = Layout} calculator.BadOrder = ap lay_error is in absurd (not_order (e ∙ other))
  ordered_large (error, inr (allowed, fault, there, of), e) =
      let list = fields_repr dl repr kind in
      let ls = map (λ (l : Layout). l) (map layout_of ps) in
      let large : fault ≡ TooLarge = large_of ps fault error of e in
      let over : size_bound dl ≤ size_in list (asked_of dl ls) order = large_in list (size_bound dl) (asked_of dl ls) order (there ∙ ap (λ f. Some f) large) in
      (allowed, subst (λ layouts. size_bound dl ≤ size_in list (asked_of dl layouts) order) ordered_plain over)

  ordered_name : (fault : FieldsFault) (error : LayoutCalculatorError Layout) → IsErrorOf (map layout_of ps) fault error
      → fault ≡ TooLarge → lay_error error ≡ SizeOverflow
  ordered_name (Unsized i) error h e = absurd (cc)
  ordered_name TooLarge error h e = ap lay_error h
  ordered_name OutOfMemory error h e = absurd (cc)

  -- a refusal of sized fields in an allowed order is one for their size
  ordered_for_size : All (IsWhole dl) ps → IsOrderOf dl repr kind (length (map layout_of ps)) order → (e : LayError) → IsListedInOrder dl repr kind order (map layout_of ps) (Err e) → e ≡ SizeOverflow
  ordered_for_size whole allowed e (error, inl (bad, is), named) = absurd (bad allowed)
  ordered_for_size whole allowed e (error, inr (same, fault, there, of), named) =
      let list = fields_repr dl repr kind in
      let sized = subst AreSized (sym ordered_plain) (asked_sized dl ps whole) in
      let found = subst (λ layouts. fault_in list (size_bound dl) (asked_of dl layouts) order ≡ Some fault) ordered_plain there in
      named ∙ ordered_name fault error of (sized_in_order layout_of dl list ps order fault (asked_sized dl ps whole) (allowed_parts dl repr kind order ps allowed) found)

-- ---- whole types

-- what can't be: a refusal for the size, where there is another one or none
not_scalar : (b c : Bool) → (if b then (if c then None else Some BadRange) else Some UnknownSpace) ≡ Some SizeOverflow → ⊥
not_scalar true true e = absurd (cc)
not_scalar true false e = absurd (cc)
not_scalar false c e = absurd (cc)

not_fields : (b c : Bool) → (if b then Some BadIndex else (if c then Some BadAlign else None)) ≡ Some SizeOverflow → ⊥
not_fields true c e = absurd (cc)
not_fields false true e = absurd (cc)
not_fields false false e = absurd (cc)

not_ordered : (b c d : Bool) → (if b then Some BadIndex else (if c then Some BadAlign else (if d then Some LayError.BadOrder else None))) ≡ Some SizeOverflow → ⊥
not_ordered true c d e = absurd (cc)
not_ordered false true d e = absurd (cc)
not_ordered false false true e = absurd (cc)
not_ordered false false false e = absurd (cc)

-- a refusal is the fault, or comes later
refused_by : (fault : Option LayError) (r : Result Placed LayError) → Err SizeOverflow ≡ unless fault r → (fault ≡ Some SizeOverflow) ⊎ ((fault ≡ None) × (Err SizeOverflow ≡ r))
refused_by None r e = inr (refl, e)
refused_by (Some f) r e = inl (cc)

unfit : (b : Bool) (p : Placed) → Err SizeOverflow ≡ (if b then Ok p else Err SizeOverflow) → b ≡ false
unfit true p e = absurd (cc)
unfit false p e = refl

-- elements that are too large
elements_large : (b : Bool) (count : ℕ) (layout : Layout) (q : Placed)
    → Err SizeOverflow ≡ placed_by (λ l. elements l count q) (named {H = ℕ} (if b then Ok layout else Err calculator.SizeOverflow)) → b ≡ false
elements_large true count layout q e = absurd (cc)
elements_large false count layout q e = refl

-- a refusal that was followed by nothing
follows_refused : {A B : Type 0} (P : Result A LayError → Type 0) (next : A → Result B LayError → Type 0) (r : Result B LayError)
    → ((x : Result A LayError) → P x → x ≡ Err SizeOverflow) → Follows P next r → r ≡ Err SizeOverflow
follows_refused P next r all (inl (e, p, is)) = let same : Err e ≡ Err SizeOverflow = all (Err e) p in is ∙ ap (λ x. Err x) (cc)
follows_refused P next r all (inr (a, p, n)) = let same : Ok a ≡ Err SizeOverflow = all (Ok a) p in absurd (cc)

-- what follows the one answer
follows_on : {A B : Type 0} (P : Result A LayError → Type 0) (next : A → Result B LayError → Type 0) (r : Result B LayError) (a : A) → P (Ok a)
    → ((x y : Result A LayError) → P x → P y → x ≡ y) → Follows P next r → next a r
follows_on P next r a there one (inl (e, p, is)) = let same : Err e ≡ Ok a = one (Err e) (Ok a) p there in absurd (cc)
follows_on P next r a there one (inr (b, p, n)) =
    let same : Ok b ≡ Ok a = one (Ok b) (Ok a) p there in
    let first : b ≡ a = cc in
    subst (λ x. next x r) first n

module _ (dl : TargetDataLayout) (law : IsLawfulDataLayout dl) where
  overflow_scalar : (s : Scalar) → Err SizeOverflow ≡ scalar_answer dl s → ⊥
  overflow_scalar s e = of_fault (refused_by (scalar_fault dl s) (Ok (one_scalar dl s)) e)
    where
      of_fault : (scalar_fault dl s ≡ Some SizeOverflow) ⊎ ((scalar_fault dl s ≡ None) × (Err SizeOverflow ≡ Ok (one_scalar dl s))) → ⊥
      of_fault (inl f) = not_scalar (is_lawful_primitive dl (primitive_of s)) (has_range_within dl s) f
      of_fault (inr f) = let no : Err SizeOverflow ≡ Ok (one_scalar dl s) = f.1 in absurd (cc)

  overflow_pair : (a b : Scalar) → Err SizeOverflow ≡ pair_answer dl a b → IsTooLarge dl (pair a b)
  overflow_pair a b e = first (refused_by (scalar_fault dl a) (unless (scalar_fault dl b) last) e)
    where
      last : Result Placed LayError
      last = if nat_lt (pair_size dl a b) (size_bound dl) then Ok (two_scalars dl a b) else Err SizeOverflow

      second : scalar_fault dl a ≡ None → (scalar_fault dl b ≡ Some SizeOverflow) ⊎ ((scalar_fault dl b ≡ None) × (Err SizeOverflow ≡ last)) → IsTooLarge dl (pair a b)
      second fa (inl f) = absurd (not_scalar (is_lawful_primitive dl (primitive_of b)) (has_range_within dl b) f)
      second fa (inr f) = (fa, f.0, ltb-false (pair_size dl a b) (size_bound dl) (unfit (nat_lt (pair_size dl a b) (size_bound dl)) (two_scalars dl a b) f.1))

      first : (scalar_fault dl a ≡ Some SizeOverflow) ⊎ ((scalar_fault dl a ≡ None) × (Err SizeOverflow ≡ unless (scalar_fault dl b) last)) → IsTooLarge dl (pair a b)
      first (inl f) = absurd (not_scalar (is_lawful_primitive dl (primitive_of a)) (has_range_within dl a) f)
      first (inr f) = second f.0 (refused_by (scalar_fault dl b) last f.1)

  -- the answer to a struct whose own fault is this
  abbrev AnswersBy : Option LayError → ReprOptions → (always_sized : Bool) → List Placed → Result Placed LayError → Type 0
  AnswersBy fault repr always_sized ps r =
      MatchOption fault (Follows (IsLaidList dl repr (kind_of always_sized ps) (map layout_of ps)) (λ layout z. z ≡ Ok (placed_fields repr ps layout)) r) (λ e. r ≡ Err e)

  overflow_fields : (fault : Option LayError) (repr : ReprOptions) (always_sized : Bool) (all : Trees) (ps : List Placed) → fields_fault repr ps ≡ fault → AreLaying dl all (Ok ps)
      → AnswersBy fault repr always_sized ps (Err SizeOverflow)
      → IsTooLarge dl (struct repr always_sized None all)
  overflow_fields None repr always_sized all ps none there (inl (e, listed, is)) =
      let same : e ≡ SizeOverflow = cc in
      inr (ps, there, none, refused_large dl repr always_sized ps (all_whole dl law all ps there) (subst (λ x. IsLaidList dl repr (kind_of always_sized ps) (map layout_of ps) (Err x)) same listed))
  overflow_fields None repr always_sized all ps none there (inr (layout, listed, is)) = absurd (cc)
  overflow_fields (Some f) repr always_sized all ps fault there e =
      let same : Some f ≡ Some SizeOverflow = cc in
      absurd (not_fields _ _ (fault ∙ same))

  least_fields : (fault : Option LayError) (repr : ReprOptions) (always_sized : Bool) (all : Trees) (ps : List Placed) (p : Placed) → AreLaying dl all (Ok ps)
      → AnswersBy fault repr always_sized ps (Ok p) → IsLeast dl (struct repr always_sized None all) p
  least_fields fault repr always_sized all ps p there answer =
      let found = laid_by fault (IsLaidList dl repr (kind_of always_sized ps) (map layout_of ps)) (placed_fields repr ps) p answer in
      let layout : Layout = found.0 in
      let whole = all_whole dl law all ps there in
      let count = listed_count dl repr always_sized ps whole layout found.1 in
      subst (IsLeast dl (struct repr always_sized None all)) found.2
      (subst (λ qs. IsLeastStruct dl repr always_sized qs layout.size) (sym (fields_back (listed_offsets layout.fields) ps (omega (arith, count)))) (listed_least dl repr always_sized ps whole layout found.1))

  -- the same where the order is handed in
  abbrev OrderedBy : Option LayError → ReprOptions → (always_sized : Bool) → (order : List ℕ) → List Placed → Result Placed LayError → Type 0
  OrderedBy fault repr always_sized order ps r =
      MatchOption fault (Follows (IsListedInOrder dl (with_randomize_flag repr) (kind_of always_sized ps) order (map layout_of ps)) (λ layout z. z ≡ Ok (placed_fields repr ps layout)) r) (λ e. r ≡ Err e)

  overflow_ordered : (fault : Option LayError) (repr : ReprOptions) (always_sized : Bool) (order : List ℕ) (all : Trees) (ps : List Placed) → ordered_fault repr ps ≡ fault → AreLaying dl all (Ok ps)
      → OrderedBy fault repr always_sized order ps (Err SizeOverflow)
      → IsTooLarge dl (struct repr always_sized (Some order) all)
  overflow_ordered None repr always_sized order all ps none there (inl (e, listed, is)) =
      let same : e ≡ SizeOverflow = cc in
      let large = ordered_large dl (with_randomize_flag repr) (kind_of always_sized ps) order ps (subst (λ x. IsListedInOrder dl (with_randomize_flag repr) (kind_of always_sized ps) order (map layout_of ps) (Err x)) same listed) in
      inr (ps, there, none, subst (λ n. IsOrderOf dl (with_randomize_flag repr) (kind_of always_sized ps) n order) (length-map ps layout_of) large.0, large.1)
  overflow_ordered None repr always_sized order all ps none there (inr (layout, listed, is)) = absurd (cc)
  overflow_ordered (Some f) repr always_sized order all ps fault there e =
      let same : Some f ≡ Some SizeOverflow = cc in
      absurd (not_ordered _ _ _ (fault ∙ same))

  least_ordered : (fault : Option LayError) (repr : ReprOptions) (always_sized : Bool) (order : List ℕ) (all : Trees) (ps : List Placed) (p : Placed)
      → OrderedBy fault repr always_sized order ps (Ok p) → IsLeast dl (struct repr always_sized (Some order) all) p
  least_ordered fault repr always_sized order all ps p answer =
      let kind = kind_of always_sized ps in
      let found = laid_by fault (IsListedInOrder dl (with_randomize_flag repr) kind order (map layout_of ps)) (placed_fields repr ps) p answer in
      let layout : Layout = found.0 in
      let count = ordered_count dl (with_randomize_flag repr) kind order ps layout found.1 in
      subst (IsLeast dl (struct repr always_sized (Some order) all)) found.2
      (subst (λ qs. layout.size ≡ ordered_size dl repr always_sized order qs) (sym (fields_back (listed_offsets layout.fields) ps (omega (arith, count)))) (ordered_placed dl (with_randomize_flag repr) kind order ps layout found.1).extent)

  refused_ordered : (fault : Option LayError) (repr : ReprOptions) (always_sized : Bool) (order : List ℕ) (all : Trees) (ps : List Placed) (r : Result Placed LayError) → fault ≡ None → AreLaying dl all (Ok ps)
      → IsOrderOfFields dl repr always_sized order ps → size_bound dl ≤ ordered_size dl repr always_sized order ps
      → OrderedBy fault repr always_sized order ps r → r ≡ Err SizeOverflow
  refused_ordered None repr always_sized order all ps r none there allowed large (inl (e, listed, is)) =
      let own = subst (λ n. IsOrderOf dl (with_randomize_flag repr) (kind_of always_sized ps) n order) (sym (length-map ps layout_of)) allowed in
      is ∙ ap (λ x. Err x) (ordered_for_size dl (with_randomize_flag repr) (kind_of always_sized ps) order ps (all_whole dl law all ps there) own e listed)
  refused_ordered None repr always_sized order all ps r none there allowed large (inr (layout, listed, is)) =
      absurd (ordered_small dl (with_randomize_flag repr) (kind_of always_sized ps) order ps layout listed large)
  refused_ordered (Some f) repr always_sized order all ps r none there allowed large e = absurd (cc)

  refused_fields : (fault : Option LayError) (repr : ReprOptions) (always_sized : Bool) (all : Trees) (ps : List Placed) (r : Result Placed LayError) → fault ≡ None → AreLaying dl all (Ok ps)
      → IsStructTooLarge dl repr always_sized ps
      → AnswersBy fault repr always_sized ps r → r ≡ Err SizeOverflow
  refused_fields None repr always_sized all ps r none there large (inl (e, listed, is)) =
      is ∙ ap (λ x. Err x) (refused_for_size dl repr always_sized ps (all_whole dl law all ps there) e listed)
  refused_fields None repr always_sized all ps r none there large (inr (layout, listed, is)) =
      absurd (listed_small dl repr always_sized ps (all_whole dl law all ps there) layout listed large)
  refused_fields (Some f) repr always_sized all ps r none there large e = absurd (cc)

  refused_elements : (count : ℕ) (p : Placed) (r : Result Placed LayError) → size_bound dl ≤ size_of p * count → r ≡ elements_answer dl count p → r ≡ Err SizeOverflow
  refused_elements count p r large e =
      let no : nat_lt (size_of p * count) (size_bound dl) ≡ false = le-ltb (size_of p * count) (size_bound dl) large in
      e ∙ ap (λ b. placed_by (λ l. elements l count p) (named {H = ℕ} (if b then Ok (elements_layout 0 true count (layout_of p)) else Err calculator.SizeOverflow))) no

  -- a vector is refused for its size where it is too large
  named_large : (answer : Result Layout (LayoutCalculatorError Layout)) (make : Layout → Placed) → placed_by make (named answer) ≡ Err SizeOverflow → answer ≡ Err calculator.SizeOverflow
  named_large (Ok l) make e = absurd (cc)
  named_large (Err (calculator.UnexpectedUnsized f)) make e = absurd (cc)
  named_large (Err calculator.SizeOverflow) make e = refl
  named_large (Err calculator.EmptyUnion) make e = absurd (cc)
  named_large (Err calculator.ReprConflict) make e = absurd (cc)
  named_large (Err calculator.ZeroLengthSimdType) make e = absurd (cc)
  named_large (Err (calculator.OversizedSimdType n)) make e = absurd (cc)
  named_large (Err (calculator.NonPrimitiveSimdType f)) make e = absurd (cc)
  named_large (Err calculator.BadOrder) make e = absurd (cc)
  named_large (Err calculator.OutOfMemory) make e = absurd (cc)

  large_vector : (lanes : ℕ) (packed : Bool) (p : Placed) → vector_answer dl lanes packed p ≡ Err SizeOverflow → IsVectorTooLarge dl (layout_of p) lanes packed
  large_vector lanes packed p e =
      (vector_sized (λ (l : Layout). l) 0 0 dl (layout_of p) lanes packed (simd_answer (λ l. l) 0 0 dl (layout_of p) lanes packed) refl).too_large (named_large (simd_answer (λ l. l) 0 0 dl (layout_of p) lanes packed) (λ layout. placed_vector layout (lanes_of lanes p)) e)

  refused_vector : (lanes : ℕ) (packed : Bool) (p : Placed) → IsVectorTooLarge dl (layout_of p) lanes packed → vector_answer dl lanes packed p ≡ Err SizeOverflow
  refused_vector lanes packed p large =
      ap (λ answer. placed_by (λ layout. placed_vector layout (lanes_of lanes p)) (named answer)) ((vector_sized (λ (l : Layout). l) 0 0 dl (layout_of p) lanes packed (simd_answer (λ l. l) 0 0 dl (layout_of p) lanes packed) refl).refused large)

  -- and so is a union
  module _ (repr : ReprOptions) (ps : List Placed) where
    abbrev UnionAnswersBy : Option LayError → Result Placed LayError → Type 0
    UnionAnswersBy fault r = MatchOption fault (Follows (IsUnited dl repr (map layout_of ps)) (λ layout z. z ≡ Ok (placed_together repr ps layout)) r) (λ e. r ≡ Err e)

    all_same : map (λ (l : Layout). l) (map layout_of ps) ≡ map layout_of ps
    all_same = map-id (map layout_of ps)

    large_union : (fault : Option LayError) → fields_fault repr ps ≡ fault → UnionAnswersBy fault (Err SizeOverflow) → (fields_fault repr ps ≡ None) × IsUnionTooLarge dl repr (map layout_of ps)
    large_union None none (inl (e, (error, answer, name), is)) =
        let same : SizeOverflow ≡ e = cc in
        let size : named {A = Layout} (Err error) ≡ Err SizeOverflow = ap (λ x. Err x) (sym name ∙ sym same) in
        let tag_distinguishes : Err error ≡ Err calculator.SizeOverflow = named_large (Err error) (λ layout. placed_together repr ps layout) (ap (placed_by (placed_together repr ps)) size) in
        (none, subst (IsUnionTooLarge dl repr) all_same ((union_sized (λ (l : Layout). l) 0 dl repr (map layout_of ps) (Err error) law answer).too_large tag_distinguishes))
    large_union None none (inr (layout, united, is)) = absurd (cc)
    large_union (Some f) there e = absurd (not_fields _ _ (there ∙ cc))

    refused_union : (fault : Option LayError) (r : Result Placed LayError) → fault ≡ None → IsUnionTooLarge dl repr (map layout_of ps) → UnionAnswersBy fault r → r ≡ Err SizeOverflow
    refused_union None r none large (inl (e, (error, answer, name), is)) =
        let tag_distinguishes : Err error ≡ Err calculator.SizeOverflow = (union_sized (λ (l : Layout). l) 0 dl repr (map layout_of ps) (Err error) law answer).refused (subst (IsUnionTooLarge dl repr) (sym all_same) large) in
        let named_so : error ≡ calculator.SizeOverflow = cc in
        is ∙ ap (λ x. Err x) (name ∙ ap lay_error named_so)
    refused_union None r none large (inr (layout, united, is)) =
        let tag_distinguishes : Ok layout ≡ Err calculator.SizeOverflow = (union_sized (λ (l : Layout). l) 0 dl repr (map layout_of ps) (Ok layout) law united).refused (subst (IsUnionTooLarge dl repr) (sym all_same) large) in
        absurd (cc)
    refused_union (Some f) r none large e = absurd (cc)

  -- ---- an enum

  module _ (repr : ReprOptions) (all : Variants) (variants : List (List Placed)) (there : VariantsLaying dl all (Ok variants)) where
    abbrev EnumAnswersBy : Option LayError → Result Placed LayError → Type 0
    EnumAnswersBy fault r =
        MatchOption fault (Follows (IsEnumed dl repr (discriminants_of all) variants) (λ layout z. z ≡ Ok (placed_enum dl repr (discriminants_of all) variants layout)) r) (λ e. r ≡ Err e)

    large_enum : (fault : Option LayError) → enum_fault dl repr (discriminants_of all) variants ≡ fault → EnumAnswersBy fault (Err SizeOverflow) →
        (enum_fault dl repr (discriminants_of all) variants ≡ None) × IsEnumTooLarge dl repr (discriminants_of all) variants
    large_enum None none (inl (e, refused, is)) =
        let same : e ≡ SizeOverflow = cc in (
          none,
          enumed_large dl law repr (discriminants_of all) variants none (numbers_for dl law all variants there) (variants_whole dl law all variants there)
              (subst (λ x. IsEnumed dl repr (discriminants_of all) variants (Err x)) same refused),
        )
    large_enum None none (inr (layout, enumed, is)) = absurd (cc)
    large_enum (Some f) fault e = absurd (no_size (has_bad_index variants) (has_bad_align repr) (has_equal (discriminants_of all)) (list_all (is_discriminant dl repr) (discriminants_of all)) (fault ∙ cc))

    refused_enum : (fault : Option LayError) (r : Result Placed LayError) → enum_fault dl repr (discriminants_of all) variants ≡ fault → fault ≡ None →
        IsEnumTooLarge dl repr (discriminants_of all) variants → EnumAnswersBy fault r → r ≡ Err SizeOverflow
    refused_enum None r fault none large (inl (e, refused, is)) =
        let same : ◌≡◌ {A = Result Layout LayError} (Err e) (Err SizeOverflow) =
        enumed_refused dl law repr (discriminants_of all) variants fault (numbers_for dl law all variants there) (variants_whole dl law all variants there) large (Err e) refused in
        is ∙ ap (λ x. Err x) (cc)
    refused_enum None r fault none large (inr (layout, enumed, is)) =
        let same : ◌≡◌ {A = Result Layout LayError} (Ok layout) (Err SizeOverflow) =
        enumed_refused dl law repr (discriminants_of all) variants fault (numbers_for dl law all variants there) (variants_whole dl law all variants there) large (Ok layout) enumed in
        absurd (cc)
    refused_enum (Some f) r fault none large e = absurd (cc)

    least_enum : (fault : Option LayError) → enum_fault dl repr (discriminants_of all) variants ≡ fault → (p : Placed) → EnumAnswersBy fault (Ok p) → IsLeast dl (enum repr all) p
    least_enum fault is p answer =
        let found = laid_by fault (IsEnumed dl repr (discriminants_of all) variants) (placed_enum dl repr (discriminants_of all) variants) p answer in
        subst (IsLeast dl (enum repr all)) found.2 (
          variants,
          there,
          enumed_least dl law repr (discriminants_of all) variants (is ∙ found.3)
              (numbers_for dl law all variants there) (variants_whole dl law all variants there) found.0 found.1,
        )

  -- ---- a coroutine

  module _ (prefix locals : Trees) (pres ps : List Placed) (states : List (List ℕ)) (conflicts : List (ℕ × ℕ)) (before : AreLaying dl prefix (Ok pres)) (there : AreLaying dl locals (Ok ps)) where
    -- what is promised of the calculator's answer
    promised : (tag : Scalar) → IsStateTag (length states) tag → (r : Result Layout (LayoutCalculatorError Placed)) → IsStated dl pres tag (one_scalar dl tag) ps states conflicts r
        → IsPromised layout_of (λ i. i) (λ i. i) 0 dl pres tag (one_scalar dl tag) ps states (promoted_of states (conflicts_of (length ps) conflicts)) r
    promised tag is_state_tag r h = stated_promised dl law pres ps states conflicts (whole_lawful dl pres (all_whole dl law prefix pres before)) (whole_lawful dl ps (all_whole dl law locals ps there)) tag is_state_tag r h

    module _ (none : coroutine_fault (length pres) (length ps) states conflicts ≡ None) (tag : Scalar)
        (is_state_tag : IsStateTag (length states) tag) (layout : Layout)
        (stated : IsStated dl pres tag (one_scalar dl tag) ps states conflicts (Ok layout)) where
      -- the prefix fields are there
      prefix_back : fields_of (parts_at (listed_offsets layout.fields) pres) ≡ pres
      prefix_back =
          let offsets = stated_offsets dl law pres ps states conflicts
          (whole_lawful dl pres (all_whole dl law prefix pres before))
          (whole_lawful dl ps (all_whole dl law locals ps there)) none tag is_state_tag layout stated in
          fields_back (listed_offsets layout.fields) pres (omega (arith, offsets))

      stated_sized : IsCoroutineSized dl pres ps states conflicts layout.size
      stated_sized = (tag, is_state_tag, IsSizedPromoted.size (IsPromised.sized (promised tag is_state_tag (Ok layout) stated)))

    -- a coroutine has the size that its lists allow
    least_coroutine : (fault : Option LayError) → coroutine_fault (length pres) (length ps) states conflicts ≡ fault → (p : Placed) → CoroutineAnswersBy dl pres ps states conflicts fault (Ok p)
        → IsLeast dl (coroutine prefix locals states conflicts) p
    least_coroutine fault is p answer =
        let found = coroutine_laid dl law pres ps states conflicts fault p answer in
        let layout : Layout = found.2 in
        subst (IsLeast dl (coroutine prefix locals states conflicts)) found.4 (
          ps,
          there,
          subst (λ qs. IsCoroutineSized dl qs ps states conflicts layout.size)
              (sym (prefix_back (is ∙ found.5) found.0 found.1 found.2 found.3))
              (stated_sized (is ∙ found.5) found.0 found.1 found.2 found.3),
        )

    -- one that is refused for its size is too large
    large_coroutine : (fault : Option LayError) → coroutine_fault (length pres) (length ps) states conflicts ≡ fault → CoroutineAnswersBy dl pres ps states conflicts fault (Err SizeOverflow)
        → (coroutine_fault (length pres) (length ps) states conflicts ≡ None) × IsCoroutineTooLarge dl pres ps states conflicts
    large_coroutine None none (tag, is_state_tag, inl (e, (error, stated, other, name), is)) =
        let same : SizeOverflow ≡ e = cc in
        let size : error ≡ calculator.SizeOverflow = size_error error (same ∙ name) in
        (none, (tag, is_state_tag, IsSizedPromoted.too_large (IsPromised.sized (promised tag is_state_tag (Err error) stated)) (ap (λ x. Err x) size)))
    large_coroutine None none (tag, is_state_tag, inr (layout, stated, is)) = absurd (cc)
    large_coroutine (Some f) fault e =
        absurd (no_coroutine_size (nat_lt most_fields (length pres + 1 + length ps) || has_bad_index states) (nat_lt (length states) 1) (names_unknown (length ps) states conflicts) (list_any has_equal states) (fault ∙ cc))

    -- a refusal of what is too large is one for its size
    size_or_memory : (e : LayError) (error : LayoutCalculatorError Placed) → IsAnswer {A = Layout} (Err calculator.SizeOverflow) (Err error) → (error ≡ calculator.OutOfMemory → ⊥) → e ≡ lay_error error → e ≡ SizeOverflow
    size_or_memory e error (inl size) other name = let same : error ≡ calculator.SizeOverflow = cc in name ∙ ap lay_error same
    size_or_memory e error (inr memory) other name = let same : error ≡ calculator.OutOfMemory = cc in absurd (other same)

    never_laid : (layout : Layout) → IsAnswer {A = Layout} {H = Placed} (Err calculator.SizeOverflow) (Ok layout) → ⊥
    never_laid layout (inl e) = absurd (cc)
    never_laid layout (inr e) = absurd (cc)

    -- and one that is too large is refused for it
    refused_coroutine : (fault : Option LayError) (r : Result Placed LayError) → fault ≡ None → IsCoroutineTooLarge dl pres ps states conflicts → CoroutineAnswersBy dl pres ps states conflicts fault r → r ≡ Err SizeOverflow
    refused_coroutine None r none (asked, also, large) (tag, is_state_tag, answer) = by answer
      where
        here : IsTooLargeWith dl (map layout_of pres) (layout_of (one_scalar dl tag)) (map layout_of ps) states (promoted_of states (conflicts_of (length ps) conflicts))
        here =
            let same : asked ≡ tag = one_tag (length states) asked tag also is_state_tag in
            subst (λ t. IsTooLargeWith dl (map layout_of pres) (layout_of (one_scalar dl t)) (map layout_of ps) states (promoted_of states (conflicts_of (length ps) conflicts))) same large

        tag_distinguishes : (answer : Result Layout (LayoutCalculatorError Placed)) → IsStated dl pres tag (one_scalar dl tag) ps states conflicts answer → IsAnswer (Err calculator.SizeOverflow) answer
        tag_distinguishes answer h = IsSizedPromoted.refused (IsPromised.sized (promised tag is_state_tag answer h)) (asked_sized dl pres (all_whole dl law prefix pres before)) (asked_sized dl ps (all_whole dl law locals ps there)) here

        by : Follows (IsCoroutined dl pres tag (one_scalar dl tag) ps states conflicts) (λ layout z. z ≡ Ok (placed_coroutine dl pres tag ps states layout)) r → r ≡ Err SizeOverflow
        by (inl (e, (error, stated, other, name), is)) = is ∙ ap (λ x. Err x) (size_or_memory e error (tag_distinguishes (Err error) stated) other name)
        by (inr (layout, stated, is)) = absurd (never_laid layout (tag_distinguishes (Ok layout) stated))
    refused_coroutine (Some f) r none large h = absurd (cc)

  refused_pair : (a b : Scalar) (r : Result Placed LayError) → IsTooLarge dl (pair a b) → r ≡ pair_answer dl a b → r ≡ Err SizeOverflow
  refused_pair a b r (fa, fb, large) e = e ∙ pair_overflows dl a b fa fb large

  -- each type has the size that its rule or its lists allow
  pub laid_least : (t : Tree) (p : Placed) → IsLaying dl t (Ok p) → IsLeast dl t p
  laid_least (scalar s) p h = sized_scalar dl law s p h
  laid_least (pair a b) p h = sized_pair dl law a b p h
  laid_least never p h = sized_never dl law p h
  laid_least unit p h = sized_unit dl law p h
  laid_least (array count element) p (inl f) = absurd (cc f.2)
  laid_least (array count element) p (inr (q, there, e)) = sized_elements dl law count element q p e
  laid_least (vector lanes packed element) p (inl f) = absurd (cc f.2)
  laid_least (vector lanes packed element) p (inr (q, there, e)) = sized_vector dl law lanes packed element q p e
  laid_least (struct repr always_sized order all) p (inl f) = absurd (cc f.2)
  laid_least (struct repr always_sized None all) p (inr (ps, there, answer)) = least_fields (fields_fault repr ps) repr always_sized all ps p there answer
  laid_least (struct repr always_sized (Some order) all) p (inr (ps, there, answer)) = least_ordered (ordered_fault repr ps) repr always_sized order all ps p answer
  laid_least (union repr all) p (inl f) = absurd (cc f.2)
  laid_least (union repr all) p (inr (ps, there, answer)) =
      let found = laid_by (fields_fault repr ps) (IsUnited dl repr (map layout_of ps))
      (placed_together repr ps) p answer in
      subst (IsLeast dl (union repr all)) found.2 (sized_union dl law repr all ps found.0 found.1)
  laid_least (enum repr all) p (inl f) = absurd (cc f.2)
  laid_least (enum repr all) p (inr (variants, there, answer)) = least_enum repr all variants there (enum_fault dl repr (discriminants_of all) variants) refl p answer
  laid_least (coroutine prefix locals states conflicts) p (inl f) = absurd (cc f.2)
  laid_least (coroutine prefix locals states conflicts) p (inr (pres, before, inl f)) = absurd (cc f.2)
  laid_least (coroutine prefix locals states conflicts) p (inr (pres, before, inr (ps, there, answer))) =
      least_coroutine prefix locals pres ps states conflicts before there (coroutine_fault (length pres) (length ps) states conflicts) refl p answer

  -- where a coroutine's states may share all their bytes, its size is the one that this allows
  overlapped : (pres ps : List Placed) (states : List (List ℕ)) (conflicts : List (ℕ × ℕ)) (layout : Layout)
      → IsCoroutineSized dl pres ps states conflicts layout.size
      → IsOverlapSized dl pres ps states conflicts layout.size
  overlapped pres ps states conflicts layout (tag, is_state_tag, size) may =
      let rules = conflicts_of (length ps) conflicts in
      let known = subst (λ n. MayOverlap n states rules) (sym (conflict_rows (length ps) conflicts)) may in
      let answer : Result Layout (LayoutCalculatorError Placed) = Ok layout in
      let own = layout_of (one_scalar dl tag) in
      (tag, is_state_tag, overlap_promised dl (map layout_of pres) own (map layout_of ps) states rules answer known size)

  overlap_of : (t : Tree) (p : Placed) → IsLeast dl t p → HasOverlapSize dl t p
  overlap_of (coroutine prefix locals all conflicts) (placed_states layout pre offset tag tagged_variants) (ps, there, least) =
      (ps, there, overlapped (fields_of pre) ps all conflicts layout least)
  overlap_of _ _ least = tt

  pub laid_overlap : (t : Tree) (p : Placed) → IsLaying dl t (Ok p) → HasOverlapSize dl t p
  laid_overlap t p h = overlap_of t p (laid_least t p h)

  mutual
    -- a tree that is refused for a size is too large
    pub refused_overflow : (t : Tree) → IsLaying dl t (Err SizeOverflow) → IsTooLarge dl t
    refused_overflow (scalar s) h = absurd (overflow_scalar s h)
    refused_overflow (pair a b) h = overflow_pair a b h
    refused_overflow never h = absurd (cc)
    refused_overflow unit h = absurd (cc)
    refused_overflow (array count element) (inl (e, there, is)) = let same : e ≡ SizeOverflow = cc in inl (refused_overflow element (subst (λ x. IsLaying dl element (Err x)) same there))
    refused_overflow (array count element) (inr (q, there, e)) =
        inr (q, there, ltb-false (size_of q * count) (size_bound dl) (elements_large (nat_lt (size_of q * count) (size_bound dl)) count (elements_layout 0 true count (layout_of q)) q e))
    refused_overflow (struct repr always_sized None all) (inl (e, there, is)) = let same : e ≡ SizeOverflow = cc in inl (list_overflow all (subst (λ x. AreLaying dl all (Err x)) same there))
    refused_overflow (struct repr always_sized None all) (inr (ps, there, answer)) = overflow_fields (fields_fault repr ps) repr always_sized all ps refl there answer
    refused_overflow (struct repr always_sized (Some order) all) (inl (e, there, is)) = let same : e ≡ SizeOverflow = cc in inl (list_overflow all (subst (λ x. AreLaying dl all (Err x)) same there))
    refused_overflow (struct repr always_sized (Some order) all) (inr (ps, there, answer)) = overflow_ordered (ordered_fault repr ps) repr always_sized order all ps refl there answer
    refused_overflow (vector lanes packed element) (inl (e, there, is)) = let same : e ≡ SizeOverflow = cc in inl (refused_overflow element (subst (λ x. IsLaying dl element (Err x)) same there))
    refused_overflow (vector lanes packed element) (inr (q, there, e)) = inr (q, there, large_vector lanes packed q (sym e))
    refused_overflow (union repr all) (inl (e, there, is)) = let same : e ≡ SizeOverflow = cc in inl (list_overflow all (subst (λ x. AreLaying dl all (Err x)) same there))
    refused_overflow (union repr all) (inr (ps, there, answer)) = let large = large_union repr ps (fields_fault repr ps) refl answer in inr (ps, there, large.0, large.1)
    refused_overflow (enum repr all) (inl (e, there, is)) = let same : e ≡ SizeOverflow = cc in inl (variants_overflow all (subst (λ x. VariantsLaying dl all (Err x)) same there))
    refused_overflow (enum repr all) (inr (variants, there, answer)) =
        let large = large_enum repr all variants there (enum_fault dl repr (discriminants_of all) variants) refl answer in inr (variants, there, large.0, large.1)
    refused_overflow (coroutine prefix locals states conflicts) (inl (e, there, is)) =
        let same : e ≡ SizeOverflow = cc in inl (list_overflow prefix (subst (λ x. AreLaying dl prefix (Err x)) same there))
    refused_overflow (coroutine prefix locals states conflicts) (inr (pres, before, inl (e, there, is))) =
        let same : e ≡ SizeOverflow = cc in inr (pres, before, inl (list_overflow locals (subst (λ x. AreLaying dl locals (Err x)) same there)))
    refused_overflow (coroutine prefix locals states conflicts) (inr (pres, before, inr (ps, there, answer))) =
        let large = large_coroutine prefix locals pres ps states conflicts before there (coroutine_fault (length pres) (length ps) states conflicts) refl answer in
        inr (pres, before, inr (ps, there, large.0, large.1))

    list_overflow : (ts : Trees) → AreLaying dl ts (Err SizeOverflow) → AreTooLarge dl ts
    list_overflow no_trees h = absurd (cc)
    list_overflow (more_trees t ts) (inl (e, there, is)) = let same : e ≡ SizeOverflow = cc in inl (refused_overflow t (subst (λ x. IsLaying dl t (Err x)) same there))
    list_overflow (more_trees t ts) (inr (p, here, inl (e, there, is))) = let same : e ≡ SizeOverflow = cc in inr (p, here, list_overflow ts (subst (λ x. AreLaying dl ts (Err x)) same there))
    list_overflow (more_trees t ts) (inr (p, here, inr f)) = absurd (cc f.2)

    variants_overflow : (all : Variants) → VariantsLaying dl all (Err SizeOverflow) → AreVariantsTooLarge dl all
    variants_overflow no_variants h = absurd (cc)
    variants_overflow (more_variants discriminant ts others) (inl (e, there, is)) = let same : e ≡ SizeOverflow = cc in inl (list_overflow ts (subst (λ x. AreLaying dl ts (Err x)) same there))
    variants_overflow (more_variants discriminant ts others) (inr (ps, here, inl (e, there, is))) =
        let same : e ≡ SizeOverflow = cc in inr (ps, here, variants_overflow others (subst (λ x. VariantsLaying dl others (Err x)) same there))
    variants_overflow (more_variants discriminant ts others) (inr (ps, here, inr f)) = absurd (cc f.2)

  mutual
    -- a tree that is too large is refused for its size
    pub large_refused : (t : Tree) (r : Result Placed LayError) → IsTooLarge dl t → IsLaying dl t r → r ≡ Err SizeOverflow
    large_refused (scalar s) r large h = absurd large
    large_refused (pair a b) r large h = refused_pair a b r large h
    large_refused never r large h = absurd large
    large_refused unit r large h = absurd large
    large_refused (array count element) r (inl large) h = follows_refused (IsLaying dl element) (λ p r. r ≡ elements_answer dl count p) r (λ x there. large_refused element x large there) h
    large_refused (array count element) r (inr (p, there, large)) h =
        refused_elements count p r large (follows_on (IsLaying dl element) (λ p r. r ≡ elements_answer dl count p) r p there (λ x y a b. one_answer dl element x y a b) h)
    large_refused (struct repr always_sized None all) r (inl large) h = follows_refused (AreLaying dl all) (IsFieldsAnswer dl repr always_sized) r (λ x there. list_refused all x large there) h
    large_refused (struct repr always_sized None all) r (inr (ps, there, none, large)) h =
        refused_fields (fields_fault repr ps) repr always_sized all ps r none there large
        (follows_on (AreLaying dl all) (IsFieldsAnswer dl repr always_sized) r ps there (λ x y a b. one_list dl all x y a b) h)
    large_refused (struct repr always_sized (Some order) all) r (inl large) h =
        follows_refused (AreLaying dl all) (IsOrderedFieldsAnswer dl repr always_sized order) r (λ x there. list_refused all x large there) h
    large_refused (struct repr always_sized (Some order) all) r (inr (ps, there, none, allowed, large)) h =
        refused_ordered (ordered_fault repr ps) repr always_sized order all ps r none there allowed large
        (follows_on (AreLaying dl all) (IsOrderedFieldsAnswer dl repr always_sized order) r ps there (λ x y a b. one_list dl all x y a b) h)
    large_refused (vector lanes packed element) r (inl large) h =
        follows_refused (IsLaying dl element) (λ p z. z ≡ vector_answer dl lanes packed p) r (λ x there. large_refused element x large there) h
    large_refused (vector lanes packed element) r (inr (p, there, e)) h =
        follows_on (IsLaying dl element) (λ p z. z ≡ vector_answer dl lanes packed p) r p there (λ x y a b. one_answer dl element x y a b) h
        ∙ refused_vector lanes packed p e
    large_refused (union repr all) r (inl large) h = follows_refused (AreLaying dl all) (IsUnionOf dl repr) r (λ x there. list_refused all x large there) h
    large_refused (union repr all) r (inr (ps, there, none, large)) h =
        refused_union repr ps (fields_fault repr ps) r none large (follows_on (AreLaying dl all) (IsUnionOf dl repr) r ps there (λ x y a b. one_list dl all x y a b) h)
    large_refused (enum repr all) r (inl large) h = follows_refused (VariantsLaying dl all) (IsEnumOf dl repr (discriminants_of all)) r (λ x there. variants_refused all x large there) h
    large_refused (enum repr all) r (inr (variants, there, none, large)) h =
        refused_enum repr all variants there (enum_fault dl repr (discriminants_of all) variants) r refl none large
        (follows_on (VariantsLaying dl all) (IsEnumOf dl repr (discriminants_of all)) r variants there (λ x y a b. one_list_each dl all x y a b) h)
    large_refused (coroutine prefix locals states conflicts) r (inl large) h =
        follows_refused (AreLaying dl prefix) (λ pres. Follows (AreLaying dl locals) (λ ps. IsCoroutineOf dl pres ps states conflicts)) r (λ x there. list_refused prefix x large there) h
    large_refused (coroutine prefix locals states conflicts) r (inr (pres, before, inl large)) h =
        follows_refused (AreLaying dl locals) (λ ps. IsCoroutineOf dl pres ps states conflicts) r (λ x here. list_refused locals x large here)
        (follows_on (AreLaying dl prefix) (λ pres. Follows (AreLaying dl locals) (λ ps. IsCoroutineOf dl pres ps states conflicts)) r pres before (λ x y a b. one_list dl prefix x y a b) h)
    large_refused (coroutine prefix locals states conflicts) r (inr (pres, before, inr (ps, there, none, large))) h =
        refused_coroutine prefix locals pres ps states conflicts before there (coroutine_fault (length pres) (length ps) states conflicts) r none large
        (follows_on (AreLaying dl locals) (λ ps. IsCoroutineOf dl pres ps states conflicts) r ps there (λ x y a b. one_list dl locals x y a b)
        (follows_on (AreLaying dl prefix) (λ pres. Follows (AreLaying dl locals) (λ ps. IsCoroutineOf dl pres ps states conflicts)) r pres before (λ x y a b. one_list dl prefix x y a b) h))

    list_refused : (ts : Trees) (r : Result (List Placed) LayError) → AreTooLarge dl ts → AreLaying dl ts r → r ≡ Err SizeOverflow
    list_refused no_trees r large h = absurd large
    list_refused (more_trees t ts) r (inl large) h =
        follows_refused (IsLaying dl t) (λ p. Follows (AreLaying dl ts) (λ ps z. z ≡ Ok (p ∷ ps))) r (λ x there. large_refused t x large there) h
    list_refused (more_trees t ts) r (inr (p, there, large)) h =
        follows_refused (AreLaying dl ts) (λ ps z. z ≡ Ok (p ∷ ps)) r (λ x here. list_refused ts x large here)
        (follows_on (IsLaying dl t) (λ p. Follows (AreLaying dl ts) (λ ps z. z ≡ Ok (p ∷ ps))) r p there (λ x y a b. one_answer dl t x y a b) h)

    variants_refused : (all : Variants) (r : Result (List (List Placed)) LayError) → AreVariantsTooLarge dl all → VariantsLaying dl all r → r ≡ Err SizeOverflow
    variants_refused no_variants r large h = absurd large
    variants_refused (more_variants discriminant ts others) r (inl large) h =
        follows_refused (AreLaying dl ts) (λ ps. Follows (VariantsLaying dl others) (λ rest z. z ≡ Ok (ps ∷ rest))) r (λ x there. list_refused ts x large there) h
    variants_refused (more_variants discriminant ts others) r (inr (ps, there, large)) h =
        follows_refused (VariantsLaying dl others) (λ rest z. z ≡ Ok (ps ∷ rest)) r (λ x here. variants_refused others x large here)
        (follows_on (AreLaying dl ts) (λ ps. Follows (VariantsLaying dl others) (λ rest z. z ≡ Ok (ps ∷ rest))) r ps there (λ x y a b. one_list dl ts x y a b) h)

  -- what a refusal says of sizes, and a layout
  pub told_overflow : (t : Tree) (e : LayError) → IsRefused (IsLaying dl t) e → e ≡ SizeOverflow → IsTooLarge dl t
  told_overflow t e (inl memory) size = absurd (not_size_either (sym size ∙ memory))
  told_overflow t e (inr refused) size = refused_overflow t (subst (λ x. IsLaying dl t (Err x)) size refused)

  pub told_large : (t : Tree) (e : LayError) → IsRefused (IsLaying dl t) e → IsTooLarge dl t → (e ≡ SizeOverflow) ⊎ (e ≡ LayError.OutOfMemory)
  told_large t e (inl memory) large = inr memory
  told_large t e (inr refused) large = let same : Err e ≡ Err SizeOverflow = large_refused t (Err e) large refused in inl (cc)

  pub never_large : (t : Tree) (p : Placed) → IsLaying dl t (Ok p) → IsTooLarge dl t → ⊥
  never_large t p laid large = let same : Ok p ≡ Err SizeOverflow = large_refused t (Ok p) large laid in absurd (cc)

-- an error that was passed on, as one of these
pub passed_as : {B : Type 0} (P : LayError → Type 0) (e : LayError) (r : Result B LayError) → IsErrAnd r (λ error. error ≡ e) → P e → IsErrAnd r P
passed_as P e (Ok b) h p = absurd h
passed_as P e (Err error) h p = subst P (sym h) p
