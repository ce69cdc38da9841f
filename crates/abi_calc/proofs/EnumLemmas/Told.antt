-- What says the variants of an enum apart, and what follows of its size.
use Rattle.std.proofs.Common.{◌≢◌, ℕ, ◌%◌, Bool, true, false, List, [], ◌∷◌, ap, map, subst}
use Rattle.std.specs.Prelude.{◌||◌, All, IfOk, ℤ, Result, Ok, Err, filter, if◌then◌else◌, not}
use Rattle.std.specs.List.{AllPairs}
use Rattle.std.proofs.lemmas.List.Elements.{All-cons, All-head, All-nil, All-tail}
use Rattle.abi_base.specs.declared.data_layout.TargetDataLayout.{TargetDataLayout}
use Rattle.abi_base.specs.declared.integer.Integer.{Integer}
use Rattle.abi_base.specs.declared.primitive.Primitive.TheVariants.{Int}
use Rattle.abi_base.specs.Integer.{integer_size}
use Rattle.abi_scalar.specs.declared.error.LayoutCalculatorError.{LayoutCalculatorError}
use Rattle.abi_scalar.specs.declared.layout_data.LayoutData.{LayoutData}
use Rattle.abi_scalar.specs.declared.repr.ReprOptions.{ReprOptions}
use Rattle.abi_scalar.specs.declared.scalar.Scalar.{Scalar}
use Rattle.abi_scalar.specs.declared.scalar.Scalar.TheVariants.{Initialized}
use Rattle.abi_scalar.specs.declared.variants.RangeFrom.{RangeFrom}
use Rattle.abi_scalar.specs.declared.variants.RangeToInclusive.{RangeToInclusive}
use Rattle.abi_scalar.specs.Range.{numbers_of}
use Rattle.abi_scalar.specs.Repr.{is_c}
use Rattle.abi_scalar.specs.Scalar.{IsNumberOf, scalar_size}
use Rattle.abi_scalar.specs.Variant.{variant_of, variants_of}
use Rattle.abi_calc.specs.Enums.Beside.{IsToldByTag}
use Rattle.abi_calc.specs.Enums.Discriminants.{counted_discriminants, counts, inhabited_of}
use Rattle.abi_calc.specs.Enums.Filled.{IsFilled}
use Rattle.abi_calc.specs.Enums.Growth.{grown_tag, grown_variant, start_align}
use Rattle.abi_calc.specs.Enums.Lists.{HaveGoodLists, behind_tag}
use Rattle.abi_calc.specs.Enums.Payload.{variant_with_view, tagged_view}
use Rattle.abi_calc.specs.Enums.Promised.{IsPlacedByTag}
use Rattle.abi_calc.specs.Enums.Several.{HasTaggedSize, IsAskedFor}
use Rattle.abi_calc.specs.Enums.Sizes.{IsTaggedSize}
use Rattle.abi_calc.specs.Enums.EnumStrategy.{has_no_value, variant_at}
use Rattle.abi_calc.specs.Enums.Places.{AreApartAmong, AreNumbersAmong, BeginsWithTagOf}
use Rattle.abi_calc.specs.Enums.Tagged.{IsTaggedAnswer, lists_align, lists_size, payloads_of}
use Rattle.abi_calc.proofs.EnumLemmas.Promised.{differ_wider}
use Rattle.abi_calc.proofs.EnumLemmas.Filled.{listed_count, tagged_filled}
use Rattle.abi_calc.proofs.EnumLemmas.Growth.{grown_size}

-- ---- the discriminants of variants that may have values

narrowed : {V : Type 0} (P : ℕ → Type 0) (fixed some : Bool) (item : V × ℕ) (ks js : List (V × ℕ)) → (All P (map (λ i. i.1) ks) → All P (map (λ i. i.1) js))
    → All P (map (λ i. i.1) (if fixed || some then item ∷ ks else ks)) → All P (map (λ i. i.1) (if some then item ∷ js else js))
narrowed P true true item ks js rest all = All-cons P item.1 (map (λ i. i.1) js) (All-head P item.1 (map (λ i. i.1) ks) all) (rest (All-tail P item.1 (map (λ i. i.1) ks) all))
narrowed P true false item ks js rest all = rest (All-tail P item.1 (map (λ i. i.1) ks) all)
narrowed P false true item ks js rest all = All-cons P item.1 (map (λ i. i.1) js) (All-head P item.1 (map (λ i. i.1) ks) all) (rest (All-tail P item.1 (map (λ i. i.1) ks) all))
narrowed P false false item ks js rest all = rest all

-- each of them counts
pub inhabited_count : {F V : Type 0} (P : ℕ → Type 0) (place : V → ℕ) (repr : ReprOptions) (variants : List (List (LayoutData F V))) (items : List (V × ℕ))
    → All P (counted_discriminants place repr variants items) → All P (inhabited_of place variants items)
inhabited_count P place repr variants [] all = All-nil P
inhabited_count P place repr variants (item ∷ items) all =
    narrowed P (is_c repr) (not (has_no_value (variant_at variants (place item.0)))) item (filter (counts place repr variants) items)
    (filter (λ i. not (has_no_value (variant_at variants (place i.0)))) items) (inhabited_count P place repr variants items) all

-- ---- a tag of its own

module _ {F V H : Type 0} (layout_of : H → LayoutData F V) (at : ℕ → F) (number : F → ℕ) (first : V) (place : V → ℕ) (dl : TargetDataLayout) (repr : ReprOptions) (asked : Integer) (signed : Bool)
    (variants : List (List H)) (items : List (V × ℕ)) where
  -- what is promised of an enum with a tag says that it distinguishes the variants
  pub told_by_tag : (r : Result (LayoutData F V) (LayoutCalculatorError H)) → IsTaggedAnswer layout_of at number first dl repr asked signed (counted_discriminants place repr (map (map layout_of) variants) items) variants r
      → IfOk r (IsPlacedByTag dl asked (counted_discriminants place repr (map (map layout_of) variants) items) (map (map layout_of) variants))
      → AllPairs (λ v w. v % numbers_of (integer_size asked) ≢ w % numbers_of (integer_size asked)) (inhabited_of place (map (map layout_of) variants) items)
      → IfOk r (IsToldByTag dl place (map (map layout_of) variants) items)
  told_by_tag (Ok l) exact placed differ =
      let vs = map (map layout_of) variants in
      let by = exact.2 in
      let grown = grown_tag dl repr asked (start_align number vs exact.0) in
      let tag : Scalar = Initialized (Int grown signed) by.ranged.0 in
      let tag_distinguishes = ap (λ m. m.variants) by.ranged.2 in
      record {
        tag = tag;
        field = at 0;
        place = ap (λ m. m.fields) by.ranged.2;
        layouts = map (λ list. variant_with_view (tagged_view dl tag (lists_size dl exact.0) (lists_align dl exact.0) (payloads_of dl (integer_size asked) (integer_size grown) vs exact.0)) (lists_size dl exact.0) (grown_variant (integer_size asked) (integer_size grown) (variant_of list))) exact.0;
        tag_distinguishes = tag_distinguishes;
        apart = subst (AreApartAmong dl l.size vs) tag_distinguishes placed.apart;
        numbers = inhabited_count (λ v. IsNumberOf (scalar_size dl tag) tag (v % numbers_of (scalar_size dl tag))) place repr vs items (subst (AreNumbersAmong dl (counted_discriminants place repr vs items)) tag_distinguishes placed.numbers);
        differ = differ_wider (integer_size asked) (integer_size grown) (inhabited_of place vs items) (grown_size dl repr asked (start_align number vs exact.0)).no_less differ;
        view = subst (λ v. BeginsWithTagOf dl v l.backend_repr) tag_distinguishes placed.view;
        filled = subst (λ v. IsFilled dl l.backend_repr (variants_of v) vs) tag_distinguishes
            (tagged_filled number (at 0) dl repr asked signed (counted_discriminants place repr vs items) vs exact.0 l
            (listed_count layout_of at first dl repr (behind_tag dl repr asked vs) variants exact.0 exact.1) by);
        niche = ap (λ m. m.largest_niche) by.ranged.2;
      }
  told_by_tag (Err e) exact placed differ = tt

  -- the size, beside the integer that is asked for
  pub asked_sized : (asks : RangeFrom ℤ → RangeToInclusive ℕ → Integer × Bool → Type 0) (values : List ℕ) (r : Result (LayoutData F V) (LayoutCalculatorError H)) → IsAskedFor dl repr asks values asked signed
      → IfOk r (λ l. IsTaggedSize dl repr (behind_tag dl repr asked (map (map layout_of) variants)) (map (map layout_of) variants) l.size)
      → IfOk r (λ l. HaveGoodLists layout_of at first dl repr (behind_tag dl repr asked (map (map layout_of) variants)) variants)
      → IfOk r (λ l. HasTaggedSize layout_of at first dl repr asks values variants l.size)
  asked_sized asks values (Ok l) is size good = (asked, signed, is, size, good)
  asked_sized asks values (Err e) is size good = tt
