-- What an enum with a tag is answered with, by the lists of its variants.
use Rattle.std.proofs.Common.{◌≡◌, ◌≢◌, ℕ, ◌+◌, ◌*◌, ◌%◌, ◌<◌, ◌≤◌, ◌∙◌, List, ap, arith, inl, inr, length, map, subst, sym}
use Rattle.std.specs.Prelude.{◌⊎◌, All, Bool, IfErr, IfOk, Option, None, Some, Result, Ok, Err, slice_index_or, unwrap_or}
use Rattle.std.specs.Int.{◌∣◌}
use Rattle.std.specs.List.{AllPairs}
use Rattle.std.proofs.lemmas.List.{get_or-map, length-map}
use Rattle.std.proofs.lemmas.List.Elements.{All-map, All-nil}
use Rattle.std.proofs.Math.Nat.{mod-mod_of_dvd}
use Rattle.abi_base.specs.declared.primitive.Primitive.TheVariants.{Int}
use Rattle.abi_base.specs.Integer.{integer_size}
use Rattle.abi_scalar.specs.declared.scalar.Scalar.{Scalar}
use Rattle.abi_scalar.specs.declared.scalar.Scalar.TheVariants.{Initialized}
use Rattle.abi_scalar.specs.declared.wrapping_range.WrappingRange.{WrappingRange}
use Rattle.abi_scalar.specs.LeastRange.{IsSmallestOf}
use Rattle.abi_scalar.specs.Range.{IsIn, numbers_of}
use Rattle.abi_scalar.specs.Scalar.{IsLawfulScalar}
use Rattle.abi_univariant.proofs.Offsets.Rounding.{pow_dvd, rounded_to}
use Rattle.abi_univariant.specs.Answer.{IsAnswer}
use Rattle.abi_univariant.specs.List.{AreSized}
use Rattle.abi_univariant.specs.Placement.{IsSized}
use Rattle.abi_univariant.specs.Fields.{greatest_size}
use Rattle.abi_calc.specs.Enums.Discriminants.{IsTagRange}
use Rattle.abi_calc.specs.Enums.Growth.{grown_tag, start_align}
use Rattle.abi_calc.specs.Enums.Payload.{tagged_view}
use Rattle.abi_calc.specs.Enums.Places.{AreApartAmong, AreNumbersAmong, DifferAmong, HasViewOfTag}
use Rattle.abi_calc.proofs.EnumLemmas.Growth.{grown_size}
use Rattle.abi_calc.proofs.EnumLemmas.Places.{greatest_within, new_fits, tagged_apart}
use Rattle.abi_calc.proofs.EnumLemmas.Tagged.{align_of_lists_small, tag_lawful}
use Rattle.abi_calc.proofs.EnumLemmas.Views.{niche_inside, niche_of_tag, payloads_lawful, payloads_wide, view_lawful, view_true}
use Rattle.abi_base.specs.declared.data_layout.TargetDataLayout.{TargetDataLayout}
use Rattle.abi_base.specs.declared.integer.Integer.{Integer}
use Rattle.abi_base.specs.declared.struct_kind.StructKind.{StructKind}
use Rattle.abi_base.specs.DataLayout.{IsLawfulDataLayout, size_bound}
use Rattle.abi_scalar.specs.declared.error.LayoutCalculatorError.{LayoutCalculatorError}
use Rattle.abi_scalar.specs.declared.error.LayoutCalculatorError.TheVariants.{OutOfMemory, SizeOverflow}
use Rattle.abi_scalar.specs.declared.layout_data.LayoutData.{LayoutData}
use Rattle.abi_scalar.specs.declared.repr.ReprOptions.{ReprOptions}
use Rattle.abi_scalar.specs.Lawful.{IsLawfulLayout}
use Rattle.abi_calc.specs.Enums.Lists.{AreGoodLists, HaveGoodLists, IsFirstListError, behind_tag}
use Rattle.abi_calc.specs.Enums.Promised.{IsPlacedByTag}
use Rattle.abi_calc.specs.Enums.Sizes.{IsTaggedSize, IsTaggedTooLarge}
use Rattle.abi_calc.specs.Enums.Tagged.{IsTaggedBy, lists_align, lists_size, payloads_of}
use Rattle.abi_calc.proofs.EnumLemmas.Sizes.{error_large, error_sized, not_too_large, tagged_size, too_large_whole}

-- ---- the numbers of the tag

found_in : (width : ℕ) (cut : List ℕ) (found : Option WrappingRange) → IsSmallestOf width cut found → All (IsIn width (unwrap_or found (record { start = 0; end = 0 }))) cut
found_in width cut None h = subst (All (IsIn width (record { start = 0; end = 0 }))) (sym h) (All-nil (IsIn width (record { start = 0; end = 0 })))
found_in width cut (Some range) h = h.1.holds

-- what holds of each item of a list, mapped, holds of what the items are mapped to
unmap : {A B : Type 0} (P : B → Type 0) (f : A → B) (xs : List A) → All P (map f xs) → All (λ x. P (f x)) xs
unmap P f xs h = λ k d short. subst P (get_or-map f xs k d (f d) short) (h k (f d) (omega (arith, short, length-map xs f)))

-- each value, cut to the width, is in the range
pub values_in : (width : ℕ) (values : List ℕ) (range : WrappingRange) → IsTagRange width values range → All (λ v. IsIn width range (v % numbers_of width)) values
values_in width values range h =
    let cut = map (λ v. v % numbers_of width) values in
    unmap (IsIn width range) (λ v. v % numbers_of width) values (subst (λ r. All (IsIn width r) cut) (sym h.2) (found_in width cut h.0 h.1))

-- what differs in few bytes differs in more
one_wider : (few many v w : ℕ) → few ≤ many → v % numbers_of few ≢ w % numbers_of few → v % numbers_of many ≢ w % numbers_of many
one_wider few many v w le differ same =
    let whole : numbers_of few ∣ numbers_of many = pow_dvd (8 * few) (8 * many) (omega (arith, le)) in
    differ (sym (mod-mod_of_dvd (numbers_of few) v whole) ∙ ap (λ n. n % numbers_of few) same ∙ mod-mod_of_dvd (numbers_of few) w whole)

pub differ_wider : (few many : ℕ) (values : List ℕ) → few ≤ many → AllPairs (λ v w. v % numbers_of few ≢ w % numbers_of few) values → AllPairs (λ v w. v % numbers_of many ≢ w % numbers_of many) values
differ_wider few many values le pairs = λ i j d before short. one_wider few many (slice_index_or values i d) (slice_index_or values j d) le (pairs i j d before short)

-- the fields' layouts are lawful
lawful_fields : {F V H : Type 0} (layout_of : H → LayoutData F V) (dl : TargetDataLayout) (variants : List (List H)) → All (All (λ f. IsLawfulLayout dl (layout_of f))) variants → All (All (IsLawfulLayout dl)) (map (map layout_of) variants)
lawful_fields layout_of dl variants all =
    All-map (All (IsLawfulLayout dl)) (map layout_of) variants
    (λ k d short. All-map (IsLawfulLayout dl) layout_of (slice_index_or variants k d) (all k d short))

module _ {F V H : Type 0} (layout_of : H → LayoutData F V) (at : ℕ → F) (number : F → ℕ) (first : V) (dl : TargetDataLayout) (repr : ReprOptions) (asked : Integer) (signed : Bool) (values : List ℕ)
    (kind : StructKind) (variants : List (List H)) (lists : List (LayoutData F V)) where
  -- each variant's list is good, there is one, and nothing is packed
  pub record HasGoodLists : Type 0 where
    pub good : AreGoodLists layout_of at first dl repr kind variants lists
    pub some : 0 < length variants
    pub unpacked : repr.pack ≡ None

  -- why an enum with these lists has no layout
  abbrev pub IsWholeFault : LayoutCalculatorError H → Type 0
  IsWholeFault e = ((size_bound dl ≤ lists_size dl lists) × (e ≡ SizeOverflow)) ⊎ (e ≡ OutOfMemory)

  abbrev pub IsBy : LayoutData F V → Type 0
  IsBy = IsTaggedBy number (at 0) dl repr asked signed values (map (map layout_of) variants) lists

  pub by_good : (r : Result (LayoutData F V) (LayoutCalculatorError H)) → HasGoodLists → IfOk r (λ l. HaveGoodLists layout_of at first dl repr kind variants)
  by_good (Ok l) h = (lists, h.good)
  by_good (Err e) h = tt

  pub by_size : (r : Result (LayoutData F V) (LayoutCalculatorError H)) → HasGoodLists → IfOk r IsBy → IfOk r (λ l. IsTaggedSize dl repr kind (map (map layout_of) variants) l.size)
  by_size (Ok l) h by =
      subst (IsTaggedSize dl repr kind (map (map layout_of) variants)) (sym (ap (λ m. m.size) by.ranged.2)) (tagged_size layout_of at first dl repr kind variants lists h.some h.unpacked h.good)
  by_size (Err e) h by = tt

  pub by_too_large : (r : Result (LayoutData F V) (LayoutCalculatorError H)) → HasGoodLists → IfErr r IsWholeFault → r ≡ Err SizeOverflow → IsTaggedTooLarge dl repr kind (map (map layout_of) variants)
  by_too_large (Ok l) h fault is = cc
  by_too_large (Err e) h (inl large) is = too_large_whole layout_of at first dl repr kind variants lists h.some h.unpacked h.good large.0
  by_too_large (Err e) h (inr want) is = cc

  pub by_refused : (r : Result (LayoutData F V) (LayoutCalculatorError H)) → HasGoodLists → IfOk r IsBy → IfErr r IsWholeFault → IsTaggedTooLarge dl repr kind (map (map layout_of) variants) → IsAnswer (Err SizeOverflow) r
  by_refused (Ok l) h by fault large = absurd (not_too_large layout_of at first dl repr kind variants lists h.some h.unpacked h.good by.small large)
  by_refused (Err e) h by (inl is) large = inl (ap (λ x. Err x) is.1)
  by_refused (Err e) h by (inr want) large = inr (ap (λ x. Err x) want)

  pub by_no_other : (r : Result (LayoutData F V) (LayoutCalculatorError H)) → IfErr r IsWholeFault → IfErr r (λ e. (e ≡ SizeOverflow) ⊎ (e ≡ OutOfMemory))
  by_no_other (Ok l) fault = tt
  by_no_other (Err e) (inl is) = inl is.1
  by_no_other (Err e) (inr want) = inr want

  -- the tag and the fields of each variant share no byte
  by_apart : (most : ℕ) → ((i : ℕ) → i ≤ most → number (at i) ≡ i) → IsLawfulDataLayout dl → kind ≡ behind_tag dl repr asked (map (map layout_of) variants) → All (λ fields. length fields ≤ most + 1) variants
      → (r : Result (LayoutData F V) (LayoutCalculatorError H)) → HasGoodLists → IfOk r IsBy → IfOk r (λ l. AreApartAmong dl l.size (map (map layout_of) variants) l.variants)
  by_apart most law lawful is small (Ok l) h by =
      let good = subst (λ k. AreGoodLists layout_of at first dl repr k variants lists) is h.good in
      subst (λ m. AreApartAmong dl m.size (map (map layout_of) variants) m.variants) (sym by.ranged.2)
      (tagged_apart layout_of at number first dl repr asked (map (map layout_of) variants) most law lawful h.unpacked signed by.ranged.0 variants lists good h.some small)
  by_apart most law lawful is small (Err e) h by = tt

  -- the layout is lawful
  pub by_lawful : (most : ℕ) → ((i : ℕ) → i ≤ most → number (at i) ≡ i) → IsLawfulDataLayout dl → kind ≡ behind_tag dl repr asked (map (map layout_of) variants) → All (λ fields. length fields ≤ most + 1) variants
      → All (All (λ f. IsLawfulLayout dl (layout_of f))) variants → All (IsLawfulLayout dl) lists → (r : Result (LayoutData F V) (LayoutCalculatorError H)) → HasGoodLists → IfOk r IsBy → IfOk r (IsLawfulLayout dl)
  by_lawful most law lawful is small fields all (Ok l) h by =
      let vs = map (map layout_of) variants in
      let grown = grown_tag dl repr asked (start_align number vs lists) in
      let tag : Scalar = Initialized (Int grown signed) by.ranged.0 in
      let scalar : IsLawfulScalar dl tag = tag_lawful dl grown signed values by.ranged.0 by.ranged.1 in
      let payloads = payloads_of dl (integer_size asked) (integer_size grown) vs lists in
      let true_view = view_true dl tag (lists_size dl lists) (lists_align dl lists) payloads (payloads_wide dl (integer_size asked) (integer_size grown) vs lists) in
      let fits : integer_size grown ≤ greatest_size lists
      = new_fits layout_of at number first dl repr asked vs most law lawful h.unpacked variants lists (subst (λ k. AreGoodLists layout_of at first dl repr k variants lists) is h.good) h.some small in
      subst (IsLawfulLayout dl) (sym by.ranged.2) (record {
        multiple = (rounded_to (greatest_size lists) (lists_align dl lists)).multiple;
        bound = by.small;
        limit = align_of_lists_small dl lists lawful all;
        niche = niche_inside dl tag (lists_size dl lists) scalar (omega (arith, fits, greatest_within dl lists));
        view = view_lawful dl tag (lists_size dl lists) (lists_align dl lists) payloads scalar
            (payloads_lawful dl (integer_size asked) (integer_size grown) vs lists (lawful_fields layout_of dl variants fields));
        niche_of_view = niche_of_tag dl tag (tagged_view dl tag (lists_size dl lists) (lists_align dl lists) payloads) true_view;
        tag = scalar;
      })
  by_lawful most law lawful is small fields all (Err e) h by = tt

  -- its view is true of each variant
  by_view : (r : Result (LayoutData F V) (LayoutCalculatorError H)) → IfOk r IsBy → IfOk r (HasViewOfTag dl)
  by_view (Ok l) by =
      let vs = map (map layout_of) variants in
      let grown = grown_tag dl repr asked (start_align number vs lists) in
      subst (HasViewOfTag dl) (sym by.ranged.2) (view_true dl (Initialized (Int grown signed) by.ranged.0) (lists_size dl lists) (lists_align dl lists) (payloads_of dl (integer_size asked) (integer_size grown) vs lists)
      (payloads_wide dl (integer_size asked) (integer_size grown) vs lists))
  by_view (Err e) by = tt

  -- each discriminant that counts is a number of the tag
  by_numbers : (r : Result (LayoutData F V) (LayoutCalculatorError H)) → IfOk r IsBy → IfOk r (λ l. AreNumbersAmong dl values l.variants)
  by_numbers (Ok l) by = subst (λ m. AreNumbersAmong dl values m.variants) (sym by.ranged.2) (values_in (integer_size (grown_tag dl repr asked (start_align number (map (map layout_of) variants) lists))) values by.ranged.0 by.ranged.1)
  by_numbers (Err e) by = tt

  -- those that differ by the integer that was asked for differ there
  by_differ : (r : Result (LayoutData F V) (LayoutCalculatorError H)) → IfOk r IsBy → IfOk r (λ l. DifferAmong dl (integer_size asked) values l.variants)
  by_differ (Ok l) by =
      subst (λ m. DifferAmong dl (integer_size asked) values m.variants) (sym by.ranged.2)
      (differ_wider (integer_size asked) (integer_size (grown_tag dl repr asked (start_align number (map (map layout_of) variants) lists))) values (grown_size dl repr asked (start_align number (map (map layout_of) variants) lists)).no_less)
  by_differ (Err e) by = tt

  -- where the tag and the fields lie, and which numbers the tag has
  pub placed_by : (most : ℕ) → ((i : ℕ) → i ≤ most → number (at i) ≡ i) → IsLawfulDataLayout dl → kind ≡ behind_tag dl repr asked (map (map layout_of) variants) → All (λ fields. length fields ≤ most + 1) variants
      → (r : Result (LayoutData F V) (LayoutCalculatorError H)) → HasGoodLists → IfOk r IsBy → IfOk r (IsPlacedByTag dl asked values (map (map layout_of) variants))
  placed_by most law lawful is small (Ok l) h by = record {
    view = by_view (Ok l) by;
    apart = by_apart most law lawful is small (Ok l) h by;
    numbers = by_numbers (Ok l) by;
    differ = by_differ (Ok l) by;
  }
  placed_by most law lawful is small (Err e) h by = tt

-- the error of a list
module _ {F V H : Type 0} (layout_of : H → LayoutData F V) (at : ℕ → F) (first : V) (dl : TargetDataLayout) (repr : ReprOptions) (kind : StructKind) (variants : List (List H)) (e : LayoutCalculatorError H) where
  pub list_too_large : All (All (λ f. IsLawfulLayout dl (layout_of f))) variants → IsSized kind → IsFirstListError layout_of at first dl repr kind variants e ⊎ (e ≡ OutOfMemory) → ◌≡◌ {A = Result (LayoutData F V) (LayoutCalculatorError H)} (Err e) (Err SizeOverflow)
      → IsTaggedTooLarge dl repr kind (map (map layout_of) variants)
  list_too_large lawful sized (inl fault) is = error_large layout_of at first dl repr kind variants e lawful sized fault (cc)
  list_too_large lawful sized (inr want) is = cc

  pub list_no_other : All AreSized (map (map layout_of) variants) → IsSized kind → IsFirstListError layout_of at first dl repr kind variants e ⊎ (e ≡ OutOfMemory) → (e ≡ SizeOverflow) ⊎ (e ≡ OutOfMemory)
  list_no_other all sized (inl fault) = error_sized layout_of at first dl repr kind variants e all sized fault
  list_no_other all sized (inr want) = inr want

  named : (e ≡ SizeOverflow) ⊎ (e ≡ OutOfMemory) → IsAnswer {A = LayoutData F V} (Err SizeOverflow) (Err e)
  named (inl is) = inl (ap (λ x. Err x) is)
  named (inr is) = inr (ap (λ x. Err x) is)

  pub list_refused : All AreSized (map (map layout_of) variants) → IsSized kind → IsFirstListError layout_of at first dl repr kind variants e ⊎ (e ≡ OutOfMemory) → IsAnswer {A = LayoutData F V} (Err SizeOverflow) (Err e)
  list_refused all sized fault = named (list_no_other all sized fault)
