-- What is promised of an enum of several variants, from the answer by the integer that is asked for.
use Rattle.std.proofs.Common.{◌≡◌, ℕ, ◌+◌, ◌<◌, ◌≤◌, ◌∙◌, Bool, List, ap, inl, inr, length, map, refl, subst, sym}
use Rattle.std.specs.Prelude.{◌⊎◌, All, IfErr, IfOk, ℤ, Option, None, Result, Ok, Err}
use Rattle.abi_base.specs.declared.data_layout.TargetDataLayout.{TargetDataLayout}
use Rattle.abi_base.specs.declared.integer.Integer.{Integer}
use Rattle.abi_base.specs.declared.struct_kind.StructKind.{StructKind}
use Rattle.abi_base.specs.DataLayout.{IsLawfulDataLayout}
use Rattle.abi_scalar.specs.declared.error.LayoutCalculatorError.{LayoutCalculatorError}
use Rattle.abi_scalar.specs.declared.error.LayoutCalculatorError.TheVariants.{OutOfMemory, SizeOverflow}
use Rattle.abi_scalar.specs.declared.layout_data.LayoutData.{LayoutData}
use Rattle.abi_scalar.specs.declared.repr.ReprOptions.{ReprOptions}
use Rattle.abi_scalar.specs.declared.variants.RangeFrom.{RangeFrom}
use Rattle.abi_scalar.specs.declared.variants.RangeToInclusive.{RangeToInclusive}
use Rattle.abi_scalar.specs.Lawful.{IsLawfulLayout}
use Rattle.abi_univariant.specs.Answer.{IsAnswer}
use Rattle.abi_univariant.specs.List.{AreSized, HasLawfulAligns}
use Rattle.abi_calc.specs.Enums.Beside.{AreDistinguished, IsToldByTag}
use Rattle.abi_calc.specs.Enums.Choice.{IsNicheAnswer, preferred_layout}
use Rattle.abi_calc.specs.Enums.Discriminants.{counted_discriminants}
use Rattle.abi_calc.specs.Enums.Lists.{AreGoodLists, AreListLayouts, behind_tag}
use Rattle.abi_calc.specs.Enums.Promised.{IsSizedEnum}
use Rattle.abi_calc.specs.Enums.Several.{AreWellFormedTags, HasEnumSize, HasTaggedSize, IsAlwaysTooLarge, IsAskedFor, IsAskedTooLarge, IsBetterAnswer, IsEnumAnswer, better_of}
use Rattle.abi_calc.specs.Enums.Sizes.{IsTaggedTooLarge}
use Rattle.abi_calc.specs.Enums.Tagged.{IsTaggedAnswer}
use Rattle.abi_calc.proofs.EnumLemmas.GoodLists.{good_lists, tag_prefix}
use Rattle.abi_calc.proofs.EnumLemmas.Lists.{good_lawful}
use Rattle.abi_calc.proofs.EnumLemmas.Promised.{HasGoodLists, by_good, by_lawful, by_size, placed_by}
use Rattle.abi_calc.proofs.EnumLemmas.Several.{better_lawful, better_size, better_told}
use Rattle.abi_calc.proofs.EnumLemmas.Sizes.{error_large, error_sized, not_too_large, too_large_whole}
use Rattle.abi_calc.proofs.EnumLemmas.Told.{asked_sized, told_by_tag}

-- ---- the layout with a tag

module _ {F V H : Type 0} (layout_of : H → LayoutData F V) (at : ℕ → F) (number : F → ℕ) (first : V) (dl : TargetDataLayout) (law : IsLawfulDataLayout dl) (repr : ReprOptions) (asked : Integer) (signed : Bool)
    (values : List ℕ) (variants : List (List H)) (aligns : HasLawfulAligns repr) (fields : All (All (λ f. IsLawfulLayout dl (layout_of f))) variants) (some : 0 < length variants) (unpacked : repr.pack ≡ None) where
  -- the variants' layouts
  abbrev vs : List (List (LayoutData F V))
  vs = map (map layout_of) variants

  -- each of them lies behind the tag
  abbrev behind : StructKind
  behind = behind_tag dl repr asked (map (map layout_of) variants)

  -- the answer with this tag
  abbrev pub IsTagged : Result (LayoutData F V) (LayoutCalculatorError H) → Type 0
  IsTagged r = IsTaggedAnswer layout_of at number first dl repr asked signed values variants r

  pub good_behind : (lists : List (LayoutData F V)) → AreListLayouts layout_of at first dl repr behind variants lists → AreGoodLists layout_of at first dl repr behind variants lists
  good_behind lists h = good_lists layout_of at first dl repr behind variants lists law fields aligns (tag_prefix layout_of dl repr asked variants law fields) tt h

  have_good : (lists : List (LayoutData F V)) → AreListLayouts layout_of at first dl repr behind variants lists → HasGoodLists layout_of at number first dl repr asked signed values behind variants lists
  have_good lists h = record { good = good_behind lists h; some = some; unpacked = unpacked }

  module _ (most : ℕ) (laws : (i : ℕ) → i ≤ most → number (at i) ≡ i) (within : All (λ fields. length fields ≤ most + 1) variants) where
    -- it is lawful
    pub tagged_lawful : (t : LayoutData F V) → IsTagged (Ok t) → IsLawfulLayout dl t
    tagged_lawful t h =
        by_lawful layout_of at number first dl repr asked signed values behind variants h.0 most laws law refl within fields (good_lawful layout_of at first dl repr behind variants h.0 (good_behind h.0 h.1)) (Ok t) (have_good h.0 h.1) h.2

    -- its tag distinguishes the variants
    pub tagged_told : (place : V → ℕ) (items : List (V × ℕ)) → values ≡ counted_discriminants place repr (map (map layout_of) variants) items
        → (asks : RangeFrom ℤ → RangeToInclusive ℕ → Integer × Bool → Type 0) → AreWellFormedTags place dl repr asks (map (map layout_of) variants) items → IsAskedFor dl repr asks values asked signed
        → (t : LayoutData F V) → IsTagged (Ok t) → IsToldByTag dl place (map (map layout_of) variants) items t
    tagged_told place items same asks tags is t h =
        let exact = subst (λ ns. IsTaggedAnswer layout_of at number first dl repr asked signed ns variants (Ok t)) same h in
        let tag_distinguishes = subst (λ ns. IsAskedFor dl repr asks ns asked signed) same is in
        told_by_tag layout_of at number first place dl repr asked signed variants items (Ok t) exact
        (placed_by layout_of at number first dl repr asked signed (counted_discriminants place repr vs items) behind variants exact.0 most laws law refl within (Ok t)
        (record { good = good_behind exact.0 exact.1; some = some; unpacked = unpacked }) exact.2)
        (tags asked signed tag_distinguishes).differ

  -- it has the tagged size
  pub tagged_sized : (asks : RangeFrom ℤ → RangeToInclusive ℕ → Integer × Bool → Type 0) → IsAskedFor dl repr asks values asked signed → (place : V → ℕ) (items : List (V × ℕ))
      → (t : LayoutData F V) → IsTagged (Ok t) → HasTaggedSize layout_of at first dl repr asks values variants t.size
  tagged_sized asks is place items t h =
      let good = have_good h.0 h.1 in
      asked_sized layout_of at number first place dl repr asked signed variants items asks values (Ok t) is (by_size layout_of at number first dl repr asked signed values behind variants h.0 (Ok t) good h.2)
      (by_good layout_of at number first dl repr asked signed values behind variants h.0 (Ok t) good)

  -- ---- refusals

  pub tagged_large : (e : LayoutCalculatorError H) → IsTagged (Err e) → e ≡ SizeOverflow → IsTaggedTooLarge dl repr behind vs
  tagged_large e (inl fault) is = error_large layout_of at first dl repr behind variants e fields tt fault is
  tagged_large e (inr (inl whole)) is = too_large_whole layout_of at first dl repr behind variants whole.0 some unpacked (good_behind whole.0 whole.1) whole.2
  tagged_large e (inr (inr want)) is = absurd (cc)

  pub tagged_no_other : (e : LayoutCalculatorError H) → All AreSized (map (map layout_of) variants) → IsTagged (Err e) → (e ≡ SizeOverflow) ⊎ (e ≡ OutOfMemory)
  tagged_no_other e sized (inl fault) = error_sized layout_of at first dl repr behind variants e sized tt fault
  tagged_no_other e sized (inr (inl whole)) = inl whole.3
  tagged_no_other e sized (inr (inr want)) = inr want

  pub tagged_fits : (t : LayoutData F V) → IsTagged (Ok t) → IsTaggedTooLarge dl repr behind vs → ⊥
  tagged_fits t h large = not_too_large layout_of at first dl repr behind variants h.0 some unpacked (good_behind h.0 h.1) h.2.small large

-- ---- the better layout

module _ {F V H : Type 0} (layout_of : H → LayoutData F V) (at : ℕ → F) (number : F → ℕ) (index : ℕ → V) (place : V → ℕ) (dl : TargetDataLayout) (law : IsLawfulDataLayout dl) (repr : ReprOptions)
    (variants : List (List H)) (aligns : HasLawfulAligns repr) (fields : All (All (λ f. IsLawfulLayout dl (layout_of f))) variants) (some : 0 < length variants) (unpacked : repr.pack ≡ None)
    (asks : RangeFrom ℤ → RangeToInclusive ℕ → Integer × Bool → Type 0) (items : List (V × ℕ)) (tags : AreWellFormedTags place dl repr asks (map (map layout_of) variants) items)
    (asked : Integer) (signed : Bool) (values : List ℕ) (same : values ≡ counted_discriminants place repr (map (map layout_of) variants) items) (is : IsAskedFor dl repr asks values asked signed)
    (found : Option (LayoutData F V)) (niche : IsNicheAnswer AreGoodLists layout_of at index dl repr variants found) where
  -- the answer with this tag
  abbrev IsByTag : Result (LayoutData F V) (LayoutCalculatorError H) → Type 0
  IsByTag r = IsTaggedAnswer layout_of at number (index 0) dl repr asked signed values variants r

  -- the better of it and of the layout with a niche, if there is one
  abbrev pub IsBetter : Result (LayoutData F V) (LayoutCalculatorError H) → Type 0
  IsBetter r = (r ≡ Err OutOfMemory) ⊎ IsBetterAnswer layout_of at number (index 0) dl repr asked signed values variants found r

  -- it is the answer to the enum
  pub answer_of : IsNicheAnswer AreListLayouts layout_of at index dl repr variants found → (r : Result (LayoutData F V) (LayoutCalculatorError H)) → IsBetter r
      → IsEnumAnswer layout_of at number index place dl repr asks variants items r
  answer_of exact r (inl want) = inl want
  answer_of exact r (inr h) =
      let asks_for = subst (λ ns. IsAskedFor dl repr asks ns asked signed) same is in
      let tagged = subst (λ ns. IsTaggedAnswer layout_of at number (index 0) dl repr asked signed ns variants h.0) same h.1 in
      inr (found, exact, h.0, (asked, signed, asks_for, tagged), h.2)

  -- what holds of the better of each layout with this tag and the one with a niche holds of the answer
  module _ (P : LayoutData F V → Type 0) (each : (t : LayoutData F V) → IsByTag (Ok t) → P (preferred_layout dl t found)) where
    of_tagged : (l : LayoutData F V) (r : Result (LayoutData F V) (LayoutCalculatorError H)) → IsByTag r → Ok l ≡ better_of dl r found → P l
    of_tagged l (Ok t) h e = let one : preferred_layout dl t found ≡ l = cc in subst P one (each t h)
    of_tagged l (Err error) h e = absurd (cc)

    better_holds : (r : Result (LayoutData F V) (LayoutCalculatorError H)) → IsBetter r → IfOk r P
    better_holds (Ok l) (inl want) = absurd (cc)
    better_holds (Ok l) (inr h) = of_tagged l h.0 h.1 h.2
    better_holds (Err e) h = tt

  -- it is lawful
  pub answer_lawful : (most : ℕ) → ((i : ℕ) → i ≤ most → number (at i) ≡ i) → All (λ fields. length fields ≤ most + 1) variants → (r : Result (LayoutData F V) (LayoutCalculatorError H)) → IsBetter r → IfOk r (IsLawfulLayout dl)
  answer_lawful most laws within r h =
      better_holds (IsLawfulLayout dl) (λ t by. better_lawful layout_of at index place dl repr variants t found law niche
      (tagged_lawful layout_of at number (index 0) dl law repr asked signed values variants aligns fields some unpacked most laws within t by)) r h

  -- a tag or a niche says its variants apart
  pub answer_told : (most : ℕ) → ((i : ℕ) → i ≤ most → number (at i) ≡ i) → All (λ fields. length fields ≤ most + 1) variants
      → (last : ℕ) → ((i : ℕ) → i ≤ last → place (index i) ≡ i) → length variants ≤ last + 1 → (r : Result (LayoutData F V) (LayoutCalculatorError H)) → IsBetter r
      → IfOk r (AreDistinguished dl place (map (map layout_of) variants) items)
  answer_told most laws within last places few r h =
      better_holds (AreDistinguished dl place (map (map layout_of) variants) items) (λ t by. better_told layout_of at index place dl repr variants last places few items t found niche
      (tagged_told layout_of at number (index 0) dl law repr asked signed values variants aligns fields some unpacked most laws within place items same asks tags is t by)) r h

  sized_of : (t : LayoutData F V) → IsByTag (Ok t) → HasEnumSize layout_of at (index 0) dl repr asks values variants (preferred_layout dl t found).size
  sized_of t by =
      better_size layout_of at index place dl repr variants asks values t found fields some unpacked niche
      (tagged_sized layout_of at number (index 0) dl law repr asked signed values variants aligns fields some unpacked asks is place items t by)

  -- the error of one with a tag
  of_error : (e : LayoutCalculatorError H) (r : Result (LayoutData F V) (LayoutCalculatorError H)) → IsByTag r → Err e ≡ better_of dl r found → IsByTag (Err e)
  of_error e (Ok t) h is = absurd (cc)
  of_error e (Err f) h is = let one : f ≡ e = cc in subst (λ x. IsByTag (Err x)) one h

  answer_large : (r : Result (LayoutData F V) (LayoutCalculatorError H)) → IsBetter r → r ≡ Err SizeOverflow → IsAskedTooLarge dl repr asks values (map (map layout_of) variants)
  answer_large r (inl want) e = absurd (cc)
  answer_large r (inr h) e =
      let error : IsByTag (Err SizeOverflow) = of_error SizeOverflow h.0 h.1 (sym e ∙ h.2) in
      (asked, signed, is, tagged_large layout_of at number (index 0) dl law repr asked signed values variants aligns fields some unpacked SizeOverflow error refl)

  answer_no_other : All AreSized (map (map layout_of) variants) → (r : Result (LayoutData F V) (LayoutCalculatorError H)) → IsBetter r → IfErr r (λ e. (e ≡ SizeOverflow) ⊎ (e ≡ OutOfMemory))
  answer_no_other sized (Ok l) h = tt
  answer_no_other sized (Err e) (inl want) = inr (cc)
  answer_no_other sized (Err e) (inr h) =
      tagged_no_other layout_of at number (index 0) dl law repr asked signed values variants aligns fields some unpacked e sized (of_error e h.0 h.1 h.2)

  named : (e : LayoutCalculatorError H) → (e ≡ SizeOverflow) ⊎ (e ≡ OutOfMemory) → IsAnswer {A = LayoutData F V} (Err SizeOverflow) (Err e)
  named e (inl one) = inl (ap (λ x. Err x) one)
  named e (inr one) = inr (ap (λ x. Err x) one)

  answer_refused : All AreSized (map (map layout_of) variants) → IsAlwaysTooLarge dl repr asks values (map (map layout_of) variants) → (r : Result (LayoutData F V) (LayoutCalculatorError H)) → IsBetter r → IsAnswer (Err SizeOverflow) r
  answer_refused sized large (Ok l) h =
      absurd (better_holds (λ m. ⊥) (λ t by. tagged_fits layout_of at number (index 0) dl law repr asked signed values variants aligns fields some unpacked t by (large asked signed is)) (Ok l) h)
  answer_refused sized large (Err e) h = named e (answer_no_other sized (Err e) h)

  -- how large it is, and when it is refused
  pub answer_sized : (r : Result (LayoutData F V) (LayoutCalculatorError H)) → IsBetter r
      → IsSizedEnum layout_of (HasEnumSize layout_of at (index 0)) dl repr asks (counted_discriminants place repr (map (map layout_of) variants) items) variants r
  answer_sized r h =
      subst (λ ns. IsSizedEnum layout_of (HasEnumSize layout_of at (index 0)) dl repr asks ns variants r) same (record {
        size = better_holds (λ l. HasEnumSize layout_of at (index 0) dl repr asks values variants l.size) sized_of r h;
        too_large = answer_large r h;
        refused = λ sized large. answer_refused sized large r h;
        no_other = λ sized. answer_no_other sized r h;
      })
