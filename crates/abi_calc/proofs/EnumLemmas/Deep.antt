-- What is promised of an enum of several variants, from the answer that the rules give it.
use Rattle.std.proofs.Common.{◌≡◌, ℕ, ◌+◌, ◌==◌, ◌<◌, ◌≤◌, ◌∙◌, Bool, true, false, List, [], ◌∷◌, ap, ap₂, arith, inl, inr, length, map, refl, subst, sym}
use Rattle.std.specs.Prelude.{◌&&◌, ◌⊎◌, ◌≢◌, ⊤, All, IsSome, ℤ, max, Option, None, Some, Result, Ok, Err, if◌then◌else◌}
use Rattle.std.specs.List.{list_all}
use Rattle.std.proofs.lemmas.List.{length-map}
use Rattle.std.proofs.lemmas.List.Elements.{All-cons, All-nil}
use Rattle.abi_base.specs.declared.data_layout.TargetDataLayout.{TargetDataLayout}
use Rattle.abi_base.specs.declared.integer.Integer.{Integer}
use Rattle.abi_base.specs.declared.struct_kind.StructKind.{StructKind}
use Rattle.abi_base.specs.declared.struct_kind.StructKind.TheVariants.{AlwaysSized}
use Rattle.abi_base.specs.declared.primitive.Primitive.TheVariants.{Int}
use Rattle.abi_base.specs.DataLayout.{IsLawfulDataLayout}
use Rattle.abi_base.specs.Integer.{integer_size}
use Rattle.abi_scalar.specs.declared.backend_repr.BackendRepr.{BackendRepr}
use Rattle.abi_scalar.specs.declared.backend_repr.BackendRepr.TheVariants.{Scalar as OneScalar, ScalarPair, SimdScalableVector, SimdVector, Memory}
use Rattle.abi_scalar.specs.declared.error.LayoutCalculatorError.{LayoutCalculatorError}
use Rattle.abi_scalar.specs.declared.error.LayoutCalculatorError.TheVariants.{OutOfMemory, SizeOverflow}
use Rattle.abi_scalar.specs.declared.layout_data.LayoutData.{LayoutData}
use Rattle.abi_scalar.specs.declared.repr.ReprOptions.{ReprOptions}
use Rattle.abi_scalar.specs.declared.scalar.Scalar.{Scalar}
use Rattle.abi_scalar.specs.declared.scalar.Scalar.TheVariants.{Initialized, Union}
use Rattle.abi_scalar.specs.declared.variants.RangeFrom.{RangeFrom}
use Rattle.abi_scalar.specs.declared.variants.RangeToInclusive.{RangeToInclusive}
use Rattle.abi_scalar.specs.declared.variants.TagEncoding.TheVariants.{Niche as InNiche}
use Rattle.abi_scalar.specs.declared.variants.VariantLayout.{VariantLayout}
use Rattle.abi_scalar.specs.declared.variants.Variants.{Variants}
use Rattle.abi_scalar.specs.declared.variants.Variants.TheVariants.{Multiple}
use Rattle.abi_scalar.specs.Lawful.{IsLawfulLayout}
use Rattle.abi_scalar.specs.Pair.{second_offset}
use Rattle.abi_scalar.specs.Reserve.{reserved}
use Rattle.abi_scalar.specs.Scalar.{primitive_of, scalar_size}
use Rattle.abi_univariant.specs.Answer.{IsAnswer}
use Rattle.abi_univariant.specs.List.{AreSized, HasLawfulAligns}
use Rattle.abi_univariant.specs.Part.{is_unsized}
use Rattle.abi_calc.specs.declared.enums.payload.Payload.{Payload}
use Rattle.abi_calc.specs.declared.enums.payload.Payload.TheVariants.{Nothing, One, Other}
use Rattle.abi_calc.specs.Enums.Answer.{HasOneEach}
use Rattle.abi_calc.specs.Enums.Beside.{AreDistinguished, IsToldByTag}
use Rattle.abi_calc.specs.Enums.Choice.{IsNicheAnswer, preferred_layout, takes_niche}
use Rattle.abi_calc.specs.Enums.Discriminants.{counted_discriminants}
use Rattle.abi_calc.specs.Enums.Growth.{grown_tag, start_align}
use Rattle.abi_calc.specs.Enums.Lists.{AreGoodLists, AreListLayouts, behind_tag}
use Rattle.abi_calc.specs.Enums.Niche.{needing_numbers, niche_layout, niche_view, others_empty, span_count, untagged_of, view_with}
use Rattle.abi_calc.specs.Enums.EnumStrategy.{has_no_value}
use Rattle.abi_calc.specs.Enums.Payload.{beside_tag, common_of, tagged_view}
use Rattle.abi_calc.specs.Enums.Several.{AreWellFormedTags, HasEnumSize, HasTaggedSize, IsAlwaysTooLarge, IsAskedAnswer, IsAskedFor, IsAskedTooLarge, IsEnumAnswer, IsSeveralAnswer, better_of}
use Rattle.abi_calc.specs.Enums.Sizes.{IsTaggedTooLarge}
use Rattle.abi_calc.specs.Enums.Tagged.{IsTaggedAnswer, IsTaggedBy, lists_align, lists_size, payloads_of}
use Rattle.abi_calc.proofs.EnumLemmas.DiscrRange.{tagged_fits, tagged_large, tagged_lawful as asked_lawful, tagged_no_other, tagged_sized as asked_size, tagged_told as asked_told}
use Rattle.abi_calc.proofs.EnumLemmas.Lists.{good_exact}
use Rattle.abi_calc.proofs.EnumLemmas.InNiche.{needing_others, needing_within, span_holds}
use Rattle.abi_calc.proofs.EnumLemmas.NicheLawful.{niche_parts}
use Rattle.abi_calc.proofs.EnumLemmas.Several.{IsFound, better_lawful, better_size, better_told, by_both, found_of}
use Rattle.abi_calc.proofs.EnumLemmas.GoodLists.{good_lists}

-- ---- the views of enums are sized

if_sized : (b : Bool) (v w : BackendRepr) → is_unsized v ≡ false → is_unsized w ≡ false → is_unsized (if b then v else w) ≡ false
if_sized true v w h k = h
if_sized false v w h k = k

beside_sized : (dl : TargetDataLayout) (tag : Scalar) (size align : ℕ) (p : Payload) → is_unsized (beside_tag dl tag size align p) ≡ false
beside_sized dl tag size align Nothing = refl
beside_sized dl tag size align (One scalar offset) = if_sized _ (ScalarPair tag scalar (second_offset dl tag scalar)) (Memory true) refl refl
beside_sized dl tag size align Other = refl

tagged_view_sized : (dl : TargetDataLayout) (tag : Scalar) (size align : ℕ) (payloads : List Payload) → is_unsized (tagged_view dl tag size align payloads) ≡ false
tagged_view_sized dl tag size align payloads =
    if_sized (scalar_size dl tag == size) (OneScalar tag) (beside_tag dl tag size align (common_of dl payloads)) refl (beside_sized dl tag size align (common_of dl payloads))

with_sized : (offset : ℕ) (tag : Scalar) (view : BackendRepr) → is_unsized (view_with offset tag view) ≡ false
with_sized offset tag (OneScalar scalar) = refl
with_sized offset tag (ScalarPair a b b_offset) = if_sized (offset == 0) (ScalarPair tag (Union (primitive_of b)) b_offset) (ScalarPair (Union (primitive_of a)) tag b_offset) refl refl
with_sized offset tag (SimdScalableVector element count vectors) = refl
with_sized offset tag (SimdVector element count) = refl
with_sized offset tag (Memory sized) = refl

niche_view_sized : {F V : Type 0} (size align untagged : ℕ) (list : LayoutData F V) (offset : ℕ) (tag : Scalar) (variants : List (VariantLayout F))
    → is_unsized (niche_view size align untagged list offset tag variants) ≡ false
niche_view_sized size align untagged list offset tag variants =
    if_sized ((size == list.size) && (align == list.align.abi) && others_empty untagged 0 variants) (view_with offset tag list.backend_repr) (Memory true) (with_sized offset tag list.backend_repr) refl

-- that of a tagged enum is
pub tagged_is_sized : {F V : Type 0} (number : F → ℕ) (first : F) (dl : TargetDataLayout) (repr : ReprOptions) (asked : Integer) (signed : Bool) (values : List ℕ) (variants : List (List (LayoutData F V))) (lists : List (LayoutData F V))
    (l : LayoutData F V) → IsTaggedBy number first dl repr asked signed values variants lists l → is_unsized l.backend_repr ≡ false
tagged_is_sized number first dl repr asked signed values variants lists l by =
    let grown = grown_tag dl repr asked (start_align number variants lists) in
    ap (λ m. is_unsized m.backend_repr) by.ranged.2
    ∙ tagged_view_sized dl (Initialized (Int grown signed) by.ranged.0) (lists_size dl lists) (lists_align dl lists) (payloads_of dl (integer_size asked) (integer_size grown) variants lists)

-- and that of an enum with a niche
pub niche_is_sized : {F V : Type 0} (first : F) (index : ℕ → V) (dl : TargetDataLayout) (repr : ReprOptions) (variants : List (List (LayoutData F V))) (lists : List (LayoutData F V)) (l : LayoutData F V)
    → niche_layout first index dl repr variants lists ≡ Some l → is_unsized l.backend_repr ≡ false
niche_is_sized first index dl repr variants lists l is =
    let p = niche_parts first index dl repr variants lists l is in
    ap (λ m. is_unsized m.backend_repr) p.is
    ∙ niche_view_sized (lists_size dl lists) (lists_align dl lists) (untagged_of lists) p.list p.niche.offset (reserved dl p.niche (span_count p.span)).1 p.placed

-- ---- which enums have no values

-- the lists that have none are those of variants that have none
pub no_values : {F V H : Type 0} (layout_of : H → LayoutData F V) (at : ℕ → F) (first : V) (dl : TargetDataLayout) (repr : ReprOptions) (kind : StructKind) (variants : List (List H)) (lists : List (LayoutData F V))
    → AreListLayouts layout_of at first dl repr kind variants lists → list_all (λ list. list.uninhabited) lists ≡ list_all (λ fields. has_no_value fields) (map (map layout_of) variants)
no_values layout_of at first dl repr kind [] [] h = refl
no_values layout_of at first dl repr kind [] (l ∷ ls) h = elim h [ ]
no_values layout_of at first dl repr kind (v ∷ vs) [] h = elim h [ ]
no_values layout_of at first dl repr kind (v ∷ vs) (l ∷ ls) h = ap₂ (λ b c. b && c) h.0.2.uninhabited (no_values layout_of at first dl repr kind vs ls h.1)

-- by a niche, the first variant of the span is one of so many, and not the untagged one
abbrev pub HasOwnNumber : (count : ℕ) → Variants ℕ ℕ → Type 0
HasOwnNumber count (Multiple tag (InNiche untagged span start) field layouts) = (span.start < count) × (span.start ≢ untagged)
HasOwnNumber count _ = ⊤

-- ---- how long lists are

-- the greatest of their lengths
abbrev longest : {A : Type 0} → List (List A) → ℕ
longest [] = 0
longest (x ∷ xs) = max (length x) (longest xs)

within : {A : Type 0} (xs : List (List A)) (most : ℕ) → longest xs ≤ most → All (λ x. length x ≤ most + 1) xs
within [] most h = All-nil (λ x. length x ≤ most + 1)
within (x ∷ xs) most h = All-cons (λ x. length x ≤ most + 1) x xs (omega (arith, h)) (within xs most (omega (arith, h)))

module _ {H : Type 0} (layout_of : H → LayoutData ℕ ℕ) (dl : TargetDataLayout) (law : IsLawfulDataLayout dl) (repr : ReprOptions) (asks : RangeFrom ℤ → RangeToInclusive ℕ → Integer × Bool → Type 0)
    (variants : List (List H)) (items : List (ℕ × ℕ)) (aligns : HasLawfulAligns repr) (fields : All (All (λ f. IsLawfulLayout dl (layout_of f))) variants) (some : 0 < length variants)
    (each : HasOneEach (λ v. v) (length variants) items) (tags : AreWellFormedTags (λ v. v) dl repr asks (map (map layout_of) variants) items) where
  -- what the rules answer
  abbrev pub Answers : Result (LayoutData ℕ ℕ) (LayoutCalculatorError H) → Type 0
  Answers r = IsSeveralAnswer layout_of (λ i. i) (λ i. i) (λ i. i) (λ i. i) dl repr asks variants (λ given. given ≡ items) r

  abbrev vs : List (List (LayoutData ℕ ℕ))
  vs = map (map layout_of) variants

  abbrev values : List ℕ
  values = counted_discriminants (λ v. v) repr (map (map layout_of) variants) items

  abbrev behind : Integer → StructKind
  behind asked = behind_tag dl repr asked (map (map layout_of) variants)

  -- the answer by discriminants that are given
  abbrev ByItems : List (ℕ × ℕ) → Result (LayoutData ℕ ℕ) (LayoutCalculatorError H) → Type 0
  ByItems given r = IsEnumAnswer layout_of (λ i. i) (λ i. i) (λ i. i) (λ i. i) dl repr asks variants given r

  by_items : (r : Result (LayoutData ℕ ℕ) (LayoutCalculatorError H)) (given : List (ℕ × ℕ)) → given ≡ items → ByItems given r → ByItems items r
  by_items r given same h = subst (λ g. ByItems g r) same h

  -- ---- the layout with a tag

  abbrev IsAskedTag : Result (LayoutData ℕ ℕ) (LayoutCalculatorError H) → Type 0
  IsAskedTag r = IsAskedAnswer layout_of (λ i. i) (λ i. i) 0 dl repr asks values variants r

  abbrev IsTagged : Integer → Bool → Result (LayoutData ℕ ℕ) (LayoutCalculatorError H) → Type 0
  IsTagged asked signed r = IsTaggedAnswer layout_of (λ i. i) (λ i. i) 0 dl repr asked signed values variants r

  -- it is lawful
  tagged_lawful : (asked : Integer) (signed : Bool) (t : LayoutData ℕ ℕ) → repr.pack ≡ None → IsTagged asked signed (Ok t) → IsLawfulLayout dl t
  tagged_lawful asked signed t unpacked h =
      asked_lawful layout_of (λ i. i) (λ i. i) 0 dl law repr asked signed values variants aligns fields some unpacked (longest variants) (λ i le. refl) (within variants (longest variants) (omega arith)) t h

  -- its tag distinguishes the variants
  tagged_told : (asked : Integer) (signed : Bool) (t : LayoutData ℕ ℕ) → repr.pack ≡ None → IsAskedFor dl repr asks values asked signed → IsTagged asked signed (Ok t) → IsToldByTag dl (λ v. v) vs items t
  tagged_told asked signed t unpacked is h =
      asked_told layout_of (λ i. i) (λ i. i) 0 dl law repr asked signed values variants aligns fields some unpacked (longest variants) (λ i le. refl) (within variants (longest variants) (omega arith)) (λ v. v) items refl asks tags is t h

  -- it has the tagged size
  tagged_sized : (asked : Integer) (signed : Bool) (t : LayoutData ℕ ℕ) → repr.pack ≡ None → IsAskedFor dl repr asks values asked signed → IsTagged asked signed (Ok t)
      → HasTaggedSize layout_of (λ i. i) 0 dl repr asks values variants t.size
  tagged_sized asked signed t unpacked is h =
      asked_size layout_of (λ i. i) (λ i. i) 0 dl law repr asked signed values variants aligns fields some unpacked asks is (λ v. v) items t h

  -- ---- the layout with a niche

  abbrev IsNiche : Option (LayoutData ℕ ℕ) → Type 0
  IsNiche found = IsNicheAnswer AreListLayouts layout_of (λ i. i) (λ i. i) dl repr variants found

  -- the lists that it comes from are good
  good_alone : (lists : List (LayoutData ℕ ℕ)) → AreListLayouts layout_of (λ i. i) 0 dl repr AlwaysSized variants lists → AreGoodLists layout_of (λ i. i) 0 dl repr AlwaysSized variants lists
  good_alone lists h = good_lists layout_of (λ i. i) 0 dl repr AlwaysSized variants lists law fields aligns tt tt h

  good_niche : (found : Option (LayoutData ℕ ℕ)) → IsNiche found → IsNicheAnswer AreGoodLists layout_of (λ i. i) (λ i. i) dl repr variants found
  good_niche found (inl fixed) = inl fixed
  good_niche found (inr (inl none)) = inr (inl none)
  good_niche found (inr (inr h)) = inr (inr (h.0, h.1, good_alone h.1 h.2, h.3))

  -- what holds of the layout with a tag, and of one with a niche, holds of the better one
  better_holds : (P : LayoutData ℕ ℕ → Type 0) (tagged : LayoutData ℕ ℕ) (found : Option (LayoutData ℕ ℕ)) → IsNiche found → P tagged
      → ((lists : List (LayoutData ℕ ℕ)) (l : LayoutData ℕ ℕ) → AreListLayouts layout_of (λ i. i) 0 dl repr AlwaysSized variants lists → niche_layout 0 (λ i. i) dl repr vs lists ≡ Some l → P l)
      → P (preferred_layout dl tagged found)
  better_holds P tagged None niche one other = one
  better_holds P tagged (Some l) niche one other =
      let h : IsFound layout_of (λ i. i) (λ i. i) (λ v. v) dl repr variants l
      = found_of layout_of (λ i. i) (λ i. i) (λ v. v) dl repr variants (Some l) l refl (good_niche (Some l) niche) in
      by_both P (takes_niche dl tagged l) l tagged (λ takes. other h.lists l (good_exact layout_of (λ i. i) 0 dl repr AlwaysSized variants h.lists h.good) h.is) (λ leaves. one)

  -- ---- the answer

  -- The layout is the better one of that with a tag and, if there is one, that with a niche.
  record IsBetterOf (l : LayoutData ℕ ℕ) : Type 0 where
    unpacked : repr.pack ≡ None
    found : Option (LayoutData ℕ ℕ)
    niche : IsNiche found
    tagged : LayoutData ℕ ℕ
    asked : Integer
    signed : Bool
    is : IsAskedFor dl repr asks values asked signed
    with_tag : IsTagged asked signed (Ok tagged)
    same : preferred_layout dl tagged found ≡ l

  from_tagged : (l : LayoutData ℕ ℕ) (found : Option (LayoutData ℕ ℕ)) → repr.pack ≡ None → IsNiche found → (r : Result (LayoutData ℕ ℕ) (LayoutCalculatorError H))
      → IsAskedTag r → Ok l ≡ better_of dl r found → IsBetterOf l
  from_tagged l found unpacked niche (Ok t) a e = let same : preferred_layout dl t found ≡ l = cc in record { unpacked = unpacked; found = found; niche = niche; tagged = t; asked = a.0; signed = a.1; is = a.2; with_tag = a.3; same = same }
  from_tagged l found unpacked niche (Err error) a e = absurd (cc)

  from_enum : (l : LayoutData ℕ ℕ) → repr.pack ≡ None → ByItems items (Ok l) → IsBetterOf l
  from_enum l unpacked (inl want) = absurd (cc)
  from_enum l unpacked (inr h) = from_tagged l h.0 unpacked h.1 h.2 h.3 h.4

  from_answer : (l : LayoutData ℕ ℕ) → Answers (Ok l) → IsBetterOf l
  from_answer l (inl packed) = absurd (cc packed.1)
  from_answer l (inr (inl want)) = absurd (cc want.1)
  from_answer l (inr (inr h)) = from_enum l h.0 (by_items (Ok l) h.1 h.2 h.3)

  -- an enum's layout is lawful
  pub enum_lawful : (l : LayoutData ℕ ℕ) → Answers (Ok l) → IsLawfulLayout dl l
  enum_lawful l h =
      let b = from_answer l h in
      subst (IsLawfulLayout dl) b.same
      (better_lawful layout_of (λ i. i) (λ i. i) (λ v. v) dl repr variants b.tagged b.found law (good_niche b.found b.niche) (tagged_lawful b.asked b.signed b.tagged b.unpacked b.with_tag))

  -- a tag or a niche says its variants apart
  pub enum_told : (l : LayoutData ℕ ℕ) → Answers (Ok l) → AreDistinguished dl (λ v. v) (map (map layout_of) variants) items l
  enum_told l h =
      let b = from_answer l h in
      subst (AreDistinguished dl (λ v. v) (map (map layout_of) variants) items) b.same
      (better_told layout_of (λ i. i) (λ i. i) (λ v. v) dl repr variants (length variants) (λ i le. refl) (omega arith) items b.tagged b.found (good_niche b.found b.niche)
      (tagged_told b.asked b.signed b.tagged b.unpacked b.is b.with_tag))

  -- it has the enum's size
  pub enum_size : (l : LayoutData ℕ ℕ) → Answers (Ok l) → HasEnumSize layout_of (λ i. i) 0 dl repr asks (counted_discriminants (λ v. v) repr (map (map layout_of) variants) items) variants l.size
  enum_size l h =
      let b = from_answer l h in
      subst (λ (m : LayoutData ℕ ℕ). HasEnumSize layout_of (λ i. i) 0 dl repr asks values variants m.size) b.same
      (better_size layout_of (λ i. i) (λ i. i) (λ v. v) dl repr variants asks values b.tagged b.found fields some b.unpacked (good_niche b.found b.niche)
      (tagged_sized b.asked b.signed b.tagged b.unpacked b.is b.with_tag))

  -- by a niche, the first variant of the span is one of those that a number names
  pub enum_span : (l : LayoutData ℕ ℕ) → Answers (Ok l) → HasOwnNumber (length variants) l.variants
  enum_span l h =
      let b = from_answer l h in
      subst (λ (m : LayoutData ℕ ℕ). HasOwnNumber (length variants) m.variants) b.same
      (better_holds (λ m. HasOwnNumber (length variants) m.variants) b.tagged b.found b.niche
      (subst (λ (m : LayoutData ℕ ℕ). HasOwnNumber (length variants) m.variants) (sym b.with_tag.2.ranged.2) tt)
      (λ lists m are is.
      let p = niche_parts 0 (λ i. i) dl repr vs lists m is in
      let untagged : ℕ = untagged_of lists in
      let first : p.span.0 < length vs = (span_holds (λ i. i < length vs) (needing_numbers untagged vs) p.span p.ends (needing_within untagged vs)).0 in
      let other : p.span.0 ≢ untagged = (span_holds (λ i. i ≢ untagged) (needing_numbers untagged vs) p.span p.ends (needing_others untagged vs)).0 in
      subst (λ (m : LayoutData ℕ ℕ). HasOwnNumber (length variants) m.variants) (sym p.is) (omega (arith, first, length-map variants (map layout_of)), other)))

  -- it is sized
  pub enum_sized : (l : LayoutData ℕ ℕ) → Answers (Ok l) → is_unsized l.backend_repr ≡ false
  enum_sized l h =
      let b = from_answer l h in
      subst (λ (m : LayoutData ℕ ℕ). is_unsized m.backend_repr ≡ false) b.same
      (better_holds (λ m. is_unsized m.backend_repr ≡ false) b.tagged b.found b.niche
      (tagged_is_sized (λ i. i) 0 dl repr b.asked b.signed values vs b.with_tag.0 b.tagged b.with_tag.2) (λ lists m are is. niche_is_sized 0 (λ i. i) dl repr vs lists m is))

  -- it has no values where each variant has a field without values
  pub enum_flag : (l : LayoutData ℕ ℕ) → Answers (Ok l) → l.uninhabited ≡ list_all (λ fields. has_no_value fields) (map (map layout_of) variants)
  enum_flag l h =
      let b = from_answer l h in
      subst (λ (m : LayoutData ℕ ℕ). m.uninhabited ≡ list_all (λ fields. has_no_value fields) vs) b.same
      (better_holds (λ m. m.uninhabited ≡ list_all (λ fields. has_no_value fields) vs) b.tagged b.found b.niche
      (ap (λ (m : LayoutData ℕ ℕ). m.uninhabited) b.with_tag.2.ranged.2 ∙ no_values layout_of (λ i. i) 0 dl repr (behind b.asked) variants b.with_tag.0 b.with_tag.1)
      (λ lists m are is. ap (λ (n : LayoutData ℕ ℕ). n.uninhabited) (niche_parts 0 (λ i. i) dl repr vs lists m is).is ∙ no_values layout_of (λ i. i) 0 dl repr AlwaysSized variants lists are))

  -- ---- refusals

  large_error : (asked : Integer) (signed : Bool) (e : LayoutCalculatorError H) → repr.pack ≡ None → IsTagged asked signed (Err e) → e ≡ SizeOverflow → IsTaggedTooLarge dl repr (behind asked) vs
  large_error asked signed e unpacked h is = tagged_large layout_of (λ i. i) (λ i. i) 0 dl law repr asked signed values variants aligns fields some unpacked e h is

  large_tagged : (found : Option (LayoutData ℕ ℕ)) → repr.pack ≡ None → (r : Result (LayoutData ℕ ℕ) (LayoutCalculatorError H)) → IsAskedTag r
      → Err SizeOverflow ≡ better_of dl r found → IsAskedTooLarge dl repr asks values vs
  large_tagged found unpacked (Ok t) a is = absurd (cc)
  large_tagged found unpacked (Err e) a is = let same : e ≡ SizeOverflow = cc in (a.0, a.1, a.2, large_error a.0 a.1 e unpacked a.3 same)

  large_enum : repr.pack ≡ None → ByItems items (Err SizeOverflow) → IsAskedTooLarge dl repr asks values vs
  large_enum unpacked (inl want) = absurd (cc)
  large_enum unpacked (inr h) = large_tagged h.0 unpacked h.2 h.3 h.4

  -- an enum that is refused for its size is too large
  pub enum_too_large : Answers (Err SizeOverflow) → IsAskedTooLarge dl repr asks (counted_discriminants (λ v. v) repr (map (map layout_of) variants) items) (map (map layout_of) variants)
  enum_too_large (inl packed) = absurd (cc packed.1)
  enum_too_large (inr (inl want)) = absurd (cc want.1)
  enum_too_large (inr (inr h)) = large_enum h.0 (by_items (Err SizeOverflow) h.1 h.2 h.3)

  other_tagged : (found : Option (LayoutData ℕ ℕ)) (e : LayoutCalculatorError H) → repr.pack ≡ None → All AreSized vs → (r : Result (LayoutData ℕ ℕ) (LayoutCalculatorError H)) → IsAskedTag r
      → Err e ≡ better_of dl r found → (e ≡ SizeOverflow) ⊎ (e ≡ OutOfMemory)
  other_tagged found e unpacked sized (Ok t) a is = absurd (cc)
  other_tagged found e unpacked sized (Err f) a is =
      let same : f ≡ e = cc in
      subst (λ x. (x ≡ SizeOverflow) ⊎ (x ≡ OutOfMemory)) same
      (tagged_no_other layout_of (λ i. i) (λ i. i) 0 dl law repr a.0 a.1 values variants aligns fields some unpacked f sized a.3)

  other_enum : (e : LayoutCalculatorError H) → repr.pack ≡ None → All AreSized vs → ByItems items (Err e) → (e ≡ SizeOverflow) ⊎ (e ≡ OutOfMemory)
  other_enum e unpacked sized (inl want) = inr (cc)
  other_enum e unpacked sized (inr h) = other_tagged h.0 e unpacked sized h.2 h.3 h.4

  -- one that isn't packed and has sized fields is refused for its size, and by no other name
  pub enum_no_other : repr.pack ≡ None → All AreSized (map (map layout_of) variants) → (e : LayoutCalculatorError H) → Answers (Err e) → (e ≡ SizeOverflow) ⊎ (e ≡ OutOfMemory)
  enum_no_other unpacked sized e (inl packed) = absurd (cc (subst IsSome unpacked packed.0))
  enum_no_other unpacked sized e (inr (inl want)) = inr (cc want.1)
  enum_no_other unpacked sized e (inr (inr h)) = other_enum e unpacked sized (by_items (Err e) h.1 h.2 h.3)

  one_refusal : (e : LayoutCalculatorError H) → (e ≡ SizeOverflow) ⊎ (e ≡ OutOfMemory) → IsAnswer {A = LayoutData ℕ ℕ} (Err SizeOverflow) (Err e)
  one_refusal e (inl is) = inl (ap (λ x. Err x) is)
  one_refusal e (inr is) = inr (ap (λ x. Err x) is)

  -- and it is refused wherever it is too large by whatever integer is answered
  pub enum_refused : repr.pack ≡ None → All AreSized (map (map layout_of) variants)
      → IsAlwaysTooLarge dl repr asks (counted_discriminants (λ v. v) repr (map (map layout_of) variants) items) (map (map layout_of) variants)
      → (r : Result (LayoutData ℕ ℕ) (LayoutCalculatorError H)) → Answers r → (r ≡ Err SizeOverflow) ⊎ (r ≡ Err OutOfMemory)
  enum_refused unpacked sized large (Ok l) h =
      let b = from_answer l h in
      absurd (tagged_fits layout_of (λ i. i) (λ i. i) 0 dl law repr b.asked b.signed values variants aligns fields some b.unpacked b.tagged b.with_tag (large b.asked b.signed b.is))
  enum_refused unpacked sized large (Err e) h = one_refusal e (enum_no_other unpacked sized e h)
