-- What is promised of an enum of several variants, from its layouts with a niche and with a tag.
use Rattle.std.proofs.Common.{◌≡◌, ℕ, ◌+◌, ◌<◌, ◌≤◌, ◌∙◌, Bool, true, false, List, ap, arith, inl, inr, length, map, refl, subst, sym}
use Rattle.std.specs.Prelude.{◌==◌, ◌&&◌, ◌||◌, ◌⊎◌, All, IfSome, ℤ, Option, None, Some, Result, Ok, Err, if◌then◌else◌, nat_lt}
use Rattle.std.specs.Result.{IsErrAnd}
use Rattle.std.proofs.lemmas.Bool.{eqb-true, ltb-false, ltb-true}
use Rattle.abi_base.specs.declared.data_layout.TargetDataLayout.{TargetDataLayout}
use Rattle.abi_base.specs.declared.integer.Integer.{Integer}
use Rattle.abi_base.specs.declared.struct_kind.StructKind.{StructKind}
use Rattle.abi_base.specs.declared.struct_kind.StructKind.TheVariants.{AlwaysSized}
use Rattle.abi_base.specs.DataLayout.{IsLawfulDataLayout, size_bound}
use Rattle.abi_base.specs.Integer.{integer_size}
use Rattle.abi_scalar.specs.declared.error.LayoutCalculatorError.{LayoutCalculatorError}
use Rattle.abi_scalar.specs.declared.error.LayoutCalculatorError.TheVariants.{OutOfMemory}
use Rattle.abi_scalar.specs.declared.layout_data.LayoutData.{LayoutData}
use Rattle.abi_scalar.specs.declared.repr.ReprOptions.{ReprOptions}
use Rattle.abi_scalar.specs.declared.variants.RangeFrom.{RangeFrom}
use Rattle.abi_scalar.specs.declared.variants.RangeToInclusive.{RangeToInclusive}
use Rattle.abi_scalar.specs.Lawful.{IsLawfulLayout, IsLawfulNiche}
use Rattle.abi_univariant.specs.Answer.{IsAnswer}
use Rattle.abi_univariant.specs.Part.{free_numbers}
use Rattle.abi_calc.specs.Enums.Beside.{AreDistinguished, IsToldByTag}
use Rattle.abi_calc.specs.Enums.Choice.{IsNicheAnswer, preferred_layout, takes_niche}
use Rattle.abi_calc.specs.Enums.Discriminants.{counted_discriminants}
use Rattle.abi_calc.specs.Enums.Lists.{AreGoodLists, AreListLayouts, behind_tag, tag_align}
use Rattle.abi_calc.specs.Enums.Niche.{niche_layout}
use Rattle.abi_calc.specs.Enums.EnumStrategy.{is_free}
use Rattle.abi_calc.specs.Enums.Promised.{IsSizedEnum}
use Rattle.abi_calc.specs.Enums.Room.{IsEnumSize}
use Rattle.abi_calc.specs.Enums.Several.{HasEnumSize, HasTaggedSize, IsAskedAnswer, IsEnumAnswer, better_of}
use Rattle.abi_calc.specs.Enums.Sizes.{IsTaggedSize}
use Rattle.abi_calc.specs.Enums.Tagged.{lists_size}
use Rattle.abi_calc.proofs.EnumLemmas.Beside.{told_by_niche}
use Rattle.abi_calc.proofs.EnumLemmas.Lists.{good_exact, good_lawful}
use Rattle.abi_calc.proofs.EnumLemmas.Less.{no_first_error, tagged_less}
use Rattle.abi_calc.proofs.EnumLemmas.NicheLawful.{IsInNiche, niche_lawful, niche_of_niche, niche_parts, niche_size_is, niche_view_tag}
use Rattle.abi_calc.proofs.EnumLemmas.Room.{leaves_none, leaves_room}
use Rattle.abi_calc.proofs.EnumLemmas.Sizes.{tagged_size}

-- ---- the choice

smaller_of : (m n : ℕ) (smaller equal more : Bool) → nat_lt m n ≡ smaller → (m == n) ≡ equal → (smaller || (equal && more)) ≡ true → m ≤ n
smaller_of m n true equal more lt same takes = let less : m < n = ltb-true m n lt in omega (arith, less)
smaller_of m n false true more lt same takes = let is : m ≡ n = eqb-true m n same in omega (arith, is)
smaller_of m n false false more lt same takes = absurd (cc)

-- a layout with a niche that is taken is no larger
pub taken_small : {F V : Type 0} (dl : TargetDataLayout) (tagged niche : LayoutData F V) → takes_niche dl tagged niche ≡ true → niche.size ≤ tagged.size
taken_small dl tagged niche takes =
    smaller_of niche.size tagged.size (nat_lt niche.size tagged.size) (niche.size == tagged.size) (nat_lt (free_numbers dl tagged.largest_niche) (free_numbers dl niche.largest_niche)) refl refl takes

never_first : (b c : Bool) → (b || c) ≡ false → b ≡ false
never_first true c none = absurd (cc)
never_first false c none = refl

-- one that isn't is no smaller
pub left_large : {F V : Type 0} (dl : TargetDataLayout) (tagged niche : LayoutData F V) → takes_niche dl tagged niche ≡ false → tagged.size ≤ niche.size
left_large dl tagged niche leaves =
    ltb-false niche.size tagged.size (never_first (nat_lt niche.size tagged.size) ((niche.size == tagged.size) && nat_lt (free_numbers dl tagged.largest_niche) (free_numbers dl niche.largest_niche)) leaves)

-- what holds of both by the test holds of the one that is chosen
pub by_both : {A : Type 0} (P : A → Type 0) (b : Bool) (x y : A) → (b ≡ true → P x) → (b ≡ false → P y) → P (if b then x else y)
by_both P true x y h k = h refl
by_both P false x y h k = k refl

module _ {F V H : Type 0} (layout_of : H → LayoutData F V) (at : ℕ → F) (index : ℕ → V) (place : V → ℕ) (dl : TargetDataLayout) (repr : ReprOptions) (variants : List (List H)) where
  -- A layout with a niche, and the good lists that it comes from.
  pub record IsFound (l : LayoutData F V) : Type 0 where
    pub lists : List (LayoutData F V)
    pub good : AreGoodLists layout_of at (index 0) dl repr AlwaysSized variants lists
    pub lawful : All (IsLawfulLayout dl) lists
    pub is : niche_layout (at 0) index dl repr (map (map layout_of) variants) lists ≡ Some l

  -- a layout with a niche comes from lists that are good
  pub found_of : (found : Option (LayoutData F V)) (l : LayoutData F V) → found ≡ Some l → IsNicheAnswer AreGoodLists layout_of at index dl repr variants found → IsFound l
  found_of found l e (inl fixed) = let never : found ≡ None = fixed.1 in absurd (cc)
  found_of found l e (inr (inl none)) = let never : found ≡ None = none.3 in absurd (cc)
  found_of found l e (inr (inr some)) = record { lists = some.1; good = some.2; lawful = good_lawful layout_of at (index 0) dl repr AlwaysSized variants some.1 some.2; is = sym some.3 ∙ e }

  -- its own niche is lawful
  pub found_niche : (found : Option (LayoutData F V)) → IsNicheAnswer AreGoodLists layout_of at index dl repr variants found → IfSome found (λ l. IfSome l.largest_niche (IsLawfulNiche dl l.size))
  found_niche None good = tt
  found_niche (Some l) good =
      let h : IsFound l = found_of (Some l) l refl good in
      niche_of_niche (at 0) index dl repr (map (map layout_of) variants) h.lists h.lawful l h.is

  -- the better layout is lawful
  pub better_lawful : (tagged : LayoutData F V) (found : Option (LayoutData F V)) → IsLawfulDataLayout dl → IsNicheAnswer AreGoodLists layout_of at index dl repr variants found → IsLawfulLayout dl tagged
      → IsLawfulLayout dl (preferred_layout dl tagged found)
  better_lawful tagged None law good lawful = lawful
  better_lawful tagged (Some l) law good lawful =
      let h : IsFound l = found_of (Some l) l refl good in
      by_both (IsLawfulLayout dl) (takes_niche dl tagged l) l tagged
      (λ takes. niche_lawful (at 0) index dl repr (map (map layout_of) variants) h.lists law h.lawful l h.is
      (let small : l.size ≤ tagged.size = taken_small dl tagged l takes in let below : tagged.size < size_bound dl = lawful.bound in omega (arith, small, below)))
      (λ leaves. lawful)

  -- its variants are distinguished
  pub better_told : (most : ℕ) → ((i : ℕ) → i ≤ most → place (index i) ≡ i) → length variants ≤ most + 1 → (items : List (V × ℕ)) (tagged : LayoutData F V) (found : Option (LayoutData F V))
      → IsNicheAnswer AreGoodLists layout_of at index dl repr variants found → IsToldByTag dl place (map (map layout_of) variants) items tagged
      → AreDistinguished dl place (map (map layout_of) variants) items (preferred_layout dl tagged found)
  better_told most laws few items tagged None good tag_distinguishes = inl tag_distinguishes
  better_told most laws few items tagged (Some l) good tag_distinguishes =
      let h : IsFound l = found_of (Some l) l refl good in
      let p : IsInNiche (at 0) index dl repr (map (map layout_of) variants) h.lists l = niche_parts (at 0) index dl repr (map (map layout_of) variants) h.lists l h.is in
      by_both (AreDistinguished dl place (map (map layout_of) variants) items) (takes_niche dl tagged l) l tagged
      (λ takes. inr (told_by_niche layout_of at index place dl repr variants h.lists p.niche p.span most laws few h.good h.lawful p.list p.placed p.there p.known p.ends p.enough p.beside l p.is
      (niche_view_tag (at 0) index dl repr (map (map layout_of) variants) h.lists h.lawful l p)))
      (λ leaves. inl tag_distinguishes)

  -- ---- the size

  module _ (asked : Integer) (tagged : LayoutData F V) where
    abbrev behind : StructKind
    behind = behind_tag dl repr asked (map (map layout_of) variants)

    -- the lists leave room, and the size is theirs
    size_taken : (lists : List (LayoutData F V)) (l : LayoutData F V) → 0 < length variants → repr.pack ≡ None → AreGoodLists layout_of at (index 0) dl repr AlwaysSized variants lists
        → niche_layout (at 0) index dl repr (map (map layout_of) variants) lists ≡ Some l → IsTaggedSize dl repr behind (map (map layout_of) variants) tagged.size
        → IsTaggedSize dl repr AlwaysSized (map (map layout_of) variants) (preferred_layout dl tagged (Some l)).size
    size_taken lists l some unpacked good is size =
        let whole : l.size ≡ lists_size dl lists = niche_size_is (at 0) index dl repr (map (map layout_of) variants) lists l is in
        let own : IsTaggedSize dl repr AlwaysSized (map (map layout_of) variants) (lists_size dl lists) = tagged_size layout_of at (index 0) dl repr AlwaysSized variants lists some unpacked good in
        let less : lists_size dl lists ≤ tagged.size = tagged_less dl repr (integer_size asked) (tag_align dl repr asked (map (map layout_of) variants)) (map (map layout_of) variants) (lists_size dl lists) tagged.size own size in
        by_both (λ (m : LayoutData F V). IsTaggedSize dl repr AlwaysSized (map (map layout_of) variants) m.size) (takes_niche dl tagged l) l tagged
        (λ takes. subst (IsTaggedSize dl repr AlwaysSized (map (map layout_of) variants)) (sym whole) own)
        (λ leaves. subst (IsTaggedSize dl repr AlwaysSized (map (map layout_of) variants))
        (let large : tagged.size ≤ l.size = left_large dl tagged l leaves in let same : lists_size dl lists ≡ tagged.size = omega (arith, whole, less, large) in same) own)

    by_niche : (lists : List (LayoutData F V)) (found : Option (LayoutData F V)) → 0 < length variants → repr.pack ≡ None → is_free repr ≡ true → AreGoodLists layout_of at (index 0) dl repr AlwaysSized variants lists
        → niche_layout (at 0) index dl repr (map (map layout_of) variants) lists ≡ found → IsTaggedSize dl repr behind (map (map layout_of) variants) tagged.size
        → IsEnumSize layout_of at (index 0) dl repr behind variants (preferred_layout dl tagged found).size
    by_niche lists None some unpacked free good is size =
        inr (free, lists, good_exact layout_of at (index 0) dl repr AlwaysSized variants lists good, inr (leaves_none layout_of at index dl repr variants lists good is, size))
    by_niche lists (Some l) some unpacked free good is size =
        inr (
          free,
          lists,
          good_exact layout_of at (index 0) dl repr AlwaysSized variants lists good,
          inl (
            leaves_room layout_of at index dl repr variants lists good l is,
            size_taken lists l some unpacked good is size,
            λ t behind_size. tagged_less dl repr (integer_size asked) (tag_align dl repr asked (map (map layout_of) variants)) (map (map layout_of) variants) (preferred_layout dl tagged (Some l)).size t
                (size_taken lists l some unpacked good is size) behind_size,
          ),
        )

    by_good : (found : Option (LayoutData F V)) (lists : List (LayoutData F V)) → All (All (λ f. IsLawfulLayout dl (layout_of f))) variants → 0 < length variants → repr.pack ≡ None
        → IsNicheAnswer AreGoodLists layout_of at index dl repr variants found → IsTaggedSize dl repr behind (map (map layout_of) variants) tagged.size → AreGoodLists layout_of at (index 0) dl repr behind variants lists
        → IsEnumSize layout_of at (index 0) dl repr behind variants (preferred_layout dl tagged found).size
    by_good found lists fields some unpacked (inl fixed) size good =
        subst (λ o. IsEnumSize layout_of at (index 0) dl repr behind variants (preferred_layout dl tagged o).size) (sym fixed.1) (inl (fixed.0, size))
    by_good found lists fields some unpacked (inr (inl none)) size good =
        absurd (no_first_error layout_of at (index 0) dl repr (integer_size asked) (tag_align dl repr asked (map (map layout_of) variants)) variants lists none.1 fields good none.2)
    by_good found lists fields some unpacked (inr (inr h)) size good = by_niche h.1 found some unpacked h.0 h.2 (sym h.3) size

  -- the better layout has the enum's size
  pub better_size : (asks : RangeFrom ℤ → RangeToInclusive ℕ → Integer × Bool → Type 0) (values : List ℕ) (tagged : LayoutData F V) (found : Option (LayoutData F V)) → All (All (λ f. IsLawfulLayout dl (layout_of f))) variants
      → 0 < length variants → repr.pack ≡ None → IsNicheAnswer AreGoodLists layout_of at index dl repr variants found
      → HasTaggedSize layout_of at (index 0) dl repr asks values variants tagged.size → HasEnumSize layout_of at (index 0) dl repr asks values variants (preferred_layout dl tagged found).size
  better_size asks values tagged found fields some unpacked niche h = (h.0, h.1, h.2, by_good h.0 tagged found h.4.0 fields some unpacked niche h.3 h.4.1)

  -- the answer is the better layout, or the error of that with a tag
  pub enum_answer : (number : F → ℕ) (asks : RangeFrom ℤ → RangeToInclusive ℕ → Integer × Bool → Type 0) (items : List (V × ℕ)) (found : Option (LayoutData F V)) → IsNicheAnswer AreListLayouts layout_of at index dl repr variants found
      → (tagged result : Result (LayoutData F V) (LayoutCalculatorError H))
      → (tagged ≡ Err OutOfMemory) ⊎ IsAskedAnswer layout_of at number (index 0) dl repr asks (counted_discriminants place repr (map (map layout_of) variants) items) variants tagged
      → result ≡ better_of dl tagged found → IsEnumAnswer layout_of at number index place dl repr asks variants items result
  enum_answer number asks items found exact tagged result (inl want) is = inl (is ∙ ap (λ r. better_of dl r found) want)
  enum_answer number asks items found exact tagged result (inr asked) is = inr (found, exact, tagged, asked, is)

-- a layout isn't a refusal
pub no_refusal : {A H : Type 0} (e : LayoutCalculatorError H) (a b : A) → IsAnswer {A = A} (Err e) (Ok a) → IsAnswer {A = A} (Err e) (Ok b)
no_refusal e a b (inl is) = absurd (cc)
no_refusal e a b (inr is) = absurd (cc)

-- that memory ran out says nothing of a size
module _ {F V H : Type 0} (layout_of : H → LayoutData F V)
    (HasSize : TargetDataLayout → ReprOptions → (RangeFrom ℤ → RangeToInclusive ℕ → Integer × Bool → Type 0) → List ℕ → List (List H) → ℕ → Type 0)
    (dl : TargetDataLayout) (repr : ReprOptions) (asks : RangeFrom ℤ → RangeToInclusive ℕ → Integer × Bool → Type 0) (values : List ℕ) (variants : List (List H)) where
  pub memory_sized : (r : Result (LayoutData F V) (LayoutCalculatorError H)) → IsErrAnd r (λ e. e ≡ OutOfMemory) → IsSizedEnum layout_of HasSize dl repr asks values variants r
  memory_sized (Ok l) tag_distinguishes = absurd tag_distinguishes
  memory_sized (Err e) tag_distinguishes = record {
    size = tt;
    too_large = λ is. absurd (cc);
    refused = λ sized large. inr (ap (λ x. Err x) tag_distinguishes);
    no_other = λ sized. inr tag_distinguishes;
  }
