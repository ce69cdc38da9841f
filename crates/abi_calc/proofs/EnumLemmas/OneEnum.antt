-- A type with variants has one answer, memory aside.
use Rattle.std.proofs.Common.{◌≡◌, ℕ, zero, suc, ◌<◌, ◌≤◌, List, [], ◌∷◌, Option, Some, None, Bool, true, false, length, map, arith, inl, inr, refl, sym, ap, ◌∙◌, subst}
use Rattle.std.specs.Prelude.{◌==◌, ◌||◌, All, IsSome, ℤ, pos, ◌≤ℤ◌, Result, Ok, Err, if◌then◌else◌, slice_get, slice_index_or}
use Rattle.std.proofs.lemmas.List.Elements.{All-head, All-tail}
use Rattle.std.proofs.lemmas.Int.{ints}
use Rattle.abi_base.specs.declared.data_layout.TargetDataLayout.{TargetDataLayout}
use Rattle.abi_base.specs.declared.integer.Integer.{Integer}
use Rattle.abi_base.specs.declared.niche_optimizations.NicheOptimizations.{NicheOptimizations}
use Rattle.abi_base.specs.declared.struct_kind.StructKind.{StructKind}
use Rattle.abi_base.specs.declared.struct_kind.StructKind.TheVariants.{AlwaysSized, MaybeUnsized, Prefixed}
use Rattle.abi_base.specs.DataLayout.{size_bound}
use Rattle.abi_base.specs.Integer.{integer_size}
use Rattle.abi_scalar.specs.declared.error.LayoutCalculatorError.{LayoutCalculatorError}
use Rattle.abi_scalar.specs.declared.error.LayoutCalculatorError.TheVariants as calculator
use Rattle.abi_scalar.specs.declared.layout_data.LayoutData.{LayoutData}
use Rattle.abi_scalar.specs.declared.repr.ReprOptions.{ReprOptions}
use Rattle.abi_scalar.specs.declared.variants.RangeFrom.{RangeFrom}
use Rattle.abi_scalar.specs.declared.variants.RangeToInclusive.{RangeToInclusive}
use Rattle.abi_univariant.specs.declared.order.NicheBias.TheVariants.{Start}
use Rattle.abi_univariant.specs.declared.placing.FieldsFault.{FieldsFault}
use Rattle.abi_univariant.specs.declared.placing.FieldsFault.TheVariants.{Unsized, TooLarge, OutOfMemory}
use Rattle.abi_univariant.specs.Fault.{IsErrorOf, fault_in}
use Rattle.abi_univariant.specs.List.{IsUnivariantAnswer, IsUnivariantError}
use Rattle.abi_univariant.specs.Part.{parts_of}
use Rattle.abi_univariant.specs.Placement.{IsNonEmptyIfUnsized, IsSized, fields_repr}
use Rattle.abi_univariant.proofs.Layouts.ListLemmas.{length-parts}
use Rattle.abi_univariant.proofs.Layouts.OneOrder.{never_refused, one_layout, one_named}
use Rattle.abi_calc.specs.declared.enums.strategy.EnumStrategy.{EnumStrategy}
use Rattle.abi_calc.specs.declared.enums.strategy.EnumStrategy.TheVariants.{NoValue, OneList, Several}
use Rattle.abi_calc.specs.Enums.Lists.{AreListLayouts, IsFirstListError, behind_tag}
use Rattle.abi_calc.specs.Enums.Answer.{IsTypeAnswer, kind_at}
use Rattle.abi_calc.specs.Enums.Choice.{IsNicheAnswer}
use Rattle.abi_calc.specs.Enums.Discriminants.{IsAskedWith, IsGreatestOf, IsLeastOf, counted_discriminants, meant_by}
use Rattle.abi_calc.specs.Enums.Growth.{grown_tag, start_align}
use Rattle.abi_calc.specs.Enums.Niche.{niche_layout}
use Rattle.abi_calc.specs.Enums.EnumStrategy.{variant_at}
use Rattle.abi_calc.specs.Enums.Several.{IsAskedAnswer, IsAskedFor, IsEnumAnswer, IsSeveralAnswer, better_of}
use Rattle.abi_calc.specs.Enums.Single.{IsSingleAnswer, single_kind, single_layout}
use Rattle.abi_calc.specs.Enums.Tagged.{IsTaggedAnswer, IsTaggedBy, lists_size, tagged_layout}
use Rattle.abi_calc.proofs.EnumLemmas.OneRange.{one_tag_range}

-- ---- a list has one answer

-- a fault has one error
one_error_of : {H : Type 0} (fields : List H) (fault : FieldsFault) (e f : LayoutCalculatorError H) → IsErrorOf fields fault e → IsErrorOf fields fault f → e ≡ f
one_error_of fields (Unsized i) e f h k =
    let there : slice_get fields i ≡ Some h.0 = h.1 in
    let also : slice_get fields i ≡ Some k.0 = k.1 in
    let same : h.0 ≡ k.0 = cc in
    h.2 ∙ ap (λ x. calculator.UnexpectedUnsized x) same ∙ sym k.2
one_error_of fields TooLarge e f h k = h ∙ sym k
one_error_of fields OutOfMemory e f h k = h ∙ sym k

-- memory was not refused
abbrev pub IsMade : {H : Type 0} → Result (LayoutData ℕ ℕ) (LayoutCalculatorError H) → Type 0
IsMade r = r ≡ Err calculator.OutOfMemory → ⊥

-- the list of each variant has a last field where it may lose its size
abbrev pub AreFull : {H : Type 0} → StructKind → List (List H) → Type 0
AreFull kind variants = All (λ fields. IsNonEmptyIfUnsized kind (length fields)) variants

full_at : (kind : StructKind) (count : ℕ) → IsSized kind → IsNonEmptyIfUnsized kind count
full_at AlwaysSized count h = tt
full_at MaybeUnsized count h = elim h [ ]
full_at (Prefixed size align) count h = tt

-- a list that may not lose its size may be empty
pub all_full : {H : Type 0} (kind : StructKind) (variants : List (List H)) → IsSized kind → AreFull kind variants
all_full kind variants h = λ k d short. full_at kind (length (slice_index_or variants k d)) h

module _ {H : Type 0} (layout_of : H → LayoutData ℕ ℕ) (dl : TargetDataLayout) (repr : ReprOptions) (kind : StructKind) where
  -- what is asked of these fields
  pub full_parts : (fields : List H) → IsNonEmptyIfUnsized kind (length fields) → IsNonEmptyIfUnsized kind (length (parts_of dl (map layout_of fields)))
  full_parts fields some = subst (IsNonEmptyIfUnsized kind) (sym (length-parts layout_of dl fields)) some

  pub one_list_layout : (fields : List H) (a b : LayoutData ℕ ℕ) → IsNonEmptyIfUnsized kind (length fields)
      → IsUnivariantAnswer layout_of (λ i. i) 0 dl repr kind fields (Ok a) → IsUnivariantAnswer layout_of (λ i. i) 0 dl repr kind fields (Ok b) → a ≡ b
  one_list_layout fields a b some h k = one_layout (λ i. i) 0 dl repr kind (map layout_of fields) h.0 k.0 h.1 k.1 a b (full_parts fields some) h.2 k.2

  pub one_list_error : (fields : List H) (e f : LayoutCalculatorError H) → IsUnivariantError layout_of dl repr kind fields e → IsUnivariantError layout_of dl repr kind fields f → e ≡ f
  one_list_error fields e f (order, named, fault, there, of) (order2, named2, fault2, there2, of2) =
      let parts = parts_of dl (map layout_of fields) in
      let same : order2 ≡ order = one_named (fields_repr dl repr kind) Start parts order2 order named2 named in
      let found : fault_in (fields_repr dl repr kind) (size_bound dl) parts order ≡ Some fault2 = ap (fault_in (fields_repr dl repr kind) (size_bound dl) parts) (sym same) ∙ there2 in
      let one : fault2 ≡ fault = cc in
      one_error_of fields fault e f of (subst (λ x. IsErrorOf fields x f) one of2)

  pub never_both : (fields : List H) (a : LayoutData ℕ ℕ) (e : LayoutCalculatorError H) → IsNonEmptyIfUnsized kind (length fields)
      → IsUnivariantAnswer layout_of (λ i. i) 0 dl repr kind fields (Ok a) → IsUnivariantError layout_of dl repr kind fields e → ⊥
  never_both fields a e some (order, offsets, made) (first, named, fault, there, of) =
      never_refused dl (fields_repr dl repr kind) (parts_of dl (map layout_of fields)) (full_parts fields some) order offsets first a.size a.align.abi a.largest_niche fault made.named named there

  -- a list of fields has one answer
  pub one_list_answer : (fields : List H) (r s : Result (LayoutData ℕ ℕ) (LayoutCalculatorError H)) → IsNonEmptyIfUnsized kind (length fields)
      → IsUnivariantAnswer layout_of (λ i. i) 0 dl repr kind fields r → IsUnivariantAnswer layout_of (λ i. i) 0 dl repr kind fields s → IsMade r → IsMade s → r ≡ s
  one_list_answer fields (Ok a) (Ok b) some h k p q = ap (λ l. Ok l) (one_list_layout fields a b some h k)
  one_list_answer fields (Ok a) (Err f) some h (inl k) p q = absurd (never_both fields a f some h k)
  one_list_answer fields (Ok a) (Err f) some h (inr k) p q = absurd (q (ap (λ x. Err x) k))
  one_list_answer fields (Err e) s some (inr h) k p q = absurd (p (ap (λ x. Err x) h))
  one_list_answer fields (Err e) (Ok b) some (inl h) k p q = absurd (never_both fields b e some k h)
  one_list_answer fields (Err e) (Err f) some (inl h) (inl k) p q = ap (λ x. Err x) (one_list_error fields e f h k)
  one_list_answer fields (Err e) (Err f) some (inl h) (inr k) p q = absurd (q (ap (λ x. Err x) k))

  -- ---- the lists of the variants are one

  -- the variants have one list of layouts
  pub one_lists : (variants : List (List H)) (xs ys : List (LayoutData ℕ ℕ)) → AreFull kind variants
      → AreListLayouts layout_of (λ i. i) 0 dl repr kind variants xs → AreListLayouts layout_of (λ i. i) 0 dl repr kind variants ys → xs ≡ ys
  one_lists [] [] [] some h k = refl
  one_lists [] [] (y ∷ ys) some h k = elim k [ ]
  one_lists [] (x ∷ xs) ys some h k = elim h [ ]
  one_lists (fields ∷ variants) [] ys some h k = elim h [ ]
  one_lists (fields ∷ variants) (x ∷ xs) [] some h k = elim k [ ]
  one_lists (fields ∷ variants) (x ∷ xs) (y ∷ ys) some h k =
      let P : List H → Type 0 = λ fields. IsNonEmptyIfUnsized kind (length fields) in
      let first : x ≡ y = one_list_layout fields x y (All-head P fields variants some) h.0 k.0 in
      let rest : xs ≡ ys = one_lists variants xs ys (All-tail P fields variants some) h.1 k.1 in
      cc

  -- the variants have one first error
  pub one_first_error : (variants : List (List H)) (e f : LayoutCalculatorError H) → AreFull kind variants
      → IsFirstListError layout_of (λ i. i) 0 dl repr kind variants e → IsFirstListError layout_of (λ i. i) 0 dl repr kind variants f → e ≡ f
  one_first_error [] e f some h k = elim h [ ]
  one_first_error (fields ∷ variants) e f some (inl h) (inl k) = one_list_error fields e f h k
  one_first_error (fields ∷ variants) e f some (inl h) (inr k) = absurd (never_both fields k.0 e (All-head (λ fields. IsNonEmptyIfUnsized kind (length fields)) fields variants some) k.1 h)
  one_first_error (fields ∷ variants) e f some (inr h) (inl k) = absurd (never_both fields h.0 f (All-head (λ fields. IsNonEmptyIfUnsized kind (length fields)) fields variants some) h.1 k)
  one_first_error (fields ∷ variants) e f some (inr h) (inr k) =
      one_first_error variants e f (All-tail (λ fields. IsNonEmptyIfUnsized kind (length fields)) fields variants some) h.2 k.2

  -- variants that each have a layout have no first error
  pub never_lists_and_error : (variants : List (List H)) (xs : List (LayoutData ℕ ℕ)) (e : LayoutCalculatorError H) → AreFull kind variants
      → AreListLayouts layout_of (λ i. i) 0 dl repr kind variants xs → IsFirstListError layout_of (λ i. i) 0 dl repr kind variants e → ⊥
  never_lists_and_error [] xs e some h k = elim k [ ]
  never_lists_and_error (fields ∷ variants) [] e some h k = elim h [ ]
  never_lists_and_error (fields ∷ variants) (x ∷ xs) e some h (inl k) = never_both fields x e (All-head (λ fields. IsNonEmptyIfUnsized kind (length fields)) fields variants some) h.0 k
  never_lists_and_error (fields ∷ variants) (x ∷ xs) e some h (inr k) =
      never_lists_and_error variants xs e (All-tail (λ fields. IsNonEmptyIfUnsized kind (length fields)) fields variants some) h.1 k.2

-- ---- one question is asked

-- one of the numbers that none of them is less than
one_least_of : (numbers : List ℤ) (a b : ℤ) → IsLeastOf numbers a → IsLeastOf numbers b → a ≡ b
one_least_of numbers a b ((i, short, there), least) ((j, inside, here), also) =
    let up : a ≤ℤ b = subst (λ n. a ≤ℤ n) here (least j b inside) in
    let down : b ≤ℤ a = subst (λ n. b ≤ℤ n) there (also i a short) in
    omega (arith, ints)

one_greatest_of : (numbers : List ℤ) (a b : ℤ) → IsGreatestOf numbers a → IsGreatestOf numbers b → a ≡ b
one_greatest_of numbers a b ((i, short, there), most) ((j, inside, here), also) =
    let down : b ≤ℤ a = subst (λ n. n ≤ℤ a) here (most j b inside) in
    let up : a ≤ℤ b = subst (λ n. n ≤ℤ b) there (also i a short) in
    omega (arith, ints)

-- the integer of a tag is asked for with one least and one greatest number
pub one_asked : (dl : TargetDataLayout) (repr : ReprOptions) (values : List ℕ) (least least2 : ℤ) (greatest greatest2 : ℕ)
    → IsAskedWith dl repr values least greatest → IsAskedWith dl repr values least2 greatest2 → (least ≡ least2) × (greatest ≡ greatest2)
one_asked dl repr values least least2 greatest greatest2 h k =
    let numbers = pos 0 ∷ map (meant_by dl repr) values in
    let low : least ≡ least2 = one_least_of numbers least least2 h.0 k.0 in
    let high : pos greatest ≡ pos greatest2 = one_greatest_of numbers (pos greatest) (pos greatest2) h.1 k.1 in
    (low, cc)

-- where the question allows one answer, one integer is asked for
pub one_asked_for : (dl : TargetDataLayout) (repr : ReprOptions) (asks : RangeFrom ℤ → RangeToInclusive ℕ → Integer × Bool → Type 0) (values : List ℕ) (a b : Integer) (s t : Bool)
    → ((from : RangeFrom ℤ) (to : RangeToInclusive ℕ) (x y : Integer × Bool) → asks from to x → asks from to y → x ≡ y)
    → IsAskedFor dl repr asks values a s → IsAskedFor dl repr asks values b t → (a ≡ b) × (s ≡ t)
one_asked_for dl repr asks values a b s t fun (least, greatest, ends, answered) (least2, greatest2, ends2, answered2) =
    let same = one_asked dl repr values least2 least greatest2 greatest ends2 ends in
    let moved_offset : asks (record { start = least }) (record { last = greatest }) (b, t) =
    subst (λ g. asks (record { start = least }) (record { last = g }) (b, t)) same.1 (subst (λ l. asks (record { start = l }) (record { last = greatest2 }) (b, t)) same.0 answered2) in
    let one : (a, s) ≡ (b, t) = fun (record { start = least }) (record { last = greatest }) (a, s) (b, t) answered moved_offset in
    (ap (λ (x : Integer × Bool). x.0) one, ap (λ (x : Integer × Bool). x.1) one)

-- ---- one enum

packed_or_not : (pack : Option ℕ) → IsSome pack → pack ≡ None → ⊥
packed_or_not None is none = absurd (cc)
packed_or_not (Some a) is none = absurd (cc)

module _ {H : Type 0} (layout_of : H → LayoutData ℕ ℕ) (dl : TargetDataLayout) (repr : ReprOptions) (variants : List (List H)) where
  abbrev laid : List (List (LayoutData ℕ ℕ))
  laid = map (map layout_of) variants

  module _ (asked : Integer) (signed : Bool) (values : List ℕ) where
    -- behind the tag each variant has one list
    behind : AreFull (behind_tag dl repr asked laid) variants
    behind = all_full (behind_tag dl repr asked laid) variants tt

    -- lists that leave one layout
    one_by : (xs : List (LayoutData ℕ ℕ)) (a b : LayoutData ℕ ℕ) → IsTaggedBy (λ i. i) 0 dl repr asked signed values laid xs a → IsTaggedBy (λ i. i) 0 dl repr asked signed values laid xs b → a ≡ b
    one_by xs a b h k =
        let range = one_tag_range (integer_size (grown_tag dl repr asked (start_align (λ i. i) laid xs))) values h.ranged.0 k.ranged.0 h.ranged.1 k.ranged.1 in
        h.ranged.2 ∙ ap (λ r. tagged_layout (λ i. i) 0 dl repr asked signed r laid xs) range ∙ sym k.ranged.2

    -- an enum with this tag has one answer
    pub one_tagged : (r s : Result (LayoutData ℕ ℕ) (LayoutCalculatorError H)) → IsTaggedAnswer layout_of (λ i. i) (λ i. i) 0 dl repr asked signed values variants r
        → IsTaggedAnswer layout_of (λ i. i) (λ i. i) 0 dl repr asked signed values variants s → IsMade r → IsMade s → r ≡ s
    one_tagged (Ok a) (Ok b) (xs, lists, by) (ys, lists2, by2) p q =
        let same : ys ≡ xs = one_lists layout_of dl repr (behind_tag dl repr asked laid) variants ys xs behind lists2 lists in
        ap (λ l. Ok l) (one_by xs a b by (subst (λ zs. IsTaggedBy (λ i. i) 0 dl repr asked signed values laid zs b) same by2))
    one_tagged (Ok a) (Err f) (xs, lists, by) (inl k) p q = absurd (never_lists_and_error layout_of dl repr (behind_tag dl repr asked laid) variants xs f behind lists k)
    one_tagged (Ok a) (Err f) (xs, lists, by) (inr (inl (ys, lists2, large, is))) p q =
        let same : ys ≡ xs = one_lists layout_of dl repr (behind_tag dl repr asked laid) variants ys xs behind lists2 lists in
        let also : size_bound dl ≤ lists_size dl xs = subst (λ zs. size_bound dl ≤ lists_size dl zs) same large in
        absurd (omega (arith, also, by.small))
    one_tagged (Ok a) (Err f) h (inr (inr want)) p q = absurd (q (ap (λ x. Err x) want))
    one_tagged (Err e) s (inr (inr want)) k p q = absurd (p (ap (λ x. Err x) want))
    one_tagged (Err e) (Ok b) (inl h) (ys, lists2, by2) p q = absurd (never_lists_and_error layout_of dl repr (behind_tag dl repr asked laid) variants ys e behind lists2 h)
    one_tagged (Err e) (Ok b) (inr (inl (xs, lists, large, is))) (ys, lists2, by2) p q =
        let same : xs ≡ ys = one_lists layout_of dl repr (behind_tag dl repr asked laid) variants xs ys behind lists lists2 in
        let also : size_bound dl ≤ lists_size dl ys = subst (λ zs. size_bound dl ≤ lists_size dl zs) same large in
        absurd (omega (arith, also, by2.small))
    one_tagged (Err e) (Err f) (inl h) (inl k) p q = ap (λ x. Err x) (one_first_error layout_of dl repr (behind_tag dl repr asked laid) variants e f behind h k)
    one_tagged (Err e) (Err f) (inl h) (inr (inl (ys, lists2, large, is))) p q =
        absurd (never_lists_and_error layout_of dl repr (behind_tag dl repr asked laid) variants ys e behind lists2 h)
    one_tagged (Err e) (Err f) (inr (inl (xs, lists, large, is))) (inl k) p q =
        absurd (never_lists_and_error layout_of dl repr (behind_tag dl repr asked laid) variants xs f behind lists k)
    one_tagged (Err e) (Err f) (inr (inl (xs, lists, large, is))) (inr (inl (ys, lists2, large2, is2))) p q = ap (λ x. Err x) (is ∙ sym is2)
    one_tagged (Err e) (Err f) h (inr (inr want)) p q = absurd (q (ap (λ x. Err x) want))

  -- there is one layout with a niche, or none
  pub one_niche : (found other : Option (LayoutData ℕ ℕ)) → IsNicheAnswer AreListLayouts layout_of (λ i. i) (λ i. i) dl repr variants found → IsNicheAnswer AreListLayouts layout_of (λ i. i) (λ i. i) dl repr variants other → found ≡ other
  one_niche found other (inl (bound, is)) (inl (bound2, is2)) = is ∙ sym is2
  one_niche found other (inl (bound, is)) (inr (inl (free, e2, error2, is2))) = absurd (cc)
  one_niche found other (inl (bound, is)) (inr (inr (free, ys, lists2, is2))) = absurd (cc)
  one_niche found other (inr (inl (free, e, error, is))) (inl (bound, is2)) = absurd (cc)
  one_niche found other (inr (inr (free, xs, lists, is))) (inl (bound, is2)) = absurd (cc)
  one_niche found other (inr (inl (free, e, error, is))) (inr (inl (free2, e2, error2, is2))) = is ∙ sym is2
  one_niche found other (inr (inl (free, e, error, is))) (inr (inr (free2, ys, lists2, is2))) =
      absurd (never_lists_and_error layout_of dl repr AlwaysSized variants ys e (all_full AlwaysSized variants tt) lists2 error)
  one_niche found other (inr (inr (free, xs, lists, is))) (inr (inl (free2, e2, error2, is2))) =
      absurd (never_lists_and_error layout_of dl repr AlwaysSized variants xs e2 (all_full AlwaysSized variants tt) lists error2)
  one_niche found other (inr (inr (free, xs, lists, is))) (inr (inr (free2, ys, lists2, is2))) =
      let same : xs ≡ ys = one_lists layout_of dl repr AlwaysSized variants xs ys (all_full AlwaysSized variants tt) lists lists2 in
      is ∙ ap (niche_layout 0 (λ i. i) dl repr laid) same ∙ sym is2

  module _ (asks : RangeFrom ℤ → RangeToInclusive ℕ → Integer × Bool → Type 0)
      (fun : (from : RangeFrom ℤ) (to : RangeToInclusive ℕ) (x y : Integer × Bool) → asks from to x → asks from to y → x ≡ y) where
    -- an enum with a tag has one answer
    pub one_asked_answer : (values : List ℕ) (r s : Result (LayoutData ℕ ℕ) (LayoutCalculatorError H)) → IsAskedAnswer layout_of (λ i. i) (λ i. i) 0 dl repr asks values variants r
        → IsAskedAnswer layout_of (λ i. i) (λ i. i) 0 dl repr asks values variants s → IsMade r → IsMade s → r ≡ s
    one_asked_answer values r s (a, t, asked, answer) (b, u, asked2, answer2) p q =
        let same = one_asked_for dl repr asks values b a u t fun asked2 asked in
        let P : Integer → Bool → Type 0 = λ x y. IsTaggedAnswer layout_of (λ i. i) (λ i. i) 0 dl repr x y values variants s in
        one_tagged a t values r s answer (subst (λ y. P a y) same.1 (subst (λ x. P x u) same.0 answer2)) p q

    -- without memory for the tagged layout there is none for the whole
    not_made : (tagged : Result (LayoutData ℕ ℕ) (LayoutCalculatorError H)) (niche : Option (LayoutData ℕ ℕ)) (r : Result (LayoutData ℕ ℕ) (LayoutCalculatorError H))
        → r ≡ better_of dl tagged niche → IsMade r → IsMade tagged
    not_made tagged niche r is made e = made (is ∙ ap (λ t. better_of dl t niche) e)

    -- an enum that isn't packed has one answer for its discriminants
    pub one_enum : (items : List (ℕ × ℕ)) (r s : Result (LayoutData ℕ ℕ) (LayoutCalculatorError H)) → IsEnumAnswer layout_of (λ i. i) (λ i. i) (λ i. i) (λ i. i) dl repr asks variants items r
        → IsEnumAnswer layout_of (λ i. i) (λ i. i) (λ i. i) (λ i. i) dl repr asks variants items s → IsMade r → IsMade s → r ≡ s
    one_enum items r s (inl want) k p q = absurd (p want)
    one_enum items r s (inr h) (inl want) p q = absurd (q want)
    one_enum items r s (inr (niche, found, tagged, answer, is)) (inr (niche2, found2, tagged2, answer2, is2)) p q =
        let one = one_niche niche niche2 found found2 in
        let same = one_asked_answer (counted_discriminants (λ i. i) repr laid items) tagged tagged2 answer answer2 (not_made tagged niche r is p) (not_made tagged2 niche2 s is2 q) in
        is ∙ (λ i. better_of dl (same i) (one i)) ∙ sym is2

    -- where the discriminants are given in one way and the question has one answer, an enum of several variants has one answer
    pub one_several : (gives : List (ℕ × ℕ) → Type 0) → ((xs ys : List (ℕ × ℕ)) → gives xs → gives ys → xs ≡ ys) → (r s : Result (LayoutData ℕ ℕ) (LayoutCalculatorError H))
        → IsSeveralAnswer layout_of (λ i. i) (λ i. i) (λ i. i) (λ i. i) dl repr asks variants gives r → IsSeveralAnswer layout_of (λ i. i) (λ i. i) (λ i. i) (λ i. i) dl repr asks variants gives s
        → IsMade r → IsMade s → r ≡ s
    one_several gives one r s (inr (inl h)) k p q = absurd (p h.1)
    one_several gives one r s h (inr (inl k)) p q = absurd (q k.1)
    one_several gives one r s (inl h) (inl k) p q = h.1 ∙ sym k.1
    one_several gives one r s (inl h) (inr (inr k)) p q = absurd (packed_or_not repr.pack h.0 k.0)
    one_several gives one r s (inr (inr h)) (inl k) p q = absurd (packed_or_not repr.pack k.0 h.0)
    one_several gives one r s (inr (inr (unpacked, items, given, answer))) (inr (inr (unpacked2, items2, given2, answer2))) p q =
        let same : items2 ≡ items = one items2 items given2 given in
        one_enum items r s answer (subst (λ xs. IsEnumAnswer layout_of (λ i. i) (λ i. i) (λ i. i) (λ i. i) dl repr asks variants xs s) same answer2) p q

-- ---- one type

-- the list of one variant has one answer
pub one_single : {H : Type 0} (layout_of : H → LayoutData ℕ ℕ) (dl : TargetDataLayout) (repr : ReprOptions) (kind : StructKind) (index : ℕ) (optimizations : NicheOptimizations) (fields : List H)
    (r s : Result (LayoutData ℕ ℕ) (LayoutCalculatorError H)) → IsNonEmptyIfUnsized kind (length fields) → IsSingleAnswer layout_of (λ i. i) 0 index dl repr kind optimizations fields r
    → IsSingleAnswer layout_of (λ i. i) 0 index dl repr kind optimizations fields s → IsMade r → IsMade s → r ≡ s
one_single layout_of dl repr kind index optimizations fields (Ok a) (Ok b) some (x, listed, is) (y, listed2, is2) p q =
    let same : x ≡ y = one_list_layout layout_of dl repr kind fields x y some listed listed2 in
    ap (λ l. Ok l) (is ∙ ap (single_layout index dl optimizations) same ∙ sym is2)
one_single layout_of dl repr kind index optimizations fields (Ok a) (Err f) some (x, listed, is) (inl k) p q = absurd (never_both layout_of dl repr kind fields x f some listed k)
one_single layout_of dl repr kind index optimizations fields (Ok a) (Err f) some h (inr want) p q = absurd (q (ap (λ x. Err x) want))
one_single layout_of dl repr kind index optimizations fields (Err e) (Ok b) some (inl h) (y, listed2, is2) p q = absurd (never_both layout_of dl repr kind fields y e some listed2 h)
one_single layout_of dl repr kind index optimizations fields (Err e) (Ok b) some (inr want) k p q = absurd (p (ap (λ x. Err x) want))
one_single layout_of dl repr kind index optimizations fields (Err e) (Err f) some h k p q = one_list_answer layout_of dl repr kind fields (Err e) (Err f) some h k p q

-- a list that may lose its size has a field
full_if : (b : Bool) (count : ℕ) → (b ≡ false → 0 < count) → IsNonEmptyIfUnsized (if b then AlwaysSized else MaybeUnsized) count
full_if true count h = tt
full_if false count h = h refl

some_if : (a b : Bool) (count : ℕ) → (a || b || (count == 0)) ≡ false → 0 < count
some_if true b count h = absurd (cc)
some_if false true count h = absurd (cc)
some_if false false zero h = absurd (cc)
some_if false false (suc n) h = omega arith

pub single_full : (is_enum always_sized : Bool) (count : ℕ) → IsNonEmptyIfUnsized (single_kind is_enum always_sized count) count
single_full is_enum always_sized count = full_if (is_enum || always_sized || (count == 0)) count (some_if is_enum always_sized count)

-- where the discriminants are given in one way and the question has one answer, a type with variants has one answer
pub one_type : {H : Type 0} (layout_of : H → LayoutData ℕ ℕ) (dl : TargetDataLayout) (repr : ReprOptions) (variants : List (List H)) (is_enum always_sized : Bool) (optimizations : NicheOptimizations)
    (asks : RangeFrom ℤ → RangeToInclusive ℕ → Integer × Bool → Type 0) → ((from : RangeFrom ℤ) (to : RangeToInclusive ℕ) (x y : Integer × Bool) → asks from to x → asks from to y → x ≡ y)
    → (gives : List (ℕ × ℕ) → Type 0) → ((xs ys : List (ℕ × ℕ)) → gives xs → gives ys → xs ≡ ys) → (strategy : EnumStrategy) (r s : Result (LayoutData ℕ ℕ) (LayoutCalculatorError H))
    → IsTypeAnswer layout_of (λ i. i) (λ i. i) (λ i. i) (λ i. i) dl repr variants is_enum always_sized optimizations asks gives strategy r
    → IsTypeAnswer layout_of (λ i. i) (λ i. i) (λ i. i) (λ i. i) dl repr variants is_enum always_sized optimizations asks gives strategy s → IsMade r → IsMade s → r ≡ s
one_type layout_of dl repr variants is_enum always_sized optimizations asks fun gives one NoValue r s h k p q = h ∙ sym k
one_type layout_of dl repr variants is_enum always_sized optimizations asks fun gives one (OneList i) r s h k p q =
    one_single layout_of dl repr (kind_at is_enum always_sized variants i) i optimizations (variant_at variants i) r s
    (single_full is_enum always_sized (length (variant_at variants i))) h k p q
one_type layout_of dl repr variants is_enum always_sized optimizations asks fun gives one Several r s h k p q = one_several layout_of dl repr variants asks fun gives one r s h k p q
