-- The answer to a type with variants depends on the fields' layouts alone, not on what lends them.
use Rattle.std.proofs.Common.{◌≡◌, ℕ, zero, suc, List, [], ◌∷◌, Option, Some, Bool, length, map, inl, inr, refl, sym, ap, ◌∙◌, subst}
use Rattle.std.specs.Prelude.{ℤ, ⊤, Result, Ok, Err, slice_get}
use Rattle.std.proofs.lemmas.List.{length-map}
use Rattle.abi_base.specs.declared.data_layout.TargetDataLayout.{TargetDataLayout}
use Rattle.abi_base.specs.declared.integer.Integer.{Integer}
use Rattle.abi_base.specs.declared.niche_optimizations.NicheOptimizations.{NicheOptimizations}
use Rattle.abi_base.specs.declared.struct_kind.StructKind.{StructKind}
use Rattle.abi_base.specs.declared.struct_kind.StructKind.TheVariants.{AlwaysSized}
use Rattle.abi_base.specs.DataLayout.{size_bound}
use Rattle.abi_scalar.specs.declared.error.LayoutCalculatorError.{LayoutCalculatorError}
use Rattle.abi_scalar.specs.declared.error.LayoutCalculatorError.TheVariants.{UnexpectedUnsized, SizeOverflow, EmptyUnion, ReprConflict, ZeroLengthSimdType, OversizedSimdType, NonPrimitiveSimdType, BadOrder, OutOfMemory}
use Rattle.abi_scalar.specs.declared.layout_data.LayoutData.{LayoutData}
use Rattle.abi_scalar.specs.declared.repr.ReprOptions.{ReprOptions}
use Rattle.abi_scalar.specs.declared.variants.RangeFrom.{RangeFrom}
use Rattle.abi_scalar.specs.declared.variants.RangeToInclusive.{RangeToInclusive}
use Rattle.abi_scalar.specs.Simple.{never_layout}
use Rattle.abi_univariant.specs.declared.order.NicheBias.TheVariants.{Start}
use Rattle.abi_univariant.specs.declared.placing.FieldsFault.{FieldsFault}
use Rattle.abi_univariant.specs.declared.placing.FieldsFault.TheVariants as fault
use Rattle.abi_univariant.specs.Fault.{IsErrorOf, fault_in}
use Rattle.abi_univariant.specs.List.{IsUnivariantAnswer, IsUnivariantError, IsUnivariantLayout}
use Rattle.abi_univariant.specs.Order.{IsNamedOrder}
use Rattle.abi_univariant.specs.Part.{parts_of}
use Rattle.abi_univariant.specs.Placement.{fields_repr}
use Rattle.abi_calc.specs.declared.enums.strategy.EnumStrategy.{EnumStrategy}
use Rattle.abi_calc.specs.declared.enums.strategy.EnumStrategy.TheVariants.{NoValue, OneList, Several}
use Rattle.abi_calc.specs.Enums.Answer.{IsTypeAnswer, kind_at}
use Rattle.abi_calc.specs.Enums.Choice.{IsNicheAnswer, preferred_layout}
use Rattle.abi_calc.specs.Enums.Discriminants.{counted_discriminants}
use Rattle.abi_calc.specs.Enums.Lists.{AreListLayouts, IsFirstListError, behind_tag}
use Rattle.abi_calc.specs.Enums.Niche.{niche_layout}
use Rattle.abi_calc.specs.Enums.EnumStrategy.{variant_at}
use Rattle.abi_calc.specs.Enums.Several.{IsAskedAnswer, IsEnumAnswer, IsSeveralAnswer, better_of}
use Rattle.abi_calc.specs.Enums.Single.{IsSingleAnswer, single_kind}
use Rattle.abi_calc.specs.Enums.Tagged.{IsTaggedAnswer, IsTaggedBy}

-- errors of one name, whatever field they are told of
abbrev pub IsSameError : {H K : Type 0} → LayoutCalculatorError H → LayoutCalculatorError K → Type 0
IsSameError (UnexpectedUnsized h) (UnexpectedUnsized k) = ⊤
IsSameError SizeOverflow SizeOverflow = ⊤
IsSameError EmptyUnion EmptyUnion = ⊤
IsSameError ReprConflict ReprConflict = ⊤
IsSameError ZeroLengthSimdType ZeroLengthSimdType = ⊤
IsSameError (OversizedSimdType m) (OversizedSimdType n) = m ≡ n
IsSameError (NonPrimitiveSimdType h) (NonPrimitiveSimdType k) = ⊤
IsSameError BadOrder BadOrder = ⊤
IsSameError OutOfMemory OutOfMemory = ⊤
IsSameError _ _ = ⊥

-- equal layouts, or errors of one name
abbrev pub IsSameResult : {H K : Type 0} → Result (LayoutData ℕ ℕ) (LayoutCalculatorError H) → Result (LayoutData ℕ ℕ) (LayoutCalculatorError K) → Type 0
IsSameResult (Ok a) (Ok b) = a ≡ b
IsSameResult (Err e) (Err error) = IsSameError e error
IsSameResult _ _ = ⊥

-- some error of the name has the property
abbrev pub HasSameError : {H K : Type 0} → LayoutCalculatorError H → (LayoutCalculatorError K → Type 0) → Type 0
HasSameError {H} {K} e P = (error : LayoutCalculatorError K) × P error × IsSameError e error

-- the same result has the property
abbrev pub HasSameResult : {H K : Type 0} → Result (LayoutData ℕ ℕ) (LayoutCalculatorError H) → (Result (LayoutData ℕ ℕ) (LayoutCalculatorError K) → Type 0) → Type 0
HasSameResult {H} {K} r P = (s : Result (LayoutData ℕ ℕ) (LayoutCalculatorError K)) × P s × IsSameResult r s

-- of a layout it is that layout
pub of_ok : (H : Type 0) {K : Type 0} (P : Result (LayoutData ℕ ℕ) (LayoutCalculatorError K) → Type 0) (l : LayoutData ℕ ℕ) → HasSameResult {H = H} (Ok l) P → P (Ok l)
of_ok H P l (Ok b, h, is) = subst (λ x. P (Ok x)) (sym is) h
of_ok H P l (Err error, h, is) = elim is [ ]

-- of an error it is one of its name
pub of_err : {H K : Type 0} (P : Result (LayoutData ℕ ℕ) (LayoutCalculatorError K) → Type 0) (e : LayoutCalculatorError H) → HasSameResult (Err e) P → HasSameError e (λ error. P (Err error))
of_err P e (Ok b, h, is) = elim is [ ]
of_err P e (Err error, h, is) = (error, h, is)

-- an item's image is that of some item
item_of : {K : Type 0} (g : K → LayoutData ℕ ℕ) (ks : List K) (i : ℕ) (l : LayoutData ℕ ℕ) → slice_get (map g ks) i ≡ Some l → (k : K) × (slice_get ks i ≡ Some k)
item_of g [] i l there = absurd (cc)
item_of g (k ∷ ks) zero l there = (k, refl)
item_of g (k ∷ ks) (suc i) l there = item_of g ks i l there

-- the image of an item
image_of : {H : Type 0} (f : H → LayoutData ℕ ℕ) (hs : List H) (i : ℕ) (h : H) → slice_get hs i ≡ Some h → slice_get (map f hs) i ≡ Some (f h)
image_of f [] i h there = absurd (cc)
image_of f (k ∷ hs) zero h there = cc
image_of f (k ∷ hs) (suc i) h there = image_of f hs i h there

-- an error has the name that this one has
pub same_name : {H K : Type 0} (e which : LayoutCalculatorError H) (error : LayoutCalculatorError K) → e ≡ which → IsSameError which error → IsSameError e error
same_name e which error is same = subst (λ x. IsSameError x error) (sym is) same

-- errors of one name are one result
same_error : {H K : Type 0} (r : Result (LayoutData ℕ ℕ) (LayoutCalculatorError H)) (e : LayoutCalculatorError H) (error : LayoutCalculatorError K) → r ≡ Err e → IsSameError e error → IsSameResult r (Err error)
same_error r e error is same = subst (λ x. IsSameResult x (Err error)) (sym is) same

-- the better of two, from one result
same_better : {H K : Type 0} (dl : TargetDataLayout) (r : Result (LayoutData ℕ ℕ) (LayoutCalculatorError H)) (s : Result (LayoutData ℕ ℕ) (LayoutCalculatorError K)) (niche : Option (LayoutData ℕ ℕ))
    → IsSameResult r s → IsSameResult (better_of dl r niche) (better_of dl s niche)
same_better dl (Ok a) (Ok b) niche same = ap (λ l. preferred_layout dl l niche) same
same_better dl (Ok a) (Err error) niche same = elim same [ ]
same_better dl (Err e) (Ok b) niche same = elim same [ ]
same_better dl (Err e) (Err error) niche same = same

module _ {H K : Type 0} (f : H → LayoutData ℕ ℕ) (g : K → LayoutData ℕ ℕ) where
  -- ---- one list

  -- a fault has an error of one name
  error_by : (hs : List H) (ks : List K) → map f hs ≡ map g ks → (which : FieldsFault) (e : LayoutCalculatorError H) → IsErrorOf hs which e → HasSameError e (IsErrorOf ks which)
  error_by hs ks same (fault.Unsized i) e h =
      let there : slice_get (map g ks) i ≡ Some (f h.0) = ap (λ ls. slice_get ls i) (sym same) ∙ image_of f hs i h.0 h.1 in
      let item = item_of g ks i (f h.0) there in
      (UnexpectedUnsized item.0, (item.0, item.1, refl), same_name e (UnexpectedUnsized h.0) (UnexpectedUnsized item.0) h.2 tt)
  error_by hs ks same fault.TooLarge e h = (SizeOverflow, refl, same_name e SizeOverflow SizeOverflow h tt)
  error_by hs ks same fault.OutOfMemory e h = (OutOfMemory, refl, same_name e OutOfMemory OutOfMemory h tt)

  module _ (dl : TargetDataLayout) (repr : ReprOptions) where
    module _ (kind : StructKind) where
      -- a list has the same layout for the same layouts
      pub listed_by : (hs : List H) (ks : List K) → map f hs ≡ map g ks → (l : LayoutData ℕ ℕ) → IsUnivariantAnswer f (λ i. i) 0 dl repr kind hs (Ok l) → IsUnivariantAnswer g (λ i. i) 0 dl repr kind ks (Ok l)
      listed_by hs ks same l h = subst (λ ls. (order : List ℕ) × (offsets : List ℕ) × IsUnivariantLayout (λ i. i) 0 dl repr kind ls order offsets l) same h

      -- a list's error is one of the same name for the same layouts
      pub refused_by : (hs : List H) (ks : List K) → map f hs ≡ map g ks → (e : LayoutCalculatorError H) → IsUnivariantError f dl repr kind hs e → HasSameError e (IsUnivariantError g dl repr kind ks)
      refused_by hs ks same e (order, named, which, there, of) =
          let error = error_by hs ks same which e of in
          let order_of = subst (λ ls. IsNamedOrder (fields_repr dl repr kind) Start (parts_of dl ls) order) same named in
          let fault_of = subst (λ ls. fault_in (fields_repr dl repr kind) (size_bound dl) (parts_of dl ls) order ≡ Some which) same there in
          (error.0, (order, order_of, which, fault_of, error.1), error.2)

      -- ---- the variants' lists

      -- the variants have the same lists
      pub lists_by : (hs : List (List H)) (ks : List (List K)) → map (map f) hs ≡ map (map g) ks → (lists : List (LayoutData ℕ ℕ))
          → AreListLayouts f (λ i. i) 0 dl repr kind hs lists → AreListLayouts g (λ i. i) 0 dl repr kind ks lists
      lists_by [] [] same [] h = tt
      lists_by [] [] same (l ∷ lists) h = elim h [ ]
      lists_by [] (others ∷ ks) same lists h = absurd (cc)
      lists_by (fields ∷ hs) [] same lists h = absurd (cc)
      lists_by (fields ∷ hs) (others ∷ ks) same [] h = elim h [ ]
      lists_by (fields ∷ hs) (others ∷ ks) same (l ∷ lists) h =
          let first : map f fields ≡ map g others = cc in
          let rest : map (map f) hs ≡ map (map g) ks = cc in
          (listed_by fields others first l h.0, lists_by hs ks rest lists h.1)

      -- the first variant without a list is the same, with an error of one name
      pub first_error_by : (hs : List (List H)) (ks : List (List K)) → map (map f) hs ≡ map (map g) ks → (e : LayoutCalculatorError H)
          → IsFirstListError f (λ i. i) 0 dl repr kind hs e → HasSameError e (IsFirstListError g (λ i. i) 0 dl repr kind ks)
      first_error_by [] ks same e h = elim h [ ]
      first_error_by (fields ∷ hs) [] same e h = absurd (cc)
      first_error_by (fields ∷ hs) (others ∷ ks) same e (inl h) =
          let first : map f fields ≡ map g others = cc in
          let error = refused_by fields others first e h in
          (error.0, inl error.1, error.2)
      first_error_by (fields ∷ hs) (others ∷ ks) same e (inr (l, listed, h)) =
          let first : map f fields ≡ map g others = cc in
          let rest : map (map f) hs ≡ map (map g) ks = cc in
          let error = first_error_by hs ks rest e h in
          (error.0, inr (l, listed_by fields others first l listed, error.1), error.2)

      -- ---- the list of one variant

      -- the list of one variant has the same answer
      pub single_by : (index : ℕ) (optimizations : NicheOptimizations) (fields : List H) (others : List K) → map f fields ≡ map g others → (r : Result (LayoutData ℕ ℕ) (LayoutCalculatorError H))
          → IsSingleAnswer f (λ i. i) 0 index dl repr kind optimizations fields r → HasSameResult r (IsSingleAnswer g (λ i. i) 0 index dl repr kind optimizations others)
      single_by index optimizations fields others same (Ok l) (list, listed, is) = (Ok l, (list, listed_by fields others same list listed, is), refl)
      single_by index optimizations fields others same (Err e) (inl h) =
          let error = refused_by fields others same e h in
          (Err error.0, inl error.1, error.2)
      single_by index optimizations fields others same (Err e) (inr want) = (Err OutOfMemory, inr refl, same_name e OutOfMemory OutOfMemory want tt)

    -- ---- several variants

    module _ (hs : List (List H)) (ks : List (List K)) (same : map (map f) hs ≡ map (map g) ks) where
      -- there is the same layout with a niche, or none
      pub niche_by : (found : Option (LayoutData ℕ ℕ)) → IsNicheAnswer AreListLayouts f (λ i. i) (λ i. i) dl repr hs found → IsNicheAnswer AreListLayouts g (λ i. i) (λ i. i) dl repr ks found
      niche_by found (inl bound) = inl bound
      niche_by found (inr (inl (free, e, error, is))) =
          let other = first_error_by AlwaysSized hs ks same e error in
          inr (inl (free, other.0, other.1, is))
      niche_by found (inr (inr (free, lists, laid, is))) =
          inr (inr (free, lists, lists_by AlwaysSized hs ks same lists laid, is ∙ ap (λ ls. niche_layout 0 (λ i. i) dl repr ls lists) same))

      module _ (asked : Integer) (signed : Bool) (values : List ℕ) where
        -- behind the tag the variants have the same lists
        behind_by : (lists : List (LayoutData ℕ ℕ)) → AreListLayouts f (λ i. i) 0 dl repr (behind_tag dl repr asked (map (map f) hs)) hs lists
            → AreListLayouts g (λ i. i) 0 dl repr (behind_tag dl repr asked (map (map g) ks)) ks lists
        behind_by lists h =
            subst (λ ls. AreListLayouts g (λ i. i) 0 dl repr (behind_tag dl repr asked ls) ks lists) same (lists_by (behind_tag dl repr asked (map (map f) hs)) hs ks same lists h)

        -- and the same first one without a list
        behind_error_by : (e : LayoutCalculatorError H) → IsFirstListError f (λ i. i) 0 dl repr (behind_tag dl repr asked (map (map f) hs)) hs e
            → HasSameError e (IsFirstListError g (λ i. i) 0 dl repr (behind_tag dl repr asked (map (map g) ks)) ks)
        behind_error_by e h =
            subst (λ ls. HasSameError e (IsFirstListError g (λ i. i) 0 dl repr (behind_tag dl repr asked ls) ks)) same (first_error_by (behind_tag dl repr asked (map (map f) hs)) hs ks same e h)

        -- an enum with this tag has the same answer
        pub tagged_by : (r : Result (LayoutData ℕ ℕ) (LayoutCalculatorError H)) → IsTaggedAnswer f (λ i. i) (λ i. i) 0 dl repr asked signed values hs r
            → HasSameResult r (IsTaggedAnswer g (λ i. i) (λ i. i) 0 dl repr asked signed values ks)
        tagged_by (Ok l) (lists, laid, by) =
            (Ok l, (lists, behind_by lists laid, subst (λ ls. IsTaggedBy (λ i. i) 0 dl repr asked signed values ls lists l) same by), refl)
        tagged_by (Err e) (inl h) =
            let error = behind_error_by e h in
            (Err error.0, inl error.1, error.2)
        tagged_by (Err e) (inr (inl (lists, laid, large, is))) =
            (Err SizeOverflow, inr (inl (lists, behind_by lists laid, large, refl)), same_name e SizeOverflow SizeOverflow is tt)
        tagged_by (Err e) (inr (inr want)) = (Err OutOfMemory, inr (inr refl), same_name e OutOfMemory OutOfMemory want tt)

      module _ (asks : RangeFrom ℤ → RangeToInclusive ℕ → Integer × Bool → Type 0) where
        -- an enum whose tag is asked for has the same answer
        pub asked_by : (values : List ℕ) (r : Result (LayoutData ℕ ℕ) (LayoutCalculatorError H)) → IsAskedAnswer f (λ i. i) (λ i. i) 0 dl repr asks values hs r
            → HasSameResult r (IsAskedAnswer g (λ i. i) (λ i. i) 0 dl repr asks values ks)
        asked_by values r (asked, signed, answered, answer) =
            let s = tagged_by asked signed values r answer in
            (s.0, (asked, signed, answered, s.1), s.2)

        -- an enum that isn't packed has the same answer for its discriminants
        pub enum_by : (items : List (ℕ × ℕ)) (r : Result (LayoutData ℕ ℕ) (LayoutCalculatorError H)) → IsEnumAnswer f (λ i. i) (λ i. i) (λ i. i) (λ i. i) dl repr asks hs items r
            → HasSameResult r (IsEnumAnswer g (λ i. i) (λ i. i) (λ i. i) (λ i. i) dl repr asks ks items)
        enum_by items r (inl want) = (Err OutOfMemory, inl refl, same_error r OutOfMemory OutOfMemory want tt)
        enum_by items r (inr (niche, found, tagged, answer, is)) =
            let s = asked_by (counted_discriminants (λ i. i) repr (map (map f) hs) items) tagged answer in
            let counted = subst (λ ls. IsAskedAnswer g (λ i. i) (λ i. i) 0 dl repr asks (counted_discriminants (λ i. i) repr ls items) ks s.0) same s.1 in
            (better_of dl s.0 niche, inr (niche, niche_by niche found, s.0, counted, refl), subst (λ x. IsSameResult x (better_of dl s.0 niche)) (sym is) (same_better dl tagged s.0 niche s.2))

        -- an enum of several variants has the same answer
        pub several_by : (gives : List (ℕ × ℕ) → Type 0) (r : Result (LayoutData ℕ ℕ) (LayoutCalculatorError H)) → IsSeveralAnswer f (λ i. i) (λ i. i) (λ i. i) (λ i. i) dl repr asks hs gives r
            → HasSameResult r (IsSeveralAnswer g (λ i. i) (λ i. i) (λ i. i) (λ i. i) dl repr asks ks gives)
        several_by gives r (inl (packed, is)) = (Err ReprConflict, inl (packed, refl), same_error r ReprConflict ReprConflict is tt)
        several_by gives r (inr (inl (unpacked, want))) = (Err OutOfMemory, inr (inl (unpacked, refl)), same_error r OutOfMemory OutOfMemory want tt)
        several_by gives r (inr (inr (unpacked, items, given, answer))) =
            let s = enum_by items r answer in
            (s.0, inr (inr (unpacked, items, given, s.1)), s.2)

  -- ---- one type

  -- the variants at one place lend the same layouts
  same_at : (hs : List (List H)) (ks : List (List K)) → map (map f) hs ≡ map (map g) ks → (i : ℕ) → map f (variant_at hs i) ≡ map g (variant_at ks i)
  same_at [] [] same i = refl
  same_at [] (others ∷ ks) same i = absurd (cc)
  same_at (fields ∷ hs) [] same i = absurd (cc)
  same_at (fields ∷ hs) (others ∷ ks) same zero = cc
  same_at (fields ∷ hs) (others ∷ ks) same (suc i) = let rest : map (map f) hs ≡ map (map g) ks = cc in same_at hs ks rest i

  -- and are equally many
  same_count : (fields : List H) (others : List K) → map f fields ≡ map g others → length fields ≡ length others
  same_count fields others same = sym (length-map fields f) ∙ ap length same ∙ length-map others g

  module _ (dl : TargetDataLayout) (repr : ReprOptions) (hs : List (List H)) (ks : List (List K)) (same : map (map f) hs ≡ map (map g) ks) (is_enum always_sized : Bool)
      (optimizations : NicheOptimizations) (asks : RangeFrom ℤ → RangeToInclusive ℕ → Integer × Bool → Type 0) (gives : List (ℕ × ℕ) → Type 0) where
    -- a type with variants has the same answer, whatever lends its fields' layouts
    pub same_answer : (strategy : EnumStrategy) (r : Result (LayoutData ℕ ℕ) (LayoutCalculatorError H))
        → IsTypeAnswer f (λ i. i) (λ i. i) (λ i. i) (λ i. i) dl repr hs is_enum always_sized optimizations asks gives strategy r
        → HasSameResult r (IsTypeAnswer g (λ i. i) (λ i. i) (λ i. i) (λ i. i) dl repr ks is_enum always_sized optimizations asks gives strategy)
    same_answer NoValue r h = (Ok (never_layout dl), refl, subst (λ x. IsSameResult {K = K} x (Ok (never_layout dl))) (sym h) refl)
    same_answer (OneList i) r h =
        let there = same_at hs ks same i in
        let s = single_by dl repr (kind_at is_enum always_sized hs i) i optimizations (variant_at hs i) (variant_at ks i) there r h in
        let counted = subst (λ n. IsSingleAnswer g (λ i. i) 0 i dl repr (single_kind is_enum always_sized n) optimizations (variant_at ks i) s.0) (same_count (variant_at hs i) (variant_at ks i) there) s.1 in
        (s.0, counted, s.2)
    same_answer Several r h = several_by dl repr hs ks same asks gives r h

    -- where it has a layout, it has that layout, whatever lends its fields' layouts
    pub same_type : (strategy : EnumStrategy) (l : LayoutData ℕ ℕ) → IsTypeAnswer f (λ i. i) (λ i. i) (λ i. i) (λ i. i) dl repr hs is_enum always_sized optimizations asks gives strategy (Ok l)
        → IsTypeAnswer g (λ i. i) (λ i. i) (λ i. i) (λ i. i) dl repr ks is_enum always_sized optimizations asks gives strategy (Ok l)
    same_type strategy l h =
        of_ok H (IsTypeAnswer g (λ i. i) (λ i. i) (λ i. i) (λ i. i) dl repr ks is_enum always_sized optimizations asks gives strategy) l (same_answer strategy (Ok l) h)

    -- where it is refused, it is refused by an error of the same name
    pub same_type_error : (strategy : EnumStrategy) (e : LayoutCalculatorError H)
        → IsTypeAnswer f (λ i. i) (λ i. i) (λ i. i) (λ i. i) dl repr hs is_enum always_sized optimizations asks gives strategy (Err e)
        → (error : LayoutCalculatorError K) × IsTypeAnswer g (λ i. i) (λ i. i) (λ i. i) (λ i. i) dl repr ks is_enum always_sized optimizations asks gives strategy (Err error) × IsSameError e error
    same_type_error strategy e h =
        of_err (IsTypeAnswer g (λ i. i) (λ i. i) (λ i. i) (λ i. i) dl repr ks is_enum always_sized optimizations asks gives strategy) e (same_answer strategy (Err e) h)
