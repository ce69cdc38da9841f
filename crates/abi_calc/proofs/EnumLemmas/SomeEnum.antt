-- A type with variants has an answer that doesn't tell of that memory ran out.
use Rattle.std.proofs.Common.{◌≡◌, ℕ, zero, suc, ◌<◌, List, [], ◌∷◌, Option, Some, None, Bool, true, false, length, map, arith, inl, inr, refl, sym, ap, ◌∙◌, subst}
use Rattle.std.specs.Prelude.{◌⊎◌, All, fold, ℤ, pos, negsuc, ◌≤ℤ◌, Result, Ok, Err, is_some, slice_get}
use Rattle.std.specs.Int.{int_max, int_min}
use Rattle.std.specs.List.{list_any}
use Rattle.std.proofs.lemmas.Bool.{cases_lt}
use Rattle.std.proofs.lemmas.List.Elements.{All-head, All-nil, All-tail}
use Rattle.abi_base.specs.declared.data_layout.TargetDataLayout.{TargetDataLayout}
use Rattle.abi_base.specs.declared.integer.Integer.{Integer}
use Rattle.abi_base.specs.declared.niche_optimizations.NicheOptimizations.{NicheOptimizations}
use Rattle.abi_base.specs.declared.struct_kind.StructKind.{StructKind}
use Rattle.abi_base.specs.declared.struct_kind.StructKind.TheVariants.{AlwaysSized}
use Rattle.abi_base.specs.DataLayout.{size_bound}
use Rattle.abi_base.specs.Integer.{integer_size}
use Rattle.abi_scalar.specs.declared.error.LayoutCalculatorError.{LayoutCalculatorError}
use Rattle.abi_scalar.specs.declared.error.LayoutCalculatorError.TheVariants as calculator
use Rattle.abi_scalar.specs.declared.fields_shape.FieldsShape.TheVariants.{Arbitrary}
use Rattle.abi_scalar.specs.declared.layout_data.LayoutData.{LayoutData}
use Rattle.abi_scalar.specs.declared.niche.Niche.{Niche}
use Rattle.abi_scalar.specs.declared.repr.ReprOptions.{ReprOptions}
use Rattle.abi_scalar.specs.declared.variants.RangeFrom.{RangeFrom}
use Rattle.abi_scalar.specs.declared.variants.RangeToInclusive.{RangeToInclusive}
use Rattle.abi_scalar.specs.declared.variants.Variants.TheVariants.{Single}
use Rattle.abi_scalar.specs.Lawful.{IsLawfulLayout}
use Rattle.abi_scalar.specs.Repr.{is_abi_fixed}
use Rattle.abi_scalar.specs.Simple.{never_layout}
use Rattle.abi_univariant.specs.declared.order.NicheBias.TheVariants.{Start}
use Rattle.abi_univariant.specs.declared.placing.FieldsFault.{FieldsFault}
use Rattle.abi_univariant.specs.declared.placing.FieldsFault.TheVariants.{Unsized, TooLarge, OutOfMemory}
use Rattle.abi_univariant.specs.Fault.{IsErrorOf, IsFaultIndex, fault_in}
use Rattle.abi_univariant.specs.Fields.{greatest_repr_align, lies_as_in_c}
use Rattle.abi_univariant.specs.List.{IsUnivariantAnswer, IsUnivariantError, IsUnivariantLayout, list_seed, unadjusted_of}
use Rattle.abi_univariant.specs.ListView.{list_view}
use Rattle.abi_univariant.specs.Order.{IsNamedOrder}
use Rattle.abi_univariant.specs.Part.{parts_of}
use Rattle.abi_univariant.specs.Placement.{IsNonEmptyIfUnsized, fields_repr}
use Rattle.abi_univariant.specs.Run.{IsNamedLayout}
use Rattle.abi_univariant.proofs.Placed.FaultLemmas.{memory_in}
use Rattle.abi_univariant.proofs.Layouts.ListLemmas.{fault_named, length-parts, parts_lawful}
use Rattle.abi_univariant.proofs.Layouts.SomeOrder.{some_layout}
use Rattle.abi_calc.specs.declared.enums.strategy.EnumStrategy.{EnumStrategy}
use Rattle.abi_calc.specs.declared.enums.strategy.EnumStrategy.TheVariants.{NoValue, OneList, Several}
use Rattle.abi_calc.specs.Enums.Answer.{IsTypeAnswer, kind_at}
use Rattle.abi_calc.specs.Enums.Choice.{IsNicheAnswer}
use Rattle.abi_calc.specs.Enums.Discriminants.{IsAskedWith, counted_discriminants, meant_by}
use Rattle.abi_calc.specs.Enums.Growth.{grown_tag, start_align}
use Rattle.abi_calc.specs.Enums.Lists.{AreListLayouts, IsFirstListError, behind_tag}
use Rattle.abi_calc.specs.Enums.Niche.{niche_layout}
use Rattle.abi_calc.specs.Enums.EnumStrategy.{is_free, variant_at}
use Rattle.abi_calc.specs.Enums.Several.{IsAskedAnswer, IsEnumAnswer, IsSeveralAnswer, better_of}
use Rattle.abi_calc.specs.Enums.Single.{IsSingleAnswer, single_layout}
use Rattle.abi_calc.specs.Enums.Tagged.{IsTaggedAnswer, lists_size, tagged_layout}
use Rattle.abi_calc.proofs.EnumLemmas.Discriminants.{greatest_reached, least_reached, not_negative}
use Rattle.abi_calc.proofs.EnumLemmas.OneEnum.{AreFull, IsMade, all_full, single_full}
use Rattle.abi_calc.proofs.EnumLemmas.OneRange.{some_tag_range}

-- some result has the property, and isn't that memory ran out
abbrev pub HasAnswer : {H : Type 0} → (Result (LayoutData ℕ ℕ) (LayoutCalculatorError H) → Type 0) → Type 0
HasAnswer {H} P = (r : Result (LayoutData ℕ ℕ) (LayoutCalculatorError H)) × P r × IsMade r

-- some error has the property, and isn't that memory ran out
abbrev pub HasError : {H : Type 0} → (LayoutCalculatorError H → Type 0) → Type 0
HasError {H} P = (e : LayoutCalculatorError H) × P e × (e ≡ calculator.OutOfMemory → ⊥)

err_made : {H : Type 0} (e : LayoutCalculatorError H) → (e ≡ calculator.OutOfMemory → ⊥) → IsMade (Err e)
err_made e other is = other (cc)

-- ---- a list has an answer

-- what stands at an index inside
item_at : {A : Type 0} (xs : List A) (i : ℕ) → i < length xs → (x : A) × (slice_get xs i ≡ Some x)
item_at [] i short = absurd (omega arith)
item_at (x ∷ xs) zero short = (x, refl)
item_at (x ∷ xs) (suc i) short = item_at xs i (omega arith)

-- a fault of fields has an error
some_error_of : {H : Type 0} (fields : List H) (fault : FieldsFault) → IsFaultIndex (length fields) fault → (fault ≡ OutOfMemory → ⊥) → HasError (IsErrorOf fields fault)
some_error_of fields (Unsized i) there other =
    let item = item_at fields i there in
    (calculator.UnexpectedUnsized item.0, (item.0, item.1, refl), λ e. cc)
some_error_of fields TooLarge there other = (calculator.SizeOverflow, refl, λ e. cc)
some_error_of fields OutOfMemory there other = absurd (other refl)

module _ {F V H : Type 0} (layout_of : H → LayoutData F V) (at : ℕ → F) (head : V) (dl : TargetDataLayout) (repr : ReprOptions) (kind : StructKind) where
  -- the fields are lawful
  abbrev pub AreLawful : List H → Type 0
  AreLawful fields = All (λ f. IsLawfulLayout dl (layout_of f)) fields

  -- the parts are as many as the fields
  as_many : (fields : List H) → IsNonEmptyIfUnsized kind (length fields) → IsNonEmptyIfUnsized kind (length (parts_of dl (map layout_of fields)))
  as_many fields some = subst (IsNonEmptyIfUnsized kind) (sym (length-parts layout_of dl fields)) some

  -- the list has a layout, or an error
  abbrev pub IsListed : List H → Type 0
  IsListed fields = ((list : LayoutData F V) × IsUnivariantAnswer layout_of at head dl repr kind fields (Ok list)) ⊎ HasError (IsUnivariantError layout_of dl repr kind fields)

  refused : (fields : List H) (first : List ℕ) (fault : FieldsFault) → IsNonEmptyIfUnsized kind (length fields) → IsNamedOrder (fields_repr dl repr kind) Start (parts_of dl (map layout_of fields)) first
      → fault_in (fields_repr dl repr kind) (size_bound dl) (parts_of dl (map layout_of fields)) first ≡ Some fault → HasError (IsUnivariantError layout_of dl repr kind fields)
  refused fields first fault some named there =
      let parts = parts_of dl (map layout_of fields) in
      let list = fields_repr dl repr kind in
      let index : IsFaultIndex (length parts) fault = fault_named list dl parts fault (as_many fields some) (inl (first, named, there)) in
      let other : fault ≡ OutOfMemory → ⊥ = λ e. memory_in list (size_bound dl) parts first (there ∙ ap (λ f. Some f) e) in
      let error = some_error_of fields fault (subst (λ n. IsFaultIndex n fault) (length-parts layout_of dl fields) index) other in
      (error.0, (first, named, fault, there, error.1), error.2)

  laid : (fields : List H) (order offsets : List ℕ) (size align : ℕ) (niche : Option Niche)
      → IsNamedLayout dl (fields_repr dl repr kind) (parts_of dl (map layout_of fields)) order offsets size align niche
      → (list : LayoutData F V) × IsUnivariantAnswer layout_of at head dl repr kind fields (Ok list)
  laid fields order offsets size align niche named =
      let layouts = map layout_of fields in
      let made : LayoutData F V = record {
        fields = Arbitrary offsets (map at order);
        variants = Single head;
        backend_repr = list_view dl (is_abi_fixed repr) size align (parts_of dl layouts) offsets;
        largest_niche = niche;
        uninhabited = list_any (λ (f : LayoutData F V). f.uninhabited) layouts;
        align = record { abi = align };
        size = size;
        max_repr_align = greatest_repr_align repr.align layouts;
        unadjusted_abi_align = unadjusted_of dl repr kind size align (parts_of dl layouts);
        repr_c = lies_as_in_c repr layouts;
        randomization_seed = list_seed repr kind layouts;
      } in
      let is : IsUnivariantLayout at head dl repr kind layouts order offsets made = record {
        named = named;
        shape = refl;
        variants = refl;
        view = refl;
        uninhabited = refl;
        max_repr_align = refl;
        unadjusted_abi_align = refl;
        repr_c = refl;
        seed = refl;
      } in
      (made, (order, offsets, is))

  -- a list of lawful fields has a layout or an error
  pub some_listed : (fields : List H) → AreLawful fields → IsNonEmptyIfUnsized kind (length fields) → IsListed fields
  some_listed fields law some =
      either (some_layout dl (fields_repr dl repr kind) (parts_of dl (map layout_of fields)) (parts_lawful layout_of dl fields law) (as_many fields some))
    where
      either : ((first : List ℕ) × IsNamedOrder (fields_repr dl repr kind) Start (parts_of dl (map layout_of fields)) first
          × ((fault : FieldsFault) × (fault_in (fields_repr dl repr kind) (size_bound dl) (parts_of dl (map layout_of fields)) first ≡ Some fault)))
          ⊎ ((order : List ℕ) × (offsets : List ℕ) × (size : ℕ) × (align : ℕ) × (niche : Option Niche)
          × IsNamedLayout dl (fields_repr dl repr kind) (parts_of dl (map layout_of fields)) order offsets size align niche)
          → IsListed fields
      either (inl (first, named, (fault, there))) = inr (refused fields first fault some named there)
      either (inr (order, offsets, size, align, niche, named)) = inl (laid fields order offsets size align niche named)

  -- ---- the lists of the variants

  -- each variant has a layout, or there is a first that has an error
  abbrev pub AreListed : List (List H) → Type 0
  AreListed variants =
      ((lists : List (LayoutData F V)) × AreListLayouts layout_of at head dl repr kind variants lists) ⊎ HasError (IsFirstListError layout_of at head dl repr kind variants)

  one_more : (fields : List H) (variants : List (List H)) → IsListed fields → AreListed variants → AreListed (fields ∷ variants)
  one_more fields variants (inr (error, is, other)) rest = inr (error, inl is, other)
  one_more fields variants (inl (list, is)) (inl (lists, are)) = inl (list ∷ lists, (is, are))
  one_more fields variants (inl (list, is)) (inr (error, later, other)) = inr (error, inr (list, is, later), other)

  pub some_lists : (variants : List (List H)) → All AreLawful variants → AreFull kind variants → AreListed variants
  some_lists [] law some = inl ([], tt)
  some_lists (fields ∷ variants) law some =
      let P : List H → Type 0 = λ fields. IsNonEmptyIfUnsized kind (length fields) in
      one_more fields variants (some_listed fields (All-head AreLawful fields variants law) (All-head P fields variants some))
      (some_lists variants (All-tail AreLawful fields variants law) (All-tail P fields variants some))

-- ---- what is asked

-- what isn't less than 0 is a natural number
natural : (r : ℤ) → pos 0 ≤ℤ r → (n : ℕ) × (r ≡ pos n)
natural (pos n) h = (n, refl)
natural (negsuc n) h = absurd h.le

-- there is a least and a greatest number to ask with
pub some_asked : (dl : TargetDataLayout) (repr : ReprOptions) (values : List ℕ) → (least : ℤ) × (greatest : ℕ) × IsAskedWith dl repr values least greatest
some_asked dl repr values =
    let numbers = map (meant_by dl repr) values in
    let low = fold int_min (pos 0) numbers in
    let high = fold int_max (pos 0) numbers in
    let top = natural high (not_negative high numbers refl) in
    (low, top.0, (least_reached (pos 0) low numbers refl, greatest_reached (pos 0) (pos top.0) numbers (sym top.1)))

-- ---- an enum has an answer

-- there is a layout with a niche, or none
pub some_niche : {F V H : Type 0} (layout_of : H → LayoutData F V) (at : ℕ → F) (index : ℕ → V) (dl : TargetDataLayout) (repr : ReprOptions) (variants : List (List H)) → All (All (λ f. IsLawfulLayout dl (layout_of f))) variants
    → (found : Option (LayoutData F V)) × IsNicheAnswer AreListLayouts layout_of at index dl repr variants found
some_niche {F} {V} layout_of at index dl repr variants law = by (is_free repr) refl
  where
    listed : is_free repr ≡ true → AreListed layout_of at (index 0) dl repr AlwaysSized variants → (found : Option (LayoutData F V)) × IsNicheAnswer AreListLayouts layout_of at index dl repr variants found
    listed free (inl (lists, are)) = (niche_layout (at 0) index dl repr (map (map layout_of) variants) lists, inr (inr (free, lists, are, refl)))
    listed free (inr (error, is, other)) = (None, inr (inl (free, error, is, refl)))

    by : (b : Bool) → is_free repr ≡ b → (found : Option (LayoutData F V)) × IsNicheAnswer AreListLayouts layout_of at index dl repr variants found
    by false bound = (None, inl (bound, refl))
    by true free = listed free (some_lists layout_of at (index 0) dl repr AlwaysSized variants law (all_full AlwaysSized variants tt))

module _ {H : Type 0} (layout_of : H → LayoutData ℕ ℕ) (dl : TargetDataLayout) (repr : ReprOptions) (variants : List (List H)) (law : All (All (λ f. IsLawfulLayout dl (layout_of f))) variants) where
  -- an enum with this tag has an answer
  pub some_tagged : (asked : Integer) (signed : Bool) (values : List ℕ) → HasAnswer (IsTaggedAnswer layout_of (λ i. i) (λ i. i) 0 dl repr asked signed values variants)
  some_tagged asked signed values = by (some_lists layout_of (λ i. i) 0 dl repr (behind_tag dl repr asked (map (map layout_of) variants)) variants law (all_full (behind_tag dl repr asked (map (map layout_of) variants)) variants tt))
    where
      by : AreListed layout_of (λ i. i) 0 dl repr (behind_tag dl repr asked (map (map layout_of) variants)) variants → HasAnswer (IsTaggedAnswer layout_of (λ i. i) (λ i. i) 0 dl repr asked signed values variants)
      by (inr (error, is, other)) = (Err error, inl is, err_made error other)
      by (inl (lists, are)) = elim (cases_lt (lists_size dl lists) (size_bound dl)) [
        | inl small ↦
            let range = some_tag_range (integer_size (grown_tag dl repr asked (start_align (λ i. i) (map (map layout_of) variants) lists))) values in (
              Ok (tagged_layout (λ i. i) 0 dl repr asked signed range.0 (map (map layout_of) variants) lists),
              (lists, are, record { small = small; ranged = (range.0, range.1, refl) }),
              λ e. cc,
            )
        | inr large ↦ (Err calculator.SizeOverflow, inr (inl (lists, are, large, refl)), λ e. cc)
      ]

  better_made : (tagged : Result (LayoutData ℕ ℕ) (LayoutCalculatorError H)) (niche : Option (LayoutData ℕ ℕ)) → IsMade tagged → IsMade (better_of dl tagged niche)
  better_made (Ok l) niche made = λ e. cc
  better_made (Err e) niche made = made

  module _ (asks : RangeFrom ℤ → RangeToInclusive ℕ → Integer × Bool → Type 0) (total : (from : RangeFrom ℤ) (to : RangeToInclusive ℕ) → (x : Integer × Bool) × asks from to x) where
    -- where the question has an answer, an enum with a tag has one
    pub some_asked_answer : (values : List ℕ) → HasAnswer (IsAskedAnswer layout_of (λ i. i) (λ i. i) 0 dl repr asks values variants)
    some_asked_answer values =
        let ends = some_asked dl repr values in
        let answer = total (record { start = ends.0 }) (record { last = ends.1 }) in
        let tagged = some_tagged answer.0.0 answer.0.1 values in
        (tagged.0, (answer.0.0, answer.0.1, (ends.0, ends.1, ends.2, answer.1), tagged.1), tagged.2)

    -- so has one that isn't packed, for its discriminants
    pub some_enum : (items : List (ℕ × ℕ)) → HasAnswer (IsEnumAnswer layout_of (λ i. i) (λ i. i) (λ i. i) (λ i. i) dl repr asks variants items)
    some_enum items =
        let niche = some_niche layout_of (λ i. i) (λ i. i) dl repr variants law in
        let tagged = some_asked_answer (counted_discriminants (λ i. i) repr (map (map layout_of) variants) items) in
        (better_of dl tagged.0 niche.0, inr (niche.0, niche.1, tagged.0, tagged.1, refl), better_made tagged.0 niche.0 tagged.2)

    -- where discriminants are given and the question has an answer, an enum of several variants has one
    pub some_several : (gives : List (ℕ × ℕ) → Type 0) (items : List (ℕ × ℕ)) → gives items
        → HasAnswer (IsSeveralAnswer layout_of (λ i. i) (λ i. i) (λ i. i) (λ i. i) dl repr asks variants gives)
    some_several gives items given = by repr.pack refl
      where
        by : (pack : Option ℕ) → repr.pack ≡ pack → HasAnswer (IsSeveralAnswer layout_of (λ i. i) (λ i. i) (λ i. i) (λ i. i) dl repr asks variants gives)
        by None unpacked = let answer = some_enum items in (answer.0, inr (inr (unpacked, items, given, answer.1)), answer.2)
        by (Some n) packed = (Err calculator.ReprConflict, inl (ap is_some packed, refl), λ e. cc)

-- ---- a type has an answer

-- the list of one variant has an answer
pub some_single : {H : Type 0} (layout_of : H → LayoutData ℕ ℕ) (dl : TargetDataLayout) (repr : ReprOptions) (kind : StructKind) (index : ℕ) (optimizations : NicheOptimizations) (fields : List H)
    → All (λ f. IsLawfulLayout dl (layout_of f)) fields → IsNonEmptyIfUnsized kind (length fields) → HasAnswer (IsSingleAnswer layout_of (λ i. i) 0 index dl repr kind optimizations fields)
some_single {H} layout_of dl repr kind index optimizations fields law some = by (some_listed layout_of (λ i. i) 0 dl repr kind fields law some)
  where
    by : IsListed layout_of (λ i. i) 0 dl repr kind fields → HasAnswer (IsSingleAnswer layout_of (λ i. i) 0 index dl repr kind optimizations fields)
    by (inl (list, is)) = (Ok (single_layout index dl optimizations list), (list, is, refl), λ e. cc)
    by (inr (error, is, other)) = (Err error, inl is, err_made error other)

-- what holds of each field of each variant holds of those of the variant at a place
at_place : {H : Type 0} (P : H → Type 0) (variants : List (List H)) (i : ℕ) → All (All P) variants → All P (variant_at variants i)
at_place P [] i all = All-nil P
at_place P (fields ∷ variants) zero all = All-head (All P) fields variants all
at_place P (fields ∷ variants) (suc i) all = at_place P variants i (All-tail (All P) fields variants all)

-- where discriminants are given and the question has an answer, a type with variants has one
pub some_type : {H : Type 0} (layout_of : H → LayoutData ℕ ℕ) (dl : TargetDataLayout) (repr : ReprOptions) (variants : List (List H)) → All (All (λ f. IsLawfulLayout dl (layout_of f))) variants
    → (is_enum always_sized : Bool) (optimizations : NicheOptimizations) (asks : RangeFrom ℤ → RangeToInclusive ℕ → Integer × Bool → Type 0)
    → ((from : RangeFrom ℤ) (to : RangeToInclusive ℕ) → (x : Integer × Bool) × asks from to x) → (gives : List (ℕ × ℕ) → Type 0) (items : List (ℕ × ℕ)) → gives items → (strategy : EnumStrategy)
    → HasAnswer (IsTypeAnswer layout_of (λ i. i) (λ i. i) (λ i. i) (λ i. i) dl repr variants is_enum always_sized optimizations asks gives strategy)
some_type layout_of dl repr variants law is_enum always_sized optimizations asks total gives items given NoValue = (Ok (never_layout dl), refl, λ e. cc)
some_type layout_of dl repr variants law is_enum always_sized optimizations asks total gives items given (OneList i) =
    some_single layout_of dl repr (kind_at is_enum always_sized variants i) i optimizations (variant_at variants i)
    (at_place (λ f. IsLawfulLayout dl (layout_of f)) variants i law) (single_full is_enum always_sized (length (variant_at variants i)))
some_type layout_of dl repr variants law is_enum always_sized optimizations asks total gives items given Several = some_several layout_of dl repr variants law asks total gives items given
