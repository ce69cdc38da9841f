-- A tree has an answer: its layout, or its first fault.
use Rattle.std.proofs.Common.{◌≡◌, ℕ, List, [], ◌∷◌, Option, Some, None, length, map, inl, inr, refl, sym, ap, ◌∙◌, subst, All, Result, Ok, Err, true, false, ◌-◌, ◌^◌, ◌<◌, ◌≤◌, arith}
use Rattle.std.specs.Prelude.{◌⊎◌, IsPermutation, MatchBool, MatchOption, Bool}
use Rattle.std.specs.List.{list_any}
use Rattle.std.proofs.lemmas.Bool.{cases_lt}
use Rattle.std.proofs.lemmas.List.{map-id}
use Rattle.abi_base.specs.declared.integer.Integer.{Integer}
use Rattle.abi_base.specs.declared.integer.Integer.TheVariants.{I8, I16, I32, I64, I128}
use Rattle.abi_base.specs.declared.primitive.Primitive.TheVariants.{Int}
use Rattle.abi_base.specs.Integer.{HoldsUnsigned, integer_size}
use Rattle.abi_base.specs.declared.niche_optimizations.NicheOptimizations.TheVariants.{Enabled}
use Rattle.abi_base.specs.declared.data_layout.TargetDataLayout.{TargetDataLayout}
use Rattle.abi_base.specs.DataLayout.{IsLawfulDataLayout, size_bound}
use Rattle.abi_scalar.specs.declared.error.LayoutCalculatorError.{LayoutCalculatorError}
use Rattle.abi_scalar.specs.declared.fields_shape.FieldsShape.TheVariants.{Arbitrary}
use Rattle.abi_scalar.specs.declared.niche.Niche.{Niche}
use Rattle.abi_scalar.specs.declared.repr.ReprOptions.{ReprOptions}
use Rattle.abi_scalar.specs.declared.scalar.Scalar.{Scalar}
use Rattle.abi_scalar.specs.declared.scalar.Scalar.TheVariants.{Initialized}
use Rattle.abi_scalar.specs.declared.variants.Variants.TheVariants.{Single}
use Rattle.abi_scalar.specs.Repr.{is_abi_fixed}
use Rattle.abi_scalar.specs.Lawful.{IsLawfulLayout}
use Rattle.abi_univariant.specs.declared.order.NicheBias.TheVariants.{Start}
use Rattle.abi_univariant.specs.declared.placing.FieldsFault.{FieldsFault}
use Rattle.abi_univariant.specs.declared.placing.FieldsFault.TheVariants.{Unsized, TooLarge, OutOfMemory}
use Rattle.abi_univariant.specs.Fault.{IsErrorOf, fault_in}
use Rattle.abi_univariant.specs.Fields.{greatest_repr_align, lies_as_in_c}
use Rattle.abi_univariant.specs.InOrder.{IsLaidInOrder}
use Rattle.abi_univariant.specs.Least.{IsOrderOf}
use Rattle.abi_univariant.specs.List.{AreSized, IsListBy, list_seed, unadjusted_of}
use Rattle.abi_univariant.specs.ListView.{list_view}
use Rattle.abi_univariant.specs.Order.{IsNamedOrder}
use Rattle.abi_univariant.specs.Part.{parts_of as asked_of}
use Rattle.abi_base.specs.declared.struct_kind.StructKind.{StructKind}
use Rattle.abi_univariant.specs.Placement.{IsNonEmptyIfUnsized, KeepsTail, fields_repr, source_order}
use Rattle.abi_univariant.specs.Run.{IsNamedLayout}
use Rattle.abi_univariant.specs.Union.{union_fault, union_layout}
use Rattle.abi_univariant.proofs.Promised.DeepLemmas.{sized_fault, sized_in_order}
use Rattle.abi_univariant.proofs.Placed.FaultLemmas.{memory_in}
use Rattle.abi_univariant.proofs.Layouts.SomeOrder.{some_layout, some_placed}
use Rattle.abi_univariant.proofs.Views.SomeView.{some_union_view}
use Rattle.abi_calc.specs.Coroutine.Layout.{IsStateTag}
use Rattle.abi_calc.proofs.CoroutineLemmas.SomeCoroutine.{some_coroutine}
use Rattle.abi_calc.proofs.EnumLemmas.SomeEnum.{some_type}
use Rattle.abi_calc.specs.Enums.EnumStrategy.{strategy_of}
use Rattle.rustc_abi.specs.declared.error.LayError.{LayError}
use Rattle.rustc_abi.specs.declared.error.LayError.TheVariants.{BadOrder, SizeOverflow}
use Rattle.abi_tree.specs.Tree.{Tree, scalar, pair, never, unit, array, vector, struct, union, enum, coroutine, Trees, no_trees, more_trees, Variants, no_variants, more_variants}
use Rattle.abi_tree.specs.Placed.{Placed, layout_of}
use Rattle.abi_scalar.specs.Layout.{Layout}
use Rattle.rustc_abi.specs.Error.{Follows, lay_error}
use Rattle.rustc_abi.specs.Laying.{IsListedInOrder, IsOrderedFieldsAnswer, ordered_fault, with_randomize_flag}
use Rattle.rustc_abi.proofs.Trees.OrderLemmas.{allowed_parts, ordered_faultless, reorderable}
use Rattle.abi_univariant.proofs.Sorted.Allowed.{keeps_or_not, permutes_or_not}
use Rattle.rustc_abi.specs.Laying.{AreLaying, IsFieldsAnswer, IsLaying, IsLaidList, IsCoroutineOf, IsUnionOf, IsUnited, VariantsLaying, elements_answer, fields_fault, kind_of, placed_fields, placed_together, vector_answer, IsEnumOf, enum_fault, placed_enum, coroutine_fault, most_fields, one_scalar, placed_coroutine}
use Rattle.rustc_abi.specs.Coroutines.{IsCoroutined, IsStated, conflicts_of}
use Rattle.rustc_abi.specs.Enums.{IsCalculated, IsEnumed, IsTagIntegerAnswer, numbered_from, layouts_of, discriminants_of}
use Rattle.rustc_abi.proofs.Trees.LaidLemmas.{IsWhole, all_whole, whole_lawful, asked_lawful, asked_sized, length-asked, some_field, each_lawful, variants_whole, coroutine_asked, CoroutineAnswersBy}
use Rattle.rustc_abi.proofs.Faults.CoroutineFaultLemmas.{few_states}
use Rattle.rustc_abi.proofs.Enums.TagIntegerLemmas.{tag_integer_total}
use Rattle.abi_scalar.specs.declared.error.LayoutCalculatorError.TheVariants as calculator

-- some result has the property
abbrev HasAnswer : {A : Type 0} → (Result A LayError → Type 0) → Type 0
HasAnswer {A} P = (r : Result A LayError) × P r

-- what has an answer goes on to an answer
some_follows : {A B : Type 0} (P : Result A LayError → Type 0) (next : A → Result B LayError → Type 0) → HasAnswer P → ((a : A) → P (Ok a) → HasAnswer (next a)) → HasAnswer (Follows P next)
some_follows P next (Ok a, p) go = let later = go a p in (later.0, inr (a, p, later.1))
some_follows P next (Err e, p) go = (Err e, inl (e, p, refl))

-- a fault of the node's own is told, else what follows
some_by : {A : Type 0} (fault : Option LayError) (P : Result A LayError → Type 0) (make : A → Placed) → HasAnswer P
    → HasAnswer (λ r. MatchOption fault (Follows P (λ a r. r ≡ Ok (make a)) r) (λ e. r ≡ Err e))
some_by None P make answer = some_follows P (λ a r. r ≡ Ok (make a)) answer (λ a p. (Ok (make a), refl))
some_by (Some e) P make answer = (Err e, refl)

-- ---- the tag of states

-- one of this integer, where it is the least that has the last state's index
tag_with : (count : ℕ) (integer : Integer) → HoldsUnsigned integer (count - 1) → ((i : Integer) → HoldsUnsigned i (count - 1) → integer_size integer ≤ integer_size i) → (tag : Scalar) × IsStateTag count tag
tag_with count integer holds least = (Initialized (Int integer false) (record { start = 0; end = count - 1 }), (integer, record { holds = holds; least = least }, refl))

-- so many states have a tag
some_tag : (count : ℕ) → count ≤ most_fields → (tag : Scalar) × IsStateTag count tag
some_tag count few = of_8 (cases_lt (count - 1) (2 ^ 8))
  where
    of_16 : (2 ^ 8 ≤ count - 1) → ((count - 1 < 2 ^ 16) ⊎ (2 ^ 16 ≤ count - 1)) → (tag : Scalar) × IsStateTag count tag
    of_16 over (inl low) = tag_with count I16 low least
      where
        least : (i : Integer) → HoldsUnsigned i (count - 1) → 2 ≤ integer_size i
        least I8 h = absurd (omega (arith, over, h))
        least I16 h = omega arith
        least I32 h = omega arith
        least I64 h = omega arith
        least I128 h = omega arith
    of_16 over (inr high) = tag_with count I32 (omega (arith, few)) least
      where
        least : (i : Integer) → HoldsUnsigned i (count - 1) → 4 ≤ integer_size i
        least I8 h = absurd (omega (arith, over, h))
        least I16 h = absurd (omega (arith, high, h))
        least I32 h = omega arith
        least I64 h = omega arith
        least I128 h = omega arith

    of_8 : ((count - 1 < 2 ^ 8) ⊎ (2 ^ 8 ≤ count - 1)) → (tag : Scalar) × IsStateTag count tag
    of_8 (inl low) = tag_with count I8 low least
      where
        least : (i : Integer) → HoldsUnsigned i (count - 1) → 1 ≤ integer_size i
        least I8 h = omega arith
        least I16 h = omega arith
        least I32 h = omega arith
        least I64 h = omega arith
        least I128 h = omega arith
    of_8 (inr over) = of_16 over (cases_lt (count - 1) (2 ^ 16))

module _ (dl : TargetDataLayout) (law : IsLawfulDataLayout dl) where
  -- ---- a list of fields

  module _ (repr : ReprOptions) (always_sized : Bool) (ps : List Placed) (whole : All (IsWhole dl) ps) where
    abbrev layouts : List Layout
    layouts = map layout_of ps

    full : IsNonEmptyIfUnsized (kind_of always_sized ps) (length (asked_of dl layouts))
    full = subst (IsNonEmptyIfUnsized (kind_of always_sized ps)) (sym (length-asked dl ps)) (some_field always_sized ps)

    plain : map (λ (l : Layout). l) layouts ≡ layouts
    plain = map-id layouts

    told_as : (fault : FieldsFault) → (fault ≡ TooLarge) ⊎ (fault ≡ OutOfMemory) → (fault ≡ OutOfMemory → ⊥) → IsErrorOf layouts fault calculator.SizeOverflow
    told_as (Unsized i) (inl e) other = absurd (cc)
    told_as (Unsized i) (inr e) other = absurd (cc)
    told_as TooLarge h other = refl
    told_as OutOfMemory h other = absurd (other refl)

    refused : (first : List ℕ) (fault : FieldsFault) → IsNamedOrder (fields_repr dl repr (kind_of always_sized ps)) Start (asked_of dl layouts) first
        → fault_in (fields_repr dl repr (kind_of always_sized ps)) (size_bound dl) (asked_of dl layouts) first ≡ Some fault
        → HasAnswer (IsLaidList dl repr (kind_of always_sized ps) layouts)
    refused first fault named there =
        let list = fields_repr dl repr (kind_of always_sized ps) in
        let same_named = subst (λ ls. IsNamedOrder list Start (asked_of dl ls) first) (sym plain) named in
        let same_there = subst (λ ls. fault_in list (size_bound dl) (asked_of dl ls) first ≡ Some fault) (sym plain) there in
        let sized = subst AreSized (sym plain) (asked_sized dl ps whole) in
        let tail = subst (λ ls. IsNonEmptyIfUnsized (kind_of always_sized ps) (length (asked_of dl ls))) (sym plain) full in
        let known = sized_fault (λ (l : Layout). l) dl list layouts fault sized tail (inl (first, same_named, same_there)) in
        let other : fault ≡ OutOfMemory → ⊥ = λ e. memory_in list (size_bound dl) (asked_of dl layouts) first (there ∙ ap (λ f. Some f) e) in
        (Err SizeOverflow, (calculator.SizeOverflow, (first, same_named, fault, same_there, told_as fault known other), refl))

    -- with the marks and the view of its fields, wherever a rule places them
    made_by : (Rule : (order offsets : List ℕ) → (size align : ℕ) → Option Niche → Type 0) (order offsets : List ℕ) (size align : ℕ) (niche : Option Niche) → Rule order offsets size align niche
        → (made : Layout) × IsListBy Rule (λ i. i) 0 dl repr (kind_of always_sized ps) layouts order offsets made
    made_by Rule order offsets size align niche named =
        let made : Layout = record {
          fields = Arbitrary offsets (map (λ i. i) order);
          variants = Single 0;
          backend_repr = list_view dl (is_abi_fixed repr) size align (asked_of dl layouts) offsets;
          largest_niche = niche;
          uninhabited = list_any (λ (f : Layout). f.uninhabited) layouts;
          align = record { abi = align };
          size = size;
          max_repr_align = greatest_repr_align repr.align layouts;
          unadjusted_abi_align = unadjusted_of dl repr (kind_of always_sized ps) size align (asked_of dl layouts);
          repr_c = lies_as_in_c repr layouts;
          randomization_seed = list_seed repr (kind_of always_sized ps) layouts;
        } in
        let is : IsListBy Rule (λ i. i) 0 dl repr (kind_of always_sized ps) layouts order offsets made = record {
          named = named;
          shape = refl;
          variants = refl;
          view = refl;
          uninhabited = refl;
          max_repr_align = refl;
          unadjusted_abi_align = refl;
          repr_c = refl;
          seed = refl;
        } in
        (made, is)

    laid : (order offsets : List ℕ) (size align : ℕ) (niche : Option Niche) → IsNamedLayout dl (fields_repr dl repr (kind_of always_sized ps)) (asked_of dl layouts) order offsets size align niche
        → HasAnswer (IsLaidList dl repr (kind_of always_sized ps) layouts)
    laid order offsets size align niche named =
        let made = made_by (IsNamedLayout dl (fields_repr dl repr (kind_of always_sized ps)) (asked_of dl layouts)) order offsets size align niche named in
        (Ok made.0, (order, offsets, made.1))

    some_listed : HasAnswer (IsLaidList dl repr (kind_of always_sized ps) layouts)
    some_listed = either (some_layout dl (fields_repr dl repr (kind_of always_sized ps)) (asked_of dl layouts) (asked_lawful dl ps whole) full)
      where
        either : ((first : List ℕ) × IsNamedOrder (fields_repr dl repr (kind_of always_sized ps)) Start (asked_of dl layouts) first
            × ((fault : FieldsFault) × (fault_in (fields_repr dl repr (kind_of always_sized ps)) (size_bound dl) (asked_of dl layouts) first ≡ Some fault)))
            ⊎ ((order : List ℕ) × (offsets : List ℕ) × (size : ℕ) × (align : ℕ) × (niche : Option Niche)
            × IsNamedLayout dl (fields_repr dl repr (kind_of always_sized ps)) (asked_of dl layouts) order offsets size align niche)
            → HasAnswer (IsLaidList dl repr (kind_of always_sized ps) layouts)
        either (inl (first, named, (fault, there))) = refused first fault named there
        either (inr (order, offsets, size, align, niche, named)) = laid order offsets size align niche named

    -- ---- and in an order that is handed in

    abbrev kind : StructKind
    kind = kind_of always_sized ps

    faulty : (order : List ℕ) → IsOrderOf dl repr kind (length layouts) order → (fault : Option FieldsFault) → fault_in (fields_repr dl repr kind) (size_bound dl) (asked_of dl layouts) order ≡ fault
        → HasAnswer (IsListedInOrder dl repr kind order layouts)
    faulty order allowed None clear =
        let found = some_placed dl (fields_repr dl repr kind) (asked_of dl layouts) (asked_lawful dl ps whole) full Start order (allowed_parts dl repr kind order ps allowed) clear in
        let made = made_by (IsLaidInOrder dl repr kind layouts) order found.0 _ _ _ (allowed, found.1) in
        (Ok made.0, (found.0, made.1))
    faulty order allowed (Some fault) there =
        let list = fields_repr dl repr kind in
        let same = subst (λ ls. fault_in list (size_bound dl) (asked_of dl ls) order ≡ Some fault) (sym plain) there in
        let large = sized_in_order layout_of dl list ps order fault (asked_sized dl ps whole) (allowed_parts dl repr kind order ps allowed) there in
        (Err SizeOverflow, (calculator.SizeOverflow, inr (allowed, fault, same, told_as fault (inl large) (λ e. absurd (cc))), refl))

    some_ordered : (order : List ℕ) → (fields_repr dl repr kind).reorderable ≡ true → HasAnswer (IsListedInOrder dl repr kind order layouts)
    some_ordered order free = by (permutes_or_not (length layouts) order) (keeps_or_not kind (length layouts) order)
      where
        IsEither : Bool → Type 0
        IsEither b = MatchBool b (IsPermutation (source_order (length layouts)) order × KeepsTail kind (length layouts) order) (order ≡ source_order (length layouts))

        bad : (IsOrderOf dl repr kind (length layouts) order → ⊥) → HasAnswer (IsListedInOrder dl repr kind order layouts)
        bad isnt = (Err BadOrder, (calculator.BadOrder, inl (isnt, refl), refl))

        by : IsPermutation (source_order (length layouts)) order ⊎ (IsPermutation (source_order (length layouts)) order → ⊥)
            → KeepsTail kind (length layouts) order ⊎ (KeepsTail kind (length layouts) order → ⊥) → HasAnswer (IsListedInOrder dl repr kind order layouts)
        by (inr isnt) keeps = bad (λ (allowed : IsEither (fields_repr dl repr kind).reorderable). isnt (subst IsEither free allowed).0)
        by (inl permutes) (inr isnt) = bad (λ (allowed : IsEither (fields_repr dl repr kind).reorderable). isnt (subst IsEither free allowed).1)
        by (inl permutes) (inl keeps) = faulty order (subst IsEither (sym free) (permutes, keeps)) (fault_in (fields_repr dl repr kind) (size_bound dl) (asked_of dl layouts) order) refl

  -- ---- the fields of a union

  some_united : (repr : ReprOptions) (layouts : List Layout) → HasAnswer (IsUnited dl repr layouts)
  some_united repr layouts = by_fault (union_fault (λ (l : Layout). l) dl repr layouts) refl
    where
      by_fault : (fault : Option (LayoutCalculatorError Layout)) → union_fault (λ (l : Layout). l) dl repr layouts ≡ fault → HasAnswer (IsUnited dl repr layouts)
      by_fault None none =
          let view = some_union_view dl repr (map (λ (l : Layout). l) layouts) in
          (Ok (union_layout 0 dl repr (map (λ (l : Layout). l) layouts) view.0), (none, view.1, refl))
      by_fault (Some error) there = (Err (lay_error error), (error, there, refl))

  -- ---- the variants of an enum

  named_so : (repr : ReprOptions) (numbers : List ℕ) (variants : List (List Placed)) (r : Result Layout (LayoutCalculatorError Placed)) → IsCalculated dl repr numbers variants r →
      (r ≡ Err calculator.OutOfMemory → ⊥) → HasAnswer (IsEnumed dl repr numbers variants)
  named_so repr numbers variants (Ok l) h made = (Ok l, h)
  named_so repr numbers variants (Err error) h made = (Err (lay_error error), (error, h, (λ e. made (ap (λ x. Err x) e)), refl))

  some_enumed : (repr : ReprOptions) (numbers : List ℕ) (variants : List (List Placed)) → All (All (λ p. IsLawfulLayout dl (layout_of p))) variants → HasAnswer (IsEnumed dl repr numbers variants)
  some_enumed repr numbers variants lawful =
      let answer = some_type layout_of dl repr variants lawful true true Enabled (IsTagIntegerAnswer dl repr) (tag_integer_total dl repr) (λ items. items ≡ numbered_from 0 numbers) (numbered_from 0 numbers) refl
      (strategy_of true repr (layouts_of variants)) in
      named_so repr numbers variants answer.0 answer.1 answer.2

  -- ---- the lists of a coroutine

  module _ (pres ps : List Placed) (states : List (List ℕ)) (conflicts : List (ℕ × ℕ)) (before : All (IsWhole dl) pres) (there : All (IsWhole dl) ps) where
    -- the answer, by the name of its error
    stated_so : (tag : Scalar) (r : Result Layout (LayoutCalculatorError Placed)) → IsStated dl pres tag (one_scalar dl tag) ps states conflicts r → (r ≡ Err calculator.OutOfMemory → ⊥)
        → HasAnswer (IsCoroutined dl pres tag (one_scalar dl tag) ps states conflicts)
    stated_so tag (Ok l) h made = (Ok l, h)
    stated_so tag (Err error) h made = (Err (lay_error error), (error, h, (λ e. made (ap (λ x. Err x) e)), refl))

    some_coroutined : (tag : Scalar) → IsStateTag (length states) tag → HasAnswer (IsCoroutined dl pres tag (one_scalar dl tag) ps states conflicts)
    some_coroutined tag is_state_tag =
        let answer = some_coroutine layout_of dl pres tag (one_scalar dl tag) ps states (conflicts_of (length ps) conflicts) (coroutine_asked dl law pres ps states conflicts (whole_lawful dl pres before) (whole_lawful dl ps there) tag is_state_tag) in
        stated_so tag answer.0 answer.1 answer.2

    some_stated : (fault : Option LayError) → coroutine_fault (length pres) (length ps) states conflicts ≡ fault → HasAnswer (CoroutineAnswersBy dl pres ps states conflicts fault)
    some_stated None none =
        let tag = some_tag (length states) (few_states (length pres) (length ps) states conflicts none) in
        let answer = some_follows (IsCoroutined dl pres tag.0 (one_scalar dl tag.0) ps states conflicts) (λ layout r. r ≡ Ok (placed_coroutine dl pres tag.0 ps states layout)) (some_coroutined tag.0 tag.1)
        (λ layout h. (Ok (placed_coroutine dl pres tag.0 ps states layout), refl)) in
        (answer.0, (tag.0, tag.1, answer.1))
    some_stated (Some e) there_is = (Err e, refl)

    some_coroutine_of : HasAnswer (IsCoroutineOf dl pres ps states conflicts)
    some_coroutine_of = some_stated (coroutine_fault (length pres) (length ps) states conflicts) refl

  -- ---- trees

  -- where there is no own fault, the order is free
  ordered_by : (repr : ReprOptions) (always_sized : Bool) (order : List ℕ) (ps : List Placed) (fault : Option LayError) → ordered_fault repr ps ≡ fault
      → ((fields_repr dl (with_randomize_flag repr) (kind_of always_sized ps)).reorderable ≡ true → HasAnswer (IsListedInOrder dl (with_randomize_flag repr) (kind_of always_sized ps) order (map layout_of ps)))
      → HasAnswer (IsOrderedFieldsAnswer dl repr always_sized order ps)
  ordered_by repr always_sized order ps None none answer =
      let listed = answer (reorderable dl repr (kind_of always_sized ps) (ordered_faultless repr ps none).1) in
      let found = some_by None (IsListedInOrder dl (with_randomize_flag repr) (kind_of always_sized ps) order (map layout_of ps)) (placed_fields repr ps) listed in
      (found.0, rw none found.1)
  ordered_by repr always_sized order ps (Some f) is answer = (Err f, rw is refl)

  mutual
    pub some_answer : (t : Tree) → HasAnswer (IsLaying dl t)
    some_answer (scalar s) = (_, refl)
    some_answer (pair a b) = (_, refl)
    some_answer never = (_, refl)
    some_answer unit = (_, refl)
    some_answer (array count element) = some_follows (IsLaying dl element) (λ p r. r ≡ elements_answer dl count p) (some_answer element) (λ p h. (elements_answer dl count p, refl))
    some_answer (struct repr always_sized None all) =
        some_follows (AreLaying dl all) (IsFieldsAnswer dl repr always_sized) (some_list all)
        (λ ps h. some_by (fields_fault repr ps) (IsLaidList dl repr (kind_of always_sized ps) (map layout_of ps)) (placed_fields repr ps) (some_listed repr always_sized ps (all_whole dl law all ps h)))
    some_answer (struct repr always_sized (Some order) all) =
        some_follows (AreLaying dl all) (IsOrderedFieldsAnswer dl repr always_sized order) (some_list all)
        (λ ps h. ordered_by repr always_sized order ps (ordered_fault repr ps) refl (some_ordered (with_randomize_flag repr) always_sized ps (all_whole dl law all ps h) order))
    some_answer (vector lanes packed element) =
        some_follows (IsLaying dl element) (λ p r. r ≡ vector_answer dl lanes packed p) (some_answer element) (λ p h. (vector_answer dl lanes packed p, refl))
    some_answer (union repr all) =
        some_follows (AreLaying dl all) (IsUnionOf dl repr) (some_list all)
        (λ ps h. some_by (fields_fault repr ps) (IsUnited dl repr (map layout_of ps)) (placed_together repr ps) (some_united repr (map layout_of ps)))
    some_answer (enum repr all) =
        some_follows (VariantsLaying dl all) (IsEnumOf dl repr (discriminants_of all)) (some_variants all)
        (λ variants h. some_by (enum_fault dl repr (discriminants_of all) variants) (IsEnumed dl repr (discriminants_of all) variants) (placed_enum dl repr (discriminants_of all) variants)
        (some_enumed repr (discriminants_of all) variants (each_lawful dl variants (variants_whole dl law all variants h))))
    some_answer (coroutine prefix locals states conflicts) =
        some_follows (AreLaying dl prefix) (λ pres. Follows (AreLaying dl locals) (λ ps. IsCoroutineOf dl pres ps states conflicts)) (some_list prefix)
        (λ pres h. some_follows (AreLaying dl locals) (λ ps. IsCoroutineOf dl pres ps states conflicts) (some_list locals)
        (λ ps k. some_coroutine_of pres ps states conflicts (all_whole dl law prefix pres h) (all_whole dl law locals ps k)))

    some_list : (ts : Trees) → HasAnswer (AreLaying dl ts)
    some_list no_trees = (Ok [], refl)
    some_list (more_trees t ts) =
        some_follows (IsLaying dl t) (λ p. Follows (AreLaying dl ts) (λ ps r. r ≡ Ok (p ∷ ps))) (some_answer t)
        (λ p h. some_follows (AreLaying dl ts) (λ ps r. r ≡ Ok (p ∷ ps)) (some_list ts) (λ ps k. (Ok (p ∷ ps), refl)))

    some_variants : (all : Variants) → HasAnswer (VariantsLaying dl all)
    some_variants no_variants = (Ok [], refl)
    some_variants (more_variants discriminant ts others) =
        some_follows (AreLaying dl ts) (λ ps. Follows (VariantsLaying dl others) (λ rest r. r ≡ Ok (ps ∷ rest))) (some_list ts)
        (λ ps h. some_follows (VariantsLaying dl others) (λ rest r. r ≡ Ok (ps ∷ rest)) (some_variants others) (λ rest k. (Ok (ps ∷ rest), refl)))
