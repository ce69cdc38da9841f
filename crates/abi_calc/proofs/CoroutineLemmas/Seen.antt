-- How a coroutine is seen, and what it takes over from its lists, from the answer that the rules give it.
use Rattle.std.proofs.Common.{◌≡◌, ℕ, suc, ◌+◌, ◌∙◌, true, Bool, List, [], ◌∷◌, ap, ap₂, arith, drop, length, map, max, refl, subst, sym}
use Rattle.std.specs.Prelude.{◌||◌, ◌&&◌, None, IfOk, Result, Ok, Err, take, filter, nat_lt}
use Rattle.std.specs.List.{list_all}
use Rattle.std.proofs.lemmas.List.{length-map}
use Rattle.std.proofs.lemmas.List.Folds.{list_any-append}
use Rattle.abi_base.specs.declared.data_layout.TargetDataLayout.{TargetDataLayout}
use Rattle.abi_base.specs.declared.struct_kind.StructKind.{StructKind}
use Rattle.abi_base.specs.declared.struct_kind.StructKind.TheVariants.{AlwaysSized, Prefixed}
use Rattle.abi_index.specs.BitSet.{members_of}
use Rattle.abi_index.specs.Relation.{Relation}
use Rattle.abi_scalar.specs.declared.backend_repr.BackendRepr.TheVariants.{Memory}
use Rattle.abi_scalar.specs.declared.error.LayoutCalculatorError.{LayoutCalculatorError}
use Rattle.abi_scalar.specs.declared.layout_data.LayoutData.{LayoutData}
use Rattle.abi_scalar.specs.declared.scalar.Scalar.{Scalar}
use Rattle.abi_scalar.specs.declared.variants.TagEncoding.TheVariants.{Direct}
use Rattle.abi_scalar.specs.declared.variants.Variants.TheVariants.{Multiple}
use Rattle.abi_scalar.specs.Lawful.{IsLawfulLayout}
use Rattle.abi_scalar.specs.Shape.{listed_offsets, listed_order}
use Rattle.abi_scalar.specs.Simple.{scalar_layout}
use Rattle.abi_scalar.specs.Variant.{variants_of}
use Rattle.abi_univariant.specs.Fields.{greatest}
use Rattle.abi_univariant.specs.Least.{align_by}
use Rattle.abi_calc.specs.Coroutine.Answer.{IsCoroutineAnswer}
use Rattle.abi_calc.specs.Coroutine.Layout.{IsStateTag, whole_align}
use Rattle.abi_calc.specs.Coroutine.Lists.{AreOwnLists, state_list_kind, default_repr, first_list, own_of, picked}
use Rattle.abi_calc.specs.Coroutine.Made.{AreStatesOf, IsAlignedAsLists, IsMadeOfStates}
use Rattle.abi_calc.specs.Coroutine.Promotion.{promoted_of}
use Rattle.abi_calc.specs.Coroutine.Sizes.{align_of_all, own_lists}
use Rattle.abi_calc.specs.Coroutine.States.{ranks_of, state_layouts}
use Rattle.abi_calc.specs.Enums.Lists.{AreListLayouts}
use Rattle.abi_calc.specs.Enums.EnumStrategy.{has_no_value}
use Rattle.abi_calc.specs.Made.{AreFieldLists, IsFieldList}
use Rattle.abi_calc.specs.Marks.{HasCoroutineMarks}
use Rattle.abi_calc.proofs.CoroutineLemmas.Promised.{IsAsked, first_lawful, map_first, map_own, map_picked, own_all}
use Rattle.abi_calc.proofs.Made.{field_list, field_lists, list_align, lists_aligns}

-- each state from its list, whatever they are
pub states_of : {F V : Type 0} (at : ℕ → F) (number : F → ℕ) (before : ℕ) (promoted : List Bool) (first : LayoutData F V) (states : List (List ℕ)) (lists : List (LayoutData F V)) → length states ≡ length lists
    → AreStatesOf at number promoted (drop before (listed_offsets first.fields)) (ranks_of number before (listed_order first.fields)) states lists (state_layouts at number before promoted first states lists)
states_of at number before promoted first [] [] e = tt
states_of at number before promoted first [] (l ∷ ls) e = absurd (cc)
states_of at number before promoted first (s ∷ ss) [] e = absurd (cc)
states_of at number before promoted first (s ∷ ss) (l ∷ ls) e =
    (record { offsets = refl; order = refl; size = refl; view = refl; niche = refl; uninhabited = refl }, states_of at number before promoted first ss ls (omega (arith, e)))

module _ {F V H : Type 0} (layout_of : H → LayoutData F V) (at : ℕ → F) (number : F → ℕ) (zeroth : V) (dl : TargetDataLayout) (prefix : List H) (tag : Scalar) (field : H) (locals : List H) (states : List (List ℕ)) (conflicts : Relation) where
  -- what the rules answer
  abbrev Answers : Result (LayoutData F V) (LayoutCalculatorError H) → Type 0
  Answers r = IsCoroutineAnswer layout_of at number zeroth dl prefix tag field locals states conflicts r

  -- it has no niche
  pub coroutine_niche : (r : Result (LayoutData F V) (LayoutCalculatorError H)) → Answers r → IfOk r (λ l. l.largest_niche ≡ None)
  coroutine_niche (Ok l) (first, h, lists, hs, below, is) = ap (λ m. m.largest_niche) is
  coroutine_niche (Err e) h = tt

  -- and is seen as bytes in memory
  pub coroutine_view : (r : Result (LayoutData F V) (LayoutCalculatorError H)) → Answers r → IfOk r (λ l. l.backend_repr ≡ Memory true)
  coroutine_view (Ok l) (first, h, lists, hs, below, is) = ap (λ m. m.backend_repr) is
  coroutine_view (Err e) h = tt

  abbrev promoted : List Bool
  promoted = promoted_of states conflicts

  -- the lists of the states, as lists of fields
  as_lists : (kind : StructKind) (states : List (List ℕ)) (lists : List (LayoutData F V)) → AreOwnLists layout_of at zeroth dl kind locals promoted states lists
      → AreListLayouts layout_of at zeroth dl default_repr kind (own_lists locals promoted states) lists
  as_lists kind [] [] h = tt
  as_lists kind [] (l ∷ ls) h = elim h [ ]
  as_lists kind (s ∷ ss) [] h = elim h [ ]
  as_lists kind (s ∷ ss) (l ∷ ls) h = (h.0, as_lists kind ss ls h.1)

  -- one for each state
  as_many : (kind : StructKind) (states : List (List ℕ)) (lists : List (LayoutData F V)) → AreOwnLists layout_of at zeroth dl kind locals promoted states lists → length states ≡ length lists
  as_many kind [] [] h = refl
  as_many kind [] (l ∷ ls) h = elim h [ ]
  as_many kind (s ∷ ss) [] h = elim h [ ]
  as_many kind (s ∷ ss) (l ∷ ls) h = ap suc (as_many kind ss ls h.1)

  -- a state's list has no values where one of its locals has none
  own_flags : (kind : StructKind) (states : List (List ℕ)) (lists : List (LayoutData F V)) → AreOwnLists layout_of at zeroth dl kind locals promoted states lists
      → list_all (λ list. list.uninhabited) lists ≡ list_all (λ fields. has_no_value fields) (own_lists (map layout_of locals) promoted states)
  own_flags kind [] [] h = refl
  own_flags kind [] (l ∷ ls) h = elim h [ ]
  own_flags kind (s ∷ ss) [] h = elim h [ ]
  own_flags kind (s ∷ ss) (l ∷ ls) h =
      ap₂ (λ b c. b && c) (h.0.2.uninhabited ∙ ap (λ fs. has_no_value fs) (map_picked layout_of locals (own_of promoted s))) (own_flags kind ss ls h.1)

  module _ (holds : layout_of field ≡ scalar_layout zeroth dl tag) where
    fields_are : map layout_of (first_list prefix field locals promoted) ≡ first_list (map layout_of prefix) (scalar_layout zeroth dl tag) (map layout_of locals) promoted
    fields_are = map_first layout_of prefix field locals promoted ∙ ap (λ t. first_list (map layout_of prefix) t (map layout_of locals) promoted) holds

    -- so has the first list, whose tag has some
    first_flag : has_no_value (map layout_of (first_list prefix field locals promoted)) ≡ (has_no_value (map layout_of prefix) || has_no_value (picked (map layout_of locals) (members_of promoted)))
    first_flag =
        ap (λ fs. has_no_value fs) fields_are
        ∙ list_any-append (λ (f : LayoutData F V). f.uninhabited) (map layout_of prefix) (scalar_layout zeroth dl tag ∷ picked (map layout_of locals) (members_of promoted))

    -- its marks
    pub coroutine_marks : (r : Result (LayoutData F V) (LayoutCalculatorError H)) → Answers r → IfOk r (HasCoroutineMarks (map layout_of prefix) (map layout_of locals) states conflicts)
    coroutine_marks (Ok l) (first, h, lists, hs, below, is) = record {
      uninhabited = ap (λ m. m.uninhabited) is ∙ ap₂ (λ b c. b || c) (h.2.uninhabited ∙ first_flag) (own_flags (state_list_kind first) states lists hs);
      max_repr_align = ap (λ m. m.max_repr_align) is;
      unadjusted_abi_align = ap (λ m. m.unadjusted_abi_align) is ∙ sym (ap (λ m. m.align.abi) is);
      repr_c = ap (λ m. m.repr_c) is;
      seed = ap (λ m. m.randomization_seed) is;
    }
    coroutine_marks (Err e) h = tt

    module _ (is_state_tag : IsStateTag (length states) tag) where
      -- its alignment
      aligned : (first : LayoutData F V) (lists : List (LayoutData F V)) → first.align.abi ≡ align_by dl default_repr AlwaysSized (map layout_of (first_list prefix field locals promoted))
          → map (λ l. l.align.abi) lists ≡ map (align_by dl default_repr (state_list_kind first)) (map (map layout_of) (own_lists locals promoted states))
          → whole_align first lists ≡ align_of_all dl (first_list (map layout_of prefix) (scalar_layout zeroth dl tag) (map layout_of locals) promoted) 0 (own_lists (map layout_of locals) promoted states)
      aligned first lists one others =
          let fs = first_list (map layout_of prefix) (scalar_layout zeroth dl tag) (map layout_of locals) promoted in
          let front : first.align.abi ≡ align_by dl default_repr AlwaysSized fs = one ∙ ap (λ gs. align_by dl default_repr AlwaysSized gs) fields_are in
          ap₂ max front
          (ap greatest (others ∙ ap (λ vs. map (align_by dl default_repr (state_list_kind first)) vs) (map_own layout_of locals promoted states)
          ∙ ap (λ a. map (align_by dl default_repr (Prefixed 0 a)) (own_lists (map layout_of locals) promoted states)) front))

      pub coroutine_align : (r : Result (LayoutData F V) (LayoutCalculatorError H)) → Answers r → IfOk r (IsAlignedAsLists zeroth dl (map layout_of prefix) (map layout_of locals) states conflicts)
      coroutine_align (Ok l) (first, h, lists, hs, below, is) = (
        tag,
        is_state_tag,
        ap (λ m. m.align.abi) is
            ∙ aligned first lists (list_align layout_of at zeroth dl default_repr AlwaysSized (first_list prefix field locals promoted) first h)
            (lists_aligns layout_of at zeroth dl default_repr (state_list_kind first) (own_lists locals promoted states) lists (as_lists (state_list_kind first) states lists hs)),
      )
      coroutine_align (Err e) h = tt

    module _ (asked : IsAsked layout_of zeroth dl prefix tag field locals states) where
      -- it is made of its lists
      pub coroutine_made : (r : Result (LayoutData F V) (LayoutCalculatorError H)) → Answers r → IfOk r (IsMadeOfStates at number zeroth dl (map layout_of prefix) (map layout_of locals) states conflicts)
      coroutine_made (Ok l) (first, h, lists, hs, below, is) =
          let one : IsFieldList at dl default_repr AlwaysSized (map layout_of (first_list prefix field locals promoted)) first
          = field_list layout_of at zeroth dl default_repr AlwaysSized (first_list prefix field locals promoted) first (first_lawful layout_of at number zeroth dl prefix tag field locals states promoted asked) tt h in
          let others : AreFieldLists at dl default_repr (state_list_kind first) (map (map layout_of) (own_lists locals promoted states)) lists
          = field_lists layout_of at zeroth dl default_repr (state_list_kind first) (own_lists locals promoted states) lists (own_all (λ f. IsLawfulLayout dl (layout_of f)) locals promoted states asked.all) tt
          (as_lists (state_list_kind first) states lists hs) in
          let count : length prefix ≡ length (map layout_of prefix) = sym (length-map prefix layout_of) in
          record {
            tag = tag;
            is_state_tag = asked.is_state_tag;
            first = first;
            shared = subst (λ fs. IsFieldList at dl default_repr AlwaysSized fs first) fields_are one;
            lists = lists;
            own = subst (λ vs. AreFieldLists at dl default_repr (state_list_kind first) vs lists) (map_own layout_of locals promoted states) others;
            tag_distinguishes = subst (λ (m : LayoutData F V). m.variants ≡ Multiple tag Direct (at (length (map layout_of prefix))) (variants_of m.variants)) (sym is)
                (ap (λ k. Multiple tag Direct (at k) (state_layouts at number (length prefix + 1) promoted first states lists)) count);
            fields = ap (λ m. listed_offsets m.fields) is ∙ ap (λ k. take (k + 1) (listed_offsets first.fields)) count;
            order = ap (λ m. listed_order m.fields) is ∙ ap (λ k. filter (λ i. nat_lt (number i) (k + 1)) (listed_order first.fields)) count;
            layouts = subst (λ k. AreStatesOf at number promoted (drop (k + 1) (listed_offsets first.fields)) (ranks_of number (k + 1) (listed_order first.fields)) states lists (variants_of l.variants)) count
                (subst (λ (m : LayoutData F V). AreStatesOf at number promoted (drop (length prefix + 1) (listed_offsets first.fields)) (ranks_of number (length prefix + 1) (listed_order first.fields)) states lists (variants_of m.variants)) (sym is)
                (states_of at number (length prefix + 1) promoted first states lists (as_many (state_list_kind first) states lists hs)));
          }
      coroutine_made (Err e) h = tt
