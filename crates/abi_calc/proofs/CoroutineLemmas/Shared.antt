-- What a coroutine's locals share where the promoted ones are those that its states and its conflicts tell, and how large it is where
-- none is promoted.
use Rattle.std.proofs.Common.{◌≡◌, ◌≢◌, ◌∙◌, ℕ, ◌+◌, ◌<◌, Bool, false, List, [], ◌∷◌, ◌++◌, All, ap, ap₂, arith, inl, inr, length, map, refl, subst, sym}
use Rattle.std.specs.Prelude.{IfOk, Result, Ok, Err}
use Rattle.std.specs.List.{AllPairs}
use Rattle.std.proofs.lemmas.Bool.{cases_Bool}
use Rattle.abi_base.specs.declared.data_layout.TargetDataLayout.{TargetDataLayout}
use Rattle.abi_base.specs.declared.struct_kind.StructKind.TheVariants.{AlwaysSized}
use Rattle.abi_index.specs.BitSet.{is_member, members_of}
use Rattle.abi_index.specs.Relation.{Relation, row_count}
use Rattle.abi_scalar.specs.declared.error.LayoutCalculatorError.{LayoutCalculatorError}
use Rattle.abi_scalar.specs.declared.layout_data.LayoutData.{LayoutData}
use Rattle.abi_scalar.specs.declared.scalar.Scalar.{Scalar}
use Rattle.abi_calc.specs.Coroutine.Clash.{AreClashingApart, HaveOneOffset}
use Rattle.abi_calc.specs.Coroutine.Layout.{coroutine_layout}
use Rattle.abi_calc.specs.Coroutine.Lists.{state_list_kind, default_repr, first_list, own_of, picked}
use Rattle.abi_calc.specs.Coroutine.Promised.{ArePromotedBy, HasLocalsApart}
use Rattle.abi_calc.specs.Coroutine.Promotion.{promoted_of}
use Rattle.abi_calc.specs.Coroutine.Sizes.{IsOverlapSize, IsSizeOfLists, IsSizeWith, MayOverlap, own_lists}
use Rattle.abi_calc.specs.Coroutine.States.{state_layouts}
use Rattle.abi_calc.specs.Enums.Lists.{AreGoodLists, IsGoodList}
use Rattle.abi_calc.proofs.CoroutineLemmas.Clash.{clashing_apart, one_offset}
use Rattle.abi_calc.proofs.CoroutineLemmas.Promotion.{none_is_promoted}
use Rattle.abi_calc.proofs.CoroutineLemmas.States.{rank_member}

module _ {F V H : Type 0} (layout_of : H → LayoutData F V) (at : ℕ → F) (number : F → ℕ) (zeroth : V) (dl : TargetDataLayout) (prefix : List H) (tag : Scalar) (field : H) (locals : List H)
    (states : List (List ℕ)) (conflicts : Relation) (first : LayoutData F V) (lists : List (LayoutData F V)) (promoted : List Bool) (by : ArePromotedBy (length locals) states promoted conflicts)
    (within : All (All (λ l. l < length locals)) states) where
  -- what holds of the layout that the lists make holds of the one that is answered
  of_answer : (P Q : LayoutData F V → Type 0) (r : Result (LayoutData F V) (LayoutCalculatorError H)) → IfOk r (λ layout. P layout × (layout ≡ coroutine_layout at number (length prefix) tag promoted states first lists))
      → Q (coroutine_layout at number (length prefix) tag promoted states first lists) → IfOk r Q
  of_answer P Q (Ok layout) laid q = subst Q (sym laid.1) q
  of_answer P Q (Err e) laid q = tt

  -- each state's locals are rows of the conflicts
  in_rows : All (All (λ l. l < row_count conflicts)) states
  in_rows = subst (λ n. All (All (λ l. l < n)) states) (sym by.rows) within

  -- locals that clash share no byte, and a local has one offset
  pub apart_promised : All (AllPairs (λ a b. a ≢ b)) states → IsGoodList layout_of at zeroth dl default_repr AlwaysSized (first_list prefix field locals promoted) first
      → AreGoodLists layout_of at zeroth dl default_repr (state_list_kind first) (own_lists locals promoted states) lists → (P : LayoutData F V → Type 0) (r : Result (LayoutData F V) (LayoutCalculatorError H))
      → IfOk r (λ layout. P layout × (layout ≡ coroutine_layout at number (length prefix) tag promoted states first lists))
      → IfOk r (HasLocalsApart states conflicts (map layout_of locals))
  apart_promised once good own P r laid =
      of_answer P (HasLocalsApart states conflicts (map layout_of locals)) r laid
      (record {
        clash = subst (λ p. AreClashingApart states conflicts (map layout_of locals) (state_layouts at number (length prefix + 1) p first states lists)) (sym by.by)
            (clashing_apart layout_of at number zeroth dl prefix field locals states conflicts first lists (by.columns ∙ sym by.rows) (sym by.rows) in_rows
            (subst (λ p. IsGoodList layout_of at zeroth dl default_repr AlwaysSized (first_list prefix field locals p) first) by.by good)
            (subst (λ p. AreGoodLists layout_of at zeroth dl default_repr (state_list_kind first) (own_lists locals p states) lists) by.by own));
        one_offset = subst (λ p. HaveOneOffset states (state_layouts at number (length prefix + 1) p first states lists)) (sym by.by)
            (one_offset at number (length prefix + 1) states conflicts first lists in_rows once);
      })

-- ---- no local is promoted

none_at : (promoted : List Bool) → members_of promoted ≡ [] → (l : ℕ) → is_member promoted l ≡ false
none_at promoted none l = elim (cases_Bool (is_member promoted l)) [
  | inl is ↦ let below = (rank_member promoted l is 0).0 in absurd (omega (arith, below, ap length none))
  | inr other ↦ other
]

own_whole : (promoted : List Bool) → members_of promoted ≡ [] → (state : List ℕ) → own_of promoted state ≡ state
own_whole promoted none [] = refl
own_whole promoted none (l ∷ state) = rw (none_at promoted none l) (ap (λ ls. l ∷ ls) (own_whole promoted none state))

lists_whole : {A : Type 0} (locals : List A) (promoted : List Bool) → members_of promoted ≡ [] → (states : List (List ℕ)) → own_lists locals promoted states ≡ map (picked locals) states
lists_whole locals promoted none [] = refl
lists_whole locals promoted none (s ∷ states) = ap₂ (λ x xs. x ∷ xs) (ap (picked locals) (own_whole promoted none s)) (lists_whole locals promoted none states)

overlap_size : {F V : Type 0} (dl : TargetDataLayout) (prefix : List (LayoutData F V)) (tag : LayoutData F V) (locals : List (LayoutData F V)) (states : List (List ℕ)) (conflicts : Relation) (size : ℕ)
    → MayOverlap (row_count conflicts) states conflicts → IsSizeWith dl prefix tag locals states (promoted_of states conflicts) size → IsOverlapSize dl prefix tag locals states size
overlap_size dl prefix tag locals states conflicts size may sized =
    let none = none_is_promoted states conflicts may in
    subst (λ own. IsSizeOfLists dl (prefix ++ tag ∷ []) own size) (lists_whole locals (promoted_of states conflicts) none states)
    (subst (λ ms. IsSizeOfLists dl (prefix ++ tag ∷ picked locals ms) (own_lists locals (promoted_of states conflicts) states) size) none sized)

-- where the states may share all their bytes they do
pub overlap_promised : {F V H : Type 0} (dl : TargetDataLayout) (prefix : List (LayoutData F V)) (tag : LayoutData F V) (locals : List (LayoutData F V)) (states : List (List ℕ)) (conflicts : Relation)
    (r : Result (LayoutData F V) (LayoutCalculatorError H)) → MayOverlap (row_count conflicts) states conflicts → IfOk r (λ l. IsSizeWith dl prefix tag locals states (promoted_of states conflicts) l.size)
    → IfOk r (λ l. IsOverlapSize dl prefix tag locals states l.size)
overlap_promised dl prefix tag locals states conflicts (Ok layout) may sized = overlap_size dl prefix tag locals states conflicts layout.size may sized
overlap_promised dl prefix tag locals states conflicts (Err e) may sized = tt
