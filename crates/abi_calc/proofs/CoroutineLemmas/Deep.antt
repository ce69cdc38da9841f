-- What is promised of a coroutine, from the answer that the rules give it.
use Rattle.std.proofs.Common.{◌≡◌, ◌≢◌, ℕ, ◌<◌, Bool, List, ◌∙◌, inl, inr, length, map, refl}
use Rattle.std.specs.Prelude.{All, Result, Ok, Err}
use Rattle.std.specs.List.{AllPairs}
use Rattle.abi_base.specs.declared.data_layout.TargetDataLayout.{TargetDataLayout}
use Rattle.abi_base.specs.declared.struct_kind.StructKind.TheVariants.{AlwaysSized}
use Rattle.abi_base.specs.DataLayout.{size_bound}
use Rattle.abi_index.specs.Relation.{Relation, column_count, row_count}
use Rattle.abi_scalar.specs.declared.error.LayoutCalculatorError.{LayoutCalculatorError}
use Rattle.abi_scalar.specs.declared.layout_data.LayoutData.{LayoutData}
use Rattle.abi_scalar.specs.declared.scalar.Scalar.{Scalar}
use Rattle.abi_scalar.specs.Lawful.{IsLawfulLayout}
use Rattle.abi_univariant.specs.List.{HasLawfulAligns}
use Rattle.abi_calc.specs.Coroutine.Answer.{IsCoroutineAnswer}
use Rattle.abi_calc.specs.Coroutine.Clash.{IsDistinguishedByState}
use Rattle.abi_calc.specs.Coroutine.Layout.{whole_size}
use Rattle.abi_calc.specs.Coroutine.Lists.{state_list_kind, default_repr, first_list}
use Rattle.abi_calc.specs.Coroutine.Promised.{HasLocalsApart}
use Rattle.abi_calc.specs.Coroutine.Promotion.{promoted_of}
use Rattle.abi_calc.specs.Coroutine.Sizes.{own_lists}
use Rattle.abi_calc.specs.Enums.Lists.{AreGoodLists, IsGoodList}
use Rattle.abi_calc.proofs.CoroutineLemmas.Promised.{IsAsked, IsPromised, first_lawful, first_promised, memory_promised, own_all, own_promised, whole_promised}
use Rattle.abi_calc.proofs.CoroutineLemmas.Apart.{told_promised}
use Rattle.abi_calc.proofs.CoroutineLemmas.Promotion.{promoted_count}
use Rattle.abi_calc.proofs.CoroutineLemmas.Shared.{apart_promised}
use Rattle.abi_calc.proofs.EnumLemmas.GoodLists.{good_list, good_lists}
use Rattle.abi_calc.proofs.CoroutineLemmas.OneCoroutine.{AreOwn, IsFirst, error_own, lists_own}

module _ {H : Type 0} (layout_of : H → LayoutData ℕ ℕ) (dl : TargetDataLayout) (prefix : List H) (tag : Scalar) (field : H) (locals : List H) (states : List (List ℕ)) (conflicts : Relation)
    (asked : IsAsked layout_of 0 dl prefix tag field locals states) where
  -- what the rules answer
  abbrev pub Answers : Result (LayoutData ℕ ℕ) (LayoutCalculatorError H) → Type 0
  Answers r = IsCoroutineAnswer layout_of (λ i. i) (λ i. i) 0 dl prefix tag field locals states conflicts r

  abbrev promoted : List Bool
  promoted = promoted_of states conflicts

  aligns : HasLawfulAligns default_repr
  aligns = record { align = tt; pack = tt }

  -- the lists that it comes from are good
  good_first : (first : LayoutData ℕ ℕ) → IsFirst layout_of dl prefix tag field locals states promoted first
      → IsGoodList layout_of (λ i. i) 0 dl default_repr AlwaysSized (first_list prefix field locals (promoted_of states conflicts)) first
  good_first first h =
      good_list layout_of (λ i. i) 0 dl default_repr AlwaysSized (first_list prefix field locals (promoted_of states conflicts)) first asked.law
      (first_lawful layout_of (λ i. i) (λ i. i) 0 dl prefix tag field locals states (promoted_of states conflicts) asked) aligns tt tt h

  good_own : (first : LayoutData ℕ ℕ) (lists : List (LayoutData ℕ ℕ)) → IsLawfulLayout dl first → AreOwn layout_of dl prefix tag field locals states promoted first lists
      → AreGoodLists layout_of (λ i. i) 0 dl default_repr (state_list_kind first) (own_lists locals (promoted_of states conflicts) states) lists
  good_own first lists lawful h =
      good_lists layout_of (λ i. i) 0 dl default_repr (state_list_kind first) (own_lists locals (promoted_of states conflicts) states) lists asked.law
      (own_all (λ f. IsLawfulLayout dl (layout_of f)) locals (promoted_of states conflicts) states asked.all) aligns (lawful.bound, lawful.limit) tt
      (lists_own layout_of dl (state_list_kind first) locals (promoted_of states conflicts) states lists h)

  -- what is promised of a coroutine with this answer
  pub coroutine_promised : (r : Result (LayoutData ℕ ℕ) (LayoutCalculatorError H)) → Answers r → IsPromised layout_of (λ i. i) (λ i. i) 0 dl prefix tag field locals states (promoted_of states conflicts) r
  coroutine_promised (Ok layout) (first, h, lists, hs, below, is) =
      let good = good_first first h in
      whole_promised layout_of (λ i. i) (λ i. i) 0 dl prefix tag field locals states promoted asked first good lists (good_own first lists good.lawful hs) (Ok layout) (below, is) tt
  coroutine_promised (Err e) (inl bad) = first_promised layout_of (λ i. i) (λ i. i) 0 dl prefix tag field locals states promoted asked e (inl bad)
  coroutine_promised (Err e) (inr (inl (first, h, inl later))) =
      own_promised layout_of (λ i. i) (λ i. i) 0 dl prefix tag field locals states promoted asked first (good_first first h) e
      (inl (error_own layout_of dl (state_list_kind first) locals promoted states e later))
  coroutine_promised (Err e) (inr (inl (first, h, inr (lists, hs, over, large)))) =
      let good = good_first first h in
      whole_promised layout_of (λ i. i) (λ i. i) 0 dl prefix tag field locals states promoted asked first good lists (good_own first lists good.lawful hs) (Err e) tt (inl (over, large))
  coroutine_promised (Err e) (inr (inr want)) = memory_promised layout_of (λ i. i) (λ i. i) 0 dl prefix tag field locals states promoted asked e want

  module _ (within : All (All (λ l. l < length locals)) states) (rows : row_count conflicts ≡ length locals) where
    -- its states are distinguished by the tag
    pub coroutine_told : All (AllPairs (λ a b. a ≢ b)) states → (layout : LayoutData ℕ ℕ) → Answers (Ok layout) → IsDistinguishedByState dl (λ i. i) (map layout_of prefix) (map layout_of locals) states layout
    coroutine_told once layout (first, h, lists, hs, below, is) =
        let good = good_first first h in
        told_promised layout_of (λ i. i) (λ i. i) 0 dl prefix tag field locals promoted asked.holds (promoted_count states conflicts ∙ rows) first good states lists (λ l. whole_size first lists < size_bound dl) (Ok layout)
        asked.is_state_tag within once (good_own first lists good.lawful hs) (below, is)

    -- its locals that clash share no byte, and each has one offset
    pub coroutine_apart : All (AllPairs (λ a b. a ≢ b)) states → column_count conflicts ≡ length locals → (layout : LayoutData ℕ ℕ) → Answers (Ok layout) → HasLocalsApart states conflicts (map layout_of locals) layout
    coroutine_apart once columns layout (first, h, lists, hs, below, is) =
        let good = good_first first h in
        apart_promised layout_of (λ i. i) (λ i. i) 0 dl prefix tag field locals states conflicts first lists promoted (record { by = refl; rows = rows; columns = columns }) within once good
        (good_own first lists good.lawful hs) (λ l. whole_size first lists < size_bound dl) (Ok layout) (below, is)
