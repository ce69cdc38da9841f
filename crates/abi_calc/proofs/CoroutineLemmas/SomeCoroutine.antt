-- A coroutine has an answer.
use Rattle.std.proofs.Common.{◌≡◌, ℕ, ◌<◌, ◌≤◌, Bool, List, inl, inr, length, refl, ⊎_elim}
use Rattle.std.specs.Prelude.{Ok, Err}
use Rattle.std.proofs.lemmas.Bool.{cases_lt}
use Rattle.abi_base.specs.declared.data_layout.TargetDataLayout.{TargetDataLayout}
use Rattle.abi_base.specs.declared.struct_kind.StructKind.TheVariants.{AlwaysSized}
use Rattle.abi_base.specs.DataLayout.{size_bound}
use Rattle.abi_index.specs.Relation.{Relation}
use Rattle.abi_scalar.specs.declared.error.LayoutCalculatorError.TheVariants as calculator
use Rattle.abi_scalar.specs.declared.layout_data.LayoutData.{LayoutData}
use Rattle.abi_scalar.specs.declared.scalar.Scalar.{Scalar}
use Rattle.abi_univariant.specs.List.{IsUnivariantAnswer}
use Rattle.abi_calc.specs.Coroutine.Answer.{IsCoroutineAnswer}
use Rattle.abi_calc.specs.Coroutine.Layout.{coroutine_layout, whole_size}
use Rattle.abi_calc.specs.Coroutine.Lists.{state_list_kind, default_repr, first_list}
use Rattle.abi_calc.specs.Coroutine.Promotion.{promoted_of}
use Rattle.abi_calc.specs.Coroutine.Sizes.{own_lists}
use Rattle.abi_scalar.specs.Lawful.{IsLawfulLayout}
use Rattle.abi_calc.proofs.CoroutineLemmas.Promised.{IsAsked, first_lawful, own_all, own_error, own_layouts}
use Rattle.abi_calc.proofs.CoroutineLemmas.OneCoroutine.{Answers}
use Rattle.abi_calc.proofs.EnumLemmas.OneEnum.{all_full}
use Rattle.abi_calc.proofs.EnumLemmas.SomeEnum.{AreListed, HasAnswer, IsListed, some_listed, some_lists}

module _ {H : Type 0} (layout_of : H → LayoutData ℕ ℕ) (dl : TargetDataLayout) (prefix : List H) (tag : Scalar) (field : H) (locals : List H) (states : List (List ℕ)) (promoted : List Bool)
    (asked : IsAsked layout_of 0 dl prefix tag field locals states) where
  -- from the lists of the states
  of_lists : (first : LayoutData ℕ ℕ) → IsUnivariantAnswer layout_of (λ i. i) 0 dl default_repr AlwaysSized (first_list prefix field locals promoted) (Ok first)
      → AreListed layout_of (λ i. i) 0 dl default_repr (state_list_kind first) (own_lists locals promoted states) → HasAnswer (Answers layout_of dl prefix tag field locals states promoted)
  of_lists first is (inr (error, bad, other)) =
      (Err error, inr (inl (first, is, inl (own_error layout_of (λ i. i) 0 dl (state_list_kind first) locals promoted states error bad))), λ e. (let same : error ≡ calculator.OutOfMemory = cc in other same))
  of_lists first is (inl (lists, are)) =
      ⊎_elim
      (λ (below : whole_size first lists < size_bound dl). (Ok (coroutine_layout (λ i. i) (λ i. i) (length prefix) tag promoted states first lists), (first, is, lists, own_layouts layout_of (λ i. i) 0 dl (state_list_kind first) locals promoted states lists are, below, refl), λ e. cc))
      (λ (over : size_bound dl ≤ whole_size first lists). (Err calculator.SizeOverflow, inr (inl (first, is, inr (lists, own_layouts layout_of (λ i. i) 0 dl (state_list_kind first) locals promoted states lists are, over, refl))), λ e. cc))
      (cases_lt (whole_size first lists) (size_bound dl))

  of_first : IsListed layout_of (λ i. i) 0 dl default_repr AlwaysSized (first_list prefix field locals promoted) → HasAnswer (Answers layout_of dl prefix tag field locals states promoted)
  of_first (inr (error, bad, other)) = (Err error, inl bad, λ e. (let same : error ≡ calculator.OutOfMemory = cc in other same))
  of_first (inl (first, is)) =
      of_lists first is (some_lists layout_of (λ i. i) 0 dl default_repr (state_list_kind first) (own_lists locals promoted states) (own_all (λ f. IsLawfulLayout dl (layout_of f)) locals promoted states asked.all) (all_full (state_list_kind first) (own_lists locals promoted states) tt))

  pub some_promoted : HasAnswer (Answers layout_of dl prefix tag field locals states promoted)
  some_promoted = of_first (some_listed layout_of (λ i. i) 0 dl default_repr AlwaysSized (first_list prefix field locals promoted) (first_lawful layout_of (λ i. i) (λ i. i) 0 dl prefix tag field locals states promoted asked) tt)

-- a coroutine has an answer
pub some_coroutine : {H : Type 0} (layout_of : H → LayoutData ℕ ℕ) (dl : TargetDataLayout) (prefix : List H) (tag : Scalar) (field : H) (locals : List H) (states : List (List ℕ)) (conflicts : Relation)
    → IsAsked layout_of 0 dl prefix tag field locals states → HasAnswer (IsCoroutineAnswer layout_of (λ i. i) (λ i. i) 0 dl prefix tag field locals states conflicts)
some_coroutine layout_of dl prefix tag field locals states conflicts asked = some_promoted layout_of dl prefix tag field locals states (promoted_of states conflicts) asked
