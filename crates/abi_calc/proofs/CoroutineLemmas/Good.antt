-- What holds of the layout of a coroutine, fact by fact.
use Rattle.std.specs.Prelude.{◌≡◌, ℕ, Err, IfOk, List, None, Ok, Result, true}
use Rattle.abi_base.specs.declared.data_layout.TargetDataLayout.{TargetDataLayout}
use Rattle.abi_index.specs.Relation.{Relation}
use Rattle.abi_scalar.specs.declared.backend_repr.BackendRepr.TheVariants.{Memory}
use Rattle.abi_scalar.specs.declared.error.LayoutCalculatorError.{LayoutCalculatorError}
use Rattle.abi_scalar.specs.declared.layout_data.LayoutData.{LayoutData}
use Rattle.abi_calc.specs.Coroutine.Clash.{IsDistinguishedByState}
use Rattle.abi_calc.specs.Coroutine.Made.{IsAlignedAsLists, IsMadeOfStates}
use Rattle.abi_calc.specs.Coroutine.Promised.{HasLocalsApart, IsGoodCoroutine}
use Rattle.abi_calc.specs.Marks.{HasCoroutineMarks}
use Rattle.abi_calc.specs.Ordered.{IsOrderedWhole}

module _ {F V H : Type 0} (at : ℕ → F) (number : F → ℕ) (zeroth : V) (dl : TargetDataLayout) (prefix locals : List (LayoutData F V)) (states : List (List ℕ)) (conflicts : Relation) where
  pub coroutine_good : (result : Result (LayoutData F V) (LayoutCalculatorError H))
      → IfOk result (λ l. l.largest_niche ≡ None) → IfOk result (λ l. l.backend_repr ≡ Memory true)
      → IfOk result (IsAlignedAsLists zeroth dl prefix locals states conflicts) → IfOk result (HasCoroutineMarks prefix locals states conflicts)
      → IfOk result (IsOrderedWhole number) → IfOk result (IsMadeOfStates at number zeroth dl prefix locals states conflicts)
      → IfOk result (IsDistinguishedByState dl at prefix locals states) → IfOk result (HasLocalsApart states conflicts locals) → IfOk result (IsGoodCoroutine at number zeroth dl prefix locals states conflicts)
  coroutine_good (Ok l) n v a m o s t c = record { niche = n; view = v; alignment = a; marks = m; ordered = o; made = s; tag_distinguishes = t; clash = c.clash; one_offset = c.one_offset }
  coroutine_good (Err e) n v a m o s t c = tt
