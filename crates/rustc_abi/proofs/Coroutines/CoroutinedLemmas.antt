-- The calculator's answer to a coroutine, whatever lends the layouts and whatever relation has its conflicts.
use Rattle.std.proofs.Common.{◌≡◌, ℕ, ◌∙◌, ⊎_elim, List, [], ◌∷◌, Result, Ok, Err, inl, inr, length, map, arith, refl, sym, ap, ap₂, subst}
use Rattle.std.specs.List.{list_any}
use Rattle.std.proofs.lemmas.List.{length-map, map-id}
use Rattle.abi_base.specs.declared.data_layout.TargetDataLayout.{TargetDataLayout}
use Rattle.abi_index.specs.Relation.{Relation, column_count, is_entry, row_count}
use Rattle.abi_scalar.specs.declared.error.LayoutCalculatorError.{LayoutCalculatorError}
use Rattle.abi_scalar.specs.declared.scalar.Scalar.{Scalar}
use Rattle.abi_scalar.specs.Simple.{scalar_layout}
use Rattle.abi_calc.specs.Coroutine.Answer.{IsCoroutineAnswer, IsPromotedAnswer}
use Rattle.abi_calc.specs.Coroutine.Promotion.{promoted_of}
use Rattle.abi_calc.proofs.CoroutineLemmas.Promotion.{same_promoted}
use Rattle.abi_calc.proofs.CoroutineLemmas.SameCoroutine.{same_coroutine}
use Rattle.abi_calc.proofs.EnumLemmas.SameType.{of_err, of_ok}
use Rattle.abi_tree.specs.Placed.{Placed, layout_of}
use Rattle.abi_scalar.specs.Layout.{Layout}
use Rattle.rustc_abi.specs.Coroutines.{IsCoroutined, IsStated, conflicts_of}
use Rattle.rustc_abi.specs.Error.{IsRefused, lay_error}
use Rattle.rustc_abi.specs.Laying.{one_scalar}
use Rattle.rustc_abi.proofs.Enums.AddedEnumLemmas.{memory_or, same_name}
use Rattle.rustc_abi.proofs.Faults.CoroutineFaultLemmas.{conflict_columns, conflict_entry, conflict_rows, is_pair}

-- numbers that are indices are those indices
pub plain_lists : (xss : List (List ℕ)) → map (map (λ (x : ℕ). x)) xss ≡ xss
plain_lists [] = refl
plain_lists (xs ∷ xss) = ap₂ (λ ys yss. ys ∷ yss) (map-id xs) (plain_lists xss)

module _ {H : Type 0} (f : H → Layout) (dl : TargetDataLayout) (prefix : List H) (tag : Scalar) (field : H) (locals : List H) (states : List (List ℕ)) (relation : Relation)
    (rows : row_count relation ≡ length locals) (columns : column_count relation ≡ length locals) (holds : f field ≡ scalar_layout 0 dl tag)
    (pres ps : List Placed) (pairs : List (ℕ × ℕ)) (before : map f prefix ≡ map layout_of pres) (all : map f locals ≡ map layout_of ps)
    (entries : (row column : ℕ) → is_entry relation row column ≡ list_any (is_pair row column) pairs) where
  abbrev Lent : Result Layout (LayoutCalculatorError H) → Type 0
  Lent r = IsCoroutineAnswer f (λ i. i) (λ i. i) 0 dl prefix tag field locals states relation r

  count : length locals ≡ length ps
  count = sym (length-map locals f) ∙ ap length all ∙ length-map ps layout_of

  -- the same locals are promoted
  same_locals : promoted_of states relation ≡ promoted_of states (conflicts_of (length ps) pairs)
  same_locals =
      same_promoted states relation (conflicts_of (length ps) pairs) (rows ∙ count ∙ sym (conflict_rows (length ps) pairs)) (columns ∙ count ∙ sym (conflict_columns (length ps) pairs))
      (λ r c short low. entries r c ∙ sym (conflict_entry (length ps) pairs r c (omega (arith, short, rows, count)) (omega (arith, low, columns, count))))

  told_so : (r : Result Layout (LayoutCalculatorError Placed)) → IsCoroutineAnswer layout_of (λ i. i) (λ i. i) 0 dl pres tag (one_scalar dl tag) ps states relation r
      → IsStated dl pres tag (one_scalar dl tag) ps states pairs r
  told_so r h = subst (λ promoted. IsPromotedAnswer layout_of (λ i. i) (λ i. i) 0 dl pres tag (one_scalar dl tag) ps states promoted r) same_locals h

  -- the answer to layouts that are lent is the answer to the types
  pub coroutined_ok : (l : Layout) → Lent (Ok l) → IsCoroutined dl pres tag (one_scalar dl tag) ps states pairs (Ok l)
  coroutined_ok l h = told_so (Ok l) (of_ok H (IsCoroutineAnswer layout_of (λ i. i) (λ i. i) 0 dl pres tag (one_scalar dl tag) ps states relation) l (same_coroutine f layout_of dl prefix pres tag field (one_scalar dl tag) locals ps states relation before holds all (Ok l) h))

  pub coroutined_err : (e : LayoutCalculatorError H) → Lent (Err e) → IsRefused (IsCoroutined dl pres tag (one_scalar dl tag) ps states pairs) (lay_error e)
  coroutined_err e h =
      let found = of_err (IsCoroutineAnswer layout_of (λ i. i) (λ i. i) 0 dl pres tag (one_scalar dl tag) ps states relation) e (same_coroutine f layout_of dl prefix pres tag field (one_scalar dl tag) locals ps states relation before holds all (Err e) h) in
      let name : lay_error e ≡ lay_error found.0 = same_name e found.0 found.2 in
      ⊎_elim (λ want. inl (name ∙ want)) (λ other. inr (found.0, told_so (Err found.0) found.1, other, name)) (memory_or found.0)
