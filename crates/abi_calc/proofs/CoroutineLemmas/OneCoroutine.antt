-- A coroutine has one tag, and one answer, memory aside.
use Rattle.std.proofs.Common.{◌≡◌, ℕ, ◌-◌, ◌≤◌, Bool, false, List, [], ◌∷◌, ◌∙◌, ap, arith, inl, inr, length, refl, subst, sym}
use Rattle.std.specs.Prelude.{◌==◌, Result, Ok, Err, if◌then◌else◌}
use Rattle.abi_base.specs.declared.data_layout.TargetDataLayout.{TargetDataLayout}
use Rattle.abi_base.specs.declared.integer.Integer.{Integer}
use Rattle.abi_base.specs.declared.integer.Integer.TheVariants.{I8, I16, I32, I64, I128}
use Rattle.abi_base.specs.declared.primitive.Primitive.TheVariants.{Int}
use Rattle.abi_base.specs.declared.struct_kind.StructKind.{StructKind}
use Rattle.abi_base.specs.declared.struct_kind.StructKind.TheVariants.{AlwaysSized}
use Rattle.abi_base.specs.Integer.{integer_size}
use Rattle.abi_index.specs.Relation.{Relation}
use Rattle.abi_scalar.specs.declared.error.LayoutCalculatorError.{LayoutCalculatorError}
use Rattle.abi_scalar.specs.declared.error.LayoutCalculatorError.TheVariants as calculator
use Rattle.abi_scalar.specs.declared.layout_data.LayoutData.{LayoutData}
use Rattle.abi_scalar.specs.declared.scalar.Scalar.{Scalar}
use Rattle.abi_scalar.specs.declared.scalar.Scalar.TheVariants.{Initialized}
use Rattle.abi_univariant.specs.List.{IsUnivariantAnswer, IsUnivariantError}
use Rattle.abi_calc.specs.Coroutine.Answer.{IsCoroutineAnswer, IsPromotedAnswer}
use Rattle.abi_calc.specs.Coroutine.Layout.{IsStateTag, coroutine_layout, whole_size}
use Rattle.abi_calc.specs.Coroutine.Lists.{AreOwnLists, IsFirstOwnError, state_list_kind, default_repr, first_list}
use Rattle.abi_calc.specs.Coroutine.Promotion.{promoted_of}
use Rattle.abi_calc.specs.Coroutine.Sizes.{own_lists}
use Rattle.abi_calc.specs.Enums.Lists.{AreListLayouts, IsFirstListError}
use Rattle.abi_calc.proofs.EnumLemmas.OneEnum.{IsMade, all_full, never_both, never_lists_and_error, one_first_error, one_list_error, one_list_layout, one_lists}

-- ---- the tag

-- the integer of so many bytes
by_size : ℕ → Integer
by_size n = if n == 1 then I8 else (if n == 2 then I16 else (if n == 4 then I32 else (if n == 8 then I64 else I128)))

size_back : (i : Integer) → by_size (integer_size i) ≡ i
unfolding by_size
size_back I8 = refl
size_back I16 = refl
size_back I32 = refl
size_back I64 = refl
size_back I128 = refl

-- so many states have one tag
pub one_tag : (count : ℕ) (a b : Scalar) → IsStateTag count a → IsStateTag count b → a ≡ b
one_tag count a b s t =
    let down : integer_size s.0 ≤ integer_size t.0 = s.1.least t.0 t.1.holds in
    let up : integer_size t.0 ≤ integer_size s.0 = t.1.least s.0 s.1.holds in
    let same : integer_size s.0 ≡ integer_size t.0 = omega (arith, down, up) in
    let integer : s.0 ≡ t.0 = sym (size_back s.0) ∙ ap by_size same ∙ size_back t.0 in
    s.2 ∙ ap (λ i. Initialized (Int i false) (record { start = 0; end = count - 1 })) integer ∙ sym t.2

-- ---- the lists

module _ {H : Type 0} (layout_of : H → LayoutData ℕ ℕ) (dl : TargetDataLayout) (kind : StructKind) (locals : List H) (promoted : List Bool) where
  -- the lists of the states, as lists of fields
  pub lists_own : (states : List (List ℕ)) (lists : List (LayoutData ℕ ℕ)) → AreOwnLists layout_of (λ i. i) 0 dl kind locals promoted states lists
      → AreListLayouts layout_of (λ i. i) 0 dl default_repr kind (own_lists locals promoted states) lists
  lists_own [] [] h = tt
  lists_own [] (l ∷ ls) h = elim h [ ]
  lists_own (s ∷ ss) [] h = elim h [ ]
  lists_own (s ∷ ss) (l ∷ ls) h = (h.0, lists_own ss ls h.1)

  -- and the first of them that has none
  pub error_own : (states : List (List ℕ)) (error : LayoutCalculatorError H) → IsFirstOwnError layout_of (λ i. i) 0 dl kind locals promoted states error
      → IsFirstListError layout_of (λ i. i) 0 dl default_repr kind (own_lists locals promoted states) error
  error_own [] error h = elim h [ ]
  error_own (s ∷ ss) error (inl here) = inl here
  error_own (s ∷ ss) error (inr later) = inr (later.0, later.1, error_own ss error later.2)

module _ {H : Type 0} (layout_of : H → LayoutData ℕ ℕ) (dl : TargetDataLayout) (prefix : List H) (tag : Scalar) (field : H) (locals : List H) (states : List (List ℕ)) (promoted : List Bool) where
  -- the answer where these locals are promoted
  abbrev pub Answers : Result (LayoutData ℕ ℕ) (LayoutCalculatorError H) → Type 0
  Answers r = IsPromotedAnswer layout_of (λ i. i) (λ i. i) 0 dl prefix tag field locals states promoted r

  abbrev pub IsFirst : LayoutData ℕ ℕ → Type 0
  IsFirst x = IsUnivariantAnswer layout_of (λ i. i) 0 dl default_repr AlwaysSized (first_list prefix field locals promoted) (Ok x)

  abbrev pub AreOwn : LayoutData ℕ ℕ → List (LayoutData ℕ ℕ) → Type 0
  AreOwn x xs = AreOwnLists layout_of (λ i. i) 0 dl (state_list_kind x) locals promoted states xs

  abbrev pub IsOwnError : LayoutData ℕ ℕ → LayoutCalculatorError H → Type 0
  IsOwnError x e = IsFirstOwnError layout_of (λ i. i) 0 dl (state_list_kind x) locals promoted states e

  one_first : (x y : LayoutData ℕ ℕ) → IsFirst x → IsFirst y → x ≡ y
  one_first x y h k = one_list_layout layout_of dl default_repr AlwaysSized (first_list prefix field locals promoted) x y tt h k

  one_own : (x y : LayoutData ℕ ℕ) (xs ys : List (LayoutData ℕ ℕ)) → x ≡ y → AreOwn x xs → AreOwn y ys → xs ≡ ys
  one_own x y xs ys p h k =
      one_lists layout_of dl default_repr (state_list_kind x) (own_lists locals promoted states) xs ys (all_full (state_list_kind x) (own_lists locals promoted states) tt) (lists_own layout_of dl (state_list_kind x) locals promoted states xs h)
      (lists_own layout_of dl (state_list_kind x) locals promoted states ys (subst (λ z. AreOwn z ys) (sym p) k))

  one_error : (x y : LayoutData ℕ ℕ) (e f : LayoutCalculatorError H) → x ≡ y → IsOwnError x e → IsOwnError y f → e ≡ f
  one_error x y e f p h k =
      one_first_error layout_of dl default_repr (state_list_kind x) (own_lists locals promoted states) e f (all_full (state_list_kind x) (own_lists locals promoted states) tt) (error_own layout_of dl (state_list_kind x) locals promoted states e h)
      (error_own layout_of dl (state_list_kind x) locals promoted states f (subst (λ z. IsOwnError z f) (sym p) k))

  never_own : (x y : LayoutData ℕ ℕ) (xs : List (LayoutData ℕ ℕ)) (e : LayoutCalculatorError H) → x ≡ y → AreOwn x xs → IsOwnError y e → ⊥
  never_own x y xs e p h k =
      never_lists_and_error layout_of dl default_repr (state_list_kind x) (own_lists locals promoted states) xs e (all_full (state_list_kind x) (own_lists locals promoted states) tt) (lists_own layout_of dl (state_list_kind x) locals promoted states xs h)
      (error_own layout_of dl (state_list_kind x) locals promoted states e (subst (λ z. IsOwnError z e) (sym p) k))

  never_first : (x : LayoutData ℕ ℕ) (e : LayoutCalculatorError H) → IsFirst x → IsUnivariantError layout_of dl default_repr AlwaysSized (first_list prefix field locals promoted) e → ⊥
  never_first x e h bad = never_both layout_of dl default_repr AlwaysSized (first_list prefix field locals promoted) x e tt h bad

  -- a layout and an error are never both the answer
  never_mixed : (a : LayoutData ℕ ℕ) (f : LayoutCalculatorError H) → Answers (Ok a) → Answers (Err f) → (f ≡ calculator.OutOfMemory → ⊥) → ⊥
  never_mixed a f (x, h, xs, hs, below, is) (inl bad) made = never_first x f h bad
  never_mixed a f (x, h, xs, hs, below, is) (inr (inl (y, k, inl later))) made = never_own x y xs f (one_first x y h k) hs later
  never_mixed a f (x, h, xs, hs, below, is) (inr (inl (y, k, inr (ys, ks, over, large)))) made =
      let p : x ≡ y = one_first x y h k in
      let q : xs ≡ ys = one_own x y xs ys p hs ks in
      let same : whole_size x xs ≡ whole_size y ys = λ i. whole_size (p i) (q i) in
      omega (arith, same, below, over)
  never_mixed a f (x, h, xs, hs, below, is) (inr (inr want)) made = made want

  -- one error
  one_refusal : (e f : LayoutCalculatorError H) → Answers (Err e) → Answers (Err f) → (e ≡ calculator.OutOfMemory → ⊥) → (f ≡ calculator.OutOfMemory → ⊥) → e ≡ f
  one_refusal e f (inr (inr want)) k p q = absurd (p want)
  one_refusal e f h (inr (inr want)) p q = absurd (q want)
  one_refusal e f (inl bad) (inl worse) p q = one_list_error layout_of dl default_repr AlwaysSized (first_list prefix field locals promoted) e f bad worse
  one_refusal e f (inl bad) (inr (inl (y, k, rest))) p q = absurd (never_first y e k bad)
  one_refusal e f (inr (inl (x, h, rest))) (inl bad) p q = absurd (never_first x f h bad)
  one_refusal e f (inr (inl (x, h, inl later))) (inr (inl (y, k, inl other))) p q = one_error x y e f (one_first x y h k) later other
  one_refusal e f (inr (inl (x, h, inl later))) (inr (inl (y, k, inr (ys, ks, over, large)))) p q = absurd (never_own y x ys e (one_first y x k h) ks later)
  one_refusal e f (inr (inl (x, h, inr (xs, hs, over, large)))) (inr (inl (y, k, inl later))) p q = absurd (never_own x y xs f (one_first x y h k) hs later)
  one_refusal e f (inr (inl (x, h, inr (xs, hs, over, large)))) (inr (inl (y, k, inr (ys, ks, over2, large2)))) p q = large ∙ sym large2

  -- one answer
  pub one_promoted : (r s : Result (LayoutData ℕ ℕ) (LayoutCalculatorError H)) → Answers r → Answers s → IsMade r → IsMade s → r ≡ s
  one_promoted (Ok a) (Ok b) (x, h, xs, hs, below, is) (y, k, ys, ks, below2, is2) p q =
      let one : x ≡ y = one_first x y h k in
      let all : xs ≡ ys = one_own x y xs ys one hs ks in
      ap (λ l. Ok l) (is ∙ (λ i. coroutine_layout (λ j. j) (λ j. j) (length prefix) tag promoted states (one i) (all i)) ∙ sym is2)
  one_promoted (Ok a) (Err f) h k p q = absurd (never_mixed a f h k (λ e. q (ap (λ x. Err x) e)))
  one_promoted (Err e) (Ok b) h k p q = absurd (never_mixed b e k h (λ f. p (ap (λ x. Err x) f)))
  one_promoted (Err e) (Err f) h k p q = ap (λ x. Err x) (one_refusal e f h k (λ d. p (ap (λ x. Err x) d)) (λ d. q (ap (λ x. Err x) d)))

-- a coroutine has one answer
pub one_coroutine : {H : Type 0} (layout_of : H → LayoutData ℕ ℕ) (dl : TargetDataLayout) (prefix : List H) (tag : Scalar) (field : H) (locals : List H) (states : List (List ℕ)) (conflicts : Relation) (r s : Result (LayoutData ℕ ℕ) (LayoutCalculatorError H))
    → IsCoroutineAnswer layout_of (λ i. i) (λ i. i) 0 dl prefix tag field locals states conflicts r → IsCoroutineAnswer layout_of (λ i. i) (λ i. i) 0 dl prefix tag field locals states conflicts s → IsMade r → IsMade s → r ≡ s
one_coroutine layout_of dl prefix tag field locals states conflicts r s h k p q = one_promoted layout_of dl prefix tag field locals states (promoted_of states conflicts) r s h k p q
