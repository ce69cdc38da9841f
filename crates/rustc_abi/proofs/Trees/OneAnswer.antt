-- A tree has one answer: its layout, or its first fault.
use Rattle.std.proofs.Common.{◌≡◌, Bool, List, ◌∷◌, Option, Some, None, length, map, inl, inr, sym, ap, ◌∙◌, subst, Result, Ok, Err, ℕ, true}
use Rattle.std.specs.Prelude.{MatchOption}
use Rattle.std.proofs.lemmas.List.{map-id}
use Rattle.abi_base.specs.declared.niche_optimizations.NicheOptimizations.TheVariants.{Enabled}
use Rattle.abi_base.specs.declared.data_layout.TargetDataLayout.{TargetDataLayout}
use Rattle.abi_base.specs.declared.struct_kind.StructKind.{StructKind}
use Rattle.abi_base.specs.DataLayout.{size_bound}
use Rattle.abi_scalar.specs.declared.error.LayoutCalculatorError.{LayoutCalculatorError}
use Rattle.abi_scalar.specs.declared.repr.ReprOptions.{ReprOptions}
use Rattle.abi_scalar.specs.declared.scalar.Scalar.{Scalar}
use Rattle.abi_univariant.specs.declared.order.NicheBias.TheVariants.{Start}
use Rattle.abi_univariant.specs.declared.placing.FieldsFault.{FieldsFault}
use Rattle.abi_univariant.specs.declared.placing.FieldsFault.TheVariants.{Unsized, TooLarge, OutOfMemory}
use Rattle.abi_univariant.specs.Fault.{IsErrorOf, fault_in}
use Rattle.abi_univariant.specs.InOrder.{IsOrderedError}
use Rattle.abi_univariant.specs.List.{IsUnivariantError}
use Rattle.abi_univariant.specs.Order.{IsNamedOrder}
use Rattle.abi_univariant.specs.Part.{parts_of}
use Rattle.abi_univariant.specs.Placement.{IsNonEmptyIfUnsized, fields_repr}
use Rattle.abi_univariant.specs.Union.{union_fault, union_layout}
use Rattle.abi_univariant.proofs.UnionsVectors.UnionLemmas.{one_union_view}
use Rattle.abi_univariant.proofs.Layouts.OneOrder.{one_in_order, one_layout, one_named, never_refused}
use Rattle.abi_calc.proofs.EnumLemmas.OneEnum.{one_type, IsMade}
use Rattle.abi_calc.proofs.CoroutineLemmas.OneCoroutine.{one_coroutine, one_tag}
use Rattle.abi_calc.specs.Enums.EnumStrategy.{strategy_of}
use Rattle.rustc_abi.specs.declared.error.LayError.{LayError}
use Rattle.abi_tree.specs.Tree.{Tree, scalar, pair, never, unit, array, vector, struct, union, enum, coroutine, Trees, no_trees, more_trees, Variants, no_variants, more_variants}
use Rattle.abi_tree.specs.Placed.{Placed, layout_of}
use Rattle.abi_scalar.specs.Layout.{Layout}
use Rattle.rustc_abi.specs.Error.{Follows, lay_error}
use Rattle.rustc_abi.specs.Laying.{IsListedInOrder, IsOrderedFieldsAnswer, ordered_fault, with_randomize_flag}
use Rattle.rustc_abi.specs.Laying.{IsLaying, AreLaying, VariantsLaying, IsFieldsAnswer, IsLaidList, IsCoroutineOf, IsUnionOf, IsUnited, elements_answer, fields_fault, kind_of, placed_fields, placed_together, vector_answer, IsEnumOf, enum_fault, placed_enum, coroutine_fault, one_scalar, placed_coroutine}
use Rattle.rustc_abi.specs.Coroutines.{IsCoroutined, IsStated, conflicts_of}
use Rattle.rustc_abi.specs.Enums.{IsCalculated, IsEnumed, IsTagIntegerAnswer, numbered_from, layouts_of, discriminants_of}
use Rattle.rustc_abi.proofs.Unions.CalcLemmas.{united_layout}
use Rattle.rustc_abi.proofs.Trees.LaidLemmas.{CoroutineAnswersBy, length-asked, some_field}
use Rattle.rustc_abi.proofs.Enums.TagIntegerLemmas.{tag_integer_one}
use Rattle.abi_scalar.specs.declared.error.LayoutCalculatorError.TheVariants as calculator

-- what has one answer goes on to one answer
follows_one : {A B : Type 0} (P : Result A LayError → Type 0) (next : A → Result B LayError → Type 0) (r s : Result B LayError)
    → ((x y : Result A LayError) → P x → P y → x ≡ y) → ((a : A) → next a r → next a s → r ≡ s) → Follows P next r → Follows P next s → r ≡ s
follows_one P next r s one then_one (inl (e, p, is)) (inl (f, q, that)) =
    let same : Err e ≡ Err f = one (Err e) (Err f) p q in
    let name : e ≡ f = cc in
    is ∙ ap (λ x. Err x) name ∙ sym that
follows_one P next r s one then_one (inl (e, p, is)) (inr (a, q, n)) =
    let same : Err e ≡ Ok a = one (Err e) (Ok a) p q in
    absurd (cc)
follows_one P next r s one then_one (inr (a, p, m)) (inl (f, q, that)) =
    let same : Ok a ≡ Err f = one (Ok a) (Err f) p q in
    absurd (cc)
follows_one P next r s one then_one (inr (a, p, m)) (inr (b, q, n)) =
    let same : Ok b ≡ Ok a = one (Ok b) (Ok a) q p in
    let first : b ≡ a = cc in
    then_one a m (subst (λ x. next x s) first n)

-- ---- a list has one answer

module _ (dl : TargetDataLayout) (repr : ReprOptions) (kind : StructKind) (layouts : List Layout) (some : IsNonEmptyIfUnsized kind (length (parts_of dl layouts))) where
  -- one fault has one name
  one_name : (fault : FieldsFault) (e f : LayoutCalculatorError Layout) → IsErrorOf layouts fault e → IsErrorOf layouts fault f → lay_error e ≡ lay_error f
  one_name (Unsized i) e f h k = ap lay_error h.2 ∙ sym (ap lay_error k.2)
  one_name TooLarge e f h k = ap lay_error (h ∙ sym k)
  one_name OutOfMemory e f h k = ap lay_error (h ∙ sym k)

  whole : map (λ (l : Layout). l) layouts ≡ layouts
  whole = map-id layouts

  one_error : (e f : LayoutCalculatorError Layout) → IsUnivariantError (λ l. l) dl repr kind layouts e → IsUnivariantError (λ l. l) dl repr kind layouts f → lay_error e ≡ lay_error f
  one_error e f (order, named, fault, there, of) (order2, named2, fault2, there2, of2) =
      let same : order2 ≡ order = one_named (fields_repr dl repr kind) Start (parts_of dl (map (λ l. l) layouts)) order2 order named2 named in
      let found : fault_in (fields_repr dl repr kind) (size_bound dl) (parts_of dl (map (λ l. l) layouts)) order ≡ Some fault2 =
      ap (fault_in (fields_repr dl repr kind) (size_bound dl) (parts_of dl (map (λ l. l) layouts))) (sym same) ∙ there2 in
      let one : fault2 ≡ fault = cc in
      one_name fault e f of (subst (λ x. IsErrorOf layouts x f) one of2)

  never_both : (a : Layout) (f : LayError) → IsLaidList dl repr kind layouts (Ok a) → IsLaidList dl repr kind layouts (Err f) → ⊥
  never_both a f (order, offsets, made) (error, (first, named, fault, there, of), e) =
      never_refused dl (fields_repr dl repr kind) (parts_of dl layouts) some order offsets first a.size a.align.abi a.largest_niche fault made.named
      (subst (λ ls. IsNamedOrder (fields_repr dl repr kind) Start (parts_of dl ls) first) whole named)
      (subst (λ ls. fault_in (fields_repr dl repr kind) (size_bound dl) (parts_of dl ls) first ≡ Some fault) whole there)

  one_listed : (r s : Result Layout LayError) → IsLaidList dl repr kind layouts r → IsLaidList dl repr kind layouts s → r ≡ s
  one_listed (Ok a) (Ok b) (order, offsets, made) (order2, offsets2, made2) =
      ap (λ l. Ok l) (one_layout (λ i. i) 0 dl repr kind layouts order order2 offsets offsets2 a b some made made2)
  one_listed (Ok a) (Err f) h k = absurd (never_both a f h k)
  one_listed (Err e) (Ok b) h k = absurd (never_both b e k h)
  one_listed (Err e) (Err f) (error, refused, named) (error2, refused2, named2) = ap (λ x. Err x) (named ∙ one_error error error2 refused refused2 ∙ sym named2)

  -- and in an order that is handed in
  ordered_error : (order : List ℕ) (e f : LayoutCalculatorError Layout) → IsOrderedError (λ l. l) dl repr kind order layouts e → IsOrderedError (λ l. l) dl repr kind order layouts f → lay_error e ≡ lay_error f
  ordered_error order e f (inl (bad, is)) (inl (worse, that)) = ap lay_error (is ∙ sym that)
  ordered_error order e f (inl (bad, is)) (inr (allowed, fault, there, of)) = absurd (bad allowed)
  ordered_error order e f (inr (allowed, fault, there, of)) (inl (bad, is)) = absurd (bad allowed)
  ordered_error order e f (inr (allowed, fault, there, of)) (inr (same, fault2, there2, of2)) =
      let one : fault2 ≡ fault = cc in
      one_name fault e f of (subst (λ x. IsErrorOf layouts x f) one of2)

  never_ordered : (order : List ℕ) (a : Layout) (f : LayError) → IsListedInOrder dl repr kind order layouts (Ok a) → IsListedInOrder dl repr kind order layouts (Err f) → ⊥
  never_ordered order a f (offsets, made) (error, inl (bad, is), e) = bad made.named.0
  never_ordered order a f (offsets, made) (error, inr (allowed, fault, there, of), e) =
      let found = subst (λ ls. fault_in (fields_repr dl repr kind) (size_bound dl) (parts_of dl ls) order ≡ Some fault) whole there in
      let none = made.named.1.faultless in
      absurd (cc)

  one_ordered : (order : List ℕ) (r s : Result Layout LayError) → IsListedInOrder dl repr kind order layouts r → IsListedInOrder dl repr kind order layouts s → r ≡ s
  one_ordered order (Ok a) (Ok b) (offsets, made) (offsets2, made2) = ap (λ l. Ok l) (one_in_order (λ i. i) 0 dl repr kind layouts order offsets offsets2 a b some made made2)
  one_ordered order (Ok a) (Err f) h k = absurd (never_ordered order a f h k)
  one_ordered order (Err e) (Ok b) h k = absurd (never_ordered order b e k h)
  one_ordered order (Err e) (Err f) (error, refused, named) (error2, refused2, named2) = ap (λ x. Err x) (named ∙ ordered_error order error error2 refused refused2 ∙ sym named2)

module _ (dl : TargetDataLayout) where
  -- fields whose own fault is this have one answer
  one_by : (fault : Option LayError) (P : Result Layout LayError → Type 0) (make : Layout → Placed) (r s : Result Placed LayError)
      → ((x y : Result Layout LayError) → P x → P y → x ≡ y)
      → MatchOption fault (Follows P (λ layout z. z ≡ Ok (make layout)) r) (λ e. r ≡ Err e)
      → MatchOption fault (Follows P (λ layout z. z ≡ Ok (make layout)) s) (λ e. s ≡ Err e) → r ≡ s
  one_by None P make r s one h k = follows_one P (λ layout z. z ≡ Ok (make layout)) r s one (λ layout (a : r ≡ Ok (make layout)) b. a ∙ sym b) h k
  one_by (Some f) P make r s one h k = h ∙ sym k

  full : (always_sized : Bool) (ps : List Placed) → IsNonEmptyIfUnsized (kind_of always_sized ps) (length (parts_of dl (map layout_of ps)))
  full always_sized ps = subst (IsNonEmptyIfUnsized (kind_of always_sized ps)) (sym (length-asked dl ps)) (some_field always_sized ps)

  one_united : (repr : ReprOptions) (ls : List Layout) (r s : Result Layout LayError) → IsUnited dl repr ls r → IsUnited dl repr ls s → r ≡ s
  one_united repr ls (Ok a) (Ok b) h k =
      let one = united_layout dl repr ls a h in
      let two = united_layout dl repr ls b k in
      let view : a.backend_repr ≡ b.backend_repr = one_union_view dl repr ls a.backend_repr b.backend_repr one.0 two.0 in
      ap (λ l. Ok l) (one.1 ∙ ap (union_layout 0 dl repr ls) view ∙ sym two.1)
  one_united repr ls (Ok a) (Err f) h (error, refused, e) = let none = h.0 in let some : union_fault (λ l. l) dl repr ls ≡ Some error = refused in absurd (cc)
  one_united repr ls (Err e) (Ok b) (error, refused, is) k = let none = k.0 in let some : union_fault (λ l. l) dl repr ls ≡ Some error = refused in absurd (cc)
  one_united repr ls (Err e) (Err f) (error, refused, is) (error2, refused2, that) =
      let some : union_fault (λ l. l) dl repr ls ≡ Some error = refused in
      let also : union_fault (λ l. l) dl repr ls ≡ Some error2 = refused2 in
      let same : error ≡ error2 = cc in
      ap (λ x. Err x) (is ∙ ap lay_error same ∙ sym that)

  -- a union of these fields has one answer
  pub one_union : (repr : ReprOptions) (ps : List Placed) (r s : Result Placed LayError) → IsUnionOf dl repr ps r → IsUnionOf dl repr ps s → r ≡ s
  one_union repr ps r s h k =
      one_by (fields_fault repr ps) (IsUnited dl repr (map layout_of ps)) (placed_together repr ps) r s (λ x y p q. one_united repr (map layout_of ps) x y p q) h k

  -- ---- an enum has one answer

  -- what the calculator makes isn't that memory ran out
  made_layout : (l : Layout) → IsMade {H = Placed} (Ok l)
  made_layout l e = cc

  made_error : (error : LayoutCalculatorError Placed) → (error ≡ calculator.OutOfMemory → ⊥) → IsMade {H = Placed} (Err error)
  made_error error other e = other (cc)

  one_calculated : (repr : ReprOptions) (numbers : List ℕ) (variants : List (List Placed)) (r s : Result Layout (LayoutCalculatorError Placed)) →
      IsCalculated dl repr numbers variants r → IsCalculated dl repr numbers variants s → IsMade r → IsMade s → r ≡ s
  one_calculated repr numbers variants r s h k p q =
      one_type layout_of dl repr variants true true Enabled (IsTagIntegerAnswer dl repr) (tag_integer_one dl repr) (λ items. items ≡ numbered_from 0 numbers)
      (λ xs ys (a : xs ≡ numbered_from 0 numbers) b. a ∙ sym b) (strategy_of true repr (layouts_of variants)) r s h k p q

  -- what has one answer with its calculator's errors has one with their names
  module _ (P : Result Layout (LayoutCalculatorError Placed) → Type 0) (one : (r s : Result Layout (LayoutCalculatorError Placed)) → P r → P s → IsMade r → IsMade s → r ≡ s) where
    -- the answer, memory aside, by the name of its error
    abbrev IsNamed : Result Layout LayError → Type 0
    IsNamed (Ok a) = P (Ok a)
    IsNamed (Err e) = (error : LayoutCalculatorError Placed) × P (Err error) × (error ≡ calculator.OutOfMemory → ⊥) × (e ≡ lay_error error)

    one_by_name : (r s : Result Layout LayError) → IsNamed r → IsNamed s → r ≡ s
    one_by_name (Ok a) (Ok b) h k =
        let both : ◌≡◌ {A = Result Layout (LayoutCalculatorError Placed)} (Ok a) (Ok b) = one (Ok a) (Ok b) h k (made_layout a) (made_layout b) in
        let same : a ≡ b = cc in
        ap (λ l. Ok l) same
    one_by_name (Ok a) (Err f) h (error, k, other, e) =
        let both : ◌≡◌ {A = Result Layout (LayoutCalculatorError Placed)} (Ok a) (Err error) = one (Ok a) (Err error) h k (made_layout a) (made_error error other) in
        absurd (cc)
    one_by_name (Err f) (Ok b) (error, h, other, e) k =
        let both : ◌≡◌ {A = Result Layout (LayoutCalculatorError Placed)} (Err error) (Ok b) = one (Err error) (Ok b) h k (made_error error other) (made_layout b) in
        absurd (cc)
    one_by_name (Err e) (Err f) (error, h, other, is) (error2, k, other2, is2) =
        let both : ◌≡◌ {A = Result Layout (LayoutCalculatorError Placed)} (Err error) (Err error2) = one (Err error) (Err error2) h k (made_error error other) (made_error error2 other2) in
        let same : error ≡ error2 = cc in
        ap (λ x. Err x) (is ∙ ap lay_error same ∙ sym is2)

  module _ (repr : ReprOptions) (numbers : List ℕ) (variants : List (List Placed)) where
    enumed_named : (r : Result Layout LayError) → IsEnumed dl repr numbers variants r → IsNamed (IsCalculated dl repr numbers variants) (one_calculated repr numbers variants) r
    enumed_named (Ok a) h = h
    enumed_named (Err e) h = h

    one_enumed : (r s : Result Layout LayError) → IsEnumed dl repr numbers variants r → IsEnumed dl repr numbers variants s → r ≡ s
    one_enumed r s h k = one_by_name (IsCalculated dl repr numbers variants) (one_calculated repr numbers variants) r s (enumed_named r h) (enumed_named s k)

  pub one_enum : (repr : ReprOptions) (numbers : List ℕ) (variants : List (List Placed)) (r s : Result Placed LayError) → IsEnumOf dl repr numbers variants r → IsEnumOf dl repr numbers variants s → r ≡ s
  one_enum repr numbers variants r s h k =
      one_by (enum_fault dl repr numbers variants) (IsEnumed dl repr numbers variants) (placed_enum dl repr numbers variants) r s (λ x y p q. one_enumed repr numbers variants x y p q) h k

  -- ---- a coroutine has one answer

  module _ (pres ps : List Placed) (states : List (List ℕ)) (conflicts : List (ℕ × ℕ)) where
    one_stated : (tag : Scalar) (r s : Result Layout (LayoutCalculatorError Placed)) → IsStated dl pres tag (one_scalar dl tag) ps states conflicts r → IsStated dl pres tag (one_scalar dl tag) ps states conflicts s
        → IsMade r → IsMade s → r ≡ s
    one_stated tag r s h k p q = one_coroutine layout_of dl pres tag (one_scalar dl tag) ps states (conflicts_of (length ps) conflicts) r s h k p q

    coroutined_named : (tag : Scalar) (r : Result Layout LayError) → IsCoroutined dl pres tag (one_scalar dl tag) ps states conflicts r
        → IsNamed (IsStated dl pres tag (one_scalar dl tag) ps states conflicts) (one_stated tag) r
    coroutined_named tag (Ok a) h = h
    coroutined_named tag (Err e) h = h

    one_coroutined : (tag : Scalar) (r s : Result Layout LayError) → IsCoroutined dl pres tag (one_scalar dl tag) ps states conflicts r → IsCoroutined dl pres tag (one_scalar dl tag) ps states conflicts s → r ≡ s
    one_coroutined tag r s h k = one_by_name (IsStated dl pres tag (one_scalar dl tag) ps states conflicts) (one_stated tag) r s (coroutined_named tag r h) (coroutined_named tag s k)

    -- what follows the calculator's answer where this is the tag
    abbrev IsTagged : Result Placed LayError → Scalar → Type 0
    IsTagged r tag = Follows (IsCoroutined dl pres tag (one_scalar dl tag) ps states conflicts) (λ layout z. z ≡ Ok (placed_coroutine dl pres tag ps states layout)) r

    one_stated_by : (fault : Option LayError) (r s : Result Placed LayError) → CoroutineAnswersBy dl pres ps states conflicts fault r → CoroutineAnswersBy dl pres ps states conflicts fault s → r ≡ s
    one_stated_by None r s (tag, is_state_tag, h) (other, also, k) =
        let same : other ≡ tag = one_tag (length states) other tag also is_state_tag in
        follows_one (IsCoroutined dl pres tag (one_scalar dl tag) ps states conflicts) (λ layout z. z ≡ Ok (placed_coroutine dl pres tag ps states layout)) r s (λ x y p q. one_coroutined tag x y p q)
        (λ layout (a : r ≡ Ok (placed_coroutine dl pres tag ps states layout)) b. a ∙ sym b) h (subst (IsTagged s) same k)
    one_stated_by (Some f) r s h k = h ∙ sym k

    -- one of these prefix fields, locals, states and conflicts
    pub one_coroutine_of : (r s : Result Placed LayError) → IsCoroutineOf dl pres ps states conflicts r → IsCoroutineOf dl pres ps states conflicts s → r ≡ s
    one_coroutine_of r s h k = one_stated_by (coroutine_fault (length pres) (length ps) states conflicts) r s h k

  mutual
    -- a tree has one answer
    pub one_answer : (t : Tree) (r s : Result Placed LayError) → IsLaying dl t r → IsLaying dl t s → r ≡ s
    one_answer (scalar a) r s h k = h ∙ sym k
    one_answer (pair a b) r s h k = h ∙ sym k
    one_answer never r s h k = h ∙ sym k
    one_answer unit r s h k = h ∙ sym k
    one_answer (array count element) r s h k =
        follows_one (IsLaying dl element) (λ p z. z ≡ elements_answer dl count p) r s (λ x y p q. one_answer element x y p q) (λ p (a : r ≡ elements_answer dl count p) b. a ∙ sym b) h k
    one_answer (struct repr always_sized None all) r s h k =
        follows_one (AreLaying dl all) (IsFieldsAnswer dl repr always_sized) r s (λ x y p q. one_list all x y p q)
        (λ ps a b. one_by (fields_fault repr ps) (IsLaidList dl repr (kind_of always_sized ps) (map layout_of ps)) (placed_fields repr ps) r s
        (λ x y p q. one_listed dl repr (kind_of always_sized ps) (map layout_of ps) (full always_sized ps) x y p q) a b) h k
    one_answer (struct repr always_sized (Some order) all) r s h k =
        follows_one (AreLaying dl all) (IsOrderedFieldsAnswer dl repr always_sized order) r s (λ x y p q. one_list all x y p q)
        (λ ps a b. one_by (ordered_fault repr ps) (IsListedInOrder dl (with_randomize_flag repr) (kind_of always_sized ps) order (map layout_of ps)) (placed_fields repr ps) r s
        (λ x y p q. one_ordered dl (with_randomize_flag repr) (kind_of always_sized ps) (map layout_of ps) (full always_sized ps) order x y p q) a b) h k
    one_answer (vector lanes packed element) r s h k =
        follows_one (IsLaying dl element) (λ p z. z ≡ vector_answer dl lanes packed p) r s (λ x y p q. one_answer element x y p q)
        (λ p (a : r ≡ vector_answer dl lanes packed p) b. a ∙ sym b) h k
    one_answer (union repr all) r s h k =
        follows_one (AreLaying dl all) (IsUnionOf dl repr) r s (λ x y p q. one_list all x y p q)
        (λ ps a b. one_union repr ps r s a b) h k
    one_answer (enum repr all) r s h k =
        follows_one (VariantsLaying dl all) (IsEnumOf dl repr (discriminants_of all)) r s (λ x y p q. one_list_each all x y p q)
        (λ variants a b. one_enum repr (discriminants_of all) variants r s a b) h k
    one_answer (coroutine prefix locals states conflicts) r s h k =
        follows_one (AreLaying dl prefix) (λ pres. Follows (AreLaying dl locals) (λ ps. IsCoroutineOf dl pres ps states conflicts)) r s (λ x y p q. one_list prefix x y p q)
        (λ pres a b. follows_one (AreLaying dl locals) (λ ps. IsCoroutineOf dl pres ps states conflicts) r s (λ x y p q. one_list locals x y p q)
        (λ ps c d. one_coroutine_of pres ps states conflicts r s c d) a b) h k

    pub one_list : (ts : Trees) (r s : Result (List Placed) LayError) → AreLaying dl ts r → AreLaying dl ts s → r ≡ s
    one_list no_trees r s h k = h ∙ sym k
    one_list (more_trees t ts) r s h k =
        follows_one (IsLaying dl t) (λ p. Follows (AreLaying dl ts) (λ ps z. z ≡ Ok (p ∷ ps))) r s (λ x y p q. one_answer t x y p q)
        (λ p a b. follows_one (AreLaying dl ts) (λ ps z. z ≡ Ok (p ∷ ps)) r s (λ x y u v. one_list ts x y u v) (λ ps (c : r ≡ Ok (p ∷ ps)) d. c ∙ sym d) a b) h k

    pub one_list_each : (all : Variants) (r s : Result (List (List Placed)) LayError) → VariantsLaying dl all r → VariantsLaying dl all s → r ≡ s
    one_list_each no_variants r s h k = h ∙ sym k
    one_list_each (more_variants discriminant ts others) r s h k =
        follows_one (AreLaying dl ts) (λ ps. Follows (VariantsLaying dl others) (λ rest z. z ≡ Ok (ps ∷ rest))) r s (λ x y p q. one_list ts x y p q)
        (λ ps a b. follows_one (VariantsLaying dl others) (λ rest z. z ≡ Ok (ps ∷ rest)) r s (λ x y u v. one_list_each others x y u v)
        (λ rest (c : r ≡ Ok (ps ∷ rest)) d. c ∙ sym d) a b) h k
