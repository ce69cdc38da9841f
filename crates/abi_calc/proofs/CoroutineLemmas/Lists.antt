-- The lists of a coroutine.
use Rattle.std.proofs.Common.{◌≡◌, ℕ, ◌+◌, ◌<◌, Bool, true, false, cond, List, [], ◌∷◌, ◌++◌, Option, None, Some, ◌∙◌, ap, arith, drop, get_or, inl, inr, length, map, refl, subst, suc, sym, take}
use Rattle.std.specs.Prelude.{◌⊎◌, All, IfErr, Result, filter, not, slice_get}
use Rattle.std.specs.List.{cons_option, range_with_len}
use Rattle.std.proofs.lemmas.List.{append-nil, map-append, map-id, map_more, map_push, take-append-drop}
use Rattle.std.proofs.lemmas.List.FromFn.{map-range_with_len_more}
use Rattle.std.proofs.lemmas.List.Elements.{All-cons, All-get_or, All-nil, All-push, filter-append, filter_map-append}
use Rattle.std.proofs.lemmas.Option.{get_or_from_slice_get, slice_get-get_or, slice_get_within}
use Rattle.std.proofs.Math.Seq.{drop-cons}
use Rattle.abi_base.specs.declared.data_layout.TargetDataLayout.{TargetDataLayout}
use Rattle.abi_base.specs.declared.struct_kind.StructKind.{StructKind}
use Rattle.abi_scalar.specs.declared.error.LayoutCalculatorError.{LayoutCalculatorError}
use Rattle.abi_scalar.specs.declared.error.LayoutCalculatorError.TheVariants.{OutOfMemory}
use Rattle.abi_scalar.specs.declared.layout_data.LayoutData.{LayoutData}
use Rattle.abi_scalar.specs.declared.repr.ReprOptions.{ReprOptions}
use Rattle.abi_index.specs.BitSet.{is_member}
use Rattle.abi_univariant.specs.List.{IsUnivariantError}
use Rattle.abi_calc.specs.Coroutine.Lists.{default_repr, own_list, own_of, picked}
use Rattle.abi_calc.specs.Coroutine.Sizes.{own_lists}
use Rattle.abi_calc.specs.Enums.Lists.{AreGoodLists, IsFirstListError, IsGoodList}
use Rattle.abi_calc.proofs.EnumLemmas.Lists.{first_error, good_snoc}

-- ---- a list with one more item

-- the numbers below one more
pub range_more : (n : ℕ) → range_with_len 0 (n + 1) ≡ range_with_len 0 n ++ n ∷ []
range_more n =
    sym (map-id (range_with_len 0 (n + 1))) ∙ map-range_with_len_more (λ k. k) 0 n n (omega arith) ∙ ap (λ xs. xs ++ n ∷ []) (map-id (range_with_len 0 n))

-- of one number that is kept or not
kept_one : (p : ℕ → Bool) (n : ℕ) (b : Bool) → p n ≡ b → filter p (n ∷ []) ≡ cond b (n ∷ []) []
kept_one p n b e = ap (λ c. cond c (n ∷ []) []) e

-- what is kept of the numbers below one more
pub kept_more : (p : ℕ → Bool) (n : ℕ) (b : Bool) → p n ≡ b → filter p (range_with_len 0 (n + 1)) ≡ filter p (range_with_len 0 n) ++ cond b (n ∷ []) []
kept_more p n b e = ap (filter p) (range_more n) ∙ filter-append p (range_with_len 0 n) (n ∷ []) ∙ ap (λ xs. filter p (range_with_len 0 n) ++ xs) (kept_one p n b e)

-- the item that a place names, where the place is kept
picked_one : {A : Type 0} (items : List A) (n : ℕ) (x : A) (b : Bool) → slice_get items n ≡ Some x → picked items (cond b (n ∷ []) []) ≡ cond b (x ∷ []) []
picked_one items n x true e = rw e refl
picked_one items n x false e = refl

picked_with : {A : Type 0} (items : List A) (ps : List ℕ) (n : ℕ) (x : A) (b : Bool) → slice_get items n ≡ Some x → picked items (ps ++ cond b (n ∷ []) []) ≡ picked items ps ++ cond b (x ∷ []) []
picked_with items ps n x b e = filter_map-append (slice_get items) ps (cond b (n ∷ []) []) ∙ ap (λ xs. picked items ps ++ xs) (picked_one items n x b e)

-- the items of the places that are kept below one more: with that one's
pub picked_kept : {A : Type 0} (items : List A) (p : ℕ → Bool) (n : ℕ) (x : A) → n < length items → x ≡ get_or items n x → p n ≡ true
    → picked items (filter p (range_with_len 0 (n + 1))) ≡ picked items (filter p (range_with_len 0 n)) ++ x ∷ []
picked_kept items p n x short is e =
    ap (picked items) (kept_more p n true e) ∙ picked_with items (filter p (range_with_len 0 n)) n x true (slice_get-get_or items n x short ∙ ap (λ y. Some y) (sym is))

-- or without it
pub picked_left : {A : Type 0} (items : List A) (p : ℕ → Bool) (n : ℕ) → p n ≡ false → picked items (filter p (range_with_len 0 (n + 1))) ≡ picked items (filter p (range_with_len 0 n))
picked_left items p n e = ap (picked items) (kept_more p n false e ∙ append-nil (filter p (range_with_len 0 n)))

-- ---- a state's list

-- one local more
own_push : (promoted : List Bool) (state : List ℕ) (l : ℕ) (b : Bool) → not (is_member promoted l) ≡ b → own_of promoted (state ++ l ∷ []) ≡ own_of promoted state ++ cond b (l ∷ []) []
own_push promoted state l b e =
    filter-append (λ local. not (is_member promoted local)) state (l ∷ []) ∙ ap (λ xs. own_of promoted state ++ xs) (kept_one (λ local. not (is_member promoted local)) l b e)

pub own_next : {L : Type 0} (number : L → ℕ) (promoted : List Bool) (state : List L) (i : ℕ) (local : L) (b : Bool) → i < length state → local ≡ get_or state i local → not (is_member promoted (number local)) ≡ b
    → own_of promoted (map number (take (i + 1) state)) ≡ own_of promoted (map number (take i state)) ++ cond b (number local ∷ []) []
own_next number promoted state i local b short there e =
    ap (own_of promoted) (map_more number state i local short ∙ ap (λ l. map number (take i state) ++ number l ∷ []) (sym there)) ∙ own_push promoted (map number (take i state)) (number local) b e

-- which isn't promoted
pub own_kept : {A L : Type 0} (number : L → ℕ) (items : List A) (promoted : List Bool) (state : List L) (i : ℕ) (local : L) (x : A) → i < length state → local ≡ get_or state i local
    → number local < length items → x ≡ get_or items (number local) x → not (is_member promoted (number local)) ≡ true
    → own_list items promoted (map number (take (i + 1) state)) ≡ own_list items promoted (map number (take i state)) ++ x ∷ []
own_kept number items promoted state i local x short there within is e =
    ap (picked items) (own_next number promoted state i local true short there e)
    ∙ picked_with items (own_of promoted (map number (take i state))) (number local) x true (slice_get-get_or items (number local) x within ∙ ap (λ y. Some y) (sym is))

-- or is
pub own_left : {A L : Type 0} (number : L → ℕ) (items : List A) (promoted : List Bool) (state : List L) (i : ℕ) (local : L) → i < length state → local ≡ get_or state i local
    → not (is_member promoted (number local)) ≡ false → own_list items promoted (map number (take (i + 1) state)) ≡ own_list items promoted (map number (take i state))
own_left number items promoted state i local short there e =
    ap (picked items) (own_next number promoted state i local false short there e ∙ append-nil (own_of promoted (map number (take i state))))

-- what holds of all items holds of one that is found, before others
all_found : {A : Type 0} (P : A → Type 0) (items : List A) (p : ℕ) (rest : List A) (found : Option A) → slice_get items p ≡ found → All P items → All P rest → All P (cons_option found rest)
all_found P items p rest None e all more = more
all_found P items p rest (Some x) e all more = All-cons P x rest (subst P (get_or_from_slice_get items p x x e) (All-get_or P items p x (slice_get_within items p x e) all)) more

-- what holds of all items holds of those that are picked
pub all_picked : {A : Type 0} (P : A → Type 0) (items : List A) (places : List ℕ) → All P items → All P (picked items places)
all_picked P items [] all = All-nil P
all_picked {A} P items (p ∷ ps) all = all_found P items p (picked items ps) (slice_get items p) refl all (all_picked P items ps all)

-- ---- the lists of all states

-- one state more
own_lists_more : {A L : Type 0} (number : L → ℕ) (items : List A) (promoted : List Bool) (states : List (List L)) (i : ℕ) (state : List L) → i < length states → state ≡ get_or states i state
    → own_lists items promoted (map (map number) (take (i + 1) states)) ≡ own_lists items promoted (map (map number) (take i states)) ++ own_list items promoted (map number state) ∷ []
own_lists_more number items promoted states i state short is =
    ap (map (own_list items promoted)) (map_more (map number) states i state short ∙ ap (λ s. map (map number) (take i states) ++ map number s ∷ []) (sym is))
    ∙ map_push (own_list items promoted) (map (map number) (take i states)) (map number state)

-- the states before one, that one, and those after it
own_lists_at : {A L : Type 0} (number : L → ℕ) (items : List A) (promoted : List Bool) (states : List (List L)) (i : ℕ) (state : List L) → i < length states → state ≡ get_or states i state
    → own_lists items promoted (map (map number) (take i states)) ++ (own_list items promoted (map number state) ∷ own_lists items promoted (map (map number) (drop (suc i) states))) ≡ own_lists items promoted (map (map number) states)
own_lists_at number items promoted states i state short is =
    let rest : drop i states ≡ state ∷ drop (suc i) states = drop-cons states i state short ∙ ap (λ s. s ∷ drop (suc i) states) (sym is) in
    let all : take i states ++ (state ∷ drop (suc i) states) ≡ states = ap (λ x. take i states ++ x) (sym rest) ∙ take-append-drop i states in
    sym (map-append (own_list items promoted) (map (map number) (take i states)) (map (map number) (state ∷ drop (suc i) states)))
    ∙ ap (map (own_list items promoted)) (sym (map-append (map number) (take i states) (state ∷ drop (suc i) states)) ∙ ap (map (map number)) all)

module _ {F V H L : Type 0} (layout_of : H → LayoutData F V) (at : ℕ → F) (first : V) (dl : TargetDataLayout) (kind : StructKind) (number : L → ℕ) (locals : List H) (promoted : List Bool) (states : List (List L)) where
  -- with the list of the state at the place
  pub own_good_next : (i : ℕ) (ls : List (LayoutData F V)) (state : List L) (l : LayoutData F V) → i < length states → state ≡ get_or states i state
      → AreGoodLists layout_of at first dl default_repr kind (own_lists locals promoted (map (map number) (take i states))) ls
      → IsGoodList layout_of at first dl default_repr kind (own_list locals promoted (map number state)) l
      → AreGoodLists layout_of at first dl default_repr kind (own_lists locals promoted (map (map number) (take (i + 1) states))) (ls ++ l ∷ [])
  own_good_next i ls state l short is h g =
      subst (λ x. AreGoodLists layout_of at first dl default_repr kind x (ls ++ l ∷ [])) (sym (own_lists_more number locals promoted states i state short is))
      (good_snoc layout_of at first dl default_repr kind (own_lists locals promoted (map (map number) (take i states))) ls (own_list locals promoted (map number state)) l h g)

  -- its error is the first
  pub own_error_next : (i : ℕ) (ls : List (LayoutData F V)) (state : List L) (e : LayoutCalculatorError H) → i < length states → state ≡ get_or states i state
      → AreGoodLists layout_of at first dl default_repr kind (own_lists locals promoted (map (map number) (take i states))) ls
      → IsUnivariantError layout_of dl default_repr kind (own_list locals promoted (map number state)) e ⊎ (e ≡ OutOfMemory)
      → IsFirstListError layout_of at first dl default_repr kind (own_lists locals promoted (map (map number) states)) e ⊎ (e ≡ OutOfMemory)
  own_error_next i ls state e short is h (inr want) = inr want
  own_error_next i ls state e short is h (inl error) =
      inl (subst (λ x. IsFirstListError layout_of at first dl default_repr kind x e) (own_lists_at number locals promoted states i state short is)
      (first_error layout_of at first dl default_repr kind (own_lists locals promoted (map (map number) (take i states))) ls (own_list locals promoted (map number state))
      (own_lists locals promoted (map (map number) (drop (suc i) states))) e h error))

  -- what holds of the lists before holds with it
  pub own_all_next : (P : List H → Type 0) (i : ℕ) (state : List L) → i < length states → state ≡ get_or states i state → All P (own_lists locals promoted (map (map number) (take i states)))
      → P (own_list locals promoted (map number state)) → All P (own_lists locals promoted (map (map number) (take (i + 1) states)))
  own_all_next P i state short is all one =
      subst (All P) (sym (own_lists_more number locals promoted states i state short is)) (All-push P (own_lists locals promoted (map (map number) (take i states))) (own_list locals promoted (map number state)) all one)

-- an error is that of the same fields by the same `repr`
pub same_error : {F V H : Type 0} (layout_of : H → LayoutData F V) (dl : TargetDataLayout) (kind : StructKind) (repr other : ReprOptions) (fields more : List H) (r : Result (LayoutData F V) (LayoutCalculatorError H)) → repr ≡ other → fields ≡ more
    → IfErr r (λ e. IsUnivariantError layout_of dl repr kind fields e ⊎ (e ≡ OutOfMemory)) → IfErr r (λ e. IsUnivariantError layout_of dl other kind more e ⊎ (e ≡ OutOfMemory))
same_error layout_of dl kind repr other fields more r e is fault =
    subst (λ x. IfErr r (λ e. IsUnivariantError layout_of dl other kind x e ⊎ (e ≡ OutOfMemory))) is (subst (λ x. IfErr r (λ e. IsUnivariantError layout_of dl x kind fields e ⊎ (e ≡ OutOfMemory))) e fault)
