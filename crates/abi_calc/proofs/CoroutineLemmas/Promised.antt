-- What is promised of a coroutine, from the layouts of its lists.
use Rattle.std.proofs.Common.{◌≡◌, ℕ, ◌+◌, ◌*◌, ◌-◌, ◌^◌, ◌<◌, ◌≤◌, Bool, false, List, [], ◌∷◌, ◌++◌, None, Option, Some, ◌∙◌, ap, ap₂, arith, inl, inr, length, map, max, refl, subst, sym}
use Rattle.std.specs.Prelude.{◌⊎◌, All, IfErr, IfOk, IsPermutation, Result, Ok, Err, not, slice_get}
use Rattle.std.specs.Int.{next_multiple_of}
use Rattle.std.specs.List.{AllZip, cons_option}
use Rattle.std.proofs.lemmas.List.{length-append, length-map, map-append}
use Rattle.std.proofs.lemmas.List.Elements.{All-append, All-cons, All-contains, All-filter, All-head, All-map, All-tail}
use Rattle.std.proofs.lemmas.Nat.{pow_pos}
use Rattle.std.proofs.lemmas.Option.{slice_get-map}
use Rattle.std.specs.Option.{option_map}
use Rattle.std.specs.Result.{IsErrAnd}
use Rattle.abi_base.specs.declared.data_layout.TargetDataLayout.{TargetDataLayout}
use Rattle.abi_base.specs.declared.struct_kind.StructKind.{StructKind}
use Rattle.abi_base.specs.declared.struct_kind.StructKind.TheVariants.{AlwaysSized, Prefixed}
use Rattle.abi_base.specs.DataLayout.{IsLawfulDataLayout, size_bound}
use Rattle.abi_base.specs.Integer.{integer_size}
use Rattle.abi_scalar.specs.declared.error.LayoutCalculatorError.{LayoutCalculatorError}
use Rattle.abi_scalar.specs.declared.error.LayoutCalculatorError.TheVariants.{OutOfMemory, SizeOverflow}
use Rattle.abi_scalar.specs.declared.layout_data.LayoutData.{LayoutData}
use Rattle.abi_scalar.specs.declared.scalar.Scalar.{Scalar}
use Rattle.abi_scalar.specs.Lawful.{IsLawfulLayout}
use Rattle.abi_scalar.specs.Scalar.{IsLawfulScalar}
use Rattle.abi_scalar.specs.Simple.{scalar_layout}
use Rattle.abi_index.specs.BitSet.{is_member, members_of}
use Rattle.abi_univariant.specs.Answer.{IsAnswer}
use Rattle.abi_univariant.specs.Fields.{greatest, greatest_size}
use Rattle.abi_univariant.specs.Least.{IsEachOrderTooLarge, align_by}
use Rattle.abi_univariant.specs.List.{AreSized, IsUnivariantError}
use Rattle.abi_univariant.specs.Part.{is_unsized}
use Rattle.abi_univariant.specs.Placement.{fields_repr, source_order}
use Rattle.abi_univariant.proofs.Sorted.Least.{allowed_permutes}
use Rattle.abi_univariant.proofs.Sorted.Sorting.{within_order}
use Rattle.abi_univariant.proofs.Promised.LeastLemmas.{large_in_each, sized_error}
use Rattle.abi_univariant.proofs.Offsets.Rounding.{rounded_to}
use Rattle.abi_calc.specs.Coroutine.Answer.{IsPromotedAnswer}
use Rattle.abi_calc.specs.Coroutine.Layout.{IsStateTag, coroutine_layout, whole_align, whole_size}
use Rattle.abi_calc.specs.Coroutine.Lists.{AreOwnLists, IsFirstOwnError, state_list_kind, default_repr, first_list, own_list, own_of, picked}
use Rattle.abi_calc.specs.Coroutine.Promised.{IsSizedPromoted}
use Rattle.abi_calc.specs.Coroutine.Sizes.{AreListsTooLarge, IsSizeOfLists, IsSizeWith, align_of_all, behind_first, own_lists}
use Rattle.abi_calc.specs.Enums.Lists.{AreGoodLists, AreListLayouts, IsFirstListError, IsGoodList}
use Rattle.abi_calc.specs.Enums.Sizes.{AreLeastSizes}
use Rattle.abi_calc.specs.Coroutine.States.{HasFields}
use Rattle.abi_scalar.specs.Shape.{listed_order}
use Rattle.abi_scalar.proofs.LawfulLemmas.{scalar_lawful}
use Rattle.abi_scalar.proofs.ReadableLemmas.{lawful_readable}
use Rattle.abi_calc.proofs.CoroutineLemmas.Places.{members_within, picked_count}
use Rattle.abi_calc.proofs.EnumLemmas.Places.{named_back}
use Rattle.abi_calc.proofs.CoroutineLemmas.Layout.{whole_align_small}
use Rattle.abi_calc.proofs.CoroutineLemmas.Lists.{all_picked}
use Rattle.abi_calc.proofs.EnumLemmas.Lists.{good_exact, good_lawful}
use Rattle.abi_calc.proofs.EnumLemmas.Sizes.{all_fit, error_in_each, error_sized, good_aligns, good_fits, good_sizes, least_unique, sizes_unique}

-- ---- the layouts of picked items

picked_next : {A B : Type 0} (f : A → B) (found : Option A) (xs : List A) → map f (cons_option found xs) ≡ cons_option (option_map f found) (map f xs)
picked_next f None xs = refl
picked_next f (Some x) xs = refl

pub map_picked : {A B : Type 0} (f : A → B) (items : List A) (places : List ℕ) → map f (picked items places) ≡ picked (map f items) places
map_picked f items [] = refl
map_picked f items (p ∷ ps) = picked_next f (slice_get items p) (picked items ps) ∙ ap₂ cons_option (sym (slice_get-map f items p)) (map_picked f items ps)

-- of the first list's fields
pub map_first : {A B : Type 0} (f : A → B) (prefix : List A) (tag : A) (locals : List A) (promoted : List Bool) → map f (first_list prefix tag locals promoted) ≡ first_list (map f prefix) (f tag) (map f locals) promoted
map_first f prefix tag locals promoted =
    map-append f prefix (tag ∷ picked locals (members_of promoted)) ∙ ap (λ xs. map f prefix ++ f tag ∷ xs) (map_picked f locals (members_of promoted))

-- and of those of the others
pub map_own : {A B : Type 0} (f : A → B) (locals : List A) (promoted : List Bool) (states : List (List ℕ)) → map (map f) (own_lists locals promoted states) ≡ own_lists (map f locals) promoted states
map_own f locals promoted [] = refl
map_own f locals promoted (s ∷ ss) = ap₂ (λ x xs. x ∷ xs) (map_picked f locals (own_of promoted s)) (map_own f locals promoted ss)

-- what holds of all fields holds of those of the first list
pub first_all : {A : Type 0} (P : A → Type 0) (prefix : List A) (tag : A) (locals : List A) (promoted : List Bool) → All P prefix → P tag → All P locals → All P (first_list prefix tag locals promoted)
first_all P prefix tag locals promoted before one all =
    All-append P prefix (tag ∷ picked locals (members_of promoted)) before (All-cons P tag (picked locals (members_of promoted)) one (all_picked P locals (members_of promoted) all))

-- and of those of each other list
pub own_all : {A : Type 0} (P : A → Type 0) (locals : List A) (promoted : List Bool) (states : List (List ℕ)) → All P locals → All (All P) (own_lists locals promoted states)
own_all P locals promoted [] all = λ k d short. absurd (omega (arith, short))
own_all P locals promoted (s ∷ ss) all = All-cons (All P) (own_list locals promoted s) (own_lists locals promoted ss) (all_picked P locals (own_of promoted s) all) (own_all P locals promoted ss all)

-- ---- the tag

-- it is lawful
pub state_tag_lawful : (dl : TargetDataLayout) (count : ℕ) (tag : Scalar) → IsStateTag count tag → IsLawfulScalar dl tag
state_tag_lawful dl count tag is =
    let bits : integer_size is.0 * 8 ≡ 8 * integer_size is.0 = omega arith in
    let some : 0 < 2 ^ (8 * integer_size is.0) = pow_pos (8 * integer_size is.0) in
    let most : count - 1 < 2 ^ (8 * integer_size is.0) = subst (λ n. count - 1 < 2 ^ n) bits is.1.holds in
    subst (IsLawfulScalar dl) (sym is.2) (record { pointer = tt; within = (some, most) })

module _ {F V H : Type 0} (layout_of : H → LayoutData F V) (at : ℕ → F) (zeroth : V) (dl : TargetDataLayout) (kind : StructKind) (locals : List H) (promoted : List Bool) where
  -- the lists of the states, one by one
  pub own_layouts : (states : List (List ℕ)) (lists : List (LayoutData F V)) → AreListLayouts layout_of at zeroth dl default_repr kind (own_lists locals promoted states) lists
      → AreOwnLists layout_of at zeroth dl kind locals promoted states lists
  own_layouts [] [] h = tt
  own_layouts [] (l ∷ ls) h = elim h [ ]
  own_layouts (s ∷ ss) [] h = elim h [ ]
  own_layouts (s ∷ ss) (l ∷ ls) h = (h.0, own_layouts ss ls h.1)

  -- the first state without one
  pub own_error : (states : List (List ℕ)) (error : LayoutCalculatorError H) → IsFirstListError layout_of at zeroth dl default_repr kind (own_lists locals promoted states) error
      → IsFirstOwnError layout_of at zeroth dl kind locals promoted states error
  own_error [] error h = elim h [ ]
  own_error (s ∷ ss) error (inl here) = inl here
  own_error (s ∷ ss) error (inr later) = inr (later.0, later.1, own_error ss error later.2)

-- ---- the whole

module _ {F V H : Type 0} (layout_of : H → LayoutData F V) (at : ℕ → F) (zeroth : V) (dl : TargetDataLayout) (fields : List H) (own : List (List H)) (first : LayoutData F V) (good : IsGoodList layout_of at zeroth dl default_repr AlwaysSized fields first) where
  -- each list lies behind the first one
  kind_is : state_list_kind first ≡ behind_first dl (map layout_of fields) first.size
  kind_is = ap (λ a. Prefixed first.size a) good.placed.2.alignment

  module _ (lists : List (LayoutData F V)) (others : AreGoodLists layout_of at zeroth dl default_repr (state_list_kind first) own lists) where
    whole_align_is : whole_align first lists ≡ align_of_all dl (map layout_of fields) first.size (map (map layout_of) own)
    whole_align_is =
        ap₂ max good.placed.2.alignment
        (ap greatest (good_aligns layout_of at zeroth dl default_repr (state_list_kind first) own lists others ∙ ap (λ k. map (align_by dl default_repr k) (map (map layout_of) own)) kind_is))

    -- the size is that of the lists, each of its least size
    pub whole_is : IsSizeOfLists dl (map layout_of fields) (map (map layout_of) own) (whole_size first lists)
    whole_is = (
      first.size,
      good.least,
      map (λ l. l.size) lists,
      subst (λ k. AreLeastSizes dl default_repr k (map (map layout_of) own) (map (λ l. l.size) lists)) kind_is (good_sizes layout_of at zeroth dl default_repr (state_list_kind first) own lists others),
      ap (λ a. next_multiple_of (greatest_size (first ∷ lists)) (2 ^ a)) whole_align_is,
    )

    -- which is one number
    pub whole_unique : (size : ℕ) → IsSizeOfLists dl (map layout_of fields) (map (map layout_of) own) size → size ≡ whole_size first lists
    unfolding whole_is
    whole_unique size h =
        let start : h.0 ≡ first.size = least_unique dl default_repr AlwaysSized (map layout_of fields) h.0 first.size h.1 good.least in
        let sizes : h.2 ≡ map (λ l. l.size) lists
        = sizes_unique dl default_repr (behind_first dl (map layout_of fields) first.size) (map (map layout_of) own) h.2 (map (λ l. l.size) lists)
        (subst (λ s. AreLeastSizes dl default_repr (behind_first dl (map layout_of fields) s) (map (map layout_of) own) h.2) start h.3) whole_is.3 in
        h.4 ∙ ap₂ (λ s ss. next_multiple_of (greatest (s ∷ ss)) (2 ^ align_of_all dl (map layout_of fields) s (map (map layout_of) own))) start sizes ∙ sym whole_is.4

    -- a coroutine that has a layout isn't too large
    pub not_too_large : whole_size first lists < size_bound dl → AreListsTooLarge dl (map layout_of fields) (map (map layout_of) own) → ⊥
    not_too_large below (inl one) = good_fits layout_of at zeroth dl default_repr AlwaysSized fields first good one
    not_too_large below (inr (inl some)) =
        let start : some.0 ≡ first.size = least_unique dl default_repr AlwaysSized (map layout_of fields) some.0 first.size some.1 good.least in
        let large : IsEachOrderTooLarge dl default_repr (state_list_kind first) some.2
        = subst (λ k. IsEachOrderTooLarge dl default_repr k some.2) (ap (behind_first dl (map layout_of fields)) start ∙ sym kind_is) some.4 in
        All-contains (λ fs. IsEachOrderTooLarge dl default_repr (state_list_kind first) fs → ⊥) (map (map layout_of) own) some.2 (all_fit layout_of at zeroth dl default_repr (state_list_kind first) own lists others) some.3 large
    not_too_large below (inr (inr whole)) =
        let same = whole_unique whole.0 whole.1 in
        omega (arith, same, whole.2, below)

  -- the first list that has no layout is too large in each order, where the error says so
  pub own_large : (error : LayoutCalculatorError H) → All (All (λ f. IsLawfulLayout dl (layout_of f))) own → IsFirstListError layout_of at zeroth dl default_repr (state_list_kind first) own error → error ≡ SizeOverflow
      → AreListsTooLarge dl (map layout_of fields) (map (map layout_of) own)
  own_large error law bad is =
      let one = error_in_each layout_of at zeroth dl default_repr (state_list_kind first) own error law tt bad is in
      inr (inl (first.size, good.least, one.0, one.1, subst (λ k. IsEachOrderTooLarge dl default_repr k one.0) kind_is one.2))

-- ---- the fields of a list

-- so many fields has the first list
pub first_count : {A : Type 0} (prefix : List A) (tag : A) (locals : List A) (promoted : List Bool) → length promoted ≡ length locals → length (first_list prefix tag locals promoted) ≡ length prefix + 1 + length (members_of promoted)
first_count prefix tag locals promoted same =
    let below : All (λ p. p < length locals) (members_of promoted) = members_within promoted (length locals) same in
    let long = length-append prefix (tag ∷ picked locals (members_of promoted)) in
    omega (arith, long, picked_count locals (members_of promoted) below)

-- and a state's own
pub own_list_count : {A : Type 0} (locals : List A) (promoted : List Bool) (state : List ℕ) → All (λ l. l < length locals) state → length (own_list locals promoted state) ≡ length (own_of promoted state)
own_list_count locals promoted state within = picked_count locals (own_of promoted state) (All-filter (λ l. not (is_member promoted l)) (λ l. l < length locals) state within)

module _ {F V H : Type 0} (layout_of : H → LayoutData F V) (at : ℕ → F) (number : F → ℕ) (most : ℕ) (law : (i : ℕ) → i ≤ most → number (at i) ≡ i) (zeroth : V) (dl : TargetDataLayout) (kind : StructKind) where
  -- a list's layout has a place for each field, in memory too
  pub good_fields : (fields : List H) (list : LayoutData F V) (count : ℕ) → length fields ≡ count → length fields ≤ most + 1 → IsGoodList layout_of at zeroth dl default_repr kind fields list → HasFields number count list
  good_fields fields list count many few good =
      let order : List ℕ = good.placed.0 in
      let allowed : IsPermutation (source_order (length (map layout_of fields))) good.placed.0
      = allowed_permutes (fields_repr dl default_repr kind) (length (map layout_of fields)) good.placed.0 good.placed.2.allowed in
      let within = within_order (length (map layout_of fields)) good.placed.0 allowed in
      let long : length (map layout_of fields) ≡ length fields = length-map fields layout_of in
      let back : map number (listed_order list.fields) ≡ good.placed.0
      = ap (λ shape. map number (listed_order shape)) good.placed.1 ∙ named_back at number most law good.placed.0 (λ k d short. omega (arith, within k d short, long, few)) in
      record {
        listed = good.listed.listed;
        offsets = good.listed.count ∙ many;
        order = subst (λ n. IsPermutation (source_order n) (map number (listed_order list.fields))) (long ∙ many) (subst (IsPermutation (source_order (length (map layout_of fields)))) (sym back) allowed);
      }

  -- and so have the lists of the states
  pub good_own_fields : {L : Type 0} (name : L → ℕ) (locals : List H) (promoted : List Bool) (states : List (List L)) (lists : List (LayoutData F V)) → All (All (λ l. name l < length locals)) states
      → All (λ own. length own ≤ most + 1) (own_lists locals promoted (map (map name) states)) → AreGoodLists layout_of at zeroth dl default_repr kind (own_lists locals promoted (map (map name) states)) lists
      → AllZip (λ state list. HasFields number (length (own_of promoted (map name state))) list) states lists
  good_own_fields name locals promoted [] [] within few good = tt
  good_own_fields name locals promoted [] (l ∷ ls) within few good = elim good [ ]
  good_own_fields name locals promoted (s ∷ ss) [] within few good = elim good [ ]
  good_own_fields name locals promoted (s ∷ ss) (l ∷ ls) within few good = (
    good_fields (own_list locals promoted (map name s)) l (length (own_of promoted (map name s)))
        (own_list_count locals promoted (map name s) (All-map (λ n. n < length locals) name s (All-head (All (λ n. name n < length locals)) s ss within)))
        (All-head (λ own. length own ≤ most + 1) (own_list locals promoted (map name s)) (own_lists locals promoted (map (map name) ss)) few) good.0,
    good_own_fields name locals promoted ss ls (All-tail (All (λ n. name n < length locals)) s ss within)
        (All-tail (λ own. length own ≤ most + 1) (own_list locals promoted (map name s)) (own_lists locals promoted (map (map name) ss)) few) good.1,
  )

-- ---- what is promised

-- What a coroutine's layout is asked of.
pub record IsAsked {F V H : Type 0} (layout_of : H → LayoutData F V) (zeroth : V) (dl : TargetDataLayout) (prefix : List H) (tag : Scalar) (field : H) (locals : List H) (states : List (List ℕ)) : Type 0 where
  pub law : IsLawfulDataLayout dl
  pub before : All (λ f. IsLawfulLayout dl (layout_of f)) prefix
  pub all : All (λ f. IsLawfulLayout dl (layout_of f)) locals
  pub is_state_tag : IsStateTag (length states) tag
  pub holds : layout_of field ≡ scalar_layout zeroth dl tag

-- What is promised of the answer.
pub record IsPromised {F V H : Type 0} (layout_of : H → LayoutData F V) (at : ℕ → F) (number : F → ℕ) (zeroth : V) (dl : TargetDataLayout) (prefix : List H) (tag : Scalar) (field : H) (locals : List H) (states : List (List ℕ)) (promoted : List Bool)
    (r : Result (LayoutData F V) (LayoutCalculatorError H)) : Type 0 where
  pub exact : IsPromotedAnswer layout_of at number zeroth dl prefix tag field locals states promoted r
  pub lawful : IfOk r (IsLawfulLayout dl)
  pub sized : IsSizedPromoted dl (map layout_of prefix) (scalar_layout zeroth dl tag) (map layout_of locals) states promoted r

answer_of : {A H : Type 0} (e : LayoutCalculatorError H) → (e ≡ SizeOverflow) ⊎ (e ≡ OutOfMemory) → IsAnswer {A = A} (Err SizeOverflow) (Err e)
answer_of e (inl is) = inl (ap (λ x. Err x) is)
answer_of e (inr is) = inr (ap (λ x. Err x) is)

error_is : {A H : Type 0} (e f : LayoutCalculatorError H) → (let x : Result A (LayoutCalculatorError H) = Err e in let y : Result A (LayoutCalculatorError H) = Err f in x ≡ y) → e ≡ f
error_is e f is = cc

module _ {F V H : Type 0} (layout_of : H → LayoutData F V) (at : ℕ → F) (number : F → ℕ) (zeroth : V) (dl : TargetDataLayout) (prefix : List H) (tag : Scalar) (field : H) (locals : List H) (states : List (List ℕ)) (promoted : List Bool)
    (asked : IsAsked layout_of zeroth dl prefix tag field locals states) where
  fields_are : map layout_of (first_list prefix field locals promoted) ≡ first_list (map layout_of prefix) (scalar_layout zeroth dl tag) (map layout_of locals) promoted
  fields_are = map_first layout_of prefix field locals promoted ∙ ap (λ t. first_list (map layout_of prefix) t (map layout_of locals) promoted) asked.holds

  own_are : map (map layout_of) (own_lists locals promoted states) ≡ own_lists (map layout_of locals) promoted states
  own_are = map_own layout_of locals promoted states

  -- what holds of the lists' layouts holds of those that the fields' layouts give
  told_of : (P : List (LayoutData F V) → List (List (LayoutData F V)) → Type 0) → P (map layout_of (first_list prefix field locals promoted)) (map (map layout_of) (own_lists locals promoted states))
      → P (first_list (map layout_of prefix) (scalar_layout zeroth dl tag) (map layout_of locals) promoted) (own_lists (map layout_of locals) promoted states)
  told_of P h = subst (λ x. P x (own_lists (map layout_of locals) promoted states)) fields_are (subst (P (map layout_of (first_list prefix field locals promoted))) own_are h)

  told_back : (P : List (LayoutData F V) → List (List (LayoutData F V)) → Type 0) → P (first_list (map layout_of prefix) (scalar_layout zeroth dl tag) (map layout_of locals) promoted) (own_lists (map layout_of locals) promoted states)
      → P (map layout_of (first_list prefix field locals promoted)) (map (map layout_of) (own_lists locals promoted states))
  told_back P h = subst (λ x. P x (map (map layout_of) (own_lists locals promoted states))) (sym fields_are) (subst (P (first_list (map layout_of prefix) (scalar_layout zeroth dl tag) (map layout_of locals) promoted)) (sym own_are) h)

  -- the fields of the first list are lawful
  pub first_lawful : All (λ f. IsLawfulLayout dl (layout_of f)) (first_list prefix field locals promoted)
  first_lawful =
      let scalar = state_tag_lawful dl (length states) tag asked.is_state_tag in
      let one : IsLawfulLayout dl (layout_of field)
      = subst (IsLawfulLayout dl) (sym asked.holds) (scalar_lawful dl tag (scalar_layout zeroth dl tag) (lawful_readable dl tag scalar) asked.law scalar refl refl refl refl tt) in
      first_all (λ f. IsLawfulLayout dl (layout_of f)) prefix field locals promoted asked.before one asked.all

  -- where the others are sized, so are all
  first_sized : AreSized (map layout_of prefix) → AreSized (map layout_of locals) → AreSized (map layout_of (first_list prefix field locals promoted))
  first_sized before all =
      subst AreSized (sym fields_are) (first_all (λ f. is_unsized f.backend_repr ≡ false) (map layout_of prefix) (scalar_layout zeroth dl tag) (map layout_of locals) promoted before refl all)

  own_sized : AreSized (map layout_of locals) → All AreSized (map (map layout_of) (own_lists locals promoted states))
  own_sized all = subst (All AreSized) (sym own_are) (own_all (λ f. is_unsized f.backend_repr ≡ false) (map layout_of locals) promoted states all)

  -- that memory ran out
  pub memory_promised : (e : LayoutCalculatorError H) → e ≡ OutOfMemory → IsPromised layout_of at number zeroth dl prefix tag field locals states promoted (Err e)
  memory_promised e is = record {
    exact = inr (inr is);
    lawful = tt;
    sized = record {
      size = tt;
      too_large = λ large. (let never : e ≡ SizeOverflow = error_is e SizeOverflow large in absurd (cc));
      refused = λ before all large. inr (ap (λ x. Err x) is);
      no_other = λ before all. inr is;
    };
  }

  -- the first list has no layout
  pub first_promised : (e : LayoutCalculatorError H) → IsUnivariantError layout_of dl default_repr AlwaysSized (first_list prefix field locals promoted) e ⊎ (e ≡ OutOfMemory) → IsPromised layout_of at number zeroth dl prefix tag field locals states promoted (Err e)
  first_promised e (inr is) = memory_promised e is
  first_promised e (inl bad) =
      let other : AreSized (map layout_of prefix) → AreSized (map layout_of locals) → (e ≡ SizeOverflow) ⊎ (e ≡ OutOfMemory)
      = λ before all. sized_error layout_of at zeroth dl default_repr AlwaysSized (first_list prefix field locals promoted) e (first_sized before all) tt bad in
      record {
        exact = inl bad;
        lawful = tt;
        sized = record {
          size = tt;
          too_large = λ large. told_of (AreListsTooLarge dl) (inl (large_in_each layout_of at zeroth dl default_repr AlwaysSized (first_list prefix field locals promoted) e first_lawful tt bad (error_is e SizeOverflow large)));
          refused = λ before all large. answer_of e (other before all);
          no_other = other;
        };
      }

  module _ (first : LayoutData F V) (good : IsGoodList layout_of at zeroth dl default_repr AlwaysSized (first_list prefix field locals promoted) first) where
    -- some state's list has none
    pub own_promised : (e : LayoutCalculatorError H) → IsFirstListError layout_of at zeroth dl default_repr (state_list_kind first) (own_lists locals promoted states) e ⊎ (e ≡ OutOfMemory)
        → IsPromised layout_of at number zeroth dl prefix tag field locals states promoted (Err e)
    own_promised e (inr is) = memory_promised e is
    own_promised e (inl bad) =
        let other : AreSized (map layout_of prefix) → AreSized (map layout_of locals) → (e ≡ SizeOverflow) ⊎ (e ≡ OutOfMemory)
        = λ before all. error_sized layout_of at zeroth dl default_repr (state_list_kind first) (own_lists locals promoted states) e (own_sized all) tt bad in
        record {
          exact = inr (inl (first, good.exact, inl (own_error layout_of at zeroth dl (state_list_kind first) locals promoted states e bad)));
          lawful = tt;
          sized = record {
            size = tt;
            too_large = λ large. told_of (AreListsTooLarge dl) (own_large layout_of at zeroth dl (first_list prefix field locals promoted) (own_lists locals promoted states) first good e
                (own_all (λ f. IsLawfulLayout dl (layout_of f)) locals promoted states asked.all) bad (error_is e SizeOverflow large));
            refused = λ before all large. answer_of e (other before all);
            no_other = other;
          };
        }

    -- all lists have layouts
    module _ (lists : List (LayoutData F V)) (others : AreGoodLists layout_of at zeroth dl default_repr (state_list_kind first) (own_lists locals promoted states) lists) where
      layout_lawful : whole_size first lists < size_bound dl → IsLawfulLayout dl (coroutine_layout at number (length prefix) tag promoted states first lists)
      layout_lawful below =
          record {
            multiple = (rounded_to (greatest_size (first ∷ lists)) (whole_align first lists)).multiple;
            bound = below;
            limit = whole_align_small dl first lists good.lawful (good_lawful layout_of at zeroth dl default_repr (state_list_kind first) (own_lists locals promoted states) lists others);
            niche = tt;
            view = tt;
            niche_of_view = tt;
            tag = state_tag_lawful dl (length states) tag asked.is_state_tag;
          }

      pub whole_promised : (r : Result (LayoutData F V) (LayoutCalculatorError H))
          → IfOk r (λ layout. (whole_size first lists < size_bound dl) × (layout ≡ coroutine_layout at number (length prefix) tag promoted states first lists))
          → IfErr r (λ e. ((size_bound dl ≤ whole_size first lists) × (e ≡ SizeOverflow)) ⊎ (e ≡ OutOfMemory))
          → IsPromised layout_of at number zeroth dl prefix tag field locals states promoted r
      whole_promised (Ok layout) laid fault = record {
        exact = (first, good.exact, lists, own_layouts layout_of at zeroth dl (state_list_kind first) locals promoted states lists (good_exact layout_of at zeroth dl default_repr (state_list_kind first) (own_lists locals promoted states) lists others), laid.0, laid.1);
        lawful = subst (IsLawfulLayout dl) (sym laid.1) (layout_lawful laid.0);
        sized = record {
          size = subst (λ l. IsSizeWith dl (map layout_of prefix) (scalar_layout zeroth dl tag) (map layout_of locals) states promoted l.size) (sym laid.1)
              (told_of (λ x y. IsSizeOfLists dl x y (whole_size first lists)) (whole_is layout_of at zeroth dl (first_list prefix field locals promoted) (own_lists locals promoted states) first good lists others));
          too_large = λ is. absurd (cc);
          refused = λ before all large. absurd (not_too_large layout_of at zeroth dl (first_list prefix field locals promoted) (own_lists locals promoted states) first good lists others laid.0 (told_back (AreListsTooLarge dl) large));
          no_other = λ before all. tt;
        };
      }
      whole_promised (Err e) laid (inr is) = memory_promised e is
      whole_promised (Err e) laid (inl large) = record {
        exact = inr (inl (first, good.exact, inr (lists, own_layouts layout_of at zeroth dl (state_list_kind first) locals promoted states lists (good_exact layout_of at zeroth dl default_repr (state_list_kind first) (own_lists locals promoted states) lists others), large.0, large.1)));
        lawful = tt;
        sized = record {
          size = tt;
          too_large = λ is. told_of (AreListsTooLarge dl) (inr (inr (whole_size first lists, whole_is layout_of at zeroth dl (first_list prefix field locals promoted) (own_lists locals promoted states) first good lists others, large.0)));
          refused = λ before all is. inl (ap (λ x. Err x) large.1);
          no_other = λ before all. inl large.1;
        };
      }

-- that memory ran out says nothing of a size
module _ {F V H : Type 0} (dl : TargetDataLayout) (prefix : List (LayoutData F V)) (tag : LayoutData F V) (locals : List (LayoutData F V)) (states : List (List ℕ)) (promoted : List Bool) where
  pub memory_sized : (r : Result (LayoutData F V) (LayoutCalculatorError H)) → IsErrAnd r (λ e. e ≡ OutOfMemory) → IsSizedPromoted dl prefix tag locals states promoted r
  memory_sized (Ok l) tag_distinguishes = absurd tag_distinguishes
  memory_sized (Err e) tag_distinguishes = record {
    size = tt;
    too_large = λ is. absurd (cc);
    refused = λ before all large. inr (ap (λ x. Err x) tag_distinguishes);
    no_other = λ before all. inr tag_distinguishes;
  }
