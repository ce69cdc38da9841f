-- A coroutine's states are distinguished by its tag, and each lies apart beside the shared fields.
use Rattle.std.proofs.Common.{◌≡◌, ◌≢◌, ℕ, ◌+◌, ◌-◌, ◌*◌, ◌%◌, ◌^◌, ◌<◌, ◌≤◌, Bool, List, [], ◌∷◌, ◌++◌, None, ◌∙◌, ap, ap₂, arith, drop, get_or, length, map, max, refl, subst, sym, take}
use Rattle.std.specs.Prelude.{All, IfOk, Result, Ok, Err, filter, nat_lt, not, slice_index}
use Rattle.std.specs.List.{AllPairs}
use Rattle.std.proofs.Math.Nat.{mod-eq_of_lt}
use Rattle.std.proofs.lemmas.List.{append_assoc, length-append, length-map, length-take-le, map-append, take-append-drop}
use Rattle.std.proofs.lemmas.List.Elements.{All-cons, All-filter, All-head, All-nil, All-tail, All-weaker}
use Rattle.std.proofs.lemmas.List.FromFn.{get_or-range_with_len, length-range_with_len}
use Rattle.abi_base.specs.declared.data_layout.TargetDataLayout.{TargetDataLayout}
use Rattle.abi_base.specs.declared.struct_kind.StructKind.TheVariants.{AlwaysSized}
use Rattle.abi_base.specs.Integer.{integer_size}
use Rattle.abi_index.specs.BitSet.{is_member, members_of}
use Rattle.abi_scalar.specs.declared.error.LayoutCalculatorError.{LayoutCalculatorError}
use Rattle.abi_scalar.specs.declared.layout_data.LayoutData.{LayoutData}
use Rattle.abi_scalar.specs.declared.scalar.Scalar.{Scalar}
use Rattle.abi_scalar.specs.declared.variants.TagEncoding.TheVariants.{Direct}
use Rattle.abi_scalar.specs.declared.variants.Variants.TheVariants.{Multiple}
use Rattle.abi_scalar.specs.Scalar.{IsNumberOf, scalar_size}
use Rattle.abi_scalar.specs.Shape.{listed_offsets, listed_order}
use Rattle.abi_scalar.specs.Simple.{scalar_layout}
use Rattle.abi_univariant.specs.Apart.{AreApart}
use Rattle.abi_univariant.specs.Fields.{greatest_size}
use Rattle.abi_univariant.specs.Placement.{source_order, start_of}
use Rattle.abi_univariant.proofs.Offsets.Rounding.{rounded_to}
use Rattle.abi_calc.specs.Coroutine.Clash.{AreStatesApart, IsDistinguishedByState}
use Rattle.abi_calc.specs.Coroutine.Layout.{IsStateTag, coroutine_layout, whole_align, whole_size}
use Rattle.abi_calc.specs.Coroutine.Lists.{state_list_kind, default_repr, first_list, own_of, picked}
use Rattle.abi_calc.specs.Coroutine.Sizes.{own_lists}
use Rattle.abi_calc.specs.Coroutine.States.{state_layouts, state_offsets}
use Rattle.abi_calc.specs.Enums.Lists.{AreGoodLists, IsGoodList}
use Rattle.abi_calc.proofs.CoroutineLemmas.Promised.{first_count, map_picked}
use Rattle.abi_calc.proofs.CoroutineLemmas.Places.{members_within}
use Rattle.abi_calc.proofs.CoroutineLemmas.Told.{picked_sizes, state_apart}
use Rattle.abi_calc.proofs.EnumLemmas.Places.{sizes_as}

-- ---- the numbers

-- each state's index is a number of the tag
pub state_numbers : (dl : TargetDataLayout) (count : ℕ) (tag : Scalar) → IsStateTag count tag → All (IsNumberOf (scalar_size dl tag) tag) (source_order count)
state_numbers dl count tag is =
    subst (λ t. All (IsNumberOf (scalar_size dl t) t) (source_order count)) (sym is.2) (λ k d short.
    (let low : k < count = omega (arith, short, length-range_with_len 0 count) in
    let read : get_or (source_order count) k d ≡ k = get_or-range_with_len 0 count k d low ∙ (omega arith) in
    let bits : integer_size is.0 * 8 ≡ 8 * integer_size is.0 = omega arith in
    let most : count - 1 < 2 ^ (8 * integer_size is.0) = subst (λ n. count - 1 < 2 ^ n) bits is.1.holds in
    let one : (n : ℕ) → n < count → (0 + n) % 2 ^ (8 * integer_size is.0) ≡ n = λ n small.
    (let same : 0 + n ≡ n = omega arith in let fits : n < 2 ^ (8 * integer_size is.0) = omega (arith, small, most) in ap (λ x. x % 2 ^ (8 * integer_size is.0)) same ∙ mod-eq_of_lt fits) in (
      k,
      read ∙ sym (one k low),
      λ j less e. (let own = one j (omega (arith, less, low)) in omega (arith, own, e, less, low)),
    )))

-- ---- the sizes

-- no list is greater than the greatest
greatest_above : {F V : Type 0} (lists : List (LayoutData F V)) → All (λ l. l.size ≤ greatest_size lists) lists
greatest_above [] = All-nil (λ l. l.size ≤ 0)
greatest_above (l ∷ ls) =
    All-cons (λ x. x.size ≤ max l.size (greatest_size ls)) l ls (omega arith) (All-weaker (λ x. x.size ≤ greatest_size ls) (λ x. x.size ≤ max l.size (greatest_size ls)) (λ x h. omega (arith, h)) ls (greatest_above ls))

-- the whole holds each list
pub whole_above : {F V : Type 0} (first : LayoutData F V) (lists : List (LayoutData F V)) → All (λ l. l.size ≤ whole_size first lists) (first ∷ lists)
whole_above first lists =
    let up = (rounded_to (greatest_size (first ∷ lists)) (whole_align first lists)).above in
    All-weaker (λ l. l.size ≤ greatest_size (first ∷ lists)) (λ l. l.size ≤ whole_size first lists) (λ l h. omega (arith, h, up)) (first ∷ lists) (greatest_above (first ∷ lists))

module _ {F V H : Type 0} (layout_of : H → LayoutData F V) (at : ℕ → F) (number : F → ℕ) (zeroth : V) (dl : TargetDataLayout) (prefix : List H) (tag : Scalar) (field : H) (locals : List H) (promoted : List Bool)
    (holds : layout_of field ≡ scalar_layout zeroth dl tag) (many : length promoted ≡ length locals)
    (first : LayoutData F V) (good : IsGoodList layout_of at zeroth dl default_repr AlwaysSized (first_list prefix field locals promoted) first) where
  -- how large a local is
  abbrev pub local_size : ℕ → ℕ
  local_size = slice_index (map (λ f. f.size) (map layout_of locals))

  -- how large the shared fields are
  abbrev pub shared_sizes : List ℕ
  shared_sizes = map (λ f. f.size) (map layout_of prefix) ++ scalar_size dl tag ∷ []

  -- where they lie
  abbrev pub shared_offsets : List ℕ
  shared_offsets = take (length prefix + 1) (listed_offsets first.fields)

  -- the sizes of some locals
  pub sizes_of : (places : List ℕ) → All (λ p. p < length locals) places → map (λ f. (layout_of f).size) (picked locals places) ≡ map local_size places
  sizes_of places within =
      sym (sizes_as layout_of (picked locals places)) ∙ ap (map (λ f. f.size)) (map_picked layout_of locals places)
      ∙ picked_sizes (λ f. f.size) (map layout_of locals) places (subst (λ n. All (λ p. p < n) places) (sym (length-map locals layout_of)) within)

  -- and of the first list's fields
  first_sizes : map (λ f. (layout_of f).size) (first_list prefix field locals promoted) ≡ shared_sizes ++ map local_size (members_of promoted)
  first_sizes =
      let below : All (λ p. p < length locals) (members_of promoted) = members_within promoted (length locals) many in
      map-append (λ f. (layout_of f).size) prefix (field ∷ picked locals (members_of promoted))
      ∙ ap₂ (λ xs ys. xs ++ (layout_of field).size ∷ ys) (sym (sizes_as layout_of prefix)) (sizes_of (members_of promoted) below)
      ∙ ap (λ (l : LayoutData F V). map (λ (f : LayoutData F V). f.size) (map layout_of prefix) ++ l.size ∷ map local_size (members_of promoted)) holds
      ∙ sym (append_assoc (map (λ (f : LayoutData F V). f.size) (map layout_of prefix)) (scalar_size dl tag ∷ []) (map local_size (members_of promoted)))

  pub first_apart : AreApart first.size (shared_offsets ++ drop (length prefix + 1) (listed_offsets first.fields)) (shared_sizes ++ map local_size (members_of promoted))
  first_apart = subst (λ os. AreApart first.size os (shared_sizes ++ map local_size (members_of promoted))) (sym (take-append-drop (length prefix + 1) (listed_offsets first.fields))) (subst (AreApart first.size (listed_offsets first.fields)) first_sizes good.apart)

  shared_long : length shared_offsets ≡ length (map layout_of prefix) + 1
  shared_long =
      let offsets = good.listed.count ∙ first_count prefix field locals promoted many in
      let front = length-take-le (length prefix + 1) (listed_offsets first.fields) (omega (arith, offsets)) in
      omega (arith, front, length-map prefix layout_of)

  pub shared_count : length shared_offsets ≡ length shared_sizes
  shared_count =
      let offsets = good.listed.count ∙ first_count prefix field locals promoted many in
      let front = length-take-le (length prefix + 1) (listed_offsets first.fields) (omega (arith, offsets)) in
      let sizes = length-append (map (λ (f : LayoutData F V). f.size) (map layout_of prefix)) (scalar_size dl tag ∷ []) in
      let fields = length-map (map layout_of prefix) (λ (f : LayoutData F V). f.size) in
      let layouts = length-map prefix layout_of in
      omega (arith, front, sizes, fields, layouts)

  -- each state's fields and the shared ones share no byte
  pub states_apart : (whole : ℕ) (states : List (List ℕ)) (lists : List (LayoutData F V)) → first.size ≤ whole → All (λ l. l.size ≤ whole) lists → All (All (λ l. l < length locals)) states → All (AllPairs (λ a b. a ≢ b)) states
      → AreGoodLists layout_of at zeroth dl default_repr (state_list_kind first) (own_lists locals promoted states) lists
      → AreStatesApart whole shared_offsets shared_sizes (map layout_of locals) states (state_layouts at number (length prefix + 1) promoted first states lists)
  states_apart whole [] [] fits more within once others = tt
  states_apart whole [] (l ∷ ls) fits more within once others = elim others [ ]
  states_apart whole (s ∷ ss) [] fits more within once others = elim others [ ]
  states_apart whole (s ∷ ss) (l ∷ ls) fits more within once others =
      let own : All (λ p. p < length locals) s = All-head (All (λ p. p < length locals)) s ss within in
      let far : All (λ o. first.size ≤ o) (listed_offsets l.fields)
      = All-weaker (λ o. start_of None (state_list_kind first) ≤ o) (λ o. first.size ≤ o) (λ o h. omega (arith, h, (rounded_to first.size first.align.abi).above)) (listed_offsets l.fields) others.0.after in
      let apart = state_apart promoted shared_offsets shared_sizes (drop (length prefix + 1) (listed_offsets first.fields)) local_size first.size l.size whole shared_count fits (All-head (λ x. x.size ≤ whole) l ls more) first_apart
      (listed_offsets l.fields) s (All-head (AllPairs (λ a b. a ≢ b)) s ss once)
      (subst (AreApart l.size (listed_offsets l.fields)) (sizes_of (own_of promoted s) (All-filter (λ x. not (is_member promoted x)) (λ p. p < length locals) s own)) others.0.apart) far in
      let sizes : map (λ (f : LayoutData F V). f.size) (picked (map layout_of locals) s) ≡ map local_size s
      = picked_sizes (λ f. f.size) (map layout_of locals) s (subst (λ n. All (λ p. p < n) s) (sym (length-map locals layout_of)) own) in (
        subst (λ ms. AreApart whole (shared_offsets ++ state_offsets promoted (drop (length prefix + 1) (listed_offsets first.fields)) (listed_offsets l.fields) s) (shared_sizes ++ ms)) (sym sizes) apart,
        states_apart whole ss ls fits (All-tail (λ x. x.size ≤ whole) l ls more) (All-tail (All (λ p. p < length locals)) s ss within) (All-tail (AllPairs (λ a b. a ≢ b)) s ss once) others.1,
      )

  -- the states are distinguished
  told_layout : (states : List (List ℕ)) (lists : List (LayoutData F V)) → IsStateTag (length states) tag → All (All (λ l. l < length locals)) states → All (AllPairs (λ a b. a ≢ b)) states
      → AreGoodLists layout_of at zeroth dl default_repr (state_list_kind first) (own_lists locals promoted states) lists
      → IsDistinguishedByState dl at (map layout_of prefix) (map layout_of locals) states (coroutine_layout at number (length prefix) tag promoted states first lists)
  told_layout states lists is_state_tag within once others = record {
    tag = tag;
    offsets = shared_offsets;
    order = filter (λ i. nat_lt (number i) (length prefix + 1)) (listed_order first.fields);
    fields = refl;
    count = shared_long;
    layouts = state_layouts at number (length prefix + 1) promoted first states lists;
    tag_distinguishes = ap (λ n. Multiple tag Direct (at n) (state_layouts at number (length prefix + 1) promoted first states lists)) (sym (length-map prefix layout_of));
    apart = states_apart (whole_size first lists) states lists (All-head (λ l. l.size ≤ whole_size first lists) first lists (whole_above first lists))
        (All-tail (λ l. l.size ≤ whole_size first lists) first lists (whole_above first lists)) within once others;
    numbers = state_numbers dl (length states) tag is_state_tag;
  }

  pub told_promised : (states : List (List ℕ)) (lists : List (LayoutData F V)) (P : LayoutData F V → Type 0) (r : Result (LayoutData F V) (LayoutCalculatorError H)) → IsStateTag (length states) tag → All (All (λ l. l < length locals)) states
      → All (AllPairs (λ a b. a ≢ b)) states → AreGoodLists layout_of at zeroth dl default_repr (state_list_kind first) (own_lists locals promoted states) lists
      → IfOk r (λ layout. P layout × (layout ≡ coroutine_layout at number (length prefix) tag promoted states first lists))
      → IfOk r (IsDistinguishedByState dl at (map layout_of prefix) (map layout_of locals) states)
  told_promised states lists P (Ok layout) is_state_tag within once others laid = subst (IsDistinguishedByState dl at (map layout_of prefix) (map layout_of locals) states) (sym laid.1) (told_layout states lists is_state_tag within once others)
  told_promised states lists P (Err e) is_state_tag within once others laid = tt
