-- Locals of a coroutine that clash share no byte, and a local has one place.
use Rattle.std.proofs.Common.{◌≡◌, ◌≢◌, ℕ, zero, suc, ◌+◌, ◌^◌, ◌<◌, ◌≤◌, ◌==◌, ◌⊎◌, All, Bool, true, false, Contains, List, [], ◌∷◌, ap, arith, drop, get_or, inl, inr, length, map, refl, length-drop, not, subst, sym, ⊎_elim, ◌∙◌}
use Rattle.std.specs.Prelude.{Some, option_map, slice_get, slice_index}
use Rattle.std.specs.Int.{next_multiple_of}
use Rattle.std.specs.List.{AllPairs}
use Rattle.std.proofs.lemmas.Bool.{cases_Bool, cases_order, eq-eqb}
use Rattle.std.proofs.lemmas.List.{get_or_default}
use Rattle.std.proofs.lemmas.List.Elements.{All-filter}
use Rattle.std.proofs.lemmas.List.Folds.{list_any_at}
use Rattle.std.proofs.lemmas.Option.{get_or_from_slice_get, same_Some, slice_get-get_or, slice_get-map, slice_get_within}
use Rattle.abi_base.specs.declared.data_layout.TargetDataLayout.{TargetDataLayout}
use Rattle.abi_base.specs.declared.struct_kind.StructKind.{StructKind}
use Rattle.abi_base.specs.declared.struct_kind.StructKind.TheVariants.{AlwaysSized}
use Rattle.abi_index.specs.AscendingList.{has_number}
use Rattle.abi_index.specs.BitSet.{is_member, members_of}
use Rattle.abi_index.specs.Relation.{Relation, column_count, is_entry, row_count}
use Rattle.abi_scalar.specs.declared.layout_data.LayoutData.{LayoutData}
use Rattle.abi_scalar.specs.declared.variants.VariantLayout.{VariantLayout}
use Rattle.abi_scalar.specs.Shape.{listed_offsets}
use Rattle.abi_univariant.specs.Apart.{AreApart}
use Rattle.abi_univariant.proofs.Offsets.Rounding.{rounded_to}
use Rattle.abi_calc.specs.Coroutine.Clash.{AreClashingApart, DoClash, HasLocalAt, HaveOneOffset}
use Rattle.abi_calc.specs.Coroutine.Lists.{state_list_kind, default_repr, first_list, own_list, own_of, picked}
use Rattle.abi_calc.specs.Coroutine.Promotion.{holder_of, promoted_of}
use Rattle.abi_calc.specs.Coroutine.Sizes.{own_lists}
use Rattle.abi_calc.specs.Coroutine.States.{rank_of, state_layout, state_layouts, state_offsets}
use Rattle.abi_calc.specs.Enums.Lists.{AreGoodLists, IsGoodList}
use Rattle.abi_calc.proofs.CoroutineLemmas.Places.{apart_at, inside_at, item_behind, item_left, members_within, own_offset, picked_at, picked_count, promoted_offset, ranked}
use Rattle.abi_calc.proofs.CoroutineLemmas.Promotion.{held_once, holder_is, one_holder, promoted_count, settled}

-- ---- states that hold a local

-- a number that is read at a place is found
has_at : (xs : List ℕ) (x i d : ℕ) → i < length xs → get_or xs i d ≡ x → has_number xs x ≡ true
has_at xs x i d short e = list_any_at (λ y. x == y) xs i d short (eq-eqb x (get_or xs i d) (sym e))

-- a number that stands there is
found_at : (xs : List ℕ) (place k : ℕ) → slice_get xs place ≡ Some k → has_number xs k ≡ true
found_at xs place k is = has_at xs k place k (slice_get_within xs place k is) (get_or_from_slice_get xs place k k is)

-- a state among others that holds a local
contained : (states : List (List ℕ)) (state : List ℕ) (local : ℕ) → (at : Contains states state) → Contains state local → has_number (get_or states at.0 []) local ≡ true
contained states state local at held =
    let read : get_or states at.0 [] ≡ state = get_or_default states at.0 [] state at.1 ∙ at.2 in
    rw read (has_at state local held.0 local held.1 held.2)

-- a state that holds a local at a place, as the list of states has it
holds_at : (states : List (List ℕ)) (i place local : ℕ) (state : List ℕ) → slice_get states i ≡ Some state → slice_get state place ≡ Some local → has_number (get_or states i []) local ≡ true
holds_at states i place local state here there = rw (get_or_from_slice_get states i state [] here) (found_at state place local there)

-- a local that a state holds is in range
local_within : (states : List (List ℕ)) (count i place local : ℕ) (state : List ℕ) → All (All (λ l. l < count)) states → slice_get states i ≡ Some state → slice_get state place ≡ Some local → local < count
local_within states count i place local state within here there =
    let short : i < length states = slice_get_within states i state here in
    let whole : All (λ l. l < count) state = subst (All (λ l. l < count)) (get_or_from_slice_get states i state [] here) (within i [] short) in
    subst (λ l. l < count) (get_or_from_slice_get state place local 0 there) (whole place 0 (slice_get_within state place local there))

-- ---- one offset

-- a number stands at one place of a list without repeated ones
one_place : (xs : List ℕ) (i j k : ℕ) → AllPairs (λ a b. a ≢ b) xs → slice_get xs i ≡ Some k → slice_get xs j ≡ Some k → i ≡ j
one_place xs i j k once here there = elim (cases_order i j) [
  | inl same ↦ same
  | inr (inl before) ↦ absurd (once i j 0 before (slice_get_within xs j k there) (get_or_from_slice_get xs i k 0 here ∙ sym (get_or_from_slice_get xs j k 0 there)))
  | inr (inr after) ↦ absurd (once j i 0 after (slice_get_within xs i k here) (get_or_from_slice_get xs j k 0 there ∙ sym (get_or_from_slice_get xs i k 0 here)))
]

-- two items at one place are one
one_item : {A : Type 0} (xs : List A) (i j : ℕ) (x y : A) → i ≡ j → slice_get xs i ≡ Some x → slice_get xs j ≡ Some y → x ≡ y
one_item xs i j x y same here there = same_Some x y (sym here ∙ ap (slice_get xs) same ∙ there)

-- the layout of the state at a place
layout_at : {F V : Type 0} (at : ℕ → F) (number : F → ℕ) (before : ℕ) (promoted : List Bool) (first : LayoutData F V) (states : List (List ℕ)) (lists : List (LayoutData F V)) (i : ℕ) (state : List ℕ) (layout : VariantLayout F)
    → slice_get states i ≡ Some state → slice_get (state_layouts at number before promoted first states lists) i ≡ Some layout
    → (list : LayoutData F V) × (slice_get lists i ≡ Some list) × (layout ≡ state_layout at number before promoted first state list)
layout_at at number before promoted first [] lists i state layout here there = absurd (cc)
layout_at at number before promoted first (s ∷ states) [] i state layout here there = absurd (cc)
layout_at at number before promoted first (s ∷ states) (l ∷ lists) zero state layout here there =
    (l, refl, sym (same_Some (state_layout at number before promoted first s l) layout there) ∙ ap (λ x. state_layout at number before promoted first x l) (same_Some s state here))
layout_at at number before promoted first (s ∷ states) (l ∷ lists) (suc i) state layout here there = layout_at at number before promoted first states lists i state layout here there

-- A local that some state has at an offset: the state and its list, and where both have the local.
record HasPlace {F V : Type 0} (promoted : List Bool) (shared : List ℕ) (states : List (List ℕ)) (lists : List (LayoutData F V)) (local offset : ℕ) : Type 0 where
  i : ℕ
  state : List ℕ
  list : LayoutData F V
  place : ℕ
  state_is : slice_get states i ≡ Some state
  list_is : slice_get lists i ≡ Some list
  local_is : slice_get state place ≡ Some local
  offset_is : slice_get (state_offsets promoted shared (listed_offsets list.fields) state) place ≡ Some offset

has_place : {F V : Type 0} (at : ℕ → F) (number : F → ℕ) (before : ℕ) (promoted : List Bool) (first : LayoutData F V) (states : List (List ℕ)) (lists : List (LayoutData F V)) (local offset : ℕ)
    → HasLocalAt states (state_layouts at number before promoted first states lists) local offset
    → HasPlace promoted (drop before (listed_offsets first.fields)) states lists local offset
has_place at number before promoted first states lists local offset (i, state, layout, place, here, laid, there, lies) =
    let found = layout_at at number before promoted first states lists i state layout here laid in
    record {
      i = i;
      state = state;
      list = found.0;
      place = place;
      state_is = here;
      list_is = found.1;
      local_is = there;
      offset_is = subst (λ v. slice_get v.field_offsets place ≡ Some offset) found.2 lies;
    }

-- a local lies at one offset, whatever states hold it
pub one_offset : {F V : Type 0} (at : ℕ → F) (number : F → ℕ) (before : ℕ) (states : List (List ℕ)) (conflicts : Relation) (first : LayoutData F V) (lists : List (LayoutData F V))
    → All (All (λ l. l < row_count conflicts)) states → All (AllPairs (λ a b. a ≢ b)) states → HaveOneOffset states (state_layouts at number before (promoted_of states conflicts) first states lists)
one_offset at number before states conflicts first lists within once local o p here there =
    let promoted = promoted_of states conflicts in
    let x = has_place at number before (promoted_of states conflicts) first states lists local o here in
    let y = has_place at number before (promoted_of states conflicts) first states lists local p there in
    let short = local_within states (row_count conflicts) x.i x.place local x.state within x.state_is x.local_is in
    elim (cases_Bool (is_member (promoted_of states conflicts) local)) [
      | inl is ↦
          promoted_offset promoted (drop before (listed_offsets first.fields)) (listed_offsets x.list.fields) x.state x.place local o x.local_is x.offset_is is
          ∙ sym (promoted_offset promoted (drop before (listed_offsets first.fields)) (listed_offsets y.list.fields) y.state y.place local p y.local_is y.offset_is is)
      | inr other ↦ own_one x y (one_holder states local x.i y.i (held_once states conflicts local short other) (slice_get_within states x.i x.state x.state_is) (slice_get_within states y.i y.state y.state_is)
          (holds_at states x.i x.place local x.state x.state_is x.local_is) (holds_at states y.i y.place local y.state y.state_is y.local_is))
    ]
  where
    own_one : (x : HasPlace (promoted_of states conflicts) (drop before (listed_offsets first.fields)) states lists local o) (y : HasPlace (promoted_of states conflicts) (drop before (listed_offsets first.fields)) states lists local p)
        → x.i ≡ y.i → o ≡ p
    own_one x y same =
        let state : x.state ≡ y.state = one_item states x.i y.i x.state y.state same x.state_is y.state_is in
        let list : x.list ≡ y.list = one_item lists x.i y.i x.list y.list same x.list_is y.list_is in
        let short : x.i < length states = slice_get_within states x.i x.state x.state_is in
        let apart : AllPairs (λ (a b : ℕ). a ≢ b) x.state = subst (AllPairs (λ (a b : ℕ). a ≢ b)) (get_or_from_slice_get states x.i x.state [] x.state_is) (once x.i [] short) in
        let place : x.place ≡ y.place = one_place x.state x.place y.place local apart x.local_is (ap (λ s. slice_get s y.place) state ∙ y.local_is) in
        let both : slice_get (state_offsets (promoted_of states conflicts) (drop before (listed_offsets first.fields)) (listed_offsets x.list.fields) x.state) x.place
        ≡ slice_get (state_offsets (promoted_of states conflicts) (drop before (listed_offsets first.fields)) (listed_offsets y.list.fields) y.state) y.place = cc in
        same_Some o p (sym x.offset_is ∙ both ∙ y.offset_is)

-- ---- locals that clash

-- the layout of the local that a place names
local_layout : {F V H : Type 0} (layout_of : H → LayoutData F V) (locals : List H) (local : ℕ) (x : LayoutData F V) → slice_get (map layout_of locals) local ≡ Some x → (h : H) × (slice_get locals local ≡ Some h) × (layout_of h ≡ x)
local_layout layout_of [] local x is = absurd (cc)
local_layout layout_of (h ∷ locals) zero x is = (h, refl, same_Some (layout_of h) x is)
local_layout layout_of (h ∷ locals) (suc local) x is = local_layout layout_of locals local x is

-- the size of the field at a place
size_at : {F V H : Type 0} (layout_of : H → LayoutData F V) (fields : List H) (place : ℕ) (h : H) (x : LayoutData F V) → slice_get fields place ≡ Some h → layout_of h ≡ x → slice_get (map (λ f. (layout_of f).size) fields) place ≡ Some x.size
size_at layout_of fields place h x here is = slice_get-map (λ f. (layout_of f).size) fields place ∙ ap (option_map (λ f. (layout_of f).size)) here ∙ ap (λ l. Some l.size) is

-- the list of the state at a place
good_at : {F V H : Type 0} (layout_of : H → LayoutData F V) (at : ℕ → F) (zeroth : V) (dl : TargetDataLayout) (kind : StructKind) (locals : List H) (promoted : List Bool) (states : List (List ℕ)) (lists : List (LayoutData F V))
    (i : ℕ) (state : List ℕ) (list : LayoutData F V) → AreGoodLists layout_of at zeroth dl default_repr kind (own_lists locals promoted states) lists → slice_get states i ≡ Some state → slice_get lists i ≡ Some list
    → IsGoodList layout_of at zeroth dl default_repr kind (own_list locals promoted state) list
good_at layout_of at zeroth dl kind locals promoted [] lists i state list good here there = absurd (cc)
good_at layout_of at zeroth dl kind locals promoted (s ∷ states) [] i state list good here there = absurd (cc)
good_at layout_of at zeroth dl kind locals promoted (s ∷ states) (l ∷ lists) zero state list good here there =
    subst (λ x. IsGoodList layout_of at zeroth dl default_repr kind (own_list locals promoted state) x) (same_Some l list there)
    (subst (λ x. IsGoodList layout_of at zeroth dl default_repr kind (own_list locals promoted x) l) (same_Some s state here) good.0)
good_at layout_of at zeroth dl kind locals promoted (s ∷ states) (l ∷ lists) (suc i) state list good here there = good_at layout_of at zeroth dl kind locals promoted states lists i state list good.1 here there

-- A part of a list: its place, and the offset and the size there.
record IsPart (offsets sizes : List ℕ) (offset size : ℕ) (place : ℕ) : Type 0 where
  offset_is : slice_get offsets place ≡ Some offset
  size_is : slice_get sizes place ≡ Some size

-- the part of the first list that a promoted local is
promoted_part : {F V H : Type 0} (layout_of : H → LayoutData F V) (prefix : List H) (field : H) (locals : List H) (promoted : List Bool) (offsets : List ℕ) (local offset : ℕ) (x : LayoutData F V)
    → length promoted ≡ length locals → length offsets ≡ length (first_list prefix field locals promoted) → is_member promoted local ≡ true → slice_get (map layout_of locals) local ≡ Some x
    → offset ≡ slice_index (drop (length prefix + 1) offsets) (rank_of promoted local)
    → IsPart offsets (map (λ f. (layout_of f).size) (first_list prefix field locals promoted)) offset x.size (length prefix + 1 + rank_of promoted local)
promoted_part layout_of prefix field locals promoted offsets local offset x size count is laid lies =
    let found = local_layout layout_of locals local x laid in
    let within = members_within promoted (length locals) size in
    let rank = ranked promoted local is in
    let named : slice_get (picked locals (members_of promoted)) (rank_of promoted local) ≡ Some found.0 = picked_at locals (members_of promoted) (rank_of promoted local) local within rank ∙ found.1 in
    let place : length prefix + 1 + rank_of promoted local ≡ length prefix + suc (rank_of promoted local) = omega arith in
    let there : slice_get (first_list prefix field locals promoted) (length prefix + 1 + rank_of promoted local) ≡ Some found.0
    = ap (slice_get (first_list prefix field locals promoted)) place ∙ item_behind prefix (field ∷ picked locals (members_of promoted)) (suc (rank_of promoted local)) ∙ named in
    let long : length prefix + 1 + rank_of promoted local < length offsets
    = omega (arith, count, slice_get_within (first_list prefix field locals promoted) (length prefix + 1 + rank_of promoted local) found.0 there) in
    let far : rank_of promoted local < length (drop (length prefix + 1) offsets) = omega (arith, long, length-drop (length prefix + 1) offsets) in
    record {
      offset_is = sym (item_left offsets (length prefix + 1) (rank_of promoted local)) ∙ slice_get-get_or (drop (length prefix + 1) offsets) (rank_of promoted local) 0 far ∙ ap (λ o. Some o) (sym lies);
      size_is = size_at layout_of (first_list prefix field locals promoted) (length prefix + 1 + rank_of promoted local) found.0 x there found.2;
    }

-- the part of a state's own list that another local is
own_part : {F V H : Type 0} (layout_of : H → LayoutData F V) (locals : List H) (promoted : List Bool) (state offsets : List ℕ) (q local offset : ℕ) (x : LayoutData F V)
    → All (λ l. l < length locals) state → slice_get (own_of promoted state) q ≡ Some local → slice_get offsets q ≡ Some offset → slice_get (map layout_of locals) local ≡ Some x
    → IsPart offsets (map (λ f. (layout_of f).size) (own_list locals promoted state)) offset x.size q
own_part layout_of locals promoted state offsets q local offset x within named lies laid =
    let found = local_layout layout_of locals local x laid in
    let all = All-filter (λ l. not (is_member promoted l)) (λ l. l < length locals) state within in
    record {
      offset_is = lies;
      size_is = size_at layout_of (own_list locals promoted state) q found.0 x (picked_at locals (own_of promoted state) q local all named ∙ found.1) found.2;
    }

-- A local that isn't promoted, as its state's own list has it: where that list has it, and how it lies behind the first list.
record IsOwn {F V H : Type 0} (layout_of : H → LayoutData F V) (promoted : List Bool) (locals : List H) (states : List (List ℕ)) (lists : List (LayoutData F V)) (start : ℕ) (local offset size : ℕ) : Type 0 where
  i : ℕ
  state : List ℕ
  list : LayoutData F V
  q : ℕ
  state_is : slice_get states i ≡ Some state
  list_is : slice_get lists i ≡ Some list
  holds : has_number (get_or states i []) local ≡ true
  local_is : slice_get (own_of promoted state) q ≡ Some local
  part : IsPart (listed_offsets list.fields) (map (λ f. (layout_of f).size) (own_list locals promoted state)) offset size q
  apart : AreApart list.size (listed_offsets list.fields) (map (λ f. (layout_of f).size) (own_list locals promoted state))
  after : start ≤ offset

module _ {F V H : Type 0} (layout_of : H → LayoutData F V) (at : ℕ → F) (number : F → ℕ) (zeroth : V) (dl : TargetDataLayout) (prefix : List H) (field : H) (locals : List H) (states : List (List ℕ)) (conflicts : Relation)
    (first : LayoutData F V) (lists : List (LayoutData F V)) (square : column_count conflicts ≡ row_count conflicts) (count : length locals ≡ row_count conflicts) (within : All (All (λ l. l < row_count conflicts)) states)
    (good : IsGoodList layout_of at zeroth dl default_repr AlwaysSized (first_list prefix field locals (promoted_of states conflicts)) first)
    (own : AreGoodLists layout_of at zeroth dl default_repr (state_list_kind first) (own_lists locals (promoted_of states conflicts) states) lists) where
  -- the part of the first list that a promoted local is, wherever a state has it
  shared_part : (local offset : ℕ) (x : LayoutData F V) → slice_get (map layout_of locals) local ≡ Some x → is_member (promoted_of states conflicts) local ≡ true
      → HasPlace (promoted_of states conflicts) (drop (length prefix + 1) (listed_offsets first.fields)) states lists local offset
      → IsPart (listed_offsets first.fields) (map (λ f. (layout_of f).size) (first_list prefix field locals (promoted_of states conflicts))) offset x.size (length prefix + 1 + rank_of (promoted_of states conflicts) local)
  shared_part local offset x laid is has =
      promoted_part layout_of prefix field locals (promoted_of states conflicts) (listed_offsets first.fields) local offset x (promoted_count states conflicts ∙ sym count) good.listed.count is laid
      (promoted_offset (promoted_of states conflicts) (drop (length prefix + 1) (listed_offsets first.fields)) (listed_offsets has.list.fields) has.state has.place local offset has.local_is has.offset_is is)

  -- another local, as the one state that holds it has it
  as_own : (local offset : ℕ) (x : LayoutData F V) → slice_get (map layout_of locals) local ≡ Some x → is_member (promoted_of states conflicts) local ≡ false
      → HasPlace (promoted_of states conflicts) (drop (length prefix + 1) (listed_offsets first.fields)) states lists local offset
      → IsOwn layout_of (promoted_of states conflicts) locals states lists first.size local offset x.size
  as_own local offset x laid other has =
      let promoted = promoted_of states conflicts in
      let short : has.i < length states = slice_get_within states has.i has.state has.state_is in
      let range : All (λ l. l < length locals) has.state
      = subst (λ n. All (λ l. l < n) has.state) (sym count) (subst (All (λ l. l < row_count conflicts)) (get_or_from_slice_get states has.i has.state [] has.state_is) (within has.i [] short)) in
      let list = good_at layout_of at zeroth dl (state_list_kind first) locals (promoted_of states conflicts) states lists has.i has.state has.list own has.state_is has.list_is in
      let size : length (listed_offsets has.list.fields) ≡ length (own_of (promoted_of states conflicts) has.state)
      = list.listed.count ∙ picked_count locals (own_of (promoted_of states conflicts) has.state) (All-filter (λ l. not (is_member (promoted_of states conflicts) l)) (λ l. l < length locals) has.state range) in
      let found = own_offset promoted (drop (length prefix + 1) (listed_offsets first.fields)) (listed_offsets has.list.fields) has.state has.place local offset size has.local_is has.offset_is other in
      let begins : next_multiple_of first.size (2 ^ first.align.abi) ≤ offset
      = subst (λ o. next_multiple_of first.size (2 ^ first.align.abi) ≤ o) (get_or_from_slice_get (listed_offsets has.list.fields) found.0 offset 0 found.2)
      (list.after found.0 0 (slice_get_within (listed_offsets has.list.fields) found.0 offset found.2)) in
      record {
        i = has.i;
        state = has.state;
        list = has.list;
        q = found.0;
        state_is = has.state_is;
        list_is = has.list_is;
        holds = holds_at states has.i has.place local has.state has.state_is has.local_is;
        local_is = found.1;
        part = own_part layout_of locals promoted has.state (listed_offsets has.list.fields) found.0 local offset x range found.1 found.2 laid;
        apart = list.apart;
        after = omega (arith, begins, (rounded_to first.size first.align.abi).above);
      }

  -- a promoted local lies before another
  before_own : (a b o p : ℕ) (x y : LayoutData F V) → IsPart (listed_offsets first.fields) (map (λ f. (layout_of f).size) (first_list prefix field locals (promoted_of states conflicts))) o x.size (length prefix + 1 + rank_of (promoted_of states conflicts) a)
      → IsOwn layout_of (promoted_of states conflicts) locals states lists first.size b p y.size → o + x.size ≤ p
  before_own a b o p x y part state_list_kind =
      omega (
        arith,
        state_list_kind.after,
        inside_at first.size (listed_offsets first.fields) (map (λ f. (layout_of f).size) (first_list prefix field locals (promoted_of states conflicts)))
            (length prefix + 1 + rank_of (promoted_of states conflicts) a) o x.size good.apart part.offset_is part.size_is,
      )

  -- two promoted locals are two parts of the first list
  both_promoted : (a b o p : ℕ) (x y : LayoutData F V) → a ≢ b → is_member (promoted_of states conflicts) a ≡ true → is_member (promoted_of states conflicts) b ≡ true
      → IsPart (listed_offsets first.fields) (map (λ f. (layout_of f).size) (first_list prefix field locals (promoted_of states conflicts))) o x.size (length prefix + 1 + rank_of (promoted_of states conflicts) a)
      → IsPart (listed_offsets first.fields) (map (λ f. (layout_of f).size) (first_list prefix field locals (promoted_of states conflicts))) p y.size (length prefix + 1 + rank_of (promoted_of states conflicts) b)
      → (o + x.size ≤ p) ⊎ (p + y.size ≤ o)
  both_promoted a b o p x y differ here there one two =
      let promoted = promoted_of states conflicts in
      let first_rank = ranked (promoted_of states conflicts) a here in
      let second_rank = ranked (promoted_of states conflicts) b there in
      apart_at first.size (listed_offsets first.fields) (map (λ f. (layout_of f).size) (first_list prefix field locals promoted)) (length prefix + 1 + rank_of promoted a) (length prefix + 1 + rank_of promoted b) o p x.size y.size good.apart
      (λ e. let same : rank_of (promoted_of states conflicts) a ≡ rank_of (promoted_of states conflicts) b = omega (arith, e) in
      differ (one_item (members_of (promoted_of states conflicts)) (rank_of (promoted_of states conflicts) a) (rank_of (promoted_of states conflicts) b) a b same first_rank second_rank))
      one.offset_is two.offset_is one.size_is two.size_is

  -- two others in one state are two parts of its list
  both_own : (a b o p : ℕ) (x y : LayoutData F V) → a ≢ b → (one : IsOwn layout_of (promoted_of states conflicts) locals states lists first.size a o x.size) (two : IsOwn layout_of (promoted_of states conflicts) locals states lists first.size b p y.size)
      → one.i ≡ two.i → (o + x.size ≤ p) ⊎ (p + y.size ≤ o)
  both_own a b o p x y differ one two same =
      let promoted = promoted_of states conflicts in
      let state : two.state ≡ one.state = sym (one_item states one.i two.i one.state two.state same one.state_is two.state_is) in
      let list : two.list ≡ one.list = sym (one_item lists one.i two.i one.list two.list same one.list_is two.list_is) in
      let there : slice_get (own_of (promoted_of states conflicts) one.state) two.q ≡ Some b = subst (λ s. slice_get (own_of (promoted_of states conflicts) s) two.q ≡ Some b) state two.local_is in
      let offset : slice_get (listed_offsets one.list.fields) two.q ≡ Some p = subst (λ l. slice_get (listed_offsets l.fields) two.q ≡ Some p) list two.part.offset_is in
      let size : slice_get (map (λ f. (layout_of f).size) (own_list locals (promoted_of states conflicts) one.state)) two.q ≡ Some y.size
      = subst (λ s. slice_get (map (λ f. (layout_of f).size) (own_list locals (promoted_of states conflicts) s)) two.q ≡ Some y.size) state two.part.size_is in
      apart_at one.list.size (listed_offsets one.list.fields) (map (λ f. (layout_of f).size) (own_list locals promoted one.state)) one.q two.q o p x.size y.size one.apart
      (λ e. differ (one_item (own_of (promoted_of states conflicts) one.state) one.q two.q a b e one.local_is there)) one.part.offset_is offset one.part.size_is size

  -- two locals that clash, neither promoted, are in one state
  one_state : (a b o p m n : ℕ) → DoClash states conflicts a b → is_member (promoted_of states conflicts) a ≡ false → is_member (promoted_of states conflicts) b ≡ false → a < row_count conflicts → b < row_count conflicts
      → (one : IsOwn layout_of (promoted_of states conflicts) locals states lists first.size a o m) (two : IsOwn layout_of (promoted_of states conflicts) locals states lists first.size b p n) → one.i ≡ two.i
  one_state a b o p m n clash here there short long one two =
      let once = held_once states conflicts a short here in
      let twice = held_once states conflicts b long there in
      let at_a : holder_of states a ≡ one.i = holder_is states a one.i once (slice_get_within states one.i one.state one.state_is) one.holds in
      let at_b : holder_of states b ≡ two.i = holder_is states b two.i twice (slice_get_within states two.i two.state two.state_is) two.holds in
      ⊎_elim
      (λ (shared : (state : List ℕ) × Contains states state × Contains state a × Contains state b).
      let one_is : has_number (get_or states shared.1.0 []) a ≡ true = contained states shared.0 a shared.1 shared.2 in
      let two_is : has_number (get_or states shared.1.0 []) b ≡ true = contained states shared.0 b shared.1 shared.3 in
      one_holder states a one.i shared.1.0 once (slice_get_within states one.i one.state one.state_is) shared.1.1 one.holds one_is
      ∙ sym (one_holder states b two.i shared.1.0 twice (slice_get_within states two.i two.state two.state_is) shared.1.1 two.holds two_is))
      (λ (tag_distinguishes : (is_entry conflicts a b ≡ true) ⊎ (is_entry conflicts b a ≡ true)).
      ⊎_elim (λ (entry : is_entry conflicts a b ≡ true). sym at_a ∙ settled states conflicts a b square short long entry here there ∙ at_b)
      (λ (entry : is_entry conflicts b a ≡ true). sym at_a ∙ sym (settled states conflicts b a square long short entry there here) ∙ at_b) tag_distinguishes)
      clash

  -- two different locals that clash share no byte, wherever states have them
  pub clashing_apart : AreClashingApart states conflicts (map layout_of locals) (state_layouts at number (length prefix + 1) (promoted_of states conflicts) first states lists)
  clashing_apart a b o p x y differ clash here there lies too =
      let one = has_place at number (length prefix + 1) (promoted_of states conflicts) first states lists a o lies in
      let two = has_place at number (length prefix + 1) (promoted_of states conflicts) first states lists b p too in
      let short = local_within states (row_count conflicts) one.i one.place a one.state within one.state_is one.local_is in
      let long = local_within states (row_count conflicts) two.i two.place b two.state within two.state_is two.local_is in
      ⊎_elim
      (λ (is_a : is_member (promoted_of states conflicts) a ≡ true).
      ⊎_elim
      (λ (is_b : is_member (promoted_of states conflicts) b ≡ true). both_promoted a b o p x y differ is_a is_b (shared_part a o x here is_a one) (shared_part b p y there is_b two))
      (λ (not_b : is_member (promoted_of states conflicts) b ≡ false). inl (before_own a b o p x y (shared_part a o x here is_a one) (as_own b p y there not_b two)))
      (cases_Bool (is_member (promoted_of states conflicts) b)))
      (λ (not_a : is_member (promoted_of states conflicts) a ≡ false).
      ⊎_elim
      (λ (is_b : is_member (promoted_of states conflicts) b ≡ true). inr (before_own b a p o y x (shared_part b p y there is_b two) (as_own a o x here not_a one)))
      (λ (not_b : is_member (promoted_of states conflicts) b ≡ false).
      both_own a b o p x y differ (as_own a o x here not_a one) (as_own b p y there not_b two)
      (one_state a b o p x.size y.size clash not_a not_b short long (as_own a o x here not_a one) (as_own b p y there not_b two)))
      (cases_Bool (is_member (promoted_of states conflicts) b)))
      (cases_Bool (is_member (promoted_of states conflicts) a))
