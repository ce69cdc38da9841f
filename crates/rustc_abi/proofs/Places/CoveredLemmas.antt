-- A type that is seen as one scalar is covered whole where a part of it is that fills it.
use Rattle.std.proofs.Common.{◌≡◌, ℕ, zero, suc, ◌-◌, ◌<◌, ◌≤◌, ⊎_elim, List, [], ◌∷◌, Bool, true, false, length, map, get_or, arith, refl, sym, ap, ◌∙◌, subst, inl, inr, All}
use Rattle.std.specs.Prelude.{◌==◌, ◌&&◌, nat_le, nat_lt, slice_index, if◌then◌else◌}
use Rattle.std.specs.Cmp.Derive.{both_true}
use Rattle.std.proofs.lemmas.Bool.{and_parts, cases_lt, eqb-true, le-leb, or_left, or_right}
use Rattle.std.proofs.lemmas.List.{get_or-map, get_or_past, length-map}
use Rattle.std.proofs.lemmas.List.Elements.{All-contains}
use Rattle.abi_base.specs.declared.data_layout.TargetDataLayout.{TargetDataLayout}
use Rattle.abi_scalar.specs.declared.backend_repr.BackendRepr.{BackendRepr}
use Rattle.abi_scalar.specs.declared.backend_repr.BackendRepr.TheVariants.{Scalar as OneScalar, ScalarPair, SimdScalableVector, SimdVector, Memory}
use Rattle.abi_scalar.specs.declared.repr.ReprOptions.{ReprOptions}
use Rattle.abi_scalar.specs.declared.scalar.Scalar.{Scalar}
use Rattle.abi_scalar.specs.declared.scalar.Scalar.TheVariants.{Union}
use Rattle.abi_scalar.specs.Lawful.{IsLawfulLayout, IsLawfulView}
use Rattle.abi_scalar.specs.Pair.{second_offset}
use Rattle.abi_scalar.specs.Scalar.{primitive_of, scalar_size}
use Rattle.abi_scalar.specs.View.{union_view}
use Rattle.abi_univariant.specs.declared.part.Part.{Part}
use Rattle.abi_univariant.specs.ListView.{any_unsized, bulky_parts, bulky_view, kept_view, list_view, pair_view, part_at, two_view}
use Rattle.abi_univariant.specs.Part.{part_of, parts_of}
use Rattle.abi_univariant.specs.Placement.{no_part}
use Rattle.abi_univariant.specs.Union.{CountsForView, HasView, IsUnionView}
use Rattle.abi_tree.specs.Placed.{Placed, layout_of, nothing, size_of}
use Rattle.abi_scalar.specs.Layout.{Layout}
use Rattle.abi_tree.specs.Places.{is_data_place, is_place_of_part}
use Rattle.abi_tree.specs.Nodes.{parts_at}

-- a type that is seen as one scalar is covered whole
abbrev pub IsCovered : Placed → Type 0
IsCovered p = (s : Scalar) → (layout_of p).backend_repr ≡ OneScalar s → (k : ℕ) → k < size_of p → is_data_place p k ≡ true

-- the view is not that of one scalar
abbrev pub IsNoScalar : BackendRepr → Type 0
IsNoScalar view = (s : Scalar) → view ≡ OneScalar s → ⊥

-- a type of this layout that is seen as one scalar has among its parts one that is seen so, and fills it from the start
abbrev pub HasOneWhole : Layout → (offsets : List ℕ) → List Placed → Type 0
HasOneWhole layout offsets ps =
    (s : Scalar) → layout.backend_repr ≡ OneScalar s →
    (i : ℕ) × (t : Scalar) × (i < length ps) × (get_or offsets i 0 ≡ 0) × (size_of (get_or ps i nothing) ≡ layout.size) × ((layout_of (get_or ps i nothing)).backend_repr ≡ OneScalar t)

-- ---- a part that fills the whole

place_at : (offsets : List ℕ) (ps : List Placed) (i k : ℕ) → length offsets ≡ length ps → i < length ps → get_or offsets i 0 ≡ 0 → is_data_place (get_or ps i nothing) k ≡ true →
    is_place_of_part (parts_at offsets ps) k ≡ true
place_at [] [] i k e lt at place = absurd (omega arith)
place_at [] (p ∷ ps) i k e lt at place = absurd (omega arith)
place_at (o ∷ offsets) [] i k e lt at place = absurd (omega arith)
place_at (o ∷ offsets) (p ∷ ps) zero k e lt at place =
    let same : k - o ≡ k = omega (arith, at) in
    or_left (nat_le o k && is_data_place p (k - o)) (is_place_of_part (parts_at offsets ps) k) (both_true (le-leb o k (omega (arith, at))) (ap (is_data_place p) same ∙ place))
place_at (o ∷ offsets) (p ∷ ps) (suc i) k e lt at place =
    or_right (nat_le o k && is_data_place p (k - o)) (is_place_of_part (parts_at offsets ps) k) (place_at offsets ps i k (omega arith) (omega arith) at place)

pub covered_parts : (layout : Layout) (offsets : List ℕ) (ps : List Placed) → length offsets ≡ length ps → HasOneWhole layout offsets ps → All IsCovered ps →
    (s : Scalar) → layout.backend_repr ≡ OneScalar s → (k : ℕ) → k < layout.size → is_place_of_part (parts_at offsets ps) k ≡ true
covered_parts layout offsets ps e one each s view k lt =
    let found = one s view in
    place_at offsets ps found.0 k e found.2 found.3 (each found.0 nothing found.2 found.1 found.5 k (omega (arith, lt, found.4)))

-- one scalar is as large as the type
pub one_size : (dl : TargetDataLayout) (layout : Layout) (s : Scalar) → IsLawfulLayout dl layout → layout.backend_repr ≡ OneScalar s → scalar_size dl s ≡ layout.size
one_size dl layout s lawful e = (subst (IsLawfulView dl layout.size) e lawful.view).1

-- ---- the view of a list

pub memory_none : (sized : Bool) → IsNoScalar (Memory sized)
memory_none sized s e = absurd (cc)

pub none_of_both : (c : Bool) (v w : BackendRepr) → IsNoScalar v → IsNoScalar w → IsNoScalar (if c then v else w)
none_of_both true v w hv hw s e = hv s e
none_of_both false v w hv hw s e = hw s e

first_chosen : (c : Bool) (v w : BackendRepr) (s : Scalar) → IsNoScalar w → (if c then v else w) ≡ OneScalar s → (c ≡ true) × (v ≡ OneScalar s)
first_chosen true v w s none e = (refl, e)
first_chosen false v w s none e = absurd (none s e)

second_chosen : (c : Bool) (v w : BackendRepr) (s : Scalar) → IsNoScalar v → (if c then v else w) ≡ OneScalar s → w ≡ OneScalar s
second_chosen true v w s none e = absurd (none s e)
second_chosen false v w s none e = e

kept_one : (fixed : Bool) (view : BackendRepr) (s : Scalar) → kept_view fixed view ≡ OneScalar s → view ≡ OneScalar s
kept_one true (OneScalar t) s e = absurd (cc)
kept_one false (OneScalar t) s e = e
kept_one true (SimdVector element count) s e = absurd (cc)
kept_one false (SimdVector element count) s e = e
kept_one fixed (ScalarPair a b offset) s e = e
kept_one fixed (SimdScalableVector element count vectors) s e = absurd (cc)
kept_one fixed (Memory sized) s e = absurd (cc)

pair_none : (c : Bool) (a b : Scalar) (offset : ℕ) → IsNoScalar (if c then ScalarPair a b offset else Memory true)
pair_none true a b offset s e = absurd (cc)
pair_none false a b offset s e = absurd (cc)

two_none : (dl : TargetDataLayout) (size align first : ℕ) (v : BackendRepr) (second : ℕ) (w : BackendRepr) → IsNoScalar (two_view dl size align first v second w)
two_none dl size align first (OneScalar a) second (OneScalar b) s e =
    none_of_both (nat_lt first second) (pair_view dl size align first a second b) (pair_view dl size align second b first a)
    (pair_none _ a b (second_offset dl a b)) (pair_none _ b a (second_offset dl b a)) s e
two_none dl size align first (OneScalar a) second (ScalarPair b c offset) s e = absurd (cc)
two_none dl size align first (OneScalar a) second (SimdScalableVector element count vectors) s e = absurd (cc)
two_none dl size align first (OneScalar a) second (SimdVector element count) s e = absurd (cc)
two_none dl size align first (OneScalar a) second (Memory sized) s e = absurd (cc)
two_none dl size align first (ScalarPair a b offset) second w s e = absurd (cc)
two_none dl size align first (SimdScalableVector element count vectors) second w s e = absurd (cc)
two_none dl size align first (SimdVector element count) second w s e = absurd (cc)
two_none dl size align first (Memory sized) second w s e = absurd (cc)

module _ (dl : TargetDataLayout) (fixed : Bool) (size align : ℕ) (parts : List Part) (offsets : List ℕ) (s : Scalar) where
  -- some part is that scalar, and fills the list
  abbrev HasPartWhole : Type 0
  HasPartWhole = (i : ℕ) × (slice_index offsets i ≡ 0) × ((part_at parts i).size ≡ size) × ((part_at parts i).view ≡ OneScalar s)

  bulky_one : (bulky : List ℕ) → bulky_view dl fixed size align parts offsets bulky ≡ OneScalar s → HasPartWhole
  bulky_one [] e = absurd (cc)
  bulky_one (i ∷ []) e =
      let part = part_at parts i in
      let o : ℕ = slice_index offsets i in
      let kept = first_chosen ((o == 0) && (align == part.align) && (size == part.size)) (kept_view fixed part.view) (Memory true) s (memory_none true) e in
      let both = and_parts ((o == 0) && (align == part.align)) (size == part.size) kept.0 in
      (i, eqb-true o 0 (and_parts (o == 0) (align == part.align) both.0).0, sym (eqb-true size part.size both.1), kept_one fixed part.view s kept.1)
  bulky_one (i ∷ j ∷ []) e = absurd (two_none dl size align (slice_index offsets i) (part_at parts i).view (slice_index offsets j) (part_at parts j).view s e)
  bulky_one (i ∷ j ∷ k ∷ more) e = absurd (cc)

  listed_one : list_view dl fixed size align parts offsets ≡ OneScalar s → HasPartWhole
  listed_one e =
      let view : BackendRepr = bulky_view dl fixed size align parts offsets (bulky_parts parts) in
      bulky_one (bulky_parts parts)
      (second_chosen (size == 0) (Memory true) view s (memory_none true)
      (second_chosen (any_unsized parts) (Memory false) (if size == 0 then Memory true else view) s (memory_none false) e))

module _ (dl : TargetDataLayout) (ps : List Placed) where
  part_is : (i : ℕ) → i < length ps → part_at (parts_of dl (map layout_of ps)) i ≡ part_of dl (layout_of (get_or ps i nothing))
  part_is i lt =
      get_or-map (λ f. part_of dl f) (map layout_of ps) i (layout_of nothing) no_part (omega (arith, lt, length-map ps layout_of))
      ∙ ap (λ l. part_of dl l) (get_or-map layout_of ps i nothing (layout_of nothing) lt)

  part_past : (i : ℕ) → length ps ≤ i → part_at (parts_of dl (map layout_of ps)) i ≡ no_part
  part_past i le = get_or_past (parts_of dl (map layout_of ps)) i no_part (omega (arith, le, length-map ps layout_of, length-map (map layout_of ps) (λ f. part_of dl f)))

  -- a list of fields
  pub list_whole : (fixed : Bool) (align : ℕ) (layout : Layout) (offsets : List ℕ) → layout.backend_repr ≡ list_view dl fixed layout.size align (parts_of dl (map layout_of ps)) offsets →
      HasOneWhole layout offsets ps
  list_whole fixed align layout offsets is s view =
      let found = listed_one dl fixed layout.size align (parts_of dl (map layout_of ps)) offsets s (sym is ∙ view) in
      let i : ℕ = found.0 in
      ⊎_elim
      (λ (lt : i < length ps).
      let same = sym (part_is i lt) in
      (i, s, lt, found.1, ap (λ (q : Part). q.size) same ∙ found.2, ap (λ (q : Part). q.view) same ∙ found.3))
      (λ (le : length ps ≤ i). absurd (memory_none true s (ap (λ (q : Part). q.view) (sym (part_past i le)) ∙ found.3)))
      (cases_lt i (length ps))

-- ---- the view of a union

union_one : (view : BackendRepr) (s : Scalar) → union_view view ≡ OneScalar s → (t : Scalar) × (view ≡ OneScalar t) × (Union (primitive_of t) ≡ s)
union_one (OneScalar t) s e = (t, refl, cc)
union_one (ScalarPair a b offset) s e = absurd (cc)
union_one (SimdScalableVector element count vectors) s e = absurd (cc)
union_one (SimdVector element count) s e = absurd (cc)
union_one (Memory sized) s e = absurd (cc)

pub union_whole : (dl : TargetDataLayout) (repr : ReprOptions) (ps : List Placed) (layout : Layout) → IsLawfulLayout dl layout → All (λ p. IsLawfulLayout dl (layout_of p)) ps →
    IsUnionView dl repr (map layout_of ps) layout.backend_repr → HasOneWhole layout (map (λ p. 0) ps) ps
union_whole dl repr ps layout lawful each (inr memory) s view = absurd (memory_none true s (sym memory.0 ∙ view))
union_whole dl repr ps layout lawful each (inl kept) s view =
    let ls : List Layout = map layout_of ps in
    let field = kept.common.1.some in
    let has = All-contains (λ l. CountsForView l → HasView layout.backend_repr kept.common.0 l) ls field.0 kept.common.1.all field.1 field.2 in
    let i : ℕ = field.1.0 in
    let lt : i < length ps = omega (arith, field.1.1, length-map ps layout_of) in
    let p : Placed = get_or ps i nothing in
    let same : layout_of p ≡ field.0 = sym (get_or-map layout_of ps i nothing field.0 lt) ∙ field.1.2 in
    let own = union_one field.0.backend_repr s (has.0 ∙ view) in
    let seen : (layout_of p).backend_repr ≡ OneScalar own.0 = ap (λ (l : Layout). l.backend_repr) same ∙ own.1 in
    let size : size_of p ≡ layout.size =
    sym (one_size dl (layout_of p) own.0 (each i nothing lt) seen) ∙ ap (scalar_size dl) own.2 ∙ one_size dl layout s lawful view in
    (i, own.0, lt, get_or-map (λ p. 0) ps i nothing 0 lt, size, seen)
