-- The one field of a type that has bytes.
use Rattle.std.proofs.Common.{⊎_elim, ◌≡◌, ℕ, zero, suc, ◌+◌, ◌-◌, ◌<◌, ◌≤◌, ◌==◌, ◌&&◌, ◌++◌, not, cond, Bool, true, false, IsTrue, List, [], ◌∷◌, Option, None, Some, refl, ap, subst, sym, ◌∙◌, arith}
use Rattle.std.specs.Prelude.{◌↔◌, filter, IfSome, length}
use Rattle.std.specs.List.{range_with_len}
use Rattle.std.proofs.lemmas.List.{append-nil}
use Rattle.std.proofs.lemmas.Option.{none-some}
use Rattle.std.proofs.lemmas.Bool.{false≢true, and_from, and_parts, cases_lt, eq-eqb, eqb-true}
use Rattle.abi_scalar.specs.declared.backend_repr.BackendRepr.{BackendRepr}
use Rattle.abi_scalar.specs.declared.backend_repr.BackendRepr.TheVariants.{Scalar as OneScalar, ScalarPair, SimdScalableVector, SimdVector, Memory}
use Rattle.abi_scalar.specs.declared.fields_shape.FieldsShape.{FieldsShape}
use Rattle.abi_scalar.specs.declared.fields_shape.FieldsShape.TheVariants.{Primitive, Union, Array, Arbitrary}
use Rattle.abi_scalar.specs.Shape.{field_count}
use Rattle.abi_scalar.specs.Layout.{IsZst, Is1zst, Layout}
use Rattle.abi_scalar.specs.View.{IsSizedView}
use Rattle.abi_types.specs.declared.ty.one_field.NoBytes.{NoBytes}
use Rattle.abi_types.specs.Ty.Typed.{Typed, typed, no_type, field_in, layout_in}
use Rattle.abi_types.specs.Ty.Lawful.{CanBeNamed, IsWellFormedType}
use Rattle.abi_types.specs.Ty.NoBytes.{has_no_bytes}
use Rattle.abi_types.specs.Ty.Walks.{is_sized, is_sized_memory, is_zst, is_1zst, only_field, only_item}

-- tests that hold of the same are one
same_test : (b c : Bool) → (b ≡ true → c ≡ true) → (c ≡ true → b ≡ true) → b ≡ c
same_test true c to from = sym (to refl)
same_test false true to from = from refl
same_test false false to from = refl

sized_memory_view : (v : BackendRepr) → is_sized_memory v ≡ true → v ≡ Memory true
sized_memory_view (Memory true) e = refl
sized_memory_view (Memory false) e = absurd (false≢true e)
sized_memory_view (OneScalar s) e = absurd (false≢true e)
sized_memory_view (ScalarPair a b o) e = absurd (false≢true e)
sized_memory_view (SimdScalableVector s c n) e = absurd (false≢true e)
sized_memory_view (SimdVector s c) e = absurd (false≢true e)

sized_view : (v : BackendRepr) → is_sized v ≡ true → IsSizedView v
sized_view (Memory sized) e = e
sized_view (OneScalar s) e = tt
sized_view (ScalarPair a b o) e = tt
sized_view (SimdScalableVector s c n) e = tt
sized_view (SimdVector s c) e = tt

view_sized : (v : BackendRepr) → IsSizedView v → is_sized v ≡ true
view_sized (Memory sized) e = e
view_sized _ e = refl

-- a layout of no bytes passes the test
pub zst_decided : (l : Layout) (b : Bool) → IsTrue b ↔ IsZst l → b ≡ is_zst l
zst_decided l b d = same_test b (is_zst l)
    (λ e. let z : IsZst l = d.0 e in and_from (is_sized_memory l.backend_repr) (l.size == 0) (ap is_sized_memory z.0) (eq-eqb l.size 0 z.1))
    (λ e. let z : (is_sized_memory l.backend_repr ≡ true) × ((l.size == 0) ≡ true) = and_parts (is_sized_memory l.backend_repr) (l.size == 0) e in
    d.1 (sized_memory_view l.backend_repr z.0, eqb-true l.size 0 z.1))

-- and so does one that is aligned to one byte as well
pub zst1_decided : (l : Layout) (b : Bool) → IsTrue b ↔ Is1zst l → b ≡ is_1zst l
zst1_decided l b d =
    let sized : Bool = is_sized l.backend_repr in
    let empty : Bool = l.size == 0 in
    let least : Bool = l.align.abi == 0 in
    same_test b (is_1zst l)
    (λ e. let z : Is1zst l = d.0 e in
    and_from (sized && empty) least (and_from sized empty (view_sized l.backend_repr z.0) (eq-eqb l.size 0 z.1)) (eq-eqb l.align.abi 0 z.2))
    (λ e. let z : ((sized && empty) ≡ true) × (least ≡ true) = and_parts (sized && empty) least e in
    let y : (sized ≡ true) × (empty ≡ true) = and_parts sized empty z.0 in
    d.1 (sized_view l.backend_repr y.0, eqb-true l.size 0 y.1, eqb-true l.align.abi 0 z.1))

-- the numbers from i on below n that pass the test
abbrev pub kept : (ℕ → Bool) → (i n : ℕ) → List ℕ
kept p i n = filter p (range_with_len i (n - i))

-- what has been found so far
abbrev seen : Option ℕ → List ℕ
seen None = []
seen (Some i) = i ∷ []

kept_as : (p : ℕ → Bool) (i m : ℕ) (b : Bool) → p i ≡ b → filter p (range_with_len i (suc m)) ≡ cond b (i ∷ filter p (range_with_len (i + 1) m)) (filter p (range_with_len (i + 1) m))
kept_as p i m b e = ap (λ c. cond c (i ∷ filter p (range_with_len (i + 1) m)) (filter p (range_with_len (i + 1) m))) e

kept_next : (p : ℕ → Bool) (i n : ℕ) (b : Bool) → i < n → p i ≡ b → kept p i n ≡ cond b (i ∷ kept p (i + 1) n) (kept p (i + 1) n)
kept_next p i n b lt e =
    let len : n - i ≡ suc (n - (i + 1)) = omega (arith, lt) in
    ap (λ m. filter p (range_with_len i m)) len ∙ kept_as p i (n - (i + 1)) b e

-- the next number is kept
pub taken : (p : ℕ → Bool) (i n : ℕ) → i < n → p i ≡ true → kept p i n ≡ i ∷ kept p (i + 1) n
taken p i n lt e = kept_next p i n true lt e

-- the next number is not kept
pub passed : (p : ℕ → Bool) (i n : ℕ) → i < n → p i ≡ false → kept p i n ≡ kept p (i + 1) n
passed p i n lt e = kept_next p i n false lt e

-- none is left
pub ended : (p : ℕ → Bool) (n : ℕ) → kept p n n ≡ []
ended p n = ap (λ m. filter p (range_with_len n m)) (let e : n - n ≡ 0 = omega arith in e)

-- of the list that holds what has been found
only_seen : (found : Option ℕ) → only_item (seen found) ≡ found
only_seen None = refl
only_seen (Some i) = refl

-- the field at an index isn't of no bytes
abbrev has_bytes : NoBytes → Typed → (index : ℕ) → Bool
has_bytes kind t i = not (has_no_bytes kind (layout_in (field_in t i)))

abbrev count_of : Typed → ℕ
count_of t = field_count (layout_in t).fields

-- all fields that have bytes are those found and those still to come
abbrev pub IsFound : NoBytes → Typed → Option ℕ → (i : ℕ) → Type 0
IsFound kind t found i = filter (has_bytes kind t) (range_with_len 0 (count_of t)) ≡ seen found ++ kept (has_bytes kind t) i (count_of t)

pub none_found : (kind : NoBytes) (t : Typed) → IsFound kind t None 0
none_found kind t = ap (λ m. filter (has_bytes kind t) (range_with_len 0 m)) (let e : count_of t ≡ count_of t - 0 = omega arith in e)

-- a first one is found
pub first_found : (kind : NoBytes) (t : Typed) (i : ℕ) → IsFound kind t None i → i < count_of t → has_bytes kind t i ≡ true → IsFound kind t (Some i) (i + 1)
first_found kind t i same lt has = same ∙ taken (has_bytes kind t) i (count_of t) lt has

-- a field is passed over
pub passed_over : (kind : NoBytes) (t : Typed) (found : Option ℕ) (i : ℕ) → IsFound kind t found i → i < count_of t → has_bytes kind t i ≡ false → IsFound kind t found (i + 1)
passed_over kind t found i same lt has = same ∙ ap (λ xs. seen found ++ xs) (passed (has_bytes kind t) i (count_of t) lt has)

-- a second one is found
pub second_found : (kind : NoBytes) (t : Typed) (j i : ℕ) → IsFound kind t (Some j) i → i < count_of t → has_bytes kind t i ≡ true
    → only_field (has_no_bytes kind) (layout_in t) (field_in t) ≡ None
second_found kind t j i same lt has = ap only_item (same ∙ ap (λ xs. j ∷ xs) (taken (has_bytes kind t) i (count_of t) lt has))

-- all fields are known
pub all_found : (kind : NoBytes) (t : Typed) (found : Option ℕ) (i : ℕ) → IsFound kind t found i → i ≡ count_of t → only_field (has_no_bytes kind) (layout_in t) (field_in t) ≡ found
all_found kind t found i same e =
    ap only_item (same ∙ ap (λ n. seen found ++ kept (has_bytes kind t) n (count_of t)) e ∙ ap (λ xs. seen found ++ xs) (ended (has_bytes kind t) (count_of t)) ∙ append-nil (seen found))
    ∙ only_seen found

-- ---- elements of an array

none_pass : (p : ℕ → Bool) (i m : ℕ) → ((k : ℕ) → k < i + m → p k ≡ false) → filter p (range_with_len i m) ≡ []
none_pass p i zero h = refl
none_pass p i (suc m) h = kept_as p i m false (h i (omega arith)) ∙ none_pass p (i + 1) m (λ k lt. h k (omega (arith, lt)))

alike : (p : ℕ → Bool) (n : ℕ) (b : Bool) → p 0 ≡ b → 1 < n → ((k : ℕ) → k < n → p k ≡ p 0) → only_item (filter p (range_with_len 0 n)) ≡ None
alike p n false e two h = ap only_item (none_pass p 0 n (λ k lt. h k (omega (arith, lt)) ∙ e))
alike p n true e two h =
    ap (λ m. only_item (filter p (range_with_len 0 m))) (let e : n ≡ n - 0 = omega arith in e)
    ∙ ap only_item (taken p 0 n (omega (arith, two)) e ∙ ap (λ xs. 0 ∷ xs) (taken p 1 n two (h 1 two ∙ e)))

alike_in : (kind : NoBytes) (l : Layout) (field : ℕ → Typed) (stride count : ℕ) → l.fields ≡ Array stride count → 1 < count → CanBeNamed l.fields field
    → only_field (has_no_bytes kind) l field ≡ None
alike_in kind l field stride count e two named =
    let all : CanBeNamed (Array stride count) field = subst (λ s. CanBeNamed s field) e named in
    let p : ℕ → Bool = λ i. not (has_no_bytes kind (layout_in (field i))) in
    ap (λ s. only_item (filter p (range_with_len 0 (field_count s)))) e
    ∙ alike p count (p 0) refl two (λ k lt. ap (λ t. not (has_no_bytes kind (layout_in t))) (all.0 k lt))

-- of two elements or more none is the only one that has bytes
pub of_elements : (kind : NoBytes) (t : Typed) (stride count : ℕ) → IsWellFormedType t → (layout_in t).fields ≡ Array stride count → 1 < count
    → only_field (has_no_bytes kind) (layout_in t) (field_in t) ≡ None
of_elements kind (typed l marks field variant) stride count law e two = alike_in kind l field stride count e two law.0.named
of_elements kind no_type stride count law e two = absurd law

-- ---- the index of a field

-- what was found is below the next index
pub found_below : (found : Option ℕ) (i : ℕ) → IfSome found (λ j. j < i) → IfSome found (λ j. j < i + 1)
found_below None i h = tt
found_below (Some j) i h = omega (arith, h)

pub still_below : (found : Option ℕ) (i n : ℕ) → i ≡ n → IfSome found (λ j. j < i) → IfSome found (λ j. j < n)
still_below found i n e h = subst (λ m. IfSome found (λ j. j < m)) e h

named_below : (kind : NoBytes) (l : Layout) (field : ℕ → Typed) (i : ℕ) → CanBeNamed l.fields field → only_field (has_no_bytes kind) l field ≡ Some i → i < field_count l.fields → (s : FieldsShape ℕ) → l.fields ≡ s → i ≤ 0xFFFF_FF00
named_below kind l field i named found lt Primitive e = let n : field_count l.fields ≡ 0 = ap field_count e in omega (arith, lt, n)
named_below kind l field i named found lt (Union count) e =
    let most : count ≤ 0xFFFF_FF01 = subst (λ s. CanBeNamed s field) e named in
    let n : field_count l.fields ≡ count = ap field_count e in omega (arith, lt, n, most)
named_below kind l field i named found lt (Arbitrary offsets order) e =
    let most : length offsets ≤ 0xFFFF_FF01 = subst (λ s. CanBeNamed s field) e named in
    let n : field_count l.fields ≡ length offsets = ap field_count e in omega (arith, lt, n, most)
named_below kind l field i named found lt (Array stride count) e =
    let n : field_count l.fields ≡ count = ap field_count e in
    ⊎_elim
    (λ two. absurd (none-some i (sym (alike_in kind l field stride count e two named) ∙ found)))
    (λ one. omega (arith, lt, n, one))
    (cases_lt 1 count)

-- the index of a field that is found names it
pub can_be_named : (kind : NoBytes) (t : Typed) (i : ℕ) → IsWellFormedType t → only_field (has_no_bytes kind) (layout_in t) (field_in t) ≡ Some i → i < count_of t → i ≤ 0xFFFF_FF00
can_be_named kind (typed l marks field variant) i law found lt = named_below kind l field i law.0.named found lt l.fields refl
can_be_named kind no_type i law found lt = absurd law

-- what the walk's proof goes by
pub ruleset one_field_steps = (none_found, first_found, passed_over, second_found, all_found, of_elements, found_below, still_below)
