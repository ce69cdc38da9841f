-- The calculator's answers to unions and vectors, whatever lends the layouts.
use Rattle.std.proofs.Common.{◌≡◌, ◌≢◌, ℕ, ◌*◌, ◌^◌, ◌≤◌, List, [], ◌∷◌, Option, Some, None, Bool, true, false, map, length, refl, sym, ap, ◌∙◌, subst, inr, arith, Result, Ok, Err}
use Rattle.std.specs.Prelude.{nat_lt, ◌==◌, if◌then◌else◌}
use Rattle.std.specs.Int.{next_multiple_of}
use Rattle.std.proofs.lemmas.Bool.{eqb-false}
use Rattle.std.proofs.lemmas.List.{map-id}
use Rattle.abi_base.specs.declared.data_layout.TargetDataLayout.{TargetDataLayout}
use Rattle.abi_base.specs.DataLayout.{size_bound}
use Rattle.abi_scalar.specs.declared.backend_repr.BackendRepr.{BackendRepr}
use Rattle.abi_scalar.specs.declared.backend_repr.BackendRepr.TheVariants.{Scalar as OneScalar, ScalarPair, SimdScalableVector, SimdVector, Memory}
use Rattle.abi_scalar.specs.declared.scalar.Scalar.{Scalar}
use Rattle.abi_scalar.specs.declared.repr.ReprOptions.{ReprOptions}
use Rattle.abi_scalar.specs.declared.error.LayoutCalculatorError.{LayoutCalculatorError}
use Rattle.abi_scalar.specs.declared.error.LayoutCalculatorError.TheVariants.{SizeOverflow, EmptyUnion, ZeroLengthSimdType, OversizedSimdType}
use Rattle.abi_scalar.specs.declared.fields_shape.FieldsShape.TheVariants.{Arbitrary}
use Rattle.abi_scalar.specs.declared.variants.Variants.TheVariants.{Single}
use Rattle.abi_scalar.specs.LaneCount.{lane_count}
use Rattle.abi_univariant.specs.Part.{is_unsized}
use Rattle.abi_univariant.specs.Simd.{after, element_scalar, lanes_answer, vector_layout, is_tight, simd_view, simd_align, simd_answer}
use Rattle.abi_univariant.specs.Union.{IsUnionAnswer, IsUnionView, first_unsized, sized_fault, fault_before, union_fault, union_layout, union_size}
use Rattle.rustc_abi.specs.declared.error.LayError.{LayError}
use Rattle.abi_scalar.specs.Layout.{Layout}
use Rattle.rustc_abi.specs.Error.{lay_error, named, IsRefused}
use Rattle.rustc_abi.specs.Adding.{IsRefusal}
use Rattle.abi_tree.specs.Faithful.{IsTrueOf}
use Rattle.rustc_abi.specs.Laying.{IsUnited}

-- ---- unions

-- a fault by its name
abbrev fault_name : {H : Type 0} → Option (LayoutCalculatorError H) → Option LayError
fault_name None = None
fault_name (Some e) = Some (lay_error e)

name-none : {H : Type 0} (fault : Option (LayoutCalculatorError H)) → fault_name fault ≡ None → fault ≡ None
name-none None e = refl
name-none (Some f) e = absurd (cc)

name-some : {H : Type 0} (fault : Option (LayoutCalculatorError H)) (e : LayError) → fault_name fault ≡ Some e → (error : LayoutCalculatorError H) × (fault ≡ Some error) × (e ≡ lay_error error)
name-some None e h = absurd (cc)
name-some (Some f) e h = (f, refl, cc)

module _ {H : Type 0} (f : H → Layout) (dl : TargetDataLayout) (repr : ReprOptions) where
  sized_by : (ls : List Layout) (none fits : Bool) →
      fault_name {H = H} (if none then Some EmptyUnion else (if fits then None else Some SizeOverflow))
      ≡ fault_name {H = Layout} (if none then Some EmptyUnion else (if fits then None else Some SizeOverflow))
  sized_by ls true fits = refl
  sized_by ls false true = refl
  sized_by ls false false = refl

  unsized_by : (t : Bool) (h : H) (rest : Option H) (other : Option Layout) (later : Option (LayoutCalculatorError H)) (after : Option (LayoutCalculatorError Layout)) →
      fault_name (fault_before rest later) ≡ fault_name (fault_before other after) →
      fault_name (fault_before (if t then Some h else rest) later) ≡ fault_name (fault_before (if t then Some (f h) else other) after)
  unsized_by true h rest other later after same = refl
  unsized_by false h rest other later after same = same

  unsized_same : (hs : List H) (later : Option (LayoutCalculatorError H)) (after : Option (LayoutCalculatorError Layout)) → fault_name later ≡ fault_name after →
      fault_name (fault_before (first_unsized f hs) later) ≡ fault_name (fault_before (first_unsized (λ l. l) (map f hs)) after)
  unsized_same [] later after same = same
  unsized_same (h ∷ hs) later after same =
      unsized_by (is_unsized (f h).backend_repr) h (first_unsized f hs) (first_unsized (λ l. l) (map f hs)) later after (unsized_same hs later after same)

  -- the fault is that of the layouts
  fault_same : (hs : List H) → fault_name (union_fault f dl repr hs) ≡ fault_name (union_fault (λ l. l) dl repr (map f hs))
  fault_same hs =
      unsized_same hs (sized_fault {H = H} dl repr (map f hs)) (sized_fault {H = Layout} dl repr (map f hs))
      (sized_by (map f hs) (length (map f hs) == 0) (nat_lt (union_size dl repr (map f hs)) (size_bound dl)))
      ∙ ap (λ ls. fault_name (fault_before (first_unsized (λ l. l) (map f hs)) (sized_fault {H = Layout} dl repr ls))) (sym (map-id (map f hs)))

  -- it is the answer to the union of the layouts
  pub united_ok : (hs : List H) (layouts : List Layout) (made : Layout) → map f hs ≡ layouts → IsUnionAnswer f 0 dl repr hs (Ok made) → IsUnited dl repr layouts (Ok made)
  united_ok hs layouts made same h =
      let none = name-none (union_fault (λ l. l) dl repr (map f hs)) (sym (fault_same hs) ∙ ap fault_name h.0) in
      let whole : map f hs ≡ map (λ l. l) (map f hs) = sym (map-id (map f hs)) in
      subst (λ ls. IsUnited dl repr ls (Ok made)) same (
        none,
        subst (λ ls. IsUnionView dl repr ls made.backend_repr) whole h.1,
        subst (λ ls. made ≡ union_layout 0 dl repr ls made.backend_repr) whole h.2,
      )

  pub united_err : (hs : List H) (layouts : List Layout) (e : LayoutCalculatorError H) → map f hs ≡ layouts → IsUnionAnswer f 0 dl repr hs (Err e) → IsRefused (IsUnited dl repr layouts) (lay_error e)
  united_err hs layouts e same h =
      let found = name-some (union_fault (λ l. l) dl repr (map f hs)) (lay_error e) (sym (fault_same hs) ∙ ap fault_name h) in
      subst (λ ls. IsRefused (IsUnited dl repr ls) (lay_error e)) same (inr (found.0, found.1, found.2))

-- a union's layout
pub united_layout : (dl : TargetDataLayout) (repr : ReprOptions) (ls : List Layout) (made : Layout) → IsUnited dl repr ls (Ok made) →
    IsUnionView dl repr ls made.backend_repr × (made ≡ union_layout 0 dl repr ls made.backend_repr)
united_layout dl repr ls made h = (
  subst (λ ls. IsUnionView dl repr ls made.backend_repr) (map-id ls) h.1,
  subst (λ ls. made ≡ union_layout 0 dl repr ls made.backend_repr) (map-id ls) h.2,
)

-- ---- vectors

pub named-ok : {A H : Type 0} (r : Result A (LayoutCalculatorError H)) (x : A) → named r ≡ Ok x → r ≡ Ok x
named-ok (Ok a) x e = let same : a ≡ x = cc in ap Ok same
named-ok (Err error) x e = absurd (cc)

after_same : {A B H K : Type 0} (a : Result A (LayoutCalculatorError H)) (b : Result A (LayoutCalculatorError K)) (next : A → Result B (LayoutCalculatorError H)) (later : A → Result B (LayoutCalculatorError K)) →
    named a ≡ named b → ((x : A) → named (next x) ≡ named (later x)) → named (after a next) ≡ named (after b later)
after_same (Ok x) (Ok y) next later e h = let same : x ≡ y = cc in h x ∙ ap (λ z. named (later z)) same
after_same (Ok x) (Err g) next later e h = absurd (cc)
after_same (Err f) (Ok y) next later e h = absurd (cc)
after_same (Err f) (Err g) next later e h = let same : lay_error f ≡ lay_error g = cc in ap Err same

choice_same : (H K : Type 0) {A : Type 0} (t : Bool) (x : A) →
    named {H = H} (if t then Ok x else Err SizeOverflow) ≡ named {H = K} (if t then Ok x else Err SizeOverflow)
choice_same H K true x = refl
choice_same H K false x = refl

lanes_by : (H K : Type 0) (many none : Bool) (count : ℕ) →
    named {H = H} (if many then Err (OversizedSimdType 32768) else (if none then Err ZeroLengthSimdType else Ok count))
    ≡ named {H = K} (if many then Err (OversizedSimdType 32768) else (if none then Err ZeroLengthSimdType else Ok count))
lanes_by H K true none count = refl
lanes_by H K false true count = refl
lanes_by H K false false count = refl

element_same : {H K : Type 0} (h : H) (k : K) (view : BackendRepr) → named (element_scalar h view) ≡ named (element_scalar k view)
element_same h k (OneScalar s) = refl
element_same h k (ScalarPair a b offset) = refl
element_same h k (SimdScalableVector e count vectors) = refl
element_same h k (SimdVector e count) = refl
element_same h k (Memory sized) = refl

-- the answer is that to the layout
pub simd_same : {H : Type 0} (f : H → Layout) (dl : TargetDataLayout) (h : H) (count : ℕ) (packed : Bool) →
    named (simd_answer f 0 0 dl h count packed) ≡ named (simd_answer (λ l. l) 0 0 dl (f h) count packed)
simd_same {H} f dl h count packed =
    after_same (lanes_answer f (size_bound dl) h count) (lanes_answer (λ l. l) (size_bound dl) (f h) count) _ _
    (after_same (lane_count {F = H} count) (lane_count {F = Layout} count) _ _ (lanes_by H Layout (nat_lt 32768 count) (count == 0) count)
    (λ n. after_same (element_scalar h (f h).backend_repr) (element_scalar (f h) (f h).backend_repr) _ _ (element_same h (f h) (f h).backend_repr)
    (λ s. choice_same H Layout (nat_lt ((f h).size * n) (size_bound dl)) (record { scalar = s; count = n; size = (f h).size * n }))))
    (λ lanes.
    let made = vector_layout 0 0 (f h) (simd_view packed lanes) lanes.size (simd_align dl packed lanes) lanes.count in
    choice_same H Layout (nat_lt made.size (size_bound dl)) made)

pub after_ok : {A B E : Type 0} (a : Result A E) (next : A → Result B E) (y : B) → after a next ≡ Ok y → (x : A) × (a ≡ Ok x) × (next x ≡ Ok y)
after_ok (Ok x) next y e = (x, refl, e)
after_ok (Err f) next y e = absurd (cc)

pub chosen_ok : {A E : Type 0} (t : Bool) (x y : A) (error : E) → (if t then Ok x else Err error) ≡ Ok y → (t ≡ true) × (x ≡ y)
chosen_ok true x y error e = (refl, cc)
chosen_ok false x y error e = absurd (cc)

-- so many lanes, or why not, by both tests
abbrev lanes_if : (H : Type 0) (many none : Bool) → ℕ → Result ℕ (LayoutCalculatorError H)
lanes_if H many none count = if many then Err (OversizedSimdType 32768) else (if none then Err ZeroLengthSimdType else Ok count)

lane_count_by : (H : Type 0) (many none : Bool) (count n : ℕ) → (none ≡ false → count ≢ 0) → lanes_if H many none count ≡ Ok n → (n ≡ count) × (1 ≤ n)
lane_count_by H true none count n some e = absurd (cc)
lane_count_by H false true count n some e = absurd (cc)
lane_count_by H false false count n some e = let same : count ≡ n = cc in let positive = some refl in (sym same, omega arith)

-- What a vector with a layout is: it has a lane, its lanes have a size below the bound and lie inside it, it has the element's
-- niche, is never flagged, and its view says nothing of numbers.
pub record IsVectorOf (dl : TargetDataLayout) (element : Layout) (count : ℕ) (layout : Layout) : Type 0 where
  pub some : 1 ≤ count
  pub below : nat_lt (element.size * count) (size_bound dl) ≡ true
  pub inside : element.size * count ≤ layout.size
  pub niche : layout.largest_niche ≡ element.largest_niche
  pub inhabited : layout.uninhabited ≡ false
  pub view : (b : List ℕ) → IsTrueOf dl layout.backend_repr b
  pub places : layout.fields ≡ Arbitrary (0 ∷ []) (0 ∷ [])
  pub alone : layout.variants ≡ Single 0

view_by : (dl : TargetDataLayout) (tight : Bool) (s : Scalar) (n : ℕ) (b : List ℕ) → IsTrueOf dl (if tight then Memory true else SimdVector s n) b
view_by dl true s n b = tt
view_by dl false s n b = tt

pub vector_made : (dl : TargetDataLayout) (element : Layout) (count : ℕ) (packed : Bool) (layout : Layout) →
    named (simd_answer (λ l. l) 0 0 dl element count packed) ≡ Ok layout → IsVectorOf dl element count layout
vector_made dl element count packed layout e =
    let whole = after_ok (lanes_answer (λ l. l) (size_bound dl) element count) _ layout (named-ok _ layout e) in
    let lanes = whole.0 in
    let counted = after_ok (lane_count {F = Layout} count) _ lanes whole.1 in
    let n : ℕ = counted.0 in
    let number = lane_count_by Layout (nat_lt 32768 count) (count == 0) count n (λ isnt. eqb-false count 0 isnt) counted.1 in
    let found = after_ok (element_scalar element element.backend_repr) _ lanes counted.2 in
    let small = chosen_ok (nat_lt (element.size * n) (size_bound dl)) _ lanes SizeOverflow found.2 in
    let last = chosen_ok (nat_lt (next_multiple_of lanes.size (2 ^ simd_align dl packed lanes)) (size_bound dl))
    (vector_layout 0 0 element (simd_view packed lanes) lanes.size (simd_align dl packed lanes) lanes.count) layout SizeOverflow whole.2 in
    let size : lanes.size ≡ element.size * count = sym (ap (λ l. l.size) small.1) ∙ ap (λ n. element.size * n) number.0 in
    let rounded : next_multiple_of lanes.size (2 ^ simd_align dl packed lanes) ≡ layout.size = ap (λ l. l.size) last.1 in
    record {
      places = sym (ap (λ l. l.fields) last.1);
      alone = sym (ap (λ l. l.variants) last.1);
      some = omega (arith, number.0, number.1);
      below = subst (λ n. nat_lt (element.size * n) (size_bound dl) ≡ true) number.0 small.0;
      inside = omega (arith, size, rounded);
      niche = sym (ap (λ l. l.largest_niche) last.1);
      inhabited = sym (ap (λ l. l.uninhabited) last.1);
      view = λ b. subst (λ v. IsTrueOf dl v b) (ap (λ l. l.backend_repr) last.1) (view_by dl (is_tight packed lanes.count) lanes.scalar lanes.count b);
    }

-- memory aside, it is the answer to the layout
pub simd_ok : {H : Type 0} (f : H → Layout) (dl : TargetDataLayout) (h : H) (l : Layout) (count : ℕ) (packed : Bool) (made : Layout) → f h ≡ l →
    Ok made ≡ simd_answer f 0 0 dl h count packed → named (simd_answer (λ l. l) 0 0 dl l count packed) ≡ Ok made
simd_ok f dl h l count packed made is e =
    subst (λ l. named (simd_answer (λ l. l) 0 0 dl l count packed) ≡ Ok made) is (sym (simd_same f dl h count packed) ∙ ap named (sym e))

pub simd_err : {H : Type 0} (f : H → Layout) (dl : TargetDataLayout) (h : H) (l : Layout) (count : ℕ) (packed : Bool) (error : LayoutCalculatorError H) → f h ≡ l →
    Err error ≡ simd_answer f 0 0 dl h count packed → IsRefusal (named (simd_answer (λ l. l) 0 0 dl l count packed)) (lay_error error)
simd_err f dl h l count packed error is e =
    inr (subst (λ l. named (simd_answer (λ l. l) 0 0 dl l count packed) ≡ Err (lay_error error)) is (sym (simd_same f dl h count packed) ∙ ap named (sym e)))
