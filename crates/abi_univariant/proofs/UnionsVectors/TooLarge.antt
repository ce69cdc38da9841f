-- Unions and vectors that are refused for their size, by their sizes.
use Rattle.std.proofs.Common.{◌≡◌, ℕ, ◌*◌, ◌^◌, ◌<◌, ◌≤◌, List, [], ◌∷◌, Bool, true, false, Option, None, Some, Ok, Err, inl, inr, length, map, refl, subst, sym, ap, ◌∙◌, arith}
use Rattle.std.specs.Prelude.{◌==◌, ◌⊎◌, IfErr, IfOk, Result, cond, nat_lt, if◌then◌else◌}
use Rattle.std.specs.Int.{next_multiple_of}
use Rattle.std.proofs.Math.Nat.{dvd-zero}
use Rattle.std.proofs.lemmas.Bool.Decides.{nat_tests}
use Rattle.std.proofs.lemmas.List.{length-map}
use Rattle.std.proofs.lemmas.List.Elements.{All-cons, All-head, All-nil, All-tail}
use Rattle.abi_base.specs.declared.data_layout.TargetDataLayout.{TargetDataLayout}
use Rattle.abi_base.specs.declared.scalable.NumScalableVectors.{NumScalableVectors}
use Rattle.abi_base.specs.DataLayout.{IsLawfulDataLayout, size_bound, vector_align_of}
use Rattle.abi_scalar.specs.declared.backend_repr.BackendRepr.{BackendRepr}
use Rattle.abi_scalar.specs.declared.backend_repr.BackendRepr.TheVariants.{Scalar as OneScalar, ScalarPair, SimdScalableVector, SimdVector, Memory}
use Rattle.abi_scalar.specs.declared.error.LayoutCalculatorError.{LayoutCalculatorError}
use Rattle.abi_scalar.specs.declared.error.LayoutCalculatorError.TheVariants.{EmptyUnion, OversizedSimdType, SizeOverflow, ZeroLengthSimdType}
use Rattle.abi_scalar.specs.declared.layout_data.LayoutData.{LayoutData}
use Rattle.abi_scalar.specs.declared.repr.ReprOptions.{ReprOptions}
use Rattle.abi_scalar.specs.declared.scalar.Scalar.{Scalar}
use Rattle.abi_univariant.specs.declared.simd.Lanes.{Lanes}
use Rattle.abi_univariant.specs.Fields.{greatest_size}
use Rattle.abi_univariant.specs.List.{AreSized}
use Rattle.abi_univariant.specs.Part.{is_unsized}
use Rattle.abi_univariant.specs.Simd.{AreSizedVectors, AreVectorsTooLarge, IsSizedVector, IsVectorTooLarge, MakesVector, after, element_scalar, if_below, lanes_align, lanes_answer, scalable_answer, simd_align, simd_answer, simd_view, vector_layout, vector_size, vectors_size}
use Rattle.abi_univariant.specs.Union.{IsSizedUnion, IsUnionAnswer, IsUnionTooLarge, fault_before, first_unsized, sized_fault, union_align, union_size}
use Rattle.abi_univariant.proofs.Views.Lawful.{bound_some}
use Rattle.abi_univariant.proofs.Offsets.Rounding.{rounded_to}
use Rattle.abi_univariant.proofs.UnionsVectors.VectorLemmas.{scalable_size, simd_size}

-- ---- unions

module _ {F V H : Type 0} (layout_of : H → LayoutData F V) where
  -- no field is unsized exactly where each is sized
  none_cases : (b : Bool) (h : H) (rest : Option H) → cond b (Some h) rest ≡ None → (b ≡ false) × (rest ≡ None)
  none_cases true h rest e = absurd (cc)
  none_cases false h rest e = (refl, e)

  sized_of_none : (hs : List H) → first_unsized layout_of hs ≡ None → AreSized (map layout_of hs)
  sized_of_none [] e = All-nil (λ f. is_unsized f.backend_repr ≡ false)
  sized_of_none (h ∷ hs) e =
      let parts = none_cases (is_unsized (layout_of h).backend_repr) h (first_unsized layout_of hs) e in
      All-cons (λ f. is_unsized f.backend_repr ≡ false) (layout_of h) (map layout_of hs) parts.0 (sized_of_none hs parts.1)

  none_of_sized : (hs : List H) → AreSized (map layout_of hs) → first_unsized layout_of hs ≡ None
  none_of_sized [] sized = refl
  none_of_sized (h ∷ hs) sized =
      let here : is_unsized (layout_of h).backend_repr ≡ false = All-head (λ f. is_unsized f.backend_repr ≡ false) (layout_of h) (map layout_of hs) sized in
      rw here (none_of_sized hs (All-tail (λ f. is_unsized f.backend_repr ≡ false) (layout_of h) (map layout_of hs) sized))

  -- the fault of a union's size is the last one
  last_fault : (found : Option H) (later : Option (LayoutCalculatorError H)) → fault_before found later ≡ Some SizeOverflow → (found ≡ None) × (later ≡ Some SizeOverflow)
  last_fault None later e = (refl, e)
  last_fault (Some h) later e = absurd (cc)

  size_cases : (empty below : Bool) (a b : LayoutCalculatorError H) → (a ≡ b → ⊥) → (if empty then Some a else (if below then None else Some b)) ≡ Some b → below ≡ false
  size_cases true below a b differ e = absurd (differ (cc))
  size_cases false true a b differ e = absurd (cc)
  size_cases false false a b differ e = refl

  large_size : (dl : TargetDataLayout) (repr : ReprOptions) (ls : List (LayoutData F V)) → sized_fault {H = H} dl repr ls ≡ Some SizeOverflow → size_bound dl ≤ union_size dl repr ls
  large_size dl repr ls e =
      let over : nat_lt (union_size dl repr ls) (size_bound dl) ≡ false = size_cases (length ls == 0) (nat_lt (union_size dl repr ls) (size_bound dl)) EmptyUnion SizeOverflow (λ w. cc) e in
      grind (arith, nat_tests)

  none_large : (bound size : ℕ) → 0 < bound → bound ≤ size → size ≤ 0 → ⊥
  none_large bound size some large none = omega arith

  -- a union without fields has no bytes
  size_fault : (dl : TargetDataLayout) (repr : ReprOptions) (ls : List (LayoutData F V)) → IsLawfulDataLayout dl → size_bound dl ≤ union_size dl repr ls → sized_fault {H = H} dl repr ls ≡ Some SizeOverflow
  size_fault dl repr [] law large =
      let least : 0 ≤ 0 = omega arith in
      absurd (none_large (size_bound dl) (union_size {F = F} {V = V} dl repr []) (bound_some dl law) large
      ((rounded_to 0 (union_align {F = F} {V = V} dl repr [])).least 0 (dvd-zero (2 ^ union_align {F = F} {V = V} dl repr [])) least))
  size_fault dl repr (l ∷ ls) law large =
      let some : (length (l ∷ ls) == 0) ≡ false = grind (arith, nat_tests) in
      let over : nat_lt (union_size dl repr (l ∷ ls)) (size_bound dl) ≡ false = grind (arith, nat_tests) in
      rw (some, over) refl

  union_large : (first : V) (dl : TargetDataLayout) (repr : ReprOptions) (hs : List H) (result : Result (LayoutData F V) (LayoutCalculatorError H)) → IsUnionAnswer layout_of first dl repr hs result
      → result ≡ Err SizeOverflow → IsUnionTooLarge dl repr (map layout_of hs)
  union_large first dl repr hs (Ok l) a e = absurd (cc)
  union_large first dl repr hs (Err error) a e =
      let is : error ≡ SizeOverflow = cc in
      let parts = last_fault (first_unsized layout_of hs) (sized_fault dl repr (map layout_of hs)) (a ∙ ap (λ x. Some x) is) in
      (sized_of_none hs parts.0, large_size dl repr (map layout_of hs) parts.1)

  union_refused : (first : V) (dl : TargetDataLayout) (repr : ReprOptions) (hs : List H) (result : Result (LayoutData F V) (LayoutCalculatorError H)) → IsLawfulDataLayout dl
      → IsUnionAnswer layout_of first dl repr hs result → IsUnionTooLarge dl repr (map layout_of hs) → result ≡ Err SizeOverflow
  union_refused first dl repr hs result law a large =
      let fault : fault_before (first_unsized layout_of hs) (sized_fault dl repr (map layout_of hs)) ≡ Some SizeOverflow
      = rw (none_of_sized hs large.0) (size_fault dl repr (map layout_of hs) law large.1) in
      told result a fault
    where
      told : (result : Result (LayoutData F V) (LayoutCalculatorError H)) → IsUnionAnswer layout_of first dl repr hs result
          → fault_before (first_unsized layout_of hs) (sized_fault dl repr (map layout_of hs)) ≡ Some SizeOverflow → result ≡ Err SizeOverflow
      told (Ok l) a e = let bad : None ≡ Some SizeOverflow = sym a.0 ∙ e in absurd (cc)
      told (Err error) a e = let same : Some error ≡ Some SizeOverflow = sym a ∙ e in cc

  -- a union of sized fields is refused by no other name
  size_alone : (empty below : Bool) (a b e : LayoutCalculatorError H) → empty ≡ false → (if empty then Some a else (if below then None else Some b)) ≡ Some e → e ≡ b
  size_alone true below a b e some is = absurd (cc)
  size_alone false true a b e some is = absurd (cc)
  size_alone false false a b e some is = cc

  union_no_other : (first : V) (dl : TargetDataLayout) (repr : ReprOptions) (hs : List H) (result : Result (LayoutData F V) (LayoutCalculatorError H)) → IsUnionAnswer layout_of first dl repr hs result
      → AreSized (map layout_of hs) → 0 < length hs → IfErr result (λ e. e ≡ SizeOverflow)
  union_no_other first dl repr hs (Ok l) a sized some = tt
  union_no_other first dl repr [] (Err error) a sized some = absurd (omega (arith, some))
  union_no_other first dl repr (h ∷ hs) (Err error) a sized some =
      let ls = map layout_of (h ∷ hs) in
      let fault : sized_fault {H = H} dl repr ls ≡ Some error = ap (λ found. fault_before found (sized_fault dl repr ls)) (sym (none_of_sized (h ∷ hs) sized)) ∙ a in
      let counted : (length ls == 0) ≡ false = grind (arith, nat_tests) in
      size_alone (length ls == 0) (nat_lt (union_size dl repr ls) (size_bound dl)) EmptyUnion SizeOverflow error counted fault

  pub union_sized : (first : V) (dl : TargetDataLayout) (repr : ReprOptions) (hs : List H) (result : Result (LayoutData F V) (LayoutCalculatorError H)) → IsLawfulDataLayout dl
      → IsUnionAnswer layout_of first dl repr hs result → IsSizedUnion dl repr (map layout_of hs) result
  union_sized first dl repr hs result law a =
      record {
        size = whole result a;
        too_large = union_large first dl repr hs result a;
        refused = union_refused first dl repr hs result law a;
        no_other = λ sized some. union_no_other first dl repr hs result a sized (omega (arith, some, length-map hs layout_of));
      }
    where
      whole : (result : Result (LayoutData F V) (LayoutCalculatorError H)) → IsUnionAnswer layout_of first dl repr hs result
          → IfOk result (λ l. l.size ≡ next_multiple_of (greatest_size (map layout_of hs)) (2 ^ l.align.abi))
      whole (Ok l) a = subst (λ (m : LayoutData F V). m.size ≡ next_multiple_of (greatest_size (map layout_of hs)) (2 ^ m.align.abi)) (sym a.2) refl
      whole (Err e) a = tt

-- ---- vectors

-- Vectors of lanes that take this many bytes together, where one takes that of its lanes.
module _ {F V H : Type 0} (layout_of : H → LayoutData F V) (bound : ℕ) (h : H) (count whole : ℕ) (made : Lanes → LayoutData F V)
    (sized : (scalar : Scalar) → (made (record { scalar = scalar; count = count; size = (layout_of h).size * count })).size ≡ whole) where
  abbrev pub AreTooLarge : Type 0
  AreTooLarge = MakesVector (layout_of h) count × ((bound ≤ (layout_of h).size * count) ⊎ (bound ≤ whole))

  -- the answer is a refusal for its size exactly where they are too large, and lanes that make a vector are refused by no other name
  pub record TellsSize (answer : Result (LayoutData F V) (LayoutCalculatorError H)) : Type 0 where
    pub large : answer ≡ Err SizeOverflow → AreTooLarge
    pub refused : AreTooLarge → answer ≡ Err SizeOverflow
    pub no_other : MakesVector (layout_of h) count → IfErr answer (λ e. e ≡ SizeOverflow)

  abbrev after_lanes : Result Lanes (LayoutCalculatorError H) → Result (LayoutData F V) (LayoutCalculatorError H)
  after_lanes found = after found (λ lanes. if_below bound (made lanes))

  rounded_large : (layout : LayoutData F V) (below : Bool) → MakesVector (layout_of h) count → (layout_of h).size * count < bound → layout.size ≡ whole → nat_lt layout.size bound ≡ below
      → TellsSize (if below then Ok layout else Err SizeOverflow)
  rounded_large layout true makes one size e = record {
    large = λ is. absurd (cc);
    refused = λ large. absurd (let under : layout.size < bound = grind (arith, nat_tests) in elim large.1 [
      | inl over ↦ omega (arith, over, one)
      | inr over ↦ omega (arith, over, under, size)
    ]);
    no_other = λ makes. tt;
  }
  rounded_large layout false makes one size e = record {
    large = λ is. (makes, inr (let over : bound ≤ layout.size = grind (arith, nat_tests) in omega (arith, over, size)));
    refused = λ large. refl;
    no_other = λ makes. refl;
  }

  by_size : (scalar : Scalar) (below : Bool) → MakesVector (layout_of h) count → nat_lt ((layout_of h).size * count) bound ≡ below
      → TellsSize (after_lanes (if below then Ok (record { scalar = scalar; count = count; size = (layout_of h).size * count }) else Err SizeOverflow))
  by_size scalar true makes e =
      let one : (layout_of h).size * count < bound = grind (arith, nat_tests) in
      let layout = made (record { scalar = scalar; count = count; size = (layout_of h).size * count }) in
      rounded_large layout (nat_lt layout.size bound) makes one (sized scalar) refl
  by_size scalar false makes e =
      let over : bound ≤ (layout_of h).size * count = grind (arith, nat_tests) in
      record { large = λ is. (makes, inl over); refused = λ large. refl; no_other = λ makes. refl }

  abbrev after_view : BackendRepr → Result (LayoutData F V) (LayoutCalculatorError H)
  after_view view =
      after_lanes (after (element_scalar h view) (λ scalar.
      if nat_lt ((layout_of h).size * count) bound then Ok (record { scalar = scalar; count = count; size = (layout_of h).size * count }) else Err SizeOverflow))

  no_scalar : (view : BackendRepr) (error : LayoutCalculatorError H) → (layout_of h).backend_repr ≡ view → ((scalar : Scalar) → view ≡ OneScalar scalar → ⊥) → (error ≡ SizeOverflow → ⊥) → TellsSize (Err error)
  no_scalar view error is other name = record {
    large = λ e. absurd (name (cc));
    refused = λ large. absurd (other large.0.0.0 (sym is ∙ large.0.0.1));
    no_other = λ makes. absurd (other makes.0.0 (sym is ∙ makes.0.1));
  }

  by_view : (view : BackendRepr) → (layout_of h).backend_repr ≡ view → 1 ≤ count → count ≤ 32768 → TellsSize (after_view view)
  by_view (OneScalar scalar) is some most = by_size scalar (nat_lt ((layout_of h).size * count) bound) ((scalar, is), some, most) refl
  by_view (ScalarPair a b o) is some most = no_scalar _ _ is (λ s e. cc) (λ e. cc)
  by_view (SimdScalableVector f n w) is some most = no_scalar _ _ is (λ s e. cc) (λ e. cc)
  by_view (SimdVector f n) is some most = no_scalar _ _ is (λ s e. cc) (λ e. cc)
  by_view (Memory sized) is some most = no_scalar _ _ is (λ s e. cc) (λ e. cc)

  abbrev after_count : Result ℕ (LayoutCalculatorError H) → Result (LayoutData F V) (LayoutCalculatorError H)
  after_count lanes =
      after_lanes (after lanes (λ n. after (element_scalar h (layout_of h).backend_repr) (λ scalar.
      if nat_lt ((layout_of h).size * n) bound then Ok (record { scalar = scalar; count = n; size = (layout_of h).size * n }) else Err SizeOverflow)))

  no_count : (error : LayoutCalculatorError H) → (error ≡ SizeOverflow → ⊥) → (MakesVector (layout_of h) count → ⊥) → TellsSize (Err error)
  no_count error name never = record { large = λ e. absurd (name (cc)); refused = λ large. absurd (never large.0); no_other = λ makes. absurd (never makes) }

  by_count : (many none : Bool) → nat_lt 32768 count ≡ many → (count == 0) ≡ none
      → TellsSize (after_count (if many then Err (OversizedSimdType 32768) else (if none then Err ZeroLengthSimdType else Ok count)))
  by_count true none m n = no_count _ (λ e. cc) (λ makes. let few : count ≤ 32768 = makes.2 in let over : 32768 < count = grind (arith, nat_tests) in omega (arith, few, over))
  by_count false true m n = no_count _ (λ e. cc) (λ makes. let some : 1 ≤ count = makes.1 in let zero_is : count ≡ 0 = grind (arith, nat_tests) in omega (arith, some, zero_is))
  by_count false false m n =
      let most : count ≤ 32768 = grind (arith, nat_tests) in
      let some : 1 ≤ count = grind (arith, nat_tests) in
      by_view (layout_of h).backend_repr refl some most

  pub tells_size : TellsSize (after (lanes_answer layout_of bound h count) (λ lanes. if_below bound (made lanes)))
  tells_size = by_count (nat_lt 32768 count) (count == 0) refl refl

module _ {F V H : Type 0} (layout_of : H → LayoutData F V) (first : V) (field : F) (dl : TargetDataLayout) (h : H) (count : ℕ) where
  module _ (packed : Bool) where
    fixed : TellsSize layout_of (size_bound dl) h count (vector_size dl (layout_of h) count packed)
        (λ lanes. vector_layout first field (layout_of h) (simd_view packed lanes) lanes.size (simd_align dl packed lanes) lanes.count) (λ scalar. refl)
        (simd_answer layout_of first field dl h count packed)
    fixed = tells_size layout_of (size_bound dl) h count (vector_size dl (layout_of h) count packed)
        (λ lanes. vector_layout first field (layout_of h) (simd_view packed lanes) lanes.size (simd_align dl packed lanes) lanes.count) (λ scalar. refl)

    -- where the lanes alone are too large, so is the vector
    all_large : (size_bound dl ≤ (layout_of h).size * count) ⊎ (size_bound dl ≤ vector_size dl (layout_of h) count packed) → size_bound dl ≤ vector_size dl (layout_of h) count packed
    all_large (inl over) = let up = (rounded_to ((layout_of h).size * count) (lanes_align dl packed count ((layout_of h).size * count))).above in omega (arith, up, over)
    all_large (inr over) = over

    vector_large : (result : Result (LayoutData F V) (LayoutCalculatorError H)) → result ≡ simd_answer layout_of first field dl h count packed → result ≡ Err SizeOverflow
        → IsVectorTooLarge dl (layout_of h) count packed
    vector_large result e is = let h = fixed.large (sym e ∙ is) in (h.0, all_large h.1)

    vector_refused : (result : Result (LayoutData F V) (LayoutCalculatorError H)) → result ≡ simd_answer layout_of first field dl h count packed
        → IsVectorTooLarge dl (layout_of h) count packed → result ≡ Err SizeOverflow
    vector_refused result e large = e ∙ fixed.refused (large.0, inr large.1)

    vector_no_other : (result : Result (LayoutData F V) (LayoutCalculatorError H)) → result ≡ simd_answer layout_of first field dl h count packed
        → MakesVector (layout_of h) count → IfErr result (λ e. e ≡ SizeOverflow)
    vector_no_other result e makes = subst (λ r. IfErr r (λ e. e ≡ SizeOverflow)) (sym e) (fixed.no_other makes)

    pub vector_sized : (result : Result (LayoutData F V) (LayoutCalculatorError H)) → result ≡ simd_answer layout_of first field dl h count packed
        → IsSizedVector dl (layout_of h) count packed result
    vector_sized result e = record {
      size = simd_size layout_of first field dl h count packed result e;
      too_large = vector_large result e;
      refused = vector_refused result e;
      no_other = vector_no_other result e;
    }

  module _ (vectors : NumScalableVectors) where
    scaled : TellsSize layout_of (size_bound dl) h count (vectors_size dl (layout_of h) count vectors)
        (λ lanes. vector_layout first field (layout_of h) (SimdScalableVector lanes.scalar lanes.count vectors) (lanes.size * vectors.0) (vector_align_of dl lanes.size) lanes.count) (λ scalar. refl)
        (scalable_answer layout_of first field dl h count vectors)
    scaled = tells_size layout_of (size_bound dl) h count (vectors_size dl (layout_of h) count vectors)
        (λ lanes. vector_layout first field (layout_of h) (SimdScalableVector lanes.scalar lanes.count vectors) (lanes.size * vectors.0) (vector_align_of dl lanes.size) lanes.count) (λ scalar. refl)

    vectors_large : (result : Result (LayoutData F V) (LayoutCalculatorError H)) → result ≡ scalable_answer layout_of first field dl h count vectors → result ≡ Err SizeOverflow
        → AreVectorsTooLarge dl (layout_of h) count vectors
    vectors_large result e is = scaled.large (sym e ∙ is)

    vectors_refused : (result : Result (LayoutData F V) (LayoutCalculatorError H)) → result ≡ scalable_answer layout_of first field dl h count vectors
        → AreVectorsTooLarge dl (layout_of h) count vectors → result ≡ Err SizeOverflow
    vectors_refused result e large = e ∙ scaled.refused large

    vectors_no_other : (result : Result (LayoutData F V) (LayoutCalculatorError H)) → result ≡ scalable_answer layout_of first field dl h count vectors
        → MakesVector (layout_of h) count → IfErr result (λ e. e ≡ SizeOverflow)
    vectors_no_other result e makes = subst (λ r. IfErr r (λ e. e ≡ SizeOverflow)) (sym e) (scaled.no_other makes)

    pub vectors_sized : (result : Result (LayoutData F V) (LayoutCalculatorError H)) → result ≡ scalable_answer layout_of first field dl h count vectors
        → AreSizedVectors dl (layout_of h) count vectors result
    vectors_sized result e = record {
      size = scalable_size layout_of first field dl h count vectors result e;
      too_large = vectors_large result e;
      refused = vectors_refused result e;
      no_other = vectors_no_other result e;
    }
