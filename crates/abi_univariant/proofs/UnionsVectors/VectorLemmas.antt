-- Vectors: how large and how aligned they are, and that their layouts are lawful.
use Rattle.std.proofs.Common.{◌≡◌, ℕ, ◌*◌, ◌^◌, ◌<◌, ◌≤◌, List, [], ◌∷◌, ◌++◌, Option, None, Some, Ok, Err, Bool, true, false, map, refl, sym, subst, ap, ◌∙◌, arith, ⊎_elim}
use Rattle.std.specs.Prelude.{◌==◌, All, IfOk, IfSome, Result, nat_lt, if◌then◌else◌}
use Rattle.std.specs.Int.{◌∣◌, next_multiple_of}
use Rattle.std.proofs.lemmas.Bool.{cases_lt}
use Rattle.std.proofs.lemmas.Nat.{pow_below}
use Rattle.std.proofs.lemmas.Bool.Decides.{nat_tests}
use Rattle.std.proofs.lemmas.List.Elements.{All-head, All-tail}
use Rattle.std.proofs.Math.Nat.{le_of_dvd, mul-le-mul_left}
use Rattle.abi_base.specs.declared.data_layout.TargetDataLayout.{TargetDataLayout}
use Rattle.abi_base.specs.declared.integer.Integer.{Integer}
use Rattle.abi_base.specs.declared.integer.Integer.TheVariants.{I8}
use Rattle.abi_base.specs.declared.float.Float.{Float}
use Rattle.abi_base.specs.declared.float.Float.TheVariants.{F16}
use Rattle.abi_base.specs.declared.primitive.Primitive.{Primitive}
use Rattle.abi_base.specs.declared.primitive.Primitive.TheVariants.{Int, Float as OneFloat, Pointer}
use Rattle.abi_base.specs.declared.scalable.NumScalableVectors.{NumScalableVectors}
use Rattle.abi_base.specs.Align.{IsLeastPower}
use Rattle.abi_base.specs.DataLayout.{IsLawfulDataLayout, listed_align, scalar_alignments_of, size_bound, vector_align_of}
use Rattle.abi_base.specs.Integer.{integer_size}
use Rattle.abi_base.specs.Float.{float_size}
use Rattle.abi_base.specs.Primitive.{IsLawfulPrimitive, primitive_size}
use Rattle.abi_base.proofs.Laws.{all_back, all_front}
use Rattle.abi_scalar.specs.declared.backend_repr.BackendRepr.{BackendRepr}
use Rattle.abi_scalar.specs.declared.backend_repr.BackendRepr.TheVariants.{Scalar as OneScalar, SimdScalableVector, SimdVector, Memory}
use Rattle.abi_scalar.specs.declared.niche.Niche.{Niche}
use Rattle.abi_scalar.specs.declared.scalar.Scalar.{Scalar}
use Rattle.abi_scalar.specs.declared.layout_data.LayoutData.{LayoutData}
use Rattle.abi_scalar.specs.declared.error.LayoutCalculatorError.{LayoutCalculatorError}
use Rattle.abi_scalar.specs.declared.error.LayoutCalculatorError.TheVariants.{OversizedSimdType, SizeOverflow, ZeroLengthSimdType}
use Rattle.abi_scalar.specs.Lawful.{IsLawfulLayout, IsLawfulView, IsNicheOfView}
use Rattle.abi_scalar.specs.Scalar.{IsLawfulScalar, primitive_of}
use Rattle.abi_univariant.specs.declared.simd.Lanes.{Lanes}
use Rattle.abi_univariant.specs.Simd.{after, element_scalar, if_below, is_tight, lanes_answer, scalable_answer, simd_align, simd_answer, simd_view, vector_layout}
use Rattle.abi_univariant.proofs.Views.Lawful.{niche_within}
use Rattle.abi_univariant.proofs.Offsets.Rounding.{rounded_to}

-- powers

pub exponent_small : (i top : ℕ) → 2 ^ i ≤ 2 ^ top → i ≤ top
exponent_small i top h =
    ⊎_elim (λ (l : top < i). let more : 2 ^ top < 2 ^ i = pow_below top i l in absurd (omega arith)) (λ (l : i ≤ top). l) (cases_lt top i)

-- the alignment of a vector's size

listed_small_at : (found : Bool) (align most : ℕ) (rest : Option ℕ) (a : ℕ) → align ≤ most → (rest ≡ Some a → a ≤ most) → (if found then Some align else rest) ≡ Some a → a ≤ most
listed_small_at true align most rest a here later e = let same : align ≡ a = cc in omega arith
listed_small_at false align most rest a here later e = later e

listed_small : (entries : List (ℕ × ℕ)) (size a : ℕ) → All (λ a. a ≤ 29) (map (λ e. e.1) entries) → listed_align entries size ≡ Some a → a ≤ 29
listed_small [] size a all e = absurd (cc)
listed_small (x ∷ entries) size a all e =
    listed_small_at (x.0 == size) x.1 29 (listed_align entries size) a (All-head (λ a. a ≤ 29) x.1 (map (λ e. e.1) entries) all)
    (listed_small entries size a (All-tail (λ a. a ≤ 29) x.1 (map (λ e. e.1) entries) all)) e

vector_small_at : (listed found : Option ℕ) (size r : ℕ) → size ≤ 2 ^ 29 → ((a : ℕ) → listed ≡ Some a → a ≤ 29) → ((a : ℕ) → listed ≡ Some a → r ≡ a) → (listed ≡ None → IsLeastPower size r)
    → listed ≡ found → r ≤ 29
vector_small_at listed None size r small each at none e = (none e).least 29 small
vector_small_at listed (Some a) size r small each at none e = let same : r ≡ a = at a e in let low : a ≤ 29 = each a e in omega arith

pub vector_small : (dl : TargetDataLayout) (size r : ℕ) → IsLawfulDataLayout dl → size ≤ 2 ^ 29 → ((a : ℕ) → listed_align dl.vector_align size ≡ Some a → r ≡ a)
    → (listed_align dl.vector_align size ≡ None → IsLeastPower size r) → r ≤ 29
vector_small dl size r lawful small at none =
    let all : All (λ a. a ≤ 29) (map (λ e. e.1) dl.vector_align) = all_back (λ a. a ≤ 29) (scalar_alignments_of dl) (map (λ e. e.1) dl.vector_align)
    (all_front (λ a. a ≤ 29) (scalar_alignments_of dl ++ map (λ e. e.1) dl.vector_align) (map (λ e. e.1.pointer_align) dl.address_space_info) lawful.limit) in
    vector_small_at (listed_align dl.vector_align size) (listed_align dl.vector_align size) size r small (λ a e. listed_small dl.vector_align size a all e) at none refl

-- a power of two that divides a size that is neither 0 nor above 2 ^ 29
pub factor_small : (size r : ℕ) → 1 ≤ size → size ≤ 2 ^ 29 → 2 ^ r ∣ size → r ≤ 29
factor_small size r some most d =
    let low : 2 ^ r ≤ size = le_of_dvd (omega arith) d in
    exponent_small r 29 (omega arith)

-- a lawful scalar has 1 to 16 bytes

integer_bytes : (i : Integer) → (1 ≤ integer_size i) × (integer_size i ≤ 16)
integer_bytes I8 = (omega arith, omega arith)
integer_bytes _ = (omega arith, omega arith)

float_bytes : (f : Float) → (1 ≤ float_size f) × (float_size f ≤ 16)
float_bytes F16 = (omega arith, omega arith)
float_bytes _ = (omega arith, omega arith)

primitive_bytes : (dl : TargetDataLayout) (value : Primitive) → IsLawfulPrimitive dl value → (1 ≤ primitive_size dl value) × (primitive_size dl value ≤ 16)
primitive_bytes dl (Int integer signed) h = integer_bytes integer
primitive_bytes dl (OneFloat float) h = float_bytes float
primitive_bytes dl (Pointer space) h = (h.1.some, h.1.most)

-- lanes

-- these are so many lanes of the element
pub record AreLanes {F V : Type 0} (element : LayoutData F V) (count : ℕ) (lanes : Lanes) : Type 0 where
  pub view : element.backend_repr ≡ OneScalar lanes.scalar
  pub count_is : lanes.count ≡ count
  pub size : lanes.size ≡ element.size * lanes.count
  pub some : 1 ≤ lanes.count
  pub most : lanes.count ≤ 32768

abbrev lanes_if : {H : Type 0} → (below : Bool) → Lanes → Result Lanes (LayoutCalculatorError H)
lanes_if below lanes = if below then Ok lanes else Err SizeOverflow

abbrev count_if : {H : Type 0} → (many none : Bool) → (count : ℕ) → Result ℕ (LayoutCalculatorError H)
count_if many none count = if many then Err (OversizedSimdType 32768) else (if none then Err ZeroLengthSimdType else Ok count)

lanes_sized : {F V : Type 0} (H : Type 0) (element : LayoutData F V) (count : ℕ) (scalar : Scalar) (lanes : Lanes) (below : Bool) → element.backend_repr ≡ OneScalar scalar → 1 ≤ count → count ≤ 32768
    → lanes_if {H = H} below (record { scalar = scalar; count = count; size = element.size * count }) ≡ Ok lanes → AreLanes element count lanes
lanes_sized H element count scalar lanes true view some most e =
    let made : Lanes = record { scalar = scalar; count = count; size = element.size * count } in
    let is : made ≡ lanes = cc in
    subst (λ (l : Lanes). AreLanes element count l) is (record { view = view; count_is = refl; size = refl; some = some; most = most })
lanes_sized H element count scalar lanes false view some most e = absurd (cc)

lanes_viewed : {F V H : Type 0} (h : H) (element : LayoutData F V) (bound count : ℕ) (lanes : Lanes) (view : BackendRepr) → element.backend_repr ≡ view → 1 ≤ count → count ≤ 32768
    → after (element_scalar h view) (λ scalar. lanes_if (nat_lt (element.size * count) bound) (record { scalar = scalar; count = count; size = element.size * count })) ≡ Ok lanes
    → AreLanes element count lanes
lanes_viewed {H = H} h element bound count lanes (OneScalar scalar) view some most e = lanes_sized H element count scalar lanes (nat_lt (element.size * count) bound) view some most e
lanes_viewed h element bound count lanes _ view some most e = absurd (cc)

lanes_counted : {F V H : Type 0} (h : H) (element : LayoutData F V) (bound count : ℕ) (lanes : Lanes) (many none : Bool) → nat_lt 32768 count ≡ many → (count == 0) ≡ none
    → after (count_if {H = H} many none count)
    (λ n. after (element_scalar h element.backend_repr) (λ scalar. lanes_if (nat_lt (element.size * n) bound) (record { scalar = scalar; count = n; size = element.size * n }))) ≡ Ok lanes
    → AreLanes element count lanes
lanes_counted h element bound count lanes true none m n e = absurd (cc)
lanes_counted h element bound count lanes false true m n e = absurd (cc)
lanes_counted h element bound count lanes false false m n e =
    let most : count ≤ 32768 = grind (arith, nat_tests) in
    let some : 1 ≤ count = grind (arith, nat_tests) in
    lanes_viewed h element bound count lanes element.backend_repr refl some most e

pub lanes_are : {F V H : Type 0} (layout_of : H → LayoutData F V) (bound : ℕ) (h : H) (count : ℕ) (lanes : Lanes) → Ok lanes ≡ lanes_answer layout_of bound h count → AreLanes (layout_of h) count lanes
lanes_are layout_of bound h count lanes e = lanes_counted h (layout_of h) bound count lanes (nat_lt 32768 count) (count == 0) refl refl (sym e)

-- how large a vector is
pub record AreBounded (size whole : ℕ) : Type 0 where
  pub some : 1 ≤ whole
  pub most : whole ≤ 2 ^ 19
  pub above : size ≤ whole

pub lanes_bounded : {F V : Type 0} (dl : TargetDataLayout) (element : LayoutData F V) (count : ℕ) (lanes : Lanes) → IsLawfulLayout dl element → AreLanes element count lanes → AreBounded element.size lanes.size
lanes_bounded dl element count lanes lawful are =
    let view : IsLawfulView dl element.size (OneScalar lanes.scalar) = subst (λ v. IsLawfulView dl element.size v) are.view lawful.view in
    let bytes = primitive_bytes dl (primitive_of lanes.scalar) view.0.pointer in
    let low : 1 ≤ primitive_size dl (primitive_of lanes.scalar) = bytes.0 in
    let high : primitive_size dl (primitive_of lanes.scalar) ≤ 16 = bytes.1 in
    let is : primitive_size dl (primitive_of lanes.scalar) ≡ element.size = view.1 in
    let one : element.size * 1 ≤ element.size * lanes.count = mul-le-mul_left element.size are.some in
    let all : element.size * lanes.count ≤ element.size * 32768 = mul-le-mul_left element.size are.most in
    let size : lanes.size ≡ element.size * lanes.count = are.size in
    record { some = omega arith; most = omega arith; above = omega arith }

pub lanes_found : {F V H : Type 0} (layout_of : H → LayoutData F V) (dl : TargetDataLayout) (h : H) (count : ℕ) (lanes : Lanes) → IsLawfulLayout dl (layout_of h)
    → Ok lanes ≡ lanes_answer layout_of (size_bound dl) h count → AreBounded (layout_of h).size lanes.size
lanes_found layout_of dl h count lanes lawful e = lanes_bounded dl (layout_of h) count lanes lawful (lanes_are layout_of (size_bound dl) h count lanes e)

-- and as many as scalable vectors may be
pub vectors_most : {F V H : Type 0} (layout_of : H → LayoutData F V) (dl : TargetDataLayout) (h : H) (count : ℕ) (lanes : Lanes) (n : ℕ) → n ≤ 255 → IsLawfulLayout dl (layout_of h)
    → Ok lanes ≡ lanes_answer layout_of (size_bound dl) h count → lanes.size * n ≤ 2 ^ 19 * 255
vectors_most layout_of dl h count lanes n few lawful e =
    let all : lanes.size * n ≤ lanes.size * 255 = mul-le-mul_left lanes.size few in
    omega (arith, (lanes_found layout_of dl h count lanes lawful e).most)

-- lawful vectors

any_of_view : (view : BackendRepr) (niche : Option Niche) → ((n : Niche) → IsNicheOfView view n) → IfSome niche (IsNicheOfView view)
any_of_view view None h = tt
any_of_view view (Some niche) h = h niche

below_ok_at : {A E : Type 0} (P : A → Type 0) (layout : A) (error : E) (below : Bool) → (below ≡ true → P layout) → IfOk (if below then Ok layout else Err error) P
below_ok_at P layout error true h = h refl
below_ok_at P layout error false h = tt

-- what holds of a layout below the bound holds of the answer
pub below_ok : {F V H : Type 0} (P : LayoutData F V → Type 0) (bound : ℕ) (layout : LayoutData F V) (result : Result (LayoutData F V) (LayoutCalculatorError H))
    → result ≡ if_below bound layout → (layout.size < bound → P layout) → IfOk result P
below_ok P bound layout result e h = rw e (below_ok_at P layout SizeOverflow (nat_lt layout.size bound) (λ t. h (grind (arith, nat_tests))))

pub vectors_lawful : {F V H : Type 0} (dl : TargetDataLayout) (element : LayoutData F V) (count : ℕ) (lanes : Lanes) (first : V) (field : F) (view : BackendRepr) (bytes align : ℕ)
    (result : Result (LayoutData F V) (LayoutCalculatorError H)) → IsLawfulLayout dl element → AreLanes element count lanes → lanes.size ≤ bytes → align ≤ 29
    → ((n : ℕ) → IsLawfulScalar dl lanes.scalar → IsLawfulView dl n view) → ((n : Niche) → IsNicheOfView view n)
    → result ≡ if_below (size_bound dl) (vector_layout first field element view bytes align lanes.count) → IfOk result (IsLawfulLayout dl)
vectors_lawful dl element count lanes first field view bytes align result lawful are large small viewed of_view answer =
    let r = rounded_to bytes align in
    let up : bytes ≤ next_multiple_of bytes (2 ^ align) = r.above in
    let bounded = lanes_bounded dl element count lanes lawful are in
    let above : element.size ≤ lanes.size = bounded.above in
    let scalar : IsLawfulView dl element.size (OneScalar lanes.scalar) = subst (λ v. IsLawfulView dl element.size v) are.view lawful.view in
    below_ok (IsLawfulLayout dl) (size_bound dl) (vector_layout first field element view bytes align lanes.count) result answer (λ bound. record {
      multiple = r.multiple;
      bound = bound;
      limit = small;
      niche = niche_within dl element.size (next_multiple_of bytes (2 ^ align)) element.largest_niche (omega arith) lawful.niche;
      view = viewed (next_multiple_of bytes (2 ^ align)) scalar.0;
      niche_of_view = any_of_view view element.largest_niche of_view;
      tag = tt;
    })

simd_viewed_at : (dl : TargetDataLayout) (tight : Bool) (lanes : Lanes) (n : ℕ) → IsLawfulScalar dl lanes.scalar → IsLawfulView dl n (if tight then Memory true else SimdVector lanes.scalar lanes.count)
simd_viewed_at dl true lanes n h = tt
simd_viewed_at dl false lanes n h = h

pub simd_viewed : (dl : TargetDataLayout) (packed : Bool) (lanes : Lanes) (n : ℕ) → IsLawfulScalar dl lanes.scalar → IsLawfulView dl n (simd_view packed lanes)
simd_viewed dl packed lanes n h = simd_viewed_at dl (is_tight packed lanes.count) lanes n h

simd_of_view_at : (tight : Bool) (lanes : Lanes) (n : Niche) → IsNicheOfView (if tight then Memory true else SimdVector lanes.scalar lanes.count) n
simd_of_view_at true lanes n = tt
simd_of_view_at false lanes n = tt

pub simd_of_view : (packed : Bool) (lanes : Lanes) (n : Niche) → IsNicheOfView (simd_view packed lanes) n
simd_of_view packed lanes n = simd_of_view_at (is_tight packed lanes.count) lanes n

after_ok : {F V H : Type 0} (P : LayoutData F V → Type 0) (bound : ℕ) (layout : Lanes → LayoutData F V)
    (found : Result Lanes (LayoutCalculatorError H))
    (result : Result (LayoutData F V) (LayoutCalculatorError H))
    → result ≡ after found (λ lanes. if_below bound (layout lanes))
    → ((lanes : Lanes) → Ok lanes ≡ found → P (layout lanes)) → IfOk result P
after_ok P bound layout (Ok lanes) result answer each =
    below_ok P bound (layout lanes) result answer (λ small. each lanes refl)
after_ok P bound layout (Err e) result is each = rw is tt

module _
    {F V H : Type 0} (layout_of : H → LayoutData F V) (first : V) (field : F)
    (dl : TargetDataLayout) (h : H) (count : ℕ)
  where
    -- what holds of each vector of so many lanes holds of the answer
    pub simd_ok : (P : LayoutData F V → Type 0) (packed : Bool)
        (result : Result (LayoutData F V) (LayoutCalculatorError H))
        → result ≡ simd_answer layout_of first field dl h count packed
        → ((lanes : Lanes) → AreLanes (layout_of h) count lanes
        → P (vector_layout first field (layout_of h) (simd_view packed lanes) lanes.size
        (simd_align dl packed lanes) lanes.count)) → IfOk result P
    simd_ok P packed result answer each =
        after_ok P (size_bound dl)
        (λ lanes. vector_layout first field (layout_of h) (simd_view packed lanes) lanes.size
        (simd_align dl packed lanes) lanes.count)
        (lanes_answer layout_of (size_bound dl) h count) result answer
        (λ lanes is. each lanes (lanes_are layout_of (size_bound dl) h count lanes is))

    pub scalable_ok : (P : LayoutData F V → Type 0) (vectors : NumScalableVectors)
        (result : Result (LayoutData F V) (LayoutCalculatorError H))
        → result ≡ scalable_answer layout_of first field dl h count vectors
        → ((lanes : Lanes) → AreLanes (layout_of h) count lanes
        → P (vector_layout first field (layout_of h) (SimdScalableVector lanes.scalar lanes.count vectors)
        (lanes.size * vectors.0) (vector_align_of dl lanes.size) lanes.count))
        → IfOk result P
    scalable_ok P vectors result answer each =
        after_ok P (size_bound dl)
        (λ lanes. vector_layout first field (layout_of h) (SimdScalableVector lanes.scalar lanes.count vectors)
        (lanes.size * vectors.0) (vector_align_of dl lanes.size) lanes.count)
        (lanes_answer layout_of (size_bound dl) h count) result answer
        (λ lanes is. each lanes (lanes_are layout_of (size_bound dl) h count lanes is))

    -- all lanes together have the bytes of so many elements
    whole_of : (lanes : Lanes) → AreLanes (layout_of h) count lanes → lanes.size ≡ (layout_of h).size * count
    whole_of lanes are = are.size ∙ ap (λ n. (layout_of h).size * n) are.count_is

    pub simd_size : (packed : Bool) (result : Result (LayoutData F V) (LayoutCalculatorError H))
        → result ≡ simd_answer layout_of first field dl h count packed
        → IfOk result (λ l. l.size ≡ next_multiple_of ((layout_of h).size * count) (2 ^ l.align.abi))
    simd_size packed result answer =
        simd_ok (λ l. l.size ≡ next_multiple_of ((layout_of h).size * count) (2 ^ l.align.abi)) packed result answer
        (λ lanes are. ap (λ n. next_multiple_of n (2 ^ simd_align dl packed lanes)) (whole_of lanes are))

    pub scalable_size : (vectors : NumScalableVectors) (result : Result (LayoutData F V) (LayoutCalculatorError H))
        → result ≡ scalable_answer layout_of first field dl h count vectors
        → IfOk result (λ l. l.size ≡ next_multiple_of ((layout_of h).size * count * vectors.0) (2 ^ l.align.abi))
    scalable_size vectors result answer =
        scalable_ok (λ l. l.size ≡ next_multiple_of ((layout_of h).size * count * vectors.0) (2 ^ l.align.abi))
        vectors result answer
        (λ lanes are. ap (λ n. next_multiple_of (n * vectors.0) (2 ^ vector_align_of dl lanes.size))
        (whole_of lanes are))
