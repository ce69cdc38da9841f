-- The layouts of vectors.
use Rattle.std.specs.Prelude.{◌≡◌, ℕ, ◌+◌, ◌*◌, ◌%◌, ◌^◌, ◌≤◌, ◌&&◌, ◌⊎◌, not, Bool, true, false, [], ◌∷◌, nat_lt, IfErr, IfOk, None, Result, Ok, Err, if◌then◌else◌}
use Rattle.std.specs.Int.{is_power_of_two, next_multiple_of}
use Rattle.abi_base.specs.declared.data_layout.TargetDataLayout.{TargetDataLayout}
use Rattle.abi_base.specs.declared.scalable.NumScalableVectors.{NumScalableVectors}
use Rattle.abi_base.specs.Align.{factor_exponent}
use Rattle.abi_base.specs.DataLayout.{size_bound, vector_align_of}
use Rattle.abi_scalar.specs.declared.backend_repr.BackendRepr.{BackendRepr}
use Rattle.abi_scalar.specs.declared.backend_repr.BackendRepr.TheVariants.{Scalar as OneScalar, SimdScalableVector, SimdVector, Memory}
use Rattle.abi_scalar.specs.declared.fields_shape.FieldsShape.TheVariants.{Arbitrary}
use Rattle.abi_scalar.specs.declared.scalar.Scalar.{Scalar}
use Rattle.abi_scalar.specs.declared.variants.Variants.TheVariants.{Single}
use Rattle.abi_scalar.specs.declared.layout_data.LayoutData.{LayoutData}
use Rattle.abi_scalar.specs.declared.error.LayoutCalculatorError.{LayoutCalculatorError}
use Rattle.abi_scalar.specs.declared.error.LayoutCalculatorError.TheVariants.{NonPrimitiveSimdType, SizeOverflow}
use Rattle.abi_scalar.specs.LaneCount.{lane_count}
use Rattle.abi_univariant.specs.declared.simd.Lanes.{Lanes}

-- what follows where there was no refusal
abbrev pub after : {A B E : Type 0} → Result A E → (A → Result B E) → Result B E
after (Ok a) next = next a
after (Err error) next = Err error

-- the scalar that an element is, or that it is none
abbrev pub element_scalar : {H : Type 0} → H → BackendRepr → Result Scalar (LayoutCalculatorError H)
element_scalar h (OneScalar scalar) = Ok scalar
element_scalar h _ = Err (NonPrimitiveSimdType h)

-- the lanes of one vector, or the first refusal: of their count, then of the element, then of their size
abbrev pub lanes_answer : {F V H : Type 0} → (layout_of : H → LayoutData F V) → (bound : ℕ) → H → (count : ℕ) → Result Lanes (LayoutCalculatorError H)
lanes_answer layout_of bound h count =
    after (lane_count count) (λ lanes. after (element_scalar h (layout_of h).backend_repr) (λ scalar.
    if nat_lt ((layout_of h).size * lanes) bound
    then Ok (record { scalar = scalar; count = lanes; size = (layout_of h).size * lanes })
    else Err SizeOverflow))

-- vectors of an element, with this view, so many bytes and this alignment: the bytes are rounded up to it; `first` is the
-- index of the one variant, `field` that of the one field
abbrev pub vector_layout : {F V : Type 0} → (first : V) → (field : F) → LayoutData F V → BackendRepr → (bytes align lanes : ℕ) → LayoutData F V
vector_layout first field element view bytes align lanes = record {
  fields = Arbitrary (0 ∷ []) (field ∷ []);
  variants = Single first;
  backend_repr = view;
  largest_niche = element.largest_niche;
  uninhabited = false;
  align = record { abi = align };
  size = next_multiple_of bytes (2 ^ align);
  max_repr_align = None;
  unadjusted_abi_align = element.align.abi;
  repr_c = false;
  randomization_seed = (element.randomization_seed + lanes) % 2 ^ 64;
}

-- a layout, where its size is below the bound
abbrev pub if_below : {F V H : Type 0} → (bound : ℕ) → LayoutData F V → Result (LayoutData F V) (LayoutCalculatorError H)
if_below bound layout = if nat_lt layout.size bound then Ok layout else Err SizeOverflow

-- packed, and not as many lanes as a power of two: bytes in memory, without padding
abbrev pub is_tight : (packed : Bool) → (lanes : ℕ) → Bool
is_tight packed lanes = packed && not (is_power_of_two lanes)

-- the view of a vector of so many lanes
abbrev pub simd_view : (packed : Bool) → Lanes → BackendRepr
simd_view packed lanes = if is_tight packed lanes.count then Memory true else SimdVector lanes.scalar lanes.count

-- the alignment of so many lanes in so many bytes: that of vectors of this size, or the greatest power of two in it
abbrev pub lanes_align : TargetDataLayout → (packed : Bool) → (lanes bytes : ℕ) → ℕ
lanes_align dl packed lanes bytes = if is_tight packed lanes then factor_exponent bytes else vector_align_of dl bytes

-- the vector's alignment
abbrev pub simd_align : TargetDataLayout → (packed : Bool) → Lanes → ℕ
simd_align dl packed lanes = lanes_align dl packed lanes.count lanes.size

-- the size of a vector of so many of the elements
abbrev pub vector_size : {F V : Type 0} → TargetDataLayout → LayoutData F V → (count : ℕ) → (packed : Bool) → ℕ
vector_size dl element count packed = next_multiple_of (element.size * count) (2 ^ lanes_align dl packed count (element.size * count))

-- so many of the elements make a vector: one is a scalar, and there are 1 to 32768 of them
abbrev pub MakesVector : {F V : Type 0} → LayoutData F V → (count : ℕ) → Type 0
MakesVector element count = ((scalar : Scalar) × (element.backend_repr ≡ OneScalar scalar)) × (1 ≤ count) × (count ≤ 32768)

-- a vector that is too large
abbrev pub IsVectorTooLarge : {F V : Type 0} → TargetDataLayout → LayoutData F V → (count : ℕ) → (packed : Bool) → Type 0
IsVectorTooLarge dl element count packed = MakesVector element count × (size_bound dl ≤ vector_size dl element count packed)

-- How large a vector is: its lanes' bytes, rounded up; and when it is refused for its size: exactly where so many of the elements make a
-- vector and it is too large, and then by no other name.
pub record IsSizedVector {F V H : Type 0} (dl : TargetDataLayout) (element : LayoutData F V) (count : ℕ) (packed : Bool)
    (result : Result (LayoutData F V) (LayoutCalculatorError H)) : Type 0 where
  pub size : IfOk result (λ l. l.size ≡ next_multiple_of (element.size * count) (2 ^ l.align.abi))
  pub too_large : result ≡ Err SizeOverflow → IsVectorTooLarge dl element count packed
  pub refused : IsVectorTooLarge dl element count packed → result ≡ Err SizeOverflow
  pub no_other : MakesVector element count → IfErr result (λ e. e ≡ SizeOverflow)

-- the bytes of vectors whose length the machine decides, all together
abbrev pub vectors_size : {F V : Type 0} → TargetDataLayout → LayoutData F V → (count : ℕ) → NumScalableVectors → ℕ
vectors_size dl element count vectors = next_multiple_of (element.size * count * vectors.0) (2 ^ vector_align_of dl (element.size * count))

-- such vectors that are too large: one of them is, or all of them are
abbrev pub AreVectorsTooLarge : {F V : Type 0} → TargetDataLayout → LayoutData F V → (count : ℕ) → NumScalableVectors → Type 0
AreVectorsTooLarge dl element count vectors =
    MakesVector element count × ((size_bound dl ≤ element.size * count) ⊎ (size_bound dl ≤ vectors_size dl element count vectors))

-- The same of vectors whose length the machine decides.
pub record AreSizedVectors {F V H : Type 0} (dl : TargetDataLayout) (element : LayoutData F V) (count : ℕ) (vectors : NumScalableVectors)
    (result : Result (LayoutData F V) (LayoutCalculatorError H)) : Type 0 where
  pub size : IfOk result (λ l. l.size ≡ next_multiple_of (element.size * count * vectors.0) (2 ^ l.align.abi))
  pub too_large : result ≡ Err SizeOverflow → AreVectorsTooLarge dl element count vectors
  pub refused : AreVectorsTooLarge dl element count vectors → result ≡ Err SizeOverflow
  pub no_other : MakesVector element count → IfErr result (λ e. e ≡ SizeOverflow)

-- the layout of a vector of so many lanes, or why it has none
abbrev pub simd_answer : {F V H : Type 0} → (layout_of : H → LayoutData F V) → (first : V) → (field : F) → TargetDataLayout → H → (count : ℕ) → (packed : Bool)
    → Result (LayoutData F V) (LayoutCalculatorError H)
simd_answer layout_of first field dl h count packed =
    after (lanes_answer layout_of (size_bound dl) h count) (λ lanes.
    if_below (size_bound dl) (vector_layout first field (layout_of h) (simd_view packed lanes) lanes.size (simd_align dl packed lanes) lanes.count))

-- the layout of some vectors whose length the machine decides, or why they have none: they are aligned as one of them is
abbrev pub scalable_answer : {F V H : Type 0} → (layout_of : H → LayoutData F V) → (first : V) → (field : F) → TargetDataLayout → H → (count : ℕ) → NumScalableVectors
    → Result (LayoutData F V) (LayoutCalculatorError H)
scalable_answer layout_of first field dl h count vectors =
    after (lanes_answer layout_of (size_bound dl) h count) (λ lanes.
    if_below (size_bound dl) (vector_layout first field (layout_of h) (SimdScalableVector lanes.scalar lanes.count vectors)
    (lanes.size * vectors.0) (vector_align_of dl lanes.size) lanes.count))
