-- What a view of a type says.
use Rattle.std.specs.Prelude.{◌≡◌, ℕ, ◌+◌, ◌^◌, ◌<◌, ⊤, IsFalse, true, max, Option, Some, None}
use Rattle.std.specs.Int.{next_multiple_of}
use Rattle.abi_base.specs.declared.data_layout.TargetDataLayout.{TargetDataLayout}
use Rattle.abi_base.specs.declared.align.Align.{Align}
use Rattle.abi_base.specs.declared.size.Size.{Size}
use Rattle.abi_base.specs.declared.primitive.Primitive.{Primitive}
use Rattle.abi_base.specs.Primitive.{KnowsPrimitive}
use Rattle.abi_scalar.specs.declared.lane_count.BackendLaneCount.{BackendLaneCount}
use Rattle.abi_scalar.specs.declared.backend_repr.BackendRepr.{BackendRepr}
use Rattle.abi_scalar.specs.declared.backend_repr.BackendRepr.TheVariants.{Scalar as OneScalar, ScalarPair, SimdScalableVector, SimdVector, Memory}
use Rattle.abi_scalar.specs.declared.scalar.Scalar.{Scalar}
use Rattle.abi_scalar.specs.declared.scalar.Scalar.TheVariants.{Union}
use Rattle.abi_scalar.specs.Scalar.{primitive_of, scalar_size, scalar_align, IsBool, IsSignedInteger}

-- the size is known only with a value
abbrev pub IsUnsizedView : BackendRepr → Type 0
IsUnsizedView (Memory sized) = IsFalse sized
IsUnsizedView _ = ⊥

-- the size is known beforehand
abbrev pub IsSizedView : BackendRepr → Type 0
IsSizedView (Memory sized) = sized ≡ true
IsSizedView _ = ⊤

-- one scalar
abbrev pub IsScalarView : BackendRepr → Type 0
IsScalarView (OneScalar scalar) = ⊤
IsScalarView _ = ⊥

-- vectors whose length the machine decides
abbrev pub IsScalableView : BackendRepr → Type 0
IsScalableView (SimdScalableVector element count vectors) = ⊤
IsScalableView _ = ⊥

-- one scalar, or vectors
abbrev pub IsScalarOrSimdView : BackendRepr → Type 0
IsScalarOrSimdView (OneScalar scalar) = ⊤
IsScalarOrSimdView (SimdVector element count) = ⊤
IsScalarOrSimdView (SimdScalableVector element count vectors) = ⊤
IsScalarOrSimdView _ = ⊥

-- two scalars, or bytes in memory
abbrev pub IsAggregateView : BackendRepr → Type 0
IsAggregateView (ScalarPair a b b_offset) = ⊤
IsAggregateView (Memory sized) = ⊤
IsAggregateView _ = ⊥

-- one scalar that is a `bool`
abbrev pub IsBoolView : BackendRepr → Type 0
IsBoolView (OneScalar scalar) = IsBool scalar
IsBoolView _ = ⊥

-- the same view, holding any numbers; bytes in memory are taken to be sized
abbrev pub union_view : BackendRepr → BackendRepr
union_view (OneScalar scalar) = OneScalar (Union (primitive_of scalar))
union_view (ScalarPair a b b_offset) = ScalarPair (Union (primitive_of a)) (Union (primitive_of b)) b_offset
union_view (SimdScalableVector element count vectors) = SimdScalableVector (Union (primitive_of element)) count vectors
union_view (SimdVector element count) = SimdVector (Union (primitive_of element)) count
union_view (Memory sized) = Memory true

-- one scalar of this primitive
abbrev pub IsScalarOf : Primitive → BackendRepr → Type 0
IsScalarOf value (OneScalar scalar) = primitive_of scalar ≡ value
IsScalarOf value _ = ⊥

-- two scalars of these primitives, the second at this offset
abbrev pub IsPairOf : (first second : Primitive) → (offset : ℕ) → BackendRepr → Type 0
IsPairOf first second offset (ScalarPair a b b_offset) =
    (primitive_of a ≡ first) × (primitive_of b ≡ second) × (b_offset ≡ offset)
IsPairOf first second offset _ = ⊥

-- a vector of so many lanes of this primitive
abbrev pub IsVectorOf : Primitive → BackendLaneCount → BackendRepr → Type 0
IsVectorOf value lanes (SimdVector element count) = (primitive_of element ≡ value) × (count ≡ lanes)
IsVectorOf value lanes _ = ⊥

-- the second view is the first but for the numbers that scalars may hold; vectors of the machine's length and bytes in
-- memory are the same
abbrev pub IsSameUpToValidity : BackendRepr → BackendRepr → Type 0
IsSameUpToValidity (OneScalar scalar) other = IsScalarOf (primitive_of scalar) other
IsSameUpToValidity (ScalarPair a b b_offset) other = IsPairOf (primitive_of a) (primitive_of b) b_offset other
IsSameUpToValidity (SimdVector element count) other = IsVectorOf (primitive_of element) count other
IsSameUpToValidity view other = view ≡ other

-- the spaces of its scalars are known, where it is one or two
abbrev pub KnowsView : TargetDataLayout → BackendRepr → Type 0
KnowsView dl (OneScalar scalar) = KnowsPrimitive dl (primitive_of scalar)
KnowsView dl (ScalarPair a b b_offset) = KnowsPrimitive dl (primitive_of a) × KnowsPrimitive dl (primitive_of b)
KnowsView dl _ = ⊤

-- the alignment of one scalar, or the greater of two, as an exponent of two
abbrev pub platform_align : TargetDataLayout → BackendRepr → Option Align
platform_align dl (OneScalar scalar) = Some (scalar_align dl scalar)
platform_align dl (ScalarPair a b b_offset) = Some (max (scalar_align dl a) (scalar_align dl b))
platform_align dl _ = None

-- where the second of two scalars ends, rounded up to the greater alignment
abbrev pub pair_end : TargetDataLayout → (a b : Scalar) → (b_offset : ℕ) → ℕ
pair_end dl a b b_offset = next_multiple_of (b_offset + scalar_size dl b) (2 ^ max (scalar_align dl a) (scalar_align dl b))

-- how many bytes one scalar or two take
abbrev pub platform_size : TargetDataLayout → BackendRepr → Option Size
platform_size dl (OneScalar scalar) = Some (scalar_size dl scalar)
platform_size dl (ScalarPair a b b_offset) = Some (pair_end dl a b b_offset)
platform_size dl _ = None

-- that number of bytes can be written in 64 bits
abbrev pub HasFittingSize : TargetDataLayout → BackendRepr → Type 0
HasFittingSize dl (ScalarPair a b b_offset) =
    (b_offset + scalar_size dl b < 2 ^ 64) × (max (scalar_align dl a) (scalar_align dl b) < 64) × (pair_end dl a b b_offset < 2 ^ 64)
HasFittingSize dl _ = ⊤

-- one scalar, which is a signed integer
abbrev pub IsSignedView : BackendRepr → Type 0
IsSignedView (OneScalar scalar) = IsSignedInteger (primitive_of scalar)
IsSignedView _ = ⊥
