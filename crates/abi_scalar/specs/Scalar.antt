-- Scalars, and the numbers that they hold.
use Rattle.std.specs.Prelude.{◌≡◌, ℕ, ◌<◌, ◌≤◌, ⊤, Bool, IsTrue, false}
use Rattle.abi_base.specs.declared.primitive.Primitive.{Primitive}
use Rattle.abi_base.specs.declared.primitive.Primitive.TheVariants.{Int, Float, Pointer}
use Rattle.abi_base.specs.declared.integer.Integer.TheVariants.{I8}
use Rattle.abi_base.specs.declared.data_layout.TargetDataLayout.{TargetDataLayout}
use Rattle.abi_base.specs.Primitive.{primitive_size, primitive_align, KnowsPrimitive, IsLawfulPrimitive}
use Rattle.abi_scalar.specs.declared.wrapping_range.WrappingRange.{WrappingRange}
use Rattle.abi_scalar.specs.declared.scalar.Scalar.{Scalar}
use Rattle.abi_scalar.specs.declared.scalar.Scalar.TheVariants.{Initialized, Union}
use Rattle.abi_scalar.specs.Range.{numbers_of, IsIn, AreWithin, full_range}

-- what the scalar consists of
abbrev pub primitive_of : Scalar → Primitive
primitive_of (Initialized value range) = value
primitive_of (Union value) = value

-- it is a union's scalar
abbrev pub IsUnion : Scalar → Type 0
IsUnion (Initialized value range) = ⊥
IsUnion (Union value) = ⊤

-- it is an unsigned byte that holds 0 or 1
abbrev pub IsBool : Scalar → Type 0
IsBool scalar = scalar ≡ Initialized (Int I8 false) (record { start = 0; end = 1 })

-- whether the primitive is a signed integer
abbrev pub is_signed_integer : Primitive → Bool
is_signed_integer (Int integer signed) = signed
is_signed_integer (Float float) = false
is_signed_integer (Pointer space) = false

-- the primitive is a signed integer
abbrev pub IsSignedInteger : Primitive → Type 0
IsSignedInteger primitive = IsTrue (is_signed_integer primitive)

-- the scalar with that range, where it has one
abbrev pub with_range : Scalar → WrappingRange → Scalar
with_range (Initialized value range) new = Initialized value new
with_range (Union value) new = Union value

-- it holds the numbers of this range
abbrev pub HasRange : Scalar → WrappingRange → Type 0
HasRange (Initialized value range) numbers = range ≡ numbers
HasRange (Union value) numbers = ⊥

-- it holds numbers of a range
abbrev pub IsInitialized : Scalar → Type 0
IsInitialized (Initialized value range) = ⊤
IsInitialized (Union value) = ⊥

-- how many bytes it has
abbrev pub scalar_size : TargetDataLayout → Scalar → ℕ
scalar_size dl scalar = primitive_size dl (primitive_of scalar)

-- its alignment, as an exponent of two
abbrev pub scalar_align : TargetDataLayout → Scalar → ℕ
scalar_align dl scalar = primitive_align dl (primitive_of scalar)

-- the numbers that it may hold, as a range
abbrev pub range_of : TargetDataLayout → Scalar → WrappingRange
range_of dl (Initialized value range) = range
range_of dl (Union value) = full_range (primitive_size dl value)

-- a scalar of so many bytes holds the number: one of its range, or for a union's scalar any
abbrev pub IsNumberOf : (width : ℕ) → Scalar → ℕ → Type 0
IsNumberOf width (Initialized value range) n = IsIn width range n
IsNumberOf width (Union value) n = n < numbers_of width

-- it may hold every number of its bytes
abbrev pub IsAlwaysValid : TargetDataLayout → Scalar → Type 0
IsAlwaysValid dl scalar = (n : ℕ) → n < numbers_of (scalar_size dl scalar) → IsNumberOf (scalar_size dl scalar) scalar n

-- A scalar that can be asked for its numbers: its space is known, it has 1 to 16 bytes, and its range's ends fit them.
pub record IsWellFormed (dl : TargetDataLayout) (scalar : Scalar) : Type 0 where
  pub known : KnowsPrimitive dl (primitive_of scalar)
  pub some : 1 ≤ scalar_size dl scalar
  pub most : scalar_size dl scalar ≤ 16
  pub within : AreWithin (scalar_size dl scalar) (range_of dl scalar)

-- A lawful scalar: its pointer is lawful, and its range's ends fit its bytes.
pub record IsLawfulScalar (dl : TargetDataLayout) (scalar : Scalar) : Type 0 where
  pub pointer : IsLawfulPrimitive dl (primitive_of scalar)
  pub within : AreWithin (scalar_size dl scalar) (range_of dl scalar)
