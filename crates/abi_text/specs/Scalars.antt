-- The scalars that words stand for under a data layout.
use Rattle.std.specs.Prelude.{ℕ, ◌-◌, Bool, false, max, min}
use Rattle.abi_base.specs.declared.integer.Integer.TheVariants.{I8, I32}
use Rattle.abi_base.specs.declared.primitive.Primitive.{Primitive}
use Rattle.abi_base.specs.declared.primitive.Primitive.TheVariants.{Int, Pointer}
use Rattle.abi_base.specs.declared.data_layout.TargetDataLayout.{TargetDataLayout}
use Rattle.abi_base.specs.DataLayout.{index_integer}
use Rattle.abi_base.specs.Primitive.{primitive_size}
use Rattle.abi_scalar.specs.declared.scalar.Scalar.{Scalar}
use Rattle.abi_scalar.specs.declared.scalar.Scalar.TheVariants.{Initialized}
use Rattle.abi_scalar.specs.Range.{full_range, numbers_of}

-- how many bytes a primitive has, 1 to 16: a pointer with another number of bytes is refused when it's laid out
abbrev pub width_of : TargetDataLayout → Primitive → ℕ
width_of dl p = max 1 (min 16 (primitive_size dl p))

-- with every number of its width
abbrev pub full : TargetDataLayout → Primitive → Scalar
full dl p = Initialized p (full_range (width_of dl p))

-- an integer as wide as an index
abbrev pub index_primitive : TargetDataLayout → (signed : Bool) → Primitive
index_primitive dl signed = Int (index_integer dl.default_address_space_pointer_spec.pointer_offset) signed

-- a pointer into space 0
abbrev pub default_pointer : Primitive
default_pointer = Pointer (record { 0 = 0 })

-- a byte that is 0 or 1
abbrev pub a_bool : Scalar
a_bool = Initialized (Int I8 false) (record { start = 0; end = 1 })

-- a Unicode scalar value, or a surrogate
abbrev pub a_char : Scalar
a_char = Initialized (Int I32 false) (record { start = 0; end = 0x10FFFF })

-- a pointer that isn't null
abbrev pub a_ref : TargetDataLayout → Scalar
a_ref dl = Initialized default_pointer (record { start = 1; end = numbers_of (width_of dl default_pointer) - 1 })
