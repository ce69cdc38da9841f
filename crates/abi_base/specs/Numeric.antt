-- Primitive types of numbers.
use Rattle.std.specs.Prelude.{ℕ}
use Rattle.abi_base.specs.declared.numeric.Numeric.{Numeric}
use Rattle.abi_base.specs.declared.numeric.Numeric.TheVariants.{Int, Float}
use Rattle.abi_base.specs.declared.primitive.Primitive.{Primitive}
use Rattle.abi_base.specs.declared.primitive.Primitive.TheVariants as primitive
use Rattle.abi_base.specs.Integer.{integer_size}
use Rattle.abi_base.specs.Float.{float_size}

-- how many bytes it has
abbrev pub numeric_size : Numeric → ℕ
numeric_size (Int integer signed) = integer_size integer
numeric_size (Float float) = float_size float

-- the primitive that it is
abbrev pub primitive_of_numeric : Numeric → Primitive
primitive_of_numeric (Int integer signed) = primitive.Int integer signed
primitive_of_numeric (Float float) = primitive.Float float
