-- Scalars as numbers.
use Rattle.std.specs.Prelude.{ℕ, ◌<◌, ◌^◌, ◌==◌, ◌++◌, List, [], ◌∷◌, Option, Some, None, nat_lt, slice_get, if◌then◌else◌, ⊤}
use Rattle.abi_base.specs.declared.primitive.Primitive.{Primitive}
use Rattle.abi_base.specs.declared.primitive.Primitive.TheVariants.{Int, Float, Pointer}
use Rattle.abi_base.specs.declared.integer.Integer.{Integer}
use Rattle.abi_base.specs.declared.integer.Integer.TheVariants.{I8, I16, I32, I64, I128}
use Rattle.abi_base.specs.declared.float.Float.{Float as AFloat}
use Rattle.abi_base.specs.declared.float.Float.TheVariants.{F16, F32, F64, F128, F16B, PpcF128}
use Rattle.abi_scalar.specs.declared.scalar.Scalar.{Scalar}
use Rattle.abi_scalar.specs.declared.scalar.Scalar.TheVariants.{Initialized, Union}
use Rattle.abi_c.specs.Numbers.Pieces.{◌>>=◌, Front, flat_bool, flat_wide, bool_numbered, front_word, front_wide}

-- an integer's number
abbrev pub integer_number : Integer → ℕ
integer_number I8 = 0
integer_number I16 = 1
integer_number I32 = 2
integer_number I64 = 3
integer_number I128 = 4

-- all integers, by their numbers
abbrev pub integers_by_number : List Integer
integers_by_number = I8 ∷ I16 ∷ I32 ∷ I64 ∷ I128 ∷ []

-- the integer with the number
abbrev pub integer_numbered : ℕ → Option Integer
integer_numbered n = slice_get integers_by_number n

-- a float's number
abbrev pub float_number : AFloat → ℕ
float_number F16 = 0
float_number F32 = 1
float_number F64 = 2
float_number F128 = 3
float_number F16B = 4
float_number PpcF128 = 5

-- all floats, by their numbers
abbrev pub floats : List AFloat
floats = F16 ∷ F32 ∷ F64 ∷ F128 ∷ F16B ∷ PpcF128 ∷ []

-- the float with the number
abbrev pub float_numbered : ℕ → Option AFloat
float_numbered n = slice_get floats n

-- a primitive: 0 for an integer, its number, and whether it is signed; 1 for a float and its number; 2 for a pointer and its
-- address space; the last number of both is 0
abbrev pub flat_primitive : Primitive → List ℕ
flat_primitive (Int integer signed) = 0 ∷ integer_number integer ∷ flat_bool signed ∷ []
flat_primitive (Float float) = 1 ∷ float_number float ∷ 0 ∷ []
flat_primitive (Pointer space) = 2 ∷ space.0 ∷ 0 ∷ []

-- a scalar: 0, its primitive, and its range's start and end; or 1 and its primitive where it is a union's
abbrev pub flat_scalar : Scalar → List ℕ
flat_scalar (Initialized value range) = 0 ∷ flat_primitive value ++ flat_wide range.start ++ flat_wide range.end
flat_scalar (Union value) = 1 ∷ flat_primitive value

-- an address space has 32 bits
abbrev pub IsPrimitive : Primitive → Type 0
IsPrimitive (Pointer space) = space.0 < 2 ^ 32
IsPrimitive _ = ⊤

-- so has that of its primitive
abbrev pub IsScalar : Scalar → Type 0
IsScalar (Initialized value range) = IsPrimitive value
IsScalar (Union value) = IsPrimitive value

-- the primitive of three numbers
abbrev pub primitive_numbered : (kind which sign : ℕ) → Option Primitive
primitive_numbered kind which sign =
    if kind == 0
    then (integer_numbered which >>= λ integer. bool_numbered sign >>= λ signed. Some (Int integer signed))
    else (
    if sign == 0
    then (
    if kind == 1
    then (float_numbered which >>= λ float. Some (Float float))
    else (if kind == 2 then (if nat_lt which (2 ^ 32) then Some (Pointer (record { 0 = which })) else None) else None)
    )
    else None
    )

-- a primitive
abbrev pub front_primitive : Front Primitive
front_primitive ns = do
  kind ← front_word ns
  which ← front_word kind.1
  sign ← front_word which.1
  value ← primitive_numbered kind.0 which.0 sign.0
  Some (value, sign.1)

-- the range behind a scalar's primitive
abbrev pub front_range : Primitive → Front Scalar
front_range value ns = do
  start ← front_wide ns
  end ← front_wide start.1
  Some (Initialized value (record { start = start.0; end = end.0 }), end.1)

-- a scalar
abbrev pub front_scalar : Front Scalar
front_scalar ns = do
  form ← front_word ns
  value ← front_primitive form.1
  if form.0 == 0 then front_range value.0 value.1 else (if form.0 == 1 then Some (Union value.0, value.1) else None)
