-- How a scalar is written.
use Rattle.std.specs.Prelude.{ℕ, ◌-◌, ◌*◌, ◌%◌, ◌^◌, ◌==◌, ◌&&◌, ℤ, List, codes, ◌++◌, if◌then◌else◌}
use Rattle.std.specs.Int.Signed.{lt_z}
use Rattle.std.specs.Fmt.{signed_decimal}
use Rattle.abi_base.specs.declared.primitive.Primitive.{Primitive}
use Rattle.abi_base.specs.declared.primitive.Primitive.TheVariants.{Int, Float, Pointer}
use Rattle.abi_base.specs.Integer.{integer_size}
use Rattle.abi_base.specs.Float.{float_size}
use Rattle.abi_base.specs.Primitive.{primitive_text}
use Rattle.abi_base.specs.Size.{signed_value}
use Rattle.abi_scalar.specs.declared.scalar.Scalar.{Scalar}
use Rattle.abi_scalar.specs.declared.scalar.Scalar.TheVariants.{Initialized, Union}
use Rattle.abi_scalar.specs.declared.wrapping_range.WrappingRange.{WrappingRange}
use Rattle.abi_scalar.specs.Range.{numbers_of}
use Rattle.abi_scalar.specs.Scalar.{is_signed_integer}
use Rattle.abi_scalar.specs.RangeText.{range_text}

-- how many bytes the range is read at; those of a pointer are not known here, so they are taken to be 16
abbrev pub text_width : Primitive → ℕ
text_width (Int integer signed) = integer_size integer
text_width (Float float) = float_size float
text_width (Pointer space) = 16

-- a range of signed numbers, in two parts where it wraps round
abbrev pub signed_range_text : (start end : ℤ) → List ℕ
signed_range_text start end =
    if lt_z end start then codes "(..=" ++ signed_decimal end ++ codes ") | (" ++ signed_decimal start ++ codes "..)"
    else signed_decimal start ++ codes "..=" ++ signed_decimal end

-- what the low bytes of a number stand for as a signed number
abbrev pub low_signed : (width : ℕ) → ℕ → ℤ
low_signed width n = signed_value (width * 8) (n % 2 ^ (width * 8))

-- the range of a primitive: two dots for every number, from 0 to the greatest
abbrev pub bounds_text : Primitive → WrappingRange → List ℕ
bounds_text value range =
    if (range.start == 0) && (range.end == numbers_of (text_width value) - 1) then codes ".."
    else (if is_signed_integer value
    then signed_range_text (low_signed (text_width value) range.start) (low_signed (text_width value) range.end)
    else range_text range.start range.end)

-- the primitive and its range, or that it is a union's
abbrev pub scalar_text : Scalar → List ℕ
scalar_text (Initialized value range) = primitive_text value ++ codes " is " ++ bounds_text value range
scalar_text (Union value) = codes "union " ++ primitive_text value
