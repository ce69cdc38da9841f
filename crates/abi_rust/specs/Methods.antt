-- What methods of integers make of numbers, as the standard library has them.
use Rattle.std.specs.Prelude.{ℕ, ◌+◌, ◌-◌, ◌*◌, ◌%◌, ◌^◌, min, Bool, true, false, ℤ, pos, neg_ℤ, ◌+ℤ◌, ◌*ℤ◌, int_lt, nat_lt, unsigned_abs, count_ones, Option, Some, None, Ok, Err, if◌then◌else◌}
use Rattle.std.specs.Int.{cast_unsigned, div_ceil, int_div_euclid, int_pow, int_rem_euclid, is_power_of_two, leading_zeros, trailing_zeros, w128}
use Rattle.std.specs.Option.{option_map}
use Rattle.rust_source.specs.declared.syntax.IntegerKind.{IntegerKind}
use Rattle.rust_source.specs.declared.syntax.IntegerKind.TheVariants.{I8, I16, I32, I64, I128, Isize, U8, U16, U32, U64, U128, Usize}
use Rattle.abi_rust.specs.declared.fault.FaultKind.TheVariants.{DivisionByZero, Overflow, WrongType}
use Rattle.abi_rust.specs.declared.methods.Method.{Method}
use Rattle.abi_rust.specs.declared.methods.Method.TheVariants.{Of, OfBoth}
use Rattle.abi_rust.specs.declared.methods.MethodOfOne.{MethodOfOne}
use Rattle.abi_rust.specs.declared.methods.MethodOfOne.TheVariants as one
use Rattle.abi_rust.specs.declared.methods.MethodOfTwo.{MethodOfTwo}
use Rattle.abi_rust.specs.declared.methods.MethodOfTwo.TheVariants as two
use Rattle.abi_rust.specs.declared.ty.Kind.{Kind}
use Rattle.abi_rust.specs.declared.ty.Kind.TheVariants.{Bool as BoolKind, Integer as KindInteger}
use Rattle.abi_rust.specs.Int.{greatest_number, least_number, nearest_number}
use Rattle.abi_rust.specs.Operators.{Made, behind_made, bits_of_integer, fitted, is_signed, is_zero, of_bits}
use Rattle.abi_rust.specs.Values.{ValueRead, number, truth}

-- how many binary digits a number has: none for 0
abbrev pub binary_digits : ℕ → ℕ
binary_digits n = 128 - leading_zeros w128 n

-- the bits of a number, as many as its type has
abbrev pub bits_within : (bits : ℕ) → ℤ → ℕ
bits_within k z = cast_unsigned w128 z % 2 ^ k

-- what a type without a sign alone has
abbrev pub if_unsigned : (signed : Bool) → Made → Made
if_unsigned s made = if s then Err WrongType else made

-- a count, which is a `u32`
abbrev pub counted : ℕ → Made
counted n = Ok (number U32 (pos n))

-- what a method makes of a number
abbrev pub of_one : MethodOfOne → IntegerKind → (signed : Bool) (bits : ℕ) → ℤ → Made
of_one one.NextPowerOfTwo kind s k z = if_unsigned s (fitted kind s k (pos (2 ^ binary_digits (unsigned_abs z - 1))))
of_one one.IsPowerOfTwo kind s k z = if_unsigned s (Ok (truth (is_power_of_two (unsigned_abs z))))
of_one one.CountOnes kind s k z = counted (count_ones (bits_within k z))
of_one one.LeadingZeros kind s k z = counted (k - binary_digits (bits_within k z))
of_one one.TrailingZeros kind s k z = counted (min k (trailing_zeros w128 (bits_within k z)))
of_one one.Ilog2 kind s k z = if int_lt (pos 0) z then counted (binary_digits (unsigned_abs z) - 1) else Err (Overflow U32)

-- the type without a sign that has as many bits
abbrev pub unsigned_kind : IntegerKind → IntegerKind
unsigned_kind I8 = U8
unsigned_kind I16 = U16
unsigned_kind I32 = U32
unsigned_kind I64 = U64
unsigned_kind I128 = U128
unsigned_kind Isize = Usize
unsigned_kind kind = kind

-- the type of a method's other number: that of the first, but of a power `u32`
abbrev pub kind_of_other : MethodOfTwo → IntegerKind → IntegerKind
kind_of_other two.Pow kind = U32
kind_of_other m kind = kind

-- the number of a type that is nearest
abbrev pub nearest : IntegerKind → (signed : Bool) (bits : ℕ) → ℤ → Made
nearest kind s k z = Ok (number kind (nearest_number s k z))

-- a quotient by a number, which isn't 0
abbrev pub unless_zero : ℤ → Made → Made
unless_zero b made = if is_zero b then Err DivisionByZero else made

-- the quotient whose remainder isn't negative
abbrev pub euclid : IntegerKind → (signed : Bool) (bits : ℕ) → (a b : ℤ) → Made
euclid kind s k a b = unless_zero b (fitted kind s k (int_div_euclid a b))

-- what a method makes of two numbers
abbrev pub of_both : MethodOfTwo → IntegerKind → (signed : Bool) (bits : ℕ) → (a b : ℤ) → Made
of_both two.Pow kind s k a b = if nat_lt (unsigned_abs b) (2 ^ 32) then fitted kind s k (int_pow a (unsigned_abs b)) else Err WrongType
of_both two.DivCeil kind s k a b = if_unsigned s (unless_zero b (fitted kind s k (pos (div_ceil (unsigned_abs a) (unsigned_abs b)))))
of_both two.AbsDiff kind s k a b = fitted (unsigned_kind kind) false k (pos (unsigned_abs (a +ℤ neg_ℤ b)))
of_both two.SaturatingAdd kind s k a b = nearest kind s k (a +ℤ b)
of_both two.SaturatingSub kind s k a b = nearest kind s k (a +ℤ neg_ℤ b)
of_both two.SaturatingMul kind s k a b = nearest kind s k (a *ℤ b)
of_both two.WrappingAdd kind s k a b = of_bits (λ x y. (x + y) % 2 ^ 128) kind s k a b
of_both two.WrappingSub kind s k a b = of_bits (λ x y. (x + (2 ^ 128 - y)) % 2 ^ 128) kind s k a b
of_both two.WrappingMul kind s k a b = of_bits (λ x y. (x * y) % 2 ^ 128) kind s k a b
of_both two.DivEuclid kind s k a b = euclid kind s k a b
of_both two.RemEuclid kind s k a b = behind_made (λ _. fitted kind s k (int_rem_euclid a b)) (euclid kind s k a b)

-- an integer type as a type of constants
abbrev pub suffix_kind : Option IntegerKind → Option Kind
suffix_kind None = None
suffix_kind (Some kind) = Some (KindInteger kind)

-- the type of what a method makes of a number of a type, where that is known
abbrev pub kind_made : Method → Option IntegerKind → Option Kind
kind_made (Of one.IsPowerOfTwo) kind = Some BoolKind
kind_made (Of one.NextPowerOfTwo) kind = suffix_kind kind
kind_made (Of m) kind = Some (KindInteger U32)
kind_made (OfBoth two.AbsDiff) kind = suffix_kind (option_map unsigned_kind kind)
kind_made m kind = suffix_kind kind

-- the value of a method that is called on a value alone
abbrev pub made_of_one : (pointer_bits : ℕ) → MethodOfOne → ValueRead → Made
made_of_one n m (number kind z) = of_one m kind (is_signed kind) (bits_of_integer n kind) z
made_of_one n m _ = Err WrongType

-- the value of a method that is called on a value and given another
abbrev pub made_of_both : (pointer_bits : ℕ) → MethodOfTwo → (value other : ValueRead) → Made
made_of_both n m (number kind a) (number other b) = of_both m kind (is_signed kind) (bits_of_integer n kind) a b
made_of_both n m _ _ = Err WrongType

-- the type that a method's other value has to have
abbrev pub kind_beside : MethodOfTwo → ValueRead → Option Kind
kind_beside m (number kind z) = Some (KindInteger (kind_of_other m kind))
kind_beside m _ = None

-- the least or the greatest number of an integer type
abbrev pub end_of : (pointer_bits : ℕ) → (is_greatest : Bool) → IntegerKind → ValueRead
end_of n false kind = number kind (least_number (is_signed kind) (bits_of_integer n kind))
end_of n true kind = number kind (greatest_number (is_signed kind) (bits_of_integer n kind))
