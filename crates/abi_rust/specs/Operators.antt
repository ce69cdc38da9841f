-- What operators make of values.
use Rattle.std.specs.Prelude.{ℕ, ◌-◌, ◌*◌, ◌%◌, ◌^◌, ◌&&◌, ◌||◌, not, nat_eq, min, max, bit_and, bit_or, bit_xor, unsigned_abs, Bool, true, false, ℤ, pos, negsuc, neg_ℤ, ◌+ℤ◌, ◌*ℤ◌, int_lt, int_le, int_div, int_rem, Result, Ok, Err, if◌then◌else◌}
use Rattle.std.specs.Int.{bit_not, cast_unsigned, int_div_euclid, w128}
use Rattle.rust_source.specs.declared.syntax.Binary.{Binary}
use Rattle.rust_source.specs.declared.syntax.Binary.TheVariants as operator
use Rattle.rust_source.specs.declared.syntax.IntegerKind.{IntegerKind}
use Rattle.rust_source.specs.declared.syntax.IntegerKind.TheVariants.{I8, I16, I32, I64, I128, Isize, U8, U16, U32, U64, U128, Usize}
use Rattle.rust_source.specs.declared.syntax.Unary.{Unary}
use Rattle.rust_source.specs.declared.syntax.Unary.TheVariants.{Minus, Not}
use Rattle.abi_rust.specs.declared.fault.FaultKind.{FaultKind}
use Rattle.abi_rust.specs.declared.fault.FaultKind.TheVariants.{DivisionByZero, Overflow, WrongType}
use Rattle.abi_rust.specs.declared.ty.Kind.{Kind}
use Rattle.abi_rust.specs.declared.ty.Kind.TheVariants.{Bool as BoolKind, Char as CharKind, Integer as KindInteger}
use Rattle.abi_rust.specs.Int.{wrapped}
use Rattle.abi_rust.specs.Values.{ValueRead, code, number, truth}

-- what comes out: a value or what is wrong
abbrev pub Made : Type 0
Made = Result ValueRead FaultKind

-- how many bits an integer type has, under pointers of so many, of which 1 to 128 count
abbrev pub bits_of_integer : (pointer_bits : ℕ) → IntegerKind → ℕ
bits_of_integer n I8 = 8
bits_of_integer n I16 = 16
bits_of_integer n I32 = 32
bits_of_integer n I64 = 64
bits_of_integer n I128 = 128
bits_of_integer n Isize = min (max n 1) 128
bits_of_integer n U8 = 8
bits_of_integer n U16 = 16
bits_of_integer n U32 = 32
bits_of_integer n U64 = 64
bits_of_integer n U128 = 128
bits_of_integer n Usize = min (max n 1) 128

-- it has negative numbers
abbrev pub is_signed : IntegerKind → Bool
is_signed I8 = true
is_signed I16 = true
is_signed I32 = true
is_signed I64 = true
is_signed I128 = true
is_signed Isize = true
is_signed _ = false

-- an integer type's number among them
abbrev pub number_of_kind : IntegerKind → ℕ
number_of_kind I8 = 0
number_of_kind I16 = 1
number_of_kind I32 = 2
number_of_kind I64 = 3
number_of_kind I128 = 4
number_of_kind Isize = 5
number_of_kind U8 = 6
number_of_kind U16 = 7
number_of_kind U32 = 8
number_of_kind U64 = 9
number_of_kind U128 = 10
number_of_kind Usize = 11

-- two integer types are one
abbrev pub same_integer : IntegerKind → IntegerKind → Bool
same_integer a b = nat_eq (number_of_kind a) (number_of_kind b)

-- two types of constants are one
abbrev pub is_same_kind : Kind → Kind → Bool
is_same_kind BoolKind BoolKind = true
is_same_kind CharKind CharKind = true
is_same_kind (KindInteger a) (KindInteger b) = same_integer a b
is_same_kind _ _ = false

-- a type of so many bits has the number
abbrev pub holds_number : (signed : Bool) (bits : ℕ) → ℤ → Bool
holds_number false k z = int_le (pos 0) z && int_lt z (pos (2 ^ k))
holds_number true k z = int_le (neg_ℤ (pos (2 ^ (k - 1)))) z && int_lt z (pos (2 ^ (k - 1)))

-- the number, where it fits the type
abbrev pub fitted : IntegerKind → (signed : Bool) (bits : ℕ) → ℤ → Made
fitted kind s k z = if holds_number s k z then Ok (number kind z) else Err (Overflow kind)

-- what an operator before its operand makes of it, under pointers of so many bits
abbrev pub unary_of : (pointer_bits : ℕ) → Unary → ValueRead → Made
unary_of n Not (truth b) = Ok (truth (not b))
unary_of n Not (number kind z) = Ok (number kind (wrapped (is_signed kind) (bits_of_integer n kind) (bit_not w128 (cast_unsigned w128 z))))
unary_of n Minus (number kind z) = if is_signed kind then fitted kind true (bits_of_integer n kind) (neg_ℤ z) else Err WrongType
unary_of n _ _ = Err WrongType

-- the first operand decides
abbrev pub is_settled : Binary → ValueRead → Bool
is_settled operator.And (truth false) = true
is_settled operator.Or (truth true) = true
is_settled _ _ = false

-- what a comparison tells
abbrev pub order_of : Binary → (a b : ℤ) → Made
order_of operator.Equal a b = Ok (truth (not (int_lt a b) && not (int_lt b a)))
order_of operator.NotEqual a b = Ok (truth (int_lt a b || int_lt b a))
order_of operator.Less a b = Ok (truth (int_lt a b))
order_of operator.LessOrEqual a b = Ok (truth (not (int_lt b a)))
order_of operator.Greater a b = Ok (truth (int_lt b a))
order_of operator.GreaterOrEqual a b = Ok (truth (not (int_lt a b)))
order_of _ a b = Err WrongType

-- a truth as a number
abbrev pub number_of_truth : Bool → ℕ
number_of_truth false = 0
number_of_truth true = 1

-- what an operator makes of truths
abbrev pub of_truths : Binary → (a b : Bool) → Made
of_truths operator.And a b = Ok (truth (a && b))
of_truths operator.BitAnd a b = Ok (truth (a && b))
of_truths operator.Or a b = Ok (truth (a || b))
of_truths operator.BitOr a b = Ok (truth (a || b))
of_truths operator.BitXor a b = Ok (truth (if a then not b else b))
of_truths o a b = order_of o (pos (number_of_truth a)) (pos (number_of_truth b))

-- a shift by the number leaves some of so many bits
abbrev pub is_shift_by : (bits : ℕ) → ℤ → Bool
is_shift_by k z = int_le (pos 0) z && int_lt z (pos k)

-- the number times two to the power, of which the lowest bits stay
abbrev pub shifted_left : IntegerKind → (signed : Bool) (bits : ℕ) → (a b : ℤ) → Made
shifted_left kind s k a b =
    if is_shift_by k b then fitted kind s k (wrapped s k (cast_unsigned w128 a * 2 ^ unsigned_abs b % 2 ^ 128)) else Err (Overflow kind)

-- the number over two to the power, cut downwards
abbrev pub shifted_right : IntegerKind → (signed : Bool) (bits : ℕ) → (a b : ℤ) → Made
shifted_right kind s k a b =
    if is_shift_by k b then fitted kind s k (int_div_euclid a (pos (2 ^ unsigned_abs b))) else Err (Overflow kind)

-- the number is 0, by which nothing is divided
abbrev pub is_zero : ℤ → Bool
is_zero (pos n) = nat_eq n 0
is_zero (negsuc n) = false

-- what follows where there is no fault
abbrev pub behind_made : (ValueRead → Made) → Made → Made
behind_made next (Ok v) = next v
behind_made next (Err e) = Err e

-- the quotient, cut towards zero
abbrev pub divided : IntegerKind → (signed : Bool) (bits : ℕ) → (a b : ℤ) → Made
divided kind s k a b = if is_zero b then Err DivisionByZero else fitted kind s k (int_div a b)

-- the number of a type whose bits an operator makes of both numbers' bits
abbrev pub of_bits : (ℕ → ℕ → ℕ) → IntegerKind → (signed : Bool) (bits : ℕ) → (a b : ℤ) → Made
of_bits f kind s k a b = Ok (number kind (wrapped s k (f (cast_unsigned w128 a) (cast_unsigned w128 b))))

-- what an operator makes of two numbers of one type
abbrev pub of_numbers : Binary → IntegerKind → (signed : Bool) (bits : ℕ) → (a b : ℤ) → Made
of_numbers operator.Add kind s k a b = fitted kind s k (a +ℤ b)
of_numbers operator.Sub kind s k a b = fitted kind s k (a +ℤ neg_ℤ b)
of_numbers operator.Mul kind s k a b = fitted kind s k (a *ℤ b)
of_numbers operator.Div kind s k a b = divided kind s k a b
of_numbers operator.Rem kind s k a b = behind_made (λ _. fitted kind s k (int_rem a b)) (divided kind s k a b)
of_numbers operator.BitAnd kind s k a b = of_bits bit_and kind s k a b
of_numbers operator.BitOr kind s k a b = of_bits bit_or kind s k a b
of_numbers operator.BitXor kind s k a b = of_bits bit_xor kind s k a b
of_numbers o kind s k a b = order_of o a b

-- what an operator makes of two numbers, of two types for a shift alone
abbrev pub of_two : Binary → (signed : Bool) (bits : ℕ) → (kind other : IntegerKind) → (a b : ℤ) → Made
of_two operator.Shl s k kind other a b = shifted_left kind s k a b
of_two operator.Shr s k kind other a b = shifted_right kind s k a b
of_two o s k kind other a b = if same_integer kind other then of_numbers o kind s k a b else Err WrongType

-- what an operator between two values makes of them
abbrev pub binary_of : (pointer_bits : ℕ) → Binary → (left right : ValueRead) → Made
binary_of n o (truth a) (truth b) = of_truths o a b
binary_of n o (code a) (code b) = order_of o (pos a) (pos b)
binary_of n o (number kind a) (number other b) = of_two o (is_signed kind) (bits_of_integer n kind) kind other a b
binary_of n o _ _ = Err WrongType

-- a value's bits
abbrev pub bits_of_value : ValueRead → ℕ
bits_of_value (truth b) = number_of_truth b
bits_of_value (code c) = c
bits_of_value (number kind z) = cast_unsigned w128 z

-- what a cast to a character makes of a value: of one, and of a byte
abbrev pub as_code : ValueRead → Made
as_code (code c) = Ok (code c)
as_code (number U8 z) = Ok (code (unsigned_abs z % 256))
as_code _ = Err WrongType

-- a truth value, and nothing else
abbrev pub as_truth : ValueRead → Made
as_truth (truth b) = Ok (truth b)
as_truth _ = Err WrongType

-- what a cast makes of a value
abbrev pub cast_of : (pointer_bits : ℕ) → Kind → ValueRead → Made
cast_of n (KindInteger kind) v = Ok (number kind (wrapped (is_signed kind) (bits_of_integer n kind) (bits_of_value v)))
cast_of n CharKind v = as_code v
cast_of n BoolKind v = as_truth v

-- what comes out, seen in another way
abbrev pub seen : {A B E : Type 0} → (A → B) → Result A E → Result B E
seen view (Ok a) = Ok (view a)
seen view (Err e) = Err e
