-- The names that have a meaning of their own.
use Rattle.std.specs.Prelude.{ℕ, ◌+◌, ◌-◌, ◌%◌, ◌^◌, ◌==◌, ◌||◌, nat_eq, map, Bool, List, Option, Some, None, if◌then◌else◌}
use Rattle.abi_base.specs.declared.float.Float.TheVariants.{F16, F32, F64, F128}
use Rattle.rust_source.specs.declared.place.Symbol.{Symbol}
use Rattle.rust_source.specs.declared.syntax.IntegerKind.{IntegerKind}
use Rattle.rust_source.specs.declared.syntax.IntegerKind.TheVariants.{I8, I16, I32, I64, I128, Isize, U8, U16, U32, U64, U128, Usize}
use Rattle.abi_rust.specs.declared.methods.Method.{Method}
use Rattle.abi_rust.specs.declared.methods.Method.TheVariants.{Greatest, Least, Of, OfBoth}
use Rattle.abi_rust.specs.declared.methods.MethodOfOne.TheVariants as one
use Rattle.abi_rust.specs.declared.methods.MethodOfTwo.TheVariants as two
use Rattle.abi_rust.specs.declared.ty.Primitive.{Primitive}
use Rattle.abi_rust.specs.declared.ty.Primitive.TheVariants.{Bool as BoolType, Char, Str, Integer, Float}
use Rattle.abi_rust.specs.declared.words.TheConstants.{WORDS}
use Rattle.abi_rust.specs.declared.words.Word.{Word}
use Rattle.abi_rust.specs.declared.words.Word.TheVariants as word
use Rattle.abi_rust.specs.declared.words.Words.{Words}

-- the names of primitive types, then others, and then those of methods, in the order of their numbers
unfoldable pub known_words : List (List ℕ)
known_words = map (λ w. w.now) WORDS

-- how far a name stands behind the first of them
abbrev pub place_of_word : Word → ℕ
place_of_word word.Std = 19
place_of_word word.Core = 20
place_of_word word.Alloc = 21
place_of_word word.Max = 22
place_of_word word.Min = 23
place_of_word word.Bits = 24
place_of_word word.Mem = 25
place_of_word word.SizeOf = 26
place_of_word word.AlignOf = 27
place_of_word word.Prelude = 28
place_of_word word.Borrow = 29
place_of_word word.Owned = 30
place_of_word word.StringModule = 31
place_of_word word.String = 32
place_of_word word.VecModule = 33
place_of_word word.Vec = 34
place_of_word word.Ffi = 35
place_of_word word.CStr = 36
place_of_word word.CString = 37
place_of_word word.OsStr = 38
place_of_word word.OsString = 39
place_of_word word.PathModule = 40
place_of_word word.Path = 41
place_of_word word.PathBuf = 42
place_of_word word.ManuallyDrop = 43
place_of_word word.Libc = 44
place_of_word word.Len = 64

-- its number among all names
unfoldable pub symbol_of : Words → Word → Symbol
symbol_of ws w = record { 0 = (ws.first + place_of_word w) % 2 ^ 32 }

-- two names are one
abbrev pub is_same_name : Symbol → Symbol → Bool
is_same_name a b = nat_eq a.0 b.0

-- the name is this word
abbrev pub is_word : Words → Symbol → Word → Bool
is_word ws name w = is_same_name name (symbol_of ws w)

-- the integer type whose name stands so far behind the first
abbrev pub integer_at : ℕ → Option IntegerKind
integer_at n =
    if n == 3 then Some I8
    else (if n == 4 then Some I16
    else (if n == 5 then Some I32
    else (if n == 6 then Some I64
    else (if n == 7 then Some I128
    else (if n == 8 then Some Isize
    else (if n == 9 then Some U8
    else (if n == 10 then Some U16
    else (if n == 11 then Some U32
    else (if n == 12 then Some U64
    else (if n == 13 then Some U128
    else (if n == 14 then Some Usize else None)))))))))))

-- the integer type of this kind, where there is a kind
abbrev pub integer_type_by : Option IntegerKind → Option Primitive
integer_type_by None = None
integer_type_by (Some kind) = Some (Integer kind)

-- the primitive type whose name stands so far behind the first
abbrev pub primitive_at : ℕ → Option Primitive
primitive_at n =
    if n == 0 then Some BoolType
    else (if n == 1 then Some Char
    else (if n == 2 then Some Str
    else (if n == 15 then Some (Float F16)
    else (if n == 16 then Some (Float F32)
    else (if n == 17 then Some (Float F64)
    else (if n == 18 then Some (Float F128)
    else integer_type_by (integer_at n)))))))

-- the primitive type of this name
unfoldable pub primitive_named : Words → Symbol → Option Primitive
primitive_named ws name = primitive_at ((name.0 + 2 ^ 32 - ws.first) % 2 ^ 32)

-- the method of integers whose name stands so far behind the first
abbrev pub method_at : ℕ → Option Method
method_at n =
    if n == 45 then Some (Of one.NextPowerOfTwo)
    else (if n == 46 then Some (Of one.IsPowerOfTwo)
    else (if n == 47 then Some (Of one.CountOnes)
    else (if n == 48 then Some (Of one.LeadingZeros)
    else (if n == 49 then Some (Of one.TrailingZeros)
    else (if n == 50 then Some (Of one.Ilog2)
    else (if n == 51 then Some (OfBoth two.Pow)
    else (if n == 52 then Some (OfBoth two.DivCeil)
    else (if n == 53 then Some (OfBoth two.AbsDiff)
    else (if n == 54 then Some (OfBoth two.SaturatingAdd)
    else (if n == 55 then Some (OfBoth two.SaturatingSub)
    else (if n == 56 then Some (OfBoth two.SaturatingMul)
    else (if n == 57 then Some (OfBoth two.WrappingAdd)
    else (if n == 58 then Some (OfBoth two.WrappingSub)
    else (if n == 59 then Some (OfBoth two.WrappingMul)
    else (if n == 60 then Some (OfBoth two.DivEuclid)
    else (if n == 61 then Some (OfBoth two.RemEuclid)
    else (if n == 62 then Some Least
    else (if n == 63 then Some Greatest
    else None))))))))))))))))))

-- the method of integers of this name
unfoldable pub method_named : Words → Symbol → Option Method
method_named ws name = method_at ((name.0 + 2 ^ 32 - ws.first) % 2 ^ 32)

-- a name of the standard library
abbrev pub is_std : Words → Symbol → Bool
is_std ws name = is_word ws name word.Std || is_word ws name word.Core || is_word ws name word.Alloc
