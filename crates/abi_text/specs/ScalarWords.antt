-- The words that begin a scalar.
use Rattle.std.specs.Prelude.{ℕ, ◌||◌, Bool, true, false, List, codes, Option, None, Some, if◌then◌else◌}
use Rattle.std.specs.Str.{bytes_eq}
use Rattle.abi_base.specs.declared.integer.Integer.{Integer}
use Rattle.abi_base.specs.declared.integer.Integer.TheVariants.{I8, I16, I32, I64, I128}
use Rattle.abi_base.specs.declared.float.Float.{Float}
use Rattle.abi_base.specs.declared.float.Float.TheVariants.{F16, F16B, F32, F64, F128, PpcF128}
use Rattle.abi_text.specs.declared.reader.scalar_word.ScalarWord.{ScalarWord}
use Rattle.abi_text.specs.declared.reader.scalar_word.ScalarWord.TheVariants.{Integer as AnInteger, Index, Float as AFloat, Pointer, PointerIn, Bool as ABool, Char, Ref, Range, UnionOf}

-- the integer of this name, and whether it's signed
abbrev pub integer_named : List ℕ → Option (Integer × Bool)
integer_named w =
    if bytes_eq w (codes "u8") then Some (I8, false)
    else (if bytes_eq w (codes "u16") then Some (I16, false)
    else (if bytes_eq w (codes "u32") then Some (I32, false)
    else (if bytes_eq w (codes "u64") then Some (I64, false)
    else (if bytes_eq w (codes "u128") then Some (I128, false)
    else (if bytes_eq w (codes "i8") then Some (I8, true)
    else (if bytes_eq w (codes "i16") then Some (I16, true)
    else (if bytes_eq w (codes "i32") then Some (I32, true)
    else (if bytes_eq w (codes "i64") then Some (I64, true)
    else (if bytes_eq w (codes "i128") then Some (I128, true) else None)))))))))

-- integers as wide as an index
abbrev pub is_index_word : List ℕ → Bool
is_index_word w = bytes_eq w (codes "usize") || bytes_eq w (codes "isize")

-- the float format of this name
abbrev pub float_named : List ℕ → Option Float
float_named w =
    if bytes_eq w (codes "f16") then Some F16
    else (if bytes_eq w (codes "f16b") then Some F16B
    else (if bytes_eq w (codes "f32") then Some F32
    else (if bytes_eq w (codes "f64") then Some F64
    else (if bytes_eq w (codes "f128") then Some F128
    else (if bytes_eq w (codes "ppcf128") then Some PpcF128 else None)))))

-- the word of an integer
abbrev pub an_integer : Option (Integer × Bool) → Option ScalarWord
an_integer None = None
an_integer (Some p) = Some (AnInteger p.0 p.1)

-- the word of a float
abbrev pub a_float : Option Float → Option ScalarWord
a_float None = None
a_float (Some f) = Some (AFloat f)

-- the integer that a word names
abbrev pub integer_word : List ℕ → Option ScalarWord
integer_word w = an_integer (integer_named w)

-- the float that a word names
abbrev pub float_word : List ℕ → Option ScalarWord
float_word w = a_float (float_named w)

-- a word that is no integer's and no float's name
abbrev pub special_word : List ℕ → Option ScalarWord
special_word w =
    if bytes_eq w (codes "usize") then Some (Index false)
    else (if bytes_eq w (codes "isize") then Some (Index true)
    else (if bytes_eq w (codes "ptr") then Some Pointer
    else (if bytes_eq w (codes "ptrin") then Some PointerIn
    else (if bytes_eq w (codes "bool") then Some ABool
    else (if bytes_eq w (codes "char") then Some Char
    else (if bytes_eq w (codes "ref") then Some Ref
    else (if bytes_eq w (codes "range") then Some Range
    else (if bytes_eq w (codes "unionof") then Some UnionOf else None))))))))

-- the first of two that is there
abbrev pub first_of : {A : Type 0} → Option A → Option A → Option A
first_of None b = b
first_of (Some a) b = Some a

-- what the word means where a scalar may begin
abbrev pub scalar_word : List ℕ → Option ScalarWord
scalar_word w = first_of (integer_word w) (first_of (float_word w) (special_word w))
