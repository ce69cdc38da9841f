-- What the text of a number or of a character is worth.
use Rattle.std.specs.Prelude.{ℕ, ◌+◌, ◌-◌, ◌*◌, ◌^◌, ◌==◌, ◌&&◌, ◌||◌, Bool, true, false, not, codes, List, [], ◌∷◌, drop, take, length, map, nat_le, nat_lt, slice_range, Option, None, Some, Result, Ok, Err, if◌then◌else◌}
use Rattle.std.specs.Borrow.{Bor}
use Rattle.std.specs.List.{filter}
use Rattle.std.specs.Option.{unwrap_or}
use Rattle.std.specs.Str.{bytes_eq}
use Rattle.rust_source.specs.declared.fault.SourceFaultKind.{SourceFaultKind}
use Rattle.rust_source.specs.declared.fault.SourceFaultKind.TheVariants.{BadCharacter}
use Rattle.rust_source.specs.declared.reader.literals.Number.{Number}
use Rattle.rust_source.specs.declared.reader.literals.Number.TheVariants as number
use Rattle.rust_source.specs.declared.syntax.IntegerKind.{IntegerKind}
use Rattle.rust_source.specs.declared.syntax.IntegerKind.TheVariants as integer
use Rattle.rust_source.specs.Characters.{byte_at, first_char, is_scalar}
use Rattle.rust_source.specs.Numerals.{has_base}

-- the integer types, as they are written
unfoldable pub integer_kinds : List (List ℕ × IntegerKind)
integer_kinds =
    (codes "i8", integer.I8) ∷
    (codes "i16", integer.I16) ∷
    (codes "i32", integer.I32) ∷
    (codes "i64", integer.I64) ∷
    (codes "i128", integer.I128) ∷
    (codes "isize", integer.Isize) ∷
    (codes "u8", integer.U8) ∷
    (codes "u16", integer.U16) ∷
    (codes "u32", integer.U32) ∷
    (codes "u64", integer.U64) ∷
    (codes "u128", integer.U128) ∷
    (codes "usize", integer.Usize) ∷
    []

-- what a table of the program has at a place
abbrev pub kind_entry : Bor (List ℕ) × IntegerKind → List ℕ × IntegerKind
kind_entry e = (e.0.now, e.1)

-- the first of these that has the name
abbrev pub integer_kind_in : List (List ℕ × IntegerKind) → (name : List ℕ) → Option IntegerKind
integer_kind_in [] name = None
integer_kind_in (k ∷ ks) name = if bytes_eq k.0 name then Some k.1 else integer_kind_in ks name

-- the integer type of this name
unfoldable pub integer_kind : (name : List ℕ) → Option IntegerKind
integer_kind name = integer_kind_in integer_kinds name

-- the value of a digit in bases up to sixteen; 16 where it is none
abbrev pub digit_value : ℕ → ℕ
digit_value b =
    if nat_le 48 b && nat_le b 57 then b - 48
    else (if nat_le 97 b && nat_le b 102 then b - 97 + 10
    else (if nat_le 65 b && nat_le b 70 then b - 65 + 10 else 16))

-- a digit of the base, or `_`
abbrev pub is_digit_in : (base b : ℕ) → Bool
is_digit_in base b = (b == 95) || nat_lt (digit_value b) base

-- where the digits end that have come this far
abbrev pub digits_end : (base at : ℕ) → List ℕ → ℕ
digits_end base at [] = at
digits_end base at (b ∷ bs) = if is_digit_in base b then digits_end base (at + 1) bs else at

-- how many digits of a base, and `_`, the bytes begin with
unfoldable pub digits_length : (base : ℕ) → List ℕ → ℕ
digits_length base bytes = digits_end base 0 bytes

-- what digits are worth behind those that are worth so much
abbrev pub worth_behind : (base before : ℕ) → List ℕ → ℕ
worth_behind base before [] = before
worth_behind base before (d ∷ ds) = worth_behind base (before * base + d) ds

-- the number that a digit makes behind others, where it fits 128 bits
abbrev pub with_digit : (base : ℕ) → (before : Option ℕ) → (digit : ℕ) → Option ℕ
with_digit base before digit = let n = unwrap_or before 0 * base + digit in if nat_lt n (2 ^ 128) then Some n else None

-- each is a digit of the base
abbrev pub all_below : (base : ℕ) → List ℕ → Bool
all_below base [] = true
all_below base (d ∷ ds) = nat_lt d base && all_below base ds

-- what the digits of a base are worth; none where there is none, one is too great, or the number doesn't fit 128 bits
abbrev pub worth : (base : ℕ) → (digits : List ℕ) → Option ℕ
worth base [] = None
worth base (d ∷ ds) =
    if all_below base (d ∷ ds) && nat_lt (worth_behind base 0 (d ∷ ds)) (2 ^ 128) then Some (worth_behind base 0 (d ∷ ds)) else None

-- the number that the digits of a base are, `_` aside
unfoldable pub digits_value : (base : ℕ) → List ℕ → Option ℕ
digits_value base bytes = worth base (map digit_value (filter (λ b. not (b == 95)) bytes))

-- the number that digits are worth with a suffix: none, or an integer type's name
abbrev pub suffixed : Option ℕ → (kind : Option IntegerKind) → (is_bare : Bool) → Number
suffixed None kind is_bare = number.Bad
suffixed (Some n) (Some k) is_bare = number.Integer n (Some k)
suffixed (Some n) None is_bare = if is_bare then number.Integer n None else number.Bad

-- the number that digits of a base are, and the suffix behind them
unfoldable pub number_of_digits : (base : ℕ) → List ℕ → Number
number_of_digits base text =
    let n = digits_length base text in
    suffixed (digits_value base (take n text)) (integer_kind (drop n text)) (length (drop n text) == 0)

-- the name of a float's type
abbrev pub is_float_type : List ℕ → Bool
is_float_type name =
    bytes_eq (codes "f32") name || bytes_eq (codes "f64") name || bytes_eq (codes "f16") name || bytes_eq (codes "f128") name

-- what follows a decimal number's digits makes it a float: a point, an exponent, or the name of a float's type
abbrev pub is_float_tail : List ℕ → Bool
is_float_tail [] = false
is_float_tail (b ∷ bs) = (b == 46) || (b == 101) || (b == 69) || is_float_type (b ∷ bs)

-- the base that the letter behind a `0` names: `x`, `o` or `b`
abbrev pub base_of : List ℕ → ℕ
base_of text = if byte_at text 1 == 120 then 16 else (if byte_at text 1 == 111 then 8 else 2)

-- what a number is that a source writes so
unfoldable pub number_written : List ℕ → Number
number_written text =
    if has_base text then number_of_digits (base_of text) (drop 2 text)
    else (if is_float_tail (drop (digits_length 10 text) text) then number.Float else number_of_digits 10 text)

-- the code of a character that an escape's letter names
abbrev pub letter_code : (letter : ℕ) → Option ℕ
letter_code c =
    if c == 110 then Some 10
    else (if c == 114 then Some 13
    else (if c == 116 then Some 9
    else (if c == 48 then Some 0
    else (if (c == 92) || (c == 39) || (c == 34) then Some c else None))))

-- a number that is a character's code
abbrev pub code_from : Option ℕ → Option ℕ
code_from None = None
code_from (Some n) = if is_scalar n then Some n else None

-- the bytes between a first one and a last one
unfoldable pub bytes_between : (first last : ℕ) → List ℕ → Option (List ℕ)
bytes_between first last bytes =
    if nat_le 2 (length bytes) && (byte_at bytes 0 == first) && (byte_at bytes (length bytes - 1) == last)
    then Some (slice_range bytes 1 (length bytes - 1)) else None

-- the code that hexadecimal digits are
abbrev pub hex_code : Option (List ℕ) → Option ℕ
hex_code None = None
hex_code (Some digits) = code_from (digits_value 16 digits)

-- the code that the digits behind an escape's letter are, as in `\x41` and `\u{7b}`
unfoldable pub escaped_code : (letter : ℕ) → (digits : List ℕ) → Option ℕ
escaped_code letter digits =
    if letter == 120 then hex_code (Some digits)
    else (if letter == 117 then hex_code (bytes_between 123 125 digits) else None)

-- the code of an escape, whose first character behind the backslash, and its bytes, are these
abbrev pub escape_by : (rest : List ℕ) → Option (ℕ × ℕ) → Option ℕ
escape_by rest None = None
escape_by rest (Some c) = if length (drop c.1 rest) == 0 then letter_code c.0 else escaped_code c.0 (drop c.1 rest)

-- the code of the one character that the bytes are, whose first character, and its bytes, are these
abbrev pub code_by : (inside : List ℕ) → Option (ℕ × ℕ) → Option ℕ
code_by inside None = None
code_by inside (Some c) =
    let rest = drop c.1 inside in
    if c.0 == 92 then escape_by rest (first_char rest) else (if length rest == 0 then Some c.0 else None)

-- the code of the one character between the quotes
abbrev pub code_within : Option (List ℕ) → Option ℕ
code_within None = None
code_within (Some inside) = code_by inside (first_char inside)

-- the code, where there is one
abbrev pub code_or_fault : Option ℕ → Result ℕ SourceFaultKind
code_or_fault None = Err BadCharacter
code_or_fault (Some code) = Ok code

-- the code of a character's literal, or of a byte's behind its `b`
unfoldable pub char_code : List ℕ → Result ℕ SourceFaultKind
char_code text = code_or_fault (code_within (bytes_between 39 39 text))
