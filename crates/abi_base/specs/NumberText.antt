-- Numbers in a data layout string: decimal digits after at most one plus.
use Rattle.std.specs.Prelude.{ℕ, List, [], ◌∷◌, Bool, false, ◌&&◌, Result, Ok, Err, nat_lt, if◌then◌else◌}
use Rattle.std.specs.Str.{all_ascii_digits}
use Rattle.std.specs.Str.Parse.{digits_value, without_leading_plus}
use Rattle.abi_base.specs.declared.parse_number.NumberError.{NumberError}
use Rattle.abi_base.specs.declared.parse_number.NumberError.TheVariants.{Empty, InvalidDigit, PosOverflow}

-- one digit or more, and nothing else
abbrev pub is_numeral : List ℕ → Bool
is_numeral [] = false
is_numeral (d ∷ ds) = all_ascii_digits (d ∷ ds)

-- why a text is no number that fits
abbrev pub number_error : List ℕ → NumberError
number_error [] = Empty
number_error (b ∷ bs) = if is_numeral (without_leading_plus (b ∷ bs)) then PosOverflow else InvalidDigit

-- the number below a limit that the text writes, or why it writes none
unfoldable pub number_answer : (limit : ℕ) → List ℕ → Result ℕ NumberError
number_answer limit text =
    if is_numeral (without_leading_plus text) && nat_lt (digits_value 10 (without_leading_plus text)) limit
    then Ok (digits_value 10 (without_leading_plus text))
    else Err (number_error text)
