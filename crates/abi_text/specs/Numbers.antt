-- Decimal numbers with no sign, and those of discriminants, which may have one.
use Rattle.std.specs.Prelude.{ℕ, ◌+◌, ◌-◌, ◌*◌, ◌^◌, ◌==◌, List, [], ◌∷◌, Option, None, Some, nat_le, if◌then◌else◌}
use Rattle.std.specs.Char.{is_ascii_digit}

-- the number that goes on with these digits
abbrev pub digits_from : (n : ℕ) → List ℕ → Option ℕ
digits_from n [] = Some n
digits_from n (d ∷ ds) = if is_ascii_digit d then digits_from (n * 10 + (d - 48)) ds else None

-- the number, if it is no greater
abbrev pub fitting : (most : ℕ) → Option ℕ → Option ℕ
fitting most None = None
fitting most (Some n) = if nat_le n most then Some n else None

-- the number that the word is, where it's no greater than this one
abbrev pub number_to : (most : ℕ) → List ℕ → Option ℕ
number_to most [] = None
number_to most (d ∷ ds) = fitting most (digits_from 0 (d ∷ ds))

-- a number of so many bits
abbrev pub number_of_bits : (bits : ℕ) → List ℕ → Option ℕ
number_of_bits bits w = number_to (2 ^ bits - 1) w

-- minus the number, as two's complement of 128 bits; no number for 0
abbrev pub negated : Option ℕ → Option ℕ
negated None = None
negated (Some n) = if n == 0 then None else Some (2 ^ 128 - n)

-- the discriminant that the word is: a number of 128 bits, or `-` and a number from 1 to 2 ^ 127
abbrev pub discriminant_in : List ℕ → Option ℕ
discriminant_in [] = None
discriminant_in (b ∷ bs) = if b == 45 then negated (number_to (2 ^ 127) bs) else number_of_bits 128 (b ∷ bs)
