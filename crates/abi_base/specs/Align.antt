-- Alignments: powers of two, seen as exponents.
use Rattle.std.specs.Prelude.{ℕ, ◌-◌, ◌≤◌, ◌^◌, ◌==◌, List, ◌++◌, codes, nat_lt, if◌then◌else◌, Result, Ok, Err}
use Rattle.std.specs.Int.{trailing_zeros, leading_zeros, w64}
use Rattle.std.specs.Fmt.{decimal}
use Rattle.abi_base.specs.declared.align.AlignFromBytesError.{AlignFromBytesError}
use Rattle.abi_base.specs.declared.align.AlignFromBytesError.TheVariants.{NotPowerOfTwo, TooLarge}

-- the exponent of the greatest power of two that divides, 64 for no bytes
abbrev pub factor_exponent : ℕ → ℕ
factor_exponent bytes = trailing_zeros w64 bytes

-- the exponent of the greatest alignment that a type can ask for
abbrev pub max_exponent : ℕ
max_exponent = 29

-- the exponent of an alignment of so many bytes, 0 bytes read as 1, or why there is none
abbrev pub align_of_bytes : ℕ → Result ℕ AlignFromBytesError
align_of_bytes bytes =
    if bytes == 0 then Ok 0
    else (
    if 2 ^ factor_exponent bytes == bytes
    then (if nat_lt max_exponent (factor_exponent bytes) then Err (TooLarge bytes) else Ok (factor_exponent bytes))
    else Err (NotPowerOfTwo bytes)
    )

-- the exponent of the least power of two that is no less
abbrev pub next_exponent : ℕ → ℕ
next_exponent n = 64 - leading_zeros w64 (n - 1)

-- the exponent's power of two is the least that is no less
pub record IsLeastPower (n exponent : ℕ) : Type 0 where
  pub holds : n ≤ 2 ^ exponent
  pub least : (k : ℕ) → n ≤ 2 ^ k → exponent ≤ k

-- what the error says
abbrev pub align_error_text : AlignFromBytesError → List ℕ
align_error_text (NotPowerOfTwo bytes) = decimal bytes ++ codes " is not a power of 2"
align_error_text (TooLarge bytes) = decimal bytes ++ codes " is too large"
