-- Ranges that have no gap, when their numbers are read as unsigned or as signed.
use Rattle.std.specs.Prelude.{ℕ, ◌+◌, ◌-◌, ◌*◌, ◌%◌, ◌^◌, ◌<◌, ◌≤◌}
use Rattle.abi_scalar.specs.declared.wrapping_range.WrappingRange.{WrappingRange}
use Rattle.abi_scalar.specs.Range.{numbers_of, IsIn}

-- how many numbers of the width are below this one, where they are read as unsigned
abbrev pub unsigned_place : (width : ℕ) → ℕ → ℕ
unsigned_place width n = n

-- how many numbers of the width are below this one, where they are read as signed
abbrev pub signed_place : (width : ℕ) → ℕ → ℕ
signed_place width n = (n + 2 ^ (8 * width - 1)) % numbers_of width

-- what lies between two numbers of the range is in it
abbrev pub HasNoGap : (place : ℕ → ℕ → ℕ) → (width : ℕ) → WrappingRange → Type 0
HasNoGap place width range =
    (a b n : ℕ) → IsIn width range a → IsIn width range b → n < numbers_of width
    → place width a ≤ place width n → place width n ≤ place width b → IsIn width range n
