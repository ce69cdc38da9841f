-- Ranges of numbers that may wrap round, as sets.
use Rattle.std.specs.Prelude.{◌≡◌, ◌≢◌, ℕ, ◌+◌, ◌-◌, ◌*◌, ◌%◌, ◌^◌, ◌<◌, ◌≤◌, ◌⊎◌}
use Rattle.abi_scalar.specs.declared.wrapping_range.WrappingRange.{WrappingRange}

-- how many numbers have so many bytes
abbrev pub numbers_of : (width : ℕ) → ℕ
numbers_of width = 2 ^ (8 * width)

-- the number is met when counting from the range's start to its end, in numbers of so many bytes
abbrev pub IsIn : (width : ℕ) → WrappingRange → ℕ → Type 0
IsIn width range n =
    (steps : ℕ) × (n ≡ (range.start + steps) % numbers_of width) × ((k : ℕ) → k < steps → (range.start + k) % numbers_of width ≢ range.end)

-- the same by comparison, for a number and ends of one width
abbrev pub IsBetween : (start end n : ℕ) → Type 0
IsBetween start end n =
    ((start ≤ end) × (start ≤ n) × (n ≤ end)) ⊎ ((end < start) × (start ≤ n)) ⊎ ((end < start) × (n ≤ end))

-- a number of the width that the range doesn't have
abbrev pub IsFree : (width : ℕ) → WrappingRange → ℕ → Type 0
IsFree width range n = (n < numbers_of width) × (IsIn width range n → ⊥)

-- both ends are numbers of the width
abbrev pub AreWithin : (width : ℕ) → WrappingRange → Type 0
AreWithin width range = (range.start < numbers_of width) × (range.end < numbers_of width)

-- how many numbers of the width the range doesn't have
abbrev pub free_count : (width : ℕ) → WrappingRange → ℕ
free_count width range = (range.start + numbers_of width - (range.end + 1)) % numbers_of width

-- the range with every number of the width
abbrev pub full_range : (width : ℕ) → WrappingRange
full_range width = record { start = 0; end = numbers_of width - 1 }

-- how many steps lead from one number of the width to another, counting up
abbrev pub steps_between : (width start end : ℕ) → ℕ
steps_between width start end = (end + numbers_of width - start) % numbers_of width

-- no number of the width is free
abbrev pub IsFull : (width : ℕ) → WrappingRange → Type 0
IsFull width range = (n : ℕ) → n < numbers_of width → IsIn width range n

-- each number of the second range is one of the first
abbrev pub Includes : (width : ℕ) → WrappingRange → WrappingRange → Type 0
Includes width range other = (n : ℕ) → IsIn width other n → IsIn width range n
