-- Integers of constants, as numbers.
use Rattle.std.specs.Prelude.{ℕ, ◌-◌, ◌%◌, ◌^◌, Bool, true, false, ℤ, pos, neg_ℤ, ◌-ℤ◌, ◌≤ℤ◌, ◌<ℤ◌, nat_lt, cond}
use Rattle.std.specs.Int.{int_max, int_min}
use Rattle.abi_rust.specs.declared.int.Int.{Int}
use Rattle.abi_rust.specs.declared.int.Width.{Width}

-- the number n, or minus it where the flag is set
abbrev pub signed : Bool → ℕ → ℤ
signed false n = pos n
signed true n = neg_ℤ (pos n)

-- the number that an integer is
abbrev pub number_of_int : Int → ℤ
number_of_int i = signed i.is_negative i.magnitude

-- a type of so many bits, signed or not, has the number
abbrev pub IsAmong : (is_signed : Bool) (bits : ℕ) → ℤ → Type 0
IsAmong false k z = (pos 0 ≤ℤ z) × (z <ℤ pos (2 ^ k))
IsAmong true k z = (neg_ℤ (pos (2 ^ (k - 1))) ≤ℤ z) × (z <ℤ pos (2 ^ (k - 1)))

-- the integer type has the number
abbrev pub Has : Width → ℤ → Type 0
Has w z = IsAmong w.is_signed w.bits z

-- the number of a type of so many bits whose bits are the lowest ones of n
abbrev pub wrapped : (is_signed : Bool) (bits : ℕ) → ℕ → ℤ
wrapped false k n = pos (n % 2 ^ k)
wrapped true k n = cond (nat_lt (n % 2 ^ k) (2 ^ (k - 1))) (pos (n % 2 ^ k)) (pos (n % 2 ^ k) -ℤ pos (2 ^ k))

-- the least number of a type of so many bits
abbrev pub least_number : (is_signed : Bool) (bits : ℕ) → ℤ
least_number s k = cond s (neg_ℤ (pos (2 ^ (k - 1)))) (pos 0)

-- the greatest
abbrev pub greatest_number : (is_signed : Bool) (bits : ℕ) → ℤ
greatest_number s k = pos (cond s (2 ^ (k - 1) - 1) (2 ^ k - 1))

-- the one that is nearest
abbrev pub nearest_number : (is_signed : Bool) (bits : ℕ) → ℤ → ℤ
nearest_number s k z = int_max (least_number s k) (int_min (greatest_number s k) z)

-- the type has more bits than a shift by the number passes over
abbrev pub IsShift : Width → ℤ → Type 0
IsShift w z = (pos 0 ≤ℤ z) × (z <ℤ pos w.bits)
