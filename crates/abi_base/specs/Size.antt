-- Numbers of a given width.
use Rattle.std.specs.Prelude.{ℕ, ◌-◌, ◌^◌, ℤ, pos, ◌-ℤ◌, nat_lt, if◌then◌else◌}

-- what a number of so many bits stands for in two's complement: the upper half is negative
abbrev pub signed_value : (bits : ℕ) → ℕ → ℤ
signed_value bits low = if nat_lt low (2 ^ (bits - 1)) then pos low else (pos low -ℤ pos (2 ^ bits))
