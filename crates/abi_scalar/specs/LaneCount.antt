-- How many lanes a vector has.
use Rattle.std.specs.Prelude.{ℕ, ◌==◌, nat_lt, if◌then◌else◌, Result, Ok, Err}
use Rattle.abi_scalar.specs.declared.error.LayoutCalculatorError.{LayoutCalculatorError}
use Rattle.abi_scalar.specs.declared.error.LayoutCalculatorError.TheVariants.{OversizedSimdType, ZeroLengthSimdType}

-- the greatest number of lanes of a vector
abbrev pub max_lanes : ℕ
max_lanes = 32768

-- so many lanes, 1 to the greatest number, or why not
abbrev pub lane_count : {F : Type 0} → ℕ → Result ℕ (LayoutCalculatorError F)
lane_count count =
    if nat_lt max_lanes count then Err (OversizedSimdType max_lanes)
    else (if count == 0 then Err ZeroLengthSimdType else Ok count)
