-- Rounding up to powers of two.
use Rattle.std.proofs.Common.{ℕ, ◌^◌}
use Rattle.std.specs.Int.{next_multiple_of}
use Rattle.abi_univariant.proofs.Offsets.Rounding.{IsRounded, rounded_to}
use Rattle.guarantees.specs.InC.{IsLeastMultiple}

-- a number rounded up is the least multiple that isn't before it
pub rounded_up : (align from : ℕ) → IsLeastMultiple align from (next_multiple_of from (2 ^ align))
rounded_up align from =
    let rounded : IsRounded from (2 ^ align) (next_multiple_of from (2 ^ align)) = rounded_to from align in
    record { multiple = rounded.multiple; after = rounded.above; least = rounded.least }
