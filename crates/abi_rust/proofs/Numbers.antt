-- Numbers that no integer type has.
use Rattle.std.proofs.Common.{◌≡◌, ℕ, ◌-◌, ◌^◌, ◌≤◌, Bool, true, false, arith}
use Rattle.std.specs.Prelude.{ℤ, pos, negsuc, unsigned_abs}
use Rattle.std.proofs.lemmas.Int.{ints}
use Rattle.std.proofs.Math.Pow.{pow_mono}
use Rattle.abi_rust.specs.Operators.{holds_number}

-- a number of more than 128 bits fits no type without a sign
pub too_great : (k n : ℕ) → k ≤ 128 → 2 ^ 128 ≤ n → holds_number false k (pos n) ≡ false
too_great k n most wide = let p : 2 ^ k ≤ 2 ^ 128 = pow_mono most in grind (arith, ints)

-- a number of more than 128 bits fits no type
pub too_wide : (signed : Bool) (k : ℕ) (z : ℤ) → k ≤ 128 → 2 ^ 128 ≤ unsigned_abs z → holds_number signed k z ≡ false
too_wide false k (pos n) most wide = let p : 2 ^ k ≤ 2 ^ 128 = pow_mono most in grind (arith, ints)
too_wide false k (negsuc n) most wide = grind (arith, ints)
too_wide true k (pos n) most wide = let p : 2 ^ (k - 1) ≤ 2 ^ 128 = pow_mono {i = k - 1} {j = 128} (omega arith) in grind (arith, ints)
too_wide true k (negsuc n) most wide = let p : 2 ^ (k - 1) ≤ 2 ^ 127 = pow_mono {i = k - 1} {j = 127} (omega arith) in grind (arith, ints)
