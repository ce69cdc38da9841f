-- Powers of two, and the greatest that divides a number.
use Rattle.std.proofs.Common.{◌≡◌, ℕ, zero, suc, ◌+◌, ◌-◌, ◌*◌, ◌/◌, ◌%◌, ◌^◌, ◌≤◌, ◌<◌, refl, sym, subst, arith}
use Rattle.std.specs.Int.{◌∣◌}
use Rattle.std.specs.Int.Count.{count_trailing_zeros, count_leading_zeros, under}
use Rattle.abi_base.specs.Align.{next_exponent, IsLeastPower}
use Rattle.std.proofs.Math.Nat.{one-dvd, dvd-mul_right, pow-succ', pow-zero, mul-dvd-mul_left, dvd_of_mul-dvd-mul_left}
use Rattle.std.proofs.Math.Pow.{pow-lt}
use Rattle.std.proofs.lemmas.Nat.{pow_pos, leading_length}
use Rattle.std.proofs.lemmas.Nat.Gcd.{dvd_refl, dvd_trans, le_of_dvd, mod-eq-zero_of_dvd}

even_half : (n : ℕ) → n % 2 ≡ 0 → 2 * (n / 2) ≡ n
even_half n e = omega (arith, e)

-- an even number is divided by twice what divides its half
twice_dvd : (d n : ℕ) → n % 2 ≡ 0 → d ∣ n / 2 → 2 * d ∣ n
twice_dvd d n e h = subst (λ (m : ℕ). 2 * d ∣ m) (even_half n e) (mul-dvd-mul_left d 2 h)

-- what is divided by twice a number is even, and its half is divided by the number
half_dvd : (d n : ℕ) → 2 * d ∣ n → (n % 2 ≡ 0) × (d ∣ n / 2)
half_dvd d n h =
    let even : n % 2 ≡ 0 = mod-eq-zero_of_dvd 2 (dvd_trans 2 (dvd-mul_right 2 d) h) in
    let two : 0 < 2 = omega arith in
    (even, dvd_of_mul-dvd-mul_left d two (subst (λ (m : ℕ). 2 * d ∣ m) (sym (even_half n even)) h))

divides_step : (t n d : ℕ) → n % 2 ≡ d → 2 ^ t ∣ n / 2 → 2 ^ under d t ∣ n
divides_step t n zero e h = subst (λ (p : ℕ). p ∣ n) (sym (pow-succ' 2 t)) (twice_dvd (2 ^ t) n e h)
divides_step t n (suc d) e h = subst (λ (p : ℕ). p ∣ n) (sym (pow-zero 2)) (one-dvd n)

-- the power divides
pub factor_divides : (k n : ℕ) → 2 ^ count_trailing_zeros k n ∣ n
unfolding count_trailing_zeros
factor_divides zero n = subst (λ (p : ℕ). p ∣ n) (sym (pow-zero 2)) (one-dvd n)
factor_divides (suc k) n = divides_step (count_trailing_zeros k (n / 2)) n (n % 2) refl (factor_divides k (n / 2))

greatest_step : (t n d j : ℕ) → n % 2 ≡ d → n % 2 ≡ 0 → j ≤ t → suc j ≤ under d t
greatest_step t n zero j e z h = omega (arith, h)
greatest_step t n (suc d) j e z h = absurd (omega (arith, e, z))

-- and no greater one does
pub factor_greatest : (k n j : ℕ) → j ≤ k → 2 ^ j ∣ n → j ≤ count_trailing_zeros k n
unfolding count_trailing_zeros
factor_greatest k n zero l h = omega arith
factor_greatest zero n (suc j) l h = absurd (omega (arith, l))
factor_greatest (suc k) n (suc j) l h =
    let both : (n % 2 ≡ 0) × (2 ^ j ∣ n / 2) = half_dvd (2 ^ j) n (subst (λ (p : ℕ). p ∣ n) (pow-succ' 2 j) h) in
    greatest_step (count_trailing_zeros k (n / 2)) n (n % 2) j refl both.0 (factor_greatest k (n / 2) j (omega (arith, l)) both.1)

-- the greater power has the greater exponent
pub exponent_le : (i j : ℕ) → 2 ^ i ≤ 2 ^ j → i ≤ j
exponent_le i j h = grind (arith, pow-lt {i = j} {j = i})

-- a power of two below 2 ^ k has its own exponent
pub exponent_is : (n j : ℕ) → n < 2 ^ 64 → n ≡ 2 ^ j → count_trailing_zeros 64 n ≡ j
exponent_is n j l e =
    let low : j ≤ 64 = exponent_le j 64 (subst (λ (m : ℕ). m ≤ 2 ^ 64) e (omega (arith, l))) in
    let up : j ≤ count_trailing_zeros 64 n = factor_greatest 64 n j low (subst (λ (m : ℕ). 2 ^ j ∣ m) (sym e) (dvd_refl (2 ^ j))) in
    let down : count_trailing_zeros 64 n ≤ j = exponent_le (count_trailing_zeros 64 n) j (subst (λ (m : ℕ). 2 ^ count_trailing_zeros 64 n ≤ m) e (le_of_dvd (subst (λ (m : ℕ). 0 < m) (sym e) (pow_pos j)) (factor_divides 64 n))) in
    omega (arith, up, down)

least_below : (n m k : ℕ) → 2 ^ m ≤ 2 * (n - 1) + 1 → n ≤ 2 ^ k → m ≤ k
least_below n zero k low h = omega arith
least_below n (suc m) k low h = grind (arith, pow-lt {i = k} {j = suc m}, pow-succ' 2 m, exponent_le m k)

least_at : (n m e : ℕ) → e ≡ m → n - 1 < 2 ^ m → 2 ^ m ≤ 2 * (n - 1) + 1 → IsLeastPower n e
least_at n m e same up low = record {
  holds = subst (λ (j : ℕ). n ≤ 2 ^ j) (sym same) (omega (arith, up));
  least = λ k h. subst (λ (j : ℕ). j ≤ k) (sym same) (least_below n m k low h);
}

-- the power past a number's digits is the least that is greater
pub least_power : (n : ℕ) → n ≤ 2 ^ 64 → IsLeastPower n (next_exponent n)
least_power n l =
    let top : n - 1 < 2 ^ 64 = omega (arith, l) in
    let d : (m : ℕ) × (count_leading_zeros 64 (n - 1) + m ≡ 64) × (n - 1 < 2 ^ m) × (2 ^ m ≤ 2 * (n - 1) + 1) = leading_length 64 (n - 1) top in
    least_at n d.0 (next_exponent n) (omega (arith, d.1)) d.2 d.3
