use Rattle.std.proofs.Common.{◌≡◌, ℕ, zero, suc, ◌+◌, ◌*◌, ◌/◌, ◌%◌, ◌^◌, ◌≤◌, refl, sym, ◌∙◌, ap, subst, eq-eqb, Bool, IsTrue, ◌↔◌, arith}
use Rattle.std.specs.Int.{IsPowerOfTwo, is_power_of_two}
use Rattle.std.specs.Int.Count.{ones, ones_in}
use Rattle.std.proofs.lemmas.Bool.{eqb-true}
use Rattle.std.proofs.Math.Nat.{pow-succ', pow-zero}
use Rattle.std.proofs.lemmas.Nat.{pow_pos}
use Rattle.abi_scalar.proofs.lane_count.BackendLaneCount.is_power_of_two.Goals as goal

-- a number without a set digit is 0
none_set : (d n : ℕ) → n ≤ d → ones_in d n ≡ 0 → n ≡ 0
unfolding ones_in
none_set zero n l e = omega (arith, l)
none_set (suc d) n l e =
    let rest : n / 2 ≡ 0 = none_set d (n / 2) (omega (arith, l)) (omega (arith, e)) in
    omega (arith, e, rest)

-- a number is a power of two where its half is one, or where it is 1
by_digit : (d n b : ℕ) → n % 2 ≡ b → n ≤ suc d → n % 2 + ones_in d (n / 2) ≡ 1 → (ones_in d (n / 2) ≡ 1 → IsPowerOfTwo (n / 2)) → IsPowerOfTwo n
by_digit d n zero z l e half =
    let h : IsPowerOfTwo (n / 2) = half (omega (arith, z, e)) in
    let twice : 2 * (n / 2) ≡ n = omega (arith, z) in
    (suc h.0, sym twice ∙ ap (λ (m : ℕ). 2 * m) h.1 ∙ sym (pow-succ' 2 h.0))
by_digit d n (suc b) z l e half =
    let rest : n / 2 ≡ 0 = none_set d (n / 2) (omega (arith, l)) (omega (arith, z, e)) in
    let one : n ≡ 1 = omega (arith, z, rest) in
    (0, one ∙ sym (pow-zero 2))

-- a number with one set digit is a power of two
one_set : (d n : ℕ) → n ≤ d → ones_in d n ≡ 1 → IsPowerOfTwo n
unfolding ones_in
one_set zero n l e = absurd (omega (arith, e))
one_set (suc d) n l e = by_digit d n (n % 2) refl l e (one_set d (n / 2) (omega (arith, l)))

-- no digit of 0 is set
none_of_zero : (d : ℕ) → ones_in d 0 ≡ 0
unfolding ones_in
none_of_zero zero = refl
none_of_zero (suc d) = omega (arith, none_of_zero d)

-- a power of two has one set digit
power_set : (k d n : ℕ) → n ≡ 2 ^ k → n ≤ d → ones_in d n ≡ 1
unfolding ones_in
power_set k zero n e l = absurd (omega (arith, e, l, pow_pos k))
power_set zero (suc d) n e l =
    let one : n ≡ 1 = e ∙ pow-zero 2 in
    let rest : n / 2 ≡ 0 = omega (arith, one) in
    omega (arith, one, ap (λ (m : ℕ). ones_in d m) rest, none_of_zero d)
power_set (suc k) (suc d) n e l =
    let twice : n ≡ 2 * 2 ^ k = e ∙ pow-succ' 2 k in
    let half : n / 2 ≡ 2 ^ k = omega (arith, twice) in
    let even : n % 2 ≡ 0 = omega (arith, twice) in
    omega (arith, even, power_set k d (n / 2) half (omega (arith, half, twice, l, pow_pos k)))

power_iff : (n : ℕ) → (IsTrue (is_power_of_two n) ↔ IsPowerOfTwo n)
unfolding ones
power_iff n =
    let whole : n ≤ n = omega arith in
    (λ t. one_set n n whole (eqb-true _ 1 t), λ p. eq-eqb _ 1 (power_set p.0 n n p.1 whole))

pub returns : goal.returns
returns c =
    let at_lanes : IsTrue c.is_power_of_two.result ↔ IsPowerOfTwo c.self.inside.lanes
    = subst (λ (b : Bool). IsTrue b ↔ IsPowerOfTwo c.self.inside.lanes) (sym c.is_power_of_two.ensures) (power_iff c.self.inside.lanes) in
    subst (λ (n : ℕ). IsTrue c.is_power_of_two.result ↔ IsPowerOfTwo n) c.self.view_is at_lanes
