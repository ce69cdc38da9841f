-- Rounding up to powers of two.
use Rattle.std.proofs.Common.{◌≡◌, ℕ, ◌+◌, ◌-◌, ◌*◌, ◌^◌, ◌%◌, ◌/◌, ◌<◌, ◌≤◌, sym, subst, arith, inl, inr, ⊎_elim}
use Rattle.std.specs.Int.{◌∣◌, next_multiple_of}
use Rattle.std.specs.Prelude.{◌⊎◌}
use Rattle.std.proofs.Math.Nat.{dvd-add, dvd-sub, dvd-mul_right, dvd_trans, dvd_of_mod-eq-zero, le_of_dvd, mod-eq_of_lt, mod_self, pow-le-pow_right, dvd_refl}
use Rattle.std.proofs.lemmas.Nat.{pow_pos, pow-add}
use Rattle.std.proofs.lemmas.Bool.{cases_lt}

-- what a rounded number is: the least multiple that is no less
pub record IsRounded (n m r : ℕ) : Type 0 where
  pub multiple : m ∣ r
  pub above : n ≤ r
  pub least : (k : ℕ) → m ∣ k → n ≤ k → r ≤ k

-- two multiples are at least m apart
apart : (m k r : ℕ) → m ∣ k → m ∣ r → k < r → k + m ≤ r
apart m k r e d h =
    let positive : 0 < r - k = omega arith in
    let gap : m ≤ r - k = le_of_dvd positive (dvd-sub m d e) in
    omega arith

-- a multiple below n + m is the least
near : (n m r : ℕ) → m ∣ r → n ≤ r → r < n + m → IsRounded n m r
near n m r d a b = record {
  multiple = d;
  above = a;
  least = λ k e h. ⊎_elim (λ l. let far : k + m ≤ r = apart m k r e d l in omega arith) (λ l. l) (cases_lt k r);
}

rounded_by : (n m : ℕ) → 0 < m → (n % m ≡ 0) ⊎ (0 < n % m) → IsRounded n m (next_multiple_of n m)
rounded_by n m p (inl e) =
    let whole : m - n % m ≡ m = omega arith in
    let same : (m - n % m) % m ≡ 0 = rw whole (mod_self m) in
    rw same (near n m (n + 0) (subst (λ x. m ∣ x) (omega arith) (dvd_of_mod-eq-zero m e)) (omega arith) (omega arith))
rounded_by n m p (inr q) =
    let same : (m - n % m) % m ≡ m - n % m = mod-eq_of_lt (omega arith) in
    let up : m * (n / m + 1) ≡ n + (m - n % m) = omega arith in
    rw same (near n m (n + (m - n % m)) (subst (λ x. m ∣ x) up (dvd-mul_right m (n / m + 1))) (omega arith) (omega arith))

pub round_up : (n m : ℕ) → 0 < m → IsRounded n m (next_multiple_of n m)
round_up n m p = rounded_by n m p (⊎_elim (λ l. inr l) (λ l. inl (omega arith)) (cases_lt 0 (n % m)))

-- a lower power of two divides a higher one
pub pow_dvd : (i j : ℕ) → i ≤ j → 2 ^ i ∣ 2 ^ j
pow_dvd i j h =
    let split : i + (j - i) ≡ j = omega arith in
    subst (λ x. 2 ^ i ∣ 2 ^ x) split (subst (λ x. 2 ^ i ∣ x) (sym (pow-add 2 i (j - i))) (dvd-mul_right (2 ^ i) (2 ^ (j - i))))

-- a number rounded to 2 ^ align
pub rounded_to : (n align : ℕ) → IsRounded n (2 ^ align) (next_multiple_of n (2 ^ align))
rounded_to n align = round_up n (2 ^ align) (pow_pos align)

-- a multiple stays as it is
pub round_multiple : (n align : ℕ) → 2 ^ align ∣ n → next_multiple_of n (2 ^ align) ≡ n
round_multiple n align d =
    let r = rounded_to n align in
    let down : next_multiple_of n (2 ^ align) ≤ n = r.least n d (omega arith) in
    let up : n ≤ next_multiple_of n (2 ^ align) = r.above in
    omega arith

pub round_mono : (m n align : ℕ) → m ≤ n → next_multiple_of m (2 ^ align) ≤ next_multiple_of n (2 ^ align)
round_mono m n align h =
    let s = rounded_to n align in
    let up : n ≤ next_multiple_of n (2 ^ align) = s.above in
    (rounded_to m align).least _ s.multiple (omega arith)

-- rounding to a lower power first changes nothing
pub round_round : (n low high : ℕ) → low ≤ high → next_multiple_of (next_multiple_of n (2 ^ low)) (2 ^ high) ≡ next_multiple_of n (2 ^ high)
round_round n low high h =
    let r = rounded_to n low in
    let s = rounded_to n high in
    let t = rounded_to (next_multiple_of n (2 ^ low)) high in
    let below : next_multiple_of n (2 ^ low) ≤ next_multiple_of n (2 ^ high) = r.least _ (dvd_trans (2 ^ low) (pow_dvd low high h) s.multiple) s.above in
    let one : next_multiple_of (next_multiple_of n (2 ^ low)) (2 ^ high) ≤ next_multiple_of n (2 ^ high) = t.least _ s.multiple below in
    let up : n ≤ next_multiple_of n (2 ^ low) = r.above in
    let above : next_multiple_of n (2 ^ low) ≤ next_multiple_of (next_multiple_of n (2 ^ low)) (2 ^ high) = t.above in
    let two : next_multiple_of n (2 ^ high) ≤ next_multiple_of (next_multiple_of n (2 ^ low)) (2 ^ high) = s.least _ t.multiple (omega arith) in
    omega arith

-- a multiple may be added before or after
pub round_add : (n align k : ℕ) → 2 ^ align ∣ k → next_multiple_of n (2 ^ align) + k ≡ next_multiple_of (n + k) (2 ^ align)
round_add n align k d =
    let r = rounded_to n align in
    let s = rounded_to (n + k) align in
    let up : n ≤ next_multiple_of n (2 ^ align) = r.above in
    let over : n + k ≤ next_multiple_of (n + k) (2 ^ align) = s.above in
    let one : next_multiple_of (n + k) (2 ^ align) ≤ next_multiple_of n (2 ^ align) + k = s.least _ (dvd-add (2 ^ align) r.multiple d) (omega arith) in
    let two : next_multiple_of n (2 ^ align) ≤ next_multiple_of (n + k) (2 ^ align) - k = r.least _ (dvd-sub (2 ^ align) s.multiple d) (omega arith) in
    omega arith

-- rounding adds less than the alignment
pub round_below : (n align top : ℕ) → align ≤ top → next_multiple_of n (2 ^ align) < n + 2 ^ top
round_below n align top h =
    let small : 2 ^ align ≤ 2 ^ top = pow-le-pow_right (omega arith) h in
    let r = rounded_to n align in
    let more : IsRounded n (2 ^ align) (next_multiple_of n (2 ^ align)) → n + 2 ^ align ≤ next_multiple_of n (2 ^ align) → ⊥
    = λ q l. let lower : 2 ^ align ∣ next_multiple_of n (2 ^ align) - 2 ^ align = dvd-sub (2 ^ align) q.multiple (dvd_refl (2 ^ align)) in
    let least : next_multiple_of n (2 ^ align) ≤ next_multiple_of n (2 ^ align) - 2 ^ align = q.least _ lower (omega arith) in
    let positive : 0 < 2 ^ align = pow_pos align in
    omega arith in
    ⊎_elim (λ (l : next_multiple_of n (2 ^ align) < n + 2 ^ align). omega arith) (λ (l : n + 2 ^ align ≤ next_multiple_of n (2 ^ align)). absurd (more r l))
    (cases_lt (next_multiple_of n (2 ^ align)) (n + 2 ^ align))

-- a number below 2 ^ 62 that is rounded by an alignment has 64 bits
pub round_fits : (n align : ℕ) → align ≤ 29 → n < 2 ^ 62 → next_multiple_of n (2 ^ align) < 2 ^ 64
round_fits n align h small =
    let near_by : next_multiple_of n (2 ^ align) < n + 2 ^ 29 = round_below n align 29 h in
    omega arith
