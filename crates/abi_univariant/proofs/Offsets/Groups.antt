-- A field's group: its alignment is no greater, and its size is a multiple.
use Rattle.std.proofs.Common.{◌≡◌, ℕ, ◌*◌, ◌^◌, ◌%◌, ◌/◌, ◌<◌, ◌≤◌, zero, suc, Bool, true, false, Option, None, Some, refl, sym, subst, arith, min, max, ⊎_elim}
use Rattle.std.specs.Prelude.{if◌then◌else◌}
use Rattle.std.specs.Int.{◌∣◌, trailing_zeros, w64}
use Rattle.std.specs.Int.Count.{count_trailing_zeros}
use Rattle.std.proofs.Math.Nat.{dvd_trans, dvd-zero, one-dvd, dvd_refl, dvd-mul_left, mod-eq-zero_of_dvd, mul-dvd-mul_right, dvd_of_mul-dvd-mul_right, pow-suc, pow-le-pow_right, le_of_dvd}
use Rattle.std.proofs.lemmas.Nat.{pow_pos, trailing_le}
use Rattle.std.proofs.lemmas.Bool.{cases_lt}
use Rattle.abi_univariant.specs.declared.part.Part.{Part}
use Rattle.abi_univariant.specs.declared.order.NicheBias.{NicheBias}
use Rattle.abi_univariant.specs.declared.order.NicheBias.TheVariants.{Start, End}
use Rattle.abi_univariant.specs.declared.order.SortRule.{SortRule}
use Rattle.abi_univariant.specs.LawfulPart.{IsAlignedPart}
use Rattle.abi_univariant.specs.Order.{size_as_align, biased_group, group_by_pack}
use Rattle.abi_univariant.proofs.Offsets.Rounding.{pow_dvd}
use Rattle.abi_univariant.proofs.Offsets.Ends.{IsGroup}
use lib.Count.{under}

-- ---- trailing zeros

divides_step : (d n t : ℕ) → n % 2 ≡ d → 2 ^ t ∣ n / 2 → 2 ^ under d t ∣ n
divides_step zero n t e h =
    let whole : n / 2 * 2 ≡ n = omega arith in
    subst (λ x. x ∣ n) (sym (pow-suc 2 t)) (subst (λ x. 2 ^ t * 2 ∣ x) whole (mul-dvd-mul_right (2 ^ t) h 2))
divides_step (suc d) n t e h = one-dvd n

pub trailing_divides : (k n : ℕ) → 2 ^ count_trailing_zeros k n ∣ n
unfolding count_trailing_zeros
trailing_divides zero n = one-dvd n
trailing_divides (suc k) n = divides_step (n % 2) n (count_trailing_zeros k (n / 2)) refl (trailing_divides k (n / 2))

pub trailing_above : (k n a : ℕ) → a ≤ k → 2 ^ a ∣ n → a ≤ count_trailing_zeros k n
unfolding count_trailing_zeros
trailing_above zero n a h d = h
trailing_above (suc k) n zero h d = omega arith
trailing_above (suc k) n (suc a) h d =
    let twice : 2 ^ a * 2 ∣ n = subst (λ x. x ∣ n) (pow-suc 2 a) d in
    let even : n % 2 ≡ 0 = mod-eq-zero_of_dvd 2 (dvd_trans 2 (dvd-mul_left 2 (2 ^ a)) twice) in
    let whole : n ≡ n / 2 * 2 = omega arith in
    let half : 2 ^ a ∣ n / 2 = dvd_of_mul-dvd-mul_right (2 ^ a) (omega arith) (subst (λ x. 2 ^ a * 2 ∣ x) whole twice) in
    let rest : a ≤ count_trailing_zeros k (n / 2) = trailing_above k (n / 2) a (omega arith) half in
    subst (λ x. suc a ≤ under x (count_trailing_zeros k (n / 2))) (sym even) (omega arith)

-- ---- groups

dvd_max : (p a b : ℕ) → p ∣ a → p ∣ b → p ∣ max a b
dvd_max p a b d e =
    ⊎_elim (λ (l : a < b). let same : b ≡ max a b = omega arith in subst (λ x. p ∣ x) same e)
    (λ (l : b ≤ a). let same : a ≡ max a b = omega arith in subst (λ x. p ∣ x) same d) (cases_lt a b)

size_divisible : (f : Part) → IsAlignedPart f → 2 ^ f.align ∣ f.size
size_divisible f law = law.whole

-- a size below the alignment is 0
max_divides : (p a s : ℕ) → 0 < a → a ∣ s → p ∣ max a s → p ∣ s
max_divides p a s pos d h =
    ⊎_elim (λ (l : s < a). ⊎_elim (λ (q : 0 < s). let large : a ≤ s = le_of_dvd q d in absurd (omega arith))
    (λ (q : s ≤ 0). let none : 0 ≡ s = omega arith in subst (λ x. p ∣ x) none (dvd-zero p)) (cases_lt 0 s))
    (λ (l : a ≤ s). let same : max a s ≡ s = omega arith in subst (λ x. p ∣ x) same h) (cases_lt s a)

size_as_align-above : (f : Part) → IsAlignedPart f → f.align ≤ size_as_align f
size_as_align-above f law =
    let small : f.align ≤ 29 = law.aligned in
    trailing_above 64 (max (2 ^ f.align) f.size) f.align (omega arith) (dvd_max (2 ^ f.align) (2 ^ f.align) f.size (dvd_refl (2 ^ f.align)) (size_divisible f law))

size_as_align-divides : (f : Part) → IsAlignedPart f → 2 ^ size_as_align f ∣ f.size
size_as_align-divides f law =
    max_divides (2 ^ size_as_align f) (2 ^ f.align) f.size (pow_pos f.align) (size_divisible f law) (trailing_divides 64 (max (2 ^ f.align) f.size))

either_between : (b : Bool) (x y low high : ℕ) → (low ≤ x) × (x ≤ high) → (low ≤ y) × (y ≤ high) → (low ≤ (if b then x else y)) × ((if b then x else y) ≤ high)
either_between true x y low high p q = p
either_between false x y low high p q = q

biased_between : (bias : NicheBias) (rule : SortRule) (f : Part) → IsAlignedPart f → f.align ≤ rule.greatest_align
    → (f.align ≤ biased_group bias rule f) × (biased_group bias rule f ≤ size_as_align f)
biased_between Start rule f law top =
    let low : f.align ≤ size_as_align f = size_as_align-above f law in
    (omega arith, omega arith)
biased_between End rule f law top =
    let low : f.align ≤ size_as_align f = size_as_align-above f law in
    either_between _ f.align (size_as_align f) f.align (size_as_align f) (omega arith, low) (low, omega arith)

group_between : (rule : SortRule) (f : Part) → IsAlignedPart f → f.align ≤ rule.greatest_align
    → (f.align ≤ group_by_pack None rule f) × (group_by_pack None rule f ≤ size_as_align f)
group_between rule f law top =
    either_between _ (size_as_align f) (biased_group rule.bias rule f) f.align (size_as_align f)
    (size_as_align-above f law, omega arith) (biased_between rule.bias rule f law top)

pub is_group : (pack : Option ℕ) (rule : SortRule) (f : Part) → IsAlignedPart f → f.align ≤ rule.greatest_align → IsGroup pack (group_by_pack pack rule f) f
is_group None rule f law top =
    let range = group_between rule f law top in
    record {
      aligned = range.0;
      whole = dvd_trans (2 ^ group_by_pack None rule f) (pow_dvd (group_by_pack None rule f) (size_as_align f) range.1) (size_as_align-divides f law);
    }
is_group (Some pack) rule f law top = record {
  aligned = omega arith;
  whole = dvd_trans (2 ^ min f.align pack) (pow_dvd (min f.align pack) f.align (omega arith)) (size_divisible f law);
}

pub group_small : (pack : Option ℕ) (rule : SortRule) (f : Part) → IsAlignedPart f → f.align ≤ rule.greatest_align → group_by_pack pack rule f ≤ 64
group_small None rule f law top =
    let small : size_as_align f ≤ 64 = trailing_le 64 (max (2 ^ f.align) f.size) in
    let range = group_between rule f law top in
    omega (arith, range.1)
group_small (Some pack) rule f law top =
    let small : f.align ≤ 29 = law.aligned in
    omega arith

-- a power of two has as many trailing zeros as its exponent says
pub trailing_power : (a : ℕ) → a < 64 → trailing_zeros w64 (2 ^ a) ≡ a
trailing_power a h =
    let up : a ≤ count_trailing_zeros 64 (2 ^ a) = trailing_above 64 (2 ^ a) a (omega arith) (dvd_refl (2 ^ a)) in
    let low : 2 ^ count_trailing_zeros 64 (2 ^ a) ≤ 2 ^ a = le_of_dvd (pow_pos a) (trailing_divides 64 (2 ^ a)) in
    ⊎_elim (λ (l : a < count_trailing_zeros 64 (2 ^ a)). let more : 2 ^ suc a ≤ 2 ^ count_trailing_zeros 64 (2 ^ a) = pow-le-pow_right (omega arith) l in absurd (omega (arith, pow-suc 2 a, pow_pos a)))
    (λ (l : count_trailing_zeros 64 (2 ^ a) ≤ a). omega arith) (cases_lt a (count_trailing_zeros 64 (2 ^ a)))
