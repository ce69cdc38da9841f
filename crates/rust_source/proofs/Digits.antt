-- Digits read one after another are worth what they are worth together.
use Rattle.std.proofs.Common.{◌≡◌, ℕ, ◌+◌, ◌*◌, ◌^◌, ◌<◌, ◌≤◌, Bool, true, false, List, [], ◌∷◌, map, Option, None, Some, refl, arith, if◌then◌else◌}
use Rattle.std.specs.Prelude.{◌==◌, ◌&&◌, not, nat_lt}
use Rattle.std.specs.List.{filter}
use Rattle.std.proofs.lemmas.Bool.Decides.{nat_tests}
use Rattle.std.proofs.Math.Bool.{and-false}
use Rattle.std.proofs.Math.Nat.{mul-le-mul_left}
use Rattle.rust_source.specs.Literals.{all_below, digit_value, digits_value, with_digit, worth, worth_behind}

-- what comes of a digit more
abbrev pub next_by : (next : ℕ → Option ℕ) → Option ℕ → Option ℕ
next_by next None = None
next_by next (Some n) = next n

-- the number that the digits of a base are behind those that were read
abbrev pub digits_from : (base : ℕ) → (before : Option ℕ) → List ℕ → Option ℕ
digits_from base before [] = before
digits_from base before (b ∷ bs) =
    if b == 95 then digits_from base before bs
    else (if nat_lt (digit_value b) base then next_by (λ n. digits_from base (Some n) bs) (with_digit base before (digit_value b)) else None)

-- the digits among the bytes
abbrev pub digits_in : List ℕ → List ℕ
digits_in bytes = map digit_value (filter (λ b. not (b == 95)) bytes)

-- what digits are worth behind a number, where they are digits and it fits
abbrev pub worth_with : (base n : ℕ) → List ℕ → Option ℕ
worth_with base n ds = if all_below base ds && nat_lt (worth_behind base n ds) (2 ^ 128) then Some (worth_behind base n ds) else None

pub grows : (base n : ℕ) (ds : List ℕ) → 1 ≤ base → n ≤ worth_behind base n ds
grows base n [] some = omega arith
grows base n (d ∷ ds) some =
    let more = grows base (n * base + d) ds some in
    let least : n * 1 ≤ n * base = mul-le-mul_left n some in
    omega (arith, more, least)

-- a digit more, behind which it is known what the bytes are worth
module _ (base n d : ℕ) (bs : List ℕ) (ih : (m : ℕ) → m < 2 ^ 128 → digits_from base (Some m) bs ≡ worth_with base m (digits_in bs)) where
  by_tests : (p q : Bool) → nat_lt d base ≡ p → nat_lt (n * base + d) (2 ^ 128) ≡ q → (if nat_lt d base then next_by (λ m. digits_from base (Some m) bs) (if nat_lt (n * base + d) (2 ^ 128) then Some (n * base + d) else None) else None) ≡ worth_with base n (d ∷ digits_in bs)
  by_tests false q e f = rw e refl
  by_tests true true e f =
      let few : n * base + d < 2 ^ 128 = grind (arith, nat_tests) in
      rw (e, f) (ih (n * base + d) few)
  by_tests true false e f =
      let some : 1 ≤ base = grind (arith, nat_tests) in
      let more = grows base (n * base + d) (digits_in bs) some in
      let t : nat_lt (worth_behind base (n * base + d) (digits_in bs)) (2 ^ 128) ≡ false = grind (arith, nat_tests) in
      rw (e, f, t, and-false) refl

  pub one_more : (if nat_lt d base then next_by (λ m. digits_from base (Some m) bs) (if nat_lt (n * base + d) (2 ^ 128) then Some (n * base + d) else None) else None) ≡ worth_with base n (d ∷ digits_in bs)
  one_more = by_tests (nat_lt d base) (nat_lt (n * base + d) (2 ^ 128)) refl refl

pub worth_more : (base n : ℕ) (bs : List ℕ) → n < 2 ^ 128 → digits_from base (Some n) bs ≡ worth_with base n (digits_in bs)
worth_more base n [] few =
    let t : nat_lt n (2 ^ 128) ≡ true = grind (arith, nat_tests) in
    rw t refl
worth_more base n (b ∷ bs) few =
    let P : Bool → Type 0 = λ v. (b == 95) ≡ v → digits_from base (Some n) (b ∷ bs) ≡ worth_with base n (digits_in (b ∷ bs)) in
    (elim (b == 95) as P [
      | true ↦ λ e. rw e (worth_more base n bs few)
      | false ↦ λ e. rw e (one_more base n (digit_value b) bs (λ m h. worth_more base m bs h))
    ]) refl

pub worth_all : (base : ℕ) (bs : List ℕ) → digits_from base None bs ≡ worth base (digits_in bs)
worth_all base [] = refl
worth_all base (b ∷ bs) =
    let P : Bool → Type 0 = λ v. (b == 95) ≡ v → digits_from base None (b ∷ bs) ≡ worth base (digits_in (b ∷ bs)) in
    (elim (b == 95) as P [
      | true ↦ λ e. rw e (worth_all base bs)
      | false ↦ λ e. rw e (one_more base 0 (digit_value b) bs (λ m h. worth_more base m bs h))
    ]) refl

-- the digits of the base are those that the definition has
pub digits_same : (base : ℕ) (bs : List ℕ) → digits_from base None bs ≡ digits_value base bs
unfolding digits_value
digits_same base bs = worth_all base bs
