-- The bytes of a number, one by one.
use Rattle.std.proofs.Common.{◌≡◌, ℕ, suc, ◌+◌, ◌-◌, ◌*◌, ◌/◌, ◌%◌, ◌<◌, ◌≤◌, List, [], ◌∷◌, ◌++◌, length, length-append, arith, ap, ◌∙◌, subst}
use Rattle.abi_tree.specs.Bytes.{little}
use Rattle.abi_scalar.specs.Range.{numbers_of}
use Rattle.guarantees.proofs.Numbers.{numbers_of-more}

little-push : (xs : List ℕ) (b : ℕ) → little (xs ++ b ∷ []) ≡ little xs + numbers_of (length xs) * b
little-push [] b = omega arith
little-push (x ∷ xs) b =
    let wide : numbers_of (suc (length xs)) * b ≡ 256 * numbers_of (length xs) * b =
    ap (λ w. numbers_of w * b) (omega arith) ∙ ap (λ n. n * b) (numbers_of-more (length xs)) in
    omega (arith, little-push xs b, wide)

-- These bytes are the lowest of the number, and the rest is what is left of it, for the other bytes of so many.
pub record IsStored (xs : List ℕ) (rest number size : ℕ) : Type 0 where
  pub short : length xs ≤ size
  pub whole : little xs + numbers_of (length xs) * rest ≡ number
  pub fits : rest < numbers_of (size - length xs)

pub stored_none : (number size : ℕ) → number < numbers_of size → IsStored [] number number size
stored_none number size lt = record {
  short = omega arith;
  whole = omega arith;
  fits = subst (λ n. number < numbers_of n) (omega arith) lt;
}

pub stored_more : (xs : List ℕ) (rest number size : ℕ) → length xs < size → IsStored xs rest number size → IsStored (xs ++ rest % 256 ∷ []) (rest / 256) number size
stored_more xs rest number size lt h =
    let long : length (xs ++ rest % 256 ∷ []) ≡ length xs + 1 = length-append xs (rest % 256 ∷ []) in
    let wide : numbers_of (length (xs ++ rest % 256 ∷ [])) * (rest / 256) ≡ 256 * numbers_of (length xs) * (rest / 256) =
    ap (λ w. numbers_of w * (rest / 256)) long ∙ ap (λ n. n * (rest / 256)) (numbers_of-more (length xs)) in
    let split : rest ≡ 256 * (rest / 256) + rest % 256 = omega arith in
    let parts : numbers_of (length xs) * rest ≡ numbers_of (length xs) * (256 * (rest / 256) + rest % 256) = ap (λ m. numbers_of (length xs) * m) split in
    let left : size - length xs ≡ size - length (xs ++ rest % 256 ∷ []) + 1 = omega arith in
    let room : numbers_of (size - length xs) ≡ 256 * numbers_of (size - length (xs ++ rest % 256 ∷ [])) =
    ap numbers_of left ∙ numbers_of-more (size - length (xs ++ rest % 256 ∷ [])) in
    record {
      short = omega arith;
      whole = omega (arith, little-push xs (rest % 256), wide, parts, h.whole);
      fits = omega (arith, room, h.fits);
    }

pub stored_all : (xs : List ℕ) (rest number size : ℕ) → size ≤ length xs → IsStored xs rest number size → little xs ≡ number
stored_all xs rest number size le h =
    let none : size - length xs ≡ 0 = omega arith in
    let left : rest < 1 = subst (λ n. rest < numbers_of n) none h.fits in
    let zero : rest ≡ 0 = omega arith in
    let empty : numbers_of (length xs) * rest ≡ numbers_of (length xs) * 0 = ap (λ m. numbers_of (length xs) * m) zero in
    omega (arith, h.whole, empty)
