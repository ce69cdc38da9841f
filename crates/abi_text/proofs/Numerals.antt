-- A numeral reads back as its number.
use Rattle.std.proofs.Common.{◌≡◌, ℕ, zero, suc, ◌+◌, ◌-◌, ◌*◌, ◌^◌, ◌<◌, ◌≤◌, Bool, true, false, List, [], ◌∷◌, ◌++◌, length, None, Some, refl, ap, ◌∙◌, subst, sym, arith, length-append}
use Rattle.std.specs.Prelude.{◌&&◌, ◌==◌, nat_le, replicate, if◌then◌else◌}
use Rattle.std.specs.Fmt.{decimal}
use Rattle.std.specs.Char.{is_ascii_digit}
use Rattle.std.specs.Str.{all_ascii_digits}
use Rattle.std.proofs.lemmas.Bool.{le-leb}
use Rattle.std.proofs.lemmas.Bool.Decides.{nat_tests}
use Rattle.std.proofs.lemmas.Str.Parse.{IsNumeralModel, numerals_by_fold}
use Rattle.std.proofs.lemmas.Fmt.{decimal_is_IsNumeral_wide}
use Rattle.abi_text.specs.Numbers.{digits_from, discriminant_in, fitting, negated, number_of_bits, number_to}
use Rattle.abi_text.specs.Written.{IsNumeral, IsDiscriminant, not_negative, negative}
use Rattle.abi_text.proofs.Text.{number_some}
use Rattle.std.proofs.Common.{rules}

pub both : (a b : Bool) → (a && b) ≡ true → (a ≡ true) × (b ≡ true)
both true b h = (refl, h)
both false b h = cc

abbrev read_on : ℕ → List ℕ → ℕ
read_on n [] = n
read_on n (c ∷ cs) = read_on (10 * n + (c - 48)) cs

own : IsNumeralModel (λ ds. all_ascii_digits ds ≡ true) (read_on 0)
own = numerals_by_fold _ (search rules) read_on (search rules)

digits_read_at : (n c : ℕ) (cs : List ℕ) (b : Bool) → is_ascii_digit c ≡ b → (b && all_ascii_digits cs) ≡ true
    → (all_ascii_digits cs ≡ true → digits_from (n * 10 + (c - 48)) cs ≡ Some (read_on (n * 10 + (c - 48)) cs))
    → (if b then digits_from (n * 10 + (c - 48)) cs else None) ≡ Some (read_on (10 * n + (c - 48)) cs)
digits_read_at n c cs true e all more =
    let same : n * 10 + (c - 48) ≡ 10 * n + (c - 48) = omega arith in
    more all ∙ ap (λ m. Some (read_on m cs)) same
digits_read_at n c cs false e all more = cc

digits_read : (n : ℕ) (ds : List ℕ) → all_ascii_digits ds ≡ true → digits_from n ds ≡ Some (read_on n ds)
digits_read n [] all = refl
digits_read n (c ∷ cs) all = digits_read_at n c cs (is_ascii_digit c) refl all (digits_read (n * 10 + (c - 48)) cs)

-- zeros in front change nothing
zeros_read : (zeros : ℕ) (ds : List ℕ) → digits_from 0 (replicate zeros 48 ++ ds) ≡ digits_from 0 ds
zeros_read zero ds = refl
zeros_read (suc zeros) ds = zeros_read zeros ds

zeros_digits : (zeros : ℕ) (ds : List ℕ) → all_ascii_digits ds ≡ true → all_ascii_digits (replicate zeros 48 ++ ds) ≡ true
zeros_digits zero ds h = h
zeros_digits (suc zeros) ds h = zeros_digits zeros ds h

zeros_some : (zeros : ℕ) (ds : List ℕ) → 0 < length ds → 0 < length (replicate zeros 48 ++ ds)
zeros_some zeros ds h = omega (arith, length-append (replicate zeros 48) ds)

decimal_digits : (n : ℕ) → n < 2 ^ 128 → (0 < length (decimal n)) × (all_ascii_digits (decimal n) ≡ true) × (read_on 0 (decimal n) ≡ n)
decimal_digits n small =
    let h = decimal_is_IsNumeral_wide n (omega arith) in
    (h.0.0, own.from (decimal n) h.0.1, own.same (decimal n) h.0.1 ∙ h.1)

-- a numeral has digits alone
pub numeral_digits : (bits n : ℕ) (word : List ℕ) → 2 ^ bits ≤ 2 ^ 128 → IsNumeral bits n word → (0 < length word) × (all_ascii_digits word ≡ true)
numeral_digits bits n word number_u128 h =
    let d = decimal_digits n (omega arith) in
    (subst (λ w. 0 < length w) (sym h.2) (zeros_some h.1 (decimal n) d.0), subst (λ w. all_ascii_digits w ≡ true) (sym h.2) (zeros_digits h.1 (decimal n) d.1))

-- a numeral reads back where its number is no greater than the greatest one
numeral_to : (most bits n : ℕ) (word : List ℕ) → 2 ^ bits ≤ 2 ^ 128 → n ≤ most → IsNumeral bits n word → number_to most word ≡ Some n
numeral_to most bits n word number_u128 small h =
    let d = decimal_digits n (omega arith) in
    let fits : nat_le n most ≡ true = le-leb n most small in
    let whole : fitting most (Some n) ≡ Some n = rw fits refl in
    ap (number_to most) h.2 ∙ number_some most (replicate h.1 48 ++ decimal n) (zeros_some h.1 (decimal n) d.0)
    ∙ ap (fitting most) (zeros_read h.1 (decimal n) ∙ digits_read 0 (decimal n) d.1 ∙ ap (λ m. Some m) d.2) ∙ whole

-- a numeral reads back as its number
pub numeral_read : (bits n : ℕ) (word : List ℕ) → 2 ^ bits ≤ 2 ^ 128 → IsNumeral bits n word → number_of_bits bits word ≡ Some n
numeral_read bits n word number_u128 h = numeral_to (2 ^ bits - 1) bits n word number_u128 (omega arith) h

-- a word that begins with a digit is no negative number
unsigned_read : (word : List ℕ) → 0 < length word → all_ascii_digits word ≡ true → discriminant_in word ≡ number_of_bits 128 word
unsigned_read [] some digits = absurd (omega arith)
unsigned_read (c ∷ cs) some digits =
    let digit : is_ascii_digit c ≡ true = (both (is_ascii_digit c) (all_ascii_digits cs) digits).0 in
    let no : (c == 45) ≡ false = grind (arith, nat_tests) in
    rw no refl

-- a discriminant reads back as its number
pub discriminant_read : (discriminant : ℕ) (word : List ℕ) → IsDiscriminant discriminant word → discriminant_in word ≡ Some discriminant
discriminant_read discriminant word (not_negative n text is) =
    let digits = numeral_digits 128 n text (omega arith) is in
    unsigned_read text digits.0 digits.1 ∙ numeral_read 128 n text (omega arith) is
discriminant_read discriminant word (negative n text some small is) =
    let no : (n == 0) ≡ false = grind (arith, nat_tests) in
    let whole : negated (Some n) ≡ Some (2 ^ 128 - n) = rw no refl in
    ap negated (numeral_to (2 ^ 127) 128 n text (omega arith) small is) ∙ whole
