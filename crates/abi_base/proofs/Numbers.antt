-- Numbers in a data layout string.
use Rattle.std.proofs.Common.{◌≡◌, ℕ, ◌<◌, List, [], ◌∷◌, Bool, true, false, ◌&&◌, Result, Ok, Err, refl, ap, ◌∙◌, arith}
use Rattle.std.specs.Prelude.{nat_lt, if◌then◌else◌}
use Rattle.std.specs.Str.Parse.{IsNumeral, digits_value, without_leading_plus}
use Rattle.std.proofs.lemmas.Str.Parse.{IsNumeralModel, numerals_by_value, tells_all_ascii_digits}
use Rattle.std.proofs.lemmas.Bool.Decides.{nat_tests}
use Rattle.std.specs.Str.{all_ascii_digits}
use Rattle.abi_base.specs.declared.parse_number.NumberError.{NumberError}
use Rattle.abi_base.specs.NumberText.{is_numeral, number_answer, number_error}

own : IsNumeralModel (λ ds. all_ascii_digits ds ≡ true) (digits_value 10)
own = numerals_by_value (λ ds. all_ascii_digits ds ≡ true) tells_all_ascii_digits

numeral : (ds : List ℕ) → IsNumeral 10 ds → is_numeral ds ≡ true
numeral [] h = absurd (omega (arith, h.0))
numeral (d ∷ ds) h = own.from (d ∷ ds) h.1

from_numeral : (ds : List ℕ) → is_numeral ds ≡ true → IsNumeral 10 ds
from_numeral [] h = absurd (cc)
from_numeral (d ∷ ds) h = (omega arith, own.to (d ∷ ds) h)

-- a number that fits
pub number_read : (limit n : ℕ) (text : List ℕ) → (IsNumeral 10 (without_leading_plus text) × (digits_value 10 (without_leading_plus text) < limit)) × (n ≡ digits_value 10 (without_leading_plus text)) → Ok n ≡ number_answer limit text
unfolding number_answer
number_read limit n text h =
    let low : nat_lt (digits_value 10 (without_leading_plus text)) limit ≡ true = grind (arith, nat_tests, h.0.1) in
    rw (numeral (without_leading_plus text) h.0.0, low) (ap Ok h.1)

refused_at : (limit : ℕ) (text : List ℕ) (e : NumberError) (a b : Bool) → is_numeral (without_leading_plus text) ≡ a → nat_lt (digits_value 10 (without_leading_plus text)) limit ≡ b
    → ((IsNumeral 10 (without_leading_plus text) × (digits_value 10 (without_leading_plus text) < limit)) → ⊥)
    → ◌≡◌ {A = Result ℕ NumberError} (Err e) (if a && b then Ok (digits_value 10 (without_leading_plus text)) else Err e)
refused_at limit text e true true p q never = absurd (never (from_numeral (without_leading_plus text) p, grind (arith, nat_tests)))
refused_at limit text e true false p q never = refl
refused_at limit text e false b p q never = refl

-- a text that is no number that fits
pub number_refused : (limit : ℕ) (text : List ℕ) (e : NumberError) → ((IsNumeral 10 (without_leading_plus text) × (digits_value 10 (without_leading_plus text) < limit)) → ⊥) → e ≡ number_error text → Err e ≡ number_answer limit text
unfolding number_answer
number_refused limit text e never is = ap Err is ∙ refused_at limit text (number_error text) (is_numeral (without_leading_plus text)) (nat_lt (digits_value 10 (without_leading_plus text)) limit) refl refl never
