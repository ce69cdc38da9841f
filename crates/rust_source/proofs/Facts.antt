-- What the definitions say of some numbers, characters and expressions.
use Rattle.std.proofs.Common.{◌≡◌, ◌-◌, ◌^◌, codes, [], ◌∷◌, None, Some, Ok, Err, refl}
use Rattle.rust_source.specs.declared.fault.SourceFaultKind.TheVariants.{BadCharacter, ExpectedExpression}
use Rattle.rust_source.specs.declared.place.Place.{Place}
use Rattle.rust_source.specs.declared.reader.cursor.Cursor.{Cursor}
use Rattle.rust_source.specs.declared.reader.literals.Number.TheVariants as number
use Rattle.rust_source.specs.declared.syntax.Binary.TheVariants as operator
use Rattle.rust_source.specs.declared.syntax.IntegerKind.TheVariants.{U8}
use Rattle.rust_source.specs.Characters.{decoded, first_char}
use Rattle.rust_source.specs.Cursor.{fault}
use Rattle.rust_source.specs.Literals.{char_code, digits_length, digits_value, escaped_code, integer_kind, integer_kinds, number_of_digits, number_written, bytes_between}
use Rattle.rust_source.specs.Names.{added, number_of_name as name_number}
use Rattle.rust_source.specs.Operators.{all_joined, operator_put}
use Rattle.rust_source.specs.Syntax.{ExprRead, binary}

hexadecimal : number_written (codes "0x1F_u8") ≡ number.Integer 31 (Some U8)
unfolding number_written number_of_digits digits_length digits_value integer_kind integer_kinds
hexadecimal = refl

spaced : number_written (codes "1_000") ≡ number.Integer 1000 None
unfolding number_written number_of_digits digits_length digits_value integer_kind integer_kinds
spaced = refl

binary_has_no_two : number_written (codes "0b12") ≡ number.Bad
unfolding number_written number_of_digits digits_length digits_value integer_kind integer_kinds
binary_has_no_two = refl

no_such_suffix : number_written (codes "1u7") ≡ number.Bad
unfolding number_written number_of_digits digits_length digits_value integer_kind integer_kinds
no_such_suffix = refl

largest : number_written (codes "340282366920938463463374607431768211455") ≡ number.Integer (2 ^ 128 - 1) None
unfolding number_written number_of_digits digits_length digits_value integer_kind integer_kinds
largest = refl

too_large : number_written (codes "340282366920938463463374607431768211456") ≡ number.Bad
unfolding number_written number_of_digits digits_length digits_value integer_kind integer_kinds
too_large = refl

float : number_written (codes "1e3") ≡ number.Float
unfolding number_written digits_length
float = refl

-- `'a'`, `'\n'`, `'\u{7b}'`, and `'\x'`, which has no digit
letter : char_code (39 ∷ 97 ∷ 39 ∷ []) ≡ Ok 97
unfolding char_code bytes_between first_char decoded
letter = refl

newline : char_code (39 ∷ 92 ∷ 110 ∷ 39 ∷ []) ≡ Ok 10
unfolding char_code bytes_between first_char decoded
newline = refl

brace : char_code (39 ∷ 92 ∷ 117 ∷ 123 ∷ 55 ∷ 98 ∷ 125 ∷ 39 ∷ []) ≡ Ok 123
unfolding char_code bytes_between first_char decoded escaped_code digits_value
brace = refl

no_letter : char_code (39 ∷ 92 ∷ 113 ∷ 39 ∷ []) ≡ Err BadCharacter
unfolding char_code bytes_between first_char decoded
no_letter = refl

known_again : added (codes "a" ∷ codes "b" ∷ []) (codes "b") ≡ codes "a" ∷ codes "b" ∷ []
known_again = refl

new_at_the_end : name_number (codes "a" ∷ codes "b" ∷ []) (codes "c") ≡ 2
new_at_the_end = refl

module _ (c : Cursor) (p q : Place) (x y z : ExprRead) where
  -- x + y * z
  product_waits : operator_put c (y ∷ x ∷ []) (record { operator = operator.Add; at = p } ∷ []) (record { operator = operator.Mul; at = q }) ≡ Ok (y ∷ x ∷ [], record { operator = operator.Mul; at = q } ∷ record { operator = operator.Add; at = p } ∷ [])
  unfolding operator_put
  product_waits = refl

  product_first : all_joined c (z ∷ y ∷ x ∷ []) (record { operator = operator.Mul; at = q } ∷ record { operator = operator.Add; at = p } ∷ []) ≡ Ok (binary operator.Add x (binary operator.Mul y z q) p)
  unfolding all_joined
  product_first = refl

  -- x * y + z, and x - y - z
  sum_joins : operator_put c (y ∷ x ∷ []) (record { operator = operator.Mul; at = p } ∷ []) (record { operator = operator.Add; at = q }) ≡ Ok (binary operator.Mul x y p ∷ [], record { operator = operator.Add; at = q } ∷ [])
  unfolding operator_put
  sum_joins = refl

  from_left : operator_put c (y ∷ x ∷ []) (record { operator = operator.Sub; at = p } ∷ []) (record { operator = operator.Sub; at = q }) ≡ Ok (binary operator.Sub x y p ∷ [], record { operator = operator.Sub; at = q } ∷ [])
  unfolding operator_put
  from_left = refl

  -- x < y == z
  side_by_side : operator_put c (y ∷ x ∷ []) (record { operator = operator.Less; at = p } ∷ []) (record { operator = operator.Equal; at = q }) ≡ Err (fault c ExpectedExpression)
  unfolding operator_put
  side_by_side = refl
