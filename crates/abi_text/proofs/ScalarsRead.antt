-- A written scalar reads back as itself.
use Rattle.std.proofs.Common.{◌≡◌, ℕ, ◌+◌, ◌≤◌, Bool, true, false, List, [], ◌∷◌, ◌++◌, length, Some, Ok, refl, ap, ◌∙◌, arith, append_assoc, length-append}
use Rattle.std.specs.Prelude.{nat_lt, codes}
use Rattle.std.specs.Str.{bytes_eq}
use Rattle.std.proofs.lemmas.Bool.Decides.{nat_tests}
use Rattle.abi_base.specs.declared.data_layout.TargetDataLayout.{TargetDataLayout}
use Rattle.abi_base.specs.declared.float.Float.{Float as Format}
use Rattle.abi_base.specs.declared.float.Float.TheVariants.{F16, F16B, F32, F64, F128, PpcF128}
use Rattle.abi_base.specs.declared.integer.Integer.{Integer}
use Rattle.abi_base.specs.declared.integer.Integer.TheVariants.{I8, I16, I32, I64, I128}
use Rattle.abi_base.specs.declared.primitive.Primitive.{Primitive}
use Rattle.abi_base.specs.declared.primitive.Primitive.TheVariants.{Pointer}
use Rattle.abi_scalar.specs.declared.scalar.Scalar.{Scalar}
use Rattle.abi_scalar.specs.declared.scalar.Scalar.TheVariants.{Initialized, Union}
use Rattle.abi_text.specs.declared.reader.begun.Want.{Want}
use Rattle.abi_text.specs.declared.reader.begun.Want.TheVariants as want
use Rattle.abi_text.specs.declared.reader.begun.ScalarPlace.{ScalarPlace}
use Rattle.abi_text.specs.declared.reader.begun.ScalarPlace.TheVariants as scalar_place
use Rattle.abi_text.specs.declared.reader.begun.ScalarForm.{ScalarForm}
use Rattle.abi_text.specs.declared.reader.begun.ScalarForm.TheVariants as form
use Rattle.abi_text.specs.declared.reader.scalar_word.ScalarWord.{ScalarWord}
use Rattle.abi_text.specs.declared.reader.scalar_word.ScalarWord.TheVariants as word
use Rattle.abi_base.specs.Float.{float_text}
use Rattle.abi_base.specs.Integer.{integer_text}
use Rattle.abi_text.specs.Reading.{Begun, State, at_end, at_primitive, at_scalar, at_space, at_start, at_type, begin_scalar, is_primitive, next, on_ok, put_primitive, put_scalar, read_from, waiting}
use Rattle.abi_text.specs.ScalarWords.{scalar_word}
use Rattle.abi_text.specs.TypeWords.{other_word, word_with}
use Rattle.abi_text.specs.Written.{IsPrimitiveWrittenAs, IsScalarWrittenAs, usize_text, an_integer, an_index, a_float, a_pointer, a_pointer_in, every_number, the_bool, the_char, the_ref, a_range, of_a_union}
use Rattle.abi_text.proofs.Numerals.{numeral_read}

word_of_integer : (width : Integer) (signed : Bool) → scalar_word (integer_text width signed) ≡ Some (word.Integer width signed)
word_of_integer I8 true = refl
word_of_integer I8 false = refl
word_of_integer I16 true = refl
word_of_integer I16 false = refl
word_of_integer I32 true = refl
word_of_integer I32 false = refl
word_of_integer I64 true = refl
word_of_integer I64 false = refl
word_of_integer I128 true = refl
word_of_integer I128 false = refl

word_of_index : (signed : Bool) → scalar_word (usize_text signed) ≡ Some (word.Index signed)
word_of_index true = refl
word_of_index false = refl

word_of_float : (format : Format) → scalar_word (float_text format) ≡ Some (word.Float format)
word_of_float F16 = refl
word_of_float F16B = refl
word_of_float F32 = refl
word_of_float F64 = refl
word_of_float F128 = refl
word_of_float PpcF128 = refl

pub not_deep : (begun : List Begun) → length begun ≤ 200 → nat_lt 200 (length begun) ≡ false
not_deep begun h = grind (arith, nat_tests)

module _ (dl : TargetDataLayout) where
  -- the state that a word leads to
  pub one_word : (w : Want) (begun : List Begun) (number : ℕ) (text : List ℕ) (rest : List (List ℕ)) (state : State) → next dl number begun text w ≡ Ok state
      → read_from dl number (waiting w begun) (text ∷ rest) ≡ read_from dl (number + 1) state rest
  one_word w begun number text rest state e = ap (λ r. on_ok r (λ more. read_from dl (number + 1) more rest)) e

  -- a scalar of this place may come next
  abbrev pub TakesScalar : Want → ScalarPlace → List Begun → Type 0
  TakesScalar w place begun = (number : ℕ) (text : List ℕ) (s : ScalarWord) → scalar_word text ≡ Some s → next dl number begun text w ≡ Ok (begin_scalar dl form.Full place begun s)

  -- a primitive of such a scalar may come next
  abbrev TakesPrimitive : Want → ScalarForm → ScalarPlace → List Begun → Type 0
  TakesPrimitive w shape place begun =
      (number : ℕ) (text : List ℕ) (s : ScalarWord) → scalar_word text ≡ Some s → is_primitive s ≡ true → next dl number begun text w ≡ Ok (begin_scalar dl shape place begun s)

  pub type_takes : (begun : List Begun) → length begun ≤ 200 → TakesScalar want.Tree scalar_place.Alone begun
  type_takes begun h number text s e =
      let known : at_type dl number (bytes_eq text (codes ")")) begun (word_with (Some s) (other_word text)) ≡ Ok (begin_scalar dl form.Full scalar_place.Alone begun s) = rw (not_deep begun h) refl in
      ap (λ o. at_type dl number (bytes_eq text (codes ")")) begun (word_with o (other_word text))) e ∙ known

  pub pair_takes : (place : ScalarPlace) (begun : List Begun) → TakesScalar (want.Scalar place) place begun
  pair_takes place begun number text s e = ap (at_scalar dl number place begun) e

  primitive_takes : (shape : ScalarForm) (place : ScalarPlace) (begun : List Begun) → TakesPrimitive (want.Primitive shape place) shape place begun
  primitive_takes shape place begun number text s e begins =
      let known : at_primitive dl number shape place begun (Some s) ≡ Ok (begin_scalar dl shape place begun s) = rw begins refl in
      ap (at_primitive dl number shape place begun) e ∙ known

  read_primitive : (p : Primitive) (words : List (List ℕ)) → IsPrimitiveWrittenAs dl p words → (w : Want) (shape : ScalarForm) (place : ScalarPlace) (begun : List Begun) (number : ℕ) (rest : List (List ℕ))
      → TakesPrimitive w shape place begun → read_from dl number (waiting w begun) (words ++ rest) ≡ read_from dl (number + length words) (put_primitive dl p shape place begun) rest
  read_primitive p words (an_integer width signed) w shape place begun number rest takes =
      one_word w begun number (integer_text width signed) rest (begin_scalar dl shape place begun (word.Integer width signed))
      (takes number (integer_text width signed) (word.Integer width signed) (word_of_integer width signed) refl)
  read_primitive p words (an_index signed) w shape place begun number rest takes =
      one_word w begun number (usize_text signed) rest (begin_scalar dl shape place begun (word.Index signed)) (takes number (usize_text signed) (word.Index signed) (word_of_index signed) refl)
  read_primitive p words (a_float format) w shape place begun number rest takes =
      one_word w begun number (float_text format) rest (begin_scalar dl shape place begun (word.Float format)) (takes number (float_text format) (word.Float format) (word_of_float format) refl)
  read_primitive p words a_pointer w shape place begun number rest takes =
      one_word w begun number (codes "ptr") rest (begin_scalar dl shape place begun word.Pointer) (takes number (codes "ptr") word.Pointer refl refl)
  read_primitive p words (a_pointer_in space text is) w shape place begun number rest takes =
      let there : number + 1 + 1 ≡ number + length (codes "ptrin" ∷ text ∷ []) = omega arith in
      one_word w begun number (codes "ptrin") (text ∷ rest) (waiting (want.Space shape place) begun) (takes number (codes "ptrin") word.PointerIn refl refl)
      ∙ one_word (want.Space shape place) begun (number + 1) text rest (put_primitive dl (Pointer (record { 0 = space })) shape place begun)
      (ap (at_space dl (number + 1) shape place begun) (numeral_read 32 space text (omega arith) is))
      ∙ ap (λ n. read_from dl n (put_primitive dl (Pointer (record { 0 = space })) shape place begun) rest) there

  pub read_scalar : (s : Scalar) (words : List (List ℕ)) → IsScalarWrittenAs dl s words → (w : Want) (place : ScalarPlace) (begun : List Begun) (number : ℕ) (rest : List (List ℕ))
      → TakesScalar w place begun → read_from dl number (waiting w begun) (words ++ rest) ≡ read_from dl (number + length words) (put_scalar s place begun) rest
  read_scalar s words (every_number p text is) w place begun number rest takes =
      read_primitive p text is w form.Full place begun number rest (λ n v s e begins. takes n v s e)
  read_scalar s words the_bool w place begun number rest takes =
      one_word w begun number (codes "bool") rest (begin_scalar dl form.Full place begun word.Bool) (takes number (codes "bool") word.Bool refl)
  read_scalar s words the_char w place begun number rest takes =
      one_word w begun number (codes "char") rest (begin_scalar dl form.Full place begun word.Char) (takes number (codes "char") word.Char refl)
  read_scalar s words the_ref w place begun number rest takes =
      one_word w begun number (codes "ref") rest (begin_scalar dl form.Full place begun word.Ref) (takes number (codes "ref") word.Ref refl)
  read_scalar s words (a_range p text start end low high is from to) w place begun number rest takes =
      let there : number + 1 + length text + 1 + 1 ≡ number + length (codes "range" ∷ (text ++ low ∷ high ∷ [])) = omega (arith, length-append text (low ∷ high ∷ [])) in
      one_word w begun number (codes "range") ((text ++ low ∷ high ∷ []) ++ rest) (waiting (want.Primitive form.Range place) begun) (takes number (codes "range") word.Range refl)
      ∙ ap (read_from dl (number + 1) (waiting (want.Primitive form.Range place) begun)) (append_assoc text (low ∷ high ∷ []) rest)
      ∙ read_primitive p text is (want.Primitive form.Range place) form.Range place begun (number + 1) (low ∷ high ∷ rest) (primitive_takes form.Range place begun)
      ∙ one_word (want.RangeStart p place) begun (number + 1 + length text) low (high ∷ rest) (waiting (want.RangeEnd p start place) begun)
      (ap (at_start (number + 1 + length text) p place begun) (numeral_read 128 start low (omega arith) from))
      ∙ one_word (want.RangeEnd p start place) begun (number + 1 + length text + 1) high rest (put_scalar (Initialized p (record { start = start; end = end })) place begun)
      (ap (at_end (number + 1 + length text + 1) p start place begun) (numeral_read 128 end high (omega arith) to))
      ∙ ap (λ n. read_from dl n (put_scalar (Initialized p (record { start = start; end = end })) place begun) rest) there
  read_scalar s words (of_a_union p text is) w place begun number rest takes =
      let there : number + 1 + length text ≡ number + length (codes "unionof" ∷ text) = omega arith in
      one_word w begun number (codes "unionof") (text ++ rest) (waiting (want.Primitive form.Union place) begun) (takes number (codes "unionof") word.UnionOf refl)
      ∙ read_primitive p text is (want.Primitive form.Union place) form.Union place begun (number + 1) rest (primitive_takes form.Union place begun)
      ∙ ap (λ n. read_from dl n (put_scalar (Union p) place begun) rest) there
