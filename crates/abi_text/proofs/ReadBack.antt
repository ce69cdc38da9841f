-- The line that writes a type reads back as that type.
use Rattle.std.proofs.Common.{◌≡◌, ℕ, ◌^◌, ◌<◌, ◌≤◌, Bool, true, false, List, [], ◌∷◌, ◌++◌, length, Result, Ok, Err, refl, ap, ◌∙◌, arith, inl, inr}
use Rattle.std.specs.Prelude.{◌&&◌, ◌⊎◌, codes, MatchResult}
use Rattle.std.specs.Char.{is_ascii_digit}
use Rattle.std.specs.List.{list_all}
use Rattle.std.specs.Str.{all_ascii_digits}
use Rattle.abi_base.specs.declared.data_layout.TargetDataLayout.{TargetDataLayout}
use Rattle.abi_base.specs.declared.float.Float.{Float as Format}
use Rattle.abi_base.specs.declared.float.Float.TheVariants.{F16, F16B, F32, F64, F128, PpcF128}
use Rattle.abi_base.specs.declared.integer.Integer.{Integer}
use Rattle.abi_base.specs.declared.integer.Integer.TheVariants.{I8, I16, I32, I64, I128}
use Rattle.abi_base.specs.declared.primitive.Primitive.{Primitive}
use Rattle.abi_scalar.specs.declared.scalar.Scalar.{Scalar}
use Rattle.abi_tree.specs.declared.tree.TypeTree.{TypeTree}
use Rattle.abi_tree.specs.Tree.{Tree, Trees, Variants, tree_of}
use Rattle.abi_text.specs.declared.fault.Fault.{Fault}
use Rattle.abi_text.specs.declared.fault.Fault.TheVariants.{OutOfMemory}
use Rattle.abi_base.specs.Float.{float_text}
use Rattle.abi_base.specs.Integer.{integer_text}
use Rattle.abi_text.specs.Reading.{Agrees, read}
use Rattle.abi_text.specs.Words.{begins_plain, grown, is_plain, words_of}
use Rattle.abi_text.specs.Written.{IsNumeral, IsPrimitiveWrittenAs, IsScalarWrittenAs, IsWrittenAs, AreWrittenAs, an_integer, an_index, a_float, a_pointer, a_pointer_in, every_number, the_bool, the_char, the_ref, a_range, of_a_union, a_scalar, a_pair, no_value, one_value, an_array, a_vector, a_struct, an_ordered, a_union, an_enum, a_coroutine, no_more, one_more, AreVariantsWrittenAs, no_variant_more, one_variant_more, IsDiscriminant, not_negative, negative, in_parentheses, AreNumerals, no_number_more, one_number_more, AreStatesWrittenAs, no_state_more, one_state_more, AreConflictsWrittenAs, no_conflict_more, one_conflict_more, usize_text, IsLineOf, no_words, a_space, an_opening, a_closing, a_word, nesting, vector_word}
use Rattle.abi_text.proofs.Numerals.{numeral_digits}
use Rattle.abi_text.proofs.ReprWords.{IsPlain, both, digit_plain, struct_repr_plain, union_repr_plain}
use Rattle.abi_text.proofs.Text.{words_alone, words_grow}
use Rattle.abi_text.proofs.Written.{words_read}

-- bytes of a word, at least one
abbrev is_run : List ℕ → Bool
is_run [] = false
is_run (b ∷ w) = is_plain b && list_all is_plain w

abbrev IsWord : List ℕ → Type 0
IsWord w = (is_run w ≡ true) ⊎ ((w ≡ codes "(") ⊎ (w ≡ codes ")"))

abbrev AreWords : List (List ℕ) → Type 0
AreWords [] = Unit {0}
AreWords (w ∷ ws) = IsWord w × AreWords ws

run_line : (b : ℕ) (w line : List ℕ) → is_plain b ≡ true → list_all is_plain w ≡ true → begins_plain line ≡ false → words_of ((b ∷ w) ++ line) ≡ (b ∷ w) ∷ words_of line
run_line b [] line here all ends = words_alone b line here ends
run_line b (c ∷ w) line here all ends =
    let p = both (is_plain c) (list_all is_plain w) all in
    words_grow b ((c ∷ w) ++ line) here p.0 ∙ ap (grown b) (run_line c w line p.0 p.1 ends)

word_line : (w line : List ℕ) → IsWord w → begins_plain line ≡ false → words_of (w ++ line) ≡ w ∷ words_of line
word_line [] line (inl h) ends = cc
word_line (b ∷ w) line (inl h) ends = let p = both (is_plain b) (list_all is_plain w) h in run_line b w line p.0 p.1 ends
word_line w line (inr (inl e)) ends = rw e refl
word_line w line (inr (inr e)) ends = rw e refl

words_line : (words : List (List ℕ)) (line : List ℕ) → IsLineOf words line → AreWords words → words_of line ≡ words
words_line words line no_words h = refl
words_line words line (a_space more rest is) h = words_line more rest is h
words_line words line (an_opening more rest is) h = ap (λ ws. codes "(" ∷ ws) (words_line more rest is h.1)
words_line words line (a_closing more rest is) h = ap (λ ws. codes ")" ∷ ws) (words_line more rest is h.1)
words_line words line (a_word w more rest is ends) h = word_line w rest h.0 ends ∙ ap (λ ws. w ∷ ws) (words_line more rest is h.1)

words_append : (vs ws : List (List ℕ)) → AreWords vs → AreWords ws → AreWords (vs ++ ws)
words_append [] ws a b = b
words_append (v ∷ vs) ws a b = (a.0, words_append vs ws a.1 b)

plain_word : (w : List ℕ) → (0 < length w) × IsPlain w → IsWord w
plain_word [] h = absurd (omega arith)
plain_word (b ∷ w) h = inl h.1

digits_plain : (ds : List ℕ) → all_ascii_digits ds ≡ true → IsPlain ds
digits_plain [] h = refl
digits_plain (c ∷ cs) h =
    let p = both (is_ascii_digit c) (all_ascii_digits cs) h in
    rw (digit_plain c p.0) (digits_plain cs p.1)

numeral_word : (bits n : ℕ) (w : List ℕ) → 2 ^ bits ≤ 2 ^ 128 → IsNumeral bits n w → IsWord w
numeral_word bits n w number_u128 h =
    let digits = numeral_digits bits n w number_u128 h in
    plain_word w (digits.0, digits_plain w digits.1)

discriminant_word : (d : ℕ) (w : List ℕ) → IsDiscriminant d w → IsWord w
discriminant_word d w (not_negative n text is) = numeral_word 128 n text (omega arith) is
discriminant_word d w (negative n text some small is) =
    let digits = numeral_digits 128 n text (omega arith) is in
    inl (digits_plain text digits.1)

parenthesis_words : (words : List (List ℕ)) → AreWords words → AreWords (in_parentheses words)
parenthesis_words words h = (inr (inl refl), words_append words (codes ")" ∷ []) h (inr (inr refl), tt))

numerals_words : (ns : List ℕ) (words : List (List ℕ)) → AreNumerals ns words → AreWords words
numerals_words ns words no_number_more = tt
numerals_words ns words (one_number_more n others text more said are) = (numeral_word 64 n text (omega arith) said, numerals_words others more are)

states_words : (ss : List (List ℕ)) (words : List (List ℕ)) → AreStatesWrittenAs ss words → AreWords words
states_words ss words no_state_more = tt
states_words ss words (one_state_more s others text more are follow) =
    words_append (in_parentheses text) more (parenthesis_words text (numerals_words s text are)) (states_words others more follow)

conflicts_words : (cs : List (ℕ × ℕ)) (words : List (List ℕ)) → AreConflictsWrittenAs cs words → AreWords words
conflicts_words cs words no_conflict_more = tt
conflicts_words cs words (one_conflict_more row column others one two more is also follow) =
    (numeral_word 64 row one (omega arith) is, (numeral_word 64 column two (omega arith) also, conflicts_words others more follow))

integer_word : (width : Integer) (signed : Bool) → IsWord (integer_text width signed)
integer_word I8 true = inl refl
integer_word I8 false = inl refl
integer_word I16 true = inl refl
integer_word I16 false = inl refl
integer_word I32 true = inl refl
integer_word I32 false = inl refl
integer_word I64 true = inl refl
integer_word I64 false = inl refl
integer_word I128 true = inl refl
integer_word I128 false = inl refl

index_word : (signed : Bool) → IsWord (usize_text signed)
index_word true = inl refl
index_word false = inl refl

float_word : (format : Format) → IsWord (float_text format)
float_word F16 = inl refl
float_word F16B = inl refl
float_word F32 = inl refl
float_word F64 = inl refl
float_word F128 = inl refl
float_word PpcF128 = inl refl

vector_word_word : (packed : Bool) → IsWord (vector_word packed)
vector_word_word true = inl refl
vector_word_word false = inl refl

module _ (dl : TargetDataLayout) where
  primitive_words : (p : Primitive) (words : List (List ℕ)) → IsPrimitiveWrittenAs dl p words → AreWords words
  primitive_words p words (an_integer width signed) = (integer_word width signed, tt)
  primitive_words p words (an_index signed) = (index_word signed, tt)
  primitive_words p words (a_float format) = (float_word format, tt)
  primitive_words p words a_pointer = (inl refl, tt)
  primitive_words p words (a_pointer_in space text is) = (inl refl, (numeral_word 32 space text (omega arith) is, tt))

  scalar_words : (s : Scalar) (words : List (List ℕ)) → IsScalarWrittenAs dl s words → AreWords words
  scalar_words s words (every_number p text is) = primitive_words p text is
  scalar_words s words the_bool = (inl refl, tt)
  scalar_words s words the_char = (inl refl, tt)
  scalar_words s words the_ref = (inl refl, tt)
  scalar_words s words (a_range p text start end low high is from to) =
      (inl refl, words_append text (low ∷ high ∷ []) (primitive_words p text is) (numeral_word 128 start low (omega arith) from, (numeral_word 128 end high (omega arith) to, tt)))
  scalar_words s words (of_a_union p text is) = (inl refl, primitive_words p text is)

  mutual
    tree_words : (t : Tree) (words : List (List ℕ)) → IsWrittenAs dl t words → AreWords words
    tree_words t words (a_scalar s text is) = scalar_words s text is
    tree_words t words (a_pair a b one two is also) = (inl refl, words_append one two (scalar_words a one is) (scalar_words b two also))
    tree_words t words no_value = (inl refl, tt)
    tree_words t words one_value = (inl refl, tt)
    tree_words t words (an_array count text e more said is) = (inl refl, (numeral_word 64 count text (omega arith) said, tree_words e more is))
    tree_words t words (a_vector count packed text e more said is) = (vector_word_word packed, (numeral_word 64 count text (omega arith) said, tree_words e more is))
    tree_words t words (a_struct asked text ts more said are) =
        (inl refl, (plain_word text (struct_repr_plain text asked said), (inr (inl refl), words_append more (codes ")" ∷ []) (each_words ts more are) (inr (inr refl), tt))))
    tree_words t words (an_ordered asked text is ts indices more said numbers are) =
        (inl refl, (plain_word text (struct_repr_plain text asked said), words_append (in_parentheses indices) (in_parentheses more) (parenthesis_words indices (numerals_words is indices numbers)) (parenthesis_words more (each_words ts more are))))
    tree_words t words (a_union repr text ts more said are) =
        (inl refl, (plain_word text (union_repr_plain text repr said), (inr (inl refl), words_append more (codes ")" ∷ []) (each_words ts more are) (inr (inr refl), tt))))
    tree_words t words (an_enum repr text vs more said are) =
        (inl refl, (plain_word text (union_repr_plain text repr said), (inr (inl refl), words_append more (codes ")" ∷ []) (variants_words vs more are) (inr (inr refl), tt))))
    tree_words t words (a_coroutine ps ls ss cs prefix locals states conflicts first_types then_types then_states then_conflicts) = (
      inl refl,
      words_append (in_parentheses prefix) (in_parentheses locals ++ (in_parentheses states ++ in_parentheses conflicts)) (parenthesis_words prefix (each_words ps prefix first_types))
          (words_append (in_parentheses locals) (in_parentheses states ++ in_parentheses conflicts) (parenthesis_words locals (each_words ls locals then_types))
          (words_append (in_parentheses states) (in_parentheses conflicts) (parenthesis_words states (states_words ss states then_states)) (parenthesis_words conflicts (conflicts_words cs conflicts then_conflicts)))),
    )

    each_words : (ts : Trees) (words : List (List ℕ)) → AreWrittenAs dl ts words → AreWords words
    each_words ts words no_more = tt
    each_words ts words (one_more t others text more is are) = words_append text more (tree_words t text is) (each_words others more are)

    variants_words : (vs : Variants) (words : List (List ℕ)) → AreVariantsWrittenAs dl vs words → AreWords words
    variants_words vs words no_variant_more = tt
    variants_words vs words (one_variant_more d text ts others more later said are follow) =
        (discriminant_word d text said, (inr (inl refl), words_append more (codes ")" ∷ later) (each_words ts more are) (inr (inr refl), variants_words others later follow)))

line_read : (dl : TargetDataLayout) (t : Tree) (words : List (List ℕ)) (line : List ℕ) → IsWrittenAs dl t words → nesting t ≤ 200 → IsLineOf words line → read dl (words_of line) ≡ Ok t
line_read dl t words line is shallow stand = ap (read dl) (words_line words line stand (tree_words dl t words is)) ∙ words_read dl t words is shallow

agrees_back : (t : Tree) (answer : Result Tree Fault) (result : Result TypeTree Fault) → Agrees tree_of answer result → answer ≡ Ok t
    → MatchResult result (λ tree. tree_of tree ≡ t) (λ fault. fault ≡ OutOfMemory)
agrees_back t answer (Ok tree) a e = cc
agrees_back t answer (Err fault) (inl a) e = cc
agrees_back t answer (Err fault) (inr a) e = a

pub reads_back : (dl : TargetDataLayout) (t : Tree) (words : List (List ℕ)) (line : List ℕ) (result : Result TypeTree Fault) → Agrees tree_of (read dl (words_of line)) result
    → IsWrittenAs dl t words → nesting t ≤ 200 → IsLineOf words line → MatchResult result (λ tree. tree_of tree ≡ t) (λ fault. fault ≡ OutOfMemory)
reads_back dl t words line result a is shallow stand = agrees_back t (read dl (words_of line)) result a (line_read dl t words line is shallow stand)
