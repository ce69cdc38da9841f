-- A written type reads back as itself.
use Rattle.std.proofs.Common.{◌≡◌, ℕ, ◌+◌, ◌^◌, ◌≤◌, ◌<◌, Bool, true, false, List, [], ◌∷◌, ◌++◌, None, Some, length, Ok, refl, sym, ap, ap₂, ◌∙◌, arith, append_assoc, append-nil, length-append}
use Rattle.std.specs.Prelude.{◌==◌, codes}
use Rattle.std.specs.Char.{is_ascii_digit}
use Rattle.std.specs.Str.{all_ascii_digits, bytes_eq}
use Rattle.std.proofs.lemmas.Bool.Decides.{nat_tests}
use Rattle.abi_base.specs.declared.data_layout.TargetDataLayout.{TargetDataLayout}
use Rattle.abi_scalar.specs.declared.repr.ReprOptions.{ReprOptions}
use Rattle.abi_tree.specs.Tree.{Tree, pair, never, unit, array, vector, struct, union, enum, coroutine, Trees, no_trees, more_trees, trees, Variants, no_variants, more_variants}
use Rattle.abi_text.specs.declared.reader.begun.Want.{Want}
use Rattle.abi_text.specs.declared.reader.begun.Want.TheVariants as want
use Rattle.abi_text.specs.declared.reader.begun.ScalarPlace.TheVariants as scalar_place
use Rattle.abi_text.specs.declared.reader.begun.CoroutineWant.TheVariants as part
use Rattle.abi_text.specs.declared.reader.begun.OrderWant.TheVariants as order
use Rattle.abi_text.specs.declared.reader.repr_text.StructRepr.{StructRepr}
use Rattle.abi_text.specs.Reading.{Begun, State, elements, lanes, fields, ordering, ordered, members, at_index, at_order_repr, variants_so_far, variant, variants_read, coroutine_with, in_prefix, in_locals, between_states, in_state, in_conflicts, at_count, at_lanes, at_repr, at_union_repr, at_enum_repr, at_discriminant, at_local, at_row, at_column, next, put_type, read, read_from, waiting}
use Rattle.abi_text.specs.Written.{IsWrittenAs, AreWrittenAs, a_scalar, a_pair, no_value, one_value, an_array, a_vector, a_struct, an_ordered, a_union, an_enum, a_coroutine, no_more, one_more, AreVariantsWrittenAs, no_variant_more, one_variant_more, IsNumeral, IsDiscriminant, not_negative, negative, in_parentheses, AreNumerals, no_number_more, one_number_more, AreStatesWrittenAs, no_state_more, one_state_more, AreConflictsWrittenAs, no_conflict_more, one_conflict_more, nesting, nesting_of_fields, nesting_of_variants, vector_word}
use Rattle.abi_text.proofs.Numerals.{both, numeral_read, numeral_digits, discriminant_read}
use Rattle.abi_text.proofs.ScalarsRead.{not_deep, one_word, pair_takes, read_scalar, type_takes}

abbrev list_in : Trees → List Tree
list_in no_trees = []
list_in (more_trees t ts) = t ∷ list_in ts

trees_in : (ts : Trees) → trees (list_in ts) ≡ ts
trees_in no_trees = refl
trees_in (more_trees t ts) = ap (more_trees t) (trees_in ts)

abbrev variant_list : Variants → List (ℕ × List Tree)
variant_list no_variants = []
variant_list (more_variants d ts vs) = (d, list_in ts) ∷ variant_list vs

variants_listed : (vs : Variants) → variants_read (variant_list vs) ≡ vs
variants_listed no_variants = refl
variants_listed (more_variants d ts vs) = ap₂ (more_variants d) (trees_in ts) (variants_listed vs)

-- a struct, a union, a variant, or a coroutine's prefix or its locals, that take a type as their next one
abbrev TakesMore : (List Tree → Begun) → Type 0
TakesMore top = (t : Tree) (ts : List Tree) (begun : List Begun) → put_type t (top ts ∷ begun) ≡ waiting want.Tree (top (ts ++ t ∷ []) ∷ begun)

takes_fields : (asked : StructRepr) → TakesMore (fields asked)
takes_fields asked t ts begun = refl

takes_ordered : (asked : StructRepr) (is : List ℕ) → TakesMore (ordered asked is)
takes_ordered asked is t ts begun = refl

takes_members : (repr : ReprOptions) → TakesMore (members repr)
takes_members repr t ts begun = refl

takes_in_variant : (repr : ReprOptions) (vs : List (ℕ × List Tree)) (d : ℕ) → TakesMore (variant repr vs d)
takes_in_variant repr vs d t ts begun = refl

takes_in_prefix : TakesMore (λ ts. coroutine_with (in_prefix ts))
takes_in_prefix t ts begun = refl

takes_in_locals : (ps : List Tree) → TakesMore (λ ts. coroutine_with (in_locals ps ts))
takes_in_locals ps t ts begun = refl

-- a word that begins with a digit, or with `-`, closes nothing
digits_no_end : (w : List ℕ) → 0 < length w → all_ascii_digits w ≡ true → bytes_eq w (codes ")") ≡ false
digits_no_end [] some h = refl
digits_no_end (c ∷ cs) some h =
    let digit : is_ascii_digit c ≡ true = (both (is_ascii_digit c) (all_ascii_digits cs) h).0 in
    let no : (c == 41) ≡ false = grind (arith, nat_tests) in
    rw no refl

numeral_no_end : (bits n : ℕ) (w : List ℕ) → 2 ^ bits ≤ 2 ^ 128 → IsNumeral bits n w → bytes_eq w (codes ")") ≡ false
numeral_no_end bits n w number_u128 is =
    let digits = numeral_digits bits n w number_u128 is in
    digits_no_end w digits.0 digits.1

discriminant_no_end : (d : ℕ) (w : List ℕ) → IsDiscriminant d w → bytes_eq w (codes ")") ≡ false
discriminant_no_end d w (not_negative n text is) = numeral_no_end 128 n text (omega arith) is
discriminant_no_end d w (negative n text some small is) = refl

-- four lists in a row, and what follows them
append_four : (a b c d rest : List (List ℕ)) → (a ++ (b ++ (c ++ d))) ++ rest ≡ a ++ (b ++ (c ++ (d ++ rest)))
append_four a b c d rest =
    append_assoc a (b ++ (c ++ d)) rest ∙ ap (λ xs. a ++ xs) (append_assoc b (c ++ d) rest) ∙ ap (λ xs. a ++ (b ++ xs)) (append_assoc c d rest)

module _ (dl : TargetDataLayout) where
  -- words between parentheses, where the words within are read to their end
  read_between : (opening inner : Want) (before inside after : List Begun) (words : List (List ℕ)) (state : State)
      → ((n : ℕ) → next dl n before (codes "(") opening ≡ Ok (waiting inner inside))
      → ((n : ℕ) (rest : List (List ℕ)) → read_from dl n (waiting inner inside) (words ++ rest) ≡ read_from dl (n + length words) (waiting inner after) rest)
      → ((n : ℕ) → next dl n after (codes ")") inner ≡ Ok state)
      → (number : ℕ) (rest : List (List ℕ))
      → read_from dl number (waiting opening before) (in_parentheses words ++ rest) ≡ read_from dl (number + length (in_parentheses words)) state rest
  read_between opening inner before inside after words state opens within closes number rest =
      let there : number + 1 + length words + 1 ≡ number + length (in_parentheses words) = omega (arith, length-append words (codes ")" ∷ [])) in
      one_word dl opening before number (codes "(") ((words ++ codes ")" ∷ []) ++ rest) (waiting inner inside) (opens number)
      ∙ ap (read_from dl (number + 1) (waiting inner inside)) (append_assoc words (codes ")" ∷ []) rest)
      ∙ within (number + 1) (codes ")" ∷ rest)
      ∙ one_word dl inner after (number + 1 + length words) (codes ")") rest state (closes (number + 1 + length words))
      ∙ ap (λ n. read_from dl n state rest) there

  -- a list of indices takes a numeral as its next one
  abbrev TakesNumbers : Want → (List ℕ → Begun) → Type 0
  TakesNumbers w top =
      (k : ℕ) (text : List ℕ) → IsNumeral 64 k text → (done : List ℕ) (begun : List Begun) (number : ℕ) → next dl number (top done ∷ begun) text w ≡ Ok (waiting w (top (done ++ k ∷ []) ∷ begun))

  takes_local : (ps ls : List Tree) (ss : List (List ℕ)) → TakesNumbers (want.Coroutine part.Local) (λ ks. coroutine_with (in_state ps ls ss ks))
  takes_local ps ls ss k text said done begun number =
      ap₂ (λ closes o. at_local number closes (coroutine_with (in_state ps ls ss done) ∷ begun) o) (numeral_no_end 64 k text (omega arith) said) (numeral_read 64 k text (omega arith) said)

  takes_index : (asked : StructRepr) → TakesNumbers (want.Order order.Index) (ordering asked)
  takes_index asked k text said done begun number =
      ap₂ (λ closes o. at_index number closes (ordering asked done ∷ begun) o) (numeral_no_end 64 k text (omega arith) said) (numeral_read 64 k text (omega arith) said)

  read_numerals : (w : Want) (top : List ℕ → Begun) → TakesNumbers w top → (ns : List ℕ) (words : List (List ℕ)) → AreNumerals ns words → (done : List ℕ) (begun : List Begun) (number : ℕ) (rest : List (List ℕ))
      → read_from dl number (waiting w (top done ∷ begun)) (words ++ rest) ≡ read_from dl (number + length words) (waiting w (top (done ++ ns) ∷ begun)) rest
  read_numerals w top takes ns words no_number_more done begun number rest =
      let there : number ≡ number + 0 = omega arith in
      ap₂ (λ n ks. read_from dl n (waiting w (top ks ∷ begun)) rest) there (sym (append-nil done))
  read_numerals w top takes ns words (one_number_more k others text more said are) done begun number rest =
      let there : number + 1 + length more ≡ number + length (text ∷ more) = omega arith in
      one_word dl w (top done ∷ begun) number text (more ++ rest) (waiting w (top (done ++ k ∷ []) ∷ begun)) (takes k text said done begun number)
      ∙ read_numerals w top takes others more are (done ++ k ∷ []) begun (number + 1) rest
      ∙ ap₂ (λ n ks. read_from dl n (waiting w (top ks ∷ begun)) rest) there (append_assoc done (k ∷ []) others)

  read_states : (ss : List (List ℕ)) (words : List (List ℕ)) → AreStatesWrittenAs ss words → (ps ls : List Tree) (done : List (List ℕ)) (begun : List Begun) (number : ℕ) (rest : List (List ℕ))
      → read_from dl number (waiting (want.Coroutine part.State) (coroutine_with (between_states ps ls done) ∷ begun)) (words ++ rest)
      ≡ read_from dl (number + length words) (waiting (want.Coroutine part.State) (coroutine_with (between_states ps ls (done ++ ss)) ∷ begun)) rest
  read_states ss words no_state_more ps ls done begun number rest =
      let there : number ≡ number + 0 = omega arith in
      ap₂ (λ n us. read_from dl n (waiting (want.Coroutine part.State) (coroutine_with (between_states ps ls us) ∷ begun)) rest) there (sym (append-nil done))
  read_states ss words (one_state_more s others text more are follow) ps ls done begun number rest =
      let there : number + length (in_parentheses text) + length more ≡ number + length (in_parentheses text ++ more) = omega (arith, length-append (in_parentheses text) more) in
      ap (read_from dl number (waiting (want.Coroutine part.State) (coroutine_with (between_states ps ls done) ∷ begun))) (append_assoc (in_parentheses text) more rest)
      ∙ read_between (want.Coroutine part.State) (want.Coroutine part.Local) (coroutine_with (between_states ps ls done) ∷ begun) (coroutine_with (in_state ps ls done []) ∷ begun)
      (coroutine_with (in_state ps ls done s) ∷ begun) text (waiting (want.Coroutine part.State) (coroutine_with (between_states ps ls (done ++ s ∷ [])) ∷ begun))
      (λ n. refl) (read_numerals (want.Coroutine part.Local) (λ ks. coroutine_with (in_state ps ls done ks)) (takes_local ps ls done) s text are [] begun) (λ n. refl) number (more ++ rest)
      ∙ read_states others more follow ps ls (done ++ s ∷ []) begun (number + length (in_parentheses text)) rest
      ∙ ap₂ (λ n us. read_from dl n (waiting (want.Coroutine part.State) (coroutine_with (between_states ps ls us) ∷ begun)) rest) there (append_assoc done (s ∷ []) others)

  read_conflicts : (cs : List (ℕ × ℕ)) (words : List (List ℕ)) → AreConflictsWrittenAs cs words → (ps ls : List Tree) (ss : List (List ℕ)) (done : List (ℕ × ℕ)) (begun : List Begun) (number : ℕ) (rest : List (List ℕ))
      → read_from dl number (waiting (want.Coroutine part.Row) (coroutine_with (in_conflicts ps ls ss done) ∷ begun)) (words ++ rest)
      ≡ read_from dl (number + length words) (waiting (want.Coroutine part.Row) (coroutine_with (in_conflicts ps ls ss (done ++ cs)) ∷ begun)) rest
  read_conflicts cs words no_conflict_more ps ls ss done begun number rest =
      let there : number ≡ number + 0 = omega arith in
      ap₂ (λ n us. read_from dl n (waiting (want.Coroutine part.Row) (coroutine_with (in_conflicts ps ls ss us) ∷ begun)) rest) there (sym (append-nil done))
  read_conflicts cs words (one_conflict_more row column others one two more is also follow) ps ls ss done begun number rest =
      let there : number + 1 + 1 + length more ≡ number + length (one ∷ two ∷ more) = omega arith in
      one_word dl (want.Coroutine part.Row) (coroutine_with (in_conflicts ps ls ss done) ∷ begun) number one (two ∷ (more ++ rest))
      (waiting (want.Coroutine (part.Column row)) (coroutine_with (in_conflicts ps ls ss done) ∷ begun))
      (ap₂ (λ closes o. at_row number closes (coroutine_with (in_conflicts ps ls ss done) ∷ begun) o) (numeral_no_end 64 row one (omega arith) is) (numeral_read 64 row one (omega arith) is))
      ∙ one_word dl (want.Coroutine (part.Column row)) (coroutine_with (in_conflicts ps ls ss done) ∷ begun) (number + 1) two (more ++ rest)
      (waiting (want.Coroutine part.Row) (coroutine_with (in_conflicts ps ls ss (done ++ (row, column) ∷ [])) ∷ begun))
      (ap (at_column (number + 1) row (coroutine_with (in_conflicts ps ls ss done) ∷ begun)) (numeral_read 64 column two (omega arith) also))
      ∙ read_conflicts others more follow ps ls ss (done ++ (row, column) ∷ []) begun (number + 1 + 1) rest
      ∙ ap₂ (λ n us. read_from dl n (waiting (want.Coroutine part.Row) (coroutine_with (in_conflicts ps ls ss us) ∷ begun)) rest) there (append_assoc done ((row, column) ∷ []) others)

  variant_at : (text : List ℕ) (d : ℕ) → IsDiscriminant d text → (begun : List Begun) (number : ℕ) → next dl number begun text want.Discriminant ≡ Ok (waiting (want.VariantOpening d) begun)
  variant_at text d said begun number = ap₂ (λ closes o. at_discriminant number closes begun o) (discriminant_no_end d text said) (discriminant_read d text said)

  vector_at : (packed : Bool) (begun : List Begun) (number : ℕ) → length begun ≤ 200 → next dl number begun (vector_word packed) want.Tree ≡ Ok (waiting (want.Lanes packed) begun)
  vector_at true begun number h = rw (not_deep begun h) refl
  vector_at false begun number h = rw (not_deep begun h) refl

  mutual
    read_tree : (t : Tree) (words : List (List ℕ)) → IsWrittenAs dl t words → (begun : List Begun) (number : ℕ) (rest : List (List ℕ)) → length begun + nesting t ≤ 200
        → read_from dl number (waiting want.Tree begun) (words ++ rest) ≡ read_from dl (number + length words) (put_type t begun) rest
    read_tree t words (a_scalar s text is) begun number rest deep =
        read_scalar dl s text is want.Tree scalar_place.Alone begun number rest (type_takes dl begun (omega arith))
    read_tree t words (a_pair a b one two is also) begun number rest deep =
        let there : number + 1 + length one + length two ≡ number + length (codes "pair" ∷ (one ++ two)) = omega (arith, length-append one two) in
        one_word dl want.Tree begun number (codes "pair") ((one ++ two) ++ rest) (waiting (want.Scalar scalar_place.First) begun) (rw (not_deep begun (omega arith)) refl)
        ∙ ap (read_from dl (number + 1) (waiting (want.Scalar scalar_place.First) begun)) (append_assoc one two rest)
        ∙ read_scalar dl a one is (want.Scalar scalar_place.First) scalar_place.First begun (number + 1) (two ++ rest) (pair_takes dl scalar_place.First begun)
        ∙ read_scalar dl b two also (want.Scalar (scalar_place.Second a)) (scalar_place.Second a) begun (number + 1 + length one) rest (pair_takes dl (scalar_place.Second a) begun)
        ∙ ap (λ n. read_from dl n (put_type (pair a b) begun) rest) there
    read_tree t words no_value begun number rest deep = one_word dl want.Tree begun number (codes "never") rest (put_type never begun) (rw (not_deep begun (omega arith)) refl)
    read_tree t words one_value begun number rest deep = one_word dl want.Tree begun number (codes "unit") rest (put_type unit begun) (rw (not_deep begun (omega arith)) refl)
    read_tree t words (an_array count text e more said is) begun number rest deep =
        let there : number + 1 + 1 + length more ≡ number + length (codes "array" ∷ text ∷ more) = omega arith in
        one_word dl want.Tree begun number (codes "array") (text ∷ (more ++ rest)) (waiting want.Count begun) (rw (not_deep begun (omega arith)) refl)
        ∙ one_word dl want.Count begun (number + 1) text (more ++ rest) (waiting want.Tree (elements count ∷ begun)) (ap (at_count (number + 1) begun) (numeral_read 64 count text (omega arith) said))
        ∙ read_tree e more is (elements count ∷ begun) (number + 1 + 1) rest (omega arith)
        ∙ ap (λ n. read_from dl n (put_type (array count e) begun) rest) there
    read_tree t words (a_vector count packed text e more said is) begun number rest deep =
        let there : number + 1 + 1 + length more ≡ number + length (vector_word packed ∷ text ∷ more) = omega arith in
        one_word dl want.Tree begun number (vector_word packed) (text ∷ (more ++ rest)) (waiting (want.Lanes packed) begun) (vector_at packed begun number (omega arith))
        ∙ one_word dl (want.Lanes packed) begun (number + 1) text (more ++ rest) (waiting want.Tree (lanes count packed ∷ begun)) (ap (at_lanes (number + 1) packed begun) (numeral_read 64 count text (omega arith) said))
        ∙ read_tree e more is (lanes count packed ∷ begun) (number + 1 + 1) rest (omega arith)
        ∙ ap (λ n. read_from dl n (put_type (vector count packed e) begun) rest) there
    read_tree t words (a_struct asked text ts more said are) begun number rest deep =
        let there : number + 1 + 1 + 1 + length more + 1 ≡ number + length (codes "struct" ∷ text ∷ codes "(" ∷ (more ++ codes ")" ∷ [])) = omega (arith, length-append more (codes ")" ∷ [])) in
        one_word dl want.Tree begun number (codes "struct") (text ∷ codes "(" ∷ ((more ++ codes ")" ∷ []) ++ rest)) (waiting want.Repr begun) (rw (not_deep begun (omega arith)) refl)
        ∙ one_word dl want.Repr begun (number + 1) text (codes "(" ∷ ((more ++ codes ")" ∷ []) ++ rest)) (waiting (want.Opening asked) begun) (ap (at_repr (number + 1) begun) said)
        ∙ one_word dl (want.Opening asked) begun (number + 1 + 1) (codes "(") ((more ++ codes ")" ∷ []) ++ rest) (waiting want.Tree (fields asked [] ∷ begun)) refl
        ∙ ap (read_from dl (number + 1 + 1 + 1) (waiting want.Tree (fields asked [] ∷ begun))) (append_assoc more (codes ")" ∷ []) rest)
        ∙ read_trees ts more are (fields asked) (takes_fields asked) begun [] (number + 1 + 1 + 1) (codes ")" ∷ rest) deep
        ∙ one_word dl want.Tree (fields asked (list_in ts) ∷ begun) (number + 1 + 1 + 1 + length more) (codes ")") rest (put_type (struct asked.repr asked.always_sized None (trees (list_in ts))) begun) refl
        ∙ ap₂ (λ n ts. read_from dl n (put_type (struct asked.repr asked.always_sized None ts) begun) rest) there (trees_in ts)
    read_tree t words (an_ordered asked text is ts indices more said numbers are) begun number rest deep =
        let there : number + 1 + 1 + length (in_parentheses indices) + length (in_parentheses more) ≡ number + length (codes "ordered" ∷ text ∷ (in_parentheses indices ++ in_parentheses more))
        = omega (arith, length-append (in_parentheses indices) (in_parentheses more)) in
        one_word dl want.Tree begun number (codes "ordered") (text ∷ ((in_parentheses indices ++ in_parentheses more) ++ rest)) (waiting (want.Order order.Repr) begun) (rw (not_deep begun (omega arith)) refl)
        ∙ one_word dl (want.Order order.Repr) begun (number + 1) text ((in_parentheses indices ++ in_parentheses more) ++ rest) (waiting (want.Order (order.Opening asked)) begun) (ap (at_order_repr (number + 1) begun) said)
        ∙ ap (read_from dl (number + 1 + 1) (waiting (want.Order (order.Opening asked)) begun)) (append_assoc (in_parentheses indices) (in_parentheses more) rest)
        ∙ read_between (want.Order (order.Opening asked)) (want.Order order.Index) begun (ordering asked [] ∷ begun) (ordering asked is ∷ begun) indices
        (waiting (want.Order order.FieldsOpening) (ordering asked is ∷ begun)) (λ n. refl)
        (read_numerals (want.Order order.Index) (ordering asked) (takes_index asked) is indices numbers [] begun) (λ n. refl) (number + 1 + 1) (in_parentheses more ++ rest)
        ∙ read_between (want.Order order.FieldsOpening) want.Tree (ordering asked is ∷ begun) (ordered asked is [] ∷ begun) (ordered asked is (list_in ts) ∷ begun) more
        (put_type (struct asked.repr asked.always_sized (Some is) (trees (list_in ts))) begun) (λ n. refl)
        (λ n after. read_trees ts more are (ordered asked is) (takes_ordered asked is) begun [] n after deep) (λ n. refl) (number + 1 + 1 + length (in_parentheses indices)) rest
        ∙ ap₂ (λ n ts. read_from dl n (put_type (struct asked.repr asked.always_sized (Some is) ts) begun) rest) there (trees_in ts)
    read_tree t words (a_union repr text ts more said are) begun number rest deep =
        let there : number + 1 + 1 + 1 + length more + 1 ≡ number + length (codes "union" ∷ text ∷ codes "(" ∷ (more ++ codes ")" ∷ [])) = omega (arith, length-append more (codes ")" ∷ [])) in
        one_word dl want.Tree begun number (codes "union") (text ∷ codes "(" ∷ ((more ++ codes ")" ∷ []) ++ rest)) (waiting want.UnionRepr begun) (rw (not_deep begun (omega arith)) refl)
        ∙ one_word dl want.UnionRepr begun (number + 1) text (codes "(" ∷ ((more ++ codes ")" ∷ []) ++ rest)) (waiting (want.UnionOpening repr) begun) (ap (at_union_repr (number + 1) begun) said)
        ∙ one_word dl (want.UnionOpening repr) begun (number + 1 + 1) (codes "(") ((more ++ codes ")" ∷ []) ++ rest) (waiting want.Tree (members repr [] ∷ begun)) refl
        ∙ ap (read_from dl (number + 1 + 1 + 1) (waiting want.Tree (members repr [] ∷ begun))) (append_assoc more (codes ")" ∷ []) rest)
        ∙ read_trees ts more are (members repr) (takes_members repr) begun [] (number + 1 + 1 + 1) (codes ")" ∷ rest) deep
        ∙ one_word dl want.Tree (members repr (list_in ts) ∷ begun) (number + 1 + 1 + 1 + length more) (codes ")") rest (put_type (union repr (trees (list_in ts))) begun) refl
        ∙ ap₂ (λ n ts. read_from dl n (put_type (union repr ts) begun) rest) there (trees_in ts)
    read_tree t words (an_enum repr text vs more said are) begun number rest deep =
        let there : number + 1 + 1 + 1 + length more + 1 ≡ number + length (codes "enum" ∷ text ∷ codes "(" ∷ (more ++ codes ")" ∷ [])) = omega (arith, length-append more (codes ")" ∷ [])) in
        one_word dl want.Tree begun number (codes "enum") (text ∷ codes "(" ∷ ((more ++ codes ")" ∷ []) ++ rest)) (waiting want.EnumRepr begun) (rw (not_deep begun (omega arith)) refl)
        ∙ one_word dl want.EnumRepr begun (number + 1) text (codes "(" ∷ ((more ++ codes ")" ∷ []) ++ rest)) (waiting (want.EnumOpening repr) begun) (ap (at_enum_repr (number + 1) begun) said)
        ∙ one_word dl (want.EnumOpening repr) begun (number + 1 + 1) (codes "(") ((more ++ codes ")" ∷ []) ++ rest) (waiting want.Discriminant (variants_so_far repr [] ∷ begun)) refl
        ∙ ap (read_from dl (number + 1 + 1 + 1) (waiting want.Discriminant (variants_so_far repr [] ∷ begun))) (append_assoc more (codes ")" ∷ []) rest)
        ∙ read_variants vs more are repr begun [] (number + 1 + 1 + 1) (codes ")" ∷ rest) deep
        ∙ one_word dl want.Discriminant (variants_so_far repr (variant_list vs) ∷ begun) (number + 1 + 1 + 1 + length more) (codes ")") rest (put_type (enum repr (variants_read (variant_list vs))) begun) refl
        ∙ ap₂ (λ n us. read_from dl n (put_type (enum repr us) begun) rest) there (variants_listed vs)
    read_tree t words (a_coroutine ps ls ss cs prefix locals states conflicts first_types then_types then_states then_conflicts) begun number rest deep =
        let ps_read = list_in ps in
        let ls_read = list_in ls in
        let last = in_parentheses conflicts ++ rest in
        let there : number + 1 + length (in_parentheses prefix) + length (in_parentheses locals) + length (in_parentheses states) + length (in_parentheses conflicts)
        ≡ number + length (codes "coroutine" ∷ (in_parentheses prefix ++ (in_parentheses locals ++ (in_parentheses states ++ in_parentheses conflicts))))
        = omega (arith, length-append (in_parentheses prefix) (in_parentheses locals ++ (in_parentheses states ++ in_parentheses conflicts)), length-append (in_parentheses locals) (in_parentheses states ++ in_parentheses conflicts), length-append (in_parentheses states) (in_parentheses conflicts)) in
        one_word dl want.Tree begun number (codes "coroutine") ((in_parentheses prefix ++ (in_parentheses locals ++ (in_parentheses states ++ in_parentheses conflicts))) ++ rest)
        (waiting (want.Coroutine part.TypesOpening) (coroutine_with (in_prefix []) ∷ begun)) (rw (not_deep begun (omega arith)) refl)
        ∙ ap (read_from dl (number + 1) (waiting (want.Coroutine part.TypesOpening) (coroutine_with (in_prefix []) ∷ begun)))
        (append_four (in_parentheses prefix) (in_parentheses locals) (in_parentheses states) (in_parentheses conflicts) rest)
        ∙ read_between (want.Coroutine part.TypesOpening) want.Tree (coroutine_with (in_prefix []) ∷ begun) (coroutine_with (in_prefix []) ∷ begun) (coroutine_with (in_prefix ps_read) ∷ begun) prefix
        (waiting (want.Coroutine part.TypesOpening) (coroutine_with (in_locals ps_read []) ∷ begun)) (λ n. refl)
        (λ n after. read_trees ps prefix first_types (λ ts. coroutine_with (in_prefix ts)) takes_in_prefix begun [] n after (omega arith)) (λ n. refl)
        (number + 1) (in_parentheses locals ++ (in_parentheses states ++ last))
        ∙ read_between (want.Coroutine part.TypesOpening) want.Tree (coroutine_with (in_locals ps_read []) ∷ begun) (coroutine_with (in_locals ps_read []) ∷ begun) (coroutine_with (in_locals ps_read ls_read) ∷ begun) locals
        (waiting (want.Coroutine part.StatesOpening) (coroutine_with (between_states ps_read ls_read []) ∷ begun)) (λ n. refl)
        (λ n after. read_trees ls locals then_types (λ ts. coroutine_with (in_locals ps_read ts)) (takes_in_locals ps_read) begun [] n after (omega arith)) (λ n. refl)
        (number + 1 + length (in_parentheses prefix)) (in_parentheses states ++ last)
        ∙ read_between (want.Coroutine part.StatesOpening) (want.Coroutine part.State) (coroutine_with (between_states ps_read ls_read []) ∷ begun) (coroutine_with (between_states ps_read ls_read []) ∷ begun)
        (coroutine_with (between_states ps_read ls_read ss) ∷ begun) states
        (waiting (want.Coroutine part.ConflictsOpening) (coroutine_with (in_conflicts ps_read ls_read ss []) ∷ begun)) (λ n. refl)
        (read_states ss states then_states ps_read ls_read [] begun) (λ n. refl)
        (number + 1 + length (in_parentheses prefix) + length (in_parentheses locals)) last
        ∙ read_between (want.Coroutine part.ConflictsOpening) (want.Coroutine part.Row) (coroutine_with (in_conflicts ps_read ls_read ss []) ∷ begun) (coroutine_with (in_conflicts ps_read ls_read ss []) ∷ begun)
        (coroutine_with (in_conflicts ps_read ls_read ss cs) ∷ begun) conflicts
        (put_type (coroutine (trees ps_read) (trees ls_read) ss cs) begun) (λ n. refl)
        (read_conflicts cs conflicts then_conflicts ps_read ls_read ss [] begun) (λ n. refl)
        (number + 1 + length (in_parentheses prefix) + length (in_parentheses locals) + length (in_parentheses states)) rest
        ∙ ap₂ (λ ps ls. read_from dl (number + 1 + length (in_parentheses prefix) + length (in_parentheses locals) + length (in_parentheses states) + length (in_parentheses conflicts)) (put_type (coroutine ps ls ss cs) begun) rest) (trees_in ps) (trees_in ls)
        ∙ ap (λ n. read_from dl n (put_type (coroutine ps ls ss cs) begun) rest) there

    read_trees : (ts : Trees) (words : List (List ℕ)) → AreWrittenAs dl ts words → (top : List Tree → Begun) → TakesMore top → (begun : List Begun) (done : List Tree) (number : ℕ) (rest : List (List ℕ))
        → length begun + nesting_of_fields ts ≤ 200
        → read_from dl number (waiting want.Tree (top done ∷ begun)) (words ++ rest) ≡ read_from dl (number + length words) (waiting want.Tree (top (done ++ list_in ts) ∷ begun)) rest
    read_trees ts words no_more top takes begun done number rest deep =
        let there : number ≡ number + 0 = omega arith in
        ap₂ (λ n ts. read_from dl n (waiting want.Tree (top ts ∷ begun)) rest) there (sym (append-nil done))
    read_trees ts words (one_more t others text more is are) top takes begun done number rest deep =
        let there : number + length text + length more ≡ number + length (text ++ more) = omega (arith, length-append text more) in
        ap (read_from dl number (waiting want.Tree (top done ∷ begun))) (append_assoc text more rest)
        ∙ read_tree t text is (top done ∷ begun) number (more ++ rest) (omega arith)
        ∙ ap (λ state. read_from dl (number + length text) state (more ++ rest)) (takes t done begun)
        ∙ read_trees others more are top takes begun (done ++ t ∷ []) (number + length text) rest (omega arith)
        ∙ ap₂ (λ n ts. read_from dl n (waiting want.Tree (top ts ∷ begun)) rest) there (append_assoc done (t ∷ []) (list_in others))

    read_variants : (vs : Variants) (words : List (List ℕ)) → AreVariantsWrittenAs dl vs words → (repr : ReprOptions) (begun : List Begun) (done : List (ℕ × List Tree)) (number : ℕ) (rest : List (List ℕ))
        → length begun + nesting_of_variants vs ≤ 200
        → read_from dl number (waiting want.Discriminant (variants_so_far repr done ∷ begun)) (words ++ rest)
        ≡ read_from dl (number + length words) (waiting want.Discriminant (variants_so_far repr (done ++ variant_list vs) ∷ begun)) rest
    read_variants vs words no_variant_more repr begun done number rest deep =
        let there : number ≡ number + 0 = omega arith in
        ap₂ (λ n us. read_from dl n (waiting want.Discriminant (variants_so_far repr us ∷ begun)) rest) there (sym (append-nil done))
    read_variants vs words (one_variant_more d text ts others more later said are follow) repr begun done number rest deep =
        let there : number + 1 + 1 + length more + 1 + length later ≡ number + length (text ∷ codes "(" ∷ (more ++ codes ")" ∷ later)) = omega (arith, length-append more (codes ")" ∷ later)) in
        one_word dl want.Discriminant (variants_so_far repr done ∷ begun) number text (codes "(" ∷ ((more ++ codes ")" ∷ later) ++ rest)) (waiting (want.VariantOpening d) (variants_so_far repr done ∷ begun))
        (variant_at text d said (variants_so_far repr done ∷ begun) number)
        ∙ one_word dl (want.VariantOpening d) (variants_so_far repr done ∷ begun) (number + 1) (codes "(") ((more ++ codes ")" ∷ later) ++ rest) (waiting want.Tree (variant repr done d [] ∷ begun)) refl
        ∙ ap (read_from dl (number + 1 + 1) (waiting want.Tree (variant repr done d [] ∷ begun))) (append_assoc more (codes ")" ∷ later) rest)
        ∙ read_trees ts more are (variant repr done d) (takes_in_variant repr done d) begun [] (number + 1 + 1) (codes ")" ∷ (later ++ rest)) (omega arith)
        ∙ one_word dl want.Tree (variant repr done d (list_in ts) ∷ begun) (number + 1 + 1 + length more) (codes ")") (later ++ rest)
        (waiting want.Discriminant (variants_so_far repr (done ++ (d, list_in ts) ∷ []) ∷ begun)) refl
        ∙ read_variants others later follow repr begun (done ++ (d, list_in ts) ∷ []) (number + 1 + 1 + length more + 1) rest (omega arith)
        ∙ ap₂ (λ n us. read_from dl n (waiting want.Discriminant (variants_so_far repr us ∷ begun)) rest) there (append_assoc done ((d, list_in ts) ∷ []) (variant_list others))

  -- the words that write a type read back as that type
  pub words_read : (t : Tree) (words : List (List ℕ)) → IsWrittenAs dl t words → nesting t ≤ 200 → read dl words ≡ Ok t
  words_read t words is deep = ap (read dl) (sym (append-nil words)) ∙ read_tree t words is [] 1 [] (omega arith)
