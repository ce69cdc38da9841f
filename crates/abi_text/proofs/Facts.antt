-- What writes a type, tried on one line.
use Rattle.std.proofs.Common.{ℕ, false, List, [], ◌∷◌, ◌++◌, ◌+◌, ◌-◌, ◌^◌, ◌<◌, None, refl, sym, ap, arith}
use Rattle.std.specs.Prelude.{codes}
use Rattle.std.proofs.lemmas.Fmt.{decimal_digit}
use Rattle.abi_base.specs.declared.data_layout.TargetDataLayout.{TargetDataLayout}
use Rattle.abi_base.specs.declared.integer.Integer.TheVariants.{I8}
use Rattle.abi_base.specs.declared.primitive.Primitive.TheVariants.{Int, Pointer}
use Rattle.abi_scalar.specs.declared.repr.ReprOptions.{ReprOptions}
use Rattle.abi_scalar.specs.declared.scalar.Scalar.{Scalar}
use Rattle.abi_scalar.specs.declared.scalar.Scalar.TheVariants.{Initialized}
use Rattle.abi_tree.specs.Tree.{scalar, pair, struct, enum, coroutine, Trees, no_trees, more_trees, Variants, no_variants, more_variants}
use Rattle.abi_text.specs.declared.reader.repr_text.StructRepr.{StructRepr}
use Rattle.abi_text.specs.Scalars.{a_bool, full}
use Rattle.abi_text.specs.Written.{IsNumeral, IsScalarWrittenAs, IsWrittenAs, AreWrittenAs, IsLineOf, a_scalar, a_pair, a_struct, an_enum, a_coroutine, no_more, one_more, AreVariantsWrittenAs, no_variant_more, one_variant_more, IsDiscriminant, not_negative, negative, in_parentheses, no_number_more, one_number_more, AreStatesWrittenAs, no_state_more, one_state_more, AreConflictsWrittenAs, no_conflict_more, one_conflict_more, an_integer, a_pointer_in, every_number, the_bool, a_range, no_words, a_space, an_opening, a_closing, a_word}

-- `C,tail`
abbrev asked : StructRepr
asked = record { repr = record { int = None; align = None; pack = None; flags = record { 0 = 1 }; scalable = None; field_shuffle_seed = 0 }; always_sized = false }

-- `C`
abbrev asked_by_c : ReprOptions
asked_by_c = record { int = None; align = None; pack = None; flags = record { 0 = 1 }; scalable = None; field_shuffle_seed = 0 }

-- a pointer into space 5, from 0 to 9
abbrev low_pointer : Scalar
low_pointer = Initialized (Pointer (record { 0 = 5 })) (record { start = 0; end = 9 })

abbrev pointer_words : List (List ℕ)
pointer_words = codes "range" ∷ codes "ptrin" ∷ codes "05" ∷ codes "0" ∷ codes "9" ∷ []

abbrev pair_words : List (List ℕ)
pair_words = codes "pair" ∷ codes "u8" ∷ codes "bool" ∷ []

abbrev struct_words : List (List ℕ)
struct_words = codes "struct" ∷ codes "C,tail" ∷ codes "(" ∷ ((pointer_words ++ pair_words) ++ codes ")" ∷ [])

digit_is_numeral : (bits n : ℕ) → n < 10 → n < 2 ^ bits → IsNumeral bits n ((48 + n) ∷ [])
digit_is_numeral bits n digit small = (small, 0, sym (decimal_digit n digit))

padded : IsNumeral 32 5 (codes "05")
padded = (omega arith, 1, ap (λ ds. 48 ∷ ds) (sym (decimal_digit 5 (omega arith))))

module _ (dl : TargetDataLayout) where
  pointer_written : IsScalarWrittenAs dl low_pointer pointer_words
  pointer_written =
      a_range (Pointer (record { 0 = 5 })) (codes "ptrin" ∷ codes "05" ∷ []) 0 9 (codes "0") (codes "9") (a_pointer_in 5 (codes "05") padded)
      (digit_is_numeral 128 0 (omega arith) (omega arith)) (digit_is_numeral 128 9 (omega arith) (omega arith))

  pair_written : IsWrittenAs dl (pair (full dl (Int I8 false)) a_bool) pair_words
  pair_written = a_pair (full dl (Int I8 false)) a_bool (codes "u8" ∷ []) (codes "bool" ∷ []) (every_number (Int I8 false) (codes "u8" ∷ []) (an_integer I8 false)) the_bool

  abbrev two_fields : Trees
  two_fields = more_trees (scalar low_pointer) (more_trees (pair (full dl (Int I8 false)) a_bool) no_trees)

  fields_written : AreWrittenAs dl two_fields (pointer_words ++ pair_words)
  fields_written =
      one_more (scalar low_pointer) (more_trees (pair (full dl (Int I8 false)) a_bool) no_trees) pointer_words pair_words (a_scalar low_pointer pointer_words pointer_written)
      (one_more (pair (full dl (Int I8 false)) a_bool) no_trees pair_words [] pair_written no_more)

  -- a struct whose last field stays last
  pub struct_written : IsWrittenAs dl (struct asked.repr false None two_fields) struct_words
  struct_written = a_struct asked (codes "C,tail") two_fields (pointer_words ++ pair_words) refl fields_written

  -- `enum C ( -1 ( bool ) 3 ( ) )`: two variants, the second of which has no field
  abbrev two_variants : Variants
  two_variants = more_variants (2 ^ 128 - 1) (more_trees (scalar a_bool) no_trees) (more_variants 3 no_trees no_variants)

  abbrev variant_words : List (List ℕ)
  variant_words = codes "-1" ∷ codes "(" ∷ codes "bool" ∷ codes ")" ∷ codes "3" ∷ codes "(" ∷ codes ")" ∷ []

  minus_one : IsDiscriminant (2 ^ 128 - 1) (codes "-1")
  minus_one = negative 1 (codes "1") (omega arith) (omega arith) (digit_is_numeral 128 1 (omega arith) (omega arith))

  variants_written : AreVariantsWrittenAs dl two_variants variant_words
  variants_written =
      one_variant_more (2 ^ 128 - 1) (codes "-1") (more_trees (scalar a_bool) no_trees) (more_variants 3 no_trees no_variants) (codes "bool" ∷ []) (codes "3" ∷ codes "(" ∷ codes ")" ∷ [])
      minus_one (one_more (scalar a_bool) no_trees (codes "bool" ∷ []) [] (a_scalar a_bool (codes "bool" ∷ []) the_bool) no_more)
      (one_variant_more 3 (codes "3") no_trees no_variants [] [] (not_negative 3 (codes "3") (digit_is_numeral 128 3 (omega arith) (omega arith))) no_more no_variant_more)

  -- an enum of two variants
  pub enum_written : IsWrittenAs dl (enum asked_by_c two_variants) (codes "enum" ∷ codes "C" ∷ codes "(" ∷ (variant_words ++ codes ")" ∷ []))
  enum_written = an_enum asked_by_c (codes "C") two_variants variant_words refl variants_written

-- `( ) ( 1 02 )`: two states, the first of which has no local
abbrev state_words : List (List ℕ)
state_words = in_parentheses [] ++ (in_parentheses (codes "1" ∷ codes "02" ∷ []) ++ [])

two : IsNumeral 64 2 (codes "02")
two = (omega arith, 1, ap (λ ds. 48 ∷ ds) (sym (decimal_digit 2 (omega arith))))

states_written : AreStatesWrittenAs ([] ∷ (1 ∷ 2 ∷ []) ∷ []) state_words
states_written =
    one_state_more [] ((1 ∷ 2 ∷ []) ∷ []) [] (in_parentheses (codes "1" ∷ codes "02" ∷ []) ++ []) no_number_more
    (one_state_more (1 ∷ 2 ∷ []) [] (codes "1" ∷ codes "02" ∷ []) []
    (one_number_more 1 (2 ∷ []) (codes "1") (codes "02" ∷ []) (digit_is_numeral 64 1 (omega arith) (omega arith)) (one_number_more 2 [] (codes "02") [] two no_number_more)) no_state_more)

-- `1 02`: one conflict, of row 1 and column 2
conflict_written : AreConflictsWrittenAs ((1, 2) ∷ []) (codes "1" ∷ codes "02" ∷ [])
conflict_written = one_conflict_more 1 2 [] (codes "1") (codes "02") [] (digit_is_numeral 64 1 (omega arith) (omega arith)) two no_conflict_more

-- `coroutine ( ) ( bool ) ( ( ) ( 1 02 ) ) ( 1 02 )`, word by word
abbrev coroutine_words : List (List ℕ)
coroutine_words =
    codes "coroutine" ∷ codes "(" ∷ codes ")" ∷ codes "(" ∷ codes "bool" ∷ codes ")" ∷ codes "(" ∷ codes "(" ∷ codes ")" ∷ codes "(" ∷ codes "1" ∷ codes "02" ∷ codes ")" ∷ codes ")"
    ∷ codes "(" ∷ codes "1" ∷ codes "02" ∷ codes ")" ∷ []

-- a coroutine, whose indices needn't be those of its locals
pub coroutine_written : (dl : TargetDataLayout) → IsWrittenAs dl (coroutine no_trees (more_trees (scalar a_bool) no_trees) ([] ∷ (1 ∷ 2 ∷ []) ∷ []) ((1, 2) ∷ [])) coroutine_words
coroutine_written dl =
    a_coroutine no_trees (more_trees (scalar a_bool) no_trees) ([] ∷ (1 ∷ 2 ∷ []) ∷ []) ((1, 2) ∷ []) [] (codes "bool" ∷ []) state_words (codes "1" ∷ codes "02" ∷ []) no_more
    (one_more (scalar a_bool) no_trees (codes "bool" ∷ []) [] (a_scalar a_bool (codes "bool" ∷ []) the_bool) no_more) states_written conflict_written

-- a line with no spaces beside parentheses, and two within
pub stands_in_line : IsLineOf (codes "struct" ∷ codes "C,tail" ∷ codes "(" ∷ codes "u8" ∷ codes ")" ∷ []) (codes "struct  C,tail(u8)")
stands_in_line =
    a_word (codes "struct") (codes "C,tail" ∷ codes "(" ∷ codes "u8" ∷ codes ")" ∷ []) (codes "  C,tail(u8)")
    (a_space (codes "C,tail" ∷ codes "(" ∷ codes "u8" ∷ codes ")" ∷ []) (codes " C,tail(u8)") (a_space (codes "C,tail" ∷ codes "(" ∷ codes "u8" ∷ codes ")" ∷ []) (codes "C,tail(u8)")
    (a_word (codes "C,tail") (codes "(" ∷ codes "u8" ∷ codes ")" ∷ []) (codes "(u8)")
    (an_opening (codes "u8" ∷ codes ")" ∷ []) (codes "u8)") (a_word (codes "u8") (codes ")" ∷ []) (codes ")") (a_closing [] [] no_words) refl)) refl))) refl
