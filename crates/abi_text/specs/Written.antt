-- How a type is written: which words write which type.
use Rattle.std.specs.Prelude.{◌≡◌, ℕ, ◌+◌, ◌^◌, ◌-◌, ◌<◌, ◌≤◌, Bool, false, List, [], ◌∷◌, ◌++◌, codes, max, replicate, None, Some, if◌then◌else◌}
use Rattle.std.specs.Fmt.{decimal}
use Rattle.abi_base.specs.declared.data_layout.TargetDataLayout.{TargetDataLayout}
use Rattle.abi_base.specs.declared.float.Float.{Float as Format}
use Rattle.abi_base.specs.declared.integer.Integer.{Integer}
use Rattle.abi_base.specs.declared.primitive.Primitive.{Primitive}
use Rattle.abi_base.specs.declared.primitive.Primitive.TheVariants.{Int, Float, Pointer}
use Rattle.abi_scalar.specs.declared.repr.ReprOptions.{ReprOptions}
use Rattle.abi_scalar.specs.declared.scalar.Scalar.{Scalar}
use Rattle.abi_scalar.specs.declared.scalar.Scalar.TheVariants.{Initialized, Union}
use Rattle.abi_tree.specs.Tree.{Tree, scalar, pair, never, unit, array, vector, struct, union, enum, coroutine, Trees, no_trees, more_trees, Variants, no_variants, more_variants}
use Rattle.abi_text.specs.declared.reader.repr_text.StructRepr.{StructRepr}
use Rattle.abi_base.specs.Float.{float_text}
use Rattle.abi_base.specs.Integer.{integer_text}
use Rattle.abi_text.specs.Repr.{struct_repr, union_repr}
use Rattle.abi_text.specs.Scalars.{a_bool, a_char, a_ref, default_pointer, full, index_primitive}
use Rattle.abi_text.specs.Words.{begins_plain}

-- the word says the number, which has at most so many bits: its decimal digits, with any zeros in front
abbrev pub IsNumeral : (bits n : ℕ) → (word : List ℕ) → Type 0
IsNumeral bits n word = (n < 2 ^ bits) × (zeros : ℕ) × (word ≡ replicate zeros 48 ++ decimal n)

-- the word says the discriminant, a number of 128 bits: by its numeral, or by `-` and the numeral of what it lacks of 2 ^ 128
pub data IsDiscriminant : (discriminant : ℕ) → (word : List ℕ) → Type 0 where
  not_negative : (n : ℕ) (word : List ℕ) → IsNumeral 128 n word → IsDiscriminant n word
  negative : (n : ℕ) (word : List ℕ) → 0 < n → n ≤ 2 ^ 127 → IsNumeral 128 n word → IsDiscriminant (2 ^ 128 - n) (codes "-" ++ word)

-- the word of an integer as wide as an index
abbrev pub usize_text : (signed : Bool) → List ℕ
usize_text signed = if signed then codes "isize" else codes "usize"

-- the words write the primitive
pub data IsPrimitiveWrittenAs (dl : TargetDataLayout) : Primitive → (words : List (List ℕ)) → Type 0 where
  an_integer : (width : Integer) (signed : Bool) → IsPrimitiveWrittenAs dl (Int width signed) (integer_text width signed ∷ [])
  an_index : (signed : Bool) → IsPrimitiveWrittenAs dl (index_primitive dl signed) (usize_text signed ∷ [])
  a_float : (format : Format) → IsPrimitiveWrittenAs dl (Float format) (float_text format ∷ [])
  -- a pointer into space 0, and one into any space
  a_pointer : IsPrimitiveWrittenAs dl default_pointer (codes "ptr" ∷ [])
  a_pointer_in : (space : ℕ) (word : List ℕ) → IsNumeral 32 space word
      → IsPrimitiveWrittenAs dl (Pointer (record { 0 = space })) (codes "ptrin" ∷ word ∷ [])

-- the words write the scalar
pub data IsScalarWrittenAs (dl : TargetDataLayout) : Scalar → (words : List (List ℕ)) → Type 0 where
  -- a primitive alone stands for every number of its width
  every_number : (p : Primitive) (words : List (List ℕ)) → IsPrimitiveWrittenAs dl p words → IsScalarWrittenAs dl (full dl p) words
  the_bool : IsScalarWrittenAs dl a_bool (codes "bool" ∷ [])
  the_char : IsScalarWrittenAs dl a_char (codes "char" ∷ [])
  the_ref : IsScalarWrittenAs dl (a_ref dl) (codes "ref" ∷ [])
  -- a primitive with the start and the end of its range
  a_range : (p : Primitive) (words : List (List ℕ)) (start end : ℕ) (first last : List ℕ)
      → IsPrimitiveWrittenAs dl p words → IsNumeral 128 start first → IsNumeral 128 end last
      → IsScalarWrittenAs dl (Initialized p (record { start = start; end = end })) (codes "range" ∷ (words ++ first ∷ last ∷ []))
  -- a primitive of a union
  of_a_union : (p : Primitive) (words : List (List ℕ)) → IsPrimitiveWrittenAs dl p words → IsScalarWrittenAs dl (Union p) (codes "unionof" ∷ words)

-- the word that begins a vector
abbrev pub vector_word : (packed : Bool) → List ℕ
vector_word packed = if packed then codes "psimd" else codes "simd"

-- the words, between parentheses
abbrev pub in_parentheses : (words : List (List ℕ)) → List (List ℕ)
in_parentheses words = codes "(" ∷ (words ++ codes ")" ∷ [])

-- the words say the numbers, one after the other
pub data AreNumerals : List ℕ → (words : List (List ℕ)) → Type 0 where
  no_number_more : AreNumerals [] []
  one_number_more : (n : ℕ) (ns : List ℕ) (word : List ℕ) (rest : List (List ℕ)) → IsNumeral 64 n word → AreNumerals ns rest
      → AreNumerals (n ∷ ns) (word ∷ rest)

-- the words write a coroutine's states, one after the other: the indices of each one's locals, between parentheses
pub data AreStatesWrittenAs : (states : List (List ℕ)) → (words : List (List ℕ)) → Type 0 where
  no_state_more : AreStatesWrittenAs [] []
  one_state_more : (indices : List ℕ) (states : List (List ℕ)) (words rest : List (List ℕ)) → AreNumerals indices words → AreStatesWrittenAs states rest
      → AreStatesWrittenAs (indices ∷ states) (in_parentheses words ++ rest)

-- the words write a coroutine's conflicts, one after the other: the row of each, and its column
pub data AreConflictsWrittenAs : (conflicts : List (ℕ × ℕ)) → (words : List (List ℕ)) → Type 0 where
  no_conflict_more : AreConflictsWrittenAs [] []
  one_conflict_more : (row column : ℕ) (conflicts : List (ℕ × ℕ)) (first second : List ℕ) (rest : List (List ℕ)) → IsNumeral 64 row first → IsNumeral 64 column second
      → AreConflictsWrittenAs conflicts rest → AreConflictsWrittenAs ((row, column) ∷ conflicts) (first ∷ second ∷ rest)

mutual
  -- the words write the type
  pub data IsWrittenAs (dl : TargetDataLayout) : Tree → (words : List (List ℕ)) → Type 0 where
    a_scalar : (s : Scalar) (words : List (List ℕ)) → IsScalarWrittenAs dl s words → IsWrittenAs dl (scalar s) words
    a_pair : (a b : Scalar) (first second : List (List ℕ)) → IsScalarWrittenAs dl a first → IsScalarWrittenAs dl b second
        → IsWrittenAs dl (pair a b) (codes "pair" ∷ (first ++ second))
    no_value : IsWrittenAs dl never (codes "never" ∷ [])
    one_value : IsWrittenAs dl unit (codes "unit" ∷ [])
    an_array : (count : ℕ) (word : List ℕ) (t : Tree) (words : List (List ℕ)) → IsNumeral 64 count word → IsWrittenAs dl t words
        → IsWrittenAs dl (array count t) (codes "array" ∷ word ∷ words)
    a_vector : (lanes : ℕ) (packed : Bool) (word : List ℕ) (t : Tree) (words : List (List ℕ)) → IsNumeral 64 lanes word → IsWrittenAs dl t words
        → IsWrittenAs dl (vector lanes packed t) (vector_word packed ∷ word ∷ words)
    -- a struct, and a union, with the options that the word of its repr asks for
    a_struct : (asked : StructRepr) (word : List ℕ) (ts : Trees) (words : List (List ℕ)) → struct_repr word ≡ Some asked → AreWrittenAs dl ts words
        → IsWrittenAs dl (struct asked.repr asked.always_sized None ts) (codes "struct" ∷ word ∷ codes "(" ∷ (words ++ codes ")" ∷ []))
    -- a struct in an order that is handed in: the indices of the fields as they lie in memory, and the fields
    an_ordered : (asked : StructRepr) (word : List ℕ) (is : List ℕ) (ts : Trees) (indices words : List (List ℕ)) → struct_repr word ≡ Some asked
        → AreNumerals is indices → AreWrittenAs dl ts words
        → IsWrittenAs dl (struct asked.repr asked.always_sized (Some is) ts) (codes "ordered" ∷ word ∷ (in_parentheses indices ++ in_parentheses words))
    a_union : (repr : ReprOptions) (word : List ℕ) (ts : Trees) (words : List (List ℕ)) → union_repr word ≡ Some repr → AreWrittenAs dl ts words
        → IsWrittenAs dl (union repr ts) (codes "union" ∷ word ∷ codes "(" ∷ (words ++ codes ")" ∷ []))
    -- an enum, with the options that the word of its repr asks for
    an_enum : (repr : ReprOptions) (word : List ℕ) (vs : Variants) (words : List (List ℕ)) → union_repr word ≡ Some repr → AreVariantsWrittenAs dl vs words
        → IsWrittenAs dl (enum repr vs) (codes "enum" ∷ word ∷ codes "(" ∷ (words ++ codes ")" ∷ []))
    -- a coroutine: its prefix fields, its locals, its states and its conflicts
    a_coroutine : (ps ls : Trees) (ss : List (List ℕ)) (cs : List (ℕ × ℕ)) (prefix locals states conflicts : List (List ℕ))
        → AreWrittenAs dl ps prefix → AreWrittenAs dl ls locals → AreStatesWrittenAs ss states → AreConflictsWrittenAs cs conflicts
        → IsWrittenAs dl (coroutine ps ls ss cs)
        (codes "coroutine" ∷ (in_parentheses prefix ++ (in_parentheses locals ++ (in_parentheses states ++ in_parentheses conflicts))))

  -- the words write the types, one after the other
  pub data AreWrittenAs (dl : TargetDataLayout) : Trees → (words : List (List ℕ)) → Type 0 where
    no_more : AreWrittenAs dl no_trees []
    one_more : (t : Tree) (ts : Trees) (words rest : List (List ℕ)) → IsWrittenAs dl t words → AreWrittenAs dl ts rest
        → AreWrittenAs dl (more_trees t ts) (words ++ rest)

  -- the words write the variants, one after the other: the discriminant of each, and its fields between parentheses
  pub data AreVariantsWrittenAs (dl : TargetDataLayout) : Variants → (words : List (List ℕ)) → Type 0 where
    no_variant_more : AreVariantsWrittenAs dl no_variants []
    one_variant_more : (discriminant : ℕ) (word : List ℕ) (ts : Trees) (vs : Variants) (words rest : List (List ℕ))
        → IsDiscriminant discriminant word → AreWrittenAs dl ts words → AreVariantsWrittenAs dl vs rest
        → AreVariantsWrittenAs dl (more_variants discriminant ts vs) (word ∷ codes "(" ∷ (words ++ codes ")" ∷ rest))

abbrev mutual
  -- how many types stand around the one that is nested deepest
  pub nesting : Tree → ℕ
  nesting (array count t) = nesting t + 1
  nesting (vector lanes packed t) = nesting t + 1
  nesting (struct repr sized order ts) = nesting_of_fields ts
  nesting (union repr ts) = nesting_of_fields ts
  nesting (enum repr vs) = nesting_of_variants vs
  nesting (coroutine prefix locals states conflicts) = max (nesting_of_fields prefix) (nesting_of_fields locals)
  nesting _ = 0

  -- the same of these types, 0 of none
  pub nesting_of_fields : Trees → ℕ
  nesting_of_fields no_trees = 0
  nesting_of_fields (more_trees t ts) = max (nesting t + 1) (nesting_of_fields ts)

  -- the same of the fields of these variants
  pub nesting_of_variants : Variants → ℕ
  nesting_of_variants no_variants = 0
  nesting_of_variants (more_variants discriminant ts vs) = max (nesting_of_fields ts) (nesting_of_variants vs)

-- the words stand in the line, in their order: spaces may stand anywhere but within a word, and none is needed beside a
-- parenthesis
pub data IsLineOf : (words : List (List ℕ)) → (line : List ℕ) → Type 0 where
  no_words : IsLineOf [] []
  a_space : (words : List (List ℕ)) (line : List ℕ) → IsLineOf words line → IsLineOf words (codes " " ++ line)
  an_opening : (words : List (List ℕ)) (line : List ℕ) → IsLineOf words line → IsLineOf (codes "(" ∷ words) (codes "(" ++ line)
  a_closing : (words : List (List ℕ)) (line : List ℕ) → IsLineOf words line → IsLineOf (codes ")" ∷ words) (codes ")" ++ line)
  -- no byte of a word follows
  a_word : (word : List ℕ) (words : List (List ℕ)) (line : List ℕ) → IsLineOf words line → begins_plain line ≡ false
      → IsLineOf (word ∷ words) (word ++ line)
