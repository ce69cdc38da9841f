-- The words that begin a type.
use Rattle.std.specs.Prelude.{ℕ, true, false, List, codes, Option, None, Some, if◌then◌else◌}
use Rattle.std.specs.Str.{bytes_eq}
use Rattle.abi_text.specs.declared.reader.scalar_word.ScalarWord.{ScalarWord}
use Rattle.abi_text.specs.declared.reader.type_word.TypeWord.{TypeWord}
use Rattle.abi_text.specs.declared.reader.type_word.TypeWord.TheVariants.{Scalar, Pair, Never, Unit as AUnit, Array, Vector, Struct, Ordered, Union, Enum, Coroutine}
use Rattle.abi_text.specs.ScalarWords.{scalar_word}

-- a word that begins no scalar
abbrev pub other_word : List ℕ → Option TypeWord
other_word w =
    if bytes_eq w (codes "pair") then Some Pair
    else (if bytes_eq w (codes "never") then Some Never
    else (if bytes_eq w (codes "unit") then Some AUnit
    else (if bytes_eq w (codes "array") then Some Array
    else (if bytes_eq w (codes "simd") then Some (Vector false)
    else (if bytes_eq w (codes "psimd") then Some (Vector true)
    else (if bytes_eq w (codes "struct") then Some Struct
    else (if bytes_eq w (codes "ordered") then Some Ordered
    else (if bytes_eq w (codes "union") then Some Union
    else (if bytes_eq w (codes "enum") then Some Enum
    else (if bytes_eq w (codes "coroutine") then Some Coroutine else None))))))))))

-- a word that begins a scalar begins a type, too
abbrev pub word_with : Option ScalarWord → Option TypeWord → Option TypeWord
word_with None word = word
word_with (Some s) word = Some (Scalar s)

-- what the word means where a type begins; none where it begins no type
abbrev pub type_word : List ℕ → Option TypeWord
type_word w = word_with (scalar_word w) (other_word w)
