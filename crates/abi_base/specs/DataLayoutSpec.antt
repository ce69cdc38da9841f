-- What a spec of a data layout string says. Specs stand with `-` between them, a spec's parts with `:`.
use Rattle.std.specs.Prelude.{ℕ, ◌^◌, ◌==◌, ◌&&◌, not, Bool, true, false, List, [], ◌∷◌, codes, drop, length, slice_index, Option, Some, None, Result, Ok, Err, if◌then◌else◌}
use Rattle.std.specs.List.{slice_split}
use Rattle.std.specs.Int.{div_ceil}
use Rattle.std.specs.Str.{bytes_eq, chars}
use Rattle.unicode.specs.Binary.{is_alphabetic}
use Rattle.abi_base.specs.declared.address_space.AddressSpace.{AddressSpace}
use Rattle.abi_base.specs.declared.endian.Endian.{Endian}
use Rattle.abi_base.specs.declared.endian.Endian.TheVariants.{Little, Big}
use Rattle.abi_base.specs.declared.setting.AlignedWord.{AlignedWord}
use Rattle.abi_base.specs.declared.setting.AlignedWord.TheVariants.{Aggregate, F16, F32, F64, F128}
use Rattle.abi_base.specs.declared.setting.Setting.{Setting}
use Rattle.abi_base.specs.declared.setting.Setting.TheVariants.{Order, Instructions, Aligned, Pointer, Integer, Vector, Nothing}
use Rattle.abi_base.specs.Align.{align_of_bytes}
use Rattle.abi_base.specs.DataLayoutFault.{Fault, bad_space, bad_bits, missing_alignment, bad_alignment, unknown_pointer}
use Rattle.abi_base.specs.NumberText.{number_answer}

-- the parts of a text between marks
abbrev pub spec_parts : (mark : ℕ) → List ℕ → List (List ℕ)
spec_parts mark text = slice_split (λ b. b == mark) text

-- the parts that are left, if any are
abbrev pub spec_parts_left : (mark : ℕ) → Option (List ℕ) → List (List ℕ)
spec_parts_left mark None = []
spec_parts_left mark (Some text) = spec_parts mark text

-- the text begins with the byte
abbrev pub begins : (b : ℕ) → List ℕ → Bool
begins b text = slice_index text 0 == b

-- the first of the characters is a letter: one of the class Alphabetic
abbrev pub begins_alphabetic_in : List ℕ → Bool
begins_alphabetic_in [] = false
begins_alphabetic_in (c ∷ cs) = is_alphabetic c

-- the text begins with a letter
abbrev pub begins_alphabetic : List ℕ → Bool
begins_alphabetic text = begins_alphabetic_in (chars text)

-- an answer, then what follows from it; the first fault
infixl 10 ◌>>=◌
abbrev pub ◌>>=◌ : {A B : Type 0} → Result A Fault → (A → Result B Fault) → Result B Fault
(Ok x) >>= f = f x
(Err fault) >>= f = Err fault

-- the answer, its error as a fault
abbrev pub or_fault : {A E : Type 0} → (E → Fault) → Result A E → Result A Fault
or_fault tell (Ok x) = Ok x
or_fault tell (Err e) = Err (tell e)

-- a number of bits
unfoldable pub bits_in : (kind text cause : List ℕ) → Result ℕ Fault
bits_in kind text cause = or_fault (bad_bits kind text cause) (number_answer (2 ^ 64) text)

-- a size in bytes, written in bits
unfoldable pub size_written : (text cause : List ℕ) → Result ℕ Fault
size_written text cause = do
  bits ← bits_in (codes "size") text cause
  Ok (div_ceil bits 8)

-- an alignment, written in bits: that of the first of the parts
unfoldable pub alignment_in : (parts : List (List ℕ)) → (cause : List ℕ) → Result ℕ Fault
alignment_in [] cause = Err (missing_alignment cause)
alignment_in (text ∷ parts) cause = do
  bits ← bits_in (codes "alignment") text cause
  or_fault (bad_alignment cause) (align_of_bytes (div_ceil bits 8))

-- an address space
unfoldable pub space_in : (text cause : List ℕ) → Result AddressSpace Fault
space_in text cause = do
  number ← or_fault (bad_space text cause) (number_answer (2 ^ 32) text)
  Ok (record { 0 = number })

-- The rows of the table of specs, with the texts that each reads.
pub data Row : Type 0 where
  -- a byte order
  order : Endian → Row
  -- the space of functions
  instructions : (space : List ℕ) → Row
  -- the alignment of lists of fields, or of a float
  aligned_spec : AlignedWord → (word : List ℕ) → (parts : List (List ℕ)) → Row
  -- pointers: what follows the `p`, and the parts after
  pointer : (rest : List ℕ) → (parts : List (List ℕ)) → Row
  -- an integer's alignment
  integer : (word : List ℕ) → (parts : List (List ℕ)) → Row
  -- a vector's alignment
  vector : (word : List ℕ) → (parts : List (List ℕ)) → Row
  -- anything else
  ignored : Row

-- what the word names an alignment of
abbrev pub aligned_word : List ℕ → Option AlignedWord
aligned_word word =
    if bytes_eq word (codes "a") then Some Aggregate
    else (if bytes_eq word (codes "f16") then Some F16
    else (if bytes_eq word (codes "f32") then Some F32
    else (if bytes_eq word (codes "f64") then Some F64
    else (if bytes_eq word (codes "f128") then Some F128 else None))))

-- there are parts
abbrev pub has_parts : List (List ℕ) → Bool
has_parts [] = false
has_parts (p ∷ ps) = true

-- the row of a spec whose first part is no word of its own
unfoldable pub lettered_row : (word : List ℕ) → (parts : List (List ℕ)) → Row
lettered_row word parts =
    if begins 112 word && has_parts parts then pointer (drop 1 word) parts
    else (if begins 105 word then integer word parts
    else (if begins 118 word then vector word parts else ignored))

-- the row of a spec that begins with a word, behind which an alignment stands
abbrev pub aligned_row : Option AlignedWord → (word : List ℕ) → (parts : List (List ℕ)) → Row
aligned_row (Some named) word parts = aligned_spec named word parts
aligned_row None word parts = lettered_row word parts

-- the row of a spec, by its first part and the others: the first that fits
unfoldable pub row_of_spec : (word : List ℕ) → (parts : List (List ℕ)) → Row
row_of_spec word parts =
    if not (has_parts parts) && bytes_eq word (codes "e") then order Little
    else (if not (has_parts parts) && bytes_eq word (codes "E") then order Big
    else (if not (has_parts parts) && begins 80 word then instructions (drop 1 word)
    else aligned_row (aligned_word word) word parts))

-- what follows the `p` without the mark of a fat pointer
abbrev pub space_text : (rest : List ℕ) → List ℕ
space_text rest = if begins 102 rest then drop 1 rest else rest

-- the space of a pointer spec, 0 where there is no number
unfoldable pub pointer_space : List ℕ → Result AddressSpace Fault
pointer_space text = if length text == 0 then Ok (record { 0 = 0 }) else space_in text (codes "p-")

-- the text of the index size: the fifth part of exactly five, else that of the size; the parts are those after the size
abbrev pub index_text : (size : List ℕ) → (parts : List (List ℕ)) → List ℕ
index_text size (align ∷ preferred ∷ index ∷ []) = index
index_text size parts = size

-- pointers of a space, in the order in which faults are reported
unfoldable pub pointers_in : (fat : Bool) → (space size : List ℕ) → (parts : List (List ℕ)) → Result Setting Fault
pointers_in fat space size parts = do
  number ← pointer_space space
  bytes ← size_written size (codes "p-")
  align ← alignment_in parts (codes "p-")
  index ← size_written (index_text size parts) (codes "p-")
  Ok (Pointer number (record { pointer_size = bytes; pointer_align = align; pointer_offset = index; is_fat = fat }))

-- what a pointer spec sets
unfoldable pub pointer_setting : (rest : List ℕ) → (parts : List (List ℕ)) → Result Setting Fault
pointer_setting rest [] = Ok Nothing
pointer_setting rest (size ∷ parts) =
    if begins_alphabetic (space_text rest) then Err (unknown_pointer (space_text rest))
    else pointers_in (begins 102 rest) (space_text rest) size parts

-- what a spec of this row sets, or its first fault
unfoldable pub setting_in : Row → Result Setting Fault
setting_in (order endian) = Ok (Order endian)
setting_in (instructions space) = do
  number ← space_in space (codes "P")
  Ok (Instructions number)
setting_in (aligned_spec named word parts) = do
  align ← alignment_in parts word
  Ok (Aligned named align)
setting_in (pointer rest parts) = pointer_setting rest parts
setting_in (integer word parts) = do
  bits ← bits_in (codes "size") (drop 1 word) (codes "i")
  align ← alignment_in parts word
  Ok (Integer bits align)
setting_in (vector word parts) = do
  size ← size_written (drop 1 word) (codes "v")
  align ← alignment_in parts word
  Ok (Vector size align)
setting_in ignored = Ok Nothing

-- what a spec of these parts sets, or its first fault
abbrev pub setting_of_parts : List (List ℕ) → Result Setting Fault
setting_of_parts [] = Ok Nothing
setting_of_parts (word ∷ parts) = setting_in (row_of_spec word parts)

-- what a spec sets, or its first fault
unfoldable pub setting_of : List ℕ → Result Setting Fault
setting_of spec = setting_of_parts (spec_parts 58 spec)

-- what each spec sets, or the fault of the first one that has any
unfoldable pub settings_of : List (List ℕ) → Result (List Setting) Fault
settings_of [] = Ok []
settings_of (spec ∷ specs) = do
  setting ← setting_of spec
  settings ← settings_of specs
  Ok (setting ∷ settings)
