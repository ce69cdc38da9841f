-- What is wrong with a data layout string, and the error that names it. Texts are lists of bytes.
use Rattle.std.specs.Prelude.{◌≡◌, ℕ, ⊤, List, Result, Ok, Err}
use Rattle.abi_base.specs.declared.align.AlignFromBytesError.{AlignFromBytesError}
use Rattle.abi_base.specs.declared.parse_number.NumberError.{NumberError}
use Rattle.abi_base.specs.declared.parse_error.TargetDataLayoutError.{TargetDataLayoutError}
use Rattle.abi_base.specs.declared.parse_error.TargetDataLayoutError.TheVariants.{InvalidAddressSpace, InvalidBits, MissingAlignment, InvalidAlignment, InconsistentTargetArchitecture, InconsistentTargetPointerWidth, InvalidBitsSize, UnknownPointerSpecification, OutOfMemory}

-- A fault of a spec. The cause names where it stands.
pub data Fault : Type 0 where
  -- the text is no number of an address space
  bad_space : (text cause : List ℕ) → NumberError → Fault
  -- the text is no number of bits, of a size or an alignment
  bad_bits : (kind text cause : List ℕ) → NumberError → Fault
  -- there is no alignment
  missing_alignment : (cause : List ℕ) → Fault
  -- the number is no alignment
  bad_alignment : (cause : List ℕ) → AlignFromBytesError → Fault
  -- letters that no pointer spec has
  unknown_pointer : (rest : List ℕ) → Fault

-- the error names the fault that is the answer, or memory ran out
abbrev pub NamesFault : {A : Type 0} → Result A Fault → TargetDataLayoutError → Type 0
NamesFault answer (InvalidAddressSpace text cause err) = answer ≡ Err (bad_space text.now cause.now err)
NamesFault answer (InvalidBits kind text cause err) = answer ≡ Err (bad_bits kind.now text.now cause.now err)
NamesFault answer (MissingAlignment cause) = answer ≡ Err (missing_alignment cause.now)
NamesFault answer (InvalidAlignment cause err) = answer ≡ Err (bad_alignment cause.now err)
NamesFault answer (UnknownPointerSpecification rest) = answer ≡ Err (unknown_pointer rest.now)
NamesFault answer (InconsistentTargetArchitecture dl target) = ⊥
NamesFault answer (InconsistentTargetPointerWidth pointer_size target) = ⊥
NamesFault answer (InvalidBitsSize err) = ⊥
NamesFault answer OutOfMemory = ⊤

-- the result is the answer, Memory aside
abbrev pub IsReading : {A : Type 0} → Result A Fault → Result A TargetDataLayoutError → Type 0
IsReading answer (Ok x) = answer ≡ Ok x
IsReading answer (Err error) = NamesFault answer error
