-- What a `repr` attribute asks for as numbers.
use Rattle.std.specs.Prelude.{ℕ, ◌+◌, ◌-◌, ◌<◌, ◌≤◌, ◌^◌, ◌==◌, true, false, List, [], ◌∷◌, Option, Some, None, nat_lt, slice_get, Result, Ok, Err, if◌then◌else◌, ⊤}
use Rattle.abi_base.specs.Align.{align_of_bytes, max_exponent}
use Rattle.abi_base.specs.declared.align.AlignFromBytesError.{AlignFromBytesError}
use Rattle.abi_base.specs.declared.integer.Integer.TheVariants.{I8, I16, I32, I64, I128}
use Rattle.abi_base.specs.declared.integer.IntegerType.{IntegerType}
use Rattle.abi_base.specs.declared.integer.IntegerType.TheVariants.{Pointer, Fixed}
use Rattle.abi_base.specs.declared.scalable.ScalableElt.{ScalableElt}
use Rattle.abi_base.specs.declared.scalable.ScalableElt.TheVariants.{ElementCount, Container}
use Rattle.abi_scalar.specs.declared.repr.ReprFlags.{ReprFlags}
use Rattle.abi_scalar.specs.declared.repr.ReprOptions.{ReprOptions}
use Rattle.abi_c.specs.Numbers.Pieces.{◌>>=◌, Front, flat_bool, front_as, front_word}
use Rattle.abi_c.specs.Numbers.FlatScalar.{integer_number}

-- 0 for none, 1 and 2 for `usize` and `isize`, and from 3 on `u8`, `i8`, `u16`, .., `i128`
abbrev pub flat_int : Option IntegerType → ℕ
flat_int None = 0
flat_int (Some (Pointer signed)) = 1 + flat_bool signed
flat_int (Some (Fixed integer signed)) = 3 + (integer_number integer + integer_number integer + flat_bool signed)

-- none, and all integer types, by their numbers
abbrev pub int_types : List (Option IntegerType)
int_types =
    None ∷ Some (Pointer false) ∷ Some (Pointer true) ∷ Some (Fixed I8 false) ∷ Some (Fixed I8 true) ∷ Some (Fixed I16 false)
    ∷ Some (Fixed I16 true) ∷ Some (Fixed I32 false) ∷ Some (Fixed I32 true) ∷ Some (Fixed I64 false) ∷ Some (Fixed I64 true)
    ∷ Some (Fixed I128 false) ∷ Some (Fixed I128 true) ∷ []

-- the integer type with the number
abbrev pub int_numbered : ℕ → Option (Option IntegerType)
int_numbered n = slice_get int_types n

-- 0 for none, and an alignment's bytes
abbrev pub flat_align : Option ℕ → ℕ
flat_align None = 0
flat_align (Some exponent) = 2 ^ exponent

-- an alignment, where it is one
abbrev pub some_align : Result ℕ AlignFromBytesError → Option (Option ℕ)
some_align (Ok align) = Some (Some align)
some_align (Err error) = None

-- the alignment of so many bytes, and none of 0
abbrev pub align_numbered : ℕ → Option (Option ℕ)
align_numbered n = if n == 0 then Some None else some_align (align_of_bytes n)

-- the flags with these bits
abbrev pub flags_numbered : ℕ → Option ReprFlags
flags_numbered n = if nat_lt n (2 ^ 8) then Some (record { 0 = n }) else None

-- 0 for none, 1 for a vector of vectors, and else 2 more than the count of elements
abbrev pub flat_scalable : Option ScalableElt → ℕ
flat_scalable None = 0
flat_scalable (Some Container) = 1
flat_scalable (Some (ElementCount count)) = 2 + count

-- the scalable vector with the number
abbrev pub scalable_numbered : ℕ → Option (Option ScalableElt)
scalable_numbered n =
    if n == 0 then Some None
    else (if n == 1 then Some (Some Container) else (if nat_lt (n - 2) (2 ^ 16) then Some (Some (ElementCount (n - 2))) else None))

-- the integer, the alignments of `align` and `packed` in bytes, the flags, the scalable vector, and the seed
abbrev pub flat_repr : ReprOptions → List ℕ
flat_repr repr =
    flat_int repr.int ∷ flat_align repr.align ∷ flat_align repr.pack ∷ repr.flags.0 ∷ flat_scalable repr.scalable ∷ repr.field_shuffle_seed ∷ []

-- an alignment that a type can ask for
abbrev pub IsAlign : Option ℕ → Type 0
IsAlign None = ⊤
IsAlign (Some exponent) = exponent ≤ max_exponent

-- a count of elements has 16 bits
abbrev pub IsScalable : Option ScalableElt → Type 0
IsScalable (Some (ElementCount count)) = count < 2 ^ 16
IsScalable _ = ⊤

-- The alignments are at most 2^29 bytes, the flags have 8 bits, and the count of elements 16.
pub record IsRepr (repr : ReprOptions) : Type 0 where
  pub align : IsAlign repr.align
  pub pack : IsAlign repr.pack
  pub flags : repr.flags.0 < 2 ^ 8
  pub scalable : IsScalable repr.scalable

-- what a `repr` attribute asks for
abbrev pub front_repr : Front ReprOptions
front_repr ns = do
  int ← front_as int_numbered ns
  align ← front_as align_numbered int.1
  pack ← front_as align_numbered align.1
  flags ← front_as flags_numbered pack.1
  scalable ← front_as scalable_numbered flags.1
  seed ← front_word scalable.1
  Some (
    record { int = int.0; align = align.0; pack = pack.0; flags = flags.0; scalable = scalable.0; field_shuffle_seed = seed.0 },
    seed.1,
  )
