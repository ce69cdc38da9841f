-- What a `repr` attribute asks of a type.
use Rattle.std.specs.Prelude.{◌≡◌, ℕ, ◌==◌, Bool, true, not, ◌&&◌, ◌||◌, is_some, unwrap_or}
use Rattle.std.specs.Int.RustNames.{bit_and}
use Rattle.abi_base.specs.declared.integer.IntegerType.{IntegerType}
use Rattle.abi_base.specs.declared.integer.IntegerType.TheVariants.{Pointer}
use Rattle.abi_scalar.specs.declared.repr.ReprOptions.{ReprOptions}

-- each of these flags is set
abbrev pub has_flags : ReprOptions → ℕ → Bool
has_flags repr flags = bit_and repr.flags.0 flags == flags

-- one of these flags is set
abbrev pub has_flag_of : ReprOptions → ℕ → Bool
has_flag_of repr flags = not (bit_and repr.flags.0 flags == 0)

-- the flag of `repr(C)` is set
abbrev pub is_c : ReprOptions → Bool
is_c repr = has_flags repr 1

-- the flag of vectors is set
abbrev pub is_simd : ReprOptions → Bool
is_simd repr = has_flags repr 2

-- the flag of `repr(transparent)` is set
abbrev pub is_transparent : ReprOptions → Bool
is_transparent repr = has_flags repr 4

-- the flag by which fields stay in source order is set
abbrev pub is_linear : ReprOptions → Bool
is_linear repr = has_flags repr 8

-- the flag of vectors whose length the machine decides is set
abbrev pub is_scalable : ReprOptions → Bool
is_scalable repr = has_flags repr 64

-- the layout is Rust's own to choose
abbrev pub is_rust : ReprOptions → Bool
is_rust repr = not (is_c repr) && not (is_simd repr) && not (is_scalable repr) && not (is_transparent repr)

-- the type of an enum's discriminants: the one that is named, else `isize`
abbrev pub discr_type_of : ReprOptions → IntegerType
discr_type_of repr = unwrap_or repr.int (Pointer true)

-- C or a vector: not passed as its one field
abbrev pub is_abi_fixed : ReprOptions → Bool
is_abi_fixed repr = has_flag_of repr 3

-- C, a vector, scalable or not, linear, or with a named integer: fields stay in source order
abbrev pub has_fixed_order : ReprOptions → Bool
has_fixed_order repr = has_flag_of repr 75 || is_some repr.int

-- the order is free, and a shuffle is asked for
abbrev pub may_randomize : ReprOptions → Bool
may_randomize repr = not (has_fixed_order repr) && has_flags repr 16

-- all but the seeds are equal
pub record IsEqualUpToSeed (a b : ReprOptions) : Type 0 where
  pub int : a.int ≡ b.int
  pub align : a.align ≡ b.align
  pub pack : a.pack ≡ b.pack
  pub flags : a.flags ≡ b.flags
  pub scalable : a.scalable ≡ b.scalable
