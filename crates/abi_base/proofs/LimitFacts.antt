-- Worked facts: alignments at the limit of 2 ^ 29 bytes, and the error that names each fault.
use Rattle.std.proofs.Common.{◌≡◌, ℕ, ◌+◌, ◌^◌, ◌≤◌, List, [], ◌∷◌, false, Ok, Err, refl, arith, rules}
use Rattle.std.specs.Int.Count.{count_trailing_zeros}
use Rattle.std.proofs.lemmas.List.Elements.{All-from_recursion}
use denote.Ref.{Bor}
use Rattle.abi_base.specs.declared.align.AlignFromBytesError.{AlignFromBytesError}
use Rattle.abi_base.specs.declared.align.AlignFromBytesError.TheVariants.{NotPowerOfTwo, TooLarge}
use Rattle.abi_base.specs.declared.data_layout.TargetDataLayout.{TargetDataLayout}
use Rattle.abi_base.specs.declared.parse_number.NumberError.{NumberError}
use Rattle.abi_base.specs.declared.parse_error.TargetDataLayoutError.TheVariants.{InvalidAddressSpace, InvalidBits, MissingAlignment, InvalidAlignment, UnknownPointerSpecification}
use Rattle.abi_base.specs.Align.{align_of_bytes, max_exponent}
use Rattle.abi_base.specs.DataLayout.{IsLawfulDataLayout, alignments_of, default_data_layout}
use Rattle.abi_base.specs.DataLayoutFault.{bad_alignment, bad_bits, bad_space, missing_alignment, unknown_pointer, NamesFault}
use Rattle.abi_base.proofs.Laws.{lawful_default}

-- ---- numbers of bytes that are alignments

pub greatest : align_of_bytes (2 ^ 29) ≡ Ok 29
unfolding count_trailing_zeros
greatest = refl

pub above : align_of_bytes (2 ^ 30) ≡ Err (TooLarge (2 ^ 30))
unfolding count_trailing_zeros
above = refl

pub no_power : align_of_bytes (2 ^ 29 + 1) ≡ Err (NotPowerOfTwo (2 ^ 29 + 1))
unfolding count_trailing_zeros
no_power = refl

-- ---- lawful data layouts

-- the default one with this least alignment of lists of fields
abbrev lists_at : ℕ → TargetDataLayout
lists_at align = record default_data_layout { aggregate_align = align }

-- with this alignment of vectors of 8 bytes alone
abbrev vectors_at : ℕ → TargetDataLayout
vectors_at align = record default_data_layout { vector_align = (8, align) ∷ [] }

-- with a further space whose pointers are so aligned
abbrev spaces_at : ℕ → TargetDataLayout
spaces_at align = record default_data_layout {
  address_space_info = (record { 0 = 7 }, record { pointer_size = 8; pointer_align = align; pointer_offset = 8; is_fat = false }) ∷ [];
}

pub lists_lawful : IsLawfulDataLayout (lists_at 29)
lists_lawful = record {
  integers = lawful_default.integers;
  floats = lawful_default.floats;
  pointer = lawful_default.pointer;
  index = lawful_default.index;
  pointer_fits = lawful_default.pointer_fits;
  limit = All-from_recursion (λ a. a ≤ max_exponent) (alignments_of (lists_at 29)) (search rules);
}

pub vectors_lawful : IsLawfulDataLayout (vectors_at 29)
vectors_lawful = record {
  integers = lawful_default.integers;
  floats = lawful_default.floats;
  pointer = lawful_default.pointer;
  index = lawful_default.index;
  pointer_fits = lawful_default.pointer_fits;
  limit = All-from_recursion (λ a. a ≤ max_exponent) (alignments_of (vectors_at 29)) (search rules);
}

pub lists_above : IsLawfulDataLayout (lists_at 30) → ⊥
lists_above l = let high : 30 ≤ 29 = l.limit 10 0 (search rules) in omega arith

pub vectors_above : IsLawfulDataLayout (vectors_at 30) → ⊥
vectors_above l = let high : 30 ≤ 29 = l.limit 12 0 (search rules) in omega arith

pub spaces_above : IsLawfulDataLayout (spaces_at 30) → ⊥
spaces_above l = let high : 30 ≤ 29 = l.limit 14 0 (search rules) in omega arith

-- ---- each fault, and the error that names it

module _ (kind text cause : Bor (List ℕ)) (number : NumberError) (align : AlignFromBytesError) where
  pub space_named : NamesFault {A = ℕ} (Err (bad_space text.now cause.now number)) (InvalidAddressSpace text cause number)
  space_named = refl

  pub bits_named : NamesFault {A = ℕ} (Err (bad_bits kind.now text.now cause.now number)) (InvalidBits kind text cause number)
  bits_named = refl

  pub missing_named : NamesFault {A = ℕ} (Err (missing_alignment cause.now)) (MissingAlignment cause)
  missing_named = refl

  pub alignment_named : NamesFault {A = ℕ} (Err (bad_alignment cause.now align)) (InvalidAlignment cause align)
  alignment_named = refl

  pub pointer_named : NamesFault {A = ℕ} (Err (unknown_pointer text.now)) (UnknownPointerSpecification text)
  pointer_named = refl

  -- and not another
  pub bits_no_space : NamesFault {A = ℕ} (Err (bad_bits kind.now text.now cause.now number)) (InvalidAddressSpace text cause number) → ⊥
  bits_no_space e = (cc)

  pub alignment_no_lack : NamesFault {A = ℕ} (Err (bad_alignment cause.now align)) (MissingAlignment cause) → ⊥
  alignment_no_lack e = (cc)

  -- nor by an error where there is no fault
  pub none_named : (n : ℕ) → NamesFault (Ok n) (MissingAlignment cause) → ⊥
  none_named n e = (cc)
