-- The meaning of data layout strings, tried on a few.
use Rattle.std.proofs.Common.{◌≡◌, ◌-◌, ◌^◌, false, Ok, Err, refl, [], ◌∷◌}
use Rattle.std.specs.Prelude.{codes}
use Rattle.std.specs.Int.Count.{count_trailing_zeros}
use Rattle.std.specs.Str.{chars}
use Rattle.abi_base.specs.declared.parse_number.NumberError.TheVariants.{Empty, InvalidDigit, PosOverflow}
use Rattle.abi_base.specs.declared.align.AlignFromBytesError.TheVariants.{NotPowerOfTwo, TooLarge}
use Rattle.abi_base.specs.DataLayout.{default_data_layout}
use Rattle.abi_base.specs.DataLayoutFault.{bad_alignment, bad_bits, bad_space, missing_alignment}
use Rattle.abi_base.specs.NumberText.{number_answer}
use Rattle.abi_base.specs.DataLayoutSpec.{alignment_in, bits_in, lettered_row, pointer_setting, pointer_space, pointers_in, row_of_spec, setting_in, setting_of, settings_of, size_written, space_in}
use Rattle.abi_base.specs.DataLayoutText.{data_layout_in}

-- nothing said
pub empty_text : data_layout_in (record { 0 = 0 }) [] ≡ Ok default_data_layout
unfolding data_layout_in settings_of setting_of row_of_spec lettered_row setting_in
empty_text = refl

-- the later of two specs of 64 bits
pub later_counts : data_layout_in (record { 0 = 0 }) (codes "i64:64-i64:32") ≡ Ok (record default_data_layout { i64_align = 2; i128_align = 2 })
unfolding data_layout_in settings_of setting_of row_of_spec lettered_row setting_in alignment_in bits_in size_written number_answer count_trailing_zeros
later_counts = refl

-- the widest counts for 128 bits
pub widest_counts : data_layout_in (record { 0 = 0 }) (codes "i96:64-i64:32") ≡ Ok (record default_data_layout { i64_align = 2; i128_align = 3 })
unfolding data_layout_in settings_of setting_of row_of_spec lettered_row setting_in alignment_in bits_in size_written number_answer count_trailing_zeros
widest_counts = refl

-- the space of functions has no number
pub no_space : data_layout_in (record { 0 = 0 }) (codes "e-P") ≡ Err (bad_space [] (codes "P") Empty)
unfolding data_layout_in settings_of setting_of row_of_spec lettered_row setting_in space_in number_answer
no_space = refl

-- a bad width is told, and not the missing alignment
pub size_first : data_layout_in (record { 0 = 0 }) (codes "ix") ≡ Err (bad_bits (codes "size") (codes "x") (codes "i") InvalidDigit)
unfolding data_layout_in settings_of setting_of row_of_spec lettered_row setting_in alignment_in bits_in size_written number_answer count_trailing_zeros
size_first = refl

-- the first faulty spec is told
pub first_told : data_layout_in (record { 0 = 0 }) (codes "i8-a:24") ≡ Err (missing_alignment (codes "i8"))
unfolding data_layout_in settings_of setting_of row_of_spec lettered_row setting_in alignment_in bits_in size_written number_answer count_trailing_zeros
first_told = refl

-- three bytes are no alignment
pub no_alignment : data_layout_in (record { 0 = 0 }) (codes "a:24") ≡ Err (bad_alignment (codes "a") (NotPowerOfTwo 3))
unfolding data_layout_in settings_of setting_of row_of_spec lettered_row setting_in alignment_in bits_in size_written number_answer count_trailing_zeros
no_alignment = refl

-- an alignment of 2 ^ 29 bytes is one, and of 2 ^ 30 bytes is none
pub greatest_alignment : data_layout_in (record { 0 = 0 }) (codes "a:4294967296") ≡ Ok (record default_data_layout { aggregate_align = 29 })
unfolding data_layout_in settings_of setting_of row_of_spec lettered_row setting_in alignment_in bits_in size_written number_answer count_trailing_zeros
greatest_alignment = refl

pub alignment_above : data_layout_in (record { 0 = 0 }) (codes "a:8589934592") ≡ Err (bad_alignment (codes "a") (TooLarge (2 ^ 30)))
unfolding data_layout_in settings_of setting_of row_of_spec lettered_row setting_in alignment_in bits_in size_written number_answer count_trailing_zeros
alignment_above = refl

-- an index of its own, and the fifth part
pub fifth_part : data_layout_in (record { 0 = 0 }) (codes "p:32:32:32:16") ≡ Ok (record default_data_layout { default_address_space_pointer_spec = record { pointer_size = 4; pointer_align = 2; pointer_offset = 2; is_fat = false } })
unfolding data_layout_in settings_of setting_of row_of_spec lettered_row setting_in pointer_setting pointers_in pointer_space alignment_in bits_in size_written number_answer chars count_trailing_zeros
fifth_part = refl

-- a sixth part, so that the fifth is no index
pub sixth_part : data_layout_in (record { 0 = 0 }) (codes "p:32:32:32:16:8") ≡ Ok (record default_data_layout { default_address_space_pointer_spec = record { pointer_size = 4; pointer_align = 2; pointer_offset = 4; is_fat = false } })
unfolding data_layout_in settings_of setting_of row_of_spec lettered_row setting_in pointer_setting pointers_in pointer_space alignment_in bits_in size_written number_answer chars count_trailing_zeros
sixth_part = refl

-- the faults of a pointer spec, each reported before those that follow it here: the space, the size, the alignment, the index
pub space_before_size : pointers_in false (codes "4294967296") (codes "x") (codes "y" ∷ []) ≡ Err (bad_space (codes "4294967296") (codes "p-") PosOverflow)
unfolding pointers_in pointer_space space_in number_answer
space_before_size = refl

pub size_before_alignment : data_layout_in (record { 0 = 0 }) (codes "p:x:y") ≡ Err (bad_bits (codes "size") (codes "x") (codes "p-") InvalidDigit)
unfolding data_layout_in settings_of setting_of row_of_spec lettered_row setting_in pointer_setting pointers_in pointer_space alignment_in bits_in size_written number_answer chars count_trailing_zeros
size_before_alignment = refl

pub alignment_before_index : data_layout_in (record { 0 = 0 }) (codes "p:32:y:32:x") ≡ Err (bad_bits (codes "alignment") (codes "y") (codes "p-") InvalidDigit)
unfolding data_layout_in settings_of setting_of row_of_spec lettered_row setting_in pointer_setting pointers_in pointer_space alignment_in bits_in size_written number_answer chars count_trailing_zeros
alignment_before_index = refl

pub index_told : data_layout_in (record { 0 = 0 }) (codes "p:32:32:32:x") ≡ Err (bad_bits (codes "size") (codes "x") (codes "p-") InvalidDigit)
unfolding data_layout_in settings_of setting_of row_of_spec lettered_row setting_in pointer_setting pointers_in pointer_space alignment_in bits_in size_written number_answer chars count_trailing_zeros
index_told = refl

-- the space of functions, known with the default pointers
pub functions_known : data_layout_in (record { 0 = 0 }) (codes "P7") ≡ Ok (record default_data_layout {
  instruction_address_space = record { 0 = 7 };
  address_space_info = (record { 0 = 7 }, default_data_layout.default_address_space_pointer_spec) ∷ [];
})
unfolding data_layout_in settings_of setting_of row_of_spec lettered_row setting_in space_in number_answer
functions_known = refl

-- a vector replaced, and one added last
pub vectors_put : data_layout_in (record { 0 = 0 }) (codes "v64:32-v32:32") ≡ Ok (record default_data_layout { vector_align = (8, 2) ∷ (16, 4) ∷ (4, 2) ∷ [] })
unfolding data_layout_in settings_of setting_of row_of_spec lettered_row setting_in alignment_in bits_in size_written number_answer count_trailing_zeros
vectors_put = refl

-- a number that has too many bits, also with a bad character at its end
pub too_large : number_answer (2 ^ 32) (codes "4294967296") ≡ Err PosOverflow
unfolding number_answer
too_large = refl

pub bad_end : number_answer (2 ^ 32) (codes "4294967296x") ≡ Err InvalidDigit
unfolding number_answer
bad_end = refl

pub plus_alone : number_answer (2 ^ 32) (codes "+") ≡ Err InvalidDigit
unfolding number_answer
plus_alone = refl

pub no_number : number_answer (2 ^ 32) [] ≡ Err Empty
unfolding number_answer
no_number = refl

pub minus : number_answer (2 ^ 32) (codes "-1") ≡ Err InvalidDigit
unfolding number_answer
minus = refl

pub greatest_number : number_answer (2 ^ 32) (codes "+4294967295") ≡ Ok (2 ^ 32 - 1)
unfolding number_answer
greatest_number = refl
