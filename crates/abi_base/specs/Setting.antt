-- One setting more.
use Rattle.std.specs.Prelude.{ℕ, ◌≤◌, unwrap_or}
use Rattle.abi_base.specs.declared.data_layout.TargetDataLayout.{TargetDataLayout}
use Rattle.abi_base.specs.declared.setting.Setting.TheVariants.{Integer}
use Rattle.abi_base.specs.DataLayoutText.{integer_set}

-- the widths that the alignment of integers of 128 bits is taken from
abbrev pub IsWidthOfLong : ℕ → Type 0
IsWidthOfLong bits = (64 ≤ bits) × (bits ≤ 128)

-- the alignment of integers of so many bits, where the width is one of 1 to 64 bits that have a field
abbrev pub with_integer : TargetDataLayout → (bits align : ℕ) → TargetDataLayout
with_integer dl bits align = record dl {
  i1_align = unwrap_or (integer_set 1 (Integer bits align)) dl.i1_align;
  i8_align = unwrap_or (integer_set 8 (Integer bits align)) dl.i8_align;
  i16_align = unwrap_or (integer_set 16 (Integer bits align)) dl.i16_align;
  i32_align = unwrap_or (integer_set 32 (Integer bits align)) dl.i32_align;
  i64_align = unwrap_or (integer_set 64 (Integer bits align)) dl.i64_align;
}
