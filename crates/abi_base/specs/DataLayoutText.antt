-- What a data layout string means: the data layout that its specs make together.
use Rattle.std.specs.Prelude.{ℕ, ◌==◌, ◌&&◌, Bool, true, false, List, [], ◌∷◌, ◌++◌, max, nat_eq, nat_le, Option, Some, None, is_some, unwrap_or, Result, Ok, if◌then◌else◌}
use Rattle.abi_base.specs.declared.address_space.AddressSpace.{AddressSpace}
use Rattle.abi_base.specs.declared.pointer_spec.PointerSpec.{PointerSpec}
use Rattle.abi_base.specs.declared.data_layout.TargetDataLayout.{TargetDataLayout}
use Rattle.abi_base.specs.declared.endian.Endian.{Endian}
use Rattle.abi_base.specs.declared.setting.AlignedWord.{AlignedWord}
use Rattle.abi_base.specs.declared.setting.AlignedWord.TheVariants.{Aggregate, F16, F32, F64, F128}
use Rattle.abi_base.specs.declared.setting.Setting.{Setting}
use Rattle.abi_base.specs.declared.setting.Setting.TheVariants.{Order, Instructions, Aligned, Pointer, Integer, Vector}
use Rattle.abi_base.specs.KeyedList.{put_entry}
use Rattle.abi_base.specs.DataLayout.{default_data_layout, known_spec, same_space}
use Rattle.abi_base.specs.DataLayoutFault.{Fault}
use Rattle.abi_base.specs.DataLayoutSpec.{◌>>=◌, spec_parts, settings_of}

-- what the last setting says of those that say anything of a kind; where none does, the default
abbrev pub last_said : {A : Type 0} → (Setting → Option A) → List Setting → A → A
last_said says [] default = default
last_said says (s ∷ ss) default = last_said says ss (unwrap_or (says s) default)

-- the byte order that is set
abbrev pub order_set : Setting → Option Endian
order_set (Order endian) = Some endian
order_set _ = None

-- the space of functions that is set
abbrev pub instructions_set : Setting → Option AddressSpace
instructions_set (Instructions space) = Some space
instructions_set _ = None

-- an alignment is named by the same word
abbrev pub same_word : AlignedWord → AlignedWord → Bool
same_word Aggregate Aggregate = true
same_word F16 F16 = true
same_word F32 F32 = true
same_word F64 F64 = true
same_word F128 F128 = true
same_word _ _ = false

-- the alignment that is set for a word
abbrev pub word_set : AlignedWord → Setting → Option ℕ
word_set word (Aligned named align) = if same_word named word then Some align else None
word_set word _ = None

-- the alignment that is set for integers of so many bits
abbrev pub integer_set : (bits : ℕ) → Setting → Option ℕ
integer_set bits (Integer width align) = if width == bits then Some align else None
integer_set bits _ = None

-- the width of 64 to 128 bits that an alignment is set for, if it is one
abbrev pub wide_bits : Setting → Option ℕ
wide_bits (Integer width align) = if nat_le 64 width && nat_le width 128 then Some width else None
wide_bits _ = None

-- the greater of both, where there are two
abbrev pub wider : Option ℕ → ℕ → ℕ
wider None bits = bits
wider (Some width) bits = max width bits

-- the most bits, of 64 to 128, that an alignment is set for, and no fewer than the least
abbrev pub widest : (least : ℕ) → List Setting → ℕ
widest least [] = least
widest least (s ∷ ss) = wider (wide_bits s) (widest least ss)

-- how the pointers of the space are set
abbrev pub pointers_set : AddressSpace → Setting → Option PointerSpec
pointers_set space (Pointer named spec) = if same_space named space then Some spec else None
pointers_set space _ = None

-- the alignment of vectors of a size replaced, or added last
abbrev pub put_vector : (size align : ℕ) → List (ℕ × ℕ) → List (ℕ × ℕ)
put_vector size align entries = put_entry nat_eq size align entries

-- the pointers of a space replaced, or added last
abbrev pub put_space : AddressSpace → PointerSpec → List (AddressSpace × PointerSpec) → List (AddressSpace × PointerSpec)
put_space space spec entries = put_entry same_space space spec entries

-- the alignments of vectors, with those that are set
abbrev pub vectors_after : List (ℕ × ℕ) → List Setting → List (ℕ × ℕ)
vectors_after entries [] = entries
vectors_after entries (Vector size align ∷ ss) = vectors_after (put_vector size align entries) ss
vectors_after entries (s ∷ ss) = vectors_after entries ss

-- the pointers of the spaces other than the default one, with those that are set
abbrev pub spaces_after : (default : AddressSpace) → List (AddressSpace × PointerSpec) → List Setting → List (AddressSpace × PointerSpec)
spaces_after default entries [] = entries
spaces_after default entries (Pointer space spec ∷ ss) = spaces_after default (if same_space space default then entries else put_space space spec entries) ss
spaces_after default entries (s ∷ ss) = spaces_after default entries ss

-- A data layout with these settings: each field is that of the last setting of its kind, or as it was.
-- The alignment of integers of 128 bits is that of the widest of 64 to 128 bits, the last of equals; one below the
-- least width doesn't count.
abbrev pub with_settings : TargetDataLayout → (least : ℕ) → List Setting → TargetDataLayout
with_settings dl least ss = record {
  endian = last_said order_set ss dl.endian;
  i1_align = last_said (integer_set 1) ss dl.i1_align;
  i8_align = last_said (integer_set 8) ss dl.i8_align;
  i16_align = last_said (integer_set 16) ss dl.i16_align;
  i32_align = last_said (integer_set 32) ss dl.i32_align;
  i64_align = last_said (integer_set 64) ss dl.i64_align;
  i128_align = last_said (integer_set (widest least ss)) ss dl.i128_align;
  f16_align = last_said (word_set F16) ss dl.f16_align;
  f32_align = last_said (word_set F32) ss dl.f32_align;
  f64_align = last_said (word_set F64) ss dl.f64_align;
  f128_align = last_said (word_set F128) ss dl.f128_align;
  aggregate_align = last_said (word_set Aggregate) ss dl.aggregate_align;
  vector_align = vectors_after dl.vector_align ss;
  default_address_space = dl.default_address_space;
  default_address_space_pointer_spec = last_said (pointers_set dl.default_address_space) ss dl.default_address_space_pointer_spec;
  address_space_info = spaces_after dl.default_address_space dl.address_space_info ss;
  instruction_address_space = last_said instructions_set ss dl.instruction_address_space;
  c_enum_min_size = dl.c_enum_min_size;
}

-- the space of functions is added with the default pointers where it isn't known
abbrev pub with_instructions : TargetDataLayout → TargetDataLayout
with_instructions dl =
    if is_some (known_spec dl dl.instruction_address_space) then dl
    else record dl { address_space_info = dl.address_space_info ++ ((dl.instruction_address_space, dl.default_address_space_pointer_spec) ∷ []) }

-- the data layout of a target that says nothing of its own, with this default space
abbrev pub default_with : AddressSpace → TargetDataLayout
default_with space = record default_data_layout { default_address_space = space }

-- What the text means: the data layout of its specs, or the fault of the first spec that has one.
unfoldable pub data_layout_in : AddressSpace → List ℕ → Result TargetDataLayout Fault
data_layout_in space text = do
  settings ← settings_of (spec_parts 45 text)
  Ok (with_instructions (with_settings (default_with space) 64 settings))
