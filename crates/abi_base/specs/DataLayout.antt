-- What a data layout says, and when its types have layouts at all.
use Rattle.std.specs.Prelude.{◌≡◌, ℕ, ◌^◌, ◌≤◌, ◌⊎◌, ◌==◌, List, [], ◌∷◌, ◌++◌, All, Option, Some, Bool, false, map, IsSome, if◌then◌else◌, unwrap_or}
use Rattle.std.specs.Int.{◌∣◌}
use Rattle.std.specs.Ordering.{on}
use Rattle.std.specs.Prelude.{nat_eq}
use Rattle.abi_base.specs.declared.address_space.AddressSpace.{AddressSpace}
use Rattle.abi_base.specs.declared.pointer_spec.PointerSpec.{PointerSpec}
use Rattle.abi_base.specs.declared.data_layout.TargetDataLayout.{TargetDataLayout}
use Rattle.abi_base.specs.declared.integer.Integer.{Integer}
use Rattle.abi_base.specs.declared.integer.Integer.TheVariants.{I16, I32, I64}
use Rattle.abi_base.specs.declared.endian.Endian.TheVariants.{Big}
use Rattle.abi_base.specs.declared.float.Float.{Float}
use Rattle.abi_base.specs.Align.{max_exponent, next_exponent}
use Rattle.abi_base.specs.KeyedList.{entry_value}
use Rattle.abi_base.specs.Integer.{integer_size, integer_align}
use Rattle.abi_base.specs.Float.{float_size, float_align}

-- the same space
abbrev pub same_space : AddressSpace → AddressSpace → Bool
same_space = on (λ space. space.0) nat_eq

-- the entry of a space other than the default one, if there is one
abbrev pub entry_of : List (AddressSpace × PointerSpec) → AddressSpace → Option PointerSpec
entry_of entries space = entry_value same_space entries space

-- how the pointers of a space are represented, if the data layout knows it
abbrev pub known_spec : TargetDataLayout → AddressSpace → Option PointerSpec
known_spec dl space =
    if space.0 == dl.default_address_space.0
    then Some dl.default_address_space_pointer_spec
    else entry_of dl.address_space_info space

-- the data layout says how the space's pointers are represented
abbrev pub Knows : TargetDataLayout → AddressSpace → Type 0
Knows dl space = IsSome (known_spec dl space)

-- how the pointers of a known space are represented
abbrev pub pointer_spec_of : TargetDataLayout → AddressSpace → PointerSpec
pointer_spec_of dl space = unwrap_or (known_spec dl space) dl.default_address_space_pointer_spec

-- no size of a type reaches it, by the bytes of a pointer
abbrev pub bound_of_pointer : ℕ → ℕ
bound_of_pointer bytes = if bytes == 2 then 2 ^ 15 else (if bytes == 4 then 2 ^ 31 else 2 ^ 61)

-- the number of bytes that no type's size reaches
abbrev pub size_bound : TargetDataLayout → ℕ
size_bound dl = bound_of_pointer dl.default_address_space_pointer_spec.pointer_size

-- 16, 32 or 64 bits
abbrev pub IsPointerWidth : ℕ → Type 0
IsPointerWidth bytes = (bytes ≡ 2) ⊎ (bytes ≡ 4) ⊎ (bytes ≡ 8)

-- the integer as wide as an index of so many bytes
abbrev pub index_integer : ℕ → Integer
index_integer bytes = if bytes == 2 then I16 else (if bytes == 4 then I32 else I64)

-- the listed alignment of vectors of a size
abbrev pub listed_align : List (ℕ × ℕ) → ℕ → Option ℕ
listed_align entries size = entry_value nat_eq entries size

-- the alignment of vectors of a size: the listed one, else the next power of two
abbrev pub vector_align_of : TargetDataLayout → ℕ → ℕ
vector_align_of dl size = unwrap_or (listed_align dl.vector_align size) (next_exponent size)

-- each alignment of a scalar or a list of fields, as an exponent of two
abbrev pub scalar_alignments_of : TargetDataLayout → List ℕ
scalar_alignments_of dl =
    dl.i1_align ∷ dl.i8_align ∷ dl.i16_align ∷ dl.i32_align ∷ dl.i64_align ∷ dl.i128_align
    ∷ dl.f16_align ∷ dl.f32_align ∷ dl.f64_align ∷ dl.f128_align ∷ dl.aggregate_align
    ∷ dl.default_address_space_pointer_spec.pointer_align ∷ []

-- each alignment that the data layout names, as an exponent of two
abbrev pub alignments_of : TargetDataLayout → List ℕ
alignments_of dl =
    scalar_alignments_of dl
    ++ map (λ e. e.1) dl.vector_align
    ++ map (λ e. e.1.pointer_align) dl.address_space_info

-- the default space's pointers and indices have 16, 32 or 64 bits, the pointers a multiple of their alignment
abbrev pub HasLawfulDefault : TargetDataLayout → Type 0
HasLawfulDefault dl =
    IsPointerWidth dl.default_address_space_pointer_spec.pointer_size
    × IsPointerWidth dl.default_address_space_pointer_spec.pointer_offset
    × (2 ^ dl.default_address_space_pointer_spec.pointer_align ∣ dl.default_address_space_pointer_spec.pointer_size)

-- A lawful data layout: one under which types have layouts.
pub record IsLawfulDataLayout (dl : TargetDataLayout) : Type 0 where
  -- each integer's size is a multiple of its alignment
  pub integers : (i : Integer) → 2 ^ integer_align dl i ∣ integer_size i
  -- and each float's
  pub floats : (f : Float) → 2 ^ float_align dl f ∣ float_size f
  -- the default space's pointers have 16, 32 or 64 bits
  pub pointer : IsPointerWidth dl.default_address_space_pointer_spec.pointer_size
  -- and so have its indices
  pub index : IsPointerWidth dl.default_address_space_pointer_spec.pointer_offset
  -- their size is a multiple of their alignment
  pub pointer_fits : 2 ^ dl.default_address_space_pointer_spec.pointer_align ∣ dl.default_address_space_pointer_spec.pointer_size
  -- no alignment is above 2 ^ 29 bytes
  pub limit : All (λ a. a ≤ max_exponent) (alignments_of dl)

-- a lawful pointer has 1 to 16 bytes, a multiple of its alignment
pub record IsLawfulSpec (spec : PointerSpec) : Type 0 where
  pub some : 1 ≤ spec.pointer_size
  pub most : spec.pointer_size ≤ 16
  pub fits : 2 ^ spec.pointer_align ∣ spec.pointer_size

-- the space is known, and its pointers are lawful
abbrev pub HasLawfulPointer : TargetDataLayout → AddressSpace → Type 0
HasLawfulPointer dl space = Knows dl space × IsLawfulSpec (pointer_spec_of dl space)

-- The data layout of a target that says nothing of its own.
abbrev pub default_data_layout : TargetDataLayout
default_data_layout = record {
  endian = Big;
  i1_align = 0;
  i8_align = 0;
  i16_align = 1;
  i32_align = 2;
  i64_align = 2;
  i128_align = 2;
  f16_align = 1;
  f32_align = 2;
  f64_align = 3;
  f128_align = 4;
  aggregate_align = 0;
  vector_align = (8, 3) ∷ (16, 4) ∷ [];
  default_address_space = record { 0 = 0 };
  default_address_space_pointer_spec = record { pointer_size = 8; pointer_align = 3; pointer_offset = 8; is_fat = false };
  address_space_info = [];
  instruction_address_space = record { 0 = 0 };
  c_enum_min_size = I32;
}
