-- `primitive`, `pointer`, `tuple.unit`, `properties`: types without parts, and what holds of each type.
use Rattle.std.specs.Prelude.{◌≡◌, ℕ, ◌^◌, ◌≤◌, ⊤, Bool}
use Rattle.std.specs.Int.{◌∣◌}
use Rattle.abi_base.specs.declared.data_layout.TargetDataLayout.{TargetDataLayout}
use Rattle.abi_base.specs.declared.integer.Integer.{Integer}
use Rattle.abi_base.specs.declared.integer.Integer.TheVariants.{I8, I16, I32, I64, I128}
use Rattle.abi_base.specs.declared.float.Float.TheVariants.{F32, F64}
use Rattle.abi_base.specs.declared.primitive.Primitive.{Primitive}
use Rattle.abi_base.specs.declared.primitive.Primitive.TheVariants.{Int, Float as OneFloat, Pointer}
use Rattle.abi_scalar.specs.declared.scalar.Scalar.{Scalar}
use Rattle.abi_base.specs.DataLayout.{index_integer}
use Rattle.abi_base.specs.Integer.{integer_align}
use Rattle.abi_scalar.specs.Scalar.{primitive_of}
use Rattle.abi_tree.specs.Tree.{Tree, scalar, pair, unit}
use Rattle.abi_tree.specs.Placed.{Placed, size_of}
use Rattle.guarantees.specs.Reference.Words.{align_in_bytes, extent_of}

-- `primitive.size`: the table; `bool` is a byte and `char` four
abbrev pub HasTableSize : Primitive → (size : ℕ) → Type 0
HasTableSize (Int I8 signed) size = size ≡ 1
HasTableSize (Int I16 signed) size = size ≡ 2
HasTableSize (Int I32 signed) size = size ≡ 4
HasTableSize (Int I64 signed) size = size ≡ 8
HasTableSize (Int I128 signed) size = size ≡ 16
HasTableSize (OneFloat F32) size = size ≡ 4
HasTableSize (OneFloat F64) size = size ≡ 8
HasTableSize _ size = ⊤

abbrev pub IsSizedByTable : Tree → Placed → Type 0
IsSizedByTable (scalar s) placed = HasTableSize (primitive_of s) (size_of placed)
IsSizedByTable _ placed = ⊤

-- `primitive.platform-specific-alignment`: it may be less than the size
abbrev pub IsAlignedBySize : Tree → Placed → Type 0
IsAlignedBySize (scalar s) placed = align_in_bytes placed ≤ size_of placed
IsAlignedBySize _ placed = ⊤

-- `tuple.unit`
abbrev pub IsUnit : Tree → Placed → Type 0
IsUnit unit placed = (size_of placed ≡ 0) × (align_in_bytes placed ≡ 1)
IsUnit _ placed = ⊤

-- `properties.align`, of each type: a power of two, at least 1 and at most 2^29
abbrev pub HasPowerAlign : Tree → Placed → Type 0
HasPowerAlign tree placed = (n : ℕ) × (n ≤ 29) × (align_in_bytes placed ≡ 2 ^ n)

-- `properties.size`, of each type
abbrev pub IsWhole : Tree → Placed → Type 0
IsWhole tree placed = align_in_bytes placed ∣ size_of placed

-- `usize` is the integer that an index is. That this is as wide as a pointer, and aligned as one, a data layout need not say:
-- `p:64:64:64:32` has narrow indices, and `p:64:64` beside `i64:32` an integer that is aligned to less.
abbrev pub index_of : TargetDataLayout → Integer
index_of dl = index_integer dl.default_address_space_pointer_spec.pointer_offset

abbrev pub HasWideIndex : TargetDataLayout → Type 0
HasWideIndex dl =
    dl.default_address_space_pointer_spec.pointer_offset ≡ dl.default_address_space_pointer_spec.pointer_size

abbrev pub HasPointersOfIndex : TargetDataLayout → Type 0
HasPointersOfIndex dl =
    HasWideIndex dl × (integer_align dl (index_of dl) ≡ dl.default_address_space_pointer_spec.pointer_align)

-- `primitive.size-minimum`: `usize` and `isize` have as many bytes as an address
abbrev pub HoldsAddresses : TargetDataLayout → Tree → Placed → Type 0
HoldsAddresses dl (scalar s) placed =
    (signed : Bool) → primitive_of s ≡ Int (index_of dl) signed
    → dl.default_address_space_pointer_spec.pointer_size ≤ size_of placed
HoldsAddresses dl _ placed = ⊤

module _ (HasLayout : Tree → Placed → Type 0) where
  -- `pointer.unsized`: a pointer and what it brings along are no smaller and no less aligned than the pointer
  abbrev pub IsWidePointer : Tree → Placed → Type 0
  IsWidePointer (pair a b) placed = (thin : Placed) → HasLayout (scalar a) thin → (size_of thin ≤ size_of placed) × (align_in_bytes thin ≤ align_in_bytes placed)
  IsWidePointer _ placed = ⊤

  -- `primitive.integer-alignment`, and of sizes: an integer with a sign and one without are alike
  abbrev pub IsSignless : Tree → Placed → Type 0
  IsSignless (scalar s) placed =
      (i : Integer) (signed : Bool) → primitive_of s ≡ Int i signed →
      (t : Scalar) (other : Bool) (p : Placed) → primitive_of t ≡ Int i other → HasLayout (scalar t) p → extent_of placed ≡ extent_of p
  IsSignless _ placed = ⊤

module _ (dl : TargetDataLayout) (HasLayout : Tree → Placed → Type 0) where
  -- `pointer.thin`: a pointer into the default space is as large and as aligned as `usize`, be that with a sign or without
  -- (`primitive.size-align`)
  abbrev pub IsThin : Tree → Placed → Type 0
  IsThin (scalar s) placed =
      primitive_of s ≡ Pointer dl.default_address_space →
      (t : Scalar) (signed : Bool) (p : Placed) → primitive_of t ≡ Int (index_of dl) signed → HasLayout (scalar t) p
      → extent_of placed ≡ extent_of p
  IsThin _ placed = ⊤
