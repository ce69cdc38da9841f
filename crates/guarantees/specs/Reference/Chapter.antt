-- The chapter's rules, a field each, by its sections. A rule holds of the type that was laid out, and of each type in it; rules
-- that compare a type with another take which layouts types have.
use Rattle.std.specs.Prelude.{Ok}
use Rattle.abi_base.specs.declared.data_layout.TargetDataLayout.{TargetDataLayout}
use Rattle.abi_tree.specs.declared.laid.Laid.{Laid}
use Rattle.abi_tree.specs.Placed.{Placed}
use Rattle.abi_tree.specs.Tree.{Tree}
use Rattle.rustc_abi.specs.Everywhere.{EachIn}
use Rattle.rustc_abi.specs.Laying.{IsLaying}
use Rattle.guarantees.specs.Reference.Arrays.{IsArray}
use Rattle.guarantees.specs.Reference.CStruct.{IsCStruct}
use Rattle.guarantees.specs.Reference.CUnion.{IsCUnion}
use Rattle.guarantees.specs.Reference.FieldEnums.{IsCEnum, IsPrimitiveEnum}
use Rattle.guarantees.specs.Reference.Modifiers.{IsPacked, IsPackedC, IsRaised, IsRaisedEnum}
use Rattle.guarantees.specs.Reference.Option.{IsAsLarge, IsNoneZero, IsSomeAlike, OfOption}
use Rattle.guarantees.specs.Reference.Primitive.{HasPointersOfIndex, HasPowerAlign, HasWideIndex, HoldsAddresses}
use Rattle.guarantees.specs.Reference.Primitive.{IsAlignedBySize, IsSignless, IsSizedByTable, IsThin, IsUnit, IsWhole, IsWidePointer}
use Rattle.guarantees.specs.Reference.RustLayout.{IsAligned, IsApart, LiesAsAlone}

-- the type lies so, by itself
abbrev pub LiesAs : TargetDataLayout → Tree → Placed → Type 0
LiesAs dl t p = IsLaying dl t (Ok p)

-- size and alignment
pub record HasProperties (dl : TargetDataLayout) (tree : Tree) (laid : Laid) : Type 0 where
  -- an alignment is a power of two
  pub properties_align : EachIn dl tree HasPowerAlign laid
  -- a size is a multiple of the alignment
  pub properties_size : EachIn dl tree IsWhole laid

-- primitive types, pointers, arrays and unit
pub record HasSimpleTypes (dl : TargetDataLayout) (tree : Tree) (laid : Laid) : Type 0 where
  -- primitive types have the sizes of the table
  pub primitive_size : EachIn dl tree IsSizedByTable laid
  -- `usize` holds each address, where an index is as wide as a pointer
  pub primitive_size_minimum : HasWideIndex dl → EachIn dl tree (HoldsAddresses dl) laid
  -- integers of one width are aligned alike, with a sign and without
  pub primitive_integer_alignment : EachIn dl tree (IsSignless (LiesAs dl)) laid
  -- a primitive type's alignment is at most its size
  pub primitive_platform_specific_alignment : EachIn dl tree IsAlignedBySize laid
  -- a thin pointer is as `usize` is, where that is aligned as a pointer
  pub pointer_thin : HasPointersOfIndex dl → EachIn dl tree (IsThin dl (LiesAs dl)) laid
  -- a wide pointer is no smaller and no less aligned than a thin one
  pub pointer_unsized : EachIn dl tree (IsWidePointer (LiesAs dl)) laid
  -- an array's elements lie one after another
  pub array : EachIn dl tree IsArray laid
  -- unit has size 0 and alignment 1
  pub tuple_unit : EachIn dl tree IsUnit laid

-- the Rust representation
pub record KeepsToRust (dl : TargetDataLayout) (tree : Tree) (laid : Laid) : Type 0 where
  -- a type lies in another as it does by itself
  pub repr_inter_field : EachIn dl tree (LiesAsAlone (LiesAs dl)) laid
  -- offsets are multiples of the fields' alignments, and the whole is aligned as each of them at least
  pub repr_rust_layout : EachIn dl tree IsAligned laid
  -- a struct's fields don't overlap
  pub repr_rust_layout_struct : EachIn dl tree IsApart laid

-- the C representation and those of integers
pub record KeepsToC (dl : TargetDataLayout) (tree : Tree) (laid : Laid) : Type 0 where
  -- a struct's fields lie as the C algorithm places them
  pub repr_c_struct : EachIn dl tree IsCStruct laid
  -- a union is as large and as aligned as C's
  pub repr_c_union : EachIn dl tree IsCUnion laid
  -- an enum is a struct of a tag and a union of structs
  pub repr_c_adt : EachIn dl tree (IsCEnum dl) laid
  -- under an integer alone an enum is a union of structs that begin with the tag
  pub repr_primitive_adt : EachIn dl tree (IsPrimitiveEnum dl) laid

-- `align` and `packed`
pub record KeepsToModifiers (dl : TargetDataLayout) (tree : Tree) (laid : Laid) : Type 0 where
  -- `align` gives the greater of its alignment and the one without it
  pub repr_alignment_align : EachIn dl tree (IsRaised (LiesAs dl)) laid
  -- under `packed` fields of the C representation lie by the smaller of their alignments and the pack
  pub repr_alignment_packed_fields : EachIn dl tree IsPackedC laid
  -- and between fields there is no more padding than these alignments ask for
  pub repr_alignment_packed_padding : EachIn dl tree IsPacked laid
  -- `align` on an enum aligns it as a struct around it would be
  pub repr_alignment_enum : EachIn dl tree (IsRaisedEnum (LiesAs dl)) laid

-- `Option` of a reference, a box or a non-zero number, as its own documentation has it
pub record KeepsToOption (dl : TargetDataLayout) (tree : Tree) (laid : Laid) : Type 0 where
  -- it has the size and the alignment of what is in it
  pub option_size : EachIn dl tree (OfOption dl (LiesAs dl) IsAsLarge) laid
  -- bytes of zeros hold `None`
  pub option_none_is_zero : EachIn dl tree (OfOption dl (LiesAs dl) (IsNoneZero dl)) laid
  -- `Some` of a value has the value's bytes
  pub option_some_is_its_value : EachIn dl tree (OfOption dl (LiesAs dl) (IsSomeAlike dl)) laid
