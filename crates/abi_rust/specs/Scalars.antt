-- The scalars of primitive types.
use Rattle.std.specs.Prelude.{ℕ, ◌-◌, ◌^◌, min, max, is_some, Bool as Truth, true, false, Option, Some, None, if◌then◌else◌}
use Rattle.abi_base.specs.DataLayout.{index_integer, known_spec}
use Rattle.abi_base.specs.declared.address_space.AddressSpace.{AddressSpace}
use Rattle.abi_rust.specs.declared.tail.Tail.{Tail}
use Rattle.abi_rust.specs.declared.tail.Tail.TheVariants.{Sized, Length, Table}
use Rattle.abi_base.specs.Primitive.{primitive_size}
use Rattle.abi_base.specs.IntegerType.{integer_of_type, is_signed_type}
use Rattle.abi_base.specs.declared.data_layout.TargetDataLayout.{TargetDataLayout}
use Rattle.abi_base.specs.declared.integer.Integer.TheVariants.{I8 as OneByte, I16 as TwoBytes, I32 as FourBytes, I64 as EightBytes, I128 as SixteenBytes}
use Rattle.abi_base.specs.declared.integer.IntegerType.{IntegerType}
use Rattle.abi_base.specs.declared.integer.IntegerType.TheVariants.{Fixed, Pointer as AsPointer}
use Rattle.abi_base.specs.declared.primitive.Primitive.{Primitive}
use Rattle.abi_base.specs.declared.primitive.Primitive.TheVariants.{Int, Float, Pointer}
use Rattle.abi_scalar.specs.Range.{full_range}
use Rattle.abi_scalar.specs.declared.scalar.Scalar.{Scalar}
use Rattle.abi_scalar.specs.declared.scalar.Scalar.TheVariants.{Initialized, Union as UnionScalar}
use Rattle.abi_tree.specs.Tree.{Tree, pair, scalar}
use Rattle.abi_tree.specs.declared.tree.TypeTree.{TypeTree}
use Rattle.abi_tree.specs.declared.tree.TypeTree.TheVariants.{Scalar as OneScalar, Pair}
use Rattle.rust_source.specs.declared.syntax.IntegerKind.{IntegerKind}
use Rattle.rust_source.specs.declared.syntax.IntegerKind.TheVariants.{I8, I16, I32, I64, I128, Isize, U8, U16, U32, U64, U128, Usize}
use Rattle.abi_rust.specs.declared.ty.Primitive.{Primitive as Named}
use Rattle.abi_rust.specs.declared.ty.Primitive.TheVariants.{Bool, Char, Str, Integer as NamedInteger, Float as NamedFloat}

-- how many bytes a primitive's numbers have, of which there are 1 to 16
abbrev pub scalar_width : TargetDataLayout → Primitive → ℕ
scalar_width dl value = max (min (primitive_size dl value) 16) 1

-- the primitive's greatest number
abbrev pub greatest_in : TargetDataLayout → Primitive → ℕ
greatest_in dl value = (full_range (scalar_width dl value)).end

-- the primitive with every number of its width
abbrev pub full_scalar : TargetDataLayout → Primitive → Scalar
full_scalar dl value = Initialized value (full_range (scalar_width dl value))

-- the primitive with the numbers of a range, cut to its width
abbrev pub ranged_scalar : TargetDataLayout → Primitive → (start end : ℕ) → Scalar
ranged_scalar dl value start end =
    Initialized value (record { start = min start (greatest_in dl value); end = min end (greatest_in dl value) })

-- the integer type that a name stands for
abbrev pub type_of_kind : IntegerKind → IntegerType
type_of_kind I8 = Fixed OneByte true
type_of_kind I16 = Fixed TwoBytes true
type_of_kind I32 = Fixed FourBytes true
type_of_kind I64 = Fixed EightBytes true
type_of_kind I128 = Fixed SixteenBytes true
type_of_kind Isize = AsPointer true
type_of_kind U8 = Fixed OneByte false
type_of_kind U16 = Fixed TwoBytes false
type_of_kind U32 = Fixed FourBytes false
type_of_kind U64 = Fixed EightBytes false
type_of_kind U128 = Fixed SixteenBytes false
type_of_kind Usize = AsPointer false

-- the primitive that an integer type is
abbrev pub integer_primitive : TargetDataLayout → IntegerKind → Primitive
integer_primitive dl kind = Int (integer_of_type dl (type_of_kind kind)) (is_signed_type (type_of_kind kind))

-- the tree of a primitive type with a name: none for str, which has no size
abbrev pub named_tree : TargetDataLayout → Named → Option TypeTree
named_tree dl Bool = Some (OneScalar (ranged_scalar dl (Int OneByte false) 0 1))
named_tree dl Char = Some (OneScalar (ranged_scalar dl (Int FourBytes false) 0 1114111))
named_tree dl Str = None
named_tree dl (NamedInteger kind) = Some (OneScalar (full_scalar dl (integer_primitive dl kind)))
named_tree dl (NamedFloat float) = Some (OneScalar (full_scalar dl (Float float)))

-- the primitive that a pointer is
abbrev pub pointer_primitive : TargetDataLayout → Primitive
pointer_primitive dl = Pointer dl.default_address_space

-- a pointer's address, which is null only where it may be
abbrev pub address : TargetDataLayout → (may_be_null : Truth) → Scalar
address dl true = full_scalar dl (pointer_primitive dl)
address dl false = ranged_scalar dl (pointer_primitive dl) 1 (2 ^ 128 - 1)

-- the tree of a pointer with this tail
abbrev pub pointer_tree : TargetDataLayout → Tail → (may_be_null : Truth) → TypeTree
pointer_tree dl Sized may = OneScalar (address dl may)
pointer_tree dl Length may = Pair (address dl may) (full_scalar dl (Int (index_integer dl.default_address_space_pointer_spec.pointer_offset) false))
pointer_tree dl Table may = Pair (address dl may) (address dl false)

-- the space of instructions, or the default one where the data layout doesn't know it
abbrev pub instruction_space : TargetDataLayout → AddressSpace
instruction_space dl = if is_some (known_spec dl dl.instruction_address_space) then dl.instruction_address_space else dl.default_address_space

-- the tree of a function pointer, which is never null
abbrev pub function_tree : TargetDataLayout → TypeTree
function_tree dl = OneScalar (ranged_scalar dl (Pointer (instruction_space dl)) 1 (2 ^ 128 - 1))

-- the scalar with the numbers of a range alone, as far as it has them
abbrev pub cut_scalar : TargetDataLayout → (start end : ℕ) → Scalar → Scalar
cut_scalar dl start end (Initialized value range) = ranged_scalar dl value start (min end range.end)
cut_scalar dl start end (UnionScalar value) = UnionScalar value

-- the tree with its first scalar limited to a range, where it is one scalar or two
abbrev pub limited_tree : TargetDataLayout → (start end : ℕ) → Tree → Tree
limited_tree dl start end (scalar s) = scalar (cut_scalar dl start end s)
limited_tree dl start end (pair a b) = pair (cut_scalar dl start end a) b
limited_tree dl start end t = t
