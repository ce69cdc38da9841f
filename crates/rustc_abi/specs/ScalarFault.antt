-- Why a scalar has no layout.
use Rattle.std.specs.Prelude.{◌%◌, ◌^◌, ◌==◌, ◌&&◌, Bool, true, false, nat_le, nat_lt, Option, Some, None, if◌then◌else◌}
use Rattle.abi_base.specs.declared.data_layout.TargetDataLayout.{TargetDataLayout}
use Rattle.abi_base.specs.declared.pointer_spec.PointerSpec.{PointerSpec}
use Rattle.abi_base.specs.declared.primitive.Primitive.{Primitive}
use Rattle.abi_base.specs.declared.primitive.Primitive.TheVariants.{Int, Float, Pointer}
use Rattle.abi_base.specs.DataLayout.{known_spec}
use Rattle.abi_base.specs.Primitive.{primitive_size}
use Rattle.abi_scalar.specs.declared.scalar.Scalar.{Scalar}
use Rattle.abi_scalar.specs.declared.scalar.Scalar.TheVariants.{Initialized, Union}
use Rattle.abi_scalar.specs.Range.{numbers_of}
use Rattle.abi_scalar.specs.Scalar.{primitive_of}
use Rattle.rustc_abi.specs.declared.error.LayError.{LayError}
use Rattle.rustc_abi.specs.declared.error.LayError.TheVariants.{UnknownSpace, BadRange}

-- pointers of 1 to 16 bytes, a multiple of their alignment
abbrev pub is_lawful_spec : Option PointerSpec → Bool
is_lawful_spec None = false
is_lawful_spec (Some spec) =
    nat_le 1 spec.pointer_size && (nat_le spec.pointer_size 16 && spec.pointer_size % 2 ^ spec.pointer_align == 0)

-- no pointer, or one into a space that the data layout knows, with lawful pointers
abbrev pub is_lawful_primitive : TargetDataLayout → Primitive → Bool
is_lawful_primitive dl (Int integer signed) = true
is_lawful_primitive dl (Float float) = true
is_lawful_primitive dl (Pointer space) = is_lawful_spec (known_spec dl space)

-- both ends of its range, if it has one, are numbers of its width
abbrev pub has_range_within : TargetDataLayout → Scalar → Bool
has_range_within dl (Initialized value range) =
    nat_lt range.start (numbers_of (primitive_size dl value)) && nat_lt range.end (numbers_of (primitive_size dl value))
has_range_within dl (Union value) = true

-- a scalar's fault: its pointer before its range
abbrev pub scalar_fault : TargetDataLayout → Scalar → Option LayError
scalar_fault dl s =
    if is_lawful_primitive dl (primitive_of s)
    then (if has_range_within dl s then None else Some BadRange)
    else Some UnknownSpace
