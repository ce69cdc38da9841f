-- Integer types as attributes name them.
use Rattle.std.specs.Prelude.{⊤, Bool}
use Rattle.abi_base.specs.declared.integer.Integer.{Integer}
use Rattle.abi_base.specs.declared.integer.IntegerType.{IntegerType}
use Rattle.abi_base.specs.declared.integer.IntegerType.TheVariants.{Pointer, Fixed}
use Rattle.abi_base.specs.declared.data_layout.TargetDataLayout.{TargetDataLayout}
use Rattle.abi_base.specs.DataLayout.{IsPointerWidth, index_integer}

-- whether it is signed
abbrev pub is_signed_type : IntegerType → Bool
is_signed_type (Pointer signed) = signed
is_signed_type (Fixed integer signed) = signed

-- the integer that it is, under a data layout
abbrev pub integer_of_type : TargetDataLayout → IntegerType → Integer
integer_of_type dl (Pointer signed) = index_integer dl.default_address_space_pointer_spec.pointer_offset
integer_of_type dl (Fixed integer signed) = integer

-- where it is as wide as an index, that is 16, 32 or 64 bits
abbrev pub KnowsIndex : TargetDataLayout → IntegerType → Type 0
KnowsIndex dl (Pointer signed) = IsPointerWidth dl.default_address_space_pointer_spec.pointer_offset
KnowsIndex dl (Fixed integer signed) = ⊤
