-- Primitive types.
use Rattle.std.specs.Prelude.{ℕ, ⊤, ◌==◌, List, ◌++◌, codes, if◌then◌else◌}
use Rattle.std.specs.Fmt.{decimal}
use Rattle.abi_base.specs.declared.primitive.Primitive.{Primitive}
use Rattle.abi_base.specs.declared.primitive.Primitive.TheVariants.{Int, Float, Pointer}
use Rattle.abi_base.specs.declared.data_layout.TargetDataLayout.{TargetDataLayout}
use Rattle.abi_base.specs.Integer.{integer_size, integer_align, integer_text}
use Rattle.abi_base.specs.Float.{float_size, float_align, float_text}
use Rattle.abi_base.specs.DataLayout.{Knows, HasLawfulPointer, pointer_spec_of}

-- how many bytes a primitive has
abbrev pub primitive_size : TargetDataLayout → Primitive → ℕ
primitive_size dl (Int integer signed) = integer_size integer
primitive_size dl (Float float) = float_size float
primitive_size dl (Pointer space) = (pointer_spec_of dl space).pointer_size

-- its alignment, as an exponent of two
abbrev pub primitive_align : TargetDataLayout → Primitive → ℕ
primitive_align dl (Int integer signed) = integer_align dl integer
primitive_align dl (Float float) = float_align dl float
primitive_align dl (Pointer space) = (pointer_spec_of dl space).pointer_align

-- a pointer's space is known
abbrev pub KnowsPrimitive : TargetDataLayout → Primitive → Type 0
KnowsPrimitive dl (Pointer space) = Knows dl space
KnowsPrimitive dl _ = ⊤

-- a pointer is lawful
abbrev pub IsLawfulPrimitive : TargetDataLayout → Primitive → Type 0
IsLawfulPrimitive dl (Pointer space) = HasLawfulPointer dl space
IsLawfulPrimitive dl _ = ⊤

-- its name; a pointer's says the space where that is not 0
abbrev pub primitive_text : Primitive → List ℕ
primitive_text (Int integer signed) = integer_text integer signed
primitive_text (Float float) = float_text float
primitive_text (Pointer space) = if space.0 == 0 then codes "pointer" else codes "pointer(AddressSpace(" ++ decimal space.0 ++ codes "))"
