-- Kinds of registers.
use Rattle.abi_base.specs.declared.primitive.Primitive.{Primitive}
use Rattle.abi_base.specs.declared.primitive.Primitive.TheVariants as primitive
use Rattle.abi_base.specs.declared.float.Float.TheVariants as float
use Rattle.abi_base.specs.declared.reg_kind.RegKind.{RegKind}
use Rattle.abi_base.specs.declared.reg_kind.RegKind.TheVariants as kind

-- the kind of register that a primitive is passed in: a pointer as an integer is
abbrev pub reg_kind_of : Primitive → RegKind
reg_kind_of (primitive.Int integer signed) = kind.Integer
reg_kind_of (primitive.Pointer space) = kind.Integer
reg_kind_of (primitive.Float float.PpcF128) = kind.PpcF128
reg_kind_of (primitive.Float _) = kind.Float
