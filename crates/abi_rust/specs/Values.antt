-- Values, and the types that they are of.
use Rattle.std.specs.Prelude.{◌≡◌, ℕ, Bool, ℤ, Option, Some, None}
use Rattle.rust_source.specs.declared.syntax.IntegerKind.{IntegerKind}
use Rattle.abi_rust.specs.declared.int.Int.{Int}
use Rattle.abi_rust.specs.Int.{number_of_int}
use Rattle.abi_rust.specs.declared.ty.Kind.{Kind}
use Rattle.abi_rust.specs.declared.ty.Kind.TheVariants.{Bool as BoolKind, Char as CharKind, Integer as IntegerKind_of}
use Rattle.abi_rust.specs.declared.ty.ConstValue.{ConstValue}
use Rattle.abi_rust.specs.declared.ty.ConstValue.TheVariants.{Bool as BoolValue, Char as CharValue, Integer as IntegerValue}

-- a value
pub data ValueRead : Type 0 where
  truth : Bool → ValueRead
  -- a character's code
  code : ℕ → ValueRead
  -- a number of the type
  number : IntegerKind → ℤ → ValueRead

-- the program's value as the definitions see it
abbrev pub value_as_read : ConstValue → ValueRead
value_as_read (BoolValue b) = truth b
value_as_read (CharValue c) = code c
value_as_read (IntegerValue kind int) = number kind (number_of_int int)

-- a value's type, by the definitions
abbrev pub kind_read : ValueRead → Kind
kind_read (truth b) = BoolKind
kind_read (code c) = CharKind
kind_read (number kind z) = IntegerKind_of kind

-- a value's type
abbrev pub kind_of_value : ConstValue → Kind
kind_of_value (BoolValue _) = BoolKind
kind_of_value (CharValue _) = CharKind
kind_of_value (IntegerValue kind _) = IntegerKind_of kind

-- the value is of the type that is wanted, where one is
abbrev pub IsOfKind : Option Kind → ConstValue → Type 0
IsOfKind (Some kind) value = kind_of_value value ≡ kind
IsOfKind None value = Unit {0}

-- the value is the number, as one of the type
abbrev pub IsNumberOfKind : IntegerKind → Option Int → ConstValue → Type 0
IsNumberOfKind kind (Some int) value = value ≡ IntegerValue kind int
IsNumberOfKind kind None value = ⊥
