-- Registers that a value is passed in.
use Rattle.std.specs.Prelude.{◌≡◌, ℕ, ⊤, ◌==◌, ◌^◌, ◌≤◌, ◌⊎◌, true, List, [], ◌∷◌, None, nat_le, unwrap_or}
use Rattle.std.specs.List.{find}
use Rattle.abi_base.specs.declared.data_layout.TargetDataLayout.{TargetDataLayout}
use Rattle.abi_base.specs.declared.integer.Integer.{Integer}
use Rattle.abi_base.specs.declared.integer.Integer.TheVariants.{I8, I128}
use Rattle.abi_base.specs.declared.float.Float.{Float}
use Rattle.abi_base.specs.declared.float.Float.TheVariants.{F16, F32, F64, F128}
use Rattle.abi_base.specs.declared.primitive.Primitive.TheVariants.{Int}
use Rattle.abi_base.specs.declared.reg_kind.RegKind.{RegKind}
use Rattle.abi_base.specs.declared.reg_kind.RegKind.TheVariants as kind
use Rattle.abi_base.specs.Integer.{integers, integer_size, integer_align}
use Rattle.abi_base.specs.Float.{float_size, float_align}
use Rattle.abi_base.specs.DataLayout.{listed_align, vector_align_of}
use Rattle.abi_types.specs.declared.reg.Reg.{Reg}

-- an integer of so many bytes
abbrev pub integer_reg : ℕ → Reg
integer_reg bytes = record { kind = kind.Integer; size = bytes }

-- a float of so many bytes
abbrev pub float_reg : ℕ → Reg
float_reg bytes = record { kind = kind.Float; size = bytes }

-- a vector of so many bytes, its lanes taken for signed bytes
abbrev pub vector_reg : ℕ → Reg
vector_reg bytes = record { kind = kind.Vector (Int I8 true); size = bytes }

-- the least integer that has room for so many bytes
abbrev pub integer_with_room : ℕ → Integer
integer_with_room bytes = unwrap_or (find (λ i. nat_le bytes (integer_size i)) integers) I128

-- a float may have so many bytes
abbrev pub IsFloatSize : ℕ → Type 0
IsFloatSize bytes = (bytes ≡ 2) ⊎ (bytes ≡ 4) ⊎ (bytes ≡ 8) ⊎ (bytes ≡ 16)

-- IEEE 754's interchange formats, the least first
abbrev pub plain_floats : List Float
plain_floats = F16 ∷ F32 ∷ F64 ∷ F128 ∷ []

-- the one of so many bytes
abbrev pub plain_float : ℕ → Float
plain_float bytes = unwrap_or (find (λ f. float_size f == bytes) plain_floats) F128

-- a register of the kind and so many bytes has an alignment
abbrev pub HasAlignAs : TargetDataLayout → RegKind → ℕ → Type 0
HasAlignAs dl kind.Integer bytes = (1 ≤ bytes) × (bytes ≤ 16)
HasAlignAs dl kind.Float bytes = IsFloatSize bytes
HasAlignAs dl kind.PpcF128 bytes = ⊤
HasAlignAs dl (kind.Vector lane) bytes = listed_align dl.vector_align bytes ≡ None → bytes ≤ 2 ^ 29

-- the register has an alignment
abbrev pub HasAlign : TargetDataLayout → Reg → Type 0
HasAlign dl reg = HasAlignAs dl reg.kind reg.size

-- the alignment of a register of the kind and so many bytes, as an exponent of two
abbrev pub align_as : TargetDataLayout → RegKind → ℕ → ℕ
align_as dl kind.Integer bytes = integer_align dl (integer_with_room bytes)
align_as dl kind.Float bytes = float_align dl (plain_float bytes)
align_as dl kind.PpcF128 bytes = dl.f128_align
align_as dl (kind.Vector lane) bytes = vector_align_of dl bytes

-- the alignment of a register
abbrev pub reg_align : TargetDataLayout → Reg → ℕ
reg_align dl reg = align_as dl reg.kind reg.size
