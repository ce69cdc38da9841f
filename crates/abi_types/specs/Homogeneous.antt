-- What the question answers whether a type is uniform.
use Rattle.std.specs.Prelude.{◌≡◌, ℕ, ◌⊎◌, ⊤, Option, None, Some, Result, Ok, Err}
use Rattle.abi_scalar.specs.declared.fields_shape.FieldsShape.{FieldsShape}
use Rattle.abi_scalar.specs.declared.fields_shape.FieldsShape.TheVariants.{Union}
use Rattle.abi_types.specs.declared.homogeneous.Heterogeneous.{Heterogeneous}
use Rattle.abi_types.specs.declared.homogeneous.HomogeneousAggregate.{HomogeneousAggregate}
use Rattle.abi_types.specs.declared.homogeneous.HomogeneousAggregate.TheVariants.{Homogeneous, NoData}
use Rattle.abi_types.specs.declared.reg.Reg.{Reg}
use Rattle.abi_types.specs.Ty.Typed.{Typed, layout_in, variant_in}
use Rattle.abi_types.specs.Uniform.{AllRunBy, FieldsRun}

-- the register of all that has bytes
abbrev pub register_of : HomogeneousAggregate → Option Reg
register_of (Homogeneous reg) = Some reg
register_of NoData = None

-- the answer is a register, or none, of which this holds, and an error where it holds of neither
abbrev pub Answers : Result HomogeneousAggregate Heterogeneous → (holds : Option Reg → Type 0) → Type 0
Answers (Ok found) holds = holds (register_of found)
Answers (Err e) holds = (r : Option Reg) → holds r → ⊥

-- the answer is an end beside it
abbrev pub AnswersRun : Result (HomogeneousAggregate × ℕ) Heterogeneous → (holds : (end : ℕ) → Option Reg → Type 0) → Type 0
AnswersRun (Ok found) holds = holds found.1 (register_of found.0)
AnswersRun (Err e) holds = (end : ℕ) (r : Option Reg) → holds end r → ⊥

-- two parts have this register, each where it has one
abbrev pub IsOneOf : (a b r : Option Reg) → Type 0
IsOneOf a b r = ((a ≡ None) ⊎ (a ≡ r)) × ((b ≡ None) ⊎ (b ≡ r)) × ((r ≡ None) ⊎ (a ≡ r) ⊎ (b ≡ r))

-- the fields and the variants of the type run from its first byte to the end with this register
abbrev pub AllRun : Typed → (end : ℕ) → Option Reg → Type 0
AllRun t end r = AllRunBy (layout_in t).variants (FieldsRun t 0) (λ v. FieldsRun (variant_in t v)) end r

-- fields that all lie at the start
abbrev pub IsUnionShape : FieldsShape ℕ → Type 0
IsUnionShape (Union count) = ⊤
IsUnionShape _ = ⊥
