-- What the variants of a tagged enum hold beside the tag, as a code generator sees it.
use Rattle.std.specs.Prelude.{◌≡◌, ℕ, ⊤, ◌==◌, ◌&&◌, Bool, true, false, List, [], ◌∷◌, fold, length, max, nat_lt, Option, Some, None, if◌then◌else◌}
use Rattle.abi_base.specs.declared.data_layout.TargetDataLayout.{TargetDataLayout}
use Rattle.abi_base.specs.declared.float.Float.{Float}
use Rattle.abi_base.specs.declared.float.Float.TheVariants.{F16, F16B, F32, F64, F128, PpcF128}
use Rattle.abi_base.specs.declared.primitive.Primitive.{Primitive}
use Rattle.abi_base.specs.declared.primitive.Primitive.TheVariants.{Int, Float as OneFloat, Pointer}
use Rattle.abi_base.specs.Integer.{integer_size}
use Rattle.abi_base.specs.Primitive.{primitive_align, primitive_size}
use Rattle.abi_scalar.specs.declared.backend_repr.BackendRepr.{BackendRepr}
use Rattle.abi_scalar.specs.declared.backend_repr.BackendRepr.TheVariants.{Scalar as OneScalar, ScalarPair, Memory}
use Rattle.abi_scalar.specs.declared.layout_data.LayoutData.{LayoutData}
use Rattle.abi_scalar.specs.declared.scalar.Scalar.{Scalar}
use Rattle.abi_scalar.specs.declared.scalar.Scalar.TheVariants.{Initialized, Union}
use Rattle.abi_scalar.specs.declared.variants.VariantLayout.{VariantLayout}
use Rattle.abi_scalar.specs.Range.{full_range}
use Rattle.abi_scalar.specs.Scalar.{IsLawfulScalar, primitive_of, scalar_size}
use Rattle.abi_univariant.specs.ListView.{pair_view}
use Rattle.abi_univariant.specs.Part.{is_empty_view}
use Rattle.abi_calc.specs.declared.enums.payload.Payload.{Payload}
use Rattle.abi_calc.specs.declared.enums.payload.Payload.TheVariants.{Nothing, One, Other}
use Rattle.abi_calc.specs.Enums.Single.{widened_scalar}

-- what a field with bytes is: one scalar at its offset, or something else
abbrev pub payload_of_view : TargetDataLayout → BackendRepr → (offset : ℕ) → Payload
payload_of_view dl (OneScalar scalar) offset = One (widened_scalar dl scalar) offset
payload_of_view dl _ offset = Other

-- what a field is: nothing where it has no bytes
abbrev pub payload_of_field : {F V : Type 0} → TargetDataLayout → LayoutData F V → (offset : ℕ) → Payload
payload_of_field dl field offset =
    if is_empty_view field.backend_repr field.size then Nothing else payload_of_view dl field.backend_repr offset

-- two of them in one variant
abbrev pub payload_of_two : Payload → Payload → Payload
payload_of_two Nothing p = p
payload_of_two (One scalar offset) Nothing = One scalar offset
payload_of_two (One scalar offset) (One scalar' offset') = Other
payload_of_two (One scalar offset) Other = Other
payload_of_two Other p = Other

-- what a variant's fields are together, at these offsets
abbrev pub payload_of : {F V : Type 0} → TargetDataLayout → List (LayoutData F V) → (offsets : List ℕ) → Payload
payload_of dl (field ∷ fields) (offset ∷ offsets) = payload_of_two (payload_of_field dl field offset) (payload_of dl fields offsets)
payload_of dl _ _ = Nothing

-- equally large and equally aligned
abbrev pub has_same_place : TargetDataLayout → Primitive → Primitive → Bool
has_same_place dl a b = (primitive_size dl a == primitive_size dl b) && (primitive_align dl a == primitive_align dl b)

-- the same format of floats
abbrev pub is_same_float : Float → Float → Bool
is_same_float F16 F16 = true
is_same_float F16B F16B = true
is_same_float F32 F32 = true
is_same_float F64 F64 = true
is_same_float F128 F128 = true
is_same_float PpcF128 PpcF128 = true
is_same_float _ _ = false

-- the primitive that two variants share: the same one; for integers of one size that of the first; for a pointer beside an
-- integer of its size and alignment the pointer
abbrev pub shared_primitive : TargetDataLayout → Primitive → Primitive → Option Primitive
shared_primitive dl (Int a signed) (Int b signed') = if integer_size a == integer_size b then Some (Int a signed) else None
shared_primitive dl (OneFloat a) (OneFloat b) = if is_same_float a b then Some (OneFloat a) else None
shared_primitive dl (Pointer a) (Pointer b) = if a.0 == b.0 then Some (Pointer a) else None
shared_primitive dl (Pointer a) (Int b signed) = if has_same_place dl (Pointer a) (Int b signed) then Some (Pointer a) else None
shared_primitive dl (Int a signed) (Pointer b) = if has_same_place dl (Int a signed) (Pointer b) then Some (Pointer b) else None
shared_primitive dl _ _ = None

-- every number of the primitive's width, or any bytes where not each variant has a number there
abbrev pub scalar_of : TargetDataLayout → (initialized : Bool) → Primitive → Scalar
scalar_of dl true value = Initialized value (full_range (primitive_size dl value))
scalar_of dl false value = Union value

-- the scalar may not be left without a number
abbrev pub is_initialized : Scalar → Bool
is_initialized (Initialized value range) = true
is_initialized (Union value) = false

-- at one offset, that of a primitive
abbrev pub payload_at : TargetDataLayout → (initialized : Bool) → (offset : ℕ) → Option Primitive → Payload
payload_at dl initialized offset (Some value) = One (scalar_of dl initialized value) offset
payload_at dl initialized offset None = Other

-- what two variants have in common; where one has nothing, the other's scalar may be left without a number
abbrev pub common_payload : TargetDataLayout → Payload → Payload → Payload
common_payload dl Nothing Nothing = Nothing
common_payload dl Nothing (One scalar offset) = One (Union (primitive_of scalar)) offset
common_payload dl (One scalar offset) Nothing = One (Union (primitive_of scalar)) offset
common_payload dl (One a offset) (One b offset') =
    if offset == offset'
    then payload_at dl (is_initialized a && is_initialized b) offset (shared_primitive dl (primitive_of a) (primitive_of b))
    else Other
common_payload dl _ _ = Other

-- what all variants have in common
abbrev pub common_of : TargetDataLayout → List Payload → Payload
common_of dl [] = Nothing
common_of dl (p ∷ ps) = fold (common_payload dl) p ps

-- the tag and one scalar beside it, where a pair of them lies as they do
abbrev pub beside_tag : TargetDataLayout → (tag : Scalar) → (size align : ℕ) → Payload → BackendRepr
beside_tag dl tag size align (One scalar offset) = pair_view dl size align 0 tag offset scalar
beside_tag dl tag size align _ = Memory true

-- how a code generator sees a tagged enum: as the tag where that is all, else as the tag and what the variants have in common
abbrev pub tagged_view : TargetDataLayout → (tag : Scalar) → (size align : ℕ) → List Payload → BackendRepr
tagged_view dl tag size align payloads =
    if scalar_size dl tag == size then OneScalar tag else beside_tag dl tag size align (common_of dl payloads)

-- one scalar or two
abbrev pub is_of_scalars : BackendRepr → Bool
is_of_scalars (OneScalar scalar) = true
is_of_scalars (ScalarPair a b b_offset) = true
is_of_scalars _ = false

-- bytes in memory
abbrev pub is_memory : BackendRepr → Bool
is_memory (Memory sized) = true
is_memory _ = false

-- a variant with fields that is seen as bytes takes a view of scalars over from its enum, and at least the enum's size
abbrev pub variant_with_view : {F : Type 0} → (view : BackendRepr) → (size : ℕ) → VariantLayout F → VariantLayout F
variant_with_view view size variant =
    if is_of_scalars view && is_memory variant.backend_repr && nat_lt 0 (length variant.field_offsets)
    then record variant { backend_repr = view; size = max variant.size size }
    else variant

-- a payload's scalar is lawful
abbrev pub IsWellFormedPayload : TargetDataLayout → Payload → Type 0
IsWellFormedPayload dl (One scalar offset) = IsLawfulScalar dl scalar
IsWellFormedPayload dl _ = ⊤

-- a scalar that holds any number of its width, or any bytes
abbrev pub IsWide : TargetDataLayout → Scalar → Type 0
IsWide dl (Initialized value range) = range ≡ full_range (primitive_size dl value)
IsWide dl (Union value) = ⊤

-- a view of scalars begins with the tag: one scalar is the tag, and of two the first is the tag and the second holds anything
abbrev pub BeginsWithTag : TargetDataLayout → (tag : Scalar) → BackendRepr → Type 0
BeginsWithTag dl tag (OneScalar scalar) = scalar ≡ tag
BeginsWithTag dl tag (ScalarPair a b b_offset) = (a ≡ tag) × IsWide dl b
BeginsWithTag dl tag (Memory sized) = ⊤
BeginsWithTag dl tag _ = ⊥
