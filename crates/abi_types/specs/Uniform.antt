-- Types that are uniform: their bytes are those of registers of one kind and size, one after another, or they have none.
use Rattle.std.specs.Prelude.{◌≡◌, ℕ, zero, suc, ◌+◌, ◌<◌, ◌⊎◌, not, All, Contains, true, false, List, [], ◌∷◌, filter, length, map, max, Option, None, Some}
use Rattle.std.specs.List.{range_with_len}
use Rattle.abi_base.specs.declared.primitive.Primitive.{Primitive}
use Rattle.abi_base.specs.declared.reg_kind.RegKind.TheVariants as kind
use Rattle.abi_base.specs.RegKind.{reg_kind_of}
use Rattle.abi_scalar.specs.declared.backend_repr.BackendRepr.{BackendRepr}
use Rattle.abi_scalar.specs.declared.backend_repr.BackendRepr.TheVariants.{Scalar as OneScalar, ScalarPair, SimdVector, SimdScalableVector, Memory}
use Rattle.abi_scalar.specs.declared.fields_shape.FieldsShape.{FieldsShape}
use Rattle.abi_scalar.specs.declared.fields_shape.FieldsShape.TheVariants.{Primitive as NoFields, Union, Array, Arbitrary}
use Rattle.abi_scalar.specs.declared.variants.Variants.{Variants}
use Rattle.abi_scalar.specs.declared.variants.Variants.TheVariants.{Empty, Single, Multiple}
use Rattle.abi_scalar.specs.Scalar.{primitive_of}
use Rattle.abi_scalar.specs.Shape.{field_count, field_offset}
use Rattle.abi_types.specs.declared.reg.Reg.{Reg}
use Rattle.abi_types.specs.Ty.Typed.{Typed, typed, no_type, layout_in}
use Rattle.abi_scalar.specs.Layout.{Layout}
use Rattle.abi_types.specs.Ty.Walks.{is_1zst}

-- the greatest of some numbers, 0 where there is none
abbrev pub greatest_of : List ℕ → ℕ
greatest_of [] = 0
greatest_of (n ∷ ns) = max n (greatest_of ns)

-- the registers that occur at these places are this one, or none occurs
abbrev pub AreOne : (registers : ℕ → Option Reg) → (places : List ℕ) → Option Reg → Type 0
AreOne registers places r =
    All (λ i. (registers i ≡ None) ⊎ (registers i ≡ r)) places × ((r ≡ None) ⊎ ((i : ℕ) × Contains places i × (registers i ≡ r)))

-- parts that lie one behind another, the first at the start: they end here
abbrev pub IsChain : (offset size : ℕ → ℕ) → (start : ℕ) → (places : List ℕ) → (end : ℕ) → Type 0
IsChain offset size start [] end = end ≡ start
IsChain offset size start (i ∷ places) end = (offset i ≡ start) × IsChain offset size (start + size i) places end

-- the fields that are more than a place, in source order
abbrev pub bulky_fields : Layout → (field : ℕ → Typed) → List ℕ
bulky_fields layout field = filter (λ i. not (is_1zst (layout_in (field i)))) (range_with_len 0 (field_count layout.fields))

-- Fields run from the start to the end with this register, where each field that runs has these of its own. An empty array runs
-- nowhere, another as its element does; the fields of a union run each on its own, from the start of the whole; other fields in a chain.
abbrev pub FieldsRunBy : FieldsShape ℕ → Layout → (field : ℕ → Typed) → (own : (index : ℕ) → Option Reg → Type 0) → (start end : ℕ) → Option Reg → Type 0
FieldsRunBy NoFields layout field own start end r = ⊥
FieldsRunBy (Array stride zero) layout field own start end r = (r ≡ None) × (end ≡ start)
FieldsRunBy (Array stride (suc count)) layout field own start end r = own 0 r × (end ≡ layout.size)
FieldsRunBy (Union count) layout field own start end r =
    (registers : ℕ → Option Reg) × All (λ i. own i (registers i)) (bulky_fields layout field) × AreOne registers (bulky_fields layout field) r
    × (end ≡ max start (greatest_of (map (λ i. (layout_in (field i)).size) (bulky_fields layout field))))
FieldsRunBy (Arbitrary offsets order) layout field own start end r =
    (registers : ℕ → Option Reg) × All (λ i. own i (registers i)) (bulky_fields layout field) × AreOne registers (bulky_fields layout field) r
    × IsChain (field_offset layout.fields) (λ i. (layout_in (field i)).size) start (bulky_fields layout field) end

-- Variants run from where the shared fields end with these registers, each to an end of its own; with the register of the shared
-- fields they are this one, and the greatest end is this.
abbrev pub VariantsRunBy : (count : ℕ) → (runs : (index start end : ℕ) → Option Reg → Type 0) → (shared_end : ℕ) → (shared : Option Reg) → (end : ℕ) → Option Reg → Type 0
VariantsRunBy count runs shared_end shared end r =
    (ends : ℕ → ℕ) × (registers : ℕ → Option Reg) × ((v : ℕ) → v < count → runs v shared_end (ends v) (registers v))
    × ((shared ≡ None) ⊎ (shared ≡ r)) × All (λ v. (registers v ≡ None) ⊎ (registers v ≡ r)) (range_with_len 0 count)
    × ((r ≡ None) ⊎ (shared ≡ r) ⊎ ((v : ℕ) × (v < count) × (registers v ≡ r)))
    × (end ≡ max shared_end (greatest_of (map ends (range_with_len 0 count))))

-- the shared fields, and then the variants where a tag distinguishes several
abbrev pub AllRunBy : Variants ℕ ℕ → (fields : (end : ℕ) → Option Reg → Type 0) → (runs : (index start end : ℕ) → Option Reg → Type 0) → (end : ℕ) → Option Reg → Type 0
AllRunBy (Multiple tag encoding at layouts) fields runs end r =
    (shared_end : ℕ) × (shared : Option Reg) × fields shared_end shared × VariantsRunBy (length layouts) runs shared_end shared end r
AllRunBy (Single i) fields runs end r = fields end r
AllRunBy Empty fields runs end r = ⊥

-- the register of a scalar of so many bytes
abbrev pub scalar_register : Primitive → (size : ℕ) → Reg
scalar_register primitive size = record { kind = reg_kind_of primitive; size = size }

-- the register of a vector of so many bytes
abbrev pub lanes_register : Primitive → (size : ℕ) → Reg
lanes_register primitive size = record { kind = kind.Vector primitive; size = size }

-- a scalar and a fixed vector run with their register, a type without a known size not at all, and any other as its parts do
abbrev pub RunsBy : BackendRepr → (size : ℕ) → (parts : Option Reg → Type 0) → Option Reg → Type 0
RunsBy (OneScalar scalar) size parts r = r ≡ Some (scalar_register (primitive_of scalar) size)
RunsBy (SimdVector element count) size parts r = r ≡ Some (lanes_register (primitive_of element) size)
RunsBy (SimdScalableVector element count vectors) size parts r = ⊥
RunsBy (Memory false) size parts r = ⊥
RunsBy (Memory true) size parts r = parts r
RunsBy (ScalarPair a b b_offset) size parts r = parts r

abbrev mutual
  -- the type is uniform: it runs from its first byte to its size with this register, or with none
  pub IsUniform : Typed → Option Reg → Type 0
  IsUniform (typed layout marks field variant) r =
      RunsBy layout.backend_repr layout.size
      (AllRunBy layout.variants (FieldsRunBy layout.fields layout field (λ i. IsUniform (field i)) 0) (λ v. FieldsRun (variant v)) layout.size) r
  IsUniform no_type r = ⊥

  -- the fields of the type run from the start to the end with this register
  pub FieldsRun : Typed → (start end : ℕ) → Option Reg → Type 0
  FieldsRun (typed layout marks field variant) start end r = FieldsRunBy layout.fields layout field (λ i. IsUniform (field i)) start end r
  FieldsRun no_type start end r = ⊥
