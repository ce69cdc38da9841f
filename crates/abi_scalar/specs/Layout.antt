-- What a layout says.
use Rattle.std.specs.Prelude.{◌≡◌, ◌≢◌, ◌↔◌, ℕ, ⊤, ◌⊎◌, Bool, true, Option, Some, None, slice_get, MatchOption, IsTrue}
use Rattle.abi_scalar.specs.declared.backend_repr.BackendRepr.{BackendRepr}
use Rattle.abi_scalar.specs.declared.backend_repr.BackendRepr.TheVariants.{SimdScalableVector, Memory}
use Rattle.abi_scalar.specs.declared.layout_data.LayoutData.{LayoutData}
use Rattle.abi_scalar.specs.declared.lane_count.BackendLaneCount.{BackendLaneCount}
use Rattle.abi_scalar.specs.declared.variants.Variants.{Variants}
use Rattle.abi_scalar.specs.declared.variants.Variants.TheVariants.{Empty, Single, Multiple}
use Rattle.abi_scalar.specs.View.{IsSizedView, IsBoolView, IsSameUpToValidity}

-- a layout, with fields and variants named by their numbers
abbrev pub Layout : Type 0
Layout = LayoutData ℕ ℕ

-- sized bytes in memory, and none of them
abbrev pub IsZst : {F V : Type 0} → LayoutData F V → Type 0
IsZst layout = (layout.backend_repr ≡ Memory true) × (layout.size ≡ 0)

-- sized, of no bytes, aligned to one
abbrev pub Is1zst : {F V : Type 0} → LayoutData F V → Type 0
Is1zst layout = IsSizedView layout.backend_repr × (layout.size ≡ 0) × (layout.align.abi ≡ 0)

-- the lanes of vectors whose length the machine decides
abbrev pub scalable_lanes : BackendRepr → Option BackendLaneCount
scalable_lanes (SimdScalableVector element count vectors) = Some count
scalable_lanes _ = None

-- the view is no bytes in memory, or none at all of a known size
abbrev pub StandsAloneAs : BackendRepr → (size : ℕ) → Type 0
StandsAloneAs (Memory sized) size = IsTrue sized × (size ≡ 0)
StandsAloneAs _ size = ⊤

-- a value is one or two scalars or vectors, or nothing
abbrev pub StandsAlone : {F V : Type 0} → LayoutData F V → Type 0
StandsAlone layout = StandsAloneAs layout.backend_repr layout.size

-- among these variants, of a type that is so marked
abbrev pub IsUninhabitedAmong : {F V : Type 0} → (number : V → ℕ) → Variants F V → (marked : Bool) → (place : ℕ) → Type 0
IsUninhabitedAmong number Empty marked place = ⊤
IsUninhabitedAmong number (Single index) marked place = (place ≢ number index) ⊎ IsTrue marked
IsUninhabitedAmong number (Multiple tag encoding field variants) marked place =
    MatchOption (slice_get variants place) ⊤ (λ variant. IsTrue variant.uninhabited)

-- the variant has no value: it is not the only one, or is marked as such; or there is no variant of its index
abbrev pub IsVariantUninhabited : {F V : Type 0} → (number : V → ℕ) → LayoutData F V → (place : ℕ) → Type 0
IsVariantUninhabited number layout place = IsUninhabitedAmong number layout.variants layout.uninhabited place

-- the two layouts are passed in the same way
pub record HasSameAbi {F V : Type 0} (layout other : LayoutData F V) : Type 0 where
  pub size : layout.size ≡ other.size
  pub align : layout.align.abi ≡ other.align.abi
  pub view : IsSameUpToValidity layout.backend_repr other.backend_repr
  pub bool : IsBoolView layout.backend_repr ↔ IsBoolView other.backend_repr
