-- Lawful layouts: what each call on layouts asks of those that it is given.
use Rattle.std.specs.Prelude.{◌≡◌, ℕ, ◌+◌, ◌^◌, ◌<◌, ◌≤◌, ◌⊎◌, IfSome, ⊤}
use Rattle.std.specs.Int.{◌∣◌}
use Rattle.abi_base.specs.declared.data_layout.TargetDataLayout.{TargetDataLayout}
use Rattle.abi_base.specs.Align.{max_exponent}
use Rattle.abi_base.specs.DataLayout.{size_bound}
use Rattle.abi_base.specs.Primitive.{IsLawfulPrimitive}
use Rattle.abi_scalar.specs.declared.scalar.Scalar.TheVariants.{Initialized}
use Rattle.abi_scalar.specs.declared.niche.Niche.{Niche}
use Rattle.abi_scalar.specs.declared.backend_repr.BackendRepr.{BackendRepr}
use Rattle.abi_scalar.specs.declared.backend_repr.BackendRepr.TheVariants.{Scalar as OneScalar, ScalarPair, SimdScalableVector, SimdVector, Memory}
use Rattle.abi_scalar.specs.declared.variants.Variants.{Variants}
use Rattle.abi_scalar.specs.declared.variants.Variants.TheVariants.{Empty, Single, Multiple}
use Rattle.abi_scalar.specs.declared.layout_data.LayoutData.{LayoutData}
use Rattle.abi_scalar.specs.Range.{IsFree, AreWithin}
use Rattle.abi_scalar.specs.Scalar.{scalar_size, IsLawfulScalar}
use Rattle.abi_scalar.specs.Niche.{niche_size}

-- A lawful niche of a type of this size: it lies inside, its pointer is lawful, its range's ends fit its bytes, and some
-- number is free.
pub record IsLawfulNiche (dl : TargetDataLayout) (size : ℕ) (niche : Niche) : Type 0 where
  pub inside : niche.offset + niche_size dl niche ≤ size
  pub pointer : IsLawfulPrimitive dl niche.value
  pub within : AreWithin (niche_size dl niche) niche.valid_range
  pub free : (n : ℕ) × IsFree (niche_size dl niche) niche.valid_range n

-- a lawful view of a type of this size: its scalars are lawful, one scalar is the whole, and of two the second begins after
-- the first and ends inside
abbrev pub IsLawfulView : TargetDataLayout → (size : ℕ) → BackendRepr → Type 0
IsLawfulView dl size (OneScalar scalar) = IsLawfulScalar dl scalar × (scalar_size dl scalar ≡ size)
IsLawfulView dl size (ScalarPair a b b_offset) =
    IsLawfulScalar dl a × IsLawfulScalar dl b × (scalar_size dl a ≤ b_offset) × (b_offset + scalar_size dl b ≤ size)
IsLawfulView dl size (SimdScalableVector element count vectors) = IsLawfulScalar dl element
IsLawfulView dl size (SimdVector element count) = IsLawfulScalar dl element
IsLawfulView dl size (Memory sized) = ⊤

-- a niche beside a view of one scalar is that scalar, beside a view of two one of them
abbrev pub IsNicheOfView : BackendRepr → Niche → Type 0
IsNicheOfView (OneScalar scalar) niche = (niche.offset ≡ 0) × (scalar ≡ Initialized niche.value niche.valid_range)
IsNicheOfView (ScalarPair a b b_offset) niche =
    ((niche.offset ≡ 0) × (a ≡ Initialized niche.value niche.valid_range))
    ⊎ ((niche.offset ≡ b_offset) × (b ≡ Initialized niche.value niche.valid_range))
IsNicheOfView _ niche = ⊤

-- the tag, if there is one, is lawful
abbrev pub HasLawfulTag : {F V : Type 0} → TargetDataLayout → Variants F V → Type 0
HasLawfulTag dl Empty = ⊤
HasLawfulTag dl (Single index) = ⊤
HasLawfulTag dl (Multiple tag encoding field variants) = IsLawfulScalar dl tag

-- A lawful layout.
pub record IsLawfulLayout {F V : Type 0} (dl : TargetDataLayout) (layout : LayoutData F V) : Type 0 where
  -- the size is a multiple of the alignment
  pub multiple : 2 ^ layout.align.abi ∣ layout.size
  -- and below the data layout's bound
  pub bound : layout.size < size_bound dl
  -- the alignment is at most 2 ^ 29 bytes
  pub limit : layout.align.abi ≤ max_exponent
  pub niche : IfSome layout.largest_niche (IsLawfulNiche dl layout.size)
  pub view : IsLawfulView dl layout.size layout.backend_repr
  pub niche_of_view : IfSome layout.largest_niche (IsNicheOfView layout.backend_repr)
  pub tag : HasLawfulTag dl layout.variants
