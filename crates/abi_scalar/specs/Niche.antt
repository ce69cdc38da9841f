-- Niches: places with free numbers.
use Rattle.std.specs.Prelude.{ℕ, ◌≤◌, Option, Some, None, ◌==◌, if◌then◌else◌}
use Rattle.abi_base.specs.declared.data_layout.TargetDataLayout.{TargetDataLayout}
use Rattle.abi_base.specs.Primitive.{primitive_size, KnowsPrimitive}
use Rattle.abi_scalar.specs.declared.niche.Niche.{Niche}
use Rattle.abi_scalar.specs.declared.scalar.Scalar.{Scalar}
use Rattle.abi_scalar.specs.declared.scalar.Scalar.TheVariants.{Initialized, Union}
use Rattle.abi_scalar.specs.Range.{IsFree, free_count, AreWithin}

-- how many bytes a niche has
abbrev pub niche_size : TargetDataLayout → Niche → ℕ
niche_size dl niche = primitive_size dl niche.value

-- A niche that can be asked for its numbers: its space is known, it has 1 to 16 bytes, and its range's ends fit them.
pub record IsWellFormedNiche (dl : TargetDataLayout) (niche : Niche) : Type 0 where
  pub known : KnowsPrimitive dl niche.value
  pub some : 1 ≤ niche_size dl niche
  pub most : niche_size dl niche ≤ 16
  pub within : AreWithin (niche_size dl niche) niche.valid_range

-- how many numbers a niche has free
abbrev pub available_in : TargetDataLayout → Niche → ℕ
available_in dl niche = free_count (niche_size dl niche) niche.valid_range

-- some number of the scalar's width is free; a union's scalar holds any
abbrev pub HasFreeNumber : TargetDataLayout → Scalar → Type 0
HasFreeNumber dl (Initialized value range) = (n : ℕ) × IsFree (primitive_size dl value) range n
HasFreeNumber dl (Union value) = ⊥

-- the niche of a scalar at an offset: none for a union's scalar, nor where no number is free
abbrev pub niche_at : TargetDataLayout → (offset : ℕ) → Scalar → Option Niche
niche_at dl offset (Initialized value range) =
    if free_count (primitive_size dl value) range == 0 then None else Some (record { offset = offset; value = value; valid_range = range })
niche_at dl offset (Union value) = None
