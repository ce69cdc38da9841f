-- What the layout of a list asks of its fields.
use Rattle.std.specs.Prelude.{ℕ, ◌-◌, ◌+◌, ◌==◌, ◌&&◌, Bool, true, false, List, map, Option}
use Rattle.std.specs.Option.{option_map_or}
use Rattle.abi_base.specs.declared.data_layout.TargetDataLayout.{TargetDataLayout}
use Rattle.abi_scalar.specs.declared.backend_repr.BackendRepr.{BackendRepr}
use Rattle.abi_scalar.specs.declared.backend_repr.BackendRepr.TheVariants.{Memory}
use Rattle.abi_scalar.specs.declared.layout_data.LayoutData.{LayoutData}
use Rattle.abi_scalar.specs.declared.niche.Niche.{Niche}
use Rattle.abi_scalar.specs.Niche.{available_in, niche_size}
use Rattle.abi_univariant.specs.declared.part.Part.{Part}

-- the greatest alignment is 2 ^ 29 bytes
abbrev pub max_align : ℕ
max_align = 29

-- the size isn't known beforehand
abbrev pub is_unsized : BackendRepr → Bool
is_unsized (Memory false) = true
is_unsized _ = false

-- sized bytes in memory, and none of them
abbrev pub is_empty_view : BackendRepr → (size : ℕ) → Bool
is_empty_view (Memory sized) size = sized && (size == 0)
is_empty_view _ size = false

-- how many numbers a niche has free, 0 where there is none
abbrev pub free_numbers : TargetDataLayout → Option Niche → ℕ
free_numbers dl niche = option_map_or (λ n. available_in dl n) niche 0

-- how many bytes follow the niche in a type of this size, 0 where there is none
abbrev pub space_after : TargetDataLayout → (size : ℕ) → Option Niche → ℕ
space_after dl size niche = option_map_or (λ n. size - (n.offset + niche_size dl n)) niche 0

-- what a list asks of a field with this layout
abbrev pub part_of : {F V : Type 0} → TargetDataLayout → LayoutData F V → Part
part_of dl layout = record {
  size = layout.size;
  align = layout.align.abi;
  unadjusted_align = layout.unadjusted_abi_align;
  view = layout.backend_repr;
  largest_niche = layout.largest_niche;
  free = free_numbers dl layout.largest_niche;
  after = space_after dl layout.size layout.largest_niche;
}

-- what a list asks of each of these fields
abbrev pub parts_of : {F V : Type 0} → TargetDataLayout → List (LayoutData F V) → List Part
parts_of dl fields = map (λ f. part_of dl f) fields
