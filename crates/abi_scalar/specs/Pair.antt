-- The layout of two scalars.
use Rattle.std.specs.Prelude.{ℕ, ◌+◌, ◌^◌, [], ◌∷◌, Option, Some, None, false, max, nat_lt, if◌then◌else◌}
use Rattle.std.specs.Int.{next_multiple_of}
use Rattle.abi_base.specs.declared.data_layout.TargetDataLayout.{TargetDataLayout}
use Rattle.abi_scalar.specs.declared.niche.Niche.{Niche}
use Rattle.abi_scalar.specs.declared.scalar.Scalar.{Scalar}
use Rattle.abi_scalar.specs.declared.backend_repr.BackendRepr.TheVariants.{ScalarPair}
use Rattle.abi_scalar.specs.declared.fields_shape.FieldsShape.TheVariants.{Arbitrary}
use Rattle.abi_scalar.specs.declared.variants.Variants.TheVariants.{Single}
use Rattle.abi_scalar.specs.declared.layout_data.LayoutData.{LayoutData}
use Rattle.abi_scalar.specs.Scalar.{scalar_size, scalar_align}
use Rattle.abi_scalar.specs.Niche.{niche_at, available_in}

-- the alignment of the pair, as an exponent of two: the greatest of both scalars' and of a list's
abbrev pub pair_align : TargetDataLayout → (a b : Scalar) → ℕ
pair_align dl a b = max (max (scalar_align dl a) (scalar_align dl b)) dl.aggregate_align

-- where the second scalar begins: the size of the first, rounded up to the second's alignment
abbrev pub second_offset : TargetDataLayout → (a b : Scalar) → ℕ
second_offset dl a b = next_multiple_of (scalar_size dl a) (2 ^ scalar_align dl b)

-- the end of the second, rounded up to the pair's alignment
abbrev pub pair_size : TargetDataLayout → (a b : Scalar) → ℕ
pair_size dl a b = next_multiple_of (second_offset dl a b + scalar_size dl b) (2 ^ pair_align dl a b)

-- the niche with more free numbers, the first where both have as many
abbrev pub larger_niche : TargetDataLayout → (first second : Option Niche) → Option Niche
larger_niche dl None second = second
larger_niche dl (Some a) None = Some a
larger_niche dl (Some a) (Some b) = if nat_lt (available_in dl a) (available_in dl b) then Some b else Some a

-- the layout of two scalars; `variant` is the first variant's index, and the others those of the two fields
abbrev pub pair_layout : {F V : Type 0} → (variant : V) → (first second : F) → TargetDataLayout → (a b : Scalar) → LayoutData F V
pair_layout variant first second dl a b = record {
  fields = Arbitrary (0 ∷ second_offset dl a b ∷ []) (first ∷ second ∷ []);
  variants = Single variant;
  backend_repr = ScalarPair a b (second_offset dl a b);
  largest_niche = larger_niche dl (niche_at dl 0 a) (niche_at dl (second_offset dl a b) b);
  uninhabited = false;
  align = record { abi = pair_align dl a b };
  size = pair_size dl a b;
  max_repr_align = None;
  unadjusted_abi_align = pair_align dl a b;
  repr_c = false;
  randomization_seed = scalar_size dl a + scalar_size dl b;
}
