-- A list's layout stays lawful as that of a type with one variant.
use Rattle.std.proofs.Common.{◌≡◌, ℕ, ◌*◌, ◌^◌, ◌<◌, refl, ◌∙◌, arith}
use Rattle.std.proofs.lemmas.Nat.{pow_pos}
use Rattle.abi_base.specs.declared.data_layout.TargetDataLayout.{TargetDataLayout}
use Rattle.abi_base.specs.declared.niche_optimizations.NicheOptimizations.{NicheOptimizations}
use Rattle.abi_base.specs.declared.niche_optimizations.NicheOptimizations.TheVariants.{Enabled, Disabled}
use Rattle.abi_base.specs.Primitive.{primitive_size}
use Rattle.abi_scalar.specs.declared.backend_repr.BackendRepr.{BackendRepr}
use Rattle.abi_scalar.specs.declared.backend_repr.BackendRepr.TheVariants.{Scalar as OneScalar, ScalarPair, SimdScalableVector, SimdVector, Memory}
use Rattle.abi_scalar.specs.declared.layout_data.LayoutData.{LayoutData}
use Rattle.abi_scalar.specs.declared.scalar.Scalar.{Scalar}
use Rattle.abi_scalar.specs.declared.scalar.Scalar.TheVariants.{Initialized, Union}
use Rattle.abi_scalar.specs.Lawful.{IsLawfulLayout, IsLawfulView}
use Rattle.abi_scalar.specs.Scalar.{IsLawfulScalar, scalar_size}
use Rattle.abi_calc.specs.Enums.Single.{HasWellFormedScalars, single_layout, widened_scalar, widened_view}

-- a scalar that holds every number is as lawful as one that holds some
pub widened_lawful : (dl : TargetDataLayout) (scalar : Scalar) → IsLawfulScalar dl scalar → IsLawfulScalar dl (widened_scalar dl scalar)
widened_lawful dl (Initialized value range) h =
    let some : 0 < 2 ^ (8 * primitive_size dl value) = pow_pos (8 * primitive_size dl value) in
    record { pointer = h.pointer; within = (some, omega arith) }
widened_lawful dl (Union value) h = h

-- and it is as large
widened_size : (dl : TargetDataLayout) (scalar : Scalar) → scalar_size dl (widened_scalar dl scalar) ≡ scalar_size dl scalar
widened_size dl (Initialized value range) = refl
widened_size dl (Union value) = refl

-- a view without free numbers is lawful where it was
widened_view_lawful : (dl : TargetDataLayout) (size : ℕ) (view : BackendRepr) → IsLawfulView dl size view → IsLawfulView dl size (widened_view dl view)
widened_view_lawful dl size (OneScalar s) h = (widened_lawful dl s h.0, widened_size dl s ∙ h.1)
widened_view_lawful dl size (ScalarPair a b o) h =
    let first = widened_size dl a in
    let second = widened_size dl b in
    (widened_lawful dl a h.0, widened_lawful dl b h.1, omega (arith, h.2), omega (arith, h.3))
widened_view_lawful dl size (SimdVector e n) h = widened_lawful dl e h
widened_view_lawful dl size (SimdScalableVector e n w) h = widened_lawful dl e h
widened_view_lawful dl size (Memory sized) h = tt

-- the scalars of a lawful view are lawful
pub scalars_lawful : (dl : TargetDataLayout) (size : ℕ) (view : BackendRepr) → IsLawfulView dl size view → HasWellFormedScalars dl view
scalars_lawful dl size (OneScalar s) h = h.0
scalars_lawful dl size (ScalarPair a b o) h = (h.0, h.1)
scalars_lawful dl size (SimdVector e n) h = h
scalars_lawful dl size (SimdScalableVector e n w) h = h
scalars_lawful dl size (Memory sized) h = tt

-- the layout of a type with one variant is lawful where the list's is
pub single_lawful : {F V : Type 0} (index : V) (dl : TargetDataLayout) (optimizations : NicheOptimizations) (list : LayoutData F V) → IsLawfulLayout dl list
    → IsLawfulLayout dl (single_layout index dl optimizations list)
single_lawful index dl Enabled list h = record {
  multiple = h.multiple;
  bound = h.bound;
  limit = h.limit;
  niche = h.niche;
  view = h.view;
  niche_of_view = h.niche_of_view;
  tag = tt;
}
single_lawful index dl Disabled list h = record {
  multiple = h.multiple;
  bound = h.bound;
  limit = h.limit;
  niche = tt;
  view = widened_view_lawful dl list.size list.backend_repr h.view;
  niche_of_view = tt;
  tag = tt;
}
