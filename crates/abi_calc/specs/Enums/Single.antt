-- The layout of a type that is the list of one variant's fields.
use Rattle.std.specs.Prelude.{◌≡◌, ℕ, ⊤, ◌==◌, ◌||◌, Bool, List, Option, None, Result, Ok, Err, if◌then◌else◌}
use Rattle.abi_base.specs.declared.data_layout.TargetDataLayout.{TargetDataLayout}
use Rattle.abi_base.specs.declared.niche_optimizations.NicheOptimizations.{NicheOptimizations}
use Rattle.abi_base.specs.declared.niche_optimizations.NicheOptimizations.TheVariants.{Enabled, Disabled}
use Rattle.abi_base.specs.declared.struct_kind.StructKind.{StructKind}
use Rattle.abi_base.specs.declared.struct_kind.StructKind.TheVariants.{AlwaysSized, MaybeUnsized}
use Rattle.abi_base.specs.Primitive.{primitive_size}
use Rattle.abi_scalar.specs.declared.backend_repr.BackendRepr.{BackendRepr}
use Rattle.abi_scalar.specs.declared.backend_repr.BackendRepr.TheVariants.{Scalar as OneScalar, ScalarPair, SimdScalableVector, SimdVector, Memory}
use Rattle.abi_scalar.specs.declared.error.LayoutCalculatorError.{LayoutCalculatorError}
use Rattle.abi_scalar.specs.declared.layout_data.LayoutData.{LayoutData}
use Rattle.abi_scalar.specs.declared.niche.Niche.{Niche}
use Rattle.abi_scalar.specs.declared.repr.ReprOptions.{ReprOptions}
use Rattle.abi_scalar.specs.declared.scalar.Scalar.{Scalar}
use Rattle.abi_scalar.specs.declared.scalar.Scalar.TheVariants.{Initialized, Union}
use Rattle.abi_scalar.specs.declared.variants.Variants.TheVariants.{Single}
use Rattle.abi_scalar.specs.Range.{full_range}
use Rattle.abi_scalar.specs.Scalar.{IsLawfulScalar}
use Rattle.abi_univariant.specs.List.{IsUnivariantAnswer}

-- an enum's list is always sized; a struct's may lose its size where it has fields and isn't said to be sized
abbrev pub single_kind : (is_enum always_sized : Bool) → (count : ℕ) → StructKind
single_kind is_enum always_sized count = if is_enum || always_sized || (count == 0) then AlwaysSized else MaybeUnsized

-- the scalar, holding every number of its width; a union's scalar stays one
abbrev pub widened_scalar : TargetDataLayout → Scalar → Scalar
widened_scalar dl (Initialized value range) = Initialized value (full_range (primitive_size dl value))
widened_scalar dl (Union value) = Union value

-- the scalars of the view are lawful
abbrev pub HasWellFormedScalars : TargetDataLayout → BackendRepr → Type 0
HasWellFormedScalars dl (OneScalar scalar) = IsLawfulScalar dl scalar
HasWellFormedScalars dl (ScalarPair a b b_offset) = IsLawfulScalar dl a × IsLawfulScalar dl b
HasWellFormedScalars dl (SimdVector element count) = IsLawfulScalar dl element
HasWellFormedScalars dl (SimdScalableVector element count vectors) = IsLawfulScalar dl element
HasWellFormedScalars dl (Memory sized) = ⊤

-- the view without free numbers
abbrev pub widened_view : TargetDataLayout → BackendRepr → BackendRepr
widened_view dl (OneScalar scalar) = OneScalar (widened_scalar dl scalar)
widened_view dl (ScalarPair a b b_offset) = ScalarPair (widened_scalar dl a) (widened_scalar dl b) b_offset
widened_view dl (SimdVector element count) = SimdVector (widened_scalar dl element) count
widened_view dl (SimdScalableVector element count vectors) = SimdScalableVector (widened_scalar dl element) count vectors
widened_view dl (Memory sized) = Memory sized

-- where niches may not be used, the type has none
abbrev pub allowed_view : TargetDataLayout → NicheOptimizations → BackendRepr → BackendRepr
allowed_view dl Enabled view = view
allowed_view dl Disabled view = widened_view dl view

-- the niche, where niches may be used
abbrev pub allowed_niche : NicheOptimizations → Option Niche → Option Niche
allowed_niche Enabled niche = niche
allowed_niche Disabled niche = None

-- the list's layout as that of a type whose one variant has this index
abbrev pub single_layout : {F V : Type 0} → (index : V) → TargetDataLayout → NicheOptimizations → LayoutData F V → LayoutData F V
single_layout index dl optimizations list = record list {
  variants = Single index;
  backend_repr = allowed_view dl optimizations list.backend_repr;
  largest_niche = allowed_niche optimizations list.largest_niche;
}

-- the answer to a type that is the list of one variant's fields, memory aside
abbrev pub IsSingleAnswer : {F V H : Type 0} → (layout_of : H → LayoutData F V) → (at : ℕ → F) → (first index : V) → TargetDataLayout → ReprOptions → StructKind → NicheOptimizations
    → List H → Result (LayoutData F V) (LayoutCalculatorError H) → Type 0
IsSingleAnswer layout_of at first index dl repr kind optimizations fields (Ok layout) =
    (list : LayoutData _ _) × IsUnivariantAnswer layout_of at first dl repr kind fields (Ok list) × (layout ≡ single_layout index dl optimizations list)
IsSingleAnswer layout_of at first index dl repr kind optimizations fields (Err error) = IsUnivariantAnswer layout_of at first dl repr kind fields (Err error)
