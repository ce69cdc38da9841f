-- How the list of one variant's fields is seen as a type.
use Rattle.std.specs.Prelude.{◌≡◌, List, Option, IfSome, None}
use Rattle.abi_base.specs.declared.data_layout.TargetDataLayout.{TargetDataLayout}
use Rattle.abi_base.specs.declared.niche_optimizations.NicheOptimizations.{NicheOptimizations}
use Rattle.abi_base.specs.declared.niche_optimizations.NicheOptimizations.TheVariants.{Enabled, Disabled}
use Rattle.abi_base.specs.declared.struct_kind.StructKind.{StructKind}
use Rattle.abi_scalar.specs.declared.backend_repr.BackendRepr.{BackendRepr}
use Rattle.abi_scalar.specs.declared.layout_data.LayoutData.{LayoutData}
use Rattle.abi_scalar.specs.declared.niche.Niche.{Niche}
use Rattle.abi_scalar.specs.declared.repr.ReprOptions.{ReprOptions}
use Rattle.abi_scalar.specs.declared.variants.Variants.TheVariants.{Single}
use Rattle.abi_scalar.specs.Repr.{is_abi_fixed}
use Rattle.abi_scalar.specs.Shape.{listed_offsets}
use Rattle.abi_univariant.specs.ListNiche.{HasLargestNiche, IsNicheOfPart}
use Rattle.abi_univariant.specs.ListView.{list_view}
use Rattle.abi_univariant.specs.Part.{parts_of}
use Rattle.abi_calc.specs.Enums.Single.{allowed_view}
use Rattle.abi_calc.specs.Marks.{HasListMarks}

-- the view of these fields as one list, of the layout's size and alignment, at its offsets
abbrev pub view_of_fields : {F V : Type 0} → TargetDataLayout → ReprOptions → List (LayoutData F V) → LayoutData F V → BackendRepr
view_of_fields dl repr fields layout =
    list_view dl (is_abi_fixed repr) layout.size layout.align.abi (parts_of dl fields) (listed_offsets layout.fields)

-- where niches may be used, the niche is the largest; else there is none
abbrev pub HasAllowedNiche : {F V : Type 0} → TargetDataLayout → NicheOptimizations → Option Niche → List (LayoutData F V) → Type 0
HasAllowedNiche dl Enabled niche fields = HasLargestNiche dl niche fields
HasAllowedNiche dl Disabled niche fields = niche ≡ None

-- A type of these fields alone is seen as their list is: it has one variant, of this index, the list's view and marks, and the
-- niche of a field, at the field's offset plus its own, than which no field's has more free numbers. Where niches may not be
-- used it has none, and its view holds every number.
pub record HasViewOfFields {F V : Type 0} (index : V) (dl : TargetDataLayout) (repr : ReprOptions) (kind : StructKind) (optimizations : NicheOptimizations) (fields : List (LayoutData F V)) (layout : LayoutData F V) : Type 0 where
  pub variants : layout.variants ≡ Single index
  pub view : layout.backend_repr ≡ allowed_view dl optimizations (view_of_fields dl repr fields layout)
  pub niche : IfSome layout.largest_niche (IsNicheOfPart (listed_offsets layout.fields) fields)
  pub largest : HasAllowedNiche dl optimizations layout.largest_niche fields
  pub marks : HasListMarks dl repr kind fields layout
