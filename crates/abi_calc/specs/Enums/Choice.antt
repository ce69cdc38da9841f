-- The choice between the layout of an enum with a tag and the one with a niche.
use Rattle.std.specs.Prelude.{◌≡◌, ℕ, ◌==◌, ◌&&◌, ◌||◌, ◌⊎◌, Bool, List, map, nat_lt, true, false, Option, None, Some, if◌then◌else◌}
use Rattle.abi_base.specs.declared.data_layout.TargetDataLayout.{TargetDataLayout}
use Rattle.abi_base.specs.declared.struct_kind.StructKind.{StructKind}
use Rattle.abi_base.specs.declared.struct_kind.StructKind.TheVariants.{AlwaysSized}
use Rattle.abi_scalar.specs.declared.error.LayoutCalculatorError.{LayoutCalculatorError}
use Rattle.abi_scalar.specs.declared.layout_data.LayoutData.{LayoutData}
use Rattle.abi_scalar.specs.declared.repr.ReprOptions.{ReprOptions}
use Rattle.abi_univariant.specs.Part.{free_numbers}
use Rattle.abi_calc.specs.Enums.Lists.{IsFirstListError}
use Rattle.abi_calc.specs.Enums.Niche.{niche_layout}
use Rattle.abi_calc.specs.Enums.EnumStrategy.{is_free}

-- the niche layout is taken where it is smaller, or as large with more free numbers left
abbrev pub takes_niche : {F V : Type 0} → TargetDataLayout → (tagged niche : LayoutData F V) → Bool
takes_niche dl tagged niche =
    nat_lt niche.size tagged.size || ((niche.size == tagged.size) && nat_lt (free_numbers dl tagged.largest_niche) (free_numbers dl niche.largest_niche))

-- the better of both, the tagged one where there is no other
abbrev pub preferred_layout : {F V : Type 0} → TargetDataLayout → (tagged : LayoutData F V) → (niche : Option (LayoutData F V)) → LayoutData F V
preferred_layout dl tagged None = tagged
preferred_layout dl tagged (Some niche) = if takes_niche dl tagged niche then niche else tagged

-- the layout with a niche, where there is one: none unless the layout is free, nor where some variant's fields have no layout as
-- an always sized list; `are_lists` says what the variants' lists are
abbrev pub IsNicheAnswer : {F V H : Type 0} → (are_lists : (H → LayoutData F V) → (ℕ → F) → V → TargetDataLayout → ReprOptions → StructKind → List (List H) → List (LayoutData F V) → Type 0)
    → (layout_of : H → LayoutData F V) → (at : ℕ → F) → (index : ℕ → V) → TargetDataLayout → ReprOptions → (variants : List (List H)) → Option (LayoutData F V) → Type 0
IsNicheAnswer are_lists layout_of at index dl repr variants found =
    ((is_free repr ≡ false) × (found ≡ None))
    ⊎ ((is_free repr ≡ true) × (error : LayoutCalculatorError _) × IsFirstListError layout_of at (index 0) dl repr AlwaysSized variants error × (found ≡ None))
    ⊎ ((is_free repr ≡ true) × (lists : List (LayoutData _ _)) × are_lists layout_of at (index 0) dl repr AlwaysSized variants lists
    × (found ≡ niche_layout (at 0) index dl repr (map (map layout_of) variants) lists))
