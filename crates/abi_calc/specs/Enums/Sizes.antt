-- How large an enum with a tag is, and when it is too large.
use Rattle.std.specs.Prelude.{◌≡◌, ℕ, ◌^◌, ◌≤◌, ◌⊎◌, ⊤, Contains, List, [], ◌∷◌, map}
use Rattle.std.specs.Int.{next_multiple_of}
use Rattle.abi_base.specs.declared.data_layout.TargetDataLayout.{TargetDataLayout}
use Rattle.abi_base.specs.declared.struct_kind.StructKind.{StructKind}
use Rattle.abi_base.specs.DataLayout.{size_bound}
use Rattle.abi_scalar.specs.declared.layout_data.LayoutData.{LayoutData}
use Rattle.abi_scalar.specs.declared.repr.ReprOptions.{ReprOptions}
use Rattle.abi_univariant.specs.Fields.{greatest}
use Rattle.abi_univariant.specs.Least.{IsEachOrderTooLarge, IsLeastSize, align_by}

-- these are the least sizes of the variants' lists
abbrev pub AreLeastSizes : {F V : Type 0} → TargetDataLayout → ReprOptions → StructKind → (variants : List (List (LayoutData F V))) → (sizes : List ℕ) → Type 0
AreLeastSizes dl repr kind [] [] = ⊤
AreLeastSizes dl repr kind (fields ∷ variants) (size ∷ sizes) = IsLeastSize dl repr kind fields size × AreLeastSizes dl repr kind variants sizes
AreLeastSizes dl repr kind _ _ = ⊥

-- the greatest least size of the variants' lists, rounded up to the greatest of their alignments
abbrev pub IsTaggedSize : {F V : Type 0} → TargetDataLayout → ReprOptions → StructKind → (variants : List (List (LayoutData F V))) → (size : ℕ) → Type 0
IsTaggedSize dl repr kind variants size =
    (sizes : List ℕ) × AreLeastSizes dl repr kind variants sizes
    × (size ≡ next_multiple_of (greatest sizes) (2 ^ greatest (map (align_by dl repr kind) variants)))

-- some variant's list is too large in every allowed order, or the tagged size reaches the bound
abbrev pub IsTaggedTooLarge : {F V : Type 0} → TargetDataLayout → ReprOptions → StructKind → (variants : List (List (LayoutData F V))) → Type 0
IsTaggedTooLarge dl repr kind variants =
    ((fields : List (LayoutData _ _)) × Contains variants fields × IsEachOrderTooLarge dl repr kind fields)
    ⊎ ((size : ℕ) × IsTaggedSize dl repr kind variants size × (size_bound dl ≤ size))
