-- Whether the lists of an enum's variants leave room for a niche that distinguishes the variants, and how large the enum then is.
use Rattle.std.specs.Prelude.{◌≡◌, ◌≢◌, ℕ, ◌+◌, ◌^◌, ◌≤◌, ◌⊎◌, Contains, false, List, map, Some, slice_get, true}
use Rattle.std.specs.Int.{next_multiple_of}
use Rattle.abi_base.specs.declared.data_layout.TargetDataLayout.{TargetDataLayout}
use Rattle.abi_base.specs.declared.struct_kind.StructKind.{StructKind}
use Rattle.abi_base.specs.declared.struct_kind.StructKind.TheVariants.{AlwaysSized}
use Rattle.abi_scalar.specs.declared.layout_data.LayoutData.{LayoutData}
use Rattle.abi_scalar.specs.declared.niche.Niche.{Niche}
use Rattle.abi_scalar.specs.declared.repr.ReprOptions.{ReprOptions}
use Rattle.abi_scalar.specs.Niche.{niche_size}
use Rattle.abi_univariant.specs.ListNiche.{HasFree}
use Rattle.abi_calc.specs.Enums.Lists.{AreListLayouts}
use Rattle.abi_calc.specs.Enums.Niche.{needing_numbers, niche_of_list, span_count, span_of, untagged_of}
use Rattle.abi_calc.specs.Enums.EnumStrategy.{is_free, variant_at}
use Rattle.abi_calc.specs.Enums.Sizes.{IsTaggedSize}
use Rattle.abi_calc.specs.Enums.Tagged.{lists_size}

-- some field has at least so many free numbers
abbrev pub HasFreeNumbers : {F V : Type 0} → TargetDataLayout → (count : ℕ) → List (LayoutData F V) → Type 0
HasFreeNumbers dl count fields =
    (field : LayoutData _ _) × Contains fields field × (niche : Niche) × (field.largest_niche ≡ Some niche) × (free : ℕ) × HasFree dl niche free × (count ≤ free)

-- the list ends before a niche of so many bytes at this place; or, laid at the first multiple of its alignment after it, inside
-- the whole
abbrev pub HasRoomBeside : {F V : Type 0} → (place width whole : ℕ) → LayoutData F V → Type 0
HasRoomBeside place width whole list =
    (list.size ≤ place) ⊎ (next_multiple_of (place + width) (2 ^ list.align.abi) + list.size ≤ whole)

-- The lists leave room for a niche that distinguishes the variants: a field of the last greatest variant has as many free numbers
-- as there are variants from the first to the last other one that isn't absent, and every other list has room beside that
-- variant's niche.
pub record LeaveRoom {F V : Type 0} (dl : TargetDataLayout) (variants : List (List (LayoutData F V))) (lists : List (LayoutData F V)) : Type 0 where
  pub span : ℕ × ℕ
  pub ends : span_of (needing_numbers (untagged_of lists) variants) ≡ Some span
  pub numbers : HasFreeNumbers dl (span_count span) (variant_at variants (untagged_of lists))
  pub niche : Niche
  pub largest : niche_of_list (slice_get lists (untagged_of lists)) ≡ Some niche
  pub beside : (i : ℕ) (list : LayoutData F V) → slice_get lists i ≡ Some list → i ≢ untagged_of lists
      → HasRoomBeside niche.offset (niche_size dl niche) (lists_size dl lists) list

-- the size of an enum whose tag's kind of list is this one: that of the variants' always sized lists, rounded up to their
-- greatest alignment, which is no more than the tagged size, where the layout is free and they leave room; in every other case
-- the tagged size
abbrev pub IsEnumSize : {F V H : Type 0} → (layout_of : H → LayoutData F V) → (at : ℕ → F) → (first : V) → TargetDataLayout → ReprOptions → StructKind → (variants : List (List H)) → (size : ℕ) → Type 0
IsEnumSize layout_of at first dl repr kind variants size =
    ((is_free repr ≡ false) × IsTaggedSize dl repr kind (map (map layout_of) variants) size)
    ⊎ ((is_free repr ≡ true) × (lists : List (LayoutData _ _)) × AreListLayouts layout_of at first dl repr AlwaysSized variants lists
    × ((LeaveRoom dl (map (map layout_of) variants) lists × IsTaggedSize dl repr AlwaysSized (map (map layout_of) variants) size
    × ((tagged : ℕ) → IsTaggedSize dl repr kind (map (map layout_of) variants) tagged → size ≤ tagged))
    ⊎ ((LeaveRoom dl (map (map layout_of) variants) lists → ⊥) × IsTaggedSize dl repr kind (map (map layout_of) variants) size)))
