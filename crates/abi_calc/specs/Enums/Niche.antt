-- The layout of an enum whose tag lies in a niche of one variant.
use Rattle.std.specs.Prelude.{ℕ, ◌+◌, ◌-◌, ◌^◌, ◌<◌, ◌≤◌, All, ◌==◌, ◌&&◌, ◌||◌, not, Bool, true, List, [], ◌∷◌, filter, length, map, nat_le, Option, None, Some, slice_get, if◌then◌else◌}
use Rattle.std.specs.Int.{next_multiple_of}
use Rattle.std.specs.List.{list_all, list_any}
use Rattle.abi_base.specs.declared.data_layout.TargetDataLayout.{TargetDataLayout}
use Rattle.abi_scalar.specs.declared.backend_repr.BackendRepr.{BackendRepr}
use Rattle.abi_scalar.specs.declared.backend_repr.BackendRepr.TheVariants.{Scalar as OneScalar, ScalarPair, Memory}
use Rattle.abi_scalar.specs.declared.fields_shape.FieldsShape.TheVariants.{Arbitrary}
use Rattle.abi_scalar.specs.declared.layout_data.LayoutData.{LayoutData}
use Rattle.abi_scalar.specs.declared.niche.Niche.{Niche}
use Rattle.abi_scalar.specs.declared.repr.ReprOptions.{ReprOptions}
use Rattle.abi_scalar.specs.declared.scalar.Scalar.{Scalar}
use Rattle.abi_scalar.specs.declared.scalar.Scalar.TheVariants.{Union}
use Rattle.abi_scalar.specs.declared.variants.TagEncoding.TheVariants.{Niche as InNiche}
use Rattle.abi_scalar.specs.declared.variants.VariantLayout.{VariantLayout}
use Rattle.abi_scalar.specs.declared.variants.Variants.TheVariants.{Multiple}
use Rattle.abi_scalar.specs.Niche.{available_in, niche_at, niche_size}
use Rattle.abi_scalar.specs.Repr.{is_c}
use Rattle.abi_scalar.specs.Reserve.{reserved}
use Rattle.abi_scalar.specs.Scalar.{primitive_of}
use Rattle.abi_scalar.specs.Shape.{listed_offsets}
use Rattle.abi_scalar.specs.Variant.{variant_of}
use Rattle.abi_univariant.specs.Fields.{greatest_repr_align, greatest_unadjusted, seed_with}
use Rattle.abi_univariant.specs.Part.{max_align}
use Rattle.abi_univariant.specs.Placement.{source_order}
use Rattle.abi_calc.specs.declared.enums.niche.Room.{Room}
use Rattle.abi_calc.specs.Enums.EnumStrategy.{is_absent, variant_at}
use Rattle.abi_calc.specs.Enums.Tagged.{lists_align, lists_size}

-- the place of the last of the greatest: the first that no later one reaches
abbrev pub last_greatest : List ℕ → ℕ
last_greatest [] = 0
last_greatest (n ∷ ns) = if list_any (λ m. nat_le n m) ns then last_greatest ns + 1 else 0

-- the untagged variant: the last of those whose lists are greatest
abbrev pub untagged_of : {F V : Type 0} → (lists : List (LayoutData F V)) → ℕ
untagged_of lists = last_greatest (map (λ l. l.size) lists)

-- the variants that need a number: those that aren't absent, but for the untagged one
abbrev pub needing_numbers : {F V : Type 0} → (untagged : ℕ) → (variants : List (List (LayoutData F V))) → List ℕ
needing_numbers untagged variants = filter (λ i. not (i == untagged) && not (is_absent (variant_at variants i))) (source_order (length variants))

-- the last of these indices, or another one where there is none
abbrev pub last_or : ℕ → List ℕ → ℕ
last_or i [] = i
last_or i (j ∷ js) = last_or j js

-- the first and the last of some places
abbrev pub span_of : List ℕ → Option (ℕ × ℕ)
span_of [] = None
span_of (i ∷ is) = Some (i, last_or i is)

-- how many numbers the variants from the first to the last of them take
abbrev pub span_count : ℕ × ℕ → ℕ
span_count span = span.1 - span.0 + 1

-- where a variant of this alignment begins that doesn't end before the niche
abbrev pub place_after : Room → (align : ℕ) → ℕ
place_after room align = next_multiple_of room.after (2 ^ align)

-- a variant without its niche
abbrev pub without_niche : {F : Type 0} → VariantLayout F → VariantLayout F
without_niche variant = record variant { largest_niche = None }

-- the same, moved so many bytes on: it is bytes in memory unless it has no values
abbrev pub moved_on : {F : Type 0} → (by : ℕ) → VariantLayout F → VariantLayout F
moved_on by variant = record (without_niche variant) {
  size = by + variant.size;
  field_offsets = map (λ o. by + o) variant.field_offsets;
  backend_repr = if variant.uninhabited then variant.backend_repr else Memory true;
}

-- a variant of this alignment beside the niche: it ends before it, or lies after it inside the whole; else there is no room
abbrev pub beside_niche : {F : Type 0} → Room → (align : ℕ) → VariantLayout F → Option (VariantLayout F)
beside_niche room align variant =
    if nat_le variant.size room.before then Some (without_niche variant)
    else (if nat_le (place_after room align + variant.size) room.whole then Some (moved_on (place_after room align) variant) else None)

-- with the first of the numbers that were handed out
abbrev pub with_first : {A : Type 0} → Option A → Option (List A) → Option (List A)
with_first (Some x) (Some xs) = Some (x ∷ xs)
with_first _ _ = None

-- the variants, those from a place on: the untagged one as it is, the others beside its niche, if there is room for each
abbrev pub variants_from : {F V : Type 0} → Room → (untagged from : ℕ) → (lists : List (LayoutData F V)) → Option (List (VariantLayout F))
variants_from room untagged from [] = Some []
variants_from room untagged from (list ∷ lists) =
    with_first (if from == untagged then Some (variant_of list) else beside_niche room list.align.abi (variant_of list)) (variants_from room untagged (from + 1) lists)

-- the room is small, so that sums of its parts and of sizes don't overflow
abbrev pub IsRoomy : Room → Type 0
IsRoomy room = room.after < 2 ^ 62

-- A list that can be moved on: its fields begin inside, and it is small.
pub record IsSmallList {F V : Type 0} (list : LayoutData F V) : Type 0 where
  pub inside : All (λ o. o ≤ list.size) (listed_offsets list.fields)
  pub size : list.size < 2 ^ 62
  pub align : list.align.abi ≤ max_align

-- the untagged one's view with the numbers of the others: its scalar, or the one of a pair that has the niche, while the other
-- one may be left without a number
abbrev pub view_with : (offset : ℕ) → (tag : Scalar) → BackendRepr → BackendRepr
view_with offset tag (OneScalar scalar) = OneScalar tag
view_with offset tag (ScalarPair a b b_offset) =
    if offset == 0 then ScalarPair tag (Union (primitive_of b)) b_offset else ScalarPair (Union (primitive_of a)) tag b_offset
view_with offset tag _ = Memory true

-- all variants but the untagged one have no bytes
abbrev pub others_empty : {F : Type 0} → (untagged from : ℕ) → List (VariantLayout F) → Bool
others_empty untagged from [] = true
others_empty untagged from (variant ∷ variants) = ((from == untagged) || (variant.size == 0)) && others_empty untagged (from + 1) variants

-- how a code generator sees an enum of this size and alignment: as the untagged variant that fills it, where no other has bytes
abbrev pub niche_view : {F V : Type 0} → (size align : ℕ) → (untagged : ℕ) → LayoutData F V → (offset : ℕ) → (tag : Scalar) → List (VariantLayout F) → BackendRepr
niche_view size align untagged list offset tag variants =
    if (size == list.size) && (align == list.align.abi) && others_empty untagged 0 variants then view_with offset tag list.backend_repr else Memory true

-- the room beside a niche of the untagged variant
abbrev pub room_beside : {F V : Type 0} → TargetDataLayout → Niche → (lists : List (LayoutData F V)) → Room
room_beside dl niche lists = record { before = niche.offset; after = niche.offset + niche_size dl niche; whole = lists_size dl lists }

-- the layout with these variants; `first` is the index of the tag's field, `index` makes that of a variant
abbrev pub layout_in_niche : {F V : Type 0} → (first : F) → (index : ℕ → V) → TargetDataLayout → ReprOptions → (untagged : ℕ) → (span : ℕ × ℕ) → (lists : List (LayoutData F V)) → LayoutData F V → Niche
    → (handed : ℕ × Scalar) → List (VariantLayout F) → LayoutData F V
layout_in_niche first index dl repr untagged span lists list niche handed variants = record {
  fields = Arbitrary (niche.offset ∷ []) (first ∷ []);
  variants = Multiple handed.1 (InNiche (index untagged) (record { start = index span.0; last = index span.1 }) handed.0) first variants;
  backend_repr = niche_view (lists_size dl lists) (lists_align dl lists) untagged list niche.offset handed.1 variants;
  largest_niche = niche_at dl niche.offset handed.1;
  uninhabited = list_all (λ l. l.uninhabited) lists;
  align = record { abi = lists_align dl lists };
  size = lists_size dl lists;
  max_repr_align = greatest_repr_align repr.align lists;
  unadjusted_abi_align = greatest_unadjusted dl.aggregate_align lists;
  repr_c = is_c repr;
  randomization_seed = seed_with repr.field_shuffle_seed lists;
}

-- the greatest niche of a list, where it is there
abbrev pub niche_of_list : {F V : Type 0} → Option (LayoutData F V) → Option Niche
niche_of_list None = None
niche_of_list (Some list) = list.largest_niche

-- where there is room for each variant
abbrev pub if_placed : {F V : Type 0} → (first : F) → (index : ℕ → V) → TargetDataLayout → ReprOptions → (untagged : ℕ) → (span : ℕ × ℕ) → (lists : List (LayoutData F V)) → LayoutData F V → Niche
    → Option (List (VariantLayout F)) → Option (LayoutData F V)
if_placed first index dl repr untagged span lists list niche None = None
if_placed first index dl repr untagged span lists list niche (Some variants) =
    Some (layout_in_niche first index dl repr untagged span lists list niche (reserved dl niche (span_count span)) variants)

-- where the untagged variant has a niche with as many free numbers
abbrev pub if_niche : {F V : Type 0} → (first : F) → (index : ℕ → V) → TargetDataLayout → ReprOptions → (untagged : ℕ) → (span : ℕ × ℕ) → (lists : List (LayoutData F V)) → LayoutData F V
    → Option Niche → Option (LayoutData F V)
if_niche first index dl repr untagged span lists list None = None
if_niche first index dl repr untagged span lists list (Some niche) =
    if nat_le (span_count span) (available_in dl niche)
    then if_placed first index dl repr untagged span lists list niche (variants_from (room_beside dl niche lists) untagged 0 lists)
    else None

-- the layout, where there is such a list
abbrev pub if_list : {F V : Type 0} → (first : F) → (index : ℕ → V) → TargetDataLayout → ReprOptions → (untagged : ℕ) → (span : ℕ × ℕ) → (lists : List (LayoutData F V)) → Option (LayoutData F V)
    → Option (LayoutData F V)
if_list first index dl repr untagged span lists None = None
if_list first index dl repr untagged span lists (Some list) = if_niche first index dl repr untagged span lists list list.largest_niche

-- the layout, where some variants need a number
abbrev pub if_span : {F V : Type 0} → (first : F) → (index : ℕ → V) → TargetDataLayout → ReprOptions → (untagged : ℕ) → (lists : List (LayoutData F V)) → Option (ℕ × ℕ) → Option (LayoutData F V)
if_span first index dl repr untagged lists None = None
if_span first index dl repr untagged lists (Some span) = if_list first index dl repr untagged span lists (slice_get lists untagged)

-- the layout with a niche, where there is one, of variants whose fields have these layouts as always sized lists
abbrev pub niche_layout : {F V : Type 0} → (first : F) → (index : ℕ → V) → TargetDataLayout → ReprOptions → (variants : List (List (LayoutData F V))) → (lists : List (LayoutData F V)) → Option (LayoutData F V)
niche_layout first index dl repr variants lists =
    if_span first index dl repr (untagged_of lists) lists (span_of (needing_numbers (untagged_of lists) variants))
