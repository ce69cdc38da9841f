-- The layout of an enum with a tag.
use Rattle.std.specs.Prelude.{◌≡◌, ℕ, ◌^◌, ◌<◌, ◌≤◌, ◌⊎◌, Bool, List, [], ◌∷◌, map, Result, Ok, Err}
use Rattle.std.specs.Int.{next_multiple_of}
use Rattle.std.specs.List.{list_all}
use Rattle.abi_base.specs.declared.data_layout.TargetDataLayout.{TargetDataLayout}
use Rattle.abi_base.specs.declared.integer.Integer.{Integer}
use Rattle.abi_base.specs.declared.primitive.Primitive.TheVariants.{Int}
use Rattle.abi_base.specs.DataLayout.{size_bound}
use Rattle.abi_base.specs.Integer.{integer_size}
use Rattle.abi_scalar.specs.declared.backend_repr.BackendRepr.{BackendRepr}
use Rattle.abi_scalar.specs.declared.fields_shape.FieldsShape.TheVariants.{Arbitrary}
use Rattle.abi_scalar.specs.declared.layout_data.LayoutData.{LayoutData}
use Rattle.abi_scalar.specs.declared.error.LayoutCalculatorError.{LayoutCalculatorError}
use Rattle.abi_scalar.specs.declared.error.LayoutCalculatorError.TheVariants.{OutOfMemory, SizeOverflow}
use Rattle.abi_scalar.specs.declared.repr.ReprOptions.{ReprOptions}
use Rattle.abi_scalar.specs.declared.scalar.Scalar.{Scalar}
use Rattle.abi_scalar.specs.declared.scalar.Scalar.TheVariants.{Initialized}
use Rattle.abi_scalar.specs.declared.variants.TagEncoding.TheVariants.{Direct}
use Rattle.abi_scalar.specs.declared.variants.Variants.TheVariants.{Multiple}
use Rattle.abi_scalar.specs.declared.wrapping_range.WrappingRange.{WrappingRange}
use Rattle.abi_scalar.specs.Niche.{niche_at}
use Rattle.abi_scalar.specs.Repr.{is_c}
use Rattle.abi_scalar.specs.Shape.{listed_offsets}
use Rattle.abi_scalar.specs.Variant.{variant_of}
use Rattle.abi_univariant.specs.Fields.{greatest_align, greatest_repr_align, greatest_size, greatest_unadjusted, seed_with}
use Rattle.abi_calc.specs.declared.enums.payload.Payload.{Payload}
use Rattle.abi_calc.specs.Enums.Discriminants.{IsTagRange}
use Rattle.abi_calc.specs.Enums.Growth.{grown_tag, grown_variant, moved_offset, start_align}
use Rattle.abi_calc.specs.Enums.Lists.{AreListLayouts, IsFirstListError, behind_tag}
use Rattle.abi_calc.specs.Enums.Payload.{payload_of, variant_with_view, tagged_view}

-- the greatest alignment of the variants' lists, and no less than that of aggregates
abbrev pub lists_align : {F V : Type 0} → TargetDataLayout → List (LayoutData F V) → ℕ
lists_align dl lists = greatest_align dl.aggregate_align lists

-- the greatest size of the variants' lists, rounded up to their greatest alignment
abbrev pub lists_size : {F V : Type 0} → TargetDataLayout → List (LayoutData F V) → ℕ
lists_size dl lists = next_multiple_of (greatest_size lists) (2 ^ lists_align dl lists)

-- what each variant's fields are beside a tag that grew from the old size to the new one
abbrev pub payloads_of : {F V : Type 0} → TargetDataLayout → (old new : ℕ) → (variants : List (List (LayoutData F V))) → (lists : List (LayoutData F V)) → List Payload
payloads_of dl old new (fields ∷ variants) (list ∷ lists) =
    payload_of dl fields (map (moved_offset old new) (listed_offsets list.fields)) ∷ payloads_of dl old new variants lists
payloads_of dl old new _ _ = []

-- the layout with this view, whose tag has grown from so many bytes, and whose variants have these lists; `first` is the index
-- of the tag's field
abbrev pub layout_with_view : {F V : Type 0} → (first : F) → TargetDataLayout → ReprOptions → (old : ℕ) → (tag : Scalar) → (new : ℕ) → (lists : List (LayoutData F V)) → BackendRepr → LayoutData F V
layout_with_view first dl repr old tag new lists view = record {
  fields = Arbitrary (0 ∷ []) (first ∷ []);
  variants = Multiple tag Direct first (map (λ list. variant_with_view view (lists_size dl lists) (grown_variant old new (variant_of list))) lists);
  backend_repr = view;
  largest_niche = niche_at dl 0 tag;
  uninhabited = list_all (λ list. list.uninhabited) lists;
  align = record { abi = lists_align dl lists };
  size = lists_size dl lists;
  max_repr_align = greatest_repr_align repr.align lists;
  unadjusted_abi_align = greatest_unadjusted dl.aggregate_align lists;
  repr_c = is_c repr;
  randomization_seed = seed_with repr.field_shuffle_seed lists;
}

-- the layout of an enum whose tag was asked for as this integer, and holds the numbers of this range; the variants' fields have
-- these layouts as lists behind it
abbrev pub tagged_layout : {F V : Type 0} → (number : F → ℕ) → (first : F) → TargetDataLayout → ReprOptions → (asked : Integer) → (signed : Bool) → WrappingRange
    → (variants : List (List (LayoutData F V))) → (lists : List (LayoutData F V)) → LayoutData F V
tagged_layout number first dl repr asked signed range variants lists =
    let grown : Integer = grown_tag dl repr asked (start_align number variants lists) in
    let tag : Scalar = Initialized (Int grown signed) range in
    layout_with_view first dl repr (integer_size asked) tag (integer_size grown) lists
    (tagged_view dl tag (lists_size dl lists) (lists_align dl lists) (payloads_of dl (integer_size asked) (integer_size grown) variants lists))

-- The enum is laid out by these lists of its variants: the size is below the bound, and the tag has the least range of the
-- discriminants that count.
pub record IsTaggedBy {F V : Type 0} (number : F → ℕ) (first : F) (dl : TargetDataLayout) (repr : ReprOptions) (asked : Integer) (signed : Bool) (values : List ℕ)
    (variants : List (List (LayoutData F V))) (lists : List (LayoutData F V)) (layout : LayoutData F V) : Type 0 where
  pub small : lists_size dl lists < size_bound dl
  pub ranged : (range : WrappingRange) × IsTagRange (integer_size (grown_tag dl repr asked (start_align number variants lists))) values range
      × (layout ≡ tagged_layout number first dl repr asked signed range variants lists)

-- the answer to an enum with a tag that is asked for as this integer, memory aside: its layout; else the error of the first
-- variant whose fields have no layout, or that the whole is too large
abbrev pub IsTaggedAnswer : {F V H : Type 0} → (layout_of : H → LayoutData F V) → (at : ℕ → F) → (number : F → ℕ) → (first : V) → TargetDataLayout → ReprOptions → (asked : Integer) → (signed : Bool)
    → (values : List ℕ) → (variants : List (List H)) → Result (LayoutData F V) (LayoutCalculatorError H) → Type 0
IsTaggedAnswer layout_of at number first dl repr asked signed values variants (Ok layout) =
    (lists : List (LayoutData _ _)) × AreListLayouts layout_of at first dl repr (behind_tag dl repr asked (map (map layout_of) variants)) variants lists
    × IsTaggedBy number (at 0) dl repr asked signed values (map (map layout_of) variants) lists layout
IsTaggedAnswer layout_of at number first dl repr asked signed values variants (Err error) =
    IsFirstListError layout_of at first dl repr (behind_tag dl repr asked (map (map layout_of) variants)) variants error
    ⊎ ((lists : List (LayoutData _ _)) × AreListLayouts layout_of at first dl repr (behind_tag dl repr asked (map (map layout_of) variants)) variants lists
    × (size_bound dl ≤ lists_size dl lists) × (error ≡ SizeOverflow))
    ⊎ (error ≡ OutOfMemory)
