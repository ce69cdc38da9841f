-- What an enum of several variants takes over from the lists of its variants.
use Rattle.std.specs.Prelude.{◌≡◌, ℕ, ◌+◌, ◌^◌, ◌≤◌, ◌==◌, ◌&&◌, ◌⊎◌, ⊤, Bool, ℤ, List, [], ◌∷◌, MatchBool, None, Some, false, if◌then◌else◌, length, map, max, nat_lt, slice_get, true}
use Rattle.std.specs.Int.{next_multiple_of}
use Rattle.abi_base.specs.declared.data_layout.TargetDataLayout.{TargetDataLayout}
use Rattle.abi_base.specs.declared.integer.Integer.{Integer}
use Rattle.abi_base.specs.declared.primitive.Primitive.TheVariants.{Int}
use Rattle.abi_base.specs.declared.struct_kind.StructKind.TheVariants.{AlwaysSized}
use Rattle.abi_base.specs.Integer.{integer_size}
use Rattle.abi_scalar.specs.declared.backend_repr.BackendRepr.{BackendRepr}
use Rattle.abi_scalar.specs.declared.backend_repr.BackendRepr.TheVariants.{Memory}
use Rattle.abi_scalar.specs.declared.layout_data.LayoutData.{LayoutData}
use Rattle.abi_scalar.specs.declared.niche.Niche.{Niche}
use Rattle.abi_scalar.specs.declared.repr.ReprOptions.{ReprOptions}
use Rattle.abi_scalar.specs.declared.scalar.Scalar.{Scalar}
use Rattle.abi_scalar.specs.declared.scalar.Scalar.TheVariants.{Initialized}
use Rattle.abi_scalar.specs.declared.variants.RangeFrom.{RangeFrom}
use Rattle.abi_scalar.specs.declared.variants.RangeInclusive.{RangeInclusive}
use Rattle.abi_scalar.specs.declared.variants.RangeToInclusive.{RangeToInclusive}
use Rattle.abi_scalar.specs.declared.variants.TagEncoding.TheVariants.{Direct, Niche as InNiche}
use Rattle.abi_scalar.specs.declared.variants.VariantLayout.{VariantLayout}
use Rattle.abi_scalar.specs.declared.variants.Variants.{Variants}
use Rattle.abi_scalar.specs.declared.variants.Variants.TheVariants.{Multiple}
use Rattle.abi_scalar.specs.declared.wrapping_range.WrappingRange.{WrappingRange}
use Rattle.abi_scalar.specs.Niche.{niche_size}
use Rattle.abi_scalar.specs.Scalar.{primitive_of}
use Rattle.abi_scalar.specs.Shape.{listed_offsets, listed_order}
use Rattle.abi_scalar.specs.Variant.{variant_of}
use Rattle.abi_univariant.specs.Apart.{AreAligned}
use Rattle.abi_univariant.specs.Fields.{greatest_align}
use Rattle.abi_calc.specs.Enums.Discriminants.{IsTagRange}
use Rattle.abi_calc.specs.Enums.Growth.{grown_tag, moved_offset, start_align}
use Rattle.abi_calc.specs.Enums.Lists.{behind_tag}
use Rattle.abi_calc.specs.Enums.Niche.{niche_view}
use Rattle.abi_calc.specs.Enums.Payload.{is_memory, is_of_scalars, tagged_view}
use Rattle.abi_calc.specs.Enums.Several.{IsAskedFor}
use Rattle.abi_calc.specs.Enums.Tagged.{payloads_of}
use Rattle.abi_calc.specs.Made.{AreFieldLists}
use Rattle.abi_calc.specs.Marks.{HasEnumMarks}

-- ---- behind a tag

-- A variant behind a tag, from its list behind a tag of so many bytes that grew to so many, in a whole of this size: fields at the
-- old tag's end lie at the new one's.
pub record IsBehindTag {F V : Type 0} (old new whole : ℕ) (list : LayoutData F V) (layout : VariantLayout F) : Type 0 where
  pub offsets : layout.field_offsets ≡ map (moved_offset old new) (listed_offsets list.fields)
  pub order : layout.fields_in_memory_order ≡ listed_order list.fields
  pub size : list.size ≤ layout.size
  pub most : layout.size ≤ max (max list.size new) whole
  pub niche : layout.largest_niche ≡ list.largest_niche
  pub uninhabited : layout.uninhabited ≡ list.uninhabited

-- each variant from its list
abbrev pub AreBehindTag : {F V : Type 0} → (old new whole : ℕ) → (lists : List (LayoutData F V)) → (layouts : List (VariantLayout F)) → Type 0
AreBehindTag old new whole [] [] = ⊤
AreBehindTag old new whole (list ∷ lists) (layout ∷ layouts) = IsBehindTag old new whole list layout × AreBehindTag old new whole lists layouts
AreBehindTag old new whole _ _ = ⊥

-- a variant whose list is bytes in memory, and has fields, is seen as its enum is where that is seen as scalars
abbrev pub takes_view : {F V : Type 0} → (view : BackendRepr) → (list : LayoutData F V) → Bool
takes_view view list = is_of_scalars view && is_memory list.backend_repr && nat_lt 0 (length (listed_offsets list.fields))

-- A variant beside a tag of so many bytes that grew to so many, in a whole of this size that is seen so: it takes what its list takes,
-- and where the tag grew no less than the tag. Where it is seen as its enum is, it is no smaller than that.
pub record IsSeenBehindTag {F V : Type 0} (old new whole : ℕ) (view : BackendRepr) (list : LayoutData F V) (layout : VariantLayout F) : Type 0 where
  pub as_enum : takes_view view list ≡ true → (layout.backend_repr ≡ view) × (layout.size ≡ max (if nat_lt old new then max list.size new else list.size) whole)
  pub as_list : takes_view view list ≡ false → (layout.backend_repr ≡ list.backend_repr) × (layout.size ≡ (if nat_lt old new then max list.size new else list.size))

-- each variant from its list
abbrev pub HaveViewBehindTag : {F V : Type 0} → (old new whole : ℕ) → (view : BackendRepr) → (lists : List (LayoutData F V)) → (layouts : List (VariantLayout F)) → Type 0
HaveViewBehindTag old new whole view [] [] = ⊤
HaveViewBehindTag old new whole view (list ∷ lists) (layout ∷ layouts) = IsSeenBehindTag old new whole view list layout × HaveViewBehindTag old new whole view lists layouts
HaveViewBehindTag old new whole view _ _ = ⊥

-- An enum with a tag is made of its variants' lists behind the integer that is asked for: it is aligned as the greatest of them,
-- and marked as they are. The tag is an integer that is no smaller, with the same sign: where the layout is free, the larger one of the size
-- and the alignment with which the variants' first fields begin. `number` gives the number of a field.
pub record IsMadeByTag {F V : Type 0} (at : ℕ → F) (number : F → ℕ) (dl : TargetDataLayout) (repr : ReprOptions) (asks : RangeFrom ℤ → RangeToInclusive ℕ → Integer × Bool → Type 0) (values : List ℕ)
    (variants : List (List (LayoutData F V))) (layout : LayoutData F V) : Type 0 where
  pub asked : Integer
  pub signed : Bool
  pub is : IsAskedFor dl repr asks values asked signed
  pub lists : List (LayoutData F V)
  pub own : AreFieldLists at dl repr (behind_tag dl repr asked variants) variants lists
  pub alignment : layout.align.abi ≡ greatest_align dl.aggregate_align lists
  pub marks : HasEnumMarks dl repr lists layout
  pub tag : Scalar
  pub grown : Integer
  pub no_less : integer_size asked ≤ integer_size grown
  pub grows : grown ≡ grown_tag dl repr asked (start_align number variants lists)
  pub holds : primitive_of tag ≡ Int grown signed
  pub field : F
  pub layouts : List (VariantLayout F)
  pub tag_distinguishes : layout.variants ≡ Multiple tag Direct field layouts
  pub places : AreBehindTag (integer_size asked) (integer_size grown) layout.size lists layouts
  -- It is seen as the tag where that is all, else as the tag and the scalar that the variants have in common, where these lie as a pair
  -- does, else as bytes in memory.
  pub view : layout.backend_repr ≡
      tagged_view dl tag layout.size layout.align.abi (payloads_of dl (integer_size asked) (integer_size grown) variants lists)
  pub seen : HaveViewBehindTag (integer_size asked) (integer_size grown) layout.size layout.backend_repr lists layouts

-- ---- beside a niche

-- A variant whose list is moved by so many bytes.
pub record IsMovedBy {F V : Type 0} (by : ℕ) (list : LayoutData F V) (layout : VariantLayout F) : Type 0 where
  pub offsets : layout.field_offsets ≡ map (λ o. by + o) (listed_offsets list.fields)
  pub order : layout.fields_in_memory_order ≡ listed_order list.fields
  pub size : layout.size ≡ by + list.size
  pub niche : layout.largest_niche ≡ None
  pub uninhabited : layout.uninhabited ≡ list.uninhabited

-- a variant beside a niche of so many bytes at this place: it stays where it ends before the niche, and is seen as its list, or begins at
-- the first multiple of its alignment after it, and ends inside the whole, as bytes in memory unless it has no values
abbrev pub IsBesideNiche : {F V : Type 0} → (place width whole : ℕ) → LayoutData F V → VariantLayout F → Type 0
IsBesideNiche place width whole list layout =
    ((list.size ≤ place) × IsMovedBy 0 list layout × (layout.backend_repr ≡ list.backend_repr))
    ⊎ ((next_multiple_of (place + width) (2 ^ list.align.abi) + list.size ≤ whole) × IsMovedBy (next_multiple_of (place + width) (2 ^ list.align.abi)) list layout
    × (layout.backend_repr ≡ (if list.uninhabited then list.backend_repr else Memory true)))

-- each variant, those from a place on: the untagged one is its list, the others lie beside the niche
abbrev pub AreBesideNiche : {F V : Type 0} → (place width whole untagged from : ℕ) → (lists : List (LayoutData F V)) → (layouts : List (VariantLayout F)) → Type 0
AreBesideNiche place width whole untagged from [] [] = ⊤
AreBesideNiche place width whole untagged from (list ∷ lists) (layout ∷ layouts) =
    MatchBool (from == untagged) (layout ≡ variant_of list) (IsBesideNiche place width whole list layout)
    × AreBesideNiche place width whole untagged (from + 1) lists layouts
AreBesideNiche place width whole untagged from _ _ = ⊥

-- An enum with a niche is made of its variants' always sized lists: it is aligned as the greatest of them, and marked as they
-- are. The niche is that of the untagged one's list; `number` gives the place of a variant.
pub record IsMadeInNiche {F V : Type 0} (at : ℕ → F) (number : V → ℕ) (dl : TargetDataLayout) (repr : ReprOptions) (variants : List (List (LayoutData F V))) (layout : LayoutData F V) : Type 0 where
  pub lists : List (LayoutData F V)
  pub own : AreFieldLists at dl repr AlwaysSized variants lists
  pub alignment : layout.align.abi ≡ greatest_align dl.aggregate_align lists
  pub marks : HasEnumMarks dl repr lists layout
  pub tag : Scalar
  pub untagged : V
  pub span : RangeInclusive V
  pub start : ℕ
  pub field : F
  pub layouts : List (VariantLayout F)
  pub tag_distinguishes : layout.variants ≡ Multiple tag (InNiche untagged span start) field layouts
  pub list : LayoutData F V
  pub there : slice_get lists (number untagged) ≡ Some list
  pub niche : Niche
  pub largest : list.largest_niche ≡ Some niche
  pub places : AreBesideNiche niche.offset (niche_size dl niche) layout.size (number untagged) 0 lists layouts
  -- It is seen as the untagged variant that fills it, with the tag in place of the niche's scalar, where no other has bytes, else as bytes
  -- in memory.
  pub view : layout.backend_repr ≡ niche_view layout.size layout.align.abi (number untagged) list niche.offset tag layouts

-- an enum is made of its variants' lists, behind a tag or beside a niche
abbrev pub IsMadeOfLists : {F V : Type 0} → (at : ℕ → F) → (number : F → ℕ) → (place : V → ℕ) → TargetDataLayout → ReprOptions → (asks : RangeFrom ℤ → RangeToInclusive ℕ → Integer × Bool → Type 0) → (values : List ℕ)
    → (variants : List (List (LayoutData F V))) → LayoutData F V → Type 0
IsMadeOfLists at number place dl repr asks values variants layout = IsMadeByTag at number dl repr asks values variants layout ⊎ IsMadeInNiche at place dl repr variants layout

-- ---- the tag, and where fields lie

-- a tag of its own holds the least range of these discriminants, cut to its width
abbrev pub HasLeastTag : {F V : Type 0} → (values : List ℕ) → Variants F V → Type 0
HasLeastTag values (Multiple tag Direct field layouts) =
    (integer : Integer) × (signed : Bool) × (range : WrappingRange) × (tag ≡ Initialized (Int integer signed) range) × IsTagRange (integer_size integer) values range
HasLeastTag values _ = ⊤

-- the fields of each variant lie at multiples of their alignments
abbrev pub AreVariantsAligned : {F V : Type 0} → (variants : List (List (LayoutData F V))) → (layouts : List (VariantLayout F)) → Type 0
AreVariantsAligned [] [] = ⊤
AreVariantsAligned (fields ∷ variants) (layout ∷ layouts) =
    AreAligned layout.field_offsets (map (λ f. f.align.abi) fields) × AreVariantsAligned variants layouts
AreVariantsAligned _ _ = ⊥
