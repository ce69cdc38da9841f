-- What a laid-out type keeps: the laws that handles of types have to meet.
use Rattle.std.specs.Prelude.{◌≡◌, ℕ, ◌+◌, ◌<◌, ◌≤◌, true, length}
use Rattle.abi_scalar.specs.declared.fields_shape.FieldsShape.{FieldsShape}
use Rattle.abi_scalar.specs.declared.fields_shape.FieldsShape.TheVariants.{Array}
use Rattle.abi_scalar.specs.declared.variants.Variants.{Variants}
use Rattle.abi_scalar.specs.declared.variants.Variants.TheVariants.{Single, Multiple}
use Rattle.abi_scalar.specs.Shape.{field_count, field_offset}
use Rattle.abi_scalar.specs.Variant.{variants_of}
use Rattle.abi_types.specs.Ty.Typed.{Marks, Typed, typed, no_type, layout_in}
use Rattle.abi_scalar.specs.Layout.{Layout}

-- fields can be named by their index: elements are all of one type and reach no further than to the next, and other fields are at most
-- so many
abbrev pub CanBeNamed : FieldsShape ℕ → (field : ℕ → Typed) → Type 0
CanBeNamed (Array stride count) field = ((i : ℕ) → i < count → field i ≡ field 0) × ((layout_in (field 0)).size ≤ stride)
CanBeNamed fields field = field_count fields ≤ 0xFFFF_FF01

-- What a layout and the marks beside it keep of the type's fields and variants.
pub record IsWellFormedNode (layout : Layout) (marks : Marks) (field variant : ℕ → Typed) : Type 0 where
  -- each field lies inside, at its offset
  pub inside : (i : ℕ) → i < field_count layout.fields → field_offset layout.fields i + (layout_in (field i)).size ≤ layout.size
  -- and so does each variant
  pub within : (i : ℕ) → i < length (variants_of layout.variants) → (layout_in (variant i)).size ≤ layout.size
  pub named : CanBeNamed layout.fields field
  -- a complex number has a field
  pub complex : marks.is_complex ≡ true → 0 < field_count layout.fields

-- the laws hold of the type, of its fields and of its variants, and of all that is in them
abbrev pub IsWellFormedType : Typed → Type 0
IsWellFormedType (typed layout marks field variant) =
    IsWellFormedNode layout marks field variant × ((i : ℕ) → i < field_count layout.fields → IsWellFormedType (field i))
    × ((i : ℕ) → i < length (variants_of layout.variants) → IsWellFormedType (variant i))
IsWellFormedType no_type = ⊥

-- the index names a variant: the one that there is, or one of those that a tag distinguishes
abbrev pub NamesVariant : Variants ℕ ℕ → (index : ℕ) → Type 0
NamesVariant (Single only) i = i ≡ only
NamesVariant (Multiple tag encoding at layouts) i = i < length layouts
NamesVariant _ i = ⊥

-- how many types lie one in another: fewer at a variant that a tag distinguishes, and no more at an only one
abbrev pub DepthFalls : Variants ℕ ℕ → (at_variant whole : ℕ) → Type 0
DepthFalls (Multiple tag encoding at layouts) at_variant whole = at_variant < whole
DepthFalls _ at_variant whole = at_variant ≤ whole
