-- Where the fields of an enum's variants lie beside its tag, be it a tag or a niche, and which numbers name the variants.
use Rattle.std.specs.Prelude.{◌≡◌, ◌≢◌, ℕ, ◌+◌, ◌-◌, ◌%◌, ◌==◌, ◌<◌, ◌≤◌, ◌⊎◌, ⊤, All, List, [], ◌∷◌, MatchBool, map, false, length, Some, slice_get}
use Rattle.std.specs.List.{AllPairs}
use Rattle.abi_base.specs.declared.data_layout.TargetDataLayout.{TargetDataLayout}
use Rattle.abi_scalar.specs.declared.backend_repr.BackendRepr.{BackendRepr}
use Rattle.abi_scalar.specs.declared.backend_repr.BackendRepr.TheVariants.{Scalar as OneScalar, ScalarPair, Memory}
use Rattle.abi_scalar.specs.declared.fields_shape.FieldsShape.TheVariants.{Arbitrary}
use Rattle.abi_scalar.specs.declared.layout_data.LayoutData.{LayoutData}
use Rattle.abi_scalar.specs.declared.niche.Niche.{Niche}
use Rattle.abi_scalar.specs.declared.scalar.Scalar.{Scalar}
use Rattle.abi_scalar.specs.declared.scalar.Scalar.TheVariants.{Union}
use Rattle.abi_scalar.specs.declared.variants.RangeInclusive.{RangeInclusive}
use Rattle.abi_scalar.specs.declared.variants.TagEncoding.TheVariants.{Direct, Niche as InNiche}
use Rattle.abi_scalar.specs.declared.variants.VariantLayout.{VariantLayout}
use Rattle.abi_scalar.specs.declared.variants.Variants.TheVariants.{Multiple}
use Rattle.abi_scalar.specs.Niche.{niche_at, niche_size}
use Rattle.abi_scalar.specs.Range.{numbers_of}
use Rattle.abi_scalar.specs.Reserve.{HandsOut}
use Rattle.abi_scalar.specs.Scalar.{IsNumberOf, primitive_of, range_of, scalar_size}
use Rattle.abi_univariant.specs.Apart.{AreApart}
use Rattle.abi_univariant.specs.ListNiche.{IsNicheOfPart}
use Rattle.abi_calc.specs.Enums.Discriminants.{inhabited_of}
use Rattle.abi_calc.specs.Enums.Filled.{IsFilled}
use Rattle.abi_calc.specs.Enums.EnumStrategy.{is_absent, variant_at}
use Rattle.abi_calc.specs.Enums.Payload.{BeginsWithTag}
use Rattle.abi_calc.specs.Enums.Places.{AreApartBehind}

-- a niche of so many bytes at this place, and each variant's fields, those from a place on: parts that share no byte and end
-- inside the whole; only the untagged variant's fields may lie where the niche does, as one of them has it
abbrev pub AreApartBeside : {F V : Type 0} → (whole place width untagged from : ℕ) → (variants : List (List (LayoutData F V))) → (layouts : List (VariantLayout F)) → Type 0
AreApartBeside whole place width untagged from [] [] = ⊤
AreApartBeside whole place width untagged from (fields ∷ variants) (layout ∷ layouts) =
    MatchBool (from == untagged) (AreApart whole layout.field_offsets (map (λ f. f.size) fields)) (AreApart whole (place ∷ layout.field_offsets) (width ∷ map (λ f. f.size) fields))
    × AreApartBeside whole place width untagged (from + 1) variants layouts
AreApartBeside whole place width untagged from _ _ = ⊥

-- The numbers in a niche that name the variants: each variant that isn't absent, but for the untagged one, lies in the span from
-- the first to the last; the numbers that are counted from `start` on, one for each place of the span, differ, are in the tag's
-- range, and none of them was in the niche's, whose numbers the tag's range has too.
pub record AreNumbersInNiche {F V : Type 0} (dl : TargetDataLayout) (variants : List (List (LayoutData F V))) (untagged first last start : ℕ) (niche : Niche) (tag : Scalar) : Type 0 where
  pub span : (i : ℕ) → i < length variants → (i == untagged) ≡ false → is_absent (variant_at variants i) ≡ false → (first ≤ i) × (i ≤ last)
  pub differ : last - first + 1 ≤ numbers_of (niche_size dl niche)
  pub handed : HandsOut (niche_size dl niche) niche.valid_range (range_of dl tag) start (last - first + 1)
  pub value : primitive_of tag ≡ niche.value

-- a view of scalars has the tag where it lies: one scalar is the tag, and of two that which lies at the tag's place is it, while
-- the other may hold anything
abbrev pub HasTagAt : (place : ℕ) → (tag : Scalar) → BackendRepr → Type 0
HasTagAt place tag (OneScalar scalar) = (place ≡ 0) × (scalar ≡ tag)
HasTagAt place tag (ScalarPair a b b_offset) =
    ((place ≡ 0) × (a ≡ tag) × (b ≡ Union (primitive_of b))) ⊎ ((place ≡ b_offset) × (b ≡ tag) × (a ≡ Union (primitive_of a)))
HasTagAt place tag (Memory sized) = ⊤
HasTagAt place tag _ = ⊥

-- An enum whose variants are distinguished by a tag at its start: each has the fields behind it; the discriminants of the variants
-- that may have values, cut to the tag's width, are numbers of the tag, and differ. Where a view of two scalars says that a number
-- lies beside the tag, each variant has one there; the whole has the tag's niche.
pub record IsToldByTag {F V : Type 0} (dl : TargetDataLayout) (number : V → ℕ) (variants : List (List (LayoutData F V))) (items : List (V × ℕ)) (layout : LayoutData F V) : Type 0 where
  pub tag : Scalar
  pub field : F
  pub place : layout.fields ≡ Arbitrary (0 ∷ []) (field ∷ [])
  pub layouts : List (VariantLayout F)
  pub tag_distinguishes : layout.variants ≡ Multiple tag Direct field layouts
  pub apart : AreApartBehind layout.size (scalar_size dl tag) variants layouts
  pub numbers : All (λ v. IsNumberOf (scalar_size dl tag) tag (v % numbers_of (scalar_size dl tag))) (inhabited_of number variants items)
  pub differ : AllPairs (λ v w. v % numbers_of (scalar_size dl tag) ≢ w % numbers_of (scalar_size dl tag)) (inhabited_of number variants items)
  pub view : BeginsWithTag dl tag layout.backend_repr
  pub filled : IsFilled dl layout.backend_repr layouts variants
  pub niche : layout.largest_niche ≡ niche_at dl 0 tag

-- An enum whose variants are distinguished by a niche: it is that of a field of `variant`, the untagged one, and the tag takes its
-- place; what the tag leaves of it is the niche of the whole. `number` gives the place of a variant.
pub record IsToldByNiche {F V : Type 0} (dl : TargetDataLayout) (number : V → ℕ) (variants : List (List (LayoutData F V))) (layout : LayoutData F V) : Type 0 where
  pub niche : Niche
  pub tag : Scalar
  pub field : F
  pub place : layout.fields ≡ Arbitrary (niche.offset ∷ []) (field ∷ [])
  pub untagged : V
  pub span : RangeInclusive V
  pub start : ℕ
  pub layouts : List (VariantLayout F)
  pub tag_distinguishes : layout.variants ≡ Multiple tag (InNiche untagged span start) field layouts
  pub variant : VariantLayout F
  pub own : slice_get layouts (number untagged) ≡ Some variant
  pub niche_of : IsNicheOfPart variant.field_offsets (variant_at variants (number untagged)) niche
  pub apart : AreApartBeside layout.size niche.offset (scalar_size dl tag) (number untagged) 0 variants layouts
  pub numbers : AreNumbersInNiche dl variants (number untagged) (number span.start) (number span.last) start niche tag
  pub view : HasTagAt niche.offset tag layout.backend_repr
  pub left : layout.largest_niche ≡ niche_at dl niche.offset tag

-- a tag of its own or a niche of one variant distinguishes the variants
abbrev pub AreDistinguished : {F V : Type 0} → TargetDataLayout → (number : V → ℕ) → (variants : List (List (LayoutData F V))) → (items : List (V × ℕ)) → LayoutData F V → Type 0
AreDistinguished dl number variants items layout = IsToldByTag dl number variants items layout ⊎ IsToldByNiche dl number variants layout
