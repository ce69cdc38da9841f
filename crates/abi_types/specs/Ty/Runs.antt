-- What a walk collects of fields and elements, and which variants there are.
use Rattle.std.specs.Prelude.{◌≡◌, ℕ, ◌<◌, Bool, List, [], ⊤, get_or, length}
use Rattle.std.specs.List.{list_any, range_with_len}
use Rattle.abi_index.specs.RangeSet.{is_in_ranges}
use Rattle.abi_index.specs.Runs.{moved_to, repeated}
use Rattle.abi_scalar.specs.declared.variants.Variants.{Variants}
use Rattle.abi_scalar.specs.declared.variants.Variants.TheVariants.{Multiple}
use Rattle.abi_scalar.specs.Shape.{field_offset}
use Rattle.abi_scalar.specs.Variant.{variants_of}
use Rattle.abi_types.specs.Ty.Typed.{Typed, field_in, layout_in}
use Rattle.abi_types.specs.Ty.Places.{covers_element, is_place, is_unused}

-- byte k is covered by one of the first n fields, at its offset
abbrev pub first_cover : Typed → (n k : ℕ) → Bool
first_cover t n k = list_any (λ i. moved_to (field_offset (layout_in t).fields i) (is_place (field_in t i)) k) (range_with_len 0 n)

-- byte k is covered by one of so many elements of this type, each so many bytes after the one before
abbrev pub elements_cover : (element : Typed) → (stride count k : ℕ) → Bool
elements_cover element stride count k = repeated stride count (covers_element (layout_in element) (is_place element)) k

-- the index is that of a variant, where a tag distinguishes several
abbrev pub IsVariantIndex : Variants ℕ ℕ → (index : ℕ) → Type 0
IsVariantIndex (Multiple tag encoding at layouts) i = i < length layouts
IsVariantIndex _ i = ⊤

-- the index is that of one of several variants that a tag distinguishes
abbrev pub IsVariantOfSeveral : Variants ℕ ℕ → (index : ℕ) → Type 0
IsVariantOfSeveral (Multiple tag encoding at layouts) i = i < length layouts
IsVariantOfSeveral _ i = ⊥

-- how many variants a tag distinguishes
abbrev pub variant_count : Variants ℕ ℕ → ℕ
variant_count variants = length (variants_of variants)

-- a set for each of the first n variants that a tag distinguishes: the bytes that this variant leaves unused
abbrev pub AreUnusedOf : Typed → (n : ℕ) → List (List (ℕ × ℕ)) → Type 0
AreUnusedOf t n sets =
    (length sets ≡ n) × ((v k : ℕ) → v < n → is_in_ranges (get_or sets v []) k ≡ is_unused t v k)

-- a set for each variant that a tag distinguishes
abbrev pub AreUnused : Typed → List (List (ℕ × ℕ)) → Type 0
AreUnused t sets = AreUnusedOf t (variant_count (layout_in t).variants) sets
