-- Where the tag and the variants' fields lie, and which numbers name variants.
use Rattle.std.specs.Prelude.{◌≢◌, ℕ, ◌%◌, ⊤, All, List, [], ◌∷◌, map}
use Rattle.std.specs.List.{AllPairs}
use Rattle.abi_base.specs.declared.data_layout.TargetDataLayout.{TargetDataLayout}
use Rattle.abi_scalar.specs.declared.backend_repr.BackendRepr.{BackendRepr}
use Rattle.abi_scalar.specs.declared.layout_data.LayoutData.{LayoutData}
use Rattle.abi_scalar.specs.declared.variants.VariantLayout.{VariantLayout}
use Rattle.abi_scalar.specs.declared.variants.Variants.{Variants}
use Rattle.abi_scalar.specs.declared.variants.Variants.TheVariants.{Multiple}
use Rattle.abi_scalar.specs.Range.{numbers_of}
use Rattle.abi_scalar.specs.Scalar.{IsNumberOf, scalar_size}
use Rattle.abi_univariant.specs.Apart.{AreApart}
use Rattle.abi_calc.specs.Enums.Payload.{BeginsWithTag}

-- a tag of so many bytes at the start, and each variant's fields: parts that share no byte and end inside the whole
abbrev pub AreApartBehind : {F V : Type 0} → (whole tag : ℕ) → (variants : List (List (LayoutData F V))) → (layouts : List (VariantLayout F)) → Type 0
AreApartBehind whole tag [] [] = ⊤
AreApartBehind whole tag (fields ∷ variants) (layout ∷ layouts) =
    AreApart whole (0 ∷ layout.field_offsets) (tag ∷ map (λ f. f.size) fields) × AreApartBehind whole tag variants layouts
AreApartBehind whole tag _ _ = ⊥

-- the same of the variants that a tag distinguishes
abbrev pub AreApartAmong : {F V : Type 0} → TargetDataLayout → (whole : ℕ) → (variants : List (List (LayoutData F V))) → Variants F V → Type 0
AreApartAmong dl whole variants (Multiple tag encoding field layouts) = AreApartBehind whole (scalar_size dl tag) variants layouts
AreApartAmong dl whole variants _ = ⊥

-- the tag's numbers: each discriminant that counts, cut to the tag's width, is one of them
abbrev pub AreNumbersAmong : {F V : Type 0} → TargetDataLayout → (values : List ℕ) → Variants F V → Type 0
AreNumbersAmong dl values (Multiple tag encoding field layouts) =
    All (λ v. IsNumberOf (scalar_size dl tag) tag (v % numbers_of (scalar_size dl tag))) values
AreNumbersAmong dl values _ = ⊥

-- discriminants that differ, cut to an integer of so many bytes, differ cut to the tag's width
abbrev pub DifferAmong : {F V : Type 0} → TargetDataLayout → (width : ℕ) → (values : List ℕ) → Variants F V → Type 0
DifferAmong dl width values (Multiple tag encoding field layouts) =
    AllPairs (λ v w. v % numbers_of width ≢ w % numbers_of width) values
    → AllPairs (λ v w. v % numbers_of (scalar_size dl tag) ≢ w % numbers_of (scalar_size dl tag)) values
DifferAmong dl width values _ = ⊥

-- a view of scalars begins with the tag that distinguishes the variants
abbrev pub BeginsWithTagOf : {F V : Type 0} → TargetDataLayout → Variants F V → BackendRepr → Type 0
BeginsWithTagOf dl (Multiple tag encoding field layouts) view = BeginsWithTag dl tag view
BeginsWithTagOf dl _ view = ⊥

-- and so does the layout's own
abbrev pub HasViewOfTag : {F V : Type 0} → TargetDataLayout → LayoutData F V → Type 0
HasViewOfTag dl layout = BeginsWithTagOf dl layout.variants layout.backend_repr
