-- Where the view of a tagged enum says that a number lies beside the tag, each variant has one there.
use Rattle.std.specs.Prelude.{◌≡◌, ℕ, ◌⊎◌, ⊤, List, [], ◌∷◌}
use Rattle.abi_base.specs.declared.data_layout.TargetDataLayout.{TargetDataLayout}
use Rattle.abi_base.specs.Primitive.{primitive_size}
use Rattle.abi_scalar.specs.declared.backend_repr.BackendRepr.{BackendRepr}
use Rattle.abi_scalar.specs.declared.backend_repr.BackendRepr.TheVariants.{Scalar as OneScalar, ScalarPair}
use Rattle.abi_scalar.specs.declared.layout_data.LayoutData.{LayoutData}
use Rattle.abi_scalar.specs.declared.scalar.Scalar.TheVariants.{Initialized}
use Rattle.abi_scalar.specs.declared.variants.VariantLayout.{VariantLayout}

-- one scalar of so many bytes that holds a number
abbrev pub IsNumber : TargetDataLayout → (width : ℕ) → BackendRepr → Type 0
IsNumber dl width (OneScalar (Initialized value range)) = primitive_size dl value ≡ width
IsNumber dl width _ = ⊥

-- some field at the offset is such a scalar
abbrev pub HasNumberAt : {F V : Type 0} → TargetDataLayout → (width offset : ℕ) → (offsets : List ℕ) → List (LayoutData F V) → Type 0
HasNumberAt dl width offset (o ∷ offsets) (field ∷ fields) =
    ((o ≡ offset) × IsNumber dl width field.backend_repr) ⊎ HasNumberAt dl width offset offsets fields
HasNumberAt dl width offset _ _ = ⊥

-- each variant has such a field
abbrev pub EachHasNumberAt : {F V : Type 0} → TargetDataLayout → (width offset : ℕ) → (layouts : List (VariantLayout F)) → (variants : List (List (LayoutData F V))) → Type 0
EachHasNumberAt dl width offset [] [] = ⊤
EachHasNumberAt dl width offset (layout ∷ layouts) (fields ∷ variants) =
    HasNumberAt dl width offset layout.field_offsets fields × EachHasNumberAt dl width offset layouts variants
EachHasNumberAt dl width offset _ _ = ⊥

-- where the second scalar of a view holds a number, each variant has one at its place
abbrev pub IsFilled : {F V : Type 0} → TargetDataLayout → BackendRepr → (layouts : List (VariantLayout F)) → (variants : List (List (LayoutData F V))) → Type 0
IsFilled dl (ScalarPair a (Initialized value range) offset) layouts variants = EachHasNumberAt dl (primitive_size dl value) offset layouts variants
IsFilled dl _ layouts variants = ⊤
