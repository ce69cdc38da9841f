-- The order in which the fields of a type of several variants lie in memory, and which field its tag is.
use Rattle.std.specs.Prelude.{◌≡◌, ℕ, All}
use Rattle.abi_scalar.specs.declared.layout_data.LayoutData.{LayoutData}
use Rattle.abi_scalar.specs.declared.variants.Variants.{Variants}
use Rattle.abi_scalar.specs.declared.variants.Variants.TheVariants.{Multiple}
use Rattle.abi_scalar.specs.Order.{HasOrder}
use Rattle.abi_scalar.specs.Variant.{IsOrderedVariant, variants_of}

-- each field of the type, and of each of its variants, has a place in memory order, and that order never steps back
abbrev pub IsOrderedWhole : {F V : Type 0} → (number : F → ℕ) → LayoutData F V → Type 0
IsOrderedWhole number layout = HasOrder number layout.fields × All (IsOrderedVariant number) (variants_of layout.variants)

-- the tag that distinguishes the variants is the field at this place
abbrev pub IsTagField : {F V : Type 0} → (number : F → ℕ) → (place : ℕ) → Variants F V → Type 0
IsTagField number place (Multiple tag encoding field layouts) = number field ≡ place
IsTagField number place _ = ⊥
