-- The answer to a struct or an enum.
use Rattle.std.specs.Prelude.{◌≡◌, ℕ, Bool, IsPermutation, ℤ, List, length, map, Result, Ok}
use Rattle.abi_base.specs.declared.data_layout.TargetDataLayout.{TargetDataLayout}
use Rattle.abi_base.specs.declared.integer.Integer.{Integer}
use Rattle.abi_base.specs.declared.niche_optimizations.NicheOptimizations.{NicheOptimizations}
use Rattle.abi_base.specs.declared.struct_kind.StructKind.{StructKind}
use Rattle.abi_scalar.specs.declared.error.LayoutCalculatorError.{LayoutCalculatorError}
use Rattle.abi_scalar.specs.declared.layout_data.LayoutData.{LayoutData}
use Rattle.abi_scalar.specs.declared.repr.ReprOptions.{ReprOptions}
use Rattle.abi_scalar.specs.declared.variants.RangeFrom.{RangeFrom}
use Rattle.abi_scalar.specs.declared.variants.RangeToInclusive.{RangeToInclusive}
use Rattle.abi_scalar.specs.Order.{HasPlaceForEach, IsAscending}
use Rattle.abi_scalar.specs.Shape.{listed_offsets}
use Rattle.abi_scalar.specs.Simple.{never_layout}
use Rattle.abi_univariant.specs.Apart.{AreApart}
use Rattle.abi_univariant.specs.Least.{IsLeastSize, LiesInSomeOrder}
use Rattle.abi_univariant.specs.Placement.{source_order}
use Rattle.abi_calc.specs.declared.enums.strategy.EnumStrategy.{EnumStrategy}
use Rattle.abi_calc.specs.declared.enums.strategy.EnumStrategy.TheVariants.{NoValue, OneList, Several}
use Rattle.abi_calc.specs.Enums.EnumStrategy.{variant_at}
use Rattle.abi_calc.specs.Enums.Several.{IsSeveralAnswer}
use Rattle.abi_calc.specs.Enums.Single.{IsSingleAnswer, single_kind}

-- each variant has one discriminant
abbrev pub HasOneEach : {V : Type 0} → (number : V → ℕ) → (count : ℕ) → List (V × ℕ) → Type 0
HasOneEach number count items = IsPermutation (source_order count) (map (λ item. number item.0) items)

-- the kind of the list of the variant at a place
abbrev pub kind_at : {H : Type 0} → (is_enum always_sized : Bool) → (variants : List (List H)) → (place : ℕ) → StructKind
kind_at is_enum always_sized variants place = single_kind is_enum always_sized (length (variant_at variants place))

-- the answer, by the way the type is laid out: nothing has no value; one list is the layout of its fields; and several variants
-- are distinguished
abbrev pub IsTypeAnswer : {F V H : Type 0} → (layout_of : H → LayoutData F V) → (at : ℕ → F) → (number : F → ℕ) → (index : ℕ → V) → (place : V → ℕ) → TargetDataLayout → ReprOptions
    → (variants : List (List H)) → (is_enum always_sized : Bool) → NicheOptimizations
    → (asks : RangeFrom ℤ → RangeToInclusive ℕ → Integer × Bool → Type 0) → (gives : List (V × ℕ) → Type 0) → EnumStrategy → Result (LayoutData F V) (LayoutCalculatorError H) → Type 0
IsTypeAnswer layout_of at number index place dl repr variants is_enum always_sized optimizations asks gives NoValue result = result ≡ Ok (never_layout dl)
IsTypeAnswer layout_of at number index place dl repr variants is_enum always_sized optimizations asks gives (OneList i) result =
    IsSingleAnswer layout_of at (index 0) (index i) dl repr (kind_at is_enum always_sized variants i) optimizations (variant_at variants i) result
IsTypeAnswer layout_of at number index place dl repr variants is_enum always_sized optimizations asks gives Several result =
    IsSeveralAnswer layout_of at number index place dl repr asks variants gives result

-- What is promised of the layout of one list: its fields share no byte and end inside; they lie one after another in some allowed
-- order, which is the memory order, and which has the least size.
pub record IsGoodSingle {F V H : Type 0} (layout_of : H → LayoutData F V) (at : ℕ → F) (number : F → ℕ) (dl : TargetDataLayout) (repr : ReprOptions) (kind : StructKind) (fields : List H) (layout : LayoutData F V) : Type 0 where
  pub apart : AreApart layout.size (listed_offsets layout.fields) (map (λ f. (layout_of f).size) fields)
  pub placed : LiesInSomeOrder at dl repr kind (map layout_of fields) layout
  pub least : IsLeastSize dl repr kind (map layout_of fields) layout.size
  pub places : HasPlaceForEach layout.fields
  pub ascending : IsAscending number layout.fields
