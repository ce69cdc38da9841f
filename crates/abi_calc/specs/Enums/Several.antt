-- The answer to an enum of several variants.
use Rattle.std.specs.Prelude.{◌≡◌, ◌≢◌, ℕ, ◌%◌, ◌≤◌, ◌⊎◌, Bool, IsSome, ℤ, List, map, Option, None, Result, Ok, Err}
use Rattle.std.specs.List.{AllPairs}
use Rattle.abi_base.specs.declared.data_layout.TargetDataLayout.{TargetDataLayout}
use Rattle.abi_base.specs.declared.integer.Integer.{Integer}
use Rattle.abi_base.specs.Integer.{integer_size}
use Rattle.abi_base.specs.IntegerType.{integer_of_type}
use Rattle.abi_scalar.specs.declared.error.LayoutCalculatorError.{LayoutCalculatorError}
use Rattle.abi_scalar.specs.declared.error.LayoutCalculatorError.TheVariants.{OutOfMemory, ReprConflict}
use Rattle.abi_scalar.specs.declared.layout_data.LayoutData.{LayoutData}
use Rattle.abi_scalar.specs.declared.repr.ReprOptions.{ReprOptions}
use Rattle.abi_scalar.specs.declared.variants.RangeFrom.{RangeFrom}
use Rattle.abi_scalar.specs.declared.variants.RangeToInclusive.{RangeToInclusive}
use Rattle.abi_scalar.specs.Range.{numbers_of}
use Rattle.abi_scalar.specs.Repr.{discr_type_of}
use Rattle.abi_calc.specs.Enums.Choice.{IsNicheAnswer, preferred_layout}
use Rattle.abi_calc.specs.Enums.Discriminants.{IsAskedWith, counted_discriminants, inhabited_of}
use Rattle.abi_calc.specs.Enums.Lists.{AreListLayouts, HaveGoodLists, behind_tag}
use Rattle.abi_calc.specs.Enums.Room.{IsEnumSize}
use Rattle.abi_calc.specs.Enums.Sizes.{IsTaggedSize, IsTaggedTooLarge}
use Rattle.abi_calc.specs.Enums.Tagged.{IsTaggedAnswer}

-- this integer is answered where a tag's is asked for with the ends of what these discriminants stand for; `asks` relates the ends
-- and the integer
abbrev pub IsAskedFor : TargetDataLayout → ReprOptions → (asks : RangeFrom ℤ → RangeToInclusive ℕ → Integer × Bool → Type 0) → (values : List ℕ) → (asked : Integer) → (signed : Bool) → Type 0
IsAskedFor dl repr asks values asked signed =
    (least : ℤ) × (greatest : ℕ) × IsAskedWith dl repr values least greatest × asks (record { start = least }) (record { last = greatest }) (asked, signed)

-- the answer with a tag of the integer that is asked for
abbrev pub IsAskedAnswer : {F V H : Type 0} → (layout_of : H → LayoutData F V) → (at : ℕ → F) → (number : F → ℕ) → (first : V) → TargetDataLayout → ReprOptions
    → (asks : RangeFrom ℤ → RangeToInclusive ℕ → Integer × Bool → Type 0) → (values : List ℕ) → (variants : List (List H)) → Result (LayoutData F V) (LayoutCalculatorError H) → Type 0
IsAskedAnswer layout_of at number first dl repr asks values variants result =
    (asked : Integer) × (signed : Bool) × IsAskedFor dl repr asks values asked signed × IsTaggedAnswer layout_of at number first dl repr asked signed values variants result

-- What the answer to that question has to be: an integer no wider than the type of the discriminants, by which those of the
-- variants that may have values differ.
pub record IsLawfulTag (dl : TargetDataLayout) (repr : ReprOptions) (values : List ℕ) (asked : Integer) : Type 0 where
  pub most : integer_size asked ≤ integer_size (integer_of_type dl (discr_type_of repr))
  pub differ : AllPairs (λ v w. v % numbers_of (integer_size asked) ≢ w % numbers_of (integer_size asked)) values

-- each answer is such an integer; `number` gives the place of a variant
abbrev pub AreWellFormedTags : {F V : Type 0} → (number : V → ℕ) → TargetDataLayout → ReprOptions → (asks : RangeFrom ℤ → RangeToInclusive ℕ → Integer × Bool → Type 0)
    → (variants : List (List (LayoutData F V))) → (items : List (V × ℕ)) → Type 0
AreWellFormedTags number dl repr asks variants items =
    (asked : Integer) (signed : Bool) → IsAskedFor dl repr asks (counted_discriminants number repr variants items) asked signed → IsLawfulTag dl repr (inhabited_of number variants items) asked

-- the better of the layout with a tag, where it is there, and of the one with a niche
abbrev pub better_of : {F V H : Type 0} → TargetDataLayout → (tagged : Result (LayoutData F V) (LayoutCalculatorError H)) → (niche : Option (LayoutData F V)) → Result (LayoutData F V) (LayoutCalculatorError H)
better_of dl (Ok tagged) niche = Ok (preferred_layout dl tagged niche)
better_of dl (Err error) niche = Err error

-- the better of the answer with a tag that is asked for as this integer and of this layout with a niche
abbrev pub IsBetterAnswer : {F V H : Type 0} → (layout_of : H → LayoutData F V) → (at : ℕ → F) → (number : F → ℕ) → (first : V) → TargetDataLayout → ReprOptions → (asked : Integer) → (signed : Bool)
    → (values : List ℕ) → (variants : List (List H)) → (niche : Option (LayoutData F V)) → Result (LayoutData F V) (LayoutCalculatorError H) → Type 0
IsBetterAnswer layout_of at number first dl repr asked signed values variants niche result =
    (tagged : Result (LayoutData _ _) (LayoutCalculatorError _)) × IsTaggedAnswer layout_of at number first dl repr asked signed values variants tagged
    × (result ≡ better_of dl tagged niche)

-- the same of the layout with a niche that the rules give, if there is one; `index` makes the index of a variant
abbrev pub IsBestAnswer : {F V H : Type 0} → (layout_of : H → LayoutData F V) → (at : ℕ → F) → (number : F → ℕ) → (index : ℕ → V) → TargetDataLayout → ReprOptions → (asked : Integer) → (signed : Bool)
    → (values : List ℕ) → (variants : List (List H)) → Result (LayoutData F V) (LayoutCalculatorError H) → Type 0
IsBestAnswer layout_of at number index dl repr asked signed values variants result =
    (niche : Option (LayoutData _ _)) × IsNicheAnswer AreListLayouts layout_of at index dl repr variants niche
    × IsBetterAnswer layout_of at number (index 0) dl repr asked signed values variants niche result

-- the answer to an enum of several variants that isn't packed, memory aside: that with a tag, or the layout with a niche where that
-- is the better one; `index` makes the index of a variant, and `place` gives its number
abbrev pub IsEnumAnswer : {F V H : Type 0} → (layout_of : H → LayoutData F V) → (at : ℕ → F) → (number : F → ℕ) → (index : ℕ → V) → (place : V → ℕ) → TargetDataLayout → ReprOptions
    → (asks : RangeFrom ℤ → RangeToInclusive ℕ → Integer × Bool → Type 0) → (variants : List (List H)) → (items : List (V × ℕ)) → Result (LayoutData F V) (LayoutCalculatorError H) → Type 0
IsEnumAnswer layout_of at number index place dl repr asks variants items result =
    (result ≡ Err OutOfMemory)
    ⊎ ((niche : Option (LayoutData _ _)) × IsNicheAnswer AreListLayouts layout_of at index dl repr variants niche
    × (tagged : Result (LayoutData _ _) (LayoutCalculatorError _)) × IsAskedAnswer layout_of at number (index 0) dl repr asks (counted_discriminants place repr (map (map layout_of) variants) items) variants tagged
    × (result ≡ better_of dl tagged niche))

-- packed variants are refused, whatever their fields; else it is that answer for the discriminants that are given
abbrev pub IsSeveralAnswer : {F V H : Type 0} → (layout_of : H → LayoutData F V) → (at : ℕ → F) → (number : F → ℕ) → (index : ℕ → V) → (place : V → ℕ) → TargetDataLayout → ReprOptions
    → (asks : RangeFrom ℤ → RangeToInclusive ℕ → Integer × Bool → Type 0) → (variants : List (List H)) → (gives : List (V × ℕ) → Type 0) → Result (LayoutData F V) (LayoutCalculatorError H) → Type 0
IsSeveralAnswer layout_of at number index place dl repr asks variants gives result =
    (IsSome repr.pack × (result ≡ Err ReprConflict)) ⊎ ((repr.pack ≡ None) × (result ≡ Err OutOfMemory))
    ⊎ ((repr.pack ≡ None) × (items : List (_ × ℕ)) × gives items × IsEnumAnswer layout_of at number index place dl repr asks variants items result)

-- the tagged size, by the integer that is asked for, behind which each variant's fields have a layout
abbrev pub HasTaggedSize : {F V H : Type 0} → (layout_of : H → LayoutData F V) → (at : ℕ → F) → (first : V) → TargetDataLayout → ReprOptions
    → (asks : RangeFrom ℤ → RangeToInclusive ℕ → Integer × Bool → Type 0) → (values : List ℕ) → (variants : List (List H)) → (size : ℕ) → Type 0
HasTaggedSize layout_of at first dl repr asks values variants size =
    (asked : Integer) × (signed : Bool) × IsAskedFor dl repr asks values asked signed
    × IsTaggedSize dl repr (behind_tag dl repr asked (map (map layout_of) variants)) (map (map layout_of) variants) size
    × HaveGoodLists layout_of at first dl repr (behind_tag dl repr asked (map (map layout_of) variants)) variants

-- how large the enum is, by the integer that is asked for
abbrev pub HasEnumSize : {F V H : Type 0} → (layout_of : H → LayoutData F V) → (at : ℕ → F) → (first : V) → TargetDataLayout → ReprOptions
    → (asks : RangeFrom ℤ → RangeToInclusive ℕ → Integer × Bool → Type 0) → (values : List ℕ) → (variants : List (List H)) → (size : ℕ) → Type 0
HasEnumSize layout_of at first dl repr asks values variants size =
    (asked : Integer) × (signed : Bool) × IsAskedFor dl repr asks values asked signed
    × IsEnumSize layout_of at first dl repr (behind_tag dl repr asked (map (map layout_of) variants)) variants size

-- some variant's list behind the integer that is asked for is too large in every allowed order, or the tagged size is
abbrev pub IsAskedTooLarge : {F V : Type 0} → TargetDataLayout → ReprOptions → (asks : RangeFrom ℤ → RangeToInclusive ℕ → Integer × Bool → Type 0) → (values : List ℕ)
    → (variants : List (List (LayoutData F V))) → Type 0
IsAskedTooLarge dl repr asks values variants =
    (asked : Integer) × (signed : Bool) × IsAskedFor dl repr asks values asked signed × IsTaggedTooLarge dl repr (behind_tag dl repr asked variants) variants

-- the same by whatever integer is answered
abbrev pub IsAlwaysTooLarge : {F V : Type 0} → TargetDataLayout → ReprOptions → (asks : RangeFrom ℤ → RangeToInclusive ℕ → Integer × Bool → Type 0) → (values : List ℕ)
    → (variants : List (List (LayoutData F V))) → Type 0
IsAlwaysTooLarge dl repr asks values variants =
    (asked : Integer) (signed : Bool) → IsAskedFor dl repr asks values asked signed → IsTaggedTooLarge dl repr (behind_tag dl repr asked variants) variants
