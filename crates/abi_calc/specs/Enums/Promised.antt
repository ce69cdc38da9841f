-- What is promised of a struct or an enum: of a type that is the list of its fields, and of one of several variants.
use Rattle.std.specs.Prelude.{◌≡◌, ◌⊎◌, ℕ, All, Bool, Err, IfErr, IfOk, IsSome, IsTrue, List, None, Ok, Option, Result, ℤ, false, map}
use Rattle.std.specs.Iterator.Runs.{EachRunFrom, WholeRun}
use Rattle.std.specs.List.{list_all}
use Rattle.abi_base.specs.declared.data_layout.TargetDataLayout.{TargetDataLayout}
use Rattle.abi_base.specs.declared.integer.Integer.{Integer}
use Rattle.abi_base.specs.Integer.{integer_size}
use Rattle.abi_base.specs.declared.niche_optimizations.NicheOptimizations.{NicheOptimizations}
use Rattle.abi_base.specs.declared.struct_kind.StructKind.{StructKind}
use Rattle.abi_scalar.specs.declared.error.LayoutCalculatorError.{LayoutCalculatorError}
use Rattle.abi_scalar.specs.declared.error.LayoutCalculatorError.TheVariants.{OutOfMemory, ReprConflict, SizeOverflow}
use Rattle.abi_scalar.specs.declared.layout_data.LayoutData.{LayoutData}
use Rattle.abi_scalar.specs.declared.repr.ReprOptions.{ReprOptions}
use Rattle.abi_scalar.specs.declared.variants.RangeFrom.{RangeFrom}
use Rattle.abi_scalar.specs.declared.variants.RangeToInclusive.{RangeToInclusive}
use Rattle.abi_scalar.specs.Simple.{never_layout}
use Rattle.abi_scalar.specs.Variant.{variants_of}
use Rattle.abi_univariant.specs.Answer.{IsAnswer}
use Rattle.abi_univariant.specs.Least.{IsEachOrderTooLarge}
use Rattle.abi_univariant.specs.List.{AreSized}
use Rattle.abi_univariant.specs.Part.{is_unsized}
use Rattle.abi_calc.specs.Enums.Answer.{IsGoodSingle, kind_at}
use Rattle.abi_calc.specs.Enums.Beside.{AreDistinguished}
use Rattle.abi_calc.specs.Enums.Discriminants.{counted_discriminants}
use Rattle.abi_calc.specs.Enums.Lists.{HaveGoodLists, behind_tag}
use Rattle.abi_calc.specs.Enums.Made.{AreVariantsAligned, HasLeastTag, IsMadeOfLists}
use Rattle.abi_calc.specs.declared.enums.strategy.EnumStrategy.TheVariants.{NoValue, OneList, Several}
use Rattle.abi_calc.specs.Enums.EnumStrategy.{has_no_value, strategy_of, variant_at}
use Rattle.abi_calc.specs.Enums.Places.{AreApartAmong, AreNumbersAmong, DifferAmong, HasViewOfTag}
use Rattle.abi_calc.specs.Enums.Several.{HasEnumSize, IsAlwaysTooLarge, IsAskedTooLarge}
use Rattle.abi_calc.specs.Enums.Sizes.{IsTaggedSize, IsTaggedTooLarge}
use Rattle.abi_calc.specs.Ordered.{IsOrderedWhole, IsTagField}
use Rattle.abi_calc.specs.Seen.{HasViewOfFields}

-- A type that is one list is laid out and refused as `layout_of_univariant` does it. `index` is that of its variant.
pub record IsListedType {F V H : Type 0} (layout_of : H → LayoutData F V) (at : ℕ → F) (number : F → ℕ) (index : V)
    (dl : TargetDataLayout) (repr : ReprOptions) (optimizations : NicheOptimizations) (kind : StructKind) (fields : List H)
    (result : Result (LayoutData F V) (LayoutCalculatorError H)) : Type 0 where
  pub good : IfOk result (IsGoodSingle layout_of at number dl repr kind fields)
  -- It has one variant, and the niche, the view and the marks of the list, where niches may be used.
  pub seen : IfOk result (HasViewOfFields index dl repr kind optimizations (map layout_of fields))
  -- It is refused for its size only where every allowed order is too large, and a list of sized fields always then; sized fields
  -- are refused by no other name.
  pub too_large : result ≡ Err SizeOverflow → IsEachOrderTooLarge dl repr kind (map layout_of fields)
  pub refused : AreSized (map layout_of fields) → IsEachOrderTooLarge dl repr kind (map layout_of fields) →
      IsAnswer (Err SizeOverflow) result
  pub no_other : AreSized (map layout_of fields) → IfErr result (λ e. (e ≡ SizeOverflow) ⊎ (e ≡ OutOfMemory))

-- What holds of the layout of several variants, whatever their discriminants are.
pub record IsGoodEnum {F V : Type 0} (number : F → ℕ) (layouts : List (List (LayoutData F V))) (layout : LayoutData F V) : Type 0 where
  -- It has no values where none of the variants may have one, and is sized.
  pub uninhabited : layout.uninhabited ≡ list_all has_no_value layouts
  pub sized : is_unsized layout.backend_repr ≡ false
  -- The tag is field 0, fields lie at multiples of their alignments, and memory order never steps back.
  pub tag_field : IsTagField number 0 layout.variants
  pub aligned : AreVariantsAligned layouts (variants_of layout.variants)
  pub ordered : IsOrderedWhole number layout

-- How large an enum is whose tag is asked for as this integer, and when it is refused for its size. `first` is the index of the first
-- variant.
pub record IsSizedByTag {F V H : Type 0} (layout_of : H → LayoutData F V) (at : ℕ → F) (first : V) (dl : TargetDataLayout) (repr : ReprOptions)
    (asked : Integer) (variants : List (List H)) (result : Result (LayoutData F V) (LayoutCalculatorError H)) : Type 0 where
  -- Behind the tag each variant's fields have a layout, and the size is the greatest of their least sizes, rounded up to the greatest of
  -- their alignments.
  pub good : IfOk result (λ l. HaveGoodLists layout_of at first dl repr (behind_tag dl repr asked (map (map layout_of) variants)) variants)
  pub size : IfOk result (λ l. IsTaggedSize dl repr (behind_tag dl repr asked (map (map layout_of) variants)) (map (map layout_of) variants) l.size)
  -- It is refused for its size only where every allowed order of some list is too large, or that size is, and sized fields always then;
  -- sized fields are refused by no other name.
  pub too_large : result ≡ Err SizeOverflow →
      IsTaggedTooLarge dl repr (behind_tag dl repr asked (map (map layout_of) variants)) (map (map layout_of) variants)
  pub refused : All AreSized (map (map layout_of) variants) →
      IsTaggedTooLarge dl repr (behind_tag dl repr asked (map (map layout_of) variants)) (map (map layout_of) variants) →
      IsAnswer (Err SizeOverflow) result
  pub no_other : All AreSized (map (map layout_of) variants) → IfErr result (λ e. (e ≡ SizeOverflow) ⊎ (e ≡ OutOfMemory))

-- Where the tag and the fields of an enum lie whose tag was asked for as this integer, and which numbers the tag has.
pub record IsPlacedByTag {F V : Type 0} (dl : TargetDataLayout) (asked : Integer) (values : List ℕ) (layouts : List (List (LayoutData F V)))
    (layout : LayoutData F V) : Type 0 where
  -- A view of scalars begins with the tag, and what stands beside it holds anything.
  pub view : HasViewOfTag dl layout
  -- The tag and the fields of each variant share no byte, and end inside.
  pub apart : AreApartAmong dl layout.size layouts layout.variants
  -- Each discriminant that counts is a number of the tag, cut to its width, and those that differ by the integer that was asked for differ
  -- there too.
  pub numbers : AreNumbersAmong dl values layout.variants
  pub differ : DifferAmong dl (integer_size asked) values layout.variants

-- How large an enum that isn't packed is, and when it is refused for its size. `HasSize` gives the size by the data layout, what the
-- enum asks for, which integer the tag gets, the discriminants that count, and the variants' fields.
pub record IsSizedEnum {F V H : Type 0} (layout_of : H → LayoutData F V)
    (HasSize : TargetDataLayout → ReprOptions → (RangeFrom ℤ → RangeToInclusive ℕ → Integer × Bool → Type 0) → List ℕ → List (List H) → ℕ → Type 0)
    (dl : TargetDataLayout) (repr : ReprOptions) (asks : RangeFrom ℤ → RangeToInclusive ℕ → Integer × Bool → Type 0)
    (values : List ℕ) (variants : List (List H)) (result : Result (LayoutData F V) (LayoutCalculatorError H)) : Type 0 where
  pub size : IfOk result (λ l. HasSize dl repr asks values variants l.size)
  -- It is refused for its size only where a list behind the tag, or the tagged size, is too large, and sized fields always then; sized
  -- fields are refused by no other name.
  pub too_large : result ≡ Err SizeOverflow → IsAskedTooLarge dl repr asks values (map (map layout_of) variants)
  pub refused : All AreSized (map (map layout_of) variants) → IsAlwaysTooLarge dl repr asks values (map (map layout_of) variants) →
      IsAnswer (Err SizeOverflow) result
  pub no_other : All AreSized (map (map layout_of) variants) → IfErr result (λ e. (e ≡ SizeOverflow) ⊎ (e ≡ OutOfMemory))

-- How large several variants are, and when they are refused. `first` is the index of the first variant and `place` gives the number
-- of one; `asks` gives the tag's integer, and `gives`, from `given` on, the discriminants.
pub record AreSizedVariants {F V H S : Type 0} (layout_of : H → LayoutData F V) (at : ℕ → F) (first : V) (place : V → ℕ)
    (dl : TargetDataLayout) (repr : ReprOptions) (asks : RangeFrom ℤ → RangeToInclusive ℕ → Integer × Bool → Type 0)
    (gives : S → Option (V × ℕ) → S → Type 0) (given : S) (variants : List (List H))
    (result : Result (LayoutData F V) (LayoutCalculatorError H)) : Type 0 where
  -- The size is that of the variants' always sized lists where these leave room for a niche, else the tagged size.
  pub size : IfOk result (λ l. WholeRun gives given (λ run.
      HasEnumSize layout_of at first dl repr asks (counted_discriminants place repr (map (map layout_of) variants) run.items) variants l.size))
  -- They are refused where they are packed, and for their size only where a list behind the tag, or the tagged size, is too large,
  -- and sized fields always then; sized fields are refused by no other name.
  pub packed : IsSome repr.pack → result ≡ Err ReprConflict
  pub too_large : result ≡ Err SizeOverflow → WholeRun gives given (λ run.
      IsAskedTooLarge dl repr asks (counted_discriminants place repr (map (map layout_of) variants) run.items) (map (map layout_of) variants))
  pub refused : repr.pack ≡ None → All AreSized (map (map layout_of) variants) →
      EachRunFrom gives given (λ run. IsTrue run.whole →
      IsAlwaysTooLarge dl repr asks (counted_discriminants place repr (map (map layout_of) variants) run.items) (map (map layout_of) variants)) →
      IsAnswer (Err SizeOverflow) result
  pub no_other : repr.pack ≡ None → All AreSized (map (map layout_of) variants) →
      IfErr result (λ e. (e ≡ SizeOverflow) ⊎ (e ≡ OutOfMemory))

-- The answer to several variants. `first` is the index of the first variant and `place` gives the number of one; `asks` gives the
-- tag's integer, and `gives`, from `given` on, the discriminants.
pub record AreSeveralVariants {F V H S : Type 0} (layout_of : H → LayoutData F V) (at : ℕ → F) (number : F → ℕ) (first : V) (place : V → ℕ)
    (dl : TargetDataLayout) (repr : ReprOptions) (asks : RangeFrom ℤ → RangeToInclusive ℕ → Integer × Bool → Type 0)
    (gives : S → Option (V × ℕ) → S → Type 0) (given : S) (variants : List (List H))
    (result : Result (LayoutData F V) (LayoutCalculatorError H)) : Type 0 where
  pub good : IfOk result (IsGoodEnum number (map (map layout_of) variants))
  -- They are distinguished by a tag of its own, behind which their fields lie, or by a niche of the untagged one.
  pub tag_distinguishes : IfOk result (λ l. WholeRun gives given (λ run. AreDistinguished dl place (map (map layout_of) variants) run.items l))
  -- Each variant is laid out as a list, in an allowed order of the least size; the alignment is the greatest of these lists', and
  -- the marks are theirs.
  pub made : IfOk result (λ l. WholeRun gives given (λ run.
      IsMadeOfLists at number place dl repr asks (counted_discriminants place repr (map (map layout_of) variants) run.items) (map (map layout_of) variants) l))
  -- A tag of its own holds the least range of the discriminants that count.
  pub tag : IfOk result (λ l. WholeRun gives given (λ run.
      HasLeastTag (counted_discriminants place repr (map (map layout_of) variants) run.items) l.variants))
  -- How large they are, and when they are refused.
  pub sized : AreSizedVariants layout_of at first place dl repr asks gives given variants result

-- The answer to a struct or an enum, by the way that its variants tell: none of them has a value, one is present, or there are
-- several. `at` and `index` make the indices of a field and of a variant, `number` and `place` tell the numbers of these.
pub record IsStructOrEnum {F V H S : Type 0} (layout_of : H → LayoutData F V) (at : ℕ → F) (number : F → ℕ) (index : ℕ → V) (place : V → ℕ)
    (dl : TargetDataLayout) (repr : ReprOptions) (is_enum always_sized : Bool) (optimizations : NicheOptimizations)
    (asks : RangeFrom ℤ → RangeToInclusive ℕ → Integer × Bool → Type 0) (gives : S → Option (V × ℕ) → S → Type 0) (given : S)
    (variants : List (List H)) (result : Result (LayoutData F V) (LayoutCalculatorError H)) : Type 0 where
  pub never : strategy_of is_enum repr (map (map layout_of) variants) ≡ NoValue → result ≡ Ok (never_layout dl)
  pub listed : (i : ℕ) → strategy_of is_enum repr (map (map layout_of) variants) ≡ OneList i →
      IsListedType layout_of at number (index i) dl repr optimizations (kind_at is_enum always_sized variants i) (variant_at variants i) result
  pub several : strategy_of is_enum repr (map (map layout_of) variants) ≡ Several →
      AreSeveralVariants layout_of at number (index 0) place dl repr asks gives given variants result
