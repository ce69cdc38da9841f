-- What is promised of the layout of a list of fields, and of its refusal.
use Rattle.std.specs.Prelude.{◌≡◌, ◌≤◌, ◌⊎◌, ℕ, All, Err, IfErr, IfOk, IfSome, IsTrue, List, Result, length, map}
use Rattle.abi_base.specs.declared.data_layout.TargetDataLayout.{TargetDataLayout}
use Rattle.abi_base.specs.declared.struct_kind.StructKind.{StructKind}
use Rattle.abi_base.specs.DataLayout.{size_bound}
use Rattle.abi_scalar.specs.declared.error.LayoutCalculatorError.{LayoutCalculatorError}
use Rattle.abi_scalar.specs.declared.error.LayoutCalculatorError.TheVariants.{BadOrder, OutOfMemory, SizeOverflow}
use Rattle.abi_scalar.specs.declared.layout_data.LayoutData.{LayoutData}
use Rattle.abi_scalar.specs.declared.repr.ReprOptions.{ReprOptions}
use Rattle.abi_scalar.specs.declared.variants.Variants.TheVariants.{Single}
use Rattle.abi_scalar.specs.Lawful.{IsLawfulLayout}
use Rattle.abi_scalar.specs.Order.{HasPlaceForEach, IsAscending}
use Rattle.abi_scalar.specs.Shape.{listed_offsets}
use Rattle.abi_univariant.specs.Answer.{IsAnswer}
use Rattle.abi_univariant.specs.Apart.{AreAligned, AreApart}
use Rattle.abi_univariant.specs.InOrder.{IsOrderedAnswer}
use Rattle.abi_univariant.specs.Least.{IsEachOrderTooLarge, IsLeastSize, IsOrderOf, LiesInOrder, LiesInSomeOrder, size_by}
use Rattle.abi_univariant.specs.List.{AreSized, IsFirstFaultless, IsUnivariantAnswer}
use Rattle.abi_univariant.specs.ListNiche.{HasLargestNiche, IsNicheOfPart}
use Rattle.abi_univariant.specs.Part.{parts_of}
use Rattle.abi_univariant.specs.Placement.{IsSized, cut, fields_repr, start_of, sum_rounded}
use Rattle.abi_calc.specs.Marks.{HasListMarks}
use Rattle.abi_calc.specs.Seen.{view_of_fields}

-- What holds of the layout of these fields as one list, in whatever order they lie. `layout_of` gives a field's layout, `number`
-- the number of a field's index, and `first` is the index of the variant.
pub record IsGoodUnivariant {F V H : Type 0} (layout_of : H → LayoutData F V) (number : F → ℕ) (first : V)
    (dl : TargetDataLayout) (repr : ReprOptions) (kind : StructKind) (fields : List H) (layout : LayoutData F V) : Type 0 where
  -- Fields lie apart and within the size, behind the prefix, at multiples of their alignments as the pack cuts them.
  pub apart : AreApart layout.size (listed_offsets layout.fields) (map (λ f. (layout_of f).size) fields)
  pub after : All (λ o. start_of repr.pack kind ≤ o) (listed_offsets layout.fields)
  pub aligned : AreAligned (listed_offsets layout.fields) (map (λ f. cut repr.pack (layout_of f).align.abi) fields)
  -- The niche is a field's, and none has more free numbers.
  pub niche : IfSome layout.largest_niche (IsNicheOfPart (listed_offsets layout.fields) (map layout_of fields))
  pub largest : HasLargestNiche dl layout.largest_niche (map layout_of fields)
  -- It has one variant, is seen as its fields tell, and has their marks.
  pub single : layout.variants ≡ Single first
  pub view : layout.backend_repr ≡ view_of_fields dl repr (map layout_of fields) layout
  pub marks : HasListMarks dl repr kind (map layout_of fields) layout
  -- The memory order has a place for each field and never steps back.
  pub places : HasPlaceForEach layout.fields
  pub ascending : IsAscending number layout.fields

-- The answer to these fields as one list; `at` makes the index of a field.
pub record IsUnivariant {F V H : Type 0} (layout_of : H → LayoutData F V) (at : ℕ → F) (number : F → ℕ) (first : V)
    (dl : TargetDataLayout) (repr : ReprOptions) (kind : StructKind) (fields : List H)
    (result : Result (LayoutData F V) (LayoutCalculatorError H)) : Type 0 where
  pub exact : IsUnivariantAnswer layout_of at first dl repr kind fields result
  pub lawful : IfOk result (IsLawfulLayout dl)
  pub good : IfOk result (IsGoodUnivariant layout_of number first dl repr kind fields)
  -- The fields lie one after another in an order that the repr and the kind allow, which is the memory order, and the alignment
  -- is the list's.
  pub placed : IfOk result (LiesInSomeOrder at dl repr kind (map layout_of fields))
  -- Some order that is allowed has the size, and none a smaller one.
  pub least : IfOk result (λ l. IsLeastSize dl repr kind (map layout_of fields) l.size)
  -- Where the order is free, sized fields leave no padding but at the end.
  pub sum : IsTrue (fields_repr dl repr kind).reorderable → IsSized kind →
      IfOk result (λ l. l.size ≡ sum_rounded (fields_repr dl repr kind) (parts_of dl (map layout_of fields)))
  -- It is refused for its size only where every allowed order is too large, and a list of sized fields always then; sized fields
  -- are refused by no other name.
  pub too_large : result ≡ Err SizeOverflow → IsEachOrderTooLarge dl repr kind (map layout_of fields)
  pub refused : AreSized (map layout_of fields) → IsEachOrderTooLarge dl repr kind (map layout_of fields) →
      IsAnswer (Err SizeOverflow) result
  pub no_other : AreSized (map layout_of fields) → IfErr result (λ e. (e ≡ SizeOverflow) ⊎ (e ≡ OutOfMemory))
  -- The second order, of a bias to the end, never fails where the first one has no fault.
  pub second : IsFirstFaultless dl repr kind (map layout_of fields) → IfErr result (λ e. e ≡ OutOfMemory)

-- The answer to these fields as one list in the order that is handed in.
pub record IsUnivariantInOrder {F V H : Type 0} (layout_of : H → LayoutData F V) (at : ℕ → F) (number : F → ℕ) (first : V)
    (dl : TargetDataLayout) (repr : ReprOptions) (kind : StructKind) (order : List F) (fields : List H)
    (result : Result (LayoutData F V) (LayoutCalculatorError H)) : Type 0 where
  pub exact : IsOrderedAnswer layout_of at first dl repr kind (map number order) fields result
  pub lawful : IfOk result (IsLawfulLayout dl)
  pub good : IfOk result (IsGoodUnivariant layout_of number first dl repr kind fields)
  -- The fields lie one after another in this order, which is the memory order, and the alignment is the list's.
  pub placed : IfOk result (LiesInOrder number dl repr kind (map layout_of fields) order)
  -- It is refused as a bad order where the order isn't allowed, memory aside, and nowhere else.
  pub bad_order : result ≡ Err BadOrder → IsOrderOf dl repr kind (length fields) (map number order) → ⊥
  pub bad_order_reported : (IsOrderOf dl repr kind (length fields) (map number order) → ⊥) → IsAnswer (Err BadOrder) result
  -- It is refused for its size only where it is too large in this order, and a list of sized fields always then; sized fields in
  -- an allowed order are refused by no other name.
  pub too_large : result ≡ Err SizeOverflow → size_bound dl ≤ size_by dl repr kind (map layout_of fields) (map number order)
  pub refused : AreSized (map layout_of fields) → IsOrderOf dl repr kind (length fields) (map number order) →
      size_bound dl ≤ size_by dl repr kind (map layout_of fields) (map number order) → IsAnswer (Err SizeOverflow) result
  pub no_other : AreSized (map layout_of fields) → IsOrderOf dl repr kind (length fields) (map number order) →
      IfErr result (λ e. (e ≡ SizeOverflow) ⊎ (e ≡ OutOfMemory))
