-- What is promised of the layout of a coroutine, and of its refusal. `at` makes the index of a field, `number` gives the number of one,
-- and `zeroth` is the index of the layout's one variant; a state is the list of its locals' numbers.
use Rattle.std.specs.Prelude.{◌≡◌, ◌⊎◌, ℕ, Bool, Err, IfErr, IfOk, List, None, Result, true}
use Rattle.abi_base.specs.declared.data_layout.TargetDataLayout.{TargetDataLayout}
use Rattle.abi_index.specs.Relation.{Relation, column_count, row_count}
use Rattle.abi_scalar.specs.declared.backend_repr.BackendRepr.TheVariants.{Memory}
use Rattle.abi_scalar.specs.declared.error.LayoutCalculatorError.{LayoutCalculatorError}
use Rattle.abi_scalar.specs.declared.error.LayoutCalculatorError.TheVariants.{OutOfMemory, SizeOverflow}
use Rattle.abi_scalar.specs.declared.layout_data.LayoutData.{LayoutData}
use Rattle.abi_scalar.specs.Variant.{variants_of}
use Rattle.abi_univariant.specs.Answer.{IsAnswer}
use Rattle.abi_univariant.specs.List.{AreSized}
use Rattle.abi_calc.specs.Coroutine.Clash.{AreClashingApart, HaveOneOffset, IsDistinguishedByState}
use Rattle.abi_calc.specs.Coroutine.Made.{IsAlignedAsLists, IsMadeOfStates}
use Rattle.abi_calc.specs.Coroutine.Promotion.{promoted_of}
use Rattle.abi_calc.specs.Coroutine.Sizes.{IsOverlapSize, IsSizeWith, IsTooLargeWith, MayOverlap}
use Rattle.abi_calc.specs.Marks.{HasCoroutineMarks}
use Rattle.abi_calc.specs.Ordered.{IsOrderedWhole}

-- What holds of the layout of a coroutine.
pub record IsGoodCoroutine {F V : Type 0} (at : ℕ → F) (number : F → ℕ) (zeroth : V) (dl : TargetDataLayout)
    (prefix locals : List (LayoutData F V)) (states : List (List ℕ)) (conflicts : Relation) (layout : LayoutData F V) : Type 0 where
  -- It has no niche, is seen as bytes in memory, is aligned as the greatest of its lists is, and has no values where the first list
  -- has none, or each state's.
  pub niche : layout.largest_niche ≡ None
  pub view : layout.backend_repr ≡ Memory true
  pub alignment : IsAlignedAsLists zeroth dl prefix locals states conflicts layout
  pub marks : HasCoroutineMarks prefix locals states conflicts layout
  -- Its fields, and those of each state, have a place in memory order each, which never steps back.
  pub ordered : IsOrderedWhole number layout
  -- Each of its lists lies in an allowed order of the least size, and its fields lie where the lists have them, in their orders.
  pub made : IsMadeOfStates at number zeroth dl prefix locals states conflicts layout
  -- The prefix fields, the tag and the locals of each state share no byte, and the tag may hold each state's index.
  pub tag_distinguishes : IsDistinguishedByState dl at prefix locals states layout
  -- Different locals that one state holds, or that conflict in either direction, share no byte, and a local has one offset.
  pub clash : AreClashingApart states conflicts locals (variants_of layout.variants)
  pub one_offset : HaveOneOffset states (variants_of layout.variants)

-- These locals are promoted where the states demand it, and conflicts between this count of locals.
pub record ArePromotedBy (count : ℕ) (states : List (List ℕ)) (promoted : List Bool) (conflicts : Relation) : Type 0 where
  pub by : promoted ≡ promoted_of states conflicts
  pub rows : row_count conflicts ≡ count
  pub columns : column_count conflicts ≡ count

-- Different locals that one state holds, or that conflict in either direction, share no byte, and a local has one offset.
pub record HasLocalsApart {F V : Type 0} (states : List (List ℕ)) (conflicts : Relation) (locals : List (LayoutData F V)) (layout : LayoutData F V) : Type 0 where
  pub clash : AreClashingApart states conflicts locals (variants_of layout.variants)
  pub one_offset : HaveOneOffset states (variants_of layout.variants)

-- How large a coroutine is of which these locals are promoted, whose tag has this layout.
pub record IsSizedPromoted {F V H : Type 0} (dl : TargetDataLayout) (prefix : List (LayoutData F V)) (tag : LayoutData F V)
    (locals : List (LayoutData F V)) (states : List (List ℕ)) (promoted : List Bool)
    (result : Result (LayoutData F V) (LayoutCalculatorError H)) : Type 0 where
  -- The size is that of the first list and those behind it, each of its least size.
  pub size : IfOk result (λ l. IsSizeWith dl prefix tag locals states promoted l.size)
  -- It is refused for its size only where a list is too large in each allowed order, or that size is, and sized fields always then;
  -- sized fields are refused by no other name.
  pub too_large : result ≡ Err SizeOverflow → IsTooLargeWith dl prefix tag locals states promoted
  pub refused : AreSized prefix → AreSized locals → IsTooLargeWith dl prefix tag locals states promoted → IsAnswer (Err SizeOverflow) result
  pub no_other : AreSized prefix → AreSized locals → IfErr result (λ e. (e ≡ SizeOverflow) ⊎ (e ≡ OutOfMemory))

-- How large a coroutine is whose tag has this layout.
pub record IsSizedCoroutine {F V H : Type 0} (dl : TargetDataLayout) (prefix : List (LayoutData F V)) (tag : LayoutData F V)
    (locals : List (LayoutData F V)) (states : List (List ℕ)) (conflicts : Relation)
    (result : Result (LayoutData F V) (LayoutCalculatorError H)) : Type 0 where
  -- The size is that of the first list and those behind it, each of its least size.
  pub size : IfOk result (λ l. IsSizeWith dl prefix tag locals states (promoted_of states conflicts) l.size)
  -- Where each local stands in one state, several states hold locals and no conflict joins two of them, the states share all their
  -- bytes: no local is promoted.
  pub overlap : MayOverlap (row_count conflicts) states conflicts → IfOk result (λ l. IsOverlapSize dl prefix tag locals states l.size)
  -- It is refused for its size only where a list is too large in each allowed order, or that size is, and sized fields always then.
  pub too_large : result ≡ Err SizeOverflow → IsTooLargeWith dl prefix tag locals states (promoted_of states conflicts)
  pub refused : AreSized prefix → AreSized locals → IsTooLargeWith dl prefix tag locals states (promoted_of states conflicts) →
      IsAnswer (Err SizeOverflow) result
  -- Sized fields are refused by no other name.
  pub no_other : AreSized prefix → AreSized locals → IfErr result (λ e. (e ≡ SizeOverflow) ⊎ (e ≡ OutOfMemory))
