-- What a coroutine takes over from the lists that it is made of.
use Rattle.std.specs.Prelude.{◌≡◌, ℕ, ◌+◌, ⊤, Bool, List, [], ◌∷◌, drop, filter, length, map, nat_lt, take}
use Rattle.abi_base.specs.declared.data_layout.TargetDataLayout.{TargetDataLayout}
use Rattle.abi_base.specs.declared.struct_kind.StructKind.TheVariants.{AlwaysSized}
use Rattle.abi_index.specs.Relation.{Relation}
use Rattle.abi_scalar.specs.declared.layout_data.LayoutData.{LayoutData}
use Rattle.abi_scalar.specs.declared.scalar.Scalar.{Scalar}
use Rattle.abi_scalar.specs.declared.variants.TagEncoding.TheVariants.{Direct}
use Rattle.abi_scalar.specs.declared.variants.VariantLayout.{VariantLayout}
use Rattle.abi_scalar.specs.declared.variants.Variants.TheVariants.{Multiple}
use Rattle.abi_scalar.specs.Shape.{listed_offsets, listed_order}
use Rattle.abi_scalar.specs.Simple.{scalar_layout}
use Rattle.abi_scalar.specs.Variant.{variants_of}
use Rattle.abi_calc.specs.Coroutine.Layout.{IsStateTag}
use Rattle.abi_calc.specs.Coroutine.Lists.{state_list_kind, default_repr, first_list}
use Rattle.abi_calc.specs.Coroutine.Promotion.{promoted_of}
use Rattle.abi_calc.specs.Coroutine.Sizes.{align_of_all, own_lists}
use Rattle.abi_calc.specs.Coroutine.States.{ranks_of, state_offsets, state_order}
use Rattle.abi_calc.specs.Made.{AreFieldLists, IsFieldList}

-- the alignment is the greatest of the first list's and of those behind it, which the first list's size doesn't change
abbrev pub IsAlignedAsLists : {F V : Type 0} → (zeroth : V) → TargetDataLayout → (prefix locals : List (LayoutData F V)) → (states : List (List ℕ)) → Relation → LayoutData F V → Type 0
IsAlignedAsLists zeroth dl prefix locals states conflicts layout =
    (tag : Scalar) × IsStateTag (length states) tag
    × (layout.align.abi ≡ align_of_all dl (first_list prefix (scalar_layout zeroth dl tag) locals (promoted_of states conflicts)) 0 (own_lists locals (promoted_of states conflicts) states))

-- A state in the whole, from its own list: its promoted locals lie where the first list has them, by rank, the others where its
-- own does; in memory the promoted ones follow one another as these ranks do, and the others as in their list.
pub record IsStateOf {F V : Type 0} (at : ℕ → F) (number : F → ℕ) (promoted : List Bool) (shared ranks state : List ℕ) (list : LayoutData F V) (layout : VariantLayout F) : Type 0 where
  pub offsets : layout.field_offsets ≡ state_offsets promoted shared (listed_offsets list.fields) state
  pub order : layout.fields_in_memory_order ≡ map at (state_order promoted ranks (map number (listed_order list.fields)) state)
  pub size : layout.size ≡ list.size
  pub view : layout.backend_repr ≡ list.backend_repr
  pub niche : layout.largest_niche ≡ list.largest_niche
  pub uninhabited : layout.uninhabited ≡ list.uninhabited

-- each state from its list
abbrev pub AreStatesOf : {F V : Type 0} → (at : ℕ → F) → (number : F → ℕ) → (promoted : List Bool) → (shared ranks : List ℕ) → (states : List (List ℕ)) → (lists : List (LayoutData F V))
    → (layouts : List (VariantLayout F)) → Type 0
AreStatesOf at number promoted shared ranks [] [] [] = ⊤
AreStatesOf at number promoted shared ranks (state ∷ states) (list ∷ lists) (layout ∷ layouts) =
    IsStateOf at number promoted shared ranks state list layout × AreStatesOf at number promoted shared ranks states lists layouts
AreStatesOf at number promoted shared ranks _ _ _ = ⊥

-- A coroutine is made of its lists: the first one, of the prefix fields, the tag and the promoted locals, and behind it one of
-- each state's other locals. The tag, which distinguishes the states, is that of so many; the prefix fields and it lie where the first list has them, and in its order.
pub record IsMadeOfStates {F V : Type 0} (at : ℕ → F) (number : F → ℕ) (zeroth : V) (dl : TargetDataLayout) (prefix locals : List (LayoutData F V)) (states : List (List ℕ)) (conflicts : Relation) (layout : LayoutData F V) : Type 0 where
  pub tag : Scalar
  pub is_state_tag : IsStateTag (length states) tag
  pub first : LayoutData F V
  pub shared : IsFieldList at dl default_repr AlwaysSized (first_list prefix (scalar_layout zeroth dl tag) locals (promoted_of states conflicts)) first
  pub lists : List (LayoutData F V)
  pub own : AreFieldLists at dl default_repr (state_list_kind first) (own_lists locals (promoted_of states conflicts) states) lists
  pub tag_distinguishes : layout.variants ≡ Multiple tag Direct (at (length prefix)) (variants_of layout.variants)
  pub fields : listed_offsets layout.fields ≡ take (length prefix + 1) (listed_offsets first.fields)
  pub order : listed_order layout.fields ≡ filter (λ i. nat_lt (number i) (length prefix + 1)) (listed_order first.fields)
  pub layouts : AreStatesOf at number (promoted_of states conflicts) (drop (length prefix + 1) (listed_offsets first.fields)) (ranks_of number (length prefix + 1) (listed_order first.fields)) states lists
      (variants_of layout.variants)
