-- How large a coroutine is, and when it is too large: some locals lie in the first list, beside the prefix fields and the tag, and
-- those of each state that don't lie in a list behind it.
use Rattle.std.specs.Prelude.{◌≡◌, ℕ, ◌^◌, ◌<◌, ◌≤◌, ◌⊎◌, true, Bool, Contains, List, [], ◌∷◌, ◌++◌, length, map, max}
use Rattle.std.specs.Int.{next_multiple_of}
use Rattle.abi_base.specs.declared.data_layout.TargetDataLayout.{TargetDataLayout}
use Rattle.abi_base.specs.declared.struct_kind.StructKind.{StructKind}
use Rattle.abi_base.specs.declared.struct_kind.StructKind.TheVariants.{AlwaysSized, Prefixed}
use Rattle.abi_base.specs.DataLayout.{size_bound}
use Rattle.abi_index.specs.Relation.{Relation, is_entry}
use Rattle.abi_scalar.specs.declared.layout_data.LayoutData.{LayoutData}
use Rattle.abi_univariant.specs.Fields.{greatest}
use Rattle.abi_univariant.specs.Least.{IsEachOrderTooLarge, IsLeastSize, align_by}
use Rattle.abi_calc.specs.Coroutine.Lists.{default_repr, first_list, own_list, picked}
use Rattle.abi_calc.specs.Coroutine.Promotion.{holder_count, holder_of}
use Rattle.abi_calc.specs.Enums.EnumStrategy.{variant_at}
use Rattle.abi_calc.specs.Enums.Sizes.{AreLeastSizes}

-- each state's other locals
abbrev pub own_lists : {A : Type 0} → (locals : List A) → (promoted : List Bool) → (states : List (List ℕ)) → List (List A)
own_lists locals promoted states = map (own_list locals promoted) states

-- the kind of the states' lists: each lies behind a first list of this size
abbrev pub behind_first : {F V : Type 0} → TargetDataLayout → (first : List (LayoutData F V)) → (size : ℕ) → StructKind
behind_first dl first size = Prefixed size (align_by dl default_repr AlwaysSized first)

-- the greatest alignment of the first list and those behind it
abbrev pub align_of_all : {F V : Type 0} → TargetDataLayout → (first : List (LayoutData F V)) → (size : ℕ) → (own : List (List (LayoutData F V))) → ℕ
align_of_all dl first size own =
    max (align_by dl default_repr AlwaysSized first) (greatest (map (align_by dl default_repr (behind_first dl first size)) own))

-- the size of the first list and of those behind it, each the least that it has in any allowed order: the greatest, rounded up to
-- the greatest alignment
abbrev pub IsSizeOfLists : {F V : Type 0} → TargetDataLayout → (first : List (LayoutData F V)) → (own : List (List (LayoutData F V))) → (size : ℕ) → Type 0
IsSizeOfLists dl first own size =
    (start : ℕ) × IsLeastSize dl default_repr AlwaysSized first start
    × (sizes : List ℕ) × AreLeastSizes dl default_repr (behind_first dl first start) own sizes
    × (size ≡ next_multiple_of (greatest (start ∷ sizes)) (2 ^ align_of_all dl first start own))

-- the first list is too large in every allowed order, or some list behind it is, or their size reaches the bound
abbrev pub AreListsTooLarge : {F V : Type 0} → TargetDataLayout → (first : List (LayoutData F V)) → (own : List (List (LayoutData F V))) → Type 0
AreListsTooLarge dl first own =
    IsEachOrderTooLarge dl default_repr AlwaysSized first
    ⊎ ((start : ℕ) × IsLeastSize dl default_repr AlwaysSized first start
    × (fields : List (LayoutData _ _)) × Contains own fields × IsEachOrderTooLarge dl default_repr (behind_first dl first start) fields)
    ⊎ ((size : ℕ) × IsSizeOfLists dl first own size × (size_bound dl ≤ size))

-- a coroutine's size where these locals are promoted, from the layouts of its prefix fields, its tag and its locals
abbrev pub IsSizeWith : {F V : Type 0} → TargetDataLayout → (prefix : List (LayoutData F V)) → (tag : LayoutData F V) → (locals : List (LayoutData F V)) → (states : List (List ℕ)) → (promoted : List Bool) → (size : ℕ) → Type 0
IsSizeWith dl prefix tag locals states promoted size =
    IsSizeOfLists dl (first_list prefix tag locals promoted) (own_lists locals promoted states) size

-- its size where none is: each state's locals lie in a list behind the one of the prefix fields and the tag
abbrev pub IsOverlapSize : {F V : Type 0} → TargetDataLayout → (prefix : List (LayoutData F V)) → (tag : LayoutData F V) → (locals : List (LayoutData F V)) → (states : List (List ℕ)) → (size : ℕ) → Type 0
IsOverlapSize dl prefix tag locals states size = IsSizeOfLists dl (prefix ++ tag ∷ []) (map (picked locals) states) size

-- it is too large where these are promoted
abbrev pub IsTooLargeWith : {F V : Type 0} → TargetDataLayout → (prefix : List (LayoutData F V)) → (tag : LayoutData F V) → (locals : List (LayoutData F V)) → (states : List (List ℕ)) → (promoted : List Bool) → Type 0
IsTooLargeWith dl prefix tag locals states promoted =
    AreListsTooLarge dl (first_list prefix tag locals promoted) (own_lists locals promoted states)

-- The states may share all their bytes: each local stands in exactly one state, at least two states hold locals, and no conflict
-- names locals of different states.
pub record MayOverlap (count : ℕ) (states : List (List ℕ)) (conflicts : Relation) : Type 0 where
  pub once : (local : ℕ) → local < count → holder_count states local ≡ 1
  pub several : (i : ℕ) × (j : ℕ) × (i < j) × (0 < length (variant_at states i)) × (0 < length (variant_at states j))
  pub peaceful : (a b : ℕ) → is_entry conflicts a b ≡ true → holder_of states a ≡ holder_of states b
