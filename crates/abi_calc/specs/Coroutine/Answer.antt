-- The answer to a coroutine.
use Rattle.std.specs.Prelude.{◌≡◌, ℕ, ◌<◌, ◌≤◌, ◌⊎◌, Bool, List, length, map, Result, Ok, Err}
use Rattle.abi_base.specs.declared.data_layout.TargetDataLayout.{TargetDataLayout}
use Rattle.abi_base.specs.declared.struct_kind.StructKind.TheVariants.{AlwaysSized}
use Rattle.abi_base.specs.DataLayout.{size_bound}
use Rattle.abi_index.specs.Relation.{Relation}
use Rattle.abi_scalar.specs.declared.error.LayoutCalculatorError.{LayoutCalculatorError}
use Rattle.abi_scalar.specs.declared.error.LayoutCalculatorError.TheVariants.{OutOfMemory, SizeOverflow}
use Rattle.abi_scalar.specs.declared.layout_data.LayoutData.{LayoutData}
use Rattle.abi_scalar.specs.declared.scalar.Scalar.{Scalar}
use Rattle.abi_univariant.specs.List.{IsUnivariantAnswer, IsUnivariantError}
use Rattle.abi_calc.specs.Coroutine.Layout.{IsStateTag, coroutine_layout, whole_size}
use Rattle.abi_calc.specs.Coroutine.Lists.{AreOwnLists, IsFirstOwnError, state_list_kind, default_repr, first_list}
use Rattle.abi_calc.specs.Coroutine.Promotion.{promoted_of}

-- the answer where these locals are promoted, memory aside: the layout that the lists make; else the error of the first list, of
-- the first state whose list has none, or that the whole is too large. `tag` is the tag and `field` the field that holds it.
abbrev pub IsPromotedAnswer : {F V H : Type 0} → (layout_of : H → LayoutData F V) → (at : ℕ → F) → (number : F → ℕ) → (zeroth : V) → TargetDataLayout
    → (prefix : List H) → (tag : Scalar) → (field : H) → (locals : List H) → (states : List (List ℕ)) → (promoted : List Bool) → Result (LayoutData F V) (LayoutCalculatorError H) → Type 0
IsPromotedAnswer layout_of at number zeroth dl prefix tag field locals states promoted (Ok layout) =
    (first : LayoutData _ _) × IsUnivariantAnswer layout_of at zeroth dl default_repr AlwaysSized (first_list prefix field locals promoted) (Ok first)
    × (lists : List (LayoutData _ _)) × AreOwnLists layout_of at zeroth dl (state_list_kind first) locals promoted states lists
    × (whole_size first lists < size_bound dl) × (layout ≡ coroutine_layout at number (length prefix) tag promoted states first lists)
IsPromotedAnswer layout_of at number zeroth dl prefix tag field locals states promoted (Err error) =
    IsUnivariantError layout_of dl default_repr AlwaysSized (first_list prefix field locals promoted) error
    ⊎ ((first : LayoutData _ _) × IsUnivariantAnswer layout_of at zeroth dl default_repr AlwaysSized (first_list prefix field locals promoted) (Ok first)
    × (IsFirstOwnError layout_of at zeroth dl (state_list_kind first) locals promoted states error
    ⊎ ((lists : List (LayoutData _ _)) × AreOwnLists layout_of at zeroth dl (state_list_kind first) locals promoted states lists
    × (size_bound dl ≤ whole_size first lists) × (error ≡ SizeOverflow))))
    ⊎ (error ≡ OutOfMemory)

-- the answer, memory aside, with the locals promoted that the states and the conflicts demand
abbrev pub IsCoroutineAnswer : {F V H : Type 0} → (layout_of : H → LayoutData F V) → (at : ℕ → F) → (number : F → ℕ) → (zeroth : V) → TargetDataLayout
    → (prefix : List H) → (tag : Scalar) → (field : H) → (locals : List H) → (states : List (List ℕ)) → Relation → Result (LayoutData F V) (LayoutCalculatorError H) → Type 0
IsCoroutineAnswer layout_of at number zeroth dl prefix tag field locals states conflicts result =
    IsPromotedAnswer layout_of at number zeroth dl prefix tag field locals states (promoted_of states conflicts) result

-- the answer to these states: with the least tag that has each state's number, in the field that is given for it; `place` gives the
-- number of a local
abbrev pub IsStatesAnswer : {F V H L : Type 0} → (layout_of : H → LayoutData F V) → (at : ℕ → F) → (number : F → ℕ) → (zeroth : V) → (place : L → ℕ) → TargetDataLayout
    → (gives : Scalar → H → Type 0) → (prefix : List H) → (locals : List H) → (states : List (List L)) → Relation → Result (LayoutData F V) (LayoutCalculatorError H) → Type 0
IsStatesAnswer layout_of at number zeroth place dl gives prefix locals states conflicts result =
    (tag : Scalar) × IsStateTag (length states) tag × (field : _) × gives tag field
    × IsCoroutineAnswer layout_of at number zeroth dl prefix tag field locals (map (map place) states) conflicts result
