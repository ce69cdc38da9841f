-- What a coroutine asks of its states and of the conflicts between its locals, and what the calculator answers to it.
use Rattle.std.specs.Prelude.{◌≡◌, ◌≢◌, ℕ, ◌==◌, ◌<◌, ◌&&◌, ◌||◌, All, Bool, List, filter, length, map, nat_le, Result, Ok, Err}
use Rattle.std.specs.List.{AllPairs, list_any}
use Rattle.abi_base.specs.declared.data_layout.TargetDataLayout.{TargetDataLayout}
use Rattle.abi_index.specs.Relation.{Relation, is_entry}
use Rattle.abi_scalar.specs.declared.error.LayoutCalculatorError.{LayoutCalculatorError}
use Rattle.abi_scalar.specs.declared.error.LayoutCalculatorError.TheVariants.{OutOfMemory}
use Rattle.abi_scalar.specs.declared.scalar.Scalar.{Scalar}
use Rattle.abi_univariant.specs.Placement.{source_order}
use Rattle.abi_calc.specs.Coroutine.Answer.{IsCoroutineAnswer}
use Rattle.rustc_abi.specs.declared.error.LayError.{LayError}
use Rattle.abi_tree.specs.Placed.{Placed, layout_of}
use Rattle.abi_scalar.specs.Layout.{Layout}
use Rattle.rustc_abi.specs.Error.{lay_error}

-- a state holds these locals: they differ, and each is one of so many
abbrev pub IsHeld : (count : ℕ) → List ℕ → Type 0
IsHeld count locals = All (λ local. local < count) locals × AllPairs (λ a b. a ≢ b) locals

-- a state or a conflict names a local that is none of so many
abbrev pub names_unknown : (locals : ℕ) → (states : List (List ℕ)) → (conflicts : List (ℕ × ℕ)) → Bool
names_unknown locals states conflicts =
    list_any (list_any (nat_le locals)) states || list_any (λ c. nat_le locals c.0 || nat_le locals c.1) conflicts

-- the conflicts between so many locals: each with those that stand behind it in a pair
abbrev pub conflicts_of : (count : ℕ) → (pairs : List (ℕ × ℕ)) → Relation
conflicts_of count pairs = record {
  rows = map (λ row. filter (λ column. list_any (λ pair. (row == pair.0) && (column == pair.1)) pairs) (source_order count)) (source_order count);
  columns = count;
}

-- the calculator's answer to these prefix fields, locals, states and conflicts, where this is the tag and this the field that holds it
abbrev pub IsStated : TargetDataLayout → (prefix : List Placed) → (tag : Scalar) → (field : Placed) → (locals : List Placed) → (states : List (List ℕ)) → (conflicts : List (ℕ × ℕ))
    → Result Layout (LayoutCalculatorError Placed) → Type 0
IsStated dl prefix tag field locals states conflicts =
    IsCoroutineAnswer layout_of (λ i. i) (λ i. i) 0 dl prefix tag field locals states (conflicts_of (length locals) conflicts)

-- the same, memory aside, with its refusal by the name that a tree's layout has for it
abbrev pub IsCoroutined : TargetDataLayout → (prefix : List Placed) → (tag : Scalar) → (field : Placed) → (locals : List Placed) → (states : List (List ℕ)) → (conflicts : List (ℕ × ℕ))
    → Result Layout LayError → Type 0
IsCoroutined dl prefix tag field locals states conflicts (Ok layout) = IsStated dl prefix tag field locals states conflicts (Ok layout)
IsCoroutined dl prefix tag field locals states conflicts (Err e) =
    (error : LayoutCalculatorError Placed) × IsStated dl prefix tag field locals states conflicts (Err error) × (error ≡ OutOfMemory → ⊥) × (e ≡ lay_error error)

-- the relation has a conflict for each pair, from its first local to its second, and no other
abbrev pub AreConflicts : Relation → (pairs : List (ℕ × ℕ)) → Type 0
AreConflicts conflicts pairs =
    (row column : ℕ) → is_entry conflicts row column ≡ list_any (λ pair. (row == pair.0) && (column == pair.1)) pairs

-- of the calculator's answer to a coroutine P holds, whatever types have these layouts and whatever pairs name these conflicts
abbrev pub IsCoroutinedAs : TargetDataLayout → (prefix : List Layout) → (tag : Scalar) → (field : Placed) → (locals : List Layout) → (states : List (List ℕ)) → Relation
    → (P : (Result Layout LayError → Type 0) → Type 0) → Type 0
IsCoroutinedAs dl prefix tag field locals states conflicts P =
    (pres ps : List Placed) (pairs : List (ℕ × ℕ)) → prefix ≡ map layout_of pres → locals ≡ map layout_of ps → AreConflicts conflicts pairs
    → P (IsCoroutined dl pres tag field ps states pairs)
