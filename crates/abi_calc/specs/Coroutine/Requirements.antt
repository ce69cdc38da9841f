-- What is asked of the states of a coroutine, and of who gives its tag a handle.
use Rattle.std.specs.Prelude.{◌≡◌, ◌≢◌, ℕ, ◌<◌, All, List, length, map}
use Rattle.std.specs.List.{AllPairs}
use Rattle.abi_base.specs.declared.data_layout.TargetDataLayout.{TargetDataLayout}
use Rattle.abi_index.specs.Relation.{Relation, column_count, row_count}
use Rattle.abi_scalar.specs.declared.layout_data.LayoutData.{LayoutData}
use Rattle.abi_scalar.specs.declared.scalar.Scalar.{Scalar}
use Rattle.abi_scalar.specs.Simple.{scalar_layout}
use Rattle.abi_calc.specs.Coroutine.Layout.{IsStateTag}

-- These are the states of a coroutine with this count of locals: there is one, each names locals that are there, none twice, and the
-- conflicts are between the locals. `number` gives the number of a local.
pub record AreStates {L : Type 0} (number : L → ℕ) (count : ℕ) (states : List (List L)) (conflicts : Relation) : Type 0 where
  pub some : 0 < length states
  pub within : All (All (λ l. number l < count)) states
  pub once : All (λ state. AllPairs (λ a b. a ≢ b) (map number state)) states
  pub rows : row_count conflicts ≡ count
  pub columns : column_count conflicts ≡ count

-- what is answered to the tag of a count of states is a handle of that scalar's layout
abbrev pub GivesTagLayout : {F V H : Type 0} → (layout_of : H → LayoutData F V) → (zeroth : V) → TargetDataLayout → (gives : Scalar → H → Type 0) → (count : ℕ) → Type 0
GivesTagLayout layout_of zeroth dl gives count =
    (tag : Scalar) (field : _) → IsStateTag count tag → gives tag field → layout_of field ≡ scalar_layout zeroth dl tag
