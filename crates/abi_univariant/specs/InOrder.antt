-- The layout of a list of fields in an order that is handed in.
use Rattle.std.specs.Prelude.{◌≡◌, ◌⊎◌, ℕ, List, map, length, Option, Some, Result, Ok, Err}
use Rattle.abi_base.specs.declared.data_layout.TargetDataLayout.{TargetDataLayout}
use Rattle.abi_base.specs.declared.struct_kind.StructKind.{StructKind}
use Rattle.abi_base.specs.DataLayout.{size_bound}
use Rattle.abi_scalar.specs.declared.layout_data.LayoutData.{LayoutData}
use Rattle.abi_scalar.specs.declared.niche.Niche.{Niche}
use Rattle.abi_scalar.specs.declared.error.LayoutCalculatorError.{LayoutCalculatorError}
use Rattle.abi_scalar.specs.declared.error.LayoutCalculatorError.TheVariants.{BadOrder, OutOfMemory}
use Rattle.abi_scalar.specs.declared.repr.ReprOptions.{ReprOptions}
use Rattle.abi_univariant.specs.declared.order.NicheBias.TheVariants.{Start}
use Rattle.abi_univariant.specs.declared.placing.FieldsFault.{FieldsFault}
use Rattle.abi_univariant.specs.Fault.{IsErrorOf, fault_in}
use Rattle.abi_univariant.specs.Least.{IsOrderOf}
use Rattle.abi_univariant.specs.List.{IsListBy}
use Rattle.abi_univariant.specs.Part.{parts_of}
use Rattle.abi_univariant.specs.Placement.{fields_repr}
use Rattle.abi_univariant.specs.Run.{IsPlacedIn}

-- the order is allowed, and the fields lie in it; the niche is the greatest that comes first in memory
abbrev pub IsLaidInOrder : {F V : Type 0} → TargetDataLayout → ReprOptions → StructKind → List (LayoutData F V)
    → (order offsets : List ℕ) → (size align : ℕ) → Option Niche → Type 0
IsLaidInOrder dl repr kind fields order offsets size align niche =
    IsOrderOf dl repr kind (length fields) order
    × IsPlacedIn dl (fields_repr dl repr kind) Start (parts_of dl fields) order offsets size align niche

-- the layout of these fields as one list, in the order that is handed in
abbrev pub IsOrderedLayout : {F V : Type 0} → (at : ℕ → F) → (first : V) → TargetDataLayout → ReprOptions → StructKind → List (LayoutData F V)
    → (order offsets : List ℕ) → LayoutData F V → Type 0
IsOrderedLayout at first dl repr kind fields = IsListBy (IsLaidInOrder dl repr kind fields) at first dl repr kind fields

-- the error names that the order isn't allowed, else the first fault of the fields in it
abbrev pub IsOrderedError : {F V H : Type 0} → (layout_of : H → LayoutData F V) → TargetDataLayout → ReprOptions → StructKind → (order : List ℕ) → List H → LayoutCalculatorError H → Type 0
IsOrderedError layout_of dl repr kind order fields error =
    ((IsOrderOf dl repr kind (length fields) order → ⊥) × (error ≡ BadOrder))
    ⊎ (IsOrderOf dl repr kind (length fields) order
    × (fault : FieldsFault) × (fault_in (fields_repr dl repr kind) (size_bound dl) (parts_of dl (map layout_of fields)) order ≡ Some fault) × IsErrorOf fields fault error)

-- the answer to a list of fields in an order that is handed in, memory aside
abbrev pub IsOrderedAnswer : {F V H : Type 0} → (layout_of : H → LayoutData F V) → (at : ℕ → F) → (first : V) → TargetDataLayout → ReprOptions → StructKind → (order : List ℕ) → List H
    → Result (LayoutData F V) (LayoutCalculatorError H) → Type 0
IsOrderedAnswer layout_of at first dl repr kind order fields (Ok layout) =
    (offsets : List ℕ) × IsOrderedLayout at first dl repr kind (map layout_of fields) order offsets layout
IsOrderedAnswer layout_of at first dl repr kind order fields (Err error) = IsOrderedError layout_of dl repr kind order fields error ⊎ (error ≡ OutOfMemory)
