-- Why a list has no layout.
use Rattle.std.specs.Prelude.{◌≡◌, ℕ, ◌+◌, ◌<◌, ◌&&◌, not, Bool, true, false, List, [], ◌∷◌, nat_lt, slice_index_or, slice_get, Option, Some, None, if◌then◌else◌}
use Rattle.abi_base.specs.declared.struct_kind.StructKind.{StructKind}
use Rattle.abi_base.specs.declared.struct_kind.StructKind.TheVariants.{AlwaysSized, MaybeUnsized, Prefixed}
use Rattle.abi_scalar.specs.declared.error.LayoutCalculatorError.{LayoutCalculatorError}
use Rattle.abi_scalar.specs.declared.error.LayoutCalculatorError.TheVariants.{SizeOverflow, UnexpectedUnsized}
use Rattle.abi_univariant.specs.declared.fields_repr.FieldsRepr.{FieldsRepr}
use Rattle.abi_univariant.specs.declared.part.Part.{Part}
use Rattle.abi_univariant.specs.declared.placing.FieldsFault.{FieldsFault}
use Rattle.abi_univariant.specs.declared.placing.FieldsFault.TheVariants.{Unsized, TooLarge, OutOfMemory}
use Rattle.abi_univariant.specs.Part.{is_unsized}
use Rattle.abi_univariant.specs.Placement.{no_part, place_of, start_of, size_in}

-- the last field may lose its size
abbrev pub is_maybe_unsized : StructKind → Bool
is_maybe_unsized AlwaysSized = false
is_maybe_unsized MaybeUnsized = true
is_maybe_unsized (Prefixed size align) = false

-- no index is left
abbrev pub is_empty : List ℕ → Bool
is_empty [] = true
is_empty (i ∷ is) = false

-- the first fault of fields that lie in this order from an offset on: an unsized field in a list of sized ones, an end at
-- the bound, or an unsized field that others follow
abbrev pub fault_from : FieldsRepr → (bound : ℕ) → List Part → (from : ℕ) → (order : List ℕ) → Option FieldsFault
fault_from repr bound parts from [] = None
fault_from repr bound parts from (i ∷ is) =
    let part : Part = slice_index_or parts i no_part in
    let end : ℕ = place_of repr.pack from part + part.size in
    if is_unsized part.view && not (is_maybe_unsized repr.kind) then Some (Unsized i)
    else (if not (nat_lt end bound) then Some TooLarge
    else (if is_unsized part.view && not (is_empty is) then Some (Unsized i)
    else fault_from repr bound parts end is))

-- the first fault of a field, else too large a size
abbrev pub fault_or_size : FieldsRepr → (bound : ℕ) → List Part → (order : List ℕ) → Option FieldsFault → Option FieldsFault
fault_or_size repr bound parts order (Some fault) = Some fault
fault_or_size repr bound parts order None = if nat_lt (size_in repr parts order) bound then None else Some TooLarge

-- why a list has no layout in an order
abbrev pub fault_in : FieldsRepr → (bound : ℕ) → List Part → (order : List ℕ) → Option FieldsFault
fault_in repr bound parts order = fault_or_size repr bound parts order (fault_from repr bound parts (start_of repr.pack repr.kind) order)

-- the error names the fault, with the field that it names
abbrev pub IsErrorOf : {H : Type 0} → (fields : List H) → FieldsFault → LayoutCalculatorError H → Type 0
IsErrorOf fields (Unsized i) error = (field : _) × (slice_get fields i ≡ Some field) × (error ≡ UnexpectedUnsized field)
IsErrorOf fields TooLarge error = error ≡ SizeOverflow
IsErrorOf fields OutOfMemory error = error ≡ LayoutCalculatorError.OutOfMemory

-- a field that a fault names is there
abbrev pub IsFaultIndex : (count : ℕ) → FieldsFault → Type 0
IsFaultIndex count (Unsized i) = i < count
IsFaultIndex count TooLarge = Unit {0}
IsFaultIndex count OutOfMemory = Unit {0}
