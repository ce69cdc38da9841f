-- Fields as they follow one another in memory.
use Rattle.std.specs.Prelude.{◌≡◌, ℕ, ◌-◌, ◌≤◌, ⊤, List, [], ◌∷◌, length, map}
use Rattle.std.specs.List.{AllPairs, range_with_len}
use Rattle.abi_scalar.specs.declared.fields_shape.FieldsShape.{FieldsShape}
use Rattle.abi_scalar.specs.declared.fields_shape.FieldsShape.TheVariants.{Primitive, Union, Array, Arbitrary}
use Rattle.abi_scalar.specs.declared.increasing_offset.Order.{Order}
use Rattle.abi_scalar.specs.declared.increasing_offset.Order.TheVariants.{Listed, Counted}
use Rattle.abi_scalar.specs.declared.increasing_offset.IncreasingOffset.{IncreasingOffset}
use Rattle.abi_scalar.specs.Shape.{field_count, field_offset}

-- the fields' places in source order, as the fields follow one another in memory; a scalar counts as one field here
abbrev pub indices_by_offset : {F : Type 0} → (number : F → ℕ) → FieldsShape F → List ℕ
indices_by_offset number Primitive = 0 ∷ []
indices_by_offset number (Union count) = range_with_len 0 count
indices_by_offset number (Array stride count) = range_with_len 0 count
indices_by_offset number (Arbitrary offsets in_memory_order) = map number in_memory_order

-- how many those are: one for a scalar, else as many as there are fields
abbrev pub place_count : {F : Type 0} → FieldsShape F → ℕ
place_count Primitive = 1
place_count shape = field_count shape

-- fields that are listed one by one have a place in memory order each
abbrev pub HasPlaceForEach : {F : Type 0} → FieldsShape F → Type 0
HasPlaceForEach (Arbitrary offsets in_memory_order) = length in_memory_order ≡ length offsets
HasPlaceForEach _ = ⊤

-- of two fields that are listed one by one, the one that comes first in memory order lies no further on
abbrev pub IsAscending : {F : Type 0} → (number : F → ℕ) → FieldsShape F → Type 0
IsAscending number (Arbitrary offsets in_memory_order) =
    AllPairs (λ a b. field_offset (Arbitrary offsets in_memory_order) (number a) ≤ field_offset (Arbitrary offsets in_memory_order) (number b)) in_memory_order
IsAscending number _ = ⊤

-- each field has a place in memory order, and that order never steps back
abbrev pub HasOrder : {F : Type 0} → (number : F → ℕ) → FieldsShape F → Type 0
HasOrder number shape = HasPlaceForEach shape × IsAscending number shape

-- of two of the places, the field at the first lies no further on than that at the second
abbrev pub NeverStepsBack : {F : Type 0} → FieldsShape F → (places : List ℕ) → Type 0
NeverStepsBack shape places = AllPairs (λ i j. field_offset shape i ≤ field_offset shape j) places

-- the places that an order has left
abbrev pub places_in : {F : Type 0} → (number : F → ℕ) → Order F → List ℕ
places_in number (Listed order) = map number order.now
places_in number (Counted next end) = range_with_len next (end - next)

-- the places that are still to come
abbrev pub places_left : {F : Type 0} → (number : F → ℕ) → IncreasingOffset F → List ℕ
places_left number iterator = places_in number iterator.order
