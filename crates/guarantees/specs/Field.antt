-- One of the values of a list, and one of the fields of a struct.
use Rattle.std.specs.Prelude.{◌≡◌, ℕ, zero, suc, Option, None, Some, MatchOption}
use Rattle.abi_tree.specs.declared.value.Value.{Value as Kept}
use Rattle.abi_tree.specs.Placed.{Placed, fields, Parts, no_parts, part}
use Rattle.abi_tree.specs.Value.{Value, Values, no_values, more_values, value_of}

-- the value with this index, if there are so many
abbrev pub value_at : Values → ℕ → Option Value
value_at no_values i = None
value_at (more_values v vs) zero = Some v
value_at (more_values v vs) (suc i) = value_at vs i

-- the program's value is this one, or there is none
abbrev pub IsValueFound : Option Kept → Option Value → Type 0
IsValueFound found v = MatchOption found (v ≡ None) (λ k. v ≡ Some (value_of k))

-- the values with this one in the place of that with this index, if there is one
abbrev pub with_value : Values → (index : ℕ) → Value → Values
with_value no_values i v = no_values
with_value (more_values w vs) zero v = more_values v vs
with_value (more_values w vs) (suc i) v = more_values w (with_value vs i v)

-- the part with this index lies at this offset, and is this type
abbrev pub IsPartOf : Parts → (index offset : ℕ) → Placed → Type 0
IsPartOf no_parts i o p = ⊥
IsPartOf (part offset placed parts) zero o p = (o ≡ offset) × (p ≡ placed)
IsPartOf (part offset placed parts) (suc i) o p = IsPartOf parts i o p

-- the laid-out type has fields, and that with this index lies at this offset, and is this type
abbrev pub HasFieldAt : Placed → (index offset : ℕ) → Placed → Type 0
HasFieldAt (fields layout mark parts) i o p = IsPartOf parts i o p
HasFieldAt _ i o p = ⊥
