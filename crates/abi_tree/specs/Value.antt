-- Values, whatever their type.
use Rattle.std.specs.Prelude.{ℕ, ◌+◌, List, [], ◌∷◌, map, ⊤}
use Rattle.abi_tree.specs.declared.value.Value.{Value as Kept}
use Rattle.abi_tree.specs.declared.value.Value.TheOpen.{Value-F}
use Rattle.abi_tree.specs.declared.value.Value.TheOpen as layer
use Rattle.abi_tree.specs.declared.value.Value.TheFolds.{fold-Value}

mutual
  -- a value
  pub data Value : Type 0 where
    number : ℕ → Value
    two : (first second : ℕ) → Value
    list : Values → Value
    -- of an enum: which variant, and its fields
    variant : (index : ℕ) → Values → Value
    -- of a coroutine: which state, the prefix fields, and the state's locals
    state : (index : ℕ) → (prefix locals : Values) → Value
    -- of a union: its data bytes, ascending
    bytes : List ℕ → Value

  -- a list of values
  pub data Values : Type 0 where
    no_values : Values
    more_values : Value → Values → Values

-- how many values there are
abbrev pub value_count : Values → ℕ
value_count no_values = 0
value_count (more_values v vs) = value_count vs + 1

-- the fact holds for each value
abbrev pub Each : (Value → Type 0) → Values → Type 0
Each P no_values = ⊤
Each P (more_values v vs) = P v × Each P vs

-- the values of a list
abbrev pub values : List Value → Values
values [] = no_values
values (v ∷ vs) = more_values v (values vs)

-- one layer of the program's value, whose parts are values already
abbrev pub layer_value : Value-F Value → Value
layer_value (layer.Num n) = number n
layer_value (layer.Pair n m) = two n m
layer_value (layer.List vs) = list (values vs.items)
layer_value (layer.Variant i vs) = variant i (values vs.items)
layer_value (layer.State i prefix locals) = state i (values prefix.items) (values locals.items)
layer_value (layer.Union content) = bytes content.items

-- the program's value as the definitions see it
abbrev pub value_of : Kept → Value
value_of = fold-Value Value layer_value

-- the program's values
abbrev pub values_of : List Kept → Values
values_of vs = values (map value_of vs)
