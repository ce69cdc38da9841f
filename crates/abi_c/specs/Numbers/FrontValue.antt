-- The value that numbers begin with.
use Rattle.std.specs.Prelude.{ℕ, zero, suc, List, [], ◌∷◌, Option, Some, None, nat_lt, slice_get, if◌then◌else◌}
use Rattle.abi_tree.specs.Value.{Value, number, two, list, variant, state, bytes, values}
use Rattle.abi_c.specs.declared.numbers.value.ValueKind.{ValueKind}
use Rattle.abi_c.specs.declared.numbers.value.ValueKind.TheVariants as kind
use Rattle.abi_c.specs.Numbers.Pieces.{◌>>=◌, Front, front_as, front_list, front_two, front_wide, front_word}

-- all kinds, by their numbers
abbrev pub value_kinds : List ValueKind
value_kinds = kind.Number ∷ kind.Two ∷ kind.List ∷ kind.Variant ∷ kind.State ∷ kind.Bytes ∷ []

-- the kind with the number
abbrev pub value_kind_numbered : ℕ → Option ValueKind
value_kind_numbered n = slice_get value_kinds n

-- a byte
abbrev pub byte_numbered : ℕ → Option ℕ
byte_numbered n = if nat_lt n 256 then Some n else None

module _ (inner : Front Value) where
  -- a variant's index and fields
  abbrev pub front_variant_value : Front Value
  front_variant_value ns = do
    i ← front_word ns
    vs ← front_list inner i.1
    Some (variant i.0 (values vs.0), vs.1)

  -- a state's index, prefix fields and locals
  abbrev pub front_state_value : Front Value
  front_state_value ns = do
    i ← front_word ns
    ps ← front_list inner i.1
    vs ← front_list inner ps.1
    Some (state i.0 (values ps.0) (values vs.0), vs.1)

  -- a value of the kind
  abbrev pub front_of_value_kind : ValueKind → Front Value
  front_of_value_kind kind.Number ns = front_wide ns >>= λ n. Some (number n.0, n.1)
  front_of_value_kind kind.Two ns = front_two front_wide front_wide ns >>= λ p. Some (two p.0.0 p.0.1, p.1)
  front_of_value_kind kind.List ns = front_list inner ns >>= λ vs. Some (list (values vs.0), vs.1)
  front_of_value_kind kind.Variant ns = front_variant_value ns
  front_of_value_kind kind.State ns = front_state_value ns
  front_of_value_kind kind.Bytes ns = front_list (front_as byte_numbered) ns >>= λ bs. Some (bytes bs.0, bs.1)

  -- a value behind the number of its kind
  abbrev pub front_value_node : Front Value
  front_value_node ns = do
    found ← front_as value_kind_numbered ns
    front_of_value_kind found.0 found.1

-- a value that nests others less than so deep
abbrev pub front_value : (nested : ℕ) → Front Value
front_value zero = λ ns. None
front_value (suc n) = front_value_node (front_value n)
