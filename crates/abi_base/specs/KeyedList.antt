-- Lists of values under keys.
use Rattle.std.specs.Prelude.{Bool, List, [], ◌∷◌, Option, Some, None, if◌then◌else◌}

-- the value under the key, if there is one: the first of the key
abbrev pub entry_value : {K V : Type 0} → (same : K → K → Bool) → List (K × V) → (key : K) → Option V
entry_value same [] key = None
entry_value same (e ∷ entries) key = if same e.0 key then Some e.1 else entry_value same entries key

-- the value of the key replaced, or added last
abbrev pub put_entry : {K V : Type 0} → (same : K → K → Bool) → (key : K) → (value : V) → List (K × V) → List (K × V)
put_entry same key value [] = (key, value) ∷ []
put_entry same key value (e ∷ entries) = if same e.0 key then (key, value) ∷ entries else e ∷ put_entry same key value entries
