-- Values as numbers, depth first: what each is, and its parts, a count before each list.
use Rattle.std.specs.Prelude.{ℕ, zero, suc, ◌++◌, List, [], ◌∷◌, length, ⊤}
use Rattle.abi_tree.specs.Value.{Value, number, two, list, variant, state, bytes, Values, no_values, more_values}
use Rattle.abi_tree.specs.Bytes.{AreBytes}
use Rattle.abi_c.specs.Numbers.Pieces.{flat_wide}

-- how many values there are
abbrev pub values_count : Values → ℕ
values_count no_values = 0
values_count (more_values v vs) = suc (values_count vs)

abbrev mutual
  -- the numbers of a value
  pub flat_value : Value → List ℕ
  flat_value (number n) = 0 ∷ flat_wide n
  flat_value (two a b) = 1 ∷ flat_wide a ++ flat_wide b
  flat_value (list vs) = 2 ∷ values_count vs ∷ flat_values vs
  flat_value (variant i vs) = 3 ∷ i ∷ values_count vs ∷ flat_values vs
  flat_value (state i ps vs) = 4 ∷ i ∷ values_count ps ∷ flat_values ps ++ values_count vs ∷ flat_values vs
  flat_value (bytes content) = 5 ∷ length content ∷ content

  -- the numbers of values, one after another
  pub flat_values : Values → List ℕ
  flat_values no_values = []
  flat_values (more_values v vs) = flat_value v ++ flat_values vs

abbrev mutual
  -- The value is one that the program can hold: no value in it is nested in as many others, and its bytes have 8 bits.
  pub IsReadableValue : (nested : ℕ) → Value → Type 0
  IsReadableValue zero v = ⊥
  IsReadableValue (suc n) (list vs) = AreReadableValues n vs
  IsReadableValue (suc n) (variant i vs) = AreReadableValues n vs
  IsReadableValue (suc n) (state i ps vs) = AreReadableValues n ps × AreReadableValues n vs
  IsReadableValue (suc n) (bytes content) = AreBytes content
  IsReadableValue (suc n) _ = ⊤

  -- so is each of these
  pub AreReadableValues : (nested : ℕ) → Values → Type 0
  AreReadableValues n no_values = ⊤
  AreReadableValues n (more_values v vs) = IsReadableValue n v × AreReadableValues n vs
