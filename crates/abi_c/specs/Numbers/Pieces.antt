-- Numbers of 64 bits, one after another, and what stands at their front.
use Rattle.std.specs.Prelude.{◌≡◌, ℕ, zero, suc, ◌+◌, ◌*◌, ◌/◌, ◌%◌, ◌^◌, ◌⊎◌, Bool, true, false, List, [], ◌∷◌, Option, Some, None, nat_lt, option_and_then, slice_get, Vec, if◌then◌else◌}
use Rattle.std.specs.declared.alloc.Global.{Global}
use Rattle.abi_c.specs.declared.numbers.error.ReadError.{ReadError}
use Rattle.abi_c.specs.declared.numbers.error.ReadError.TheVariants.{OutOfMemory}

-- 0 for false, and 1 for true
abbrev pub flat_bool : Bool → ℕ
flat_bool false = 0
flat_bool true = 1

-- a number of 128 bits, low half first
abbrev pub flat_wide : ℕ → List ℕ
flat_wide n = n % 2 ^ 64 ∷ n / 2 ^ 64 ∷ []

-- what the numbers begin with, and those behind it; None where they begin with no such thing
abbrev pub Front : Type 0 → Type 0
Front A = List ℕ → Option (A × List ℕ)

infixl 10 ◌>>=◌
abbrev pub ◌>>=◌ : {A B : Type 0} → Option A → (A → Option B) → Option B
o >>= f = option_and_then f o

-- the first number
abbrev pub front_word : Front ℕ
front_word [] = None
front_word (n ∷ ns) = Some (n, ns)

-- what the first number stands for
abbrev pub front_as : {A : Type 0} → (ℕ → Option A) → Front A
front_as meaning ns = do
  n ← front_word ns
  a ← meaning n.0
  Some (a, n.1)

-- both truths, by their numbers
abbrev pub bools : List Bool
bools = false ∷ true ∷ []

-- the truth with the number
abbrev pub bool_numbered : ℕ → Option Bool
bool_numbered n = slice_get bools n

-- the number whose halves are these, low half first
abbrev pub halves : (low high : ℕ) → Option ℕ
halves low high = if nat_lt low (2 ^ 64) then Some (high * 2 ^ 64 + low) else None

-- a number of 128 bits
abbrev pub front_wide : Front ℕ
front_wide ns = do
  low ← front_word ns
  high ← front_word low.1
  n ← halves low.0 high.0
  Some (n, high.1)

-- so many, one after another
abbrev pub front_many : {A : Type 0} → Front A → (count : ℕ) → Front (List A)
front_many front zero ns = Some ([], ns)
front_many front (suc count) ns = do
  a ← front ns
  more ← front_many front count a.1
  Some (a.0 ∷ more.0, more.1)

-- a list: how many, and then each
abbrev pub front_list : {A : Type 0} → Front A → Front (List A)
front_list front ns = do
  count ← front_word ns
  front_many front count.0 count.1

-- two, one after another
abbrev pub front_two : {A B : Type 0} → Front A → Front B → Front (A × B)
front_two first second ns = do
  a ← first ns
  b ← second a.1
  Some ((a.0, b.0), b.1)

-- a list of numbers
abbrev pub front_words : Front (List ℕ)
front_words = front_list front_word

-- what the program keeps of a list of numbers
abbrev pub list_kept : Vec ℕ Global → List ℕ
list_kept s = s.items

-- there is no answer, or memory was wanting
abbrev pub Fails : {A : Type 0} → Option A → ReadError → Type 0
Fails answer error = (answer ≡ None) ⊎ (error ≡ OutOfMemory)
