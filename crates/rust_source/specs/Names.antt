-- The names of sources, by their numbers.
use Rattle.std.specs.Prelude.{ℕ, ◌+◌, ◌^◌, ◌&&◌, ◌||◌, Bool, false, codes, List, [], ◌∷◌, ◌++◌, get_or, map, nat_lt, string_bytes, Option, None, Some, if◌then◌else◌}
use Rattle.std.specs.Borrow.{Bor}
use Rattle.std.specs.Str.{bytes_eq}
use Rattle.rust_source.specs.declared.names.Names.{Names}
use Rattle.rust_source.specs.declared.place.Symbol.{Symbol}

-- the texts of the names, in the order of their numbers
abbrev pub texts : Names → List (List ℕ)
texts names = map string_bytes names.known.keys

-- the text of the name with this number, which is empty where no name has it
abbrev pub text_of : Names → (number : ℕ) → List ℕ
text_of names number = get_or (texts names) number []

-- one of the names has the text
abbrev pub is_known : (names : List (List ℕ)) → (text : List ℕ) → Bool
is_known [] text = false
is_known (n ∷ ns) text = bytes_eq text n || is_known ns text

-- the number of the first name that has the text, or the next number
abbrev pub number_of_name : (names : List (List ℕ)) → (text : List ℕ) → ℕ
number_of_name [] text = 0
number_of_name (n ∷ ns) text = if bytes_eq text n then 0 else number_of_name ns text + 1

-- the names with one of the text, which goes behind the others where it is new
abbrev pub added : (names : List (List ℕ)) → (text : List ℕ) → List (List ℕ)
added names text = if is_known names text then names else names ++ text ∷ []

-- the names with these, one after another
abbrev pub all_added : (names : List (List ℕ)) → (more : List (List ℕ)) → List (List ℕ)
all_added names [] = names
all_added names (text ∷ more) = all_added (added names text) more

-- what a table of the program has at a place
abbrev pub word_of : Bor (List ℕ) → List ℕ
word_of w = w.now

-- the number of the name that has the text, where it has one below 2 ^ 32
abbrev pub symbol_found : (names : List (List ℕ)) → (text : List ℕ) → Option Symbol
symbol_found names text = if is_known names text && nat_lt (number_of_name names text) (2 ^ 32) then Some (record { 0 = number_of_name names text }) else None

-- the names that each source may have
unfoldable pub first_names : List (List ℕ)
first_names = codes "crate" ∷ codes "self" ∷ codes "super" ∷ codes "Self" ∷ codes "_" ∷ []
