-- What TOML values hold.
use Rattle.std.specs.Prelude.{ℕ, Bool, false, List, [], ◌∷◌, Option, None, Some, bytes_eq, filter_map, map, option_and_then, option_map, unwrap_or}
use Rattle.std.specs.Borrow.{Bor}
use Rattle.std.specs.List.{list_any}
use Rattle.toml.specs.Data.{Data, Items, no_items, item, Members, no_members, member, as_array, as_bool, as_str, as_table, get}
use Rattle.toml.specs.View.{view}
use Rattle.toml.specs.declared.value.Value.{Value}

-- a text, by its bytes
abbrev pub Text : Type 0
Text = List ℕ

-- texts that are lent
abbrev pub texts : List (Bor Text) → List Text
texts = map (λ t. t.now)

-- a text is one of these
abbrev pub is_one_of : List Text → Text → Bool
is_one_of all t = list_any (λ one. bytes_eq one t) all

-- the string, and the boolean, at a key of a table
abbrev pub string_at : (key : Text) → Data → Option Text
string_at key d = option_and_then as_str (get key d)

abbrev pub bool_at : (key : Text) → Data → Option Bool
bool_at key d = option_and_then as_bool (get key d)

abbrev pub is_true_at : (key : Text) → Data → Bool
is_true_at key d = unwrap_or (bool_at key d) false

-- the entries of a table, in their order
abbrev pub entries : Members → List (Text × Data)
entries no_members = []
entries (member key d ms) = (key, d) ∷ entries ms

-- those of a value, which has none where it's no table
abbrev pub entries_in : Data → List (Text × Data)
entries_in d = entries (unwrap_or (as_table d) no_members)

-- those of the table at a key
abbrev pub entries_at : (key : Text) → Data → List (Text × Data)
entries_at key d = unwrap_or (option_map entries_in (get key d)) []

-- the items of a list
abbrev pub items : Items → List Data
items no_items = []
items (item d ds) = d ∷ items ds

abbrev pub items_in : Data → List Data
items_in d = items (unwrap_or (as_array d) no_items)

-- the strings among them
abbrev pub strings_in : Data → List Text
strings_in d = filter_map as_str (items_in d)

-- those of the list at a key
abbrev pub strings_at : (key : Text) → Data → List Text
strings_at key d = unwrap_or (option_map strings_in (get key d)) []

-- an entry that is lent
abbrev pub entry_view : Bor Text × Bor Value → Text × Data
entry_view e = (e.0.now, view e.1.now)
