-- What a type's JSON object says of its size and its fields.
use Rattle.std.specs.Prelude.{ℕ, List, [], ◌∷◌, ◌++◌, Option, Some, None, codes, option_and_then, string_bytes, unwrap_or}
use Rattle.serde_json.specs.Data.{Data, Items, no_items, item}
use Rattle.serde_json.specs.Find.{as_array, as_number, as_str, as_u64, get}
use Rattle.type_reports.specs.declared.facts.FieldFact.{FieldFact}

-- the number of this name; 0 where there is none
abbrev pub number_in : (key : List ℕ) → Data → ℕ
number_in key d = unwrap_or (option_and_then as_u64 (option_and_then as_number (get key d))) 0

-- the text of this name
abbrev pub text_in : (key : List ℕ) → Data → Option (List ℕ)
text_in key d = option_and_then as_str (get key d)

-- the list of this name; an empty one where there is none
abbrev pub list_in : (key : List ℕ) → Data → Items
list_in key d = unwrap_or (option_and_then as_array (get key d)) no_items

-- what stands before the names of fields: the name of the variant that they are of, and a dot
abbrev pub before_fields : (variant : Option (List ℕ)) → List ℕ
before_fields None = []
before_fields (Some name) = name ++ codes "."

-- what a field's object says: what it is called, where it lies, and how large it is
abbrev pub field_said : (variant : Option (List ℕ)) → Data → List ℕ × ℕ × ℕ
field_said variant d = (before_fields variant ++ unwrap_or (text_in (codes "name") d) [], number_in (codes "offset") d, number_in (codes "size") d)

abbrev pub fields_said : (variant : Option (List ℕ)) → Items → List (List ℕ × ℕ × ℕ)
fields_said variant no_items = []
fields_said variant (item d ds) = field_said variant d ∷ fields_said variant ds

-- what a variant's object says of its fields
abbrev pub fields_of_variant : Data → List (List ℕ × ℕ × ℕ)
fields_of_variant d = fields_said (text_in (codes "name") d) (list_in (codes "fields") d)

abbrev pub variants_said : Items → List (List ℕ × ℕ × ℕ)
variants_said no_items = []
variants_said (item d ds) = fields_of_variant d ++ variants_said ds

-- what a type's object says of its fields, and of those of its variants
abbrev pub all_said : Data → List (List ℕ × ℕ × ℕ)
all_said d = fields_said None (list_in (codes "fields") d) ++ variants_said (list_in (codes "variants") d)

-- a field as the definitions see it
abbrev pub fact_read : FieldFact → List ℕ × ℕ × ℕ
fact_read f = (string_bytes f.name, f.offset, f.size)
