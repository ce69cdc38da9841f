-- Attributes that the language and its tools have, and which else may rewrite what they stand at.
use Rattle.std.specs.Prelude.{ℕ, zero, suc, ◌-◌, ◌==◌, ◌&&◌, Bool, true, false, not, codes, length, map, List, if◌then◌else◌}
use Rattle.std.specs.List.{list_any}
use Rattle.std.specs.Str.{bytes_eq}
use Rattle.rust_source.specs.declared.reader.cursor.Cursor.{Cursor}
use Rattle.rust_source.specs.declared.reader.known_attributes.TheConstants.{DERIVED, KNOWN}
use Rattle.rust_source.specs.Cursor.{passed}
use Rattle.rust_source.specs.Reading.{word_text}

-- the name is among these
abbrev pub is_among : (names : List (List ℕ)) → (name : List ℕ) → Bool
is_among names name = list_any (λ other. bytes_eq name other) names

-- the names of the language's attributes, and of tools
unfoldable pub known_names : List (List ℕ)
known_names = map (λ w. w.now) KNOWN

-- the names of traits that the standard library derives
unfoldable pub derived_names : List (List ℕ)
derived_names = map (λ w. w.now) DERIVED

-- the word is the name of no such trait
abbrev pub is_other_trait : (word : List ℕ) → Bool
is_other_trait word = not (length word == 0) && not (is_among derived_names word)

-- one of the tokens, of which so many are looked at, is the name of no such trait
abbrev pub other_trait_from : (limit : ℕ) → Cursor → Bool
other_trait_from zero c = false
other_trait_from (suc limit) c = if is_other_trait (word_text c) then true else other_trait_from limit (passed c 1)

-- a `derive` of these names another trait, whose derive may have attributes of its own
unfoldable pub names_other_trait : Cursor → Bool
names_other_trait c = other_trait_from (c.end - c.at) c

-- one of the tokens, of which so many are looked at, is `Copy`
abbrev pub copy_from : (limit : ℕ) → Cursor → Bool
copy_from zero c = false
copy_from (suc limit) c = if bytes_eq (word_text c) (codes "Copy") then true else copy_from limit (passed c 1)

-- a `derive` of these names `Copy`
unfoldable pub names_copy : Cursor → Bool
names_copy c = copy_from (c.end - c.at) c
