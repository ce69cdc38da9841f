-- Items that can't be read: where they end, and which names they may have.
use Rattle.std.specs.Prelude.{ℕ, zero, suc, ◌-◌, ◌&&◌, ◌||◌, Bool, true, false, not, [], ◌∷◌, ◌++◌, min, Option, None, Some, Result, Ok, Err, if◌then◌else◌}
use Rattle.rust_source.specs.declared.fault.SourceFault.{SourceFault}
use Rattle.rust_source.specs.declared.place.Symbol.{Symbol}
use Rattle.rust_source.specs.declared.reader.cursor.Cursor.{Cursor}
use Rattle.rust_source.specs.declared.tokens.keyword.Keyword.{Keyword}
use Rattle.rust_source.specs.declared.tokens.keyword.Keyword.TheVariants as keyword
use Rattle.rust_source.specs.declared.tokens.token.Bracket.TheVariants as bracket
use Rattle.rust_source.specs.declared.tokens.token.TokenKind.{TokenKind}
use Rattle.rust_source.specs.declared.tokens.token.TokenKind.TheVariants as kind
use Rattle.rust_source.specs.Cursor.{group_passed, inside, is_constant, is_keyword_next, is_named_next, is_next, next_kind, passed, tree_passed}
use Rattle.rust_source.specs.Definition.{is_union}
use Rattle.rust_source.specs.Fields.{by_names, visibility_passed}
use Rattle.rust_source.specs.Functions.{qualifiers_passed}
use Rattle.rust_source.specs.Having.{Having}
use Rattle.rust_source.specs.Items.{ItemsRead, UseRead}
use Rattle.rust_source.specs.Passing.{item_passed}
use Rattle.rust_source.specs.Reading.{Named, Reading, name, read_on}
use Rattle.rust_source.specs.Terms.{Known, done}

-- what follows the `#` of an attribute, and the `!` of one of the module around
abbrev pub attribute_begun : Cursor → Cursor
attribute_begun c = if is_next (passed c 1) 33 then passed (passed c 1) 1 else passed c 1

-- what follows the attribute whose `#` is next
abbrev pub attribute_passed : Cursor → Cursor
attribute_passed c = group_passed (attribute_begun c) (inside (attribute_begun c) bracket.Square)

-- what follows attributes, of at most so many
abbrev pub attributes_from : (limit : ℕ) → Cursor → Cursor
attributes_from zero c = c
attributes_from (suc limit) c = if is_next c 35 then attributes_from limit (attribute_passed c) else c

-- what follows the attributes that are next
unfoldable pub all_attributes_passed : Cursor → Cursor
all_attributes_passed c = attributes_from (c.end - c.at) c

-- what follows the item that is next, with its attributes and its `pub`
abbrev pub whole_passed : Cursor → Cursor
whole_passed c = item_passed (visibility_passed (all_attributes_passed c))

-- the tokens of the item that is next
unfoldable pub one_item : Cursor → Cursor
one_item c = record c { end = min (whole_passed c).at c.end }

-- the name of an item stands behind this keyword
abbrev pub names_by : Keyword → Bool
names_by keyword.Struct = true
names_by keyword.Enum = true
names_by keyword.«Type» = true
names_by keyword.Trait = true
names_by keyword.Mod = true
names_by keyword.Fn = true
names_by keyword.Static = true
names_by keyword.Const = true
names_by _ = false

-- the token is such a keyword
abbrev pub names_item : Option TokenKind → Bool
names_item (Some (kind.Keyword k)) = names_by k
names_item _ = false

-- an item begins with this keyword, wherever it stands
abbrev pub begins_by : Keyword → Bool
begins_by keyword.Pub = true
begins_by keyword.Struct = true
begins_by keyword.Enum = true
begins_by keyword.«Type» = true
begins_by keyword.Trait = true
begins_by keyword.Mod = true
begins_by keyword.Static = true
begins_by keyword.Use = true
begins_by _ = false

-- the token is such a keyword
abbrev pub begins_kind : Option TokenKind → Bool
begins_kind (Some (kind.Keyword k)) = begins_by k
begins_kind _ = false

-- an item begins with the next token, at whichever place of another one it stands
abbrev pub begins_other : Cursor → Bool
begins_other c = begins_kind (next_kind c) || is_union c

-- another item begins among at most so many tokens and groups
abbrev pub other_from : (limit : ℕ) → Cursor → Bool
other_from zero c = false
other_from (suc limit) c = if begins_other c then true else other_from limit (tree_passed c)

-- another item begins among the tokens, outside of groups, as behind a `;` that is missing
unfoldable pub has_other : Cursor → Bool
has_other c = other_from (c.end - c.at) c

-- what is next has no name of its own: an `impl`, or a `;` alone
abbrev pub is_nameless : Cursor → Bool
is_nameless c = is_keyword_next c keyword.Impl || is_next c 59

-- the name of the one item that is next stands behind a word
abbrev pub is_named_item : Cursor → Bool
is_named_item c = is_named_next c && (names_item (next_kind c) || is_union c) && not (has_other (passed c 1))

-- the item, behind its attributes and its `pub`, from the word on behind which its name stands
abbrev pub before_name : Cursor → Cursor
before_name c = if is_constant c then c else qualifiers_passed c

-- the same of a whole item
unfoldable pub word_before_name : Cursor → Cursor
word_before_name c = before_name (visibility_passed (all_attributes_passed c))

-- `_`, which is no item's name: it stands for any
abbrev pub any_name : Symbol
any_name = record { 0 = 4 }

-- the name that was read, or any where none was
abbrev pub name_or_any : Result Named SourceFault → Known → Reading (Option Symbol)
name_or_any (Ok n) names = done (Some n.0.0) names
name_or_any (Err e) names = done (Some any_name) names

-- the same of what was read, with what is known behind it
abbrev pub name_known : Reading Named → Reading (Option Symbol)
name_known read = name_or_any read.0 read.1

-- the name that an item may have which isn't read: the one that is written, if any, or any
unfoldable pub unread_name : Cursor → Known → Reading (Option Symbol)
unread_name c names =
    let w = word_before_name c in
    if is_nameless w then done None names
    else (if is_named_item w then name_known (name (passed w 1) names) else done (Some any_name) names)

-- a use of a name in a module that leads nowhere
abbrev pub lost_use : (number : ℕ) → Symbol → UseRead
lost_use number n = record { inside = number; visible_in = None; is_global = false; path = []; name = Some n; is_glob = false }

-- with an item more in a module that isn't read, with its fault, and its name, which leads nowhere
abbrev pub with_unread : (number : ℕ) → SourceFault → Option Symbol → ItemsRead → ItemsRead
with_unread number e None items = record items { unread = items.unread ++ e ∷ [] }
with_unread number e (Some n) items = record items { unread = items.unread ++ e ∷ []; uses = items.uses ++ lost_use number n ∷ [] }

-- the item of these tokens isn't read, in the module with this number, for its fault
unfoldable pub item_unread : (number : ℕ) → Cursor → SourceFault → Having → Result (Unit {0}) SourceFault × Having
item_unread number c e known =
    read_on (λ (n : Option Symbol) ns. done tt (ns.0, with_unread number e n ns.1)) (by_names known.1 (unread_name c known.0))
