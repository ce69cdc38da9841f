-- What is passed over: bounds, what stands in angle brackets, and items that make no types.
use Rattle.std.specs.Prelude.{ℕ, zero, suc, ◌+◌, ◌-◌, ◌^◌, ◌==◌, ◌&&◌, ◌||◌, Bool, true, false, min, Option, None, Some, if◌then◌else◌}
use Rattle.rust_source.specs.declared.reader.cursor.Cursor.{Cursor}
use Rattle.rust_source.specs.declared.tokens.keyword.Keyword.{Keyword}
use Rattle.rust_source.specs.declared.tokens.keyword.Keyword.TheVariants as keyword
use Rattle.rust_source.specs.declared.tokens.token.Bracket.TheVariants as bracket
use Rattle.rust_source.specs.declared.tokens.token.TokenKind.{TokenKind}
use Rattle.rust_source.specs.declared.tokens.token.TokenKind.TheVariants as kind
use Rattle.rust_source.specs.Cursor.{is_next, is_pair, kind_of_token, next_kind, nth, passed, tree_passed}
use Rattle.rust_source.specs.Until.{until}

-- a token of this kind ends bounds that stand in no angle brackets: `,`, `;`, `=`, `>`, `{` and `where`
abbrev pub ends_bounds : TokenKind → Bool
ends_bounds (kind.Punct b) = (b == 44) || (b == 59) || (b == 61) || (b == 62)
ends_bounds (kind.Open bracket.Curly) = true
ends_bounds (kind.Keyword keyword.Where) = true
ends_bounds _ = false

-- how many angle brackets are open behind what is next, no more than 2 ^ 64 - 1 being counted; `->` closes none
unfoldable pub open_behind : Cursor → (depth : ℕ) → ℕ
open_behind c depth =
    if is_pair c 45 62 then depth else (if is_next c 60 then min (depth + 1) (2 ^ 64 - 1) else (if is_next c 62 then depth - 1 else depth))

-- what follows the token or the group that is next, or the `->`
unfoldable pub one_passed : Cursor → Cursor
one_passed c = if is_pair c 45 62 then passed c 2 else tree_passed c

-- `?`
abbrev pub is_question : TokenKind → Bool
is_question (kind.Punct b) = b == 63
is_question _ = false

-- what comes of the next token of bounds: they end, or go on with so many brackets open
abbrev pub bound_by : (go_on : ℕ → Bool → Cursor → Bool × Cursor) → (depth : ℕ) → (asked : Bool) → Cursor → Option TokenKind → Bool × Cursor
bound_by go_on depth asked c None = (asked, c)
bound_by go_on depth asked c (Some k) =
    if (depth == 0) && ends_bounds k then (asked, c)
    else go_on (open_behind c depth) (asked || ((depth == 0) && is_question k)) (one_passed c)

-- what follows bounds, and whether a `?` is among them outside of brackets, of at most so many tokens
abbrev pub bounds_from : (limit depth : ℕ) → (asked : Bool) → Cursor → Bool × Cursor
bounds_from zero depth asked c = (asked, c)
bounds_from (suc limit) depth asked c = bound_by (bounds_from limit) depth asked c (next_kind c)

-- what follows the bounds that are next, and whether a `?` is among them
unfoldable pub bounds : Cursor → Bool × Cursor
bounds c = bounds_from (c.end - c.at) 0 false c

-- what follows angle brackets of which so many are open
abbrev pub angles_from : (limit depth : ℕ) → Cursor → Cursor
angles_from zero depth c = c
angles_from (suc limit) depth c =
    if open_behind c depth == 0 then one_passed c else angles_from limit (open_behind c depth) (one_passed c)

-- what follows angle brackets and what they have, where they are next
unfoldable pub angles_passed : Cursor → Cursor
angles_passed c = if is_next c 60 then angles_from (c.end - c.at) 0 c else c

-- what follows the `;` that is met first outside of groups, or all
unfoldable pub semicolon_passed : Cursor → Cursor
semicolon_passed c = let d = until 59 c in if is_next d 59 then passed d 1 else d

-- a token of this kind ends an item with its group, or alone: braces or a `;`
abbrev pub ends_item : TokenKind → Bool
ends_item (kind.Punct b) = b == 59
ends_item (kind.Open bracket.Curly) = true
ends_item _ = false

-- what comes of the next token of an item: it ends the item, or it goes on with so many angle brackets open
abbrev pub body_by : (go_on : ℕ → Cursor → Cursor) → (depth : ℕ) → Cursor → Option TokenKind → Cursor
body_by go_on depth c None = c
body_by go_on depth c (Some k) = if (depth == 0) && ends_item k then one_passed c else go_on (open_behind c depth) (one_passed c)

-- what follows an item of at most so many tokens and groups, with so many angle brackets open
abbrev pub body_from : (limit depth : ℕ) → Cursor → Cursor
body_from zero depth c = c
body_from (suc limit) depth c = body_by (body_from limit) depth c (next_kind c)

-- what follows the item's `;` or its braces, whichever is met first outside of angle brackets and groups
unfoldable pub body_passed : Cursor → Cursor
body_passed c = body_from (c.end - c.at) 0 c

-- a token of this kind names a constant: a name or `_`
abbrev pub names_constant : Option TokenKind → Bool
names_constant (Some kind.Name) = true
names_constant (Some kind.RawName) = true
names_constant (Some (kind.Keyword keyword.Underscore)) = true
names_constant _ = false

-- an item that begins with this keyword, and then a token of that kind, ends at a `;` even where it has braces
abbrev pub keeps_semicolon : Keyword → (second : Option TokenKind) → Bool
keeps_semicolon keyword.Const second = names_constant second
keeps_semicolon keyword.Static second = true
keeps_semicolon keyword.Type second = true
keeps_semicolon keyword.Use second = true
keeps_semicolon _ second = false

-- the first of both tokens is a keyword, and what begins with both ends so
abbrev pub ends_at_semicolon_by : (first second : Option TokenKind) → Bool
ends_at_semicolon_by (Some (kind.Keyword k)) second = keeps_semicolon k second
ends_at_semicolon_by _ second = false

-- the item that is next ends at a `;` even where it has braces: a constant, a static, another name of a type, a `use`
abbrev pub ends_at_semicolon : Cursor → Bool
ends_at_semicolon c = ends_at_semicolon_by (next_kind c) (kind_of_token (nth c 1))

-- what follows the item that is next
unfoldable pub item_passed : Cursor → Cursor
item_passed c = if ends_at_semicolon c then semicolon_passed c else body_passed c
