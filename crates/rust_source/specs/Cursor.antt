-- Where a reading stands: at a token of a group, none behind the group's end being read.
use Rattle.std.specs.Prelude.{ℕ, ◌+◌, ◌-◌, ◌^◌, ◌==◌, ◌&&◌, ◌||◌, Bool, true, false, not, List, [], get_or, length, min, nat_le, nat_lt, slice_get, slice_range, Option, None, Some, Result, Ok, Err, if◌then◌else◌}
use Rattle.rust_source.specs.declared.fault.SourceFault.{SourceFault}
use Rattle.rust_source.specs.declared.fault.SourceFaultKind.{SourceFaultKind}
use Rattle.rust_source.specs.declared.fault.SourceFaultKind.TheVariants.{ExpectedComma}
use Rattle.rust_source.specs.declared.place.Place.{Place}
use Rattle.rust_source.specs.declared.reader.cursor.Cursor.{Cursor}
use Rattle.rust_source.specs.declared.tokens.keyword.Keyword.{Keyword}
use Rattle.rust_source.specs.declared.tokens.keyword.Keyword.TheVariants as keyword
use Rattle.rust_source.specs.Tokens.{is_same}
use denote.Enum.Bare.{sameb}
use Rattle.rust_source.specs.contracts.tokens.keyword.Keyword.{the_type}
use Rattle.rust_source.specs.declared.tokens.token.Bracket.{Bracket}
use Rattle.rust_source.specs.declared.tokens.token.Token.{Token}
use Rattle.rust_source.specs.declared.tokens.token.TokenKind.{TokenKind}
use Rattle.rust_source.specs.declared.tokens.token.TokenKind.TheVariants as kind

-- the token that so many stand before, the next being 0, where it stands before the end
unfoldable pub nth : Cursor → (before : ℕ) → Option Token
nth c before = if nat_lt (c.at + before) c.end then slice_get c.tokens.now (c.at + before) else None

-- the kind of a token
abbrev pub kind_of_token : Option Token → Option TokenKind
kind_of_token None = None
kind_of_token (Some t) = Some t.kind

-- the kind of the next token
abbrev pub next_kind : Cursor → Option TokenKind
next_kind c = kind_of_token (nth c 0)

-- nothing is there
abbrev pub is_none : Option Token → Bool
is_none None = true
is_none (Some t) = false

-- nothing is left
abbrev pub is_done : Cursor → Bool
is_done c = is_none (nth c 0)

-- so many tokens further; what stands in memory has no more than 2 ^ 64 - 1
unfoldable pub passed : Cursor → (count : ℕ) → Cursor
passed c count = record c { at = min (c.at + count) (2 ^ 64 - 1) }

-- a number of bytes of the source as a place among all sources, of which none is greater than 2 ^ 32 - 1
unfoldable pub place_behind_start : Cursor → (bytes : ℕ) → Place
place_behind_start c bytes = record { 0 = min (c.start + bytes) (2 ^ 32 - 1) }

-- where a token begins, or else so many bytes
abbrev pub start_or : (other : ℕ) → Option Token → ℕ
start_or other None = other
start_or other (Some t) = t.start

-- where the next token begins; where none is left, the one that ends the group, or the source's end
unfoldable pub place : Cursor → Place
place c = place_behind_start c (start_or (start_or (length c.text.now) (slice_get c.tokens.now c.end)) (nth c 0))

-- where a token ends, or else 0
abbrev pub end_of : Option Token → ℕ
end_of None = 0
end_of (Some t) = t.end

-- where the token ended that was read last
unfoldable pub place_behind : Cursor → Place
place_behind c = place_behind_start c (end_of (slice_get c.tokens.now (c.at - 1)))

-- a text may be cut behind so many bytes: within it, and at no byte that goes on with a character
abbrev pub is_cut : List ℕ → (at : ℕ) → Bool
is_cut text at =
    nat_le at (length text) && (not (nat_lt at (length text)) || nat_lt (get_or text at 0) 128 || nat_le 192 (get_or text at 0))

-- the text from here to there; none where it may not be cut there
unfoldable pub text_between : List ℕ → (from end : ℕ) → List ℕ
text_between text from end =
    if nat_le from end && is_cut text from && is_cut text end then slice_range text from end else []

-- the text of a token
abbrev pub token_text : Cursor → Token → List ℕ
token_text c t = text_between c.text.now t.start t.end

-- the fault of this kind at the next token
abbrev pub fault : Cursor → SourceFaultKind → SourceFault
fault c k = record { at = place c; kind = k }

-- the token is this character of punctuation
abbrev pub is_punct : (character : ℕ) → Option TokenKind → Bool
is_punct character (Some (kind.Punct b)) = b == character
is_punct character _ = false

-- the token that so many stand before is this character
unfoldable pub is_nth : Cursor → (before character : ℕ) → Bool
is_nth c before character = is_punct character (kind_of_token (nth c before))

-- the next token is this character
abbrev pub is_next : Cursor → (character : ℕ) → Bool
is_next c character = is_nth c 0 character

-- the first token ends where the second one begins
abbrev pub touch : (one other : Option Token) → Bool
touch (Some t) (Some u) = t.end == u.start
touch _ _ = false

-- the token that so many stand before, and the one behind it, are these characters with nothing between
unfoldable pub is_nth_pair : Cursor → (before first second : ℕ) → Bool
is_nth_pair c before first second =
    is_nth c before first && is_nth c (before + 1) second && touch (nth c before) (nth c (before + 1))

-- the next two tokens are these characters with nothing between
abbrev pub is_pair : Cursor → (first second : ℕ) → Bool
is_pair c first second = is_nth_pair c 0 first second

-- two keywords are the same
abbrev pub is_same_word : Keyword → Keyword → Bool
is_same_word one other = sameb the_type one other

-- the token is this keyword
abbrev pub is_keyword : Keyword → Option TokenKind → Bool
is_keyword k (Some (kind.Keyword l)) = is_same_word l k
is_keyword k _ = false

-- the next token is this keyword
unfoldable pub is_keyword_next : Cursor → Keyword → Bool
is_keyword_next c k = is_keyword k (next_kind c)

-- the token is a name
abbrev pub is_name : Option TokenKind → Bool
is_name (Some kind.Name) = true
is_name (Some kind.RawName) = true
is_name _ = false

-- a name stands behind the next token
abbrev pub is_named_next : Cursor → Bool
is_named_next c = is_name (kind_of_token (nth c 1))

-- a constant with a name is next
abbrev pub is_constant : Cursor → Bool
is_constant c = is_keyword_next c keyword.Const && is_named_next c

-- a token of this kind opens a group in brackets of the kind
abbrev pub opens : Bracket → TokenKind → Bool
opens b (kind.Open o) = is_same o b
opens b _ = false

-- the token opens a group in brackets of this kind
abbrev pub is_open : Bracket → Option Token → Bool
is_open b None = false
is_open b (Some t) = opens b t.kind

-- a group in brackets of this kind is next
unfoldable pub is_group : Cursor → Bracket → Bool
is_group c b = is_open b (nth c 0)

-- what stands at this place, up to the end
abbrev pub between : Cursor → (from end : ℕ) → Cursor
between c from end = record c { at = from; end = end }

-- the tokens within the brackets that the token opens, where they are of this kind
abbrev pub inside_by : Cursor → Bracket → Option Token → Option Cursor
inside_by c b None = None
inside_by c b (Some t) = if opens b t.kind then Some (between c (c.at + 1) t.partner) else None

-- the tokens within the brackets of a group that is next; none where no such group is
unfoldable pub inside : Cursor → Bracket → Option Cursor
inside c b = inside_by c b (nth c 0)

-- the place of a bracket's partner
abbrev pub partner_of : Option Token → ℕ
partner_of None = 0
partner_of (Some t) = t.partner

-- what follows the group that is next
unfoldable pub behind_group : Cursor → Cursor
behind_group c = record c { at = partner_of (nth c 0) + 1 }

-- what follows a group whose tokens are these, where there is one
abbrev pub group_passed : Cursor → (inside : Option Cursor) → Cursor
group_passed c None = c
group_passed c (Some i) = behind_group c

-- what follows the token, or the group that it opens
abbrev pub behind_kind : Cursor → Token → TokenKind → Cursor
behind_kind c t (kind.Open b) = record c { at = t.partner + 1 }
behind_kind c t _ = passed c 1

-- what follows the token, where there is one
abbrev pub tree_passed_by : Cursor → Option Token → Cursor
tree_passed_by c None = c
tree_passed_by c (Some t) = behind_kind c t t.kind

-- the next token is passed over, and the whole group where it opens one
unfoldable pub tree_passed : Cursor → Cursor
tree_passed c = tree_passed_by c (nth c 0)

-- a lifetime
abbrev pub is_lifetime : Option TokenKind → Bool
is_lifetime (Some kind.Lifetime) = true
is_lifetime _ = false

-- the character is passed over, or the fault of this kind where it isn't next
abbrev pub expected : Cursor → (character : ℕ) → SourceFaultKind → Result Cursor SourceFault
expected c character k = if is_next c character then Ok (passed c 1) else Err (fault c k)

-- a `,` is passed over, unless nothing is left
abbrev pub comma_passed : Cursor → Result Cursor SourceFault
comma_passed c = if is_next c 44 then Ok (passed c 1) else (if is_done c then Ok c else Err (fault c ExpectedComma))
