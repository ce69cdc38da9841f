-- Where strings, characters and lifetimes end.
use Rattle.std.specs.Prelude.{ℕ, ◌+◌, ◌==◌, ◌&&◌, ◌||◌, Bool, true, false, not, List, [], ◌∷◌, drop, take, Option, None, Some, option_map, Result, Ok, Err, if◌then◌else◌}
use Rattle.rust_source.specs.declared.fault.SourceFaultKind.{SourceFaultKind}
use Rattle.rust_source.specs.declared.fault.SourceFaultKind.TheVariants.{BadCharacter, BadRawName, UnclosedText}
use Rattle.rust_source.specs.declared.tokens.keyword.Keyword.{Keyword}
use Rattle.rust_source.specs.declared.tokens.keyword.Keyword.TheVariants as keyword
use Rattle.rust_source.specs.declared.tokens.runs.Run.TheVariants as run
use Rattle.rust_source.specs.declared.tokens.token.TokenKind.{TokenKind}
use Rattle.rust_source.specs.declared.tokens.token.TokenKind.TheVariants as kind
use Rattle.rust_source.specs.Characters.{byte_at, first_char, name_length}
use Rattle.rust_source.specs.Blanks.{run_length}
use Rattle.rust_source.specs.Keywords.{keyword_of}

-- the byte is the quote that ends a text
abbrev pub is_end : (is_escaped : Bool) → (b quote : ℕ) → Bool
is_end is_escaped b quote = not is_escaped && (b == quote)

-- the byte takes the next one with it
abbrev pub escapes : (is_escaped : Bool) → (b : ℕ) → Bool
escapes is_escaped b = not is_escaped && (b == 92)

-- where the text ends that has come this far: behind its second quote, a backslash taking the next byte with it
abbrev pub escaped_from : (quote : ℕ) → (is_escaped : Bool) → (at : ℕ) → List ℕ → Option ℕ
escaped_from quote is_escaped at [] = None
escaped_from quote is_escaped at (b ∷ bs) =
    if is_end is_escaped b quote then Some (at + 1) else escaped_from quote (escapes is_escaped b) (at + 1) bs

-- how many bytes the text has that the bytes begin with by its quote; none where it has no end
unfoldable pub escaped_length : (quote : ℕ) → List ℕ → Option ℕ
escaped_length quote bytes = escaped_from quote true 0 bytes

-- how many `#` follow the last quote, with a byte more; none where other bytes follow it
abbrev pub hashes_with : (seen : Option ℕ) → (b : ℕ) → Option ℕ
hashes_with seen b = if b == 34 then Some 0 else (if b == 35 then option_map (λ n. n + 1) seen else None)

-- so many are seen
abbrev pub is_seen : Option ℕ → (hashes : ℕ) → Bool
is_seen None hashes = false
is_seen (Some n) hashes = n == hashes

-- where the raw string ends that has come this far: behind a quote and as many `#` as it began with
abbrev pub raw_from : (hashes : ℕ) → (seen : Option ℕ) → (at : ℕ) → List ℕ → Option ℕ
raw_from hashes seen at [] = None
raw_from hashes seen at (b ∷ bs) =
    if is_seen (hashes_with seen b) hashes then Some (at + 1) else raw_from hashes (hashes_with seen b) (at + 1) bs

-- how many bytes end a raw string whose first quote stands before the bytes; none where it has no end
unfoldable pub raw_end : List ℕ → (hashes : ℕ) → Option ℕ
raw_end bytes hashes = raw_from hashes None 0 bytes

-- a token, and how many bytes it has
abbrev pub Lexed : Type 0
Lexed = Result (TokenKind × ℕ) SourceFaultKind

-- the token of this kind whose end was found behind so many bytes
abbrev pub token_closed : TokenKind → (before : ℕ) → Option ℕ → Lexed
token_closed k before None = Err UnclosedText
token_closed k before (Some n) = Ok (k, before + n)

-- the string whose quote stands behind so many bytes
unfoldable pub string_token : List ℕ → (before : ℕ) → Lexed
string_token bytes before = token_closed kind.Text before (escaped_length 34 (drop before bytes))

-- the lifetime of this name, behind its `'`
abbrev pub lifetime : (name : ℕ) → Lexed
lifetime name = if name == 0 then Err BadCharacter else Ok (kind.Lifetime, name + 1)

-- the character or the lifetime whose first character, behind the `'`, is this one
abbrev pub quote_by : (inside : List ℕ) → Option (ℕ × ℕ) → Lexed
quote_by inside None = Err UnclosedText
quote_by inside (Some c) =
    if (byte_at inside c.1 == 39) && not (byte_at inside 0 == 39) then Ok (kind.Char, c.1 + 2) else lifetime (name_length inside)

-- the character or the lifetime that the bytes begin with by `'`
unfoldable pub quote_token : List ℕ → Lexed
quote_token bytes =
    let inside = drop 1 bytes in
    if byte_at inside 0 == 92 then token_closed kind.Char 0 (escaped_length 39 bytes) else quote_by inside (first_char inside)

-- the byte literal of this character, behind its `b`; what would be a lifetime alone is none
abbrev pub byte_of : (character : Lexed) → Lexed
byte_of (Ok (kind.Char, n)) = Ok (kind.Byte, n + 1)
byte_of (Ok _) = Err BadCharacter
byte_of (Err k) = Err k

-- the byte literal that the bytes begin with by `b'`
unfoldable pub byte_token : List ℕ → Lexed
byte_token bytes = byte_of (quote_token (drop 1 bytes))

-- a word that can't be a raw name: one that a path may begin with, or `_` (Rust Reference, "Identifiers")
abbrev pub is_never_raw : Option Keyword → Bool
is_never_raw (Some keyword.Crate) = true
is_never_raw (Some keyword.SelfValue) = true
is_never_raw (Some keyword.SelfType) = true
is_never_raw (Some keyword.Super) = true
is_never_raw (Some keyword.Underscore) = true
is_never_raw _ = false

-- the raw name that stands behind `r#`; none where no word does
unfoldable pub raw_name : List ℕ → Option Lexed
raw_name bytes =
    let n = name_length bytes in
    if n == 0 then None else Some (if is_never_raw (keyword_of (take n bytes)) then Err BadRawName else Ok (kind.RawName, n + 2))

-- the raw string that the bytes begin with, or the raw name, behind so many letters; none where they begin with neither
unfoldable pub raw_token : List ℕ → (letters : ℕ) → Option Lexed
raw_token bytes letters =
    let hashes = run_length run.Hashes (drop letters bytes) in
    let before = letters + hashes in
    if byte_at bytes before == 34 then Some (token_closed kind.Text (before + 1) (raw_end (drop (before + 1) bytes) hashes))
    else (if (letters == 1) && (hashes == 1) && (byte_at bytes 0 == 114) then raw_name (drop 2 bytes) else None)

-- the literal or the raw name that the bytes begin with by a letter; none where they begin with neither
unfoldable pub prefixed_token : List ℕ → Option Lexed
prefixed_token bytes =
    let a = byte_at bytes 0 in
    let b = byte_at bytes 1 in
    if (a == 98) && (b == 39) then Some (byte_token bytes)
    else (if ((a == 98) || (a == 99)) && (b == 34) then Some (string_token bytes 1)
    else (if (a == 114) && ((b == 34) || (b == 35)) then raw_token bytes 1
    else (if ((a == 98) || (a == 99)) && (b == 114) then raw_token bytes 2
    else None)))
