-- How many bytes strings have.
use Rattle.std.specs.Prelude.{ℕ, ◌+◌, ◌-◌, ◌*◌, ◌^◌, ◌==◌, ◌&&◌, ◌||◌, Bool, true, false, List, [], ◌∷◌, drop, nat_le, nat_lt, Option, None, Some, if◌then◌else◌}
use Rattle.std.specs.Option.{option_and_then}
use Rattle.rust_source.specs.declared.reader.texts.TextPart.{TextPart}
use Rattle.rust_source.specs.declared.reader.texts.TextPart.TheVariants as part
use Rattle.rust_source.specs.declared.tokens.runs.Run.TheVariants as run
use Rattle.rust_source.specs.Blanks.{run_length}
use Rattle.rust_source.specs.Characters.{byte_at}
use Rattle.rust_source.specs.Literals.{bytes_between, digit_value}

-- how many bytes a character of this code has in UTF-8
abbrev pub encoded_length : (code : ℕ) → ℕ
encoded_length code = if nat_lt code 128 then 1 else (if nat_lt code 2048 then 2 else (if nat_lt code 65536 then 3 else 4))

-- what a byte leaves to be read, and how many bytes it adds to the string
abbrev pub Added : Type 0
Added = TextPart × ℕ

-- of a byte that stands for itself, or of an escape's backslash; of the end of a line the `\n` alone counts
abbrev pub plain_part : (byte : ℕ) → Added
plain_part b = if b == 92 then (part.Escape, 0) else (if b == 13 then (part.Plain, 0) else (part.Plain, 1))

-- of the letter of an escape (Rust Reference, "Tokens"): `x`, `u`, the end of a line, or a letter that stands for one byte
abbrev pub escape_part : (byte : ℕ) → Option Added
escape_part b =
    if b == 120 then Some (part.Digits 2, 1)
    else (if b == 117 then Some (part.Brace, 0)
    else (if (b == 10) || (b == 13) then Some (part.Blanks, 0)
    else (if (b == 110) || (b == 114) || (b == 116) || (b == 48) || (b == 92) || (b == 39) || (b == 34) then Some (part.Plain, 1) else None)))

-- of a digit of a character's code, of `_`, or of the brace behind it
abbrev pub code_part : (code byte : ℕ) → Option Added
code_part code b =
    if b == 125 then Some (part.Plain, encoded_length code)
    else (if b == 95 then Some (part.Code code, 0)
    else (if nat_le 16 (digit_value b) || nat_le 69632 code then None else Some (part.Code (code * 16 + digit_value b), 0)))

-- of a byte that is such a part
abbrev pub part_after : TextPart → (byte : ℕ) → Option Added
part_after part.Raw b = if b == 13 then Some (part.Raw, 0) else Some (part.Raw, 1)
part_after part.Plain b = Some (plain_part b)
part_after part.Escape b = escape_part b
part_after (part.Digits left) b = if nat_lt 1 left then Some (part.Digits (left - 1), 0) else Some (part.Plain, 0)
part_after part.Brace b = if b == 123 then Some (part.Code 0, 0) else None
part_after (part.Code code) b = code_part code b
part_after part.Blanks b =
    if (b == 32) || (b == 9) || (b == 10) || (b == 13) then Some (part.Blanks, 0) else Some (plain_part b)

-- a string may end before such a byte
abbrev pub is_whole : TextPart → Bool
is_whole part.Raw = true
is_whole part.Plain = true
is_whole part.Blanks = true
is_whole _ = false

-- what follows a byte that adds so many, where the length fits 64 bits
abbrev pub length_on : (go_on : TextPart → (before : ℕ) → Option ℕ) → (before : ℕ) → Added → Option ℕ
length_on go_on before a = if nat_lt (before + a.1) (2 ^ 64) then go_on a.0 (before + a.1) else None

-- how many bytes a string has, of which so many stand before; the first of these bytes is such a part
abbrev pub length_from : TextPart → (before : ℕ) → List ℕ → Option ℕ
length_from p before [] = if is_whole p then Some before else None
length_from p before (b ∷ bs) = option_and_then (length_on (λ q n. length_from q n bs) before) (part_after p b)

-- how many bytes a string has that stands between two quotes
abbrev pub quoted_length : List ℕ → Option ℕ
quoted_length bytes = option_and_then (length_from part.Plain 0) (bytes_between 34 34 bytes)

-- how many bytes stand between a raw string's quotes, of all that stand behind its letters and first `#`
abbrev pub before_quote : (hashes all : ℕ) → Option ℕ
before_quote hashes all = if nat_le (hashes + 2) all then Some (all - (hashes + 2)) else None

-- how many bytes a raw string has, before whose first `#` or quote so many letters stand
abbrev pub raw_length : List ℕ → (letters : ℕ) → Option ℕ
raw_length bytes letters =
    let hashes = run_length run.Hashes (drop letters bytes) in
    option_and_then (before_quote hashes) (length_from part.Raw 0 (drop (letters + hashes) bytes))

-- how many bytes a string or a byte string has that is written so
unfoldable pub text_length : List ℕ → Option ℕ
text_length bytes =
    let a = byte_at bytes 0 in
    let b = byte_at bytes 1 in
    if a == 34 then quoted_length bytes
    else (if (a == 98) && (b == 34) then quoted_length (drop 1 bytes)
    else (if a == 114 then raw_length bytes 1
    else (if (a == 98) && (b == 114) then raw_length bytes 2 else None)))
