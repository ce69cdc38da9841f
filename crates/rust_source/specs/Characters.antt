-- Single characters of a source, which is UTF-8.
use Rattle.std.specs.Prelude.{ℕ, ◌+◌, ◌*◌, ◌%◌, ◌==◌, ◌&&◌, ◌||◌, Bool, List, [], ◌∷◌, get_or, drop, length, nat_lt, nat_le, Option, None, Some, if◌then◌else◌}
use Rattle.std.specs.Char.{is_ascii_alphabetic, is_ascii_alphanumeric}
use Rattle.unicode_ident.specs.Ident.{is_xid_start, is_xid_continue}

-- the byte that this many stand before, or 0 where there is none
abbrev pub byte_at : List ℕ → (before : ℕ) → ℕ
byte_at bytes before = get_or bytes before 0

-- the six bits that a byte of a longer character has
abbrev pub six_bits : List ℕ → (before : ℕ) → ℕ
six_bits bytes before = byte_at bytes before % 64

-- the code of the first character, and how many bytes it has, by its first byte
unfoldable pub decoded : List ℕ → ℕ × ℕ
decoded bytes =
    let b = byte_at bytes 0 in
    if nat_lt b 0xC0 then (b, 1)
    else (if nat_lt b 0xE0 then (b % 32 * 64 + six_bits bytes 1, 2)
    else (if nat_lt b 0xF0 then (b % 16 * 4096 + six_bits bytes 1 * 64 + six_bits bytes 2, 3)
    else (b % 8 * 262144 + six_bits bytes 1 * 4096 + six_bits bytes 2 * 64 + six_bits bytes 3, 4)))

-- a code that a character has
abbrev pub is_scalar : ℕ → Bool
is_scalar code = nat_lt code 0xD800 || (nat_le 0xE000 code && nat_lt code 0x110000)

-- the first character, and how many bytes it has
unfoldable pub first_char : List ℕ → Option (ℕ × ℕ)
first_char [] = None
first_char (b ∷ bs) =
    let first = decoded (b ∷ bs) in
    if is_scalar first.0 && nat_le first.1 (length (b ∷ bs)) then Some first else None

-- part of a word of ASCII
abbrev pub is_word_byte : ℕ → Bool
is_word_byte b = is_ascii_alphanumeric b || (b == 95)

-- the length of a character, where it passes
abbrev pub length_where : (ℕ → Bool) → Option (ℕ × ℕ) → ℕ
length_where passes None = 0
length_where passes (Some c) = if passes c.0 then c.1 else 0

-- the length of the first character, where a name may begin with it, and else 0
unfoldable pub name_start : List ℕ → ℕ
name_start bytes =
    let b = byte_at bytes 0 in
    if nat_lt b 128 then (if is_ascii_alphabetic b || (b == 95) then 1 else 0) else length_where is_xid_start (first_char bytes)

-- the length of the first character, where a name may go on with it, and else 0
unfoldable pub name_more : List ℕ → ℕ
name_more bytes =
    let b = byte_at bytes 0 in
    if nat_lt b 128 then (if is_word_byte b then 1 else 0) else length_where is_xid_continue (first_char bytes)

-- where a name ends that has come this far; it goes on at most once for each byte of `limit`
abbrev pub name_from : (limit : List ℕ) → (at : ℕ) → List ℕ → ℕ
name_from [] at bytes = at
name_from (l ∷ ls) at bytes =
    let more = name_more (drop at bytes) in
    if more == 0 then at else name_from ls (at + more) bytes

-- how many bytes the name has that the bytes begin with, or 0
unfoldable pub name_length : List ℕ → ℕ
name_length bytes =
    let first = name_start bytes in
    if first == 0 then 0 else name_from bytes first bytes
