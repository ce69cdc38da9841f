-- What stands between tokens: spaces, and comments, which nest.
use Rattle.std.specs.Prelude.{ℕ, ◌+◌, ◌-◌, ◌==◌, ◌&&◌, ◌||◌, Bool, false, not, List, [], ◌∷◌, drop, nat_le, nat_lt, Option, None, Some, Result, Ok, Err, if◌then◌else◌}
use Rattle.std.specs.Char.{is_ascii_digit}
use Rattle.rust_source.specs.declared.tokens.runs.Run.{Run}
use Rattle.rust_source.specs.declared.tokens.runs.Run.TheVariants as run
use Rattle.rust_source.specs.Characters.{byte_at, first_char, is_word_byte, length_where}

-- a byte goes on with such a run
abbrev pub goes_on : Run → ℕ → Bool
goes_on run.Line b = not (b == 10)
goes_on run.Word b = is_word_byte b
goes_on run.Digits b = is_ascii_digit b || (b == 95)
goes_on run.Hashes b = b == 35

-- where the run ends that has come this far
abbrev pub run_from : Run → (at : ℕ) → List ℕ → ℕ
run_from r at [] = at
run_from r at (b ∷ bs) = if goes_on r b then run_from r (at + 1) bs else at

-- how many bytes of a run the bytes begin with
unfoldable pub run_length : Run → List ℕ → ℕ
run_length r bytes = run_from r 0 bytes

-- where the outermost comment ends that has come this far, behind this byte, within so many open ones
abbrev pub comment_from : (depth last at : ℕ) → List ℕ → Option ℕ
comment_from depth last at [] = None
comment_from depth last at (b ∷ bs) =
    if (last == 47) && (b == 42) then comment_from (depth + 1) 0 (at + 1) bs
    else (if (last == 42) && (b == 47) then (if nat_le depth 1 then Some (at + 1) else comment_from (depth - 1) 0 (at + 1) bs)
    else comment_from depth b (at + 1) bs)

-- how many bytes the comment has that the bytes begin with by its `/*`; none where it has no end
unfoldable pub comment_length : List ℕ → Option ℕ
comment_length bytes = comment_from 0 0 0 bytes

-- the spaces that aren't ASCII's: next line, the two marks of direction, line and paragraph separator
abbrev pub is_wide_space : ℕ → Bool
is_wide_space c = (c == 0x85) || (c == 0x200E) || (c == 0x200F) || (c == 0x2028) || (c == 0x2029)

-- how many bytes the space has that the bytes begin with, or 0
unfoldable pub space_length : List ℕ → ℕ
space_length bytes =
    let b = byte_at bytes 0 in
    if (b == 32) || (b == 9) || (b == 10) || (b == 13) || (b == 11) || (b == 12) then 1
    else (if nat_lt b 128 then 0 else length_where is_wide_space (first_char bytes))

-- how many bytes the space or the comment has that the bytes begin with, or 0; none where a comment has no end
unfoldable pub one_blank_length : List ℕ → Option ℕ
one_blank_length bytes =
    if (byte_at bytes 0 == 47) && (byte_at bytes 1 == 47) then Some (run_length run.Line bytes)
    else (if (byte_at bytes 0 == 47) && (byte_at bytes 1 == 42) then comment_length bytes
    else Some (space_length bytes))

-- what comes of the next space or comment, where it has no end, where there is none, and where it is followed by more
abbrev pub blank_by : (at : ℕ) → (next : ℕ → Result ℕ ℕ) → Option ℕ → Result ℕ ℕ
blank_by at next None = Err at
blank_by at next (Some more) = if more == 0 then Ok at else next more

-- where the spaces and comments end that have come this far, or where the comment begins that has no end; they go on at
-- most once for each byte of `limit`
abbrev pub blank_from : (limit : List ℕ) → (at : ℕ) → List ℕ → Result ℕ ℕ
blank_from [] at bytes = Ok at
blank_from (l ∷ ls) at bytes = blank_by at (λ more. blank_from ls (at + more) bytes) (one_blank_length (drop at bytes))

-- how many bytes of spaces and comments the bytes begin with, or where the comment begins that has no end
unfoldable pub blank_length : List ℕ → Result ℕ ℕ
blank_length bytes = blank_from bytes 0 bytes

-- how many bytes a byte order mark has that the text begins with
abbrev pub mark_length : List ℕ → ℕ
mark_length text = if (byte_at text 0 == 0xEF) && (byte_at text 1 == 0xBB) && (byte_at text 2 == 0xBF) then 3 else 0

-- what follows `#!` begins an attribute
abbrev pub is_attribute : List ℕ → Result ℕ ℕ → Bool
is_attribute more (Ok blank) = byte_at more blank == 91
is_attribute more (Err at) = false

-- how many bytes a byte order mark and a line `#!` have, with which a source may begin
unfoldable pub head_length : List ℕ → ℕ
head_length text =
    let mark = mark_length text in
    let rest = drop mark text in
    if (byte_at rest 0 == 35) && (byte_at rest 1 == 33) && not (is_attribute (drop 2 rest) (blank_length (drop 2 rest))) then mark + run_length run.Line rest
    else mark
