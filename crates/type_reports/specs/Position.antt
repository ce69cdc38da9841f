-- Where a byte of a text lies, as people find it, and what is told of a fault there.
use Rattle.std.specs.Prelude.{false, ℕ, zero, suc, ◌+◌, ◌-◌, ◌&&◌, ◌==◌, List, [], ◌∷◌, ◌++◌, Bool, chars, codes, decimal, nat_le, replicate, take, unwrap_or, if◌then◌else◌}
use Rattle.std.specs.List.{after_first, before_first}
use Rattle.unicode_width.specs.Width.{char_width}
use Rattle.type_reports.specs.declared.place.Position.{Position}

-- the byte ends a line
abbrev pub is_line_end : (byte : ℕ) → Bool
is_line_end byte = byte == 10

-- the byte begins the end of a line that Windows has
abbrev pub is_return : (byte : ℕ) → Bool
is_return byte = byte == 13

-- the byte goes on a character that began before it, as UTF-8 has it
abbrev pub is_continuation : (byte : ℕ) → Bool
is_continuation byte = nat_le 128 byte && nat_le (byte + 1) 192

-- where one stands behind one more byte: where the next line begins, behind an end of a line, else further in this one
abbrev pub after_byte : (byte : ℕ) → Position → Position
after_byte byte p =
    if is_line_end byte then record { line = p.line + 1; column = 1 }
    else (if is_continuation byte then p else record p { column = p.column + 1 })

-- where one stands behind these bytes
abbrev pub after_bytes : List ℕ → Position → Position
after_bytes [] p = p
after_bytes (byte ∷ bytes) p = after_bytes bytes (after_byte byte p)

-- where the byte of this number lies; the end where there are fewer
abbrev pub position_of : (byte : ℕ) → List ℕ → Position
position_of byte text = after_bytes (take byte text) (record { line = 1; column = 1 })

-- what stands behind so many ends of lines
abbrev pub rest_after_lines : (count : ℕ) → List ℕ → List ℕ
rest_after_lines zero text = text
rest_after_lines (suc n) text = rest_after_lines n (after_first is_line_end text)

-- the line of this number, from 1 on, without its end
abbrev pub line_of : (number : ℕ) → List ℕ → List ℕ
line_of number text = before_first is_return (before_first is_line_end (rest_after_lines (number - 1) text))

-- what is as wide as a character in a terminal: a tab, or spaces
abbrev pub blank_of : (character : ℕ) → List ℕ
blank_of c = if c == 9 then codes "\t" else replicate (unwrap_or (char_width false c) 0) 32

-- what is as wide as these characters
abbrev pub blanks_of : List ℕ → List ℕ
blanks_of [] = []
blanks_of (c ∷ cs) = blank_of c ++ blanks_of cs

-- `FILE:LINE:COLUMN: TEXT`, the line, and a mark under the place
abbrev pub fault_lines : (file source text : List ℕ) → Position → List ℕ
fault_lines file source text p =
    file ++ codes ":" ++ decimal p.line ++ codes ":" ++ decimal p.column ++ codes ": " ++ text ++ codes "\n"
    ++ line_of p.line source ++ codes "\n"
    ++ blanks_of (take (p.column - 1) (chars (line_of p.line source))) ++ codes "^\n"
