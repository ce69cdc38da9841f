-- How a text falls into lines.
use Rattle.std.specs.Prelude.{ℕ, ◌-◌, ◌==◌, List, [], length, take, slice_index, unwrap_or, if◌then◌else◌}
use Rattle.abi_text.specs.Pieces.{before, after_byte}

-- a line without a carriage return at its end
abbrev pub without_return : List ℕ → List ℕ
without_return line = if slice_index line (length line - 1) == 13 then take (length line - 1) line else line

-- the first line, without a carriage return at its end
abbrev pub first_line : List ℕ → List ℕ
first_line text = without_return (before 10 text)

-- the second line, or nothing where there is none
abbrev pub second_line : List ℕ → List ℕ
second_line text = without_return (before 10 (unwrap_or (after_byte 10 text) []))
