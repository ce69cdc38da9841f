-- Cells: bytes, or nothing where none is initialised.
use Rattle.std.specs.Prelude.{ℕ, ◌<◌, List, All, Option, Some, None, ⊤}

abbrev pub Cell : Type 0
Cell = Option ℕ

abbrev pub IsCell : Cell → Type 0
IsCell (Some b) = b < 256
IsCell None = ⊤

abbrev pub AreCells : List Cell → Type 0
AreCells w = All IsCell w

-- a byte's letter is the byte, and nothing is the 257th
abbrev pub letter_of : Cell → ℕ
letter_of (Some b) = b
letter_of None = 256
