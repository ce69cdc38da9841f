-- The columns of a row, one after another.
use Rattle.std.specs.Prelude.{ℕ, List, map}
use Rattle.abi_index.specs.declared.bit_row_iter.BitRowIter.{BitRowIter}

-- the columns that are still to come, by the function that makes an index of a place
-- (the names between braces stand for what the bound `Idx` brings)
abbrev pub columns_left : {C : Type 0} {idx : _} {eq : _} {hash : _} {debug : _} → (ℕ → C) → BitRowIter C idx eq hash debug → List C
columns_left at s = map at s.left.now
