-- The indices that are still to come.
use Rattle.std.specs.Prelude.{ℕ, ◌-◌, List, map}
use Rattle.std.specs.List.{range_with_len}
use Rattle.abi_index.specs.declared.indices.Indices.{Indices}

-- the indices, by the function that makes one of a place (the names between braces stand for what the bound `Idx` brings)
abbrev pub indices_left : {I : Type 0} {idx : _} {eq : _} {hash : _} {debug : _} → (ℕ → I) → Indices I idx eq hash debug → List I
indices_left at s = map at (range_with_len s.next (s.end - s.next))
