-- Cells that are set in place of nothing.
use Rattle.std.specs.Prelude.{◌≡◌, ◌⊎◌, List, [], ◌∷◌, None, Some, ℕ, ⊤}
use Rattle.automata.specs.Cell.{Cell}

-- the second cells are the first, or are set where the first aren't
abbrev pub Fills : (w u : List Cell) → Type 0
Fills [] [] = ⊤
Fills (c ∷ w) (d ∷ u) = ((c ≡ None) ⊎ (c ≡ d)) × Fills w u
Fills _ _ = ⊥

-- each cell is initialised
abbrev pub AreSet : List Cell → Type 0
AreSet [] = ⊤
AreSet (c ∷ w) = ((b : ℕ) × (c ≡ Some b)) × AreSet w
