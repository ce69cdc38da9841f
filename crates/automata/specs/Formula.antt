-- Formulas, and the cells that they read.
use Rattle.std.specs.Prelude.{ℕ, zero, suc, ◌<◌, ◌≤◌, ◌⊎◌, ◌↔◌, List, [], ◌∷◌, drop, ⊤}
use Rattle.automata.specs.Cell.{Cell, letter_of}

pub data Formula : Type 0 where
  -- any cells
  any : Formula
  -- none
  never : Formula
  -- a first cell whose letter lies from the start to below the end, and what the formula reads behind it
  run : (start end : ℕ) → Formula → Formula
  both : Formula → Formula → Formula
  either : Formula → Formula → Formula
  -- so many cells of any kind, and what the formula reads behind them
  gap : (count : ℕ) → Formula → Formula
  -- so often what the formula reads, each time so many cells further on
  each : (count size : ℕ) → Formula → Formula

-- a first cell whose letter is in P, and cells behind it that are in Q
abbrev pub FirstIs : (ℕ → Type 0) → (List Cell → Type 0) → List Cell → Type 0
FirstIs P Q [] = ⊥
FirstIs P Q (c ∷ w) = P (letter_of c) × Q w

-- so often P, each time so many cells further on
abbrev pub HoldsEach : (List Cell → Type 0) → (count size : ℕ) → List Cell → Type 0
HoldsEach P zero size w = ⊤
HoldsEach P (suc n) size w = P w × HoldsEach P n size (drop size w)

-- the letter lies from the start to below the end
abbrev pub IsOn : (start end : ℕ) → ℕ → Type 0
IsOn start end l = (start ≤ l) × (l < end)

-- the formula reads these cells
abbrev pub Reads : Formula → List Cell → Type 0
Reads any w = ⊤
Reads never w = ⊥
Reads (run start end f) w = FirstIs (IsOn start end) (Reads f) w
Reads (both f g) w = Reads f w × Reads g w
Reads (either f g) w = Reads f w ⊎ Reads g w
Reads (gap n f) w = Reads f (drop n w)
Reads (each n size f) w = HoldsEach (Reads f) n size w

-- the formulas read the same cells
abbrev pub Same : (f g : Formula) → Type 0
Same f g = (w : List Cell) → (Reads f w ↔ Reads g w)
