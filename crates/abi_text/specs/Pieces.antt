-- A text cut at a byte.
use Rattle.std.specs.Prelude.{ℕ, ◌==◌, List, [], ◌∷◌, Option, None, Some, if◌then◌else◌}

-- what stands before the first such byte, or the whole
abbrev pub before : (b : ℕ) → List ℕ → List ℕ
before b [] = []
before b (c ∷ cs) = if c == b then [] else c ∷ before b cs

-- what follows the first such byte, if there is one
abbrev pub after_byte : (b : ℕ) → List ℕ → Option (List ℕ)
after_byte b [] = None
after_byte b (c ∷ cs) = if c == b then Some cs else after_byte b cs
