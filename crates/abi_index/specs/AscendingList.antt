-- Ascending lists of numbers.
use Rattle.std.specs.Prelude.{ℕ, ◌+◌, ◌≤◌, ◌==◌, Bool, List, [], ◌∷◌}
use Rattle.std.specs.List.{list_any}

-- each number is above those before it, and none is below `low`
abbrev pub IsAscendingFrom : ℕ → List ℕ → Type 0
IsAscendingFrom low [] = Unit {0}
IsAscendingFrom low (x ∷ xs) = (low ≤ x) × IsAscendingFrom (x + 1) xs

-- whether a number is in the list
abbrev pub has_number : List ℕ → ℕ → Bool
has_number xs k = list_any (λ x. k == x) xs
