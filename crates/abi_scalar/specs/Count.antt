-- How many numbers a set has.
use Rattle.std.specs.Prelude.{◌≡◌, ◌≢◌, ℕ, List, Contains, ◌↔◌, length}
use Rattle.std.specs.List.{AllPairs}

-- So many numbers have the property: there is a list of that length with each of them once, and no others.
pub record AreSoMany (P : ℕ → Type 0) (count : ℕ) : Type 0 where
  pub members : List ℕ
  pub differ : AllPairs (λ x y. x ≢ y) members
  pub exact : (n : ℕ) → Contains members n ↔ P n
  pub number : length members ≡ count
