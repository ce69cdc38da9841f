-- Whether one formula reads all cells that another reads.
use Rattle.std.specs.Prelude.{◌≡◌, ◌+◌, ◌^◌, ◌≤◌, ℕ, List, length, ⊤}
use Rattle.automata.specs.Cell.{Cell, AreCells}
use Rattle.automata.specs.Formula.{Formula, Reads}
use Rattle.automata.specs.Visits.{AreVisits, IsRoot}
use Rattle.automata.specs.declared.visits.Visit.{Visit}
use Rattle.automata.specs.declared.inclusion.Inclusion.{Inclusion}
use Rattle.automata.specs.declared.inclusion.Inclusion.TheVariants.{Included, Missing, TooLarge}

-- all lists of so many cells that the one reads, the other reads
abbrev pub Includes : (f g : Formula) → (size : ℕ) → Type 0
Includes f g size = (w : List Cell) → AreCells w → length w ≡ size → Reads f w → Reads g w

-- so many cells that the one reads and the other doesn't
abbrev pub IsOnlyIn : (f g : Formula) → (size : ℕ) → List Cell → Type 0
IsOnlyIn f g size w = AreCells w × (length w ≡ size) × Reads f w × (Reads g w → ⊥)

-- as many formulas and pairs of formulas as the limit, each pair reached by a cell from one before it
abbrev pub AreTooMany : List Formula → (left right : ℕ) → Type 0
AreTooMany fs left right = (visits : List Visit) × IsRoot left right visits × AreVisits fs visits × (2 ^ 22 ≤ length fs + length visits)

-- what an answer says
abbrev pub IsInclusion : (f g : Formula) → (size : ℕ) → Inclusion → Type 0
IsInclusion f g size Included = Includes f g size
IsInclusion f g size (Missing cells) = IsOnlyIn f g size cells.items
IsInclusion f g size TooLarge = ⊤

-- the same, and it is told which
abbrev pub IsDecided : (f g : Formula) → (size : ℕ) → Inclusion → Type 0
IsDecided f g size TooLarge = ⊥
IsDecided f g size answer = IsInclusion f g size answer
