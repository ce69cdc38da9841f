-- Formulas that were put behind others.
use Rattle.std.specs.Prelude.{◌≡◌, ℕ, ◌<◌, List, ◌++◌, length}
use Rattle.automata.specs.Formula.{Formula, gap, Same}
use Rattle.automata.specs.Nodes.{formula_in}
use Rattle.automata.specs.declared.formulas.SharedGap.{SharedGap}

-- the formulas that were there stay
abbrev pub Keeps : (old new : List Formula) → Type 0
Keeps old new = (more : List Formula) × (new ≡ old ++ more)

-- the formula at this place reads what this one reads; those that were there stay
pub record IsMade (old new : List Formula) (f : Formula) (place : ℕ) : Type 0 where
  pub kept : Keeps old new
  pub there : place < length new
  pub same : Same (formula_in new place) f

-- two formulas, taken as one gap and what is behind it
pub record IsShared (old new : List Formula) (f g : ℕ) (s : SharedGap) : Type 0 where
  pub kept : Keeps old new
  pub first_there : s.first < length new
  pub second_there : s.second < length new
  pub first : Same (formula_in old f) (gap s.count (formula_in new s.first))
  pub second : Same (formula_in old g) (gap s.count (formula_in new s.second))
