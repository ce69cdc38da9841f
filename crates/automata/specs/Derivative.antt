-- What a formula says of the cells behind a first one.
use Rattle.std.specs.Prelude.{ℕ, ◌<◌, ◌≤◌, ◌↔◌, List, ◌∷◌, length}
use Rattle.automata.specs.Cell.{Cell, letter_of}
use Rattle.automata.specs.Formula.{Formula, Reads}
use Rattle.automata.specs.Nodes.{formula_in}
use Rattle.automata.specs.Formulas.{Keeps}
use Rattle.automata.specs.declared.derivative.Derivative.{Derivative}

-- the second formula reads behind the cell what the first one reads with it in front
abbrev pub IsBehind : (f g : Formula) → Cell → Type 0
IsBehind f g c = (w : List Cell) → (Reads g w ↔ Reads f (c ∷ w))

-- the formula that is left behind each letter from the first to below the derivative's end
pub record IsDerivative (old new : List Formula) (f : Formula) (first end : ℕ) (d : Derivative) : Type 0 where
  pub kept : Keeps old new
  pub there : d.formula < length new
  pub some : first < d.end
  pub within : d.end ≤ end
  pub behind : (c : Cell) → first ≤ letter_of c → letter_of c < d.end → IsBehind f (formula_in new d.formula) c
