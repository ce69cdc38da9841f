-- How far formulas look, and formulas that are repeated.
use Rattle.std.specs.Prelude.{◌≡◌, ℕ, zero, suc, ◌+◌, ◌*◌, ◌<◌, ◌≤◌, ◌++◌, List, [], get_or, length, max, ⊤}
use Rattle.automata.specs.Cell.{Cell}
use Rattle.automata.specs.Formula.{Formula, any, never, run, both, either, gap, each}
use Rattle.automata.specs.Nodes.{formula_in}
use Rattle.automata.specs.declared.inclusion.Inclusion.{Inclusion}
use Rattle.automata.specs.declared.inclusion.Inclusion.TheVariants.{Included, Missing}
use Rattle.automata.specs.declared.periods.Periods.{Periods}
use Rattle.automata.specs.declared.periods.Repeated.{Repeated}

-- of how many first cells the formula asks something
abbrev pub reach : Formula → ℕ
reach any = 0
reach never = 0
reach (run start end f) = suc (reach f)
reach (both f g) = max (reach f) (reach g)
reach (either f g) = max (reach f) (reach g)
reach (gap n f) = n + reach f
reach (each zero size f) = 0
reach (each (suc n) size f) = n * size + reach f

-- a number, below the greatest of eight bytes, that the reach isn't above
abbrev pub IsReach : Formula → ℕ → Type 0
IsReach f r = r < 18446744073709551615 → reach f ≤ r

-- each of the first formulas has such a number
abbrev pub AreReaches : List Formula → List ℕ → Type 0
AreReaches fs rs = (i d : ℕ) → i < length rs → IsReach (formula_in fs i) (get_or rs i d)

-- the formula at this place is repeated
pub record IsRepeated (fs : List Formula) (f : ℕ) (r : Repeated) : Type 0 where
  pub there : r.element < length fs
  pub is : formula_in fs f ≡ each r.count r.size (formula_in fs r.element)

-- two repetitions fall into so many periods of one size, each of so many elements of the one and of the other
pub record ArePeriods (left right : Repeated) (p : Periods) : Type 0 where
  pub left_count : left.count ≡ p.count * p.left
  pub right_count : right.count ≡ p.count * p.right
  pub left_size : p.size ≡ p.left * left.size
  pub right_size : p.size ≡ p.right * right.size

-- cells, so often one behind another
abbrev pub copies : ℕ → List Cell → List Cell
copies zero w = []
copies (suc n) w = w ++ copies n w

-- what is said of so many periods, where this is said of one
abbrev pub IsOfPeriods : (count : ℕ) → (one all : Inclusion) → Type 0
IsOfPeriods count Included Included = ⊤
IsOfPeriods count (Missing own) (Missing cells) = cells.items ≡ copies count own.items
IsOfPeriods count _ _ = ⊥
