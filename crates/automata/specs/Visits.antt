-- What a search has visited: pairs of formulas, one on the left and one on the right, each behind so many cells.
use Rattle.std.specs.Prelude.{◌≡◌, ◌⊎◌, ℕ, ◌+◌, ◌<◌, ◌≤◌, ◌++◌, List, [], ◌∷◌, All, length, get_or}
use Rattle.automata.specs.Cell.{Cell, IsCell, AreCells, letter_of}
use Rattle.automata.specs.Formula.{Formula, Reads}
use Rattle.automata.specs.Nodes.{formula_in}
use Rattle.automata.specs.Formulas.{Keeps}
use Rattle.automata.specs.Derivative.{IsBehind}
use Rattle.automata.specs.declared.visits.Visit.{Visit}

-- P holds of one of these
abbrev pub SomeOf : {X : Type 0} → (X → Type 0) → List X → Type 0
SomeOf P [] = ⊥
SomeOf P (x ∷ xs) = P x ⊎ SomeOf P xs

-- the formulas of a visit
abbrev pub left_of : List Formula → Visit → Formula
left_of fs v = formula_in fs v.left

abbrev pub right_of : List Formula → Visit → Formula
right_of fs v = formula_in fs v.right

-- what the left reads the right reads
abbrev pub IsPlain : List Formula → Visit → Type 0
IsPlain fs v = (w : List Cell) → Reads (left_of fs v) w → Reads (right_of fs v) w

-- the same formulas, behind as many cells
abbrev pub IsAlike : (v u : Visit) → Type 0
IsAlike v u = (u.left ≡ v.left) × (u.right ≡ v.right) × (u.place ≡ v.place)

-- the visit was there, or nothing is to be shown of it, or it is the last now
abbrev pub IsVisited : List Formula → (old new : List Visit) → Visit → Type 0
IsVisited fs old new v = ((new ≡ old) × (IsPlain fs v ⊎ SomeOf (IsAlike v) old)) ⊎ (new ≡ old ++ v ∷ [])

-- its formulas are there
abbrev pub IsThere : List Formula → Visit → Type 0
IsThere fs v = (v.left < length fs) × (v.right < length fs)

-- each visit but the first comes from an earlier one
abbrev pub AreOrdered : List Visit → Type 0
AreOrdered visits = (k : ℕ) (d : Visit) → 0 < k → k < length visits → (get_or visits k d).from < k

-- the cell leads from the one visit to the other
pub record IsStep (fs : List Formula) (v u : Visit) : Type 0 where
  pub cell : IsCell u.cell
  pub place : u.place ≡ v.place + 1
  pub left : IsBehind (left_of fs v) (left_of fs u) u.cell
  pub right : IsBehind (right_of fs v) (right_of fs u) u.cell

-- each visit but the first is a step from the one that it comes from
abbrev pub AreSteps : List Formula → List Visit → Type 0
AreSteps fs visits = (k : ℕ) (d : Visit) → 0 < k → k < length visits → IsStep fs (get_or visits (get_or visits k d).from d) (get_or visits k d)

-- the cells lead from the visit i to the visit j
pub record Leads (fs : List Formula) (visits : List Visit) (i j : ℕ) (w : List Cell) : Type 0 where
  pub cells : AreCells w
  pub place : (d : Visit) → (get_or visits j d).place ≡ (get_or visits i d).place + length w
  pub left : (d : Visit) (u : List Cell) → Reads (left_of fs (get_or visits j d)) u → Reads (left_of fs (get_or visits i d)) (w ++ u)
  pub right : (d : Visit) (u : List Cell) → Reads (right_of fs (get_or visits i d)) (w ++ u) → Reads (right_of fs (get_or visits j d)) u

-- a visit of what both formulas are behind the cell
abbrev pub Sees : List Formula → List Visit → Visit → Cell → Type 0
Sees fs visits v c = SomeOf (λ u. (u.place ≡ v.place + 1) × IsBehind (left_of fs v) (left_of fs u) c × IsBehind (right_of fs v) (right_of fs u) c) visits

-- what the left reads from the cell on, the right reads
abbrev pub IsPlainBehind : List Formula → Visit → Cell → Type 0
IsPlainBehind fs v c = (w : List Cell) → Reads (left_of fs v) (c ∷ w) → Reads (right_of fs v) (c ∷ w)

-- the cell leads to a visit, or nothing is to be shown behind it
abbrev pub IsFollowed : List Formula → List Visit → Visit → Cell → Type 0
IsFollowed fs visits v c = IsPlainBehind fs v c ⊎ Sees fs visits v c

-- where the left reads the end the right does
abbrev pub EndsToo : List Formula → Visit → Type 0
EndsToo fs v = Reads (left_of fs v) [] → Reads (right_of fs v) []

-- the left reads the end, and the right doesn't
abbrev pub IsMissed : List Formula → Visit → Type 0
IsMissed fs v = Reads (left_of fs v) [] × (Reads (right_of fs v) [] → ⊥)

-- behind all cells the right reads the end where the left does, and before that each cell is followed
pub record IsDone (fs : List Formula) (visits : List Visit) (size : ℕ) (v : Visit) : Type 0 where
  pub end : v.place ≡ size → EndsToo fs v
  pub next : v.place < size → (c : Cell) → IsCell c → IsFollowed fs visits v c

abbrev pub IsPrefix : (old new : List Visit) → Type 0
IsPrefix old new = (more : List Visit) × (new ≡ old ++ more)

-- visits as they are kept: their formulas are there, and each is a step from an earlier one
pub record AreVisits (fs : List Formula) (visits : List Visit) : Type 0 where
  pub there : All (IsThere fs) visits
  pub ordered : AreOrdered visits
  pub steps : AreSteps fs visits

-- formulas and visits were put behind others
pub record Grows (fs gs : List Formula) (old new : List Visit) : Type 0 where
  pub kept : Keeps fs gs
  pub prefix : IsPrefix old new
  pub visits : AreVisits gs new

-- the letters On of a visit are followed
pub record Follows (fs gs : List Formula) (old new : List Visit) (at : ℕ) (On : ℕ → Type 0) : Type 0 where
  pub grows : Grows fs gs old new
  pub followed : (c : Cell) (d : Visit) → On (letter_of c) → IsFollowed gs new (get_or old at d) c

-- the letters of a visit from the first on to below the end are followed
pub record FollowsRun (fs gs : List Formula) (old new : List Visit) (at first end : ℕ) : Type 0 where
  pub some : first < end
  pub within : end ≤ 257
  pub follows : Follows fs gs old new at (λ l. (first ≤ l) × (l < end))

-- the first visit is of these two formulas, before all cells
pub record IsRoot (f g : ℕ) (visits : List Visit) : Type 0 where
  pub some : 0 < length visits
  pub left : (d : Visit) → (get_or visits 0 d).left ≡ f
  pub right : (d : Visit) → (get_or visits 0 d).right ≡ g
  pub place : (d : Visit) → (get_or visits 0 d).place ≡ 0

-- one visit, of these two formulas, before all cells
abbrev pub IsFirst : (f g : ℕ) → List Visit → Type 0
IsFirst f g visits = (v : Visit) × (visits ≡ v ∷ []) × (v.left ≡ f) × (v.right ≡ g) × (v.place ≡ 0)
