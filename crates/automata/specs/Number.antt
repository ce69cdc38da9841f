-- Numbers in cells.
use Rattle.std.specs.Prelude.{ℕ, zero, suc, ◌+◌, ◌*◌, ◌<◌, ◌≤◌, ◌↔◌, List, [], ◌∷◌, Some, None, length, ⊤}
use Rattle.automata.specs.Cell.{Cell, AreCells}
use Rattle.automata.specs.Formula.{Formula, Reads}
use Rattle.automata.specs.Nodes.{formula_in}
use Rattle.automata.specs.Formulas.{Keeps}
use Rattle.automata.specs.declared.numbers.Bound.{Bound}

-- the first n cells are bytes, and the number that they make, the least first, is in P
abbrev pub MakeLittle : (n : ℕ) → (ℕ → Type 0) → List Cell → Type 0
MakeLittle zero P w = P 0
MakeLittle (suc n) P [] = ⊥
MakeLittle (suc n) P (None ∷ w) = ⊥
MakeLittle (suc n) P (Some b ∷ w) = MakeLittle n (λ r. P (b + 256 * r)) w

-- the formula reads cells whose first n make such a number
abbrev pub ReadsLittle : Formula → (n : ℕ) → (ℕ → Type 0) → Type 0
ReadsLittle f n P = (w : List Cell) → AreCells w → (Reads f w ↔ MakeLittle n P w)

-- a formula for such cells
pub record IsLittle (old new : List Formula) (n : ℕ) (P : ℕ → Type 0) (place : ℕ) : Type 0 where
  pub kept : Keeps old new
  pub there : place < length new
  pub reads : ReadsLittle (formula_in new place) n P

-- formulas for the numbers of n bytes below a number, and for these and the number itself
pub record IsBelow (old new : List Formula) (n t : ℕ) (b : Bound) : Type 0 where
  pub kept : Keeps old new
  pub strict_there : b.strict < length new
  pub loose_there : b.loose < length new
  pub strict : ReadsLittle (formula_in new b.strict) n (λ m. m < t)
  pub loose : ReadsLittle (formula_in new b.loose) n (λ m. m ≤ t)

-- the same for the numbers above one
pub record IsAbove (old new : List Formula) (n t : ℕ) (b : Bound) : Type 0 where
  pub kept : Keeps old new
  pub strict_there : b.strict < length new
  pub loose_there : b.loose < length new
  pub strict : ReadsLittle (formula_in new b.strict) n (λ m. t < m)
  pub loose : ReadsLittle (formula_in new b.loose) n (λ m. t ≤ m)

-- the first n cells are bytes
abbrev pub StartWithBytes : (n : ℕ) → List Cell → Type 0
StartWithBytes zero w = ⊤
StartWithBytes (suc n) [] = ⊥
StartWithBytes (suc n) (None ∷ w) = ⊥
StartWithBytes (suc n) (Some b ∷ w) = StartWithBytes n w

-- a formula for cells that start with so many bytes
pub record AreBytes (old new : List Formula) (n place : ℕ) : Type 0 where
  pub kept : Keeps old new
  pub there : place < length new
  pub reads : (w : List Cell) → AreCells w → (Reads (formula_in new place) w ↔ StartWithBytes n w)

-- the first n cells are bytes, and the number that they make behind one, the greatest first, is in P
abbrev pub MakeBig : (n : ℕ) → (ℕ → Type 0) → (before : ℕ) → List Cell → Type 0
MakeBig zero P m w = P m
MakeBig (suc n) P m [] = ⊥
MakeBig (suc n) P m (None ∷ w) = ⊥
MakeBig (suc n) P m (Some b ∷ w) = MakeBig n P (256 * m + b) w

-- a formula for cells whose first n make such a number behind this one
pub record IsBig (old new : List Formula) (n : ℕ) (P : ℕ → Type 0) (before place : ℕ) : Type 0 where
  pub kept : Keeps old new
  pub there : place < length new
  pub reads : (w : List Cell) → AreCells w → (Reads (formula_in new place) w ↔ MakeBig n P before w)
