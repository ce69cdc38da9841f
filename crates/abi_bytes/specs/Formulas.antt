-- Formulas of what the first cells hold.
use Rattle.std.specs.Prelude.{ℕ, ◌<◌, ◌≤◌, ◌↔◌, List, get_or, length, take}
use Rattle.automata.specs.Cell.{Cell, AreCells}
use Rattle.automata.specs.Formula.{Formula, Reads}
use Rattle.automata.specs.Formulas.{Keeps}
use Rattle.automata.specs.Nodes.{formula_in}
use Rattle.abi_base.specs.declared.endian.Endian.{Endian}
use Rattle.abi_scalar.specs.declared.variants.TagEncoding.{TagEncoding}
use Rattle.abi_tree.specs.Nodes.{placed_at}
use Rattle.abi_tree.specs.Placed.{Placed, TaggedVariants, size_of}
use Rattle.abi_tree.specs.declared.node.Node.{Node}
use Rattle.abi_bytes.specs.Holding.{AreAt, HoldCells, HoldCellsOfVariant, HoldTag}

-- of cells that are at least n the formula reads those whose first n are in P
abbrev pub ReadsFirst : Formula → (n : ℕ) → (List Cell → Type 0) → Type 0
ReadsFirst f n P = (w : List Cell) → AreCells w → n ≤ length w → (Reads f w ↔ P (take n w))

-- the formula at this place does, and those that were there stay
pub record IsFormula (old new : List Formula) (n : ℕ) (P : List Cell → Type 0) (place : ℕ) : Type 0 where
  pub kept : Keeps old new
  pub there : place < length new
  pub reads : ReadsFirst (formula_in new place) n P

-- the formula at this place reads the cells that hold a type
pub record IsFormulaOf (fs : List Formula) (order : Endian) (placed : Placed) (place : ℕ) : Type 0 where
  pub there : place < length fs
  pub reads : ReadsFirst (formula_in fs place) (size_of placed) (HoldCells order placed)

-- for each of the first nodes a formula is at its place
abbrev pub AreMade : List Formula → Endian → List Node → (made : List ℕ) → Type 0
AreMade fs order ns made = (k d : ℕ) → k < length made → IsFormulaOf fs order (placed_at ns k) (get_or made k d)

module _ (order : Endian) (ns : List Node) where
  -- the node is held at the offset
  abbrev pub HoldAt : (offset node : ℕ) → List Cell → Type 0
  HoldAt offset node w = AreAt offset (size_of (placed_at ns node)) (HoldCells order (placed_at ns node)) w

  -- those of these nodes from the start to below the end are, each at its offset
  abbrev pub HoldBetween : (offsets nodes : List ℕ) → (start end : ℕ) → List Cell → Type 0
  HoldBetween offsets nodes start end w = (k : ℕ) → start ≤ k → k < end → HoldAt (get_or offsets k 0) (get_or nodes k 0) w

-- the tag of n cells at the offset names the variant, and its parts are held
abbrev pub HoldVariant : Endian → TagEncoding ℕ → (offset n : ℕ) → TaggedVariants → (index : ℕ) → List Cell → Type 0
HoldVariant order encoding offset n variants i w = HoldTag order encoding offset n variants i w × HoldCellsOfVariant order variants i w

-- so it is of a variant from the start to below the end
abbrev pub HoldSomeVariant : Endian → TagEncoding ℕ → (offset n : ℕ) → TaggedVariants → (start end : ℕ) → List Cell → Type 0
HoldSomeVariant order encoding offset n variants start end w =
    (i : ℕ) × (start ≤ i) × (i < end) × HoldVariant order encoding offset n variants i w
