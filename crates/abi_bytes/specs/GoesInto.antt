-- Whether the cells of one type are those of another.
use Rattle.std.specs.Prelude.{◌≡◌, ◌↔◌, ℕ, List, length, map, Some}
use Rattle.automata.specs.Cell.{Cell, AreCells}
use Rattle.abi_base.specs.declared.endian.Endian.{Endian}
use Rattle.abi_base.specs.declared.primitive.Primitive.{Primitive}
use Rattle.abi_scalar.specs.declared.wrapping_range.WrappingRange.{WrappingRange}
use Rattle.abi_scalar.specs.Layout.{Layout}
use Rattle.abi_tree.specs.declared.mark.Mark.{Mark}
use Rattle.abi_scalar.specs.declared.scalar.Scalar.TheVariants.{Initialized}
use Rattle.abi_scalar.specs.Range.{IsFull}
use Rattle.abi_tree.specs.Bytes.{AreBytes}
use Rattle.abi_tree.specs.Holding.{Holds}
use Rattle.abi_tree.specs.Laid.{endian_of, placed_of}
use Rattle.abi_tree.specs.declared.laid.Laid.{Laid}
use Rattle.abi_tree.specs.Placed.{Placed, scalar, elements, fields, no_parts, part, size_of}
use Rattle.abi_tree.specs.Value.{Value}
use Rattle.abi_bytes.specs.Holding.{HoldCells}
use Rattle.abi_bytes.specs.Filling.{Fills, AreSet}

-- a type, and the order of the bytes of its numbers
pub record Stored : Type 0 where
  pub order : Endian
  pub placed : Placed

-- a type that was laid out
abbrev pub stored_of : Laid → Stored
stored_of laid = record { order = endian_of laid; placed = placed_of laid }

-- these cells hold it
abbrev pub HoldStored : Stored → List Cell → Type 0
HoldStored a w = HoldCells a.order a.placed w

-- each value of the one is one of the other: they are as large, and all cells that hold the one hold the other
pub record GoesInto (a b : Stored) : Type 0 where
  pub size : size_of a.placed ≡ size_of b.placed
  pub cells : (w : List Cell) → AreCells w → HoldStored a w → HoldStored b w

-- each list of as many bytes holds a value
abbrev pub IsFromBytes : Stored → Type 0
IsFromBytes a = (b : List ℕ) → AreBytes b → length b ≡ size_of a.placed → (v : Value) × Holds a.order a.placed b v

-- all cells that hold it are initialised
abbrev pub IsIntoBytes : Stored → Type 0
IsIntoBytes a = (w : List Cell) → AreCells w → HoldStored a w → AreSet w

-- ---- laws

-- cells that are all bytes hold a type exactly where those bytes hold a value of it
abbrev pub BytesHoldValues : Stored → Type 0
BytesHoldValues a = (b : List ℕ) → AreBytes b → (HoldStored a (map Some b) ↔ ((v : Value) × Holds a.order a.placed b v))

-- a set cell in place of nothing takes nothing away
abbrev pub SetCellsTakeNothing : Stored → Type 0
SetCellsTakeNothing a = (w u : List Cell) → AreCells u → Fills w u → HoldStored a w → HoldStored a u

-- cells hold it exactly where they are so many, and set
pub record AreManyBytes (n : ℕ) (a : Stored) : Type 0 where
  pub size : size_of a.placed ≡ n
  pub holds : (w : List Cell) → AreCells w → (HoldStored a w ↔ ((length w ≡ n) × AreSet w))

-- an array of so many numbers of one byte, each of which may be any
pub record IsArrayOfBytes (n : ℕ) (a : Stored) : Type 0 where
  pub layout : Layout
  pub of_one : Layout
  pub value : Primitive
  pub range : WrappingRange
  pub is : a.placed ≡ elements layout n (scalar of_one (Initialized value range))
  pub long : layout.size ≡ n
  pub short : of_one.size ≡ 1
  pub full : IsFull 1 range

-- a type of one field, which begins where it does and is as large
pub record IsWrapper (a b : Stored) : Type 0 where
  pub layout : Layout
  pub mark : Mark
  pub is : a.placed ≡ fields layout mark (part 0 b.placed no_parts)
  pub order : a.order ≡ b.order
  pub long : layout.size ≡ size_of b.placed

abbrev pub size_of_stored : Stored → ℕ
size_of_stored a = size_of a.placed
