-- What answers say of types that were laid out.
use Rattle.std.specs.Prelude.{◌≡◌, ◌≢◌, ℕ, ◌<◌, ◌||◌, Bool, true, false, List, [], ◌∷◌, None, Some, length, replicate, ⊤}
use Rattle.automata.specs.Cell.{Cell, AreCells}
use Rattle.automata.specs.declared.inclusion.Inclusion.{Inclusion}
use Rattle.automata.specs.declared.inclusion.Inclusion.TheVariants.{Included, Missing, TooLarge}
use Rattle.abi_base.specs.declared.primitive.Primitive.TheVariants.{Pointer}
use Rattle.abi_base.specs.declared.primitive.Primitive.{Primitive}
use Rattle.abi_scalar.specs.Scalar.{primitive_of}
use Rattle.abi_tree.specs.declared.node.Node.{Node}
use Rattle.abi_tree.specs.declared.node.Shape.{Shape}
use Rattle.abi_tree.specs.declared.node.Shape.TheVariants.{Scalar as OneScalar}
use Rattle.abi_tree.specs.Bytes.{AreBytes}
use Rattle.abi_tree.specs.Holding.{Holds}
use Rattle.abi_tree.specs.Placed.{size_of}
use Rattle.abi_tree.specs.Value.{Value}
use Rattle.abi_tree.specs.declared.laid.Laid.{Laid}
use Rattle.abi_bytes.specs.Filling.{AreSet}
use Rattle.abi_bytes.specs.GoesInto.{GoesInto, HoldStored, IsFromBytes, IsIntoBytes, Stored}
use Rattle.abi_bytes.specs.declared.answers.Goes.{Goes}
use Rattle.abi_bytes.specs.declared.answers.Goes.TheVariants as goes
use Rattle.abi_bytes.specs.declared.answers.FromZeros.{FromZeros}
use Rattle.abi_bytes.specs.declared.answers.FromZeros.TheVariants as zeros
use Rattle.abi_bytes.specs.declared.answers.FromBytes.{FromBytes}
use Rattle.abi_bytes.specs.declared.answers.FromBytes.TheVariants as from
use Rattle.abi_bytes.specs.declared.answers.IntoBytes.{IntoBytes}
use Rattle.abi_bytes.specs.declared.answers.IntoBytes.TheVariants as into

-- cells that hold the one, and not the other, which is as large
pub record AreOnlyOf (a b : Stored) (w : List Cell) : Type 0 where
  pub size : size_of a.placed ≡ size_of b.placed
  pub cells : AreCells w
  pub held : HoldStored a w
  pub apart : HoldStored b w → ⊥

-- whether each value of the one is one of the other
abbrev pub SaysGoes : (a b : Stored) → Goes → Type 0
SaysGoes a b goes.Yes = GoesInto a b
SaysGoes a b (goes.No cells) = AreOnlyOf a b cells.items
SaysGoes a b goes.OtherSize = size_of a.placed ≢ size_of b.placed
SaysGoes a b goes.TooLarge = ⊤

-- these bytes hold a value of it
abbrev pub HoldValue : Stored → List ℕ → Type 0
HoldValue a b = (v : Value) × Holds a.order a.placed b v

-- as many bytes as it is large, all 0
abbrev pub zeros_of : Stored → List ℕ
zeros_of a = replicate (size_of a.placed) 0

-- whether zero bytes hold a value
abbrev pub SaysFromZeros : Stored → FromZeros → Type 0
SaysFromZeros a zeros.Yes = HoldValue a (zeros_of a)
SaysFromZeros a zeros.No = HoldValue a (zeros_of a) → ⊥
SaysFromZeros a zeros.TooLarge = ⊤

-- as many bytes as it is large, which hold no value of it
pub record HoldNothing (a : Stored) (b : List ℕ) : Type 0 where
  pub bytes : AreBytes b
  pub size : length b ≡ size_of a.placed
  pub none : HoldValue a b → ⊥

-- whether each list of as many bytes holds a value
abbrev pub SaysFromBytes : Stored → FromBytes → Type 0
SaysFromBytes a from.Yes = IsFromBytes a
SaysFromBytes a (from.No bytes) = HoldNothing a bytes.items
SaysFromBytes a from.TooLarge = ⊤

-- cells that hold it, of which one isn't set
pub record AreLeft (a : Stored) (w : List Cell) : Type 0 where
  pub cells : AreCells w
  pub held : HoldStored a w
  pub left : AreSet w → ⊥

-- whether all cells that hold it are set
abbrev pub SaysIntoBytes : Stored → IntoBytes → Type 0
SaysIntoBytes a into.Yes = IsIntoBytes a
SaysIntoBytes a (into.No cells) = AreLeft a cells.items
SaysIntoBytes a into.TooLarge = ⊤

-- ---- pointers

-- the primitive is a pointer
abbrev pub is_pointer : Primitive → Bool
is_pointer (Pointer space) = true
is_pointer _ = false

-- a node is a number that is a pointer
abbrev pub is_pointer_node : Shape → Bool
is_pointer_node (OneScalar s) = is_pointer (primitive_of s)
is_pointer_node _ = false

-- some node is
abbrev pub has_pointer_node : List Node → Bool
has_pointer_node [] = false
has_pointer_node (n ∷ ns) = is_pointer_node n.shape || has_pointer_node ns

-- some number of the type is a pointer, be it one of a variant that is left out
abbrev pub has_pointer : Laid → Bool
has_pointer laid = has_pointer_node laid.nodes

-- ---- as they are found

-- each cell is a byte below the end
abbrev pub AreBytesBelow : (end : ℕ) → List Cell → Type 0
AreBytesBelow end [] = ⊤
AreBytesBelow end (c ∷ w) = ((b : ℕ) × (c ≡ Some b) × (b < end)) × AreBytesBelow end w

-- the byte in a cell, and 0 where there is none
abbrev pub byte_in : Cell → ℕ
byte_in (Some b) = b
byte_in None = 0

-- what a comparison says of the cells that two formulas read: n cells in P are in Q, or these aren't
abbrev pub IsComparison : (n : ℕ) (P Q : List Cell → Type 0) → Inclusion → Type 0
IsComparison n P Q Included = (w : List Cell) → AreCells w → length w ≡ n → P w → Q w
IsComparison n P Q (Missing cells) = AreCells cells.items × (length cells.items ≡ n) × P cells.items × (Q cells.items → ⊥)
IsComparison n P Q TooLarge = ⊤

abbrev pub goes_of : Inclusion → Goes
goes_of Included = goes.Yes
goes_of (Missing cells) = goes.No cells
goes_of TooLarge = goes.TooLarge

abbrev pub zeros_from : Inclusion → FromZeros
zeros_from Included = zeros.Yes
zeros_from (Missing cells) = zeros.No
zeros_from TooLarge = zeros.TooLarge

abbrev pub into_of : Inclusion → IntoBytes
into_of Included = into.Yes
into_of (Missing cells) = into.No cells
into_of TooLarge = into.TooLarge
