-- Which cells hold a type: a cell is a byte, or nothing where a byte isn't initialised.
use Rattle.std.specs.Prelude.{◌≡◌, ℕ, zero, suc, ◌+◌, ◌≤◌, List, length, map, take, drop, Some, ⊤}
use Rattle.automata.specs.Cell.{Cell}
use Rattle.abi_base.specs.declared.endian.Endian.{Endian}
use Rattle.abi_scalar.specs.declared.scalar.Scalar.{Scalar}
use Rattle.abi_scalar.specs.declared.scalar.Scalar.TheVariants.{Initialized, Union}
use Rattle.abi_scalar.specs.declared.variants.TagEncoding.{TagEncoding}
use Rattle.abi_scalar.specs.declared.variants.TagEncoding.TheVariants.{Direct}
use Rattle.abi_scalar.specs.Range.{IsIn}
use Rattle.abi_tree.specs.Bytes.{number_of}
use Rattle.abi_tree.specs.Placed.{Placed, scalar, pair, never, elements, vector, fields, union, single, tagged, states, Parts, no_parts, part, TaggedVariants, nothing_tagged, tagged_variant, size_of}
use Rattle.abi_tree.specs.Tag.{Names}

-- the n cells from the offset on
abbrev pub cells_at : List Cell → (offset n : ℕ) → List Cell
cells_at w offset n = take n (drop offset w)

-- n cells from the offset on are there, and in P
abbrev pub AreAt : (offset n : ℕ) → (List Cell → Type 0) → List Cell → Type 0
AreAt offset n P w = (offset + n ≤ length w) × P (cells_at w offset n)

-- so often n cells that are in P, one after another from the offset on
abbrev pub AreEach : (List Cell → Type 0) → (count n offset : ℕ) → List Cell → Type 0
AreEach P zero n offset w = ⊤
AreEach P (suc count) n offset w = AreAt offset n P w × AreEach P count n (offset + n) w

-- the type is a number
abbrev pub IsNumber : Placed → Type 0
IsNumber (scalar layout s) = ⊤
IsNumber _ = ⊥

-- two parts that are numbers
abbrev pub AreTwoNumbers : Parts → Type 0
AreTwoNumbers (part o p (part q r no_parts)) = IsNumber p × IsNumber r
AreTwoNumbers _ = ⊥

-- the type's values are lists
abbrev pub IsList : Placed → Type 0
IsList (elements layout count element) = ⊤
IsList (vector layout lanes) = ⊤
IsList (fields layout mark parts) = ⊤
IsList _ = ⊥

module _ (order : Endian) where
  -- all are bytes, whose number is in P
  abbrev pub MakeNumber : (ℕ → Type 0) → List Cell → Type 0
  MakeNumber P w = (bytes : List ℕ) × (w ≡ map Some bytes) × P (number_of order bytes)

  -- cells of a scalar, as many as it is wide: bytes whose number is in its range, or, where it may be uninitialised, any
  abbrev pub HoldScalar : (width : ℕ) → Scalar → List Cell → Type 0
  HoldScalar width (Initialized value range) w = MakeNumber (IsIn width range) w
  HoldScalar width (Union value) w = ⊤

  -- the n cells of a tag at the offset are bytes, and their number names this variant
  abbrev pub HoldTag : TagEncoding ℕ → (offset n : ℕ) → TaggedVariants → (index : ℕ) → List Cell → Type 0
  HoldTag encoding offset n tagged_variants i w = AreAt offset n (MakeNumber (λ tag. Names encoding n tagged_variants tag i)) w

  abbrev mutual
    -- these cells, as many as the type is large, hold it
    pub HoldCells : Placed → List Cell → Type 0
    HoldCells (scalar layout s) w = (length w ≡ layout.size) × HoldScalar layout.size s w
    HoldCells (pair layout parts) w = (length w ≡ layout.size) × AreTwoNumbers parts × HoldCellsOfParts parts w
    HoldCells (never layout mark) w = ⊥
    HoldCells (elements layout count element) w = (length w ≡ layout.size) × AreEach (HoldCells element) count (size_of element) 0 w
    HoldCells (vector layout lanes) w = (length w ≡ layout.size) × IsList lanes × AreAt 0 (size_of lanes) (HoldCells lanes) w
    HoldCells (fields layout mark parts) w = (length w ≡ layout.size) × HoldCellsOfParts parts w
    HoldCells (union layout mark parts) w = length w ≡ layout.size
    HoldCells (single layout mark index parts) w = (length w ≡ layout.size) × HoldCellsOfParts parts w
    HoldCells (tagged layout mark offset tag encoding tagged_variants) w =
        (length w ≡ layout.size) × (i : ℕ) × HoldTag encoding offset (size_of tag) tagged_variants i w × HoldCellsOfVariant tagged_variants i w
    HoldCells (states layout prefix offset tag tagged_variants) w =
        (length w ≡ layout.size) × HoldCellsOfParts prefix w
        × (i : ℕ) × HoldTag Direct offset (size_of tag) tagged_variants i w × HoldCellsOfVariant tagged_variants i w

    -- each part is held at its place
    pub HoldCellsOfParts : Parts → List Cell → Type 0
    HoldCellsOfParts no_parts w = ⊤
    HoldCellsOfParts (part offset placed parts) w = AreAt offset (size_of placed) (HoldCells placed) w × HoldCellsOfParts parts w

    -- the parts of the tagged variant with this index are
    pub HoldCellsOfVariant : TaggedVariants → (index : ℕ) → List Cell → Type 0
    HoldCellsOfVariant nothing_tagged i w = ⊥
    HoldCellsOfVariant (tagged_variant number layout mark parts tagged_variants) zero w = HoldCellsOfParts parts w
    HoldCellsOfVariant (tagged_variant number layout mark parts tagged_variants) (suc i) w = HoldCellsOfVariant tagged_variants i w
