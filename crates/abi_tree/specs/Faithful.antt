-- What a layout of a type keeps: its values apart, and its bytes free of what isn't one.
use Rattle.std.specs.Prelude.{◌≡◌, ℕ, ◌+◌, ◌≤◌, List, length, get_or, IfSome, MatchBool, true, ⊤}
use Rattle.abi_base.specs.declared.data_layout.TargetDataLayout.{TargetDataLayout}
use Rattle.abi_base.specs.Primitive.{primitive_size}
use Rattle.abi_scalar.specs.declared.scalar.Scalar.{Scalar}
use Rattle.abi_scalar.specs.declared.scalar.Scalar.TheVariants.{Initialized, Union}
use Rattle.abi_scalar.specs.declared.backend_repr.BackendRepr.{BackendRepr}
use Rattle.abi_scalar.specs.declared.backend_repr.BackendRepr.TheVariants.{Scalar as OneScalar, ScalarPair}
use Rattle.abi_scalar.specs.Range.{IsIn}
use Rattle.abi_scalar.specs.Niche.{niche_size}
use Rattle.abi_tree.specs.Tree.{Tree}
use Rattle.abi_tree.specs.Value.{Value}
use Rattle.abi_tree.specs.Bytes.{AreBytes, bytes_at, number_of}
use Rattle.abi_tree.specs.Placed.{Placed, layout_of, size_of, niche_of}
use Rattle.abi_tree.specs.Places.{is_data_place}
use Rattle.abi_tree.specs.Values.{IsValueOf, VectorsHaveValues}
use Rattle.abi_tree.specs.Holding.{Holds}

-- the byte lists agree at each data place
abbrev pub AgreeOn : Placed → List ℕ → List ℕ → Type 0
AgreeOn placed xs ys = (k : ℕ) → is_data_place placed k ≡ true → get_or xs k 0 ≡ get_or ys k 0

module _ (dl : TargetDataLayout) (tree : Tree) (placed : Placed) where
  -- every value has bytes that hold it
  abbrev pub EachValueIsHeld : Type 0
  EachValueIsHeld = (v : Value) → IsValueOf dl tree placed v → (b : List ℕ) × AreBytes b × Holds dl.endian placed b v

  -- only values are held
  abbrev pub OnlyValuesAreHeld : Type 0
  OnlyValuesAreHeld = (b : List ℕ) (v : Value) → AreBytes b → Holds dl.endian placed b v → IsValueOf dl tree placed v

-- no bytes hold two values
abbrev pub NoBytesHoldTwo : TargetDataLayout → Placed → Type 0
NoBytesHoldTwo dl placed = (b : List ℕ) (v w : Value) → Holds dl.endian placed b v → Holds dl.endian placed b w → v ≡ w

-- where bytes hold a value, the number at the largest niche's place lies in its range
abbrev pub IsNicheTrue : TargetDataLayout → Placed → Type 0
IsNicheTrue dl placed = IfSome (niche_of placed) (λ niche.
    (b : List ℕ) (v : Value) → Holds dl.endian placed b v →
    IsIn (niche_size dl niche) niche.valid_range (number_of dl.endian (bytes_at b niche.offset (niche_size dl niche))))

-- the largest niche lies inside the type
abbrev pub IsNicheInside : TargetDataLayout → Placed → Type 0
IsNicheInside dl placed = IfSome (niche_of placed) (λ niche. niche.offset + niche_size dl niche ≤ size_of placed)

-- the number at the offset lies in the scalar's range, where it has one
abbrev pub IsScalarTrue : TargetDataLayout → (offset : ℕ) → Scalar → List ℕ → Type 0
IsScalarTrue dl offset (Initialized value range) b =
    IsIn (primitive_size dl value) range (number_of dl.endian (bytes_at b offset (primitive_size dl value)))
IsScalarTrue dl offset (Union value) b = ⊤

-- a view of one or two scalars is true of the bytes; other views say nothing of them
abbrev pub IsTrueOf : TargetDataLayout → BackendRepr → List ℕ → Type 0
IsTrueOf dl (OneScalar s) b = IsScalarTrue dl 0 s b
IsTrueOf dl (ScalarPair s t offset) b = IsScalarTrue dl 0 s b × IsScalarTrue dl offset t b
IsTrueOf dl _ b = ⊤

-- where bytes hold a value, the view is true of them
abbrev pub IsViewTrue : TargetDataLayout → Placed → Type 0
IsViewTrue dl placed = (b : List ℕ) (v : Value) → Holds dl.endian placed b v → IsTrueOf dl (layout_of placed).backend_repr b

-- flagged as uninhabited, the type has no value; not flagged, it has one, where each vector's element has one: a vector is never
-- flagged, whatever its element is
abbrev pub IsFlagTrue : TargetDataLayout → Tree → Placed → Type 0
IsFlagTrue dl tree placed =
    MatchBool (layout_of placed).uninhabited ((v : Value) → IsValueOf dl tree placed v → ⊥)
    (VectorsHaveValues dl tree → (v : Value) × IsValueOf dl tree placed v)

-- byte lists of the type's size that agree at each data place hold the same values
abbrev pub PaddingDecidesNothing : TargetDataLayout → Placed → Type 0
PaddingDecidesNothing dl placed = (xs ys : List ℕ) (v : Value) → length xs ≡ size_of placed → length ys ≡ size_of placed →
    AgreeOn placed xs ys → Holds dl.endian placed xs v → Holds dl.endian placed ys v

-- A layout that keeps its type's values.
pub record IsFaithful (dl : TargetDataLayout) (tree : Tree) (placed : Placed) : Type 0 where
  pub exists : EachValueIsHeld dl tree placed
  pub only : OnlyValuesAreHeld dl tree placed
  pub unique : NoBytesHoldTwo dl placed
  pub niche : IsNicheTrue dl placed
  pub inside : IsNicheInside dl placed
  pub padding : PaddingDecidesNothing dl placed
  pub view : IsViewTrue dl placed
  pub flag : IsFlagTrue dl tree placed
