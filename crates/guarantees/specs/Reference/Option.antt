-- What the documentation of `Option` promises of one over a type whose number is never 0, as those of references, boxes and
-- non-zero numbers are.
use Rattle.std.specs.Prelude.{◌≡◌, ◌↔◌, ◌⊎◌, ℕ, ◌<◌, ⊤, IsSome, List, None, false, replicate}
use Rattle.abi_base.specs.declared.data_layout.TargetDataLayout.{TargetDataLayout}
use Rattle.abi_scalar.specs.declared.backend_repr.BackendRepr.TheVariants.{Scalar as OneScalar}
use Rattle.abi_scalar.specs.declared.repr.ReprOptions.{ReprOptions}
use Rattle.abi_scalar.specs.declared.scalar.Scalar.{Scalar}
use Rattle.abi_scalar.specs.Range.{numbers_of}
use Rattle.abi_scalar.specs.Repr.{is_c}
use Rattle.abi_scalar.specs.Scalar.{IsNumberOf}
use Rattle.abi_tree.specs.Bytes.{number_of}
use Rattle.abi_tree.specs.Holding.{Holds}
use Rattle.abi_tree.specs.Placed.{Placed, layout_of, niche_of, size_of}
use Rattle.abi_tree.specs.Tree.{Tree, no_trees, more_trees, Variants, no_variants, more_variants, scalar, enum}
use Rattle.abi_tree.specs.Value.{Value, no_values, more_values, variant}
use Rattle.guarantees.specs.Reference.Words.{extent_of}

-- the scalar's numbers are all of so many bytes but 0
abbrev pub LeavesOutZero : (width : ℕ) → Scalar → Type 0
LeavesOutZero width s = (n : ℕ) → n < numbers_of width → (IsNumberOf width s n ↔ (0 < n))

-- A type that is one number of the scalar: it is seen as it, what the scalar leaves out is free in it, and the bytes of each value
-- make a number of it.
pub record IsOneNumber (dl : TargetDataLayout) (s : Scalar) (placed : Placed) : Type 0 where
  pub view : (layout_of placed).backend_repr ≡ OneScalar s
  pub free : IsSome (niche_of placed)
  pub held : (b : List ℕ) (v : Value) → Holds dl.endian placed b v → IsNumberOf (size_of placed) s (number_of dl.endian b)

-- a type whose number is never 0: a scalar, as of a reference or a non-zero number; or one around a scalar, as a box
abbrev pub IsNeverZero : TargetDataLayout → Tree → Placed → Type 0
IsNeverZero dl (scalar s) placed = LeavesOutZero (size_of placed) s
IsNeverZero dl t placed = (s : Scalar) × IsOneNumber dl s placed × LeavesOutZero (size_of placed) s

-- `Option` of the type: one variant without fields, and one with a field of the type, in either order; which is which
abbrev pub IsOption : Tree → (none some : ℕ) → Variants → Type 0
IsOption t none some all =
    (c : ℕ) × (d : ℕ)
    × (((none ≡ 0) × (some ≡ 1) × (all ≡ more_variants c no_trees (more_variants d (more_trees t no_trees) no_variants)))
    ⊎ ((none ≡ 1) × (some ≡ 0) × (all ≡ more_variants c (more_trees t no_trees) (more_variants d no_trees no_variants))))

-- Rust's own representation, with neither `align` nor `packed`
abbrev pub IsPlainRust : ReprOptions → Type 0
IsPlainRust repr = (is_c repr ≡ false) × (repr.int ≡ None) × (repr.align ≡ None) × (repr.pack ≡ None)

-- what is promised of each `Option` of such a type, beside the type as it is laid out; of other types nothing
abbrev pub OfOption : TargetDataLayout → (HasLayout : Tree → Placed → Type 0)
    → (Promise : (none some : ℕ) → (inner whole : Placed) → Type 0) → Tree → Placed → Type 0
OfOption dl HasLayout Promise (enum repr all) whole =
    IsPlainRust repr → (t : Tree) (none some : ℕ) → IsOption t none some all →
    (inner : Placed) → HasLayout t inner → IsNeverZero dl t inner → Promise none some inner whole
OfOption dl HasLayout Promise _ whole = ⊤

-- the size and the alignment of the type
abbrev pub IsAsLarge : (none some : ℕ) → (inner whole : Placed) → Type 0
IsAsLarge none some inner whole = extent_of whole ≡ extent_of inner

-- bytes of zeros hold `None`
abbrev pub IsNoneZero : TargetDataLayout → (none some : ℕ) → (inner whole : Placed) → Type 0
IsNoneZero dl none some inner whole = Holds dl.endian whole (replicate (size_of whole) 0) (variant none no_values)

-- the bytes that hold a value of the type are those that hold `Some` of it
abbrev pub IsSomeAlike : TargetDataLayout → (none some : ℕ) → (inner whole : Placed) → Type 0
IsSomeAlike dl none some inner whole =
    (b : List ℕ) (v : Value) → Holds dl.endian inner b v ↔ Holds dl.endian whole b (variant some (more_values v no_values))
