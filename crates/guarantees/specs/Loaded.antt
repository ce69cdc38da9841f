-- Types that have a layout, those that are seen as one number or two, and what is loaded of them.
use Rattle.std.specs.Prelude.{◌≡◌, ℕ, List, Ok}
use Rattle.abi_base.specs.declared.data_layout.TargetDataLayout.{TargetDataLayout}
use Rattle.abi_base.specs.DataLayout.{IsLawfulDataLayout}
use Rattle.abi_scalar.specs.declared.backend_repr.BackendRepr.TheVariants.{Scalar as OneScalar, ScalarPair}
use Rattle.abi_scalar.specs.declared.scalar.Scalar.{Scalar}
use Rattle.abi_scalar.specs.Scalar.{IsNumberOf, scalar_size}
use Rattle.abi_base.specs.declared.endian.Endian.{Endian}
use Rattle.abi_tree.specs.Bytes.{bytes_at, number_of}
use Rattle.abi_tree.specs.Holding.{tag_at}
use Rattle.abi_tree.specs.Placed.{Placed, layout_of, single, size_of, tagged}
use Rattle.abi_tree.specs.Tag.{Names}
use Rattle.abi_tree.specs.Tree.{Tree}
use Rattle.rustc_abi.specs.Laying.{IsLaying}

-- the tree has a layout, under a lawful data layout
abbrev pub HasLayout : TargetDataLayout → Tree → Type 0
HasLayout dl tree = IsLawfulDataLayout dl × (placed : Placed) × IsLaying dl tree (Ok placed)

-- laid out, the tree is seen as this one scalar
abbrev pub IsSeenAs : TargetDataLayout → Tree → Scalar → Type 0
IsSeenAs dl tree scalar =
    (placed : Placed) × IsLaying dl tree (Ok placed) × ((layout_of placed).backend_repr ≡ OneScalar scalar)

-- laid out, the tree is seen as these two scalars, the second at the offset
abbrev pub IsSeenAsPair : TargetDataLayout → Tree → (first second : Scalar) → (offset : ℕ) → Type 0
IsSeenAsPair dl tree a b offset =
    (placed : Placed) × IsLaying dl tree (Ok placed) × ((layout_of placed).backend_repr ≡ ScalarPair a b offset)

-- The number that the scalar's bytes make at the offset, which is one of the numbers that the scalar holds.
pub record IsNumberAt (dl : TargetDataLayout) (b : List ℕ) (offset : ℕ) (s : Scalar) (n : ℕ) : Type 0 where
  pub number : n ≡ number_of dl.endian (bytes_at b offset (scalar_size dl s))
  pub range : IsNumberOf (scalar_size dl s) s n

-- the tag's number in the bytes names the variant with this index, or it is the only one
abbrev pub IsNamed : Endian → Placed → List ℕ → (index : ℕ) → Type 0
IsNamed order (tagged layout mark offset tag encoding tagged_variants) b i = Names encoding (size_of tag) tagged_variants (tag_at order b offset (size_of tag)) i
IsNamed order (single layout mark index parts) b i = i ≡ index
IsNamed order _ b i = ⊥
