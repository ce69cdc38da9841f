-- `array`: the size is that of the elements, the alignment one element's, and the nth lies behind n of them.
use Rattle.std.specs.Prelude.{◌≡◌, ℕ, ◌*◌, ◌<◌, ⊤}
use Rattle.abi_scalar.specs.Shape.{field_count, field_offset}
use Rattle.abi_tree.specs.Tree.{Tree, array}
use Rattle.abi_tree.specs.Placed.{Placed, elements, size_of}
use Rattle.guarantees.specs.Reference.Words.{align_in_bytes}

pub record IsArrayOf (count : ℕ) (element whole : Placed) (offset_of : ℕ → ℕ) : Type 0 where
  pub size : size_of whole ≡ size_of element * count
  pub align : align_in_bytes whole ≡ align_in_bytes element
  pub offsets : (n : ℕ) → n < count → offset_of n ≡ n * size_of element

-- of other types nothing is said; an array laid out as another kind of type is none
abbrev pub IsArray : Tree → Placed → Type 0
IsArray (array count element) (elements layout n placed) =
    (n ≡ count) × (field_count layout.fields ≡ count) × IsArrayOf count placed (elements layout n placed) (field_offset layout.fields)
IsArray (array count element) _ = ⊥
IsArray _ placed = ⊤
