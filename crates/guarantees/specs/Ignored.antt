-- Bytes that decide nothing, changed.
use Rattle.std.specs.Prelude.{ℕ, List, slice_set, if◌then◌else◌}
use Rattle.abi_base.specs.declared.endian.Endian.{Endian}
use Rattle.abi_tree.specs.Deciding.{Decide}
use Rattle.abi_tree.specs.Placed.{Placed}
use Rattle.abi_tree.specs.Runs.{is_padding_of}

-- the bytes with this one at the place, where the place is one of the type's padding
abbrev pub with_padding : Placed → List ℕ → (place byte : ℕ) → List ℕ
with_padding placed b place byte = if is_padding_of placed place then slice_set b place byte else b

-- byte k decides nothing: of no two byte lists that differ there alone do the first hold a value that the second don't
abbrev pub DecidesNothing : Endian → Placed → (k : ℕ) → Type 0
DecidesNothing order placed k = (a b : List ℕ) → Decide order placed k a b → ⊥
