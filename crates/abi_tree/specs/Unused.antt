-- Which bytes values keep to: data places, and those of a variant or state the places of that one. Others it leaves unused.
use Rattle.std.specs.Prelude.{◌≡◌, ℕ, ◌&&◌, Bool, List, not, true}
use Rattle.abi_base.specs.declared.endian.Endian.{Endian}
use Rattle.abi_tree.specs.declared.laid.Laid.{Laid}
use Rattle.abi_tree.specs.Covering.{is_covered}
use Rattle.abi_tree.specs.Holding.{Holds}
use Rattle.abi_tree.specs.Laid.{placed_of, typed_of}
use Rattle.abi_tree.specs.Placed.{Placed, layout_of}
use Rattle.abi_tree.specs.Places.{is_data_place}
use Rattle.abi_tree.specs.Runs.{is_place_of_variant}
use Rattle.abi_tree.specs.Value.{Value, state, variant}
use Rattle.abi_types.specs.Ty.Places.{is_unused}
use Rattle.abi_types.specs.Ty.Runs.{IsVariantIndex, IsVariantOfSeveral}

-- the value is one of the variant or state with this index
abbrev pub IsOfVariant : Value → (index : ℕ) → Type 0
IsOfVariant (variant i vs) index = i ≡ index
IsOfVariant (state i ps vs) index = i ≡ index
IsOfVariant _ index = ⊥

-- byte k is a data place, and none of the variant or state with this index
abbrev pub is_left_unused : Placed → (index k : ℕ) → Bool
is_left_unused placed i k = is_data_place placed k && not (is_place_of_variant placed i k)

-- A value that bytes hold covers data places alone, and one of a variant or state the places of that one. What that leaves unused is
-- left by one of several that a tag distinguishes.
pub record KeepsToPlaces (order : Endian) (placed : Placed) : Type 0 where
  pub places : (b : List ℕ) (v : Value) → Holds order placed b v → (k : ℕ) → is_covered placed v k ≡ true → is_data_place placed k ≡ true
  pub own : (b : List ℕ) (v : Value) → Holds order placed b v → (i : ℕ) → IsOfVariant v i → (k : ℕ) → is_covered placed v k ≡ true →
      is_place_of_variant placed i k ≡ true
  pub several : (b : List ℕ) (v : Value) → Holds order placed b v → (i : ℕ) → IsOfVariant v i → (k : ℕ) → is_left_unused placed i k ≡ true →
      IsVariantOfSeveral (layout_of placed).variants i

-- handles show which bytes each variant or state leaves unused
abbrev pub ListsUnused : Laid → Type 0
ListsUnused laid =
    (i k : ℕ) → IsVariantIndex (layout_of (placed_of laid)).variants i → is_unused (typed_of laid) i k ≡ is_left_unused (placed_of laid) i k
