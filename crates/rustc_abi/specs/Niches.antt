-- Which niche a type has, from those of its parts.
use Rattle.std.specs.Prelude.{◌≡◌, ℕ, ◌==◌, ⊤, IfSome, List, None, Option, if◌then◌else◌}
use Rattle.abi_base.specs.declared.data_layout.TargetDataLayout.{TargetDataLayout}
use Rattle.abi_scalar.specs.declared.niche.Niche.{Niche}
use Rattle.abi_scalar.specs.declared.scalar.Scalar.{Scalar}
use Rattle.abi_scalar.specs.Layout.{Layout}
use Rattle.abi_scalar.specs.Niche.{niche_at}
use Rattle.abi_univariant.specs.ListNiche.{HasLargestNiche, IsNicheOfPart}
use Rattle.abi_tree.specs.Tree.{Tree, array, vector, struct, union, enum, coroutine}
use Rattle.abi_tree.specs.Placed.{Placed, elements, vector as lanes_of_vector, fields, union as together, single, tagged}
use Rattle.abi_tree.specs.Placed.{states as placed_states, element_of, niche_of}
use Rattle.rustc_abi.specs.Laying.{one_scalar}
use Rattle.rustc_abi.specs.Lists.{offsets_of, types_of}

-- The niche is that of one of these fields, in its place, and none of them has one with more free numbers: it is
-- missing only where none has one.
pub record IsBestNiche (dl : TargetDataLayout) (offsets : List ℕ) (fields : List Layout) (niche : Option Niche) : Type 0 where
  pub own : IfSome niche (IsNicheOfPart offsets fields)
  pub most : HasLargestNiche dl niche fields

module _ (dl : TargetDataLayout) where
  -- A struct, and an enum of which one variant is left, has the best niche of its fields; an array that of its element,
  -- where it has one; a vector its element's; an enum with a tag what that leaves free; a union and a coroutine none.
  -- Of other types nothing is said.
  abbrev pub HasNicheOfParts : Tree → Placed → Type 0
  HasNicheOfParts (array count element) (elements layout n placed) =
      layout.largest_niche ≡ (if count == 0 then None else niche_of placed)
  HasNicheOfParts (vector lanes packed element) (lanes_of_vector layout all) =
      layout.largest_niche ≡ niche_of (element_of all)
  HasNicheOfParts (struct repr always_sized order all) (fields layout mark parts) =
      IsBestNiche dl (offsets_of parts) (types_of parts) layout.largest_niche
  HasNicheOfParts (union repr all) (together layout mark parts) = layout.largest_niche ≡ None
  HasNicheOfParts (enum repr all) (single layout mark index parts) =
      IsBestNiche dl (offsets_of parts) (types_of parts) layout.largest_niche
  HasNicheOfParts (enum repr all) (tagged layout mark offset tag encoding tagged_variants) =
      (scalar : Scalar) × (tag ≡ one_scalar dl scalar) × (layout.largest_niche ≡ niche_at dl offset scalar)
  HasNicheOfParts (coroutine prefix locals all conflicts) (placed_states layout pre offset tag tagged_variants) =
      layout.largest_niche ≡ None
  HasNicheOfParts _ placed = ⊤
