-- In which order the fields of structs lie.
use Rattle.std.specs.Prelude.{ℕ, ⊤, List, None, Some}
use Rattle.abi_base.specs.declared.data_layout.TargetDataLayout.{TargetDataLayout}
use Rattle.abi_base.specs.declared.struct_kind.StructKind.{StructKind}
use Rattle.abi_base.specs.declared.struct_kind.StructKind.TheVariants.{AlwaysSized}
use Rattle.abi_scalar.specs.declared.repr.ReprOptions.{ReprOptions}
use Rattle.abi_univariant.specs.Least.{IsPlacedBy}
use Rattle.abi_tree.specs.Tree.{Tree, struct, enum}
use Rattle.abi_tree.specs.Placed.{Placed, Parts, fields, single}
use Rattle.abi_scalar.specs.Layout.{Layout}
use Rattle.rustc_abi.specs.Laying.{kind_of, with_randomize_flag}
use Rattle.rustc_abi.specs.Least.{fields_of}
use Rattle.rustc_abi.specs.Lists.{offsets_of, types_of}

-- these parts lie one after another in this allowed order, and the size and the alignment are the list's
abbrev pub LieIn : TargetDataLayout → ReprOptions → StructKind → (order : List ℕ) → Parts → Layout → Type 0
LieIn dl repr kind order parts layout = IsPlacedBy dl repr kind (types_of parts) order (offsets_of parts) layout.size layout.align.abi

module _ (dl : TargetDataLayout) where
  -- The fields of a struct, and of an enum of which one variant is left, lie in an order that its repr and its kind allow: in
  -- the one that is handed in, where one is. Of other types nothing is said.
  abbrev pub LiesAsAsked : Tree → Placed → Type 0
  LiesAsAsked (struct repr always_sized None all) (fields layout mark parts) =
      (order : List ℕ) × LieIn dl repr (kind_of always_sized (fields_of parts)) order parts layout
  LiesAsAsked (struct repr always_sized (Some order) all) (fields layout mark parts) =
      LieIn dl (with_randomize_flag repr) (kind_of always_sized (fields_of parts)) order parts layout
  LiesAsAsked (enum repr all) (single layout mark index parts) =
      (order : List ℕ) × LieIn dl repr AlwaysSized order parts layout
  LiesAsAsked _ placed = ⊤
