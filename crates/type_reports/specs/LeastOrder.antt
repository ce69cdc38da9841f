-- The least size that fields have in any order, and an order in which they have it.
use Rattle.std.specs.Prelude.{◌≡◌, ℕ, List, None, length}
use Rattle.abi_base.specs.declared.data_layout.TargetDataLayout.{TargetDataLayout}
use Rattle.abi_base.specs.declared.struct_kind.StructKind.{StructKind}
use Rattle.abi_scalar.specs.declared.layout_data.LayoutData.{LayoutData}
use Rattle.abi_scalar.specs.declared.repr.ReprOptions.{ReprOptions}
use Rattle.abi_univariant.specs.Least.{IsLeastSize, IsOrderOf, size_by}

-- the same alignment and packing, with an order that is free
abbrev pub with_free_order : ReprOptions → ReprOptions
with_free_order repr = record repr { int = None; flags = record { 0 = 0 } }

-- The size is the least that these fields have in any order, under this alignment and packing, and they have it in this order.
pub record IsLeastOrder {F V : Type 0} (dl : TargetDataLayout) (repr : ReprOptions) (kind : StructKind) (fields : List (LayoutData F V)) (size : ℕ) (order : List ℕ) : Type 0 where
  pub least : IsLeastSize dl (with_free_order repr) kind fields size
  pub allowed : IsOrderOf dl (with_free_order repr) kind (length fields) order
  pub reached : size ≡ size_by dl (with_free_order repr) kind fields order
