-- What is known of a type that was laid out from a tree.
use Rattle.std.specs.Prelude.{Ok}
use Rattle.abi_base.specs.declared.data_layout.TargetDataLayout.{TargetDataLayout}
use Rattle.abi_base.specs.DataLayout.{IsLawfulDataLayout}
use Rattle.abi_scalar.specs.Lawful.{IsLawfulLayout}
use Rattle.abi_tree.specs.declared.laid.Laid.{Laid}
use Rattle.abi_tree.specs.Laid.{placed_of}
use Rattle.abi_tree.specs.Placed.{layout_of}
use Rattle.abi_tree.specs.Tree.{Tree}
use Rattle.rustc_abi.specs.Laying.{IsLaying}

-- The type is one that a tree is laid out as under a lawful data layout; its layout is lawful.
pub record IsLaidOut (dl : TargetDataLayout) (laid : Laid) : Type 0 where
  pub target : IsLawfulDataLayout dl
  pub laying : (tree : Tree) × IsLaying dl tree (Ok (placed_of laid))
  pub lawful : IsLawfulLayout dl (layout_of (placed_of laid))
