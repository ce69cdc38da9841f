-- Handles of types that were laid out.
use Rattle.std.specs.Prelude.{◌≡◌, ℕ, ◌<◌, ⊤, get_or, length}
use Rattle.abi_types.specs.declared.ty.interface.TyAndLayout.{TyAndLayout}
use Rattle.abi_types.specs.Ty.Typed.{Typed, layout_in}
use Rattle.abi_types.specs.Ty.Lawful.{IsWellFormedType}
use Rattle.abi_tree.specs.declared.node.Shape.{Shape}
use Rattle.abi_tree.specs.declared.node.Shape.TheVariants.{Elements}
use Rattle.abi_tree.specs.declared.handle.TreeTy.{TreeTy}
use Rattle.abi_tree.specs.Typed.{field_nodes, typed_at, variant_nodes}

-- the node has a field with this index; elements are not counted here
abbrev pub HasField : Shape → (index : ℕ) → Type 0
HasField (Elements count element) i = ⊤
HasField shape i = i < length (field_nodes shape)

-- the node of the field with this index: elements have one node
abbrev pub field_place : Shape → (index : ℕ) → ℕ
field_place (Elements count element) i = element
field_place shape i = get_or (field_nodes shape) i 0

-- the node of the variant or state with this index
abbrev pub variant_place : Shape → (index : ℕ) → ℕ
variant_place shape v = get_or (variant_nodes shape) v 0

-- the type that a handle shows
abbrev pub tree_type : TyAndLayout TreeTy → Typed
tree_type this = typed_at this.ty.laid.now.nodes this.ty.node

-- its depth: the number of its node, which is greater than those of its fields and its variants
abbrev pub tree_depth : TyAndLayout TreeTy → ℕ
tree_depth this = this.ty.node

-- There is such a node, the layout beside the handle's type is its own, and the type keeps the laws.
pub record IsHandle (this : TyAndLayout TreeTy) : Type 0 where
  pub there : this.ty.node < length this.ty.laid.now.nodes
  pub layout : layout_in (tree_type this) ≡ this.layout.0.now
  pub lawful : IsWellFormedType (tree_type this)
