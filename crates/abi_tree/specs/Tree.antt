-- A type as a tree, as the definitions see it.
use Rattle.std.specs.Prelude.{ℕ, Bool, List, [], ◌∷◌, Option, None, Some, map, Vec}
use Rattle.std.specs.declared.alloc.Global.{Global}
use Rattle.abi_scalar.specs.declared.scalar.Scalar.{Scalar}
use Rattle.abi_scalar.specs.declared.repr.ReprOptions.{ReprOptions}
use Rattle.abi_tree.specs.declared.tree.TypeTree.{TypeTree}
use Rattle.abi_tree.specs.declared.tree.TypeTree.TheOpen.{TypeTree-F}
use Rattle.abi_tree.specs.declared.tree.TypeTree.TheOpen as layer
use Rattle.abi_tree.specs.declared.tree.TypeTree.TheFolds.{fold-TypeTree}

mutual
  -- a type
  pub data Tree : Type 0 where
    -- a number
    scalar : Scalar → Tree
    -- two numbers
    pair : Scalar → Scalar → Tree
    -- no value
    never : Tree
    -- one value, of no bytes
    unit : Tree
    -- so many elements
    array : (count : ℕ) → Tree → Tree
    -- a vector of so many lanes
    vector : (lanes : ℕ) → (packed : Bool) → Tree → Tree
    -- fields, in the order that is handed in, if one is: the indices of the fields as they are to lie in memory
    struct : ReprOptions → (always_sized : Bool) → (order : Option (List ℕ)) → Trees → Tree
    -- fields that share their bytes
    union : ReprOptions → Trees → Tree
    enum : ReprOptions → Variants → Tree
    -- fields of every state, locals, for each state the indices of its locals, and pairs of locals that may not share bytes
    coroutine : (prefix locals : Trees) → (states : List (List ℕ)) → (conflicts : List (ℕ × ℕ)) → Tree

  -- a list of types
  pub data Trees : Type 0 where
    no_trees : Trees
    more_trees : Tree → Trees → Trees

  -- each variant's discriminant and fields
  pub data Variants : Type 0 where
    no_variants : Variants
    more_variants : (discriminant : ℕ) → Trees → Variants → Variants

-- the trees of a list
abbrev pub trees : List Tree → Trees
trees [] = no_trees
trees (t ∷ ts) = more_trees t (trees ts)

-- the variants of a list
abbrev pub variants : List (ℕ × Vec Tree Global) → Variants
variants [] = no_variants
variants (v ∷ vs) = more_variants v.0 (trees v.1.items) (variants vs)

-- the variants of a list of the program's
abbrev pub variants_with : (TypeTree → Tree) → List (ℕ × Vec TypeTree Global) → Variants
variants_with f [] = no_variants
variants_with f (v ∷ vs) = more_variants v.0 (trees (map f v.1.items)) (variants_with f vs)

-- one layer of the program's tree, whose children are trees already
abbrev pub layer_tree : TypeTree-F Tree → Tree
layer_tree (layer.Scalar s) = scalar s
layer_tree (layer.Pair a b) = pair a b
layer_tree layer.Never = never
layer_tree layer.Unit = unit
layer_tree (layer.Array count element) = array count element.value
layer_tree (layer.Vector lanes packed element) = vector lanes packed element.value
layer_tree (layer.Struct repr always_sized fields) = struct repr always_sized None (trees fields.items)
layer_tree (layer.Ordered repr always_sized order fields) = struct repr always_sized (Some order.items) (trees fields.items)
layer_tree (layer.Union repr fields) = union repr (trees fields.items)
layer_tree (layer.Enum repr all) = enum repr (variants all.items)
layer_tree (layer.Coroutine prefix locals states conflicts) =
    coroutine (trees prefix.items) (trees locals.items) (map (λ s. s.items) states.items) conflicts.items

-- the program's tree as the definitions see it
abbrev pub tree_of : TypeTree → Tree
tree_of = fold-TypeTree Tree layer_tree

-- the program's variants
abbrev pub trees_of_variants : List (ℕ × Vec TypeTree Global) → Variants
trees_of_variants = variants_with tree_of
