-- The program's trees as the definitions see them.
use Rattle.std.proofs.Common.{Bool, Box, None, Some, ◌≡◌, ℕ, zero, suc, ◌+◌, ◌*◌, ◌<◌, ◌≤◌, List, [], ◌∷◌, map, get_or, length, Vec, refl, ap, sym, ◌∙◌, arith}
use Rattle.std.specs.declared.alloc.Global.{Global}
use Rattle.abi_scalar.specs.declared.repr.ReprOptions.{ReprOptions}
use Rattle.abi_scalar.specs.declared.scalar.Scalar.{Scalar}
use Rattle.abi_tree.specs.declared.tree.TypeTree.{TypeTree, Scalar as OneScalar, Pair, Never, Unit, Array, Vector, Struct, Ordered, Union, Enum, Coroutine, fold-roll-TypeTree}
use Rattle.abi_tree.specs.declared.tree.TypeTree.TheVariants.{rolls-Scalar, rolls-Pair, rolls-Never, rolls-Unit, rolls-Array, rolls-Vector, rolls-Struct, rolls-Ordered, rolls-Union, rolls-Enum, rolls-Coroutine}
use Rattle.abi_tree.specs.declared.tree.TypeTree.TheShapes.{former-TypeTree-Enum-1-at-3}
use Rattle.abi_tree.specs.declared.tree.TypeTree.TheOpen as layer
use Rattle.abi_tree.specs.Tree.{Tree, tree_of, layer_tree, trees, scalar, pair, never, unit, array, vector, struct, union, enum, coroutine, variants, more_variants, trees_of_variants}
use Rattle.rustc_abi.specs.Adding.{tree_size, trees_size, variants_size}

variants-map : (all : List (ℕ × Vec TypeTree Global)) → variants (map (former-TypeTree-Enum-1-at-3.map TypeTree Tree tree_of) all) ≡ trees_of_variants all
variants-map [] = refl
variants-map (v ∷ all) = ap (more_variants v.0 (trees (map tree_of v.1.items))) (variants-map all)

pub tree_of-Enum : (repr : ReprOptions) (all : Vec (ℕ × Vec TypeTree Global) Global) → tree_of (Enum repr all) ≡ enum repr (trees_of_variants all.items)
tree_of-Enum repr all = ap tree_of (sym (rolls-Enum repr all)) ∙ fold-roll-TypeTree Tree layer_tree (layer.Enum repr all) ∙ ap (enum repr) (variants-map all.items)

pub tree_of-Scalar : (s : Scalar) → tree_of (OneScalar s) ≡ scalar s
tree_of-Scalar s = ap tree_of (sym (rolls-Scalar s)) ∙ fold-roll-TypeTree Tree layer_tree (layer.Scalar s)

pub tree_of-Pair : (a b : Scalar) → tree_of (Pair a b) ≡ pair a b
tree_of-Pair a b = ap tree_of (sym (rolls-Pair a b)) ∙ fold-roll-TypeTree Tree layer_tree (layer.Pair a b)

pub tree_of-Never : tree_of Never ≡ never
tree_of-Never = ap tree_of (sym rolls-Never) ∙ fold-roll-TypeTree Tree layer_tree layer.Never

pub tree_of-Unit : tree_of Unit ≡ unit
tree_of-Unit = ap tree_of (sym rolls-Unit) ∙ fold-roll-TypeTree Tree layer_tree layer.Unit

pub tree_of-Array : (count : ℕ) (element : Box TypeTree Global) → tree_of (Array count element) ≡ array count (tree_of element.value)
tree_of-Array count element = ap tree_of (sym (rolls-Array count element)) ∙ fold-roll-TypeTree Tree layer_tree (layer.Array count element)

pub tree_of-Struct : (repr : ReprOptions) (always_sized : Bool) (fields : Vec TypeTree Global) → tree_of (Struct repr always_sized fields) ≡ struct repr always_sized None (trees (map tree_of fields.items))
tree_of-Struct repr always_sized fields = ap tree_of (sym (rolls-Struct repr always_sized fields)) ∙ fold-roll-TypeTree Tree layer_tree (layer.Struct repr always_sized fields)

pub tree_of-Ordered : (repr : ReprOptions) (always_sized : Bool) (order : Vec ℕ Global) (fields : Vec TypeTree Global) →
    tree_of (Ordered repr always_sized order fields) ≡ struct repr always_sized (Some order.items) (trees (map tree_of fields.items))
tree_of-Ordered repr always_sized order fields =
    ap tree_of (sym (rolls-Ordered repr always_sized order fields)) ∙ fold-roll-TypeTree Tree layer_tree (layer.Ordered repr always_sized order fields)

pub tree_of-Vector : (lanes : ℕ) (packed : Bool) (element : Box TypeTree Global) → tree_of (Vector lanes packed element) ≡ vector lanes packed (tree_of element.value)
tree_of-Vector lanes packed element = ap tree_of (sym (rolls-Vector lanes packed element)) ∙ fold-roll-TypeTree Tree layer_tree (layer.Vector lanes packed element)

pub tree_of-Union : (repr : ReprOptions) (fields : Vec TypeTree Global) → tree_of (Union repr fields) ≡ union repr (trees (map tree_of fields.items))
tree_of-Union repr fields = ap tree_of (sym (rolls-Union repr fields)) ∙ fold-roll-TypeTree Tree layer_tree (layer.Union repr fields)

pub tree_of-Coroutine : (prefix locals : Vec TypeTree Global) (states : Vec (Vec ℕ Global) Global) (conflicts : Vec (ℕ × ℕ) Global) →
    tree_of (Coroutine prefix locals states conflicts) ≡ coroutine (trees (map tree_of prefix.items)) (trees (map tree_of locals.items)) (map (λ s. s.items) states.items) conflicts.items
tree_of-Coroutine prefix locals states conflicts =
    ap tree_of (sym (rolls-Coroutine prefix locals states conflicts)) ∙ fold-roll-TypeTree Tree layer_tree (layer.Coroutine prefix locals states conflicts)

-- a list is larger than each of its types
pub trees_size-at : (ts : List TypeTree) (i : ℕ) (d : TypeTree) → i < length ts → tree_size (tree_of (get_or ts i d)) ≤ trees_size (trees (map tree_of ts))
trees_size-at [] i d lt = absurd (omega arith)
trees_size-at (t ∷ ts) zero d lt = omega arith
trees_size-at (t ∷ ts) (suc i) d lt = omega (arith, trees_size-at ts i d (omega arith))

pub variants_size-at : (all : List (ℕ × Vec TypeTree Global)) (i : ℕ) (d : ℕ × Vec TypeTree Global) → i < length all →
    trees_size (trees (map tree_of (get_or all i d).1.items)) ≤ variants_size (trees_of_variants all)
variants_size-at [] i d lt = absurd (omega arith)
variants_size-at (v ∷ all) zero d lt = omega arith
variants_size-at (v ∷ all) (suc i) d lt = omega (arith, variants_size-at all i d (omega arith))

-- an enum is larger than its variants
pub falls-Enum : (tree : TypeTree) (repr : ReprOptions) (all : Vec (ℕ × Vec TypeTree Global) Global) → tree ≡ Enum repr all →
    4 * variants_size (trees_of_variants all.items) + 3 < 4 * tree_size (tree_of tree)
falls-Enum tree repr all e = omega (arith, ap tree_size (ap tree_of e ∙ tree_of-Enum repr all))
