-- Why C has no field of a type, of each kind of the program's trees.
use Rattle.std.proofs.Common.{Bool, ◌≡◌, ℕ, List, [], ◌∷◌, Vec, length, map, refl, ap, sym, ◌∙◌, arith}
use Rattle.std.specs.declared.alloc.Global.{Global}
use Rattle.abi_scalar.specs.declared.repr.ReprOptions.{ReprOptions}
use Rattle.abi_tree.specs.declared.tree.TypeTree.{TypeTree, Struct, Union, Enum, fold-roll-TypeTree}
use Rattle.abi_tree.specs.declared.tree.TypeTree.TheVariants.{rolls-Enum}
use Rattle.abi_tree.specs.declared.tree.TypeTree.TheShapes.{former-TypeTree-Enum-1-at-3}
use Rattle.abi_tree.specs.declared.tree.TypeTree.TheOpen as layer
use Rattle.abi_tree.specs.Tree.{Tree, tree_of, layer_tree, trees, variants}
use Rattle.guarantees.specs.FieldOfC.{c_enum_fault, field_fault, list_fault, tree_count, variants_count}
use Rattle.guarantees.proofs.Trees.{tree_of-Struct, tree_of-Union}

tree_count-map : (ts : List TypeTree) → tree_count (trees (map tree_of ts)) ≡ length ts
tree_count-map [] = refl
tree_count-map (t ∷ ts) = omega (arith, tree_count-map ts)

pub fault-Struct : (tree : TypeTree) (repr : ReprOptions) (always_sized : Bool) (fields : Vec TypeTree Global) → tree ≡ Struct repr always_sized fields →
    field_fault (tree_of tree) ≡ list_fault repr (length fields.items)
fault-Struct tree repr always_sized fields e =
    ap (λ t. field_fault (tree_of t)) e ∙ ap field_fault (tree_of-Struct repr always_sized fields) ∙ ap (list_fault repr) (tree_count-map fields.items)

pub fault-Union : (tree : TypeTree) (repr : ReprOptions) (fields : Vec TypeTree Global) → tree ≡ Union repr fields → field_fault (tree_of tree) ≡ list_fault repr (length fields.items)
fault-Union tree repr fields e = ap (λ t. field_fault (tree_of t)) e ∙ ap field_fault (tree_of-Union repr fields) ∙ ap (list_fault repr) (tree_count-map fields.items)

variant_count-map : (f : ℕ × Vec TypeTree Global → ℕ × Vec Tree Global) (all : List (ℕ × Vec TypeTree Global)) → variants_count (variants (map f all)) ≡ length all
variant_count-map f [] = refl
variant_count-map f (v ∷ all) = omega (arith, variant_count-map f all)

pub fault-Enum : (tree : TypeTree) (repr : ReprOptions) (all : Vec (ℕ × Vec TypeTree Global) Global) → tree ≡ Enum repr all → field_fault (tree_of tree) ≡ c_enum_fault repr (length all.items)
fault-Enum tree repr all e =
    ap (λ t. field_fault (tree_of t)) e ∙ ap field_fault (ap tree_of (sym (rolls-Enum repr all)) ∙ fold-roll-TypeTree Tree layer_tree (layer.Enum repr all))
    ∙ ap (c_enum_fault repr) (variant_count-map (former-TypeTree-Enum-1-at-3.map TypeTree Tree tree_of) all.items)
