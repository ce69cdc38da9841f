-- The program's trees, as what numbers begin with has them.
use Rattle.std.proofs.Common.{◌≡◌, ℕ, zero, suc, ◌-◌, List, [], ◌∷◌, map, Vec, refl, ap, sym, ◌∙◌, arith}
use Rattle.std.specs.declared.alloc.Global.{Global}
use Rattle.abi_scalar.specs.declared.repr.ReprOptions.{ReprOptions}
use Rattle.abi_tree.specs.declared.tree.TypeTree.{TypeTree, Enum, fold-roll-TypeTree}
use Rattle.abi_tree.specs.declared.tree.TypeTree.TheVariants.{rolls-Enum}
use Rattle.abi_tree.specs.declared.tree.TypeTree.TheShapes.{former-TypeTree-Enum-1-at-3}
use Rattle.abi_tree.specs.declared.tree.TypeTree.TheOpen as layer
use Rattle.abi_tree.specs.Tree.{Tree, tree_of, layer_tree, trees, enum, variants, more_variants}
use Rattle.abi_c.specs.Numbers.FrontTree.{front_node, front_tree, variant_kept, variants_of_items}

-- there is one type more around those in it
pub front_tree-step : (left : ℕ) → (left ≡ 0 → ⊥) → front_tree left ≡ front_node (front_tree (left - 1))
front_tree-step zero some = absurd (some refl)
front_tree-step (suc n) some =
    let same : n ≡ suc n - 1 = omega arith in
    ap (λ m. front_node (front_tree m)) same

variants_map : (all : List (ℕ × Vec TypeTree Global)) → variants (map (former-TypeTree-Enum-1-at-3.map TypeTree Tree tree_of) all) ≡ variants_of_items (map variant_kept all)
variants_map [] = refl
variants_map (v ∷ all) = ap (more_variants v.0 (trees (map tree_of v.1.items))) (variants_map all)

-- the tree of an enum, with the variants that were read
pub enum_tree : (repr : ReprOptions) (all : Vec (ℕ × Vec TypeTree Global) Global) → tree_of (Enum repr all) ≡ enum repr (variants_of_items (map variant_kept all.items))
enum_tree repr all = ap tree_of (sym (rolls-Enum repr all)) ∙ fold-roll-TypeTree Tree layer_tree (layer.Enum repr all) ∙ ap (enum repr) (variants_map all.items)
