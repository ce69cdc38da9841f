-- The program's trees as the definitions see them.
use Rattle.std.proofs.Common.{Bool, None, ◌≡◌, ℕ, suc, ◌+◌, ◌<◌, List, [], ◌∷◌, ◌++◌, Vec, get_or, length, map, take, refl, sym, ap, ap₂, ◌∙◌, arith}
use Rattle.std.proofs.Math.Seq.{take-suc}
use Rattle.std.specs.declared.alloc.Global.{Global}
use Rattle.abi_scalar.specs.declared.repr.ReprOptions.{ReprOptions}
use Rattle.abi_tree.specs.declared.tree.TypeTree.{TypeTree, Struct, Union, Enum, fold-roll-TypeTree}
use Rattle.abi_tree.specs.declared.tree.TypeTree.TheVariants.{rolls-Struct, rolls-Union, rolls-Enum}
use Rattle.abi_tree.specs.declared.tree.TypeTree.TheShapes.{former-TypeTree-Enum-1-at-3}
use Rattle.abi_tree.specs.declared.tree.TypeTree.TheOpen as layer
use Rattle.abi_tree.specs.Tree.{Tree, tree_of, layer_tree, trees, trees_of_variants, variants, struct, union, enum, no_trees, more_variants, no_variants}
use Rattle.guarantees.specs.EnumInC.{without_fields}

pub tree_of-Struct : (repr : ReprOptions) (always_sized : Bool) (fields : Vec TypeTree Global) →
    tree_of (Struct repr always_sized fields) ≡ struct repr always_sized None (trees (map tree_of fields.items))
tree_of-Struct repr always_sized fields =
    ap tree_of (sym (rolls-Struct repr always_sized fields)) ∙ fold-roll-TypeTree Tree layer_tree (layer.Struct repr always_sized fields)

pub tree_of-Union : (repr : ReprOptions) (fields : Vec TypeTree Global) → tree_of (Union repr fields) ≡ union repr (trees (map tree_of fields.items))
tree_of-Union repr fields = ap tree_of (sym (rolls-Union repr fields)) ∙ fold-roll-TypeTree Tree layer_tree (layer.Union repr fields)

-- ---- variants

more_fieldless : (all : List (ℕ × Vec TypeTree Global)) (ns : List ℕ) (n : ℕ) (fields : Vec TypeTree Global) → fields.items ≡ [] → trees_of_variants all ≡ without_fields ns →
    trees_of_variants (all ++ (n, fields) ∷ []) ≡ without_fields (ns ++ n ∷ [])
more_fieldless [] [] n fields none same = ap (λ (fs : List TypeTree). more_variants n (trees (map tree_of fs)) no_variants) none
more_fieldless [] (m ∷ ns) n fields none same = absurd (cc)
more_fieldless (v ∷ all) [] n fields none same = absurd (cc)
more_fieldless (v ∷ all) (m ∷ ns) n fields none same =
    let rest = more_fieldless all ns n fields none cc in
    let number : v.0 ≡ m = cc in
    let empty : trees (map tree_of v.1.items) ≡ no_trees = cc in
    ap₂ (λ d ts. more_variants d ts (trees_of_variants (all ++ (n, fields) ∷ []))) number empty ∙ ap (more_variants m no_trees) rest

-- one more variant without fields
pub next_fieldless : (all : List (ℕ × Vec TypeTree Global)) (ns : List ℕ) (i n d : ℕ) (fields : Vec TypeTree Global) → i < length ns → get_or ns i d ≡ n → fields.items ≡ [] →
    trees_of_variants all ≡ without_fields (take i ns) → trees_of_variants (all ++ (n, fields) ∷ []) ≡ without_fields (take (i + 1) ns)
next_fieldless all ns i n d fields lt at none same =
    let next : take (i + 1) ns ≡ take i ns ++ n ∷ [] = (let one : i + 1 ≡ suc i = omega arith in ap (λ k. take k ns) one) ∙ take-suc ns i d lt ∙ ap (λ m. take i ns ++ m ∷ []) at in
    more_fieldless all (take i ns) n fields none same ∙ ap without_fields (sym next)

variants_are : (all : List (ℕ × Vec TypeTree Global)) → variants (map (former-TypeTree-Enum-1-at-3.map TypeTree Tree tree_of) all) ≡ trees_of_variants all
variants_are [] = refl
variants_are (v ∷ all) = ap (more_variants v.0 (trees (map tree_of v.1.items))) (variants_are all)

pub tree_of-Enum : (repr : ReprOptions) (all : Vec (ℕ × Vec TypeTree Global) Global) → tree_of (Enum repr all) ≡ enum repr (trees_of_variants all.items)
tree_of-Enum repr all =
    ap tree_of (sym (rolls-Enum repr all)) ∙ fold-roll-TypeTree Tree layer_tree (layer.Enum repr all) ∙ ap (enum repr) (variants_are all.items)
