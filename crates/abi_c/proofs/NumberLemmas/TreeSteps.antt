-- Types as numbers, one more.
use Rattle.std.proofs.Common.{◌≡◌, ℕ, suc, ◌+◌, ◌<◌, ◌≤◌, ◌++◌, List, [], ◌∷◌, Vec, get_or, take, length, map, refl, ap, sym, ◌∙◌}
use Rattle.std.specs.declared.alloc.Global.{Global}
use Rattle.std.proofs.lemmas.List.{append-nil, append_assoc, map-append, take_all, take_more}
use Rattle.abi_scalar.specs.declared.repr.ReprOptions.{ReprOptions}
use Rattle.abi_tree.specs.declared.tree.TypeTree.{TypeTree}
use Rattle.abi_tree.specs.Tree.{Tree, enum, tree_of, trees, trees_of_variants}
use Rattle.abi_c.specs.Numbers.Pieces.{flat_wide}
use Rattle.abi_c.specs.Numbers.FlatRepr.{flat_repr}
use Rattle.abi_c.specs.Numbers.FlatTree.{count_of_trees, count_of_variants, flat_tree, flat_trees, flat_variants}

trees_more : (ts : List Tree) (t : Tree) → flat_trees (trees (ts ++ t ∷ [])) ≡ flat_trees (trees ts) ++ flat_tree t
trees_more [] t = append-nil (flat_tree t)
trees_more (u ∷ ts) t = ap (λ l. flat_tree u ++ l) (trees_more ts t) ∙ sym (append_assoc (flat_tree u) (flat_trees (trees ts)) (flat_tree t))

-- one type more
pub trees_step : (old out new : List ℕ) (ts : List TypeTree) (i : ℕ) (t : TypeTree) → i < length ts → t ≡ get_or ts i t
    → out ≡ old ++ flat_trees (trees (map tree_of (take i ts))) → new ≡ out ++ flat_tree (tree_of t)
    → new ≡ old ++ flat_trees (trees (map tree_of (take (i + 1) ts)))
trees_step old out new ts i t less is before e =
    e ∙ ap (λ l. l ++ flat_tree (tree_of t)) before ∙ append_assoc old (flat_trees (trees (map tree_of (take i ts)))) (flat_tree (tree_of t))
    ∙ ap (λ l. old ++ l)
    (
    sym (trees_more (map tree_of (take i ts)) (tree_of t)) ∙ ap (λ l. flat_trees (trees l)) (sym (map-append tree_of (take i ts) (t ∷ [])))
    ∙ ap (λ w. flat_trees (trees (map tree_of (take i ts ++ w ∷ [])))) is ∙ ap (λ l. flat_trees (trees (map tree_of l))) (sym (take_more ts i t less))
    )

trees_counted : (ts : List TypeTree) → length ts ≡ count_of_trees (trees (map tree_of ts))
trees_counted [] = refl
trees_counted (t ∷ ts) = ap suc (trees_counted ts)

-- all types behind their count
pub trees_end : (old pushed out : List ℕ) (ts : List TypeTree) (i : ℕ) → length ts ≤ i → pushed ≡ old ++ length ts ∷ []
    → out ≡ pushed ++ flat_trees (trees (map tree_of (take i ts)))
    → out ≡ old ++ (count_of_trees (trees (map tree_of ts)) ∷ flat_trees (trees (map tree_of ts)))
trees_end old pushed out ts i least first rest =
    rest ∙ ap (λ l. l ++ flat_trees (trees (map tree_of (take i ts)))) first ∙ append_assoc old (length ts ∷ []) (flat_trees (trees (map tree_of (take i ts))))
    ∙ ap (λ l. old ++ (length ts ∷ flat_trees (trees (map tree_of l)))) (take_all i ts least) ∙ ap (λ k. old ++ (k ∷ flat_trees (trees (map tree_of ts)))) (trees_counted ts)

-- the numbers of a variant
abbrev pub flat_one : ℕ × Vec TypeTree Global → List ℕ
flat_one v = flat_wide v.0 ++ (count_of_trees (trees (map tree_of v.1.items)) ∷ flat_trees (trees (map tree_of v.1.items)))

-- its discriminant, and behind it its types
pub one_variant : (before wide after : List ℕ) (v : ℕ × Vec TypeTree Global) → wide ≡ before ++ flat_wide v.0
    → after ≡ wide ++ (count_of_trees (trees (map tree_of v.1.items)) ∷ flat_trees (trees (map tree_of v.1.items))) → after ≡ before ++ flat_one v
one_variant before wide after v first rest =
    rest ∙ ap (λ l. l ++ (count_of_trees (trees (map tree_of v.1.items)) ∷ flat_trees (trees (map tree_of v.1.items)))) first
    ∙ append_assoc before (flat_wide v.0) (count_of_trees (trees (map tree_of v.1.items)) ∷ flat_trees (trees (map tree_of v.1.items)))

variants_more : (vs : List (ℕ × Vec TypeTree Global)) (v : ℕ × Vec TypeTree Global)
    → flat_variants (trees_of_variants (vs ++ v ∷ [])) ≡ flat_variants (trees_of_variants vs) ++ flat_one v
variants_more [] v = ap (λ l. flat_wide v.0 ++ (count_of_trees (trees (map tree_of v.1.items)) ∷ l)) (append-nil (flat_trees (trees (map tree_of v.1.items))))
variants_more (w ∷ vs) v =
    ap (λ l. flat_wide w.0 ++ (count_of_trees (trees (map tree_of w.1.items)) ∷ flat_trees (trees (map tree_of w.1.items)) ++ l)) (variants_more vs v)
    ∙ ap (λ l. flat_wide w.0 ++ (count_of_trees (trees (map tree_of w.1.items)) ∷ l))
    (sym (append_assoc (flat_trees (trees (map tree_of w.1.items))) (flat_variants (trees_of_variants vs)) (flat_one v)))

-- one variant more
pub variants_step : (old out new : List ℕ) (vs : List (ℕ × Vec TypeTree Global)) (i : ℕ) (v : ℕ × Vec TypeTree Global) → i < length vs → v ≡ get_or vs i v
    → out ≡ old ++ flat_variants (trees_of_variants (take i vs)) → new ≡ out ++ flat_one v
    → new ≡ old ++ flat_variants (trees_of_variants (take (i + 1) vs))
variants_step old out new vs i v less is before e =
    e ∙ ap (λ l. l ++ flat_one v) before ∙ append_assoc old (flat_variants (trees_of_variants (take i vs))) (flat_one v)
    ∙ ap (λ l. old ++ l)
    (
    sym (variants_more (take i vs) v) ∙ ap (λ w. flat_variants (trees_of_variants (take i vs ++ w ∷ []))) is
    ∙ ap (λ l. flat_variants (trees_of_variants l)) (sym (take_more vs i v less))
    )

variants_counted : (vs : List (ℕ × Vec TypeTree Global)) → length vs ≡ count_of_variants (trees_of_variants vs)
variants_counted [] = refl
variants_counted (v ∷ vs) = ap suc (variants_counted vs)

-- all variants behind their count
pub variants_end : (old pushed out : List ℕ) (vs : List (ℕ × Vec TypeTree Global)) (i : ℕ) → length vs ≤ i → pushed ≡ old ++ length vs ∷ []
    → out ≡ pushed ++ flat_variants (trees_of_variants (take i vs))
    → out ≡ old ++ (count_of_variants (trees_of_variants vs) ∷ flat_variants (trees_of_variants vs))
variants_end old pushed out vs i least first rest =
    rest ∙ ap (λ l. l ++ flat_variants (trees_of_variants (take i vs))) first ∙ append_assoc old (length vs ∷ []) (flat_variants (trees_of_variants (take i vs)))
    ∙ ap (λ l. old ++ (length vs ∷ flat_variants (trees_of_variants l))) (take_all i vs least) ∙ ap (λ k. old ++ (k ∷ flat_variants (trees_of_variants vs))) (variants_counted vs)

-- an enum's numbers are that it is one, what its repr asks for, and its variants
pub enum_end : (old kind out new : List ℕ) (repr : ReprOptions) (vs : List (ℕ × Vec TypeTree Global)) (t : Tree)
    → t ≡ enum repr (trees_of_variants vs) → kind ≡ old ++ 9 ∷ [] → out ≡ kind ++ flat_repr repr
    → new ≡ out ++ (count_of_variants (trees_of_variants vs) ∷ flat_variants (trees_of_variants vs)) → new ≡ old ++ flat_tree t
enum_end old kind out new repr vs t same first second last =
    let rest : List ℕ = count_of_variants (trees_of_variants vs) ∷ flat_variants (trees_of_variants vs) in
    last ∙ ap (λ l. l ++ rest) (second ∙ ap (λ l. l ++ flat_repr repr) first)
    ∙ append_assoc (old ++ 9 ∷ []) (flat_repr repr) rest ∙ append_assoc old (9 ∷ []) (flat_repr repr ++ rest) ∙ ap (λ u. old ++ flat_tree u) (sym same)
