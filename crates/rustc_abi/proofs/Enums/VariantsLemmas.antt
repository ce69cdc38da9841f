-- How the fields of variants are laid out, variant by variant.
use Rattle.std.proofs.Common.{◌≡◌, ℕ, ◌+◌, ◌<◌, ◌≤◌, ◌++◌, List, [], ◌∷◌, map, length, take, get_or, arith, refl, sym, ap, subst, ◌∙◌, inl, inr, All, Ok}
use Rattle.std.specs.Prelude.{Vec}
use Rattle.std.specs.declared.alloc.Global.{Global}
use Rattle.std.proofs.lemmas.List.{length-map, map-append, take_more}
use Rattle.std.proofs.lemmas.List.Elements.{All-append, All-cons, All-nil, All-weaker}
use Rattle.abi_base.specs.declared.data_layout.TargetDataLayout.{TargetDataLayout}
use Rattle.abi_base.specs.DataLayout.{IsLawfulDataLayout}
use Rattle.abi_tree.specs.declared.node.Node.{Node}
use Rattle.abi_tree.specs.declared.tree.TypeTree.{TypeTree}
use Rattle.abi_tree.specs.Tree.{Tree, Variants, tree_of, trees, trees_of_variants}
use Rattle.abi_tree.specs.Placed.{Placed}
use Rattle.abi_tree.specs.Nodes.{types_in}
use Rattle.rustc_abi.specs.Enums.{discriminants_of}
use Rattle.rustc_abi.specs.Laying.{AreLaying, VariantsLaying}
use Rattle.abi_tree.specs.Well.{all_at}
use Rattle.rustc_abi.specs.Adding.{AreAdded, AreVariantsAdded, EachFits, IsAdded, VariantsFit, variants_in}
use Rattle.rustc_abi.proofs.Enums.TaggedVariantNodesLemmas.{variants_in-kept}
use Rattle.rustc_abi.proofs.Trees.LaidLemmas.{numbers_for}
use Rattle.abi_tree.proofs.Meaning.NodesLemmas.{Keeps-trans, length-types_in}

abbrev Fields : Type 0
Fields = ℕ × Vec TypeTree Global

-- one variant more is laid out
laying-push : (dl : TargetDataLayout) (all : List Fields) (out : List (List Placed)) (v : Fields) (ps : List Placed) → VariantsLaying dl (trees_of_variants all) (Ok out) →
    AreLaying dl (trees (map tree_of v.1.items)) (Ok ps) → VariantsLaying dl (trees_of_variants (all ++ v ∷ [])) (Ok (out ++ ps ∷ []))
laying-push dl [] out v ps before here =
    let none : [] ≡ out = cc in
    subst (λ qs. VariantsLaying dl (trees_of_variants (v ∷ [])) (Ok (qs ++ ps ∷ []))) none (inr (ps, here, inr ([], refl, refl)))
laying-push dl (w ∷ all) out v ps (inl f) here = absurd (cc f.2)
laying-push dl (w ∷ all) out v ps (inr (qs, first, inl f)) here = absurd (cc f.2)
laying-push dl (w ∷ all) out v ps (inr (qs, first, inr (rest, later, e))) here =
    let same : qs ∷ rest ≡ out = cc in
    subst (λ xs. VariantsLaying dl (trees_of_variants ((w ∷ all) ++ v ∷ [])) (Ok (xs ++ ps ∷ []))) same
    (inr (qs, first, inr (rest ++ ps ∷ [], laying-push dl all rest v ps later here, refl)))

fit-push : (dl : TargetDataLayout) (all : List Fields) (out : List (List Placed)) (v : Fields) (ps : List Placed) → VariantsFit dl (trees_of_variants all) out → EachFits dl (trees (map tree_of v.1.items)) ps →
    VariantsFit dl (trees_of_variants (all ++ v ∷ [])) (out ++ ps ∷ [])
fit-push dl [] [] v ps h fits = (fits, tt)
fit-push dl [] (qs ∷ out) v ps h fits = absurd h
fit-push dl (w ∷ all) [] v ps h fits = absurd h
fit-push dl (w ∷ all) (qs ∷ out) v ps h fits = (h.0, fit-push dl all out v ps h.1 fits)

-- before any variant
pub AreVariantsAdded-none : (dl : TargetDataLayout) (ns : List Node) → AreVariantsAdded dl ns ns [] (trees_of_variants [])
AreVariantsAdded-none dl ns = record {
  kept = record { longer = omega arith; same = λ i lt. refl };
  well = λ h. h;
  there = All-nil (λ fields. All (λ child. child < length ns) fields.items);
  exact = refl;
  fits = tt;
}

-- the same trees, read from the variant
read_as : (dl : TargetDataLayout) (first new : List Node) (children : List ℕ) (xs ys : List TypeTree) → xs ≡ ys → AreAdded dl first new children (map tree_of xs) → AreAdded dl first new children (map tree_of ys)
read_as dl first new children xs ys same h = subst (λ ts. AreAdded dl first new children (map tree_of ts)) same h

-- one variant more
pub AreVariantsAdded-more : (dl : TargetDataLayout) (first old new : List Node) (children : List (Vec ℕ Global)) (fields : Vec ℕ Global) (all : List Fields) (i : ℕ) (v : Fields) (lent : List TypeTree) → i < length all →
    v ≡ get_or all i v → lent ≡ v.1.items → AreVariantsAdded dl first old children (trees_of_variants (take i all)) → AreAdded dl old new fields.items (map tree_of lent) →
    AreVariantsAdded dl first new (children ++ fields ∷ []) (trees_of_variants (take (i + 1) all))
AreVariantsAdded-more dl first old new children fields all i v lent short at read h later =
    let added = read_as dl old new fields.items lent v.1.items read later in
    let Q : Vec ℕ Global → Type 0 = λ cs. All (λ child. child < length new) cs.items in
    let whole : take (i + 1) all ≡ take i all ++ v ∷ [] = take_more all i v short ∙ ap (λ x. take i all ++ x ∷ []) (sym at) in
    let same : variants_in new children ≡ variants_in old children = variants_in-kept old new added.kept children h.there in
    let longer : length old ≤ length new = omega (arith, added.kept.longer, length-types_in old, length-types_in new) in
    let more : variants_in new (children ++ fields ∷ []) ≡ variants_in old children ++ all_at new fields.items ∷ [] =
    map-append (λ cs. all_at new cs.items) children (fields ∷ []) ∙ ap (λ vs. vs ++ all_at new fields.items ∷ []) same in
    let exact : VariantsLaying dl (trees_of_variants (take i all ++ v ∷ [])) (Ok (variants_in old children ++ all_at new fields.items ∷ [])) =
    laying-push dl (take i all) (variants_in old children) v (all_at new fields.items) h.exact added.exact in
    let fits : VariantsFit dl (trees_of_variants (take i all ++ v ∷ [])) (variants_in old children ++ all_at new fields.items ∷ []) =
    fit-push dl (take i all) (variants_in old children) v (all_at new fields.items) h.fits added.fits in
    subst (λ vs. AreVariantsAdded dl first new (children ++ fields ∷ []) (trees_of_variants vs)) (sym whole) (record {
      kept = Keeps-trans (types_in first) (types_in old) (types_in new) h.kept added.kept;
      well = λ good. added.well (h.well good);
      there =
          All-append Q children (fields ∷ [])
          (All-weaker (λ cs. All (λ child. child < length old) cs.items) Q (λ cs below. All-weaker (λ child. child < length old) (λ child. child < length new) (λ child lt. omega (arith, lt, longer)) cs.items below) children h.there)
          (All-cons Q fields [] added.there (All-nil Q));
      exact = subst (λ vs. VariantsLaying dl (trees_of_variants (take i all ++ v ∷ [])) (Ok vs)) (sym more) exact;
      fits = subst (VariantsFit dl (trees_of_variants (take i all ++ v ∷ []))) (sym more) fits;
    })

-- a node behind several variants' types
pub AreVariantsAdded-after : (dl : TargetDataLayout) (first old new : List Node) (children : List (Vec ℕ Global)) (all : Variants) (j : ℕ) (u : Tree) → AreVariantsAdded dl first old children all →
    IsAdded dl old new j u → IsAdded dl first new j u
AreVariantsAdded-after dl first old new children all j u before added = record {
  kept = Keeps-trans (types_in first) (types_in old) (types_in new) before.kept added.kept;
  well = λ h. added.well (before.well h);
  last = added.last;
  exact = added.exact;
  fits = added.fits;
}

-- there is a discriminant for each list of nodes
pub numbers_of_nodes : (dl : TargetDataLayout) → IsLawfulDataLayout dl → (first new : List Node) (children : List (Vec ℕ Global)) (all : Variants) → AreVariantsAdded dl first new children all →
    length (discriminants_of all) ≡ length children
numbers_of_nodes dl law first new children all h = numbers_for dl law all (variants_in new children) h.exact ∙ length-map children (λ cs. all_at new cs.items)
