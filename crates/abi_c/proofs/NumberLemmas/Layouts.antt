-- Lists as numbers, one item more.
use Rattle.std.proofs.Common.{Option, None, Some, arith, ltb, ◌≤◌, ◌≡◌, ℕ, ◌+◌, ◌<◌, ◌++◌, List, [], ◌∷◌, get_or, take, length, refl, ap, sym, ◌∙◌}
use Rattle.std.proofs.lemmas.List.{append-nil, append_assoc, take_more}
use Rattle.std.proofs.lemmas.Bool.{cond-false, cond-true, le-ltb, lt-ltb}
use Rattle.abi_tree.specs.Placed.{Placed, layout_of, size_of}
use Rattle.abi_scalar.specs.Layout.{Layout}
use Rattle.abi_tree.specs.Runs.{padding_of}
use Rattle.abi_scalar.specs.declared.variants.VariantLayout.{VariantLayout}
use Rattle.abi_c.specs.Numbers.FlatLayout.{flat_beside, flat_each_variant_layout, flat_head, flat_layout, flat_listed, flat_variant_layout, listed_padding, most_listed, with_runs}
use Rattle.abi_c.specs.Numbers.FlatTree.{flat_pairs}

pairs_more : (ps : List (ℕ × ℕ)) (p : ℕ × ℕ) → flat_pairs (ps ++ p ∷ []) ≡ flat_pairs ps ++ p.0 ∷ p.1 ∷ []
pairs_more [] p = refl
pairs_more (q ∷ ps) p = ap (λ l. q.0 ∷ q.1 ∷ l) (pairs_more ps p)

-- one pair more
pub pairs_step : (old out new : List ℕ) (ps : List (ℕ × ℕ)) (i : ℕ) (d : ℕ × ℕ) → i < length ps → out ≡ old ++ flat_pairs (take i ps)
    → new ≡ out ++ (get_or ps i d).0 ∷ (get_or ps i d).1 ∷ [] → new ≡ old ++ flat_pairs (take (i + 1) ps)
pairs_step old out new ps i d less before e =
    let p : ℕ × ℕ = get_or ps i d in
    e ∙ ap (λ l. l ++ p.0 ∷ p.1 ∷ []) before ∙ append_assoc old (flat_pairs (take i ps)) (p.0 ∷ p.1 ∷ [])
    ∙ ap (λ l. old ++ l) (sym (pairs_more (take i ps) p) ∙ ap flat_pairs (sym (take_more ps i d less)))

variants_more : (vs : List (VariantLayout ℕ)) (v : VariantLayout ℕ) → flat_each_variant_layout (vs ++ v ∷ []) ≡ flat_each_variant_layout vs ++ flat_variant_layout v
variants_more [] v = append-nil (flat_variant_layout v)
variants_more (w ∷ vs) v =
    ap (λ l. flat_variant_layout w ++ l) (variants_more vs v) ∙ sym (append_assoc (flat_variant_layout w) (flat_each_variant_layout vs) (flat_variant_layout v))

-- one variant more
pub variants_step : (old out new : List ℕ) (vs : List (VariantLayout ℕ)) (i : ℕ) (v : VariantLayout ℕ) → i < length vs → v ≡ get_or vs i v → out ≡ old ++ flat_each_variant_layout (take i vs)
    → new ≡ out ++ flat_variant_layout v → new ≡ old ++ flat_each_variant_layout (take (i + 1) vs)
variants_step old out new vs i v less is before e =
    e ∙ ap (λ l. l ++ flat_variant_layout v) before ∙ append_assoc old (flat_each_variant_layout (take i vs)) (flat_variant_layout v)
    ∙ ap (λ l. old ++ l)
    (sym (variants_more (take i vs) v) ∙ ap (λ w. flat_each_variant_layout (take i vs ++ w ∷ [])) is ∙ ap flat_each_variant_layout (sym (take_more vs i v less)))

-- a larger type's padding isn't listed
pub not_listed : (placed : Placed) (layout : Layout) (bytes : ℕ) → layout ≡ layout_of placed → bytes ≡ layout.size → 65536 < bytes → None ≡ listed_padding placed
not_listed placed layout bytes same is large =
    let size : bytes ≡ size_of placed = is ∙ ap (λ l. l.size) same in
    let more : most_listed < size_of placed = omega (arith, size, large) in
    sym (cond-true (ltb most_listed (size_of placed)) None (Some (padding_of placed)) (lt-ltb most_listed (size_of placed) more))

-- the runs of its padding are
pub are_listed : (placed : Placed) (layout : Layout) (bytes : ℕ) (runs : List (ℕ × ℕ)) → layout ≡ layout_of placed → bytes ≡ layout.size → bytes ≤ 65536 → runs ≡ padding_of placed → Some runs ≡ listed_padding placed
are_listed placed layout bytes runs same is small listed =
    let size : bytes ≡ size_of placed = is ∙ ap (λ l. l.size) same in
    let few : size_of placed ≤ most_listed = omega (arith, size, small) in
    ap Some listed ∙ sym (cond-false (ltb most_listed (size_of placed)) None (Some (padding_of placed)) (le-ltb most_listed (size_of placed) few))

-- head and lists are the whole
pub whole_layout : (placed : Placed) (layout : Layout) (runs : Option (List (ℕ × ℕ))) (first second third : List ℕ) → layout ≡ layout_of placed → runs ≡ listed_padding placed → first ≡ []
    → second ≡ first ++ flat_head layout → third ≡ second ++ with_runs runs (flat_listed layout.fields ++ flat_beside layout.variants) → third ≡ flat_layout placed
whole_layout placed layout runs first second third same listed none head lists =
    lists ∙ ap (λ l. l ++ with_runs runs (flat_listed layout.fields ++ flat_beside layout.variants)) (head ∙ ap (λ l. l ++ flat_head layout) none)
    ∙ ap (λ l. flat_head l ++ with_runs runs (flat_listed l.fields ++ flat_beside l.variants)) same
    ∙ ap (λ r. flat_head (layout_of placed) ++ with_runs r (flat_listed (layout_of placed).fields ++ flat_beside (layout_of placed).variants)) listed
