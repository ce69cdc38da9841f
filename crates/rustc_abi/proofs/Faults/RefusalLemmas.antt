-- Which refusal is a tree's: that of the first type without a layout.
use Rattle.std.proofs.Common.{◌≡◌, ℕ, ◌+◌, ◌<◌, List, [], ◌∷◌, ◌++◌, length, map, get_or, take, drop, Vec, Result, Ok, refl, sym, ap, ◌∙◌, subst, inl, inr, append_assoc}
use Rattle.std.specs.declared.alloc.Global.{Global}
use Rattle.std.proofs.lemmas.List.{map-append, take_more, take-append-drop}
use Rattle.abi_base.specs.declared.data_layout.TargetDataLayout.{TargetDataLayout}
use Rattle.abi_scalar.specs.declared.repr.ReprOptions.{ReprOptions}
use Rattle.rustc_abi.specs.declared.error.LayError.{LayError}
use Rattle.abi_tree.specs.declared.tree.TypeTree.{TypeTree}
use Rattle.abi_tree.specs.Tree.{Variants, enum, tree_of, trees, trees_of_variants}
use Rattle.abi_tree.specs.Placed.{Placed}
use Rattle.rustc_abi.specs.Error.{IsRefused}
use Rattle.rustc_abi.specs.Laying.{IsLaying, AreLaying, VariantsLaying}
use Rattle.rustc_abi.proofs.Trees.LayLemmas.{laying-refused}

-- a list as what comes before a place, the item there, and the rest
split_at : {X : Type 0} (xs : List X) (i : ℕ) (x : X) → i < length xs → x ≡ get_or xs i x → take i xs ++ x ∷ drop (i + 1) xs ≡ xs
split_at xs i x lt at =
    let more : take (i + 1) xs ≡ take i xs ++ x ∷ [] = take_more xs i x lt ∙ ap (λ y. take i xs ++ y ∷ []) (sym at) in
    sym (append_assoc (take i xs) (x ∷ []) (drop (i + 1) xs)) ∙ ap (λ before. before ++ drop (i + 1) xs) (sym more) ∙ take-append-drop (i + 1) xs

pub each_refused : (dl : TargetDataLayout) (ts : List TypeTree) (i : ℕ) (t : TypeTree) (ps : List Placed) (e : LayError) → i < length ts → t ≡ get_or ts i t →
    AreLaying dl (trees (map tree_of (take i ts))) (Ok ps) → IsRefused (IsLaying dl (tree_of t)) e → IsRefused (AreLaying dl (trees (map tree_of ts))) e
each_refused dl ts i t ps e lt at before here =
    let whole : map tree_of (take i ts) ++ tree_of t ∷ map tree_of (drop (i + 1) ts) ≡ map tree_of ts =
    sym (map-append tree_of (take i ts) (t ∷ drop (i + 1) ts)) ∙ ap (map tree_of) (split_at ts i t lt at) in
    subst (λ all. IsRefused (AreLaying dl (trees all)) e) whole
    (laying-refused dl (map tree_of (take i ts)) ps (tree_of t) (map tree_of (drop (i + 1) ts)) e before here)

abbrev Fields : Type 0
Fields = ℕ × Vec TypeTree Global

module _ (dl : TargetDataLayout) where
  abbrev Of : Fields → Result (List Placed) LayError → Type 0
  Of v r = AreLaying dl (trees (map tree_of v.1.items)) r

  abbrev All : List Fields → Result (List (List Placed)) LayError → Type 0
  All vs r = VariantsLaying dl (trees_of_variants vs) r

  both : (v : Fields) (vs : List Fields) (out : List (List Placed)) → All (v ∷ vs) (Ok out) →
      (ps : List Placed) × (rest : List (List Placed)) × Of v (Ok ps) × All vs (Ok rest)
  both v vs out (inl h) = absurd (cc h.2)
  both v vs out (inr (ps, here, inl h)) = absurd (cc h.2)
  both v vs out (inr (ps, here, inr (rest, later, e))) = (ps, rest, here, later)

  refused_later : (v : Fields) (vs : List Fields) (ps : List Placed) (e : LayError) → Of v (Ok ps) → IsRefused (All vs) e → IsRefused (All (v ∷ vs)) e
  refused_later v vs ps e here (inl memory) = inl memory
  refused_later v vs ps e here (inr f) = inr (inr (ps, here, inl (e, f, refl)))

  variants-refused : (before : List Fields) (v : Fields) (rest : List Fields) (out : List (List Placed)) (e : LayError) →
      All before (Ok out) → IsRefused (Of v) e → IsRefused (All (before ++ v ∷ rest)) e
  variants-refused before v rest out e laid (inl memory) = inl memory
  variants-refused [] v rest out e laid (inr f) = inr (inl (e, f, refl))
  variants-refused (w ∷ before) v rest out e laid (inr f) =
      let parts = both w before out laid in
      refused_later w (before ++ v ∷ rest) parts.0 e parts.2 (variants-refused before v rest parts.1 e parts.3 (inr f))

  variants-push : (before : List Fields) (v : Fields) (out : List (List Placed)) (ps : List Placed) → All before (Ok out) → Of v (Ok ps) →
      (more : List (List Placed)) × All (before ++ v ∷ []) (Ok more)
  variants-push [] v out ps laid here = (ps ∷ [], inr (ps, here, inr ([], refl, refl)))
  variants-push (w ∷ before) v out ps laid here =
      let parts = both w before out laid in
      let more = variants-push before v parts.1 ps parts.3 here in
      (parts.0 ∷ more.0, inr (parts.0, parts.2, inr (more.0, more.1, refl)))

-- equal trees have equal answers
pub laying_as : (dl : TargetDataLayout) (xs ys : List TypeTree) (r : Result (List Placed) LayError) → xs ≡ ys → AreLaying dl (trees (map tree_of xs)) r → AreLaying dl (trees (map tree_of ys)) r
laying_as dl xs ys r same h = subst (λ ts. AreLaying dl (trees (map tree_of ts)) r) same h

pub variants_refused : (dl : TargetDataLayout) (all : List Fields) (i : ℕ) (v : Fields) (out : List (List Placed)) (e : LayError) → i < length all → v ≡ get_or all i v →
    VariantsLaying dl (trees_of_variants (take i all)) (Ok out) → IsRefused (AreLaying dl (trees (map tree_of v.1.items))) e →
    IsRefused (VariantsLaying dl (trees_of_variants all)) e
variants_refused dl all i v out e lt at before here =
    subst (λ all. IsRefused (VariantsLaying dl (trees_of_variants all)) e) (split_at all i v lt at) (variants-refused dl (take i all) v (drop (i + 1) all) out e before here)

pub variants_more : (dl : TargetDataLayout) (all : List Fields) (i : ℕ) (v : Fields) (out : List (List Placed)) (ps : List Placed) → i < length all → v ≡ get_or all i v →
    VariantsLaying dl (trees_of_variants (take i all)) (Ok out) → AreLaying dl (trees (map tree_of v.1.items)) (Ok ps) →
    (more : List (List Placed)) × VariantsLaying dl (trees_of_variants (take (i + 1) all)) (Ok more)
variants_more dl all i v out ps lt at before here =
    let pushed = variants-push dl (take i all) v out ps before here in
    let same : take i all ++ v ∷ [] ≡ take (i + 1) all = sym (take_more all i v lt ∙ ap (λ x. take i all ++ x ∷ []) (sym at)) in
    (pushed.0, subst (λ vs. VariantsLaying dl (trees_of_variants vs) (Ok pushed.0)) same pushed.1)

pub enum_refused : (dl : TargetDataLayout) (repr : ReprOptions) (all : Variants) (e : LayError) → IsRefused (VariantsLaying dl all) e → IsRefused (IsLaying dl (enum repr all)) e
enum_refused dl repr all e (inl memory) = inl memory
enum_refused dl repr all e (inr f) = inr (inl (e, f, refl))
