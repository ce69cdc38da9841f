-- How coroutines are laid out, once their prefix fields and their locals are.
use Rattle.std.proofs.Common.{◌≡◌, ℕ, ◌+◌, ◌<◌, ◌≤◌, ◌∙◌, suc, List, [], ◌∷◌, ◌++◌, Ok, None, Some, All, inl, inr, length, map, arith, refl, sym, ap, ap₂, subst}
use Rattle.std.specs.Prelude.{Bool}
use Rattle.std.specs.List.{list_any}
use Rattle.std.proofs.lemmas.List.{length-map}
use Rattle.std.proofs.lemmas.List.Elements.{All-head, All-tail, All-weaker}
use Rattle.abi_base.specs.declared.data_layout.TargetDataLayout.{TargetDataLayout}
use Rattle.abi_base.specs.declared.struct_kind.StructKind.{StructKind}
use Rattle.abi_base.specs.DataLayout.{IsLawfulDataLayout}
use Rattle.abi_index.specs.BitSet.{members_of}
use Rattle.abi_scalar.specs.declared.scalar.Scalar.{Scalar}
use Rattle.abi_scalar.specs.declared.variants.VariantLayout.{VariantLayout}
use Rattle.abi_scalar.specs.Lawful.{IsLawfulLayout}
use Rattle.abi_scalar.specs.Scalar.{scalar_size}
use Rattle.abi_scalar.specs.Shape.{listed_offsets}
use Rattle.abi_scalar.specs.Variant.{variants_of}
use Rattle.abi_calc.specs.Coroutine.Clash.{AreStatesApart, IsDistinguishedByState}
use Rattle.abi_calc.specs.Coroutine.Layout.{IsStateTag}
use Rattle.abi_calc.specs.Coroutine.Lists.{AreOwnLists, state_list_kind, own_of}
use Rattle.abi_calc.specs.Coroutine.Promotion.{promoted_of}
use Rattle.abi_calc.proofs.CoroutineLemmas.Promised.{IsAsked, map_first, map_picked}
use Rattle.abi_calc.proofs.CoroutineLemmas.Deep.{coroutine_promised, coroutine_told}
use Rattle.rustc_abi.specs.declared.error.LayError.{LayError}
use Rattle.abi_tree.specs.declared.node.Node.{Node}
use Rattle.abi_tree.specs.Tree.{Tree, Trees, coroutine, trees}
use Rattle.abi_tree.specs.Placed.{Placed, layout_of, size_of}
use Rattle.abi_scalar.specs.Layout.{Layout}
use Rattle.abi_tree.specs.Fits.{Fits}
use Rattle.abi_tree.specs.Nodes.{placed_in, types_in}
use Rattle.rustc_abi.specs.Coroutines.{IsCoroutined, conflicts_of}
use Rattle.rustc_abi.specs.Error.{IsRefused}
use Rattle.rustc_abi.specs.Laying.{AreLaying, IsCoroutineOf, IsLaying, coroutine_fault, one_scalar, placed_coroutine}
use Rattle.abi_tree.specs.Well.{IsPut, all_at}
use Rattle.rustc_abi.specs.Adding.{AreAdded, EachFits, IsAdded}
use Rattle.rustc_abi.proofs.Faults.CoroutineFaultLemmas.{conflict_rows, some_state, states_once, states_within}
use Rattle.rustc_abi.proofs.Coroutines.CoroutineLemmas.{Fits-states, IsStatesLayout}
use Rattle.rustc_abi.proofs.Trees.LayLemmas.{IsAdded-put, all_at-kept}
use Rattle.rustc_abi.proofs.Trees.ListLemmas.{map_sizes}
use Rattle.abi_tree.proofs.Meaning.NodesLemmas.{Keeps-trans, length-types_in}
use Rattle.rustc_abi.proofs.Coroutines.StateFlagLemmas.{HaveOwnFlags, IsFlaggedBy, flagged_by, sizes_picked}
use Rattle.rustc_abi.proofs.Coroutines.StatePlacesLemmas.{EachStateApart}

-- ---- what the calculator lays apart

-- the states' locals are those types
states_apart : (size : ℕ) (offsets sizes : List ℕ) (ps : List Placed) (all : List (List ℕ)) (layouts : List (VariantLayout ℕ)) → All (All (λ k. k < length ps)) all →
    AreStatesApart size offsets sizes (map layout_of ps) all layouts → EachStateApart size offsets sizes ps all layouts
states_apart size offsets sizes ps [] [] known h = tt
states_apart size offsets sizes ps [] (l ∷ layouts) known h = absurd h
states_apart size offsets sizes ps (ks ∷ all) [] known h = absurd h
states_apart size offsets sizes ps (ks ∷ all) (l ∷ layouts) known h = (
  rw (sizes_picked ps ks (All-head (All (λ k. k < length ps)) ks all known)) at h.0,
  states_apart size offsets sizes ps all layouts (All-tail (All (λ k. k < length ps)) ks all known) h.1,
)

-- there is a layout for each state
states_count : (size : ℕ) (offsets sizes : List ℕ) (locals : List Layout) (all : List (List ℕ)) (layouts : List (VariantLayout ℕ)) → AreStatesApart size offsets sizes locals all layouts → length layouts ≡ length all
states_count size offsets sizes locals [] [] h = refl
states_count size offsets sizes locals [] (l ∷ layouts) h = absurd h
states_count size offsets sizes locals (ks ∷ all) [] h = absurd h
states_count size offsets sizes locals (ks ∷ all) (l ∷ layouts) h = ap (λ n. suc n) (states_count size offsets sizes locals all layouts h.1)

-- each state's list is flagged where one of its locals is
own_flags : (dl : TargetDataLayout) (kind : StructKind) (ps : List Placed) (promoted : List Bool) (all : List (List ℕ)) (lists : List Layout) → AreOwnLists layout_of (λ i. i) 0 dl kind ps promoted all lists →
    HaveOwnFlags (map layout_of ps) (map (own_of promoted) all) lists
own_flags dl kind ps promoted [] [] h = tt
own_flags dl kind ps promoted [] (l ∷ lists) h = absurd h
own_flags dl kind ps promoted (state ∷ all) [] h = absurd h
own_flags dl kind ps promoted (state ∷ all) (l ∷ lists) h = (
  h.0.2.uninhabited ∙ ap (list_any (λ (f : Layout). f.uninhabited)) (map_picked layout_of ps (own_of promoted state)),
  own_flags dl kind ps promoted all lists h.1,
)

own_count : (dl : TargetDataLayout) (kind : StructKind) (ps : List Placed) (promoted : List Bool) (all : List (List ℕ)) (lists : List Layout) → AreOwnLists layout_of (λ i. i) 0 dl kind ps promoted all lists →
    length lists ≡ length all
own_count dl kind ps promoted [] [] h = refl
own_count dl kind ps promoted [] (l ∷ lists) h = absurd h
own_count dl kind ps promoted (state ∷ all) [] h = absurd h
own_count dl kind ps promoted (state ∷ all) (l ∷ lists) h = ap (λ n. suc n) (own_count dl kind ps promoted all lists h.1)

-- ---- the whole

module _ (dl : TargetDataLayout) (law : IsLawfulDataLayout dl) (pres ps : List Placed) (all : List (List ℕ)) (pairs : List (ℕ × ℕ)) (tag : Scalar)
    (none : coroutine_fault (length pres) (length ps) all pairs ≡ None) (is_state_tag : IsStateTag (length all) tag)
    (before : All (λ p. IsLawfulLayout dl (layout_of p)) pres) (there : All (λ p. IsLawfulLayout dl (layout_of p)) ps) where
  abbrev asked : IsAsked layout_of 0 dl pres tag (one_scalar dl tag) ps all
  asked = record { law = law; before = before; all = there; is_state_tag = is_state_tag; holds = refl }

  abbrev promoted : List Bool
  promoted = promoted_of all (conflicts_of (length ps) pairs)

  within : All (All (λ k. k < length ps)) all
  within = states_within (length pres) (length ps) all pairs none

  module _ (layout : Layout) (laid : IsCoroutined dl pres tag (one_scalar dl tag) ps all pairs (Ok layout)) where
    tag_distinguishes : IsDistinguishedByState dl (λ i. i) (map layout_of pres) (map layout_of ps) all layout
    tag_distinguishes =
        coroutine_told layout_of dl pres tag (one_scalar dl tag) ps all (conflicts_of (length ps) pairs) asked within (conflict_rows (length ps) pairs)
        (states_once (length pres) (length ps) all pairs none) layout laid

    same_tag : tag_distinguishes.tag ≡ tag
    same_tag = let is : layout.variants ≡ _ = ap (λ l. l.variants) laid.5 in let also = tag_distinguishes.tag_distinguishes in cc

    -- it has as many states
    pub coroutine_variants : length (variants_of layout.variants) ≡ length all
    coroutine_variants =
        ap (λ variants. length (variants_of variants)) tag_distinguishes.tag_distinguishes
        ∙ states_count layout.size tag_distinguishes.offsets (map (λ (f : Layout). f.size) (map layout_of pres) ++ scalar_size dl tag_distinguishes.tag ∷ []) (map layout_of ps) all tag_distinguishes.layouts tag_distinguishes.apart

    pub coroutine_flag : IsFlaggedBy (map layout_of pres) (map layout_of ps) layout.uninhabited
    coroutine_flag =
        let first = laid.1 in
        let count = own_count dl (state_list_kind laid.0) ps promoted all laid.2 laid.3 in
        subst (IsFlaggedBy (map layout_of pres) (map layout_of ps)) (sym (ap (λ l. l.uninhabited) laid.5))
        (flagged_by (map layout_of pres) (layout_of (one_scalar dl tag)) (map layout_of ps) (members_of promoted) (map (own_of promoted) all) laid.2 laid.0.uninhabited refl
        (first.2.uninhabited ∙ ap (list_any (λ (f : Layout). f.uninhabited)) (map_first layout_of pres (one_scalar dl tag) ps promoted))
        (omega (arith, count, some_state (length pres) (length ps) all pairs none))
        (own_flags dl (state_list_kind laid.0) ps promoted all laid.2 laid.3))

    states_laid : IsStatesLayout dl pres ps all layout tag_distinguishes.offsets tag tag_distinguishes.layouts
    states_laid = record {
      some = some_state (length pres) (length ps) all pairs none;
      known = within;
      long = tag_distinguishes.count ∙ ap (λ n. n + 1) (length-map pres layout_of);
      apart = states_apart layout.size tag_distinguishes.offsets (map size_of pres ++ scalar_size dl tag ∷ []) ps all tag_distinguishes.layouts within
          (subst (λ sizes. AreStatesApart layout.size tag_distinguishes.offsets (sizes ++ scalar_size dl tag ∷ []) (map layout_of ps) all tag_distinguishes.layouts) (sym (map_sizes layout_of pres))
          (subst (λ t. AreStatesApart layout.size tag_distinguishes.offsets (map (λ (f : Layout). f.size) (map layout_of pres) ++ scalar_size dl t ∷ []) (map layout_of ps) all tag_distinguishes.layouts) same_tag tag_distinguishes.apart));
      numbers = rw same_tag at tag_distinguishes.numbers;
      lawful = (coroutine_promised layout_of dl pres tag (one_scalar dl tag) ps all (conflicts_of (length ps) pairs) asked (Ok layout) laid).lawful;
      view = ap (λ l. l.backend_repr) laid.5;
      niche = ap (λ l. l.largest_niche) laid.5;
      flag = coroutine_flag;
    }

    -- a coroutine that is laid out keeps its values
    coroutine_fits : (prefix_trees locals : Trees) → EachFits dl prefix_trees pres → EachFits dl locals ps → Fits dl (coroutine prefix_trees locals all pairs) (placed_coroutine dl pres tag ps all layout)
    coroutine_fits prefix_trees locals first own =
        let offsets : listed_offsets layout.fields ≡ tag_distinguishes.offsets = ap listed_offsets tag_distinguishes.fields in
        let layouts : variants_of layout.variants ≡ tag_distinguishes.layouts = ap variants_of tag_distinguishes.tag_distinguishes in
        rw (offsets, layouts) (Fits-states dl prefix_trees locals pres ps all pairs layout tag_distinguishes.offsets tag tag_distinguishes.layouts states_laid first own)

    -- a coroutine's layout
    pub IsAdded-coroutine : (old new : List Node) (i : ℕ) (prefix_trees locals : Trees) → IsPut old new i (placed_coroutine dl pres tag ps all layout) → AreLaying dl prefix_trees (Ok pres) →
        AreLaying dl locals (Ok ps) → EachFits dl prefix_trees pres → EachFits dl locals ps → IsAdded dl old new i (coroutine prefix_trees locals all pairs)
    IsAdded-coroutine old new i prefix_trees locals put first own fits fit =
        let answer : IsCoroutineOf dl pres ps all pairs (Ok (placed_coroutine dl pres tag ps all layout)) = rw none (tag, is_state_tag, inr (layout, laid, refl)) in
        IsAdded-put dl old new i (placed_coroutine dl pres tag ps all layout) (coroutine prefix_trees locals all pairs) put (inr (pres, first, inr (ps, own, answer)))
        (coroutine_fits prefix_trees locals fits fit)

  -- the calculator's refusal is the coroutine's
  pub coroutine_refused : (e : LayError) → IsRefused (IsCoroutined dl pres tag (one_scalar dl tag) ps all pairs) e → IsRefused (IsCoroutineOf dl pres ps all pairs) e
  coroutine_refused e (inl memory) = inl memory
  coroutine_refused e (inr refused) = inr (rw none (tag, is_state_tag, inl (e, refused, refl)))

-- an own fault is the coroutine's refusal
pub own_coroutine_fault : (dl : TargetDataLayout) (pres ps : List Placed) (all : List (List ℕ)) (pairs : List (ℕ × ℕ)) (e : LayError) → coroutine_fault (length pres) (length ps) all pairs ≡ Some e →
    IsRefused (IsCoroutineOf dl pres ps all pairs) e
own_coroutine_fault dl pres ps all pairs e fault = inr (rw fault refl)

-- as many layouts are lent as there are nodes
pub lent_count : {H : Type 0} (f : H → Layout) (hs : List H) (ns : List Node) (children : List ℕ) → map f hs ≡ map layout_of (all_at ns children) → length hs ≡ length children
lent_count f hs ns children same = sym (length-map hs f) ∙ ap length same ∙ length-map (all_at ns children) layout_of ∙ length-map children (placed_in (types_in ns))

-- the own fault of a coroutine is given by how many nodes there are
pub fault_of_nodes : (ns : List Node) (prefix locals : List ℕ) (all : List (List ℕ)) (pairs : List (ℕ × ℕ)) →
    coroutine_fault (length (all_at ns prefix)) (length (all_at ns locals)) all pairs ≡ coroutine_fault (length prefix) (length locals) all pairs
fault_of_nodes ns prefix locals all pairs =
    ap₂ (λ n m. coroutine_fault n m all pairs) (length-map prefix (placed_in (types_in ns))) (length-map locals (placed_in (types_in ns)))

-- nodes that were put are there after those that were put later
pub AreAdded-later : (dl : TargetDataLayout) (old mid new : List Node) (children others : List ℕ) (ts us : List Tree) → AreAdded dl old mid children ts → AreAdded dl mid new others us → AreAdded dl old new children ts
AreAdded-later dl old mid new children others ts us first second =
    let same : all_at new children ≡ all_at mid children = all_at-kept mid new second.kept children first.there in
    let longer : length mid ≤ length new = omega (arith, second.kept.longer, length-types_in mid, length-types_in new) in
    record {
      kept = Keeps-trans (types_in old) (types_in mid) (types_in new) first.kept second.kept;
      well = λ h. second.well (first.well h);
      there = All-weaker (λ child. child < length mid) (λ child. child < length new) (λ child low. omega (arith, low, longer)) children first.there;
      exact = subst (λ ps. AreLaying dl (trees ts) (Ok ps)) (sym same) first.exact;
      fits = subst (EachFits dl (trees ts)) (sym same) first.fits;
    }

-- the coroutine's refusal is the tree's
pub coroutine_tree_refused : (dl : TargetDataLayout) (prefix_trees locals : Trees) (all : List (List ℕ)) (pairs : List (ℕ × ℕ)) (pres ps : List Placed) (e : LayError) → AreLaying dl prefix_trees (Ok pres) →
    AreLaying dl locals (Ok ps) → IsRefused (IsCoroutineOf dl pres ps all pairs) e → IsRefused (IsLaying dl (coroutine prefix_trees locals all pairs)) e
coroutine_tree_refused dl prefix_trees locals all pairs pres ps e first own (inl memory) = inl memory
coroutine_tree_refused dl prefix_trees locals all pairs pres ps e first own (inr f) = inr (inr (pres, first, inr (ps, own, f)))
