-- What follows of each type in one from what holds of it, and what holds of each from two facts that do.
use Rattle.std.proofs.Common.{◌≡◌, ℕ, zero, suc, List, [], ◌∷◌, length, map, sym, ap₂, ◌∙◌, subst, arith, inl, inr, Ok, Err, Result}
use Rattle.std.specs.Prelude.{IfOk}
use Rattle.std.proofs.lemmas.List.{length-map}
use Rattle.abi_base.specs.declared.data_layout.TargetDataLayout.{TargetDataLayout}
use Rattle.abi_base.specs.DataLayout.{IsLawfulDataLayout}
use Rattle.abi_scalar.specs.Lawful.{IsLawfulLayout}
use Rattle.abi_tree.specs.declared.laid.Laid.{Laid}
use Rattle.abi_tree.specs.Laid.{placed_of}
use Rattle.abi_tree.specs.Nodes.{parts_at, parts_at_0}
use Rattle.abi_tree.specs.Placed.{Placed, Parts, TaggedVariants, nothing_tagged, tagged_variant, element_of, first_part, layout_of, more_parts, parts_in, scalar as one_number, pair as two, never as nowhere, elements, vector as lanes_of, fields, union as together, single, tagged, states as in_states}
use Rattle.abi_tree.specs.Tree.{Tree, Trees, no_trees, more_trees, Variants, no_variants, more_variants, array, vector, struct, union, enum, coroutine}
use Rattle.rustc_abi.specs.declared.error.LayError.{LayError}
use Rattle.rustc_abi.specs.Everywhere.{ByThemselves, Everywhere, OfAbsent, OfTaggedVariants, OfEach, OfVariant, Within}
use Rattle.rustc_abi.specs.Laying.{AreLaying, IsLaying}
use Rattle.rustc_abi.specs.Lists.{HasLeastLists}
use Rattle.rustc_abi.specs.Orders.{LiesAsAsked}

-- ---- from one fact to another

module _ (dl : TargetDataLayout) (P Q : Tree → Placed → Type 0) (each : (t : Tree) (p : Placed) → P t p → Within dl P t p → Q t p) where
  mutual
    within : (t : Tree) (p : Placed) → Within dl P t p → Within dl Q t p
    within (array count element) p h = (each element (element_of p) h.0 h.1, within element (element_of p) h.1)
    within (vector lanes packed element) p h =
        (each element (element_of (element_of p)) h.0 h.1, within element (element_of (element_of p)) h.1)
    within (struct repr always_sized order all) p h = of_each all (parts_in p) h
    within (union repr all) p h = of_each all (parts_in p) h
    within (enum repr all) (nowhere layout mark) h = of_absent all h
    within (enum repr all) (single layout mark index parts) h = of_variant all index parts h
    within (enum repr all) (tagged layout mark offset tag encoding tagged_variants) h = of_tagged_variants all tagged_variants h
    within (enum repr all) (one_number layout s) h = absurd h
    within (enum repr all) (two layout parts) h = absurd h
    within (enum repr all) (elements layout count element) h = absurd h
    within (enum repr all) (lanes_of layout lanes) h = absurd h
    within (enum repr all) (fields layout mark parts) h = absurd h
    within (enum repr all) (together layout mark parts) h = absurd h
    within (enum repr all) (in_states layout prefix offset tag tagged_variants) h = absurd h
    within (coroutine prefix locals all conflicts) (in_states layout pre offset tag tagged_variants) h =
        (of_each prefix pre h.0, (h.1.0, h.1.1, of_each locals (parts_at_0 h.1.0) h.1.2, h.1.3))
    within (coroutine prefix locals all conflicts) (nowhere layout mark) h = absurd h
    within (coroutine prefix locals all conflicts) (single layout mark index parts) h = absurd h
    within (coroutine prefix locals all conflicts) (tagged layout mark offset tag encoding tagged_variants) h = absurd h
    within (coroutine prefix locals all conflicts) (one_number layout s) h = absurd h
    within (coroutine prefix locals all conflicts) (two layout parts) h = absurd h
    within (coroutine prefix locals all conflicts) (elements layout count element) h = absurd h
    within (coroutine prefix locals all conflicts) (lanes_of layout lanes) h = absurd h
    within (coroutine prefix locals all conflicts) (fields layout mark parts) h = absurd h
    within (coroutine prefix locals all conflicts) (together layout mark parts) h = absurd h
    within _ p h = tt

    of_each : (ts : Trees) (parts : Parts) → OfEach dl P ts parts → OfEach dl Q ts parts
    of_each no_trees parts h = tt
    of_each (more_trees t ts) parts h =
        ((each t (first_part parts) h.0.0 h.0.1, within t (first_part parts) h.0.1), of_each ts (more_parts parts) h.1)

    of_absent : (all : Variants) → OfAbsent dl P all → OfAbsent dl Q all
    of_absent no_variants h = tt
    of_absent (more_variants d ts others) h = ((h.0.0, h.0.1, of_each ts (parts_at_0 h.0.0) h.0.2), of_absent others h.1)

    of_variant : (all : Variants) (i : ℕ) (parts : Parts) → OfVariant dl P all i parts → OfVariant dl Q all i parts
    of_variant no_variants i parts h = absurd h
    of_variant (more_variants d ts others) zero parts h = (of_each ts parts h.0, of_absent others h.1)
    of_variant (more_variants d ts others) (suc i) parts h =
        ((h.0.0, h.0.1, of_each ts (parts_at_0 h.0.0) h.0.2), of_variant others i parts h.1)

    of_tagged_variants : (all : Variants) (tagged_variants : TaggedVariants) → OfTaggedVariants dl P all tagged_variants → OfTaggedVariants dl Q all tagged_variants
    of_tagged_variants no_variants nothing_tagged h = tt
    of_tagged_variants no_variants (tagged_variant number layout mark parts tagged_variants) h = absurd h
    of_tagged_variants (more_variants d ts others) nothing_tagged h = absurd h
    of_tagged_variants (more_variants d ts others) (tagged_variant number layout mark parts tagged_variants) h = (of_each ts parts h.0, of_tagged_variants others tagged_variants h.1)

  pub weaker : (t : Tree) (p : Placed) → Everywhere dl P t p → Everywhere dl Q t p
  weaker t p h = (each t p h.0 h.1, within t p h.1)

-- ---- fields that have one layout each

abbrev answer : List Placed → Result (List Placed) LayError
answer ps = Ok ps

inj-answer : (ps qs : List Placed) → answer ps ≡ answer qs → ps ≡ qs
inj-answer ps qs e = cc

inj-tail : (p q : Placed) (ps qs : List Placed) → answer (p ∷ ps) ≡ answer (q ∷ qs) → ps ≡ qs
inj-tail p q ps qs e = cc

no_answer : (p : Placed) (ps : List Placed) → answer [] ≡ answer (p ∷ ps) → ⊥
no_answer p ps e = cc

module _ (dl : TargetDataLayout) (P : Tree → Placed → Type 0) (one : (t : Tree) (p : Placed) → P t p → (q : Placed) → IsLaying dl t (Ok q) → q ≡ p) where
  -- what other layout these fields have is the one that is known
  pub same_fields : (ts : Trees) (os : List ℕ) (ps qs : List Placed) → length os ≡ length ps → AreLaying dl ts (Ok ps)
      → OfEach dl P ts (parts_at os ps) → AreLaying dl ts (Ok qs) → qs ≡ ps
  same_fields no_trees os ps qs e are h others = inj-answer qs ps (others ∙ sym are)
  same_fields (more_trees t ts) os ps qs e (inl f) h others = absurd (cc f.2)
  same_fields (more_trees t ts) os ps qs e (inr (p, here, inl f)) h others = absurd (cc f.2)
  same_fields (more_trees t ts) os [] qs e (inr (p, here, inr (rest, later, is))) h others = absurd (no_answer p rest is)
  same_fields (more_trees t ts) [] (x ∷ xs) qs e (inr (p, here, inr (rest, later, is))) h others = absurd (omega (arith, e))
  same_fields (more_trees t ts) (o ∷ os) (x ∷ xs) qs e (inr (p, here, inr (rest, later, is))) h (inl f) = absurd (cc f.2)
  same_fields (more_trees t ts) (o ∷ os) (x ∷ xs) qs e (inr (p, here, inr (rest, later, is))) h (inr (q, there, inl f)) = absurd (cc f.2)
  same_fields (more_trees t ts) (o ∷ os) (x ∷ xs) qs e (inr (p, here, inr (rest, later, is))) h (inr (q, there, inr (more, others, that))) =
      let first : q ≡ x = one t x h.0.0 q there in
      let tail : rest ≡ xs = inj-tail p x rest xs (sym is) in
      let same : more ≡ xs =
      same_fields ts os xs more (omega (arith, e)) (subst (λ ys. AreLaying dl ts (Ok ys)) tail later) h.1 others in
      inj-answer qs (q ∷ more) that ∙ ap₂ (λ (y : Placed) (ys : List Placed). y ∷ ys) first same

-- ---- from two facts, of which the first leaves each type one layout

module _ (dl : TargetDataLayout) (P Q : Tree → Placed → Type 0) (one : (t : Tree) (p : Placed) → P t p → (q : Placed) → IsLaying dl t (Ok q) → q ≡ p) where
  abbrev Both : Tree → Placed → Type 0
  Both t p = P t p × Q t p

  -- those that have no place have the same layouts in both
  of_same : (ts : Trees) → (h : ByThemselves dl ts (OfEach dl P ts)) → ByThemselves dl ts (OfEach dl Q ts) → OfEach dl Q ts (parts_at_0 h.0)
  of_same ts h k =
      let same : k.0 ≡ h.0 = same_fields dl P one ts (map (λ q. 0) h.0) h.0 k.0 (length-map {B = ℕ} h.0 (λ q. 0)) h.1 h.2 k.1 in
      subst (λ ps. OfEach dl Q ts (parts_at_0 ps)) same k.2

  mutual
    both_within : (t : Tree) (p : Placed) → Within dl P t p → Within dl Q t p → Within dl Both t p
    both_within (array count element) p h k = ((h.0, k.0), both_within element (element_of p) h.1 k.1)
    both_within (vector lanes packed element) p h k = ((h.0, k.0), both_within element (element_of (element_of p)) h.1 k.1)
    both_within (struct repr always_sized order all) p h k = both_of_each all (parts_in p) h k
    both_within (union repr all) p h k = both_of_each all (parts_in p) h k
    both_within (enum repr all) (nowhere layout mark) h k = both_of_absent all h k
    both_within (enum repr all) (single layout mark index parts) h k = both_of_variant all index parts h k
    both_within (enum repr all) (tagged layout mark offset tag encoding tagged_variants) h k = both_of_tagged_variants all tagged_variants h k
    both_within (enum repr all) (one_number layout s) h k = absurd h
    both_within (enum repr all) (two layout parts) h k = absurd h
    both_within (enum repr all) (elements layout count element) h k = absurd h
    both_within (enum repr all) (lanes_of layout lanes) h k = absurd h
    both_within (enum repr all) (fields layout mark parts) h k = absurd h
    both_within (enum repr all) (together layout mark parts) h k = absurd h
    both_within (enum repr all) (in_states layout prefix offset tag tagged_variants) h k = absurd h
    both_within (coroutine prefix locals all conflicts) (in_states layout pre offset tag tagged_variants) h k =
        let own = of_same locals (h.1.0, h.1.1, h.1.2) (k.1.0, k.1.1, k.1.2) in
        (both_of_each prefix pre h.0 k.0, (h.1.0, h.1.1, both_of_each locals (parts_at_0 h.1.0) h.1.2 own, h.1.3))
    both_within (coroutine prefix locals all conflicts) (nowhere layout mark) h k = absurd h
    both_within (coroutine prefix locals all conflicts) (single layout mark index parts) h k = absurd h
    both_within (coroutine prefix locals all conflicts) (tagged layout mark offset tag encoding tagged_variants) h k = absurd h
    both_within (coroutine prefix locals all conflicts) (one_number layout s) h k = absurd h
    both_within (coroutine prefix locals all conflicts) (two layout parts) h k = absurd h
    both_within (coroutine prefix locals all conflicts) (elements layout count element) h k = absurd h
    both_within (coroutine prefix locals all conflicts) (lanes_of layout lanes) h k = absurd h
    both_within (coroutine prefix locals all conflicts) (fields layout mark parts) h k = absurd h
    both_within (coroutine prefix locals all conflicts) (together layout mark parts) h k = absurd h
    both_within _ p h k = tt

    both_of_each : (ts : Trees) (parts : Parts) → OfEach dl P ts parts → OfEach dl Q ts parts → OfEach dl Both ts parts
    both_of_each no_trees parts h k = tt
    both_of_each (more_trees t ts) parts h k =
        (((h.0.0, k.0.0), both_within t (first_part parts) h.0.1 k.0.1), both_of_each ts (more_parts parts) h.1 k.1)

    both_of_absent : (all : Variants) → OfAbsent dl P all → OfAbsent dl Q all → OfAbsent dl Both all
    both_of_absent no_variants h k = tt
    both_of_absent (more_variants d ts others) h k =
        ((h.0.0, h.0.1, both_of_each ts (parts_at_0 h.0.0) h.0.2 (of_same ts h.0 k.0)), both_of_absent others h.1 k.1)

    both_of_variant : (all : Variants) (i : ℕ) (parts : Parts) → OfVariant dl P all i parts → OfVariant dl Q all i parts → OfVariant dl Both all i parts
    both_of_variant no_variants i parts h k = absurd h
    both_of_variant (more_variants d ts others) zero parts h k = (both_of_each ts parts h.0 k.0, both_of_absent others h.1 k.1)
    both_of_variant (more_variants d ts others) (suc i) parts h k =
        ((h.0.0, h.0.1, both_of_each ts (parts_at_0 h.0.0) h.0.2 (of_same ts h.0 k.0)), both_of_variant others i parts h.1 k.1)

    both_of_tagged_variants : (all : Variants) (tagged_variants : TaggedVariants) → OfTaggedVariants dl P all tagged_variants → OfTaggedVariants dl Q all tagged_variants → OfTaggedVariants dl Both all tagged_variants
    both_of_tagged_variants no_variants nothing_tagged h k = tt
    both_of_tagged_variants no_variants (tagged_variant number layout mark parts tagged_variants) h k = absurd h
    both_of_tagged_variants (more_variants d ts others) nothing_tagged h k = absurd h
    both_of_tagged_variants (more_variants d ts others) (tagged_variant number layout mark parts tagged_variants) h k =
        (both_of_each ts parts h.0 k.0, both_of_tagged_variants others tagged_variants h.1 k.1)

  pub both : (t : Tree) (p : Placed) → Everywhere dl P t p → Everywhere dl Q t p → Everywhere dl Both t p
  both t p h k = ((h.0, k.0), both_within t p h.1 k.1)

-- that a type has no other layout, and that it has this one
abbrev pub IsOnly : TargetDataLayout → Tree → Placed → Type 0
IsOnly dl t p = ((q : Placed) → IsLaying dl t (Ok q) → q ≡ p) × IsLaying dl t (Ok p)

-- and in which order its fields lie, and of which lists it is made
abbrev pub IsOrdered : TargetDataLayout → Tree → Placed → Type 0
IsOrdered dl t p = IsOnly dl t p × LiesAsAsked dl t p

abbrev pub IsKnown : TargetDataLayout → Tree → Placed → Type 0
IsKnown dl t p = IsOrdered dl t p × HasLeastLists dl t p

-- and that it is lawful
abbrev pub IsWholeKnown : TargetDataLayout → Tree → Placed → Type 0
IsWholeKnown dl t p = IsKnown dl t p × IsLawfulLayout dl (layout_of p)

-- that a type has one layout, which is lawful
abbrev pub IsInner : TargetDataLayout → Tree → Placed → Type 0
IsInner dl t p = IsOnly dl t p × IsLawfulLayout dl (layout_of p)

-- ---- of an answer

module _ (dl : TargetDataLayout) (tree : Tree) where
  -- what follows of each from what holds of it and of those in it
  documented : (P Q : Tree → Placed → Type 0) → (IsLawfulDataLayout dl → (t : Tree) (p : Placed) → P t p → Within dl P t p → Q t p)
      → (r : Result Laid LayError) → IfOk r (λ _. IsLawfulDataLayout dl) → IfOk r (λ laid. Everywhere dl P tree (placed_of laid))
      → IfOk r (λ laid. Everywhere dl Q tree (placed_of laid))
  documented P Q each (Ok laid) law h = weaker dl P Q (each law) tree (placed_of laid) h
  documented P Q each (Err e) law h = h

  documented_if : (A : Type 0) (P Q : Tree → Placed → Type 0) → (A → IsLawfulDataLayout dl → (t : Tree) (p : Placed) → P t p → Within dl P t p → Q t p)
      → (r : Result Laid LayError) → IfOk r (λ _. IsLawfulDataLayout dl) → IfOk r (λ laid. Everywhere dl P tree (placed_of laid))
      → IfOk r (λ laid. A → Everywhere dl Q tree (placed_of laid))
  documented_if A P Q each (Ok laid) law h = λ a. weaker dl P Q (each a law) tree (placed_of laid) h
  documented_if A P Q each (Err e) law h = h

  abbrev HasLayout : Tree → Placed → Type 0
  HasLayout t p = IsLaying dl t (Ok p)

  -- a rule that each layout of a type keeps, and one with a premise
  pub each_laid : (Q : Tree → Placed → Type 0) → (IsLawfulDataLayout dl → (t : Tree) (p : Placed) → IsLaying dl t (Ok p) → Q t p)
      → (r : Result Laid LayError) → IfOk r (λ _. IsLawfulDataLayout dl) → IfOk r (λ laid. Everywhere dl HasLayout tree (placed_of laid))
      → IfOk r (λ laid. Everywhere dl Q tree (placed_of laid))
  each_laid Q each = documented HasLayout Q (λ law t p h inside. each law t p h)

  pub each_laid_if : (A : Type 0) (Q : Tree → Placed → Type 0) → (A → IsLawfulDataLayout dl → (t : Tree) (p : Placed) → IsLaying dl t (Ok p) → Q t p)
      → (r : Result Laid LayError) → IfOk r (λ _. IsLawfulDataLayout dl) → IfOk r (λ laid. Everywhere dl HasLayout tree (placed_of laid))
      → IfOk r (λ laid. A → Everywhere dl Q tree (placed_of laid))
  each_laid_if A Q each = documented_if A HasLayout Q (λ a law t p h inside. each a law t p h)

  -- one that a lawful layout keeps
  pub each_lawful : (Q : Tree → Placed → Type 0) → ((t : Tree) (p : Placed) → IsLawfulLayout dl (layout_of p) → Q t p)
      → (r : Result Laid LayError) → IfOk r (λ _. IsLawfulDataLayout dl) → IfOk r (λ laid. Everywhere dl (λ t p. IsLawfulLayout dl (layout_of p)) tree (placed_of laid))
      → IfOk r (λ laid. Everywhere dl Q tree (placed_of laid))
  each_lawful Q each = documented (λ t p. IsLawfulLayout dl (layout_of p)) Q (λ law t p h inside. each t p h)

  -- one that the only layout of a type keeps, beside those of the types in it
  pub each_beside : (Q : Tree → Placed → Type 0) → (IsLawfulDataLayout dl → (t : Tree) (p : Placed) → IsOnly dl t p → Within dl (IsOnly dl) t p → Q t p)
      → (r : Result Laid LayError) → IfOk r (λ _. IsLawfulDataLayout dl) → IfOk r (λ laid. Everywhere dl (IsOnly dl) tree (placed_of laid))
      → IfOk r (λ laid. Everywhere dl Q tree (placed_of laid))
  each_beside Q each = documented (IsOnly dl) Q each

  pub each_beside_if : (A : Type 0) (Q : Tree → Placed → Type 0)
      → (A → IsLawfulDataLayout dl → (t : Tree) (p : Placed) → IsOnly dl t p → Within dl (IsOnly dl) t p → Q t p)
      → (r : Result Laid LayError) → IfOk r (λ _. IsLawfulDataLayout dl) → IfOk r (λ laid. Everywhere dl (IsOnly dl) tree (placed_of laid))
      → IfOk r (λ laid. A → Everywhere dl Q tree (placed_of laid))
  each_beside_if A Q each = documented_if A (IsOnly dl) Q each

  -- one that it keeps with the order of its fields and its lists
  pub each_ordered : (Q : Tree → Placed → Type 0)
      → (IsLawfulDataLayout dl → (t : Tree) (p : Placed) → IsLaying dl t (Ok p) → LiesAsAsked dl t p → HasLeastLists dl t p → Q t p)
      → (r : Result Laid LayError) → IfOk r (λ _. IsLawfulDataLayout dl) → IfOk r (λ laid. Everywhere dl (IsKnown dl) tree (placed_of laid))
      → IfOk r (λ laid. Everywhere dl Q tree (placed_of laid))
  each_ordered Q each = documented (IsKnown dl) Q (λ law t p h inside. each law t p h.0.0.1 h.0.1 h.1)

  pub each_only : (r : Result Laid LayError)
      → IfOk r (λ laid. Everywhere dl (λ t p. (q : Placed) → IsLaying dl t (Ok q) → q ≡ p) tree (placed_of laid))
      → IfOk r (λ laid. Everywhere dl (λ t p. IsLaying dl t (Ok p)) tree (placed_of laid))
      → IfOk r (λ laid. Everywhere dl (IsOnly dl) tree (placed_of laid))
  each_only (Ok laid) one are =
      both dl (λ t p. (q : Placed) → IsLaying dl t (Ok q) → q ≡ p) (λ t p. IsLaying dl t (Ok p)) (λ t p h. h) tree (placed_of laid) one are
  each_only (Err e) one are = one

  pub each_known : (r : Result Laid LayError) → IfOk r (λ laid. Everywhere dl (IsOnly dl) tree (placed_of laid))
      → IfOk r (λ laid. Everywhere dl (LiesAsAsked dl) tree (placed_of laid))
      → IfOk r (λ laid. Everywhere dl (HasLeastLists dl) tree (placed_of laid))
      → IfOk r (λ laid. Everywhere dl (IsKnown dl) tree (placed_of laid))
  each_known (Ok laid) only asked lists =
      both dl (IsOrdered dl) (HasLeastLists dl) (λ t p h. h.0.0) tree (placed_of laid)
      (both dl (IsOnly dl) (LiesAsAsked dl) (λ t p h. h.0) tree (placed_of laid) only asked) lists
  each_known (Err e) only asked lists = only

  -- a rule that is kept with lawful fields, under a premise
  pub each_lawful_if : (A : Type 0) (Q : Tree → Placed → Type 0)
      → (A → IsLawfulDataLayout dl → (t : Tree) (p : Placed) → IsLaying dl t (Ok p) → LiesAsAsked dl t p
      → Within dl (λ t p. IsLawfulLayout dl (layout_of p)) t p → Q t p)
      → (r : Result Laid LayError) → IfOk r (λ _. IsLawfulDataLayout dl) → IfOk r (λ laid. Everywhere dl (IsKnown dl) tree (placed_of laid))
      → IfOk r (λ laid. Everywhere dl (λ t p. IsLawfulLayout dl (layout_of p)) tree (placed_of laid))
      → IfOk r (λ laid. A → Everywhere dl Q tree (placed_of laid))
  each_lawful_if A Q each (Ok laid) law known lawful = λ a.
      weaker dl (IsWholeKnown dl) Q
      (λ t p h inside. each a law t p h.0.0.0.1 h.0.0.1 (within dl (IsWholeKnown dl) (λ t p. IsLawfulLayout dl (layout_of p)) (λ t p own more. own.1) t p inside))
      tree (placed_of laid)
      (both dl (IsKnown dl) (λ t p. IsLawfulLayout dl (layout_of p)) (λ t p h. h.0.0.0) tree (placed_of laid) known lawful)
  each_lawful_if A Q each (Err e) law known lawful = known

  -- a rule that is kept by what lies in a type, under a premise
  pub each_inner_if : (A : Type 0) (Q : Tree → Placed → Type 0) → (A → (t : Tree) (p : Placed) → IsLaying dl t (Ok p) → Within dl (IsInner dl) t p → Q t p)
      → (r : Result Laid LayError) → IfOk r (λ laid. Everywhere dl (IsOnly dl) tree (placed_of laid))
      → IfOk r (λ laid. Everywhere dl (λ t p. IsLawfulLayout dl (layout_of p)) tree (placed_of laid))
      → IfOk r (λ laid. A → Everywhere dl Q tree (placed_of laid))
  each_inner_if A Q each (Ok laid) only lawful = λ a.
      weaker dl (IsInner dl) Q (λ t p h inside. each a t p h.0.1 inside) tree (placed_of laid)
      (both dl (IsOnly dl) (λ t p. IsLawfulLayout dl (layout_of p)) (λ t p h. h.0) tree (placed_of laid) only lawful)
  each_inner_if A Q each (Err e) only lawful = only
