-- What nodes mean as more are added.
use Rattle.std.proofs.lemmas.Bool.{ltb-true}
use Rattle.std.specs.Prelude.{Bool, nat_lt}
use Rattle.std.proofs.Common.{subst, ◌≡◌, ℕ, zero, suc, ◌+◌, ◌<◌, List, [], ◌∷◌, ◌++◌, length, map, get_or, arith, refl, sym, ap, ap₂, ◌∙◌, length-append}
use Rattle.std.specs.Prelude.{true, ◌&&◌}
use Rattle.std.specs.Cmp.Derive.{both_true}
use Rattle.std.proofs.lemmas.List.{get_or_append_left, get_or_push}
use Rattle.std.proofs.lemmas.Bool.{and_parts}
use Rattle.std.specs.List.{list_all}
use Rattle.abi_scalar.specs.Shape.{listed_offsets}
use Rattle.abi_tree.specs.declared.node.Shape.{Shape}
use Rattle.abi_tree.specs.declared.node.Shape.TheVariants.{Scalar, Pair, Never, Elements, Fields, Union, Vector, Single, Tagged, States}
use Rattle.abi_tree.specs.declared.node.Node.{Node}
use Rattle.abi_tree.specs.Placed.{Placed, layout_of, pair, elements, vector, fields, union, single, tagged, states, TaggedVariants, nothing}
use Rattle.abi_scalar.specs.Layout.{Layout}
use Rattle.abi_tree.specs.Nodes.{placed_in, parts_at, parts_at_0, tagged_variants_in, encoding_of, variant_left, own_tagged_variant, tag_offset, state_tag_offset, states_in, meaning, meanings, types_in, placed_at, Keeps}
use Rattle.abi_tree.specs.Laws.{keeps_laws, keep_laws}
use Rattle.abi_tree.specs.Widths.{has_width, have_widths}
use Rattle.abi_tree.specs.Well.{is_node, are_nodes, IsPut}

meanings-push : (done : List Placed) (ns : List Node) (n : Node) →
    meanings done (ns ++ n ∷ []) ≡ meanings done ns ++ meaning (meanings done ns) n.layout n.shape ∷ []
meanings-push done [] n = refl
meanings-push done (m ∷ ns) n = meanings-push (done ++ meaning done m.layout m.shape ∷ []) ns n

length-meanings : (done : List Placed) (ns : List Node) → length (meanings done ns) ≡ length done + length ns
length-meanings done [] = omega arith
length-meanings done (m ∷ ns) =
    let more = done ++ meaning done m.layout m.shape ∷ [] in
    omega (arith, length-meanings more ns, length-append done (meaning done m.layout m.shape ∷ []))

pub length-types_in : (ns : List Node) → length (types_in ns) ≡ length ns
length-types_in ns = omega (arith, length-meanings [] ns)

-- types that are done stay
pub meanings-first : (done : List Placed) (ns : List Node) (i : ℕ) → i < length done → placed_in (meanings done ns) i ≡ placed_in done i
meanings-first done [] i lt = refl
meanings-first done (m ∷ ns) i lt =
    let x = meaning done m.layout m.shape in
    meanings-first (done ++ x ∷ []) ns i (omega (arith, length-append done (x ∷ []))) ∙ get_or_append_left done (x ∷ []) nothing i lt

pub layout_of-meaning : (done : List Placed) (layout : Layout) (shape : Shape) → layout_of (meaning done layout shape) ≡ layout
layout_of-meaning done layout (Scalar s) = refl
layout_of-meaning done layout (Pair first second) = refl
layout_of-meaning done layout (Never mark) = refl
layout_of-meaning done layout (Elements count element) = refl
layout_of-meaning done layout (Fields mark children) = refl
layout_of-meaning done layout (Union mark children) = refl
layout_of-meaning done layout (Vector lanes) = refl
layout_of-meaning done layout (Single mark children) = refl
layout_of-meaning done layout (Tagged mark tag variants) = refl
layout_of-meaning done layout (States prefix tag all) = refl

layout_in : (done : List Placed) (ns : List Node) (i j : ℕ) (d : Node) → j ≡ length done + i → i < length ns →
    layout_of (placed_in (meanings done ns) j) ≡ (get_or ns i d).layout
layout_in done [] i j d e lt = absurd (omega arith)
layout_in done (m ∷ ns) zero j d e lt =
    let x = meaning done m.layout m.shape in
    let at : length done ≡ j = omega arith in
    ap layout_of (meanings-first (done ++ x ∷ []) ns j (omega (arith, length-append done (x ∷ []))) ∙ get_or_push done x nothing j at)
    ∙ layout_of-meaning done m.layout m.shape
layout_in done (m ∷ ns) (suc i) j d e lt =
    let x = meaning done m.layout m.shape in
    layout_in (done ++ x ∷ []) ns i j d (omega (arith, length-append done (x ∷ []))) (omega arith)

-- a node's layout is that of what it means
pub layout_of-placed_at : (ns : List Node) (i : ℕ) (d : Node) → i < length ns → layout_of (placed_at ns i) ≡ (get_or ns i d).layout
layout_of-placed_at ns i d lt = layout_in [] ns i i d (omega arith) lt

module _ (ns : List Node) (n : Node) where
  abbrev x : Placed
  x = meaning (types_in ns) n.layout n.shape

  pub Keeps-push : Keeps (types_in ns) (types_in (ns ++ n ∷ []))
  Keeps-push = record {
    longer = omega (arith, ap length (meanings-push [] ns n), length-append (types_in ns) (x ∷ []));
    same = λ i lt. ap (λ ts. placed_in ts i) (meanings-push [] ns n) ∙ get_or_append_left (types_in ns) (x ∷ []) nothing i lt;
  }

  pub placed_at-push : (i : ℕ) → i ≡ length ns → placed_at (ns ++ n ∷ []) i ≡ x
  placed_at-push i e =
      ap (λ ts. placed_in ts i) (meanings-push [] ns n) ∙ get_or_push (types_in ns) x nothing i (length-types_in ns ∙ sym e)

pub Keeps-refl : (ts : List Placed) → Keeps ts ts
Keeps-refl ts = record { longer = omega arith; same = λ i lt. refl }

pub Keeps-trans : (xs ys zs : List Placed) → Keeps xs ys → Keeps ys zs → Keeps xs zs
Keeps-trans xs ys zs h k = record {
  longer = omega arith;
  same = λ i lt. k.same i (omega arith) ∙ h.same i lt;
}

are_nodes-push : (first : ℕ) (ns : List Node) (n : Node) (i : ℕ) → i ≡ first + length ns → is_node i n.shape ≡ true → are_nodes first ns ≡ true → are_nodes first (ns ++ n ∷ []) ≡ true
are_nodes-push first [] n i e is h =
    let at : i ≡ first = omega arith in
    both_true (subst (λ k. is_node k n.shape ≡ true) at is) refl
are_nodes-push first (m ∷ ns) n i e is h =
    let both = and_parts (is_node first m.shape) (are_nodes (first + 1) ns) h in
    both_true both.0 (are_nodes-push (first + 1) ns n i (omega arith) is both.1)

-- a test of each node, given what those before it mean
module _ (test : List Placed → Layout → Shape → Bool) (tests : List Placed → List Node → Bool)
    (first_tested : (done : List Placed) (m : Node) (ns : List Node) → tests done (m ∷ ns) ≡ (test done m.layout m.shape && tests (done ++ meaning done m.layout m.shape ∷ []) ns)) where
  tests-push : ((all : List Placed) → tests all [] ≡ true) → (done : List Placed) (ns : List Node) (n : Node) → test (meanings done ns) n.layout n.shape ≡ true → tests done ns ≡ true
      → tests done (ns ++ n ∷ []) ≡ true
  tests-push none done [] n passes h = first_tested done n [] ∙ both_true passes (none (done ++ meaning done n.layout n.shape ∷ []))
  tests-push none done (m ∷ ns) n passes h =
      let more = done ++ meaning done m.layout m.shape ∷ [] in
      let both = and_parts (test done m.layout m.shape) (tests more ns) (sym (first_tested done m ns) ∙ h) in
      first_tested done m (ns ++ n ∷ []) ∙ both_true both.0 (tests-push none more ns n passes both.1)

  -- what it says of a node doesn't change with what lies behind
  module _ (same : (xs ys : List Placed) (n : ℕ) → ((i : ℕ) → i < n → placed_in xs i ≡ placed_in ys i) → (layout : Layout) (shape : Shape) → is_node n shape ≡ true →
      test xs layout shape ≡ test ys layout shape) where
    test-in : (done : List Placed) (ns : List Node) (i j : ℕ) (d : Node) → j ≡ length done + i → i < length ns → is_node j (get_or ns i d).shape ≡ true → tests done ns ≡ true →
        test (meanings done ns) (get_or ns i d).layout (get_or ns i d).shape ≡ true
    test-in done [] i j d e lt is h = absurd (omega arith)
    test-in done (m ∷ ns) zero j d e lt is h =
        let x = meaning done m.layout m.shape in
        let more = done ++ x ∷ [] in
        let long = length-append done (x ∷ []) in
        let kept : (k : ℕ) → k < j → placed_in (meanings more ns) k ≡ placed_in done k = λ k less.
        meanings-first more ns k (omega arith) ∙ get_or_append_left done (x ∷ []) nothing k (omega arith) in
        same (meanings more ns) done j kept m.layout m.shape is ∙ (and_parts (test done m.layout m.shape) (tests more ns) (sym (first_tested done m ns) ∙ h)).0
    test-in done (m ∷ ns) (suc i) j d e lt is h =
        let x = meaning done m.layout m.shape in
        let more = done ++ x ∷ [] in
        test-in more ns i j d (omega (arith, length-append done (x ∷ []))) (omega arith) is (and_parts (test done m.layout m.shape) (tests more ns) (sym (first_tested done m ns) ∙ h)).1

-- a node that is pushed is put
pub IsPut-push : (ns : List Node) (n : Node) (i : ℕ) → is_node i n.shape ≡ true → keeps_laws (types_in ns) n.layout n.shape ≡ true → has_width (types_in ns) n.layout n.shape ≡ true → i ≡ length ns →
    IsPut ns (ns ++ n ∷ []) i (meaning (types_in ns) n.layout n.shape)
IsPut-push ns n i is keeps has e = record {
  kept = Keeps-push ns n;
  well = λ h. record {
    earlier = are_nodes-push 0 ns n i (omega arith) is h.earlier;
    laws = tests-push keeps_laws keep_laws (λ done m ns. refl) (λ all. refl) [] ns n keeps h.laws;
    widths = tests-push has_width have_widths (λ done m ns. refl) (λ all. refl) [] ns n has h.widths;
  };
  last = omega (arith, length-append ns (n ∷ []));
  meant = placed_at-push ns n i e;
}

is_node-at : (first : ℕ) (ns : List Node) (i j : ℕ) (d : Node) → j ≡ first + i → i < length ns → are_nodes first ns ≡ true → is_node j (get_or ns i d).shape ≡ true
is_node-at first [] i j d e lt h = absurd (omega arith)
is_node-at first (m ∷ ns) zero j d e lt h =
    let at : first ≡ j = omega arith in
    subst (λ k. is_node k m.shape ≡ true) at (and_parts (is_node first m.shape) (are_nodes (first + 1) ns) h).0
is_node-at first (m ∷ ns) (suc i) j d e lt h =
    is_node-at (first + 1) ns i j d (omega arith) (omega arith) (and_parts (is_node first m.shape) (are_nodes (first + 1) ns) h).1

-- each node names earlier ones
pub children_before : (ns : List Node) (i : ℕ) (d : Node) → i < length ns → are_nodes 0 ns ≡ true → is_node i (get_or ns i d).shape ≡ true
children_before ns i d lt h = is_node-at 0 ns i i d (omega arith) lt h

-- so that a test of each holds, after all
pub each_tested : (test : List Placed → Layout → Shape → Bool) (tests : List Placed → List Node → Bool)
    → ((done : List Placed) (m : Node) (ns : List Node) → tests done (m ∷ ns) ≡ (test done m.layout m.shape && tests (done ++ meaning done m.layout m.shape ∷ []) ns))
    → ((xs ys : List Placed) (n : ℕ) → ((i : ℕ) → i < n → placed_in xs i ≡ placed_in ys i) → (layout : Layout) (shape : Shape) → is_node n shape ≡ true → test xs layout shape ≡ test ys layout shape)
    → (ns : List Node) → are_nodes 0 ns ≡ true → tests [] ns ≡ true → (i : ℕ) (d : Node) → i < length ns → test (types_in ns) (get_or ns i d).layout (get_or ns i d).shape ≡ true
each_tested test tests first_tested same ns well h i d lt = test-in test tests first_tested same [] ns i i d (omega arith) lt (children_before ns i d lt well) h

pub map-below : {X : Type 0} (f g : ℕ → X) (n : ℕ) → ((i : ℕ) → i < n → f i ≡ g i) → (cs : List ℕ) → list_all (λ child. nat_lt child n) cs ≡ true → map f cs ≡ map g cs
map-below f g n same [] below = refl
map-below f g n same (c ∷ cs) below =
    let both = and_parts (nat_lt c n) (list_all (λ child. nat_lt child n) cs) below in
    ap₂ (λ x xs. x ∷ xs) (same c (ltb-true c n both.0)) (map-below f g n same cs both.1)

tagged_variants-same : (xs ys : List Placed) (n : ℕ) → ((i : ℕ) → i < n → placed_in xs i ≡ placed_in ys i) → (vs : List (ℕ × ℕ)) → list_all (λ v. nat_lt v.1 n) vs ≡ true → tagged_variants_in xs vs ≡ tagged_variants_in ys vs
tagged_variants-same xs ys n same [] below = refl
tagged_variants-same xs ys n same (v ∷ vs) below =
    let both = and_parts (nat_lt v.1 n) (list_all (λ v. nat_lt v.1 n) vs) below in
    let here : placed_in xs v.1 ≡ placed_in ys v.1 = same v.1 (ltb-true v.1 n both.0) in
    let rest : tagged_variants_in xs vs ≡ tagged_variants_in ys vs = tagged_variants-same xs ys n same vs both.1 in
    ap (λ p. own_tagged_variant v.0 p (tagged_variants_in xs vs)) here ∙ ap (own_tagged_variant v.0 (placed_in ys v.1)) rest

-- both children of a pair's node come before it
pub pair_before : (n first second : ℕ) → (nat_lt first n && nat_lt second n) ≡ true → list_all (λ child. nat_lt child n) (first ∷ second ∷ []) ≡ true
pair_before n first second is = let both = and_parts (nat_lt first n) (nat_lt second n) is in both_true both.0 (both_true both.1 refl)

states-same : (xs ys : List Placed) (n : ℕ) → ((i : ℕ) → i < n → placed_in xs i ≡ placed_in ys i) → (layout : Layout) (prefix : List ℕ) (tag : ℕ) (all : List (ℕ × ℕ)) →
    (list_all (λ child. nat_lt child n) prefix && (nat_lt tag n && list_all (λ v. nat_lt v.1 n) all)) ≡ true → states_in xs layout prefix tag all ≡ states_in ys layout prefix tag all
states-same xs ys n same layout prefix tag all is =
    let both = and_parts (list_all (λ child. nat_lt child n) prefix) (nat_lt tag n && list_all (λ v. nat_lt v.1 n) all) is in
    let beside = and_parts (nat_lt tag n) (list_all (λ v. nat_lt v.1 n) all) both.1 in
    let offset : ℕ = state_tag_offset layout (length prefix) in
    let first : List Placed → Placed → TaggedVariants → Placed = λ ps t tagged_variants. states layout (parts_at (listed_offsets layout.fields) ps) offset t tagged_variants in
    ap (λ ps. first ps (placed_in xs tag) (tagged_variants_in xs all)) (map-below (placed_in xs) (placed_in ys) n same prefix both.0)
    ∙ ap (λ t. first (map (placed_in ys) prefix) t (tagged_variants_in xs all)) (same tag (ltb-true tag n beside.0))
    ∙ ap (first (map (placed_in ys) prefix) (placed_in ys tag)) (tagged_variants-same xs ys n same all beside.1)

-- a node's meaning from those before it is its meaning from all
meaning-same : (xs ys : List Placed) (n : ℕ) → ((i : ℕ) → i < n → placed_in xs i ≡ placed_in ys i) → (layout : Layout) (shape : Shape) → is_node n shape ≡ true →
    meaning xs layout shape ≡ meaning ys layout shape
meaning-same xs ys n same layout (Scalar s) is = refl
meaning-same xs ys n same layout (Pair first second) is =
    ap (λ ps. pair layout (parts_at (listed_offsets layout.fields) ps)) (map-below (placed_in xs) (placed_in ys) n same (first ∷ second ∷ []) (pair_before n first second is))
meaning-same xs ys n same layout (Never mark) is = refl
meaning-same xs ys n same layout (Elements count element) is = ap (elements layout count) (same element (ltb-true element n is))
meaning-same xs ys n same layout (Fields mark children) is =
    ap (λ ps. fields layout mark (parts_at (listed_offsets layout.fields) ps)) (map-below (placed_in xs) (placed_in ys) n same children.items is)
meaning-same xs ys n same layout (Union mark children) is = ap (λ ps. union layout mark (parts_at_0 ps)) (map-below (placed_in xs) (placed_in ys) n same children.items is)
meaning-same xs ys n same layout (Vector lanes) is = ap (vector layout) (same lanes (ltb-true lanes n is))
meaning-same xs ys n same layout (Single mark children) is =
    ap (λ ps. single layout mark (variant_left layout.variants) (parts_at (listed_offsets layout.fields) ps)) (map-below (placed_in xs) (placed_in ys) n same children.items is)
meaning-same xs ys n same layout (Tagged mark tag variants) is =
    let both = and_parts (nat_lt tag n) (list_all (λ v. nat_lt v.1 n) variants.items) is in
    ap (λ p. tagged layout mark (tag_offset layout) p (encoding_of layout.variants) (tagged_variants_in xs variants.items)) (same tag (ltb-true tag n both.0))
    ∙ ap (tagged layout mark (tag_offset layout) (placed_in ys tag) (encoding_of layout.variants)) (tagged_variants-same xs ys n same variants.items both.1)
meaning-same xs ys n same layout (States prefix tag all) is = states-same xs ys n same layout prefix.items tag all.items is

placed_in-meanings : (done : List Placed) (ns : List Node) (i j : ℕ) (d : Node) → j ≡ length done + i → i < length ns → is_node j (get_or ns i d).shape ≡ true →
    placed_in (meanings done ns) j ≡ meaning (meanings done ns) (get_or ns i d).layout (get_or ns i d).shape
placed_in-meanings done [] i j d e lt is = absurd (omega arith)
placed_in-meanings done (m ∷ ns) zero j d e lt is =
    let x = meaning done m.layout m.shape in
    let at : length done ≡ j = omega arith in
    let more = done ++ x ∷ [] in
    let long = length-append done (x ∷ []) in
    let same : (k : ℕ) → k < j → placed_in done k ≡ placed_in (meanings more ns) k = λ k less.
    sym (meanings-first more ns k (omega arith) ∙ get_or_append_left done (x ∷ []) nothing k (omega arith)) in
    meanings-first more ns j (omega arith) ∙ get_or_push done x nothing j at ∙ meaning-same done (meanings more ns) j same m.layout m.shape is
placed_in-meanings done (m ∷ ns) (suc i) j d e lt is =
    let x = meaning done m.layout m.shape in
    placed_in-meanings (done ++ x ∷ []) ns i j d (omega (arith, length-append done (x ∷ []))) (omega arith) is

-- what a node means, by what its children mean
pub placed_at-node : (ns : List Node) → are_nodes 0 ns ≡ true → (i : ℕ) (n : Node) (shape : Shape) → i < length ns → n ≡ get_or ns i n → n.shape ≡ shape →
    (is_node i shape ≡ true) × (placed_at ns i ≡ meaning (types_in ns) n.layout shape)
placed_at-node ns well i n shape lt at e =
    let is : is_node i (get_or ns i n).shape ≡ true = children_before ns i n lt well in
    let same : (get_or ns i n).shape ≡ shape = ap (λ m. m.shape) (sym at) ∙ e in (
      subst (λ s. is_node i s ≡ true) same is,
      placed_in-meanings [] ns i i n (omega arith) lt is ∙ ap (λ m. meaning (types_in ns) m.layout m.shape) (sym at) ∙ ap (meaning (types_in ns) n.layout) e,
    )
