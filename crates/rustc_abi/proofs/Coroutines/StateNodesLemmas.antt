-- Nodes for the states of a coroutine.
use Rattle.std.proofs.Common.{◌≡◌, ℕ, ◌+◌, ◌<◌, ◌≤◌, List, [], ◌∷◌, ◌++◌, true, length, map, take, get_or, arith, refl, sym, ap, ◌∙◌, subst}
use Rattle.std.specs.Prelude.{Vec, All}
use Rattle.std.specs.Cmp.Derive.{both_true}
use Rattle.std.specs.declared.alloc.Global.{Global}
use Rattle.std.proofs.lemmas.List.{get_or-map, length-map, map-append, map-id, take_more}
use Rattle.std.proofs.lemmas.List.Elements.{All-nil, All-cons, All-head, All-tail, All-weaker}
use Rattle.std.proofs.lemmas.List.FromFn.{map-range_with_len_more}
use Rattle.std.proofs.lemmas.Simd.{map-map}
use Rattle.abi_scalar.specs.declared.variants.VariantLayout.{VariantLayout}
use Rattle.abi_scalar.specs.Shape.{listed_offsets}
use Rattle.abi_scalar.specs.Variant.{variants_of}
use Rattle.abi_univariant.specs.Placement.{source_order}
use Rattle.abi_tree.specs.declared.node.Shape.TheVariants.{States}
use Rattle.abi_tree.specs.declared.node.Node.{Node}
use Rattle.abi_tree.specs.declared.mark.Mark.TheVariants.{Plain}
use Rattle.abi_tree.specs.Placed.{Placed, size_of, states, Parts, TaggedVariants, nothing}
use Rattle.abi_scalar.specs.Layout.{Layout}
use Rattle.abi_tree.specs.Nodes.{placed_in, parts_at, tagged_variants_in, state_tag_offset, meaning, types_in, Keeps}
use Rattle.rustc_abi.specs.Enums.{tagged_variants_at}
use Rattle.rustc_abi.specs.Inside.{VariantsInside}
use Rattle.abi_tree.specs.Laws.{have_places, keeps_laws, sizes_at}
use Rattle.abi_tree.specs.Well.{IsPut, all_at, is_node}
use Rattle.rustc_abi.specs.Adding.{AreTaggedVariants, variants_in}
use Rattle.abi_tree.proofs.Meaning.NodesLemmas.{length-types_in, Keeps-trans}
use Rattle.rustc_abi.proofs.Trees.ListLemmas.{all_below}
use Rattle.rustc_abi.proofs.Trees.LayLemmas.{all_at-kept}
use Rattle.rustc_abi.proofs.Enums.TaggedVariantNodesLemmas.{tagged_before}
use Rattle.rustc_abi.proofs.Places.LawsLemmas.{several_laws}
use Rattle.rustc_abi.proofs.Coroutines.StatePlacesLemmas.{picked_types}

-- one index more
pub indices_more : (n : ℕ) → source_order (n + 1) ≡ source_order n ++ n ∷ []
indices_more n =
    sym (map-id (source_order (n + 1))) ∙ map-range_with_len_more (λ (i : ℕ). i) 0 n n (omega arith)
    ∙ ap (λ is. is ++ n ∷ []) (map-id (source_order n))

-- ---- the nodes of a state's locals

-- the nodes of the locals with these indices
abbrev pub nodes_of : (locals indices : List ℕ) → List ℕ
nodes_of locals ks = map (λ k. get_or locals k 0) ks

-- they mean what the locals with these indices do
nodes_of-mean : (ns : List Node) (locals ks : List ℕ) → All (λ k. k < length locals) ks → all_at ns (nodes_of locals ks) ≡ map (placed_in (all_at ns locals)) ks
nodes_of-mean ns locals [] known = refl
nodes_of-mean ns locals (k ∷ ks) known =
    let here : placed_in (types_in ns) (get_or locals k 0) ≡ placed_in (all_at ns locals) k =
    sym (get_or-map (placed_in (types_in ns)) locals k 0 nothing (All-head (λ k. k < length locals) k ks known)) in
    let rest : all_at ns (nodes_of locals ks) ≡ map (placed_in (all_at ns locals)) ks = nodes_of-mean ns locals ks (All-tail (λ k. k < length locals) k ks known) in
    cc

nodes_of-below : (m : ℕ) (locals ks : List ℕ) → All (λ child. child < m) locals → All (λ k. k < length locals) ks → All (λ child. child < m) (nodes_of locals ks)
nodes_of-below m locals [] there known = All-nil (λ child. child < m)
nodes_of-below m locals (k ∷ ks) there known =
    All-cons (λ child. child < m) (get_or locals k 0) (nodes_of locals ks) (there k 0 (All-head (λ k. k < length locals) k ks known))
    (nodes_of-below m locals ks there (All-tail (λ k. k < length locals) k ks known))

-- the nodes of each state's locals
abbrev pub nodes_of_each : (locals : List ℕ) → List (Vec ℕ Global) → List (List ℕ)
nodes_of_each locals all = map (λ ks. nodes_of locals ks.items) all

-- each names a local
abbrev pub AreKnown : (locals : List ℕ) → List (Vec ℕ Global) → Type 0
AreKnown locals all = All (λ ks. All (λ k. k < length locals) ks.items) all

-- the nodes of one state's locals more
pub each_more : (locals : List ℕ) (all children : List (Vec ℕ Global)) (i : ℕ) (ks c : Vec ℕ Global) → i < length all → ks ≡ get_or all i ks → c.items ≡ nodes_of locals ks.items →
    map (λ c. c.items) children ≡ nodes_of_each locals (take i all) → map (λ c. c.items) (children ++ c ∷ []) ≡ nodes_of_each locals (take (i + 1) all)
each_more locals all children i ks c lt at made h =
    map-append (λ c. c.items) children (c ∷ []) ∙ ap (λ xs. xs ++ c.items ∷ []) h
    ∙ ap (λ x. nodes_of_each locals (take i all) ++ x ∷ []) (made ∙ ap (λ ks. nodes_of locals ks.items) at)
    ∙ sym (ap (nodes_of_each locals) (take_more all i ks lt) ∙ map-append (λ ks. nodes_of locals ks.items) (take i all) (get_or all i ks ∷ []))

-- as many as states
pub as_many_each : (locals : List ℕ) (all children : List (Vec ℕ Global)) → map (λ c. c.items) children ≡ nodes_of_each locals all → length children ≡ length all
as_many_each locals all children same =
    sym (length-map children (λ c. c.items)) ∙ ap length same ∙ length-map all (λ ks. nodes_of locals ks.items)

-- they mean what each state's locals do
pub each_means : (ns : List Node) (locals : List ℕ) (all children : List (Vec ℕ Global)) → AreKnown locals all → map (λ c. c.items) children ≡ nodes_of_each locals all →
    variants_in ns children ≡ map (λ ks. map (placed_in (all_at ns locals)) ks.items) all
each_means ns locals [] [] known same = refl
each_means ns locals [] (c ∷ children) known same = absurd (cc)
each_means ns locals (ks ∷ all) [] known same = absurd (cc)
each_means ns locals (ks ∷ all) (c ∷ children) known same =
    let at : c.items ≡ nodes_of locals ks.items = cc in
    let later : map (λ c. c.items) children ≡ nodes_of_each locals all = cc in
    let here : all_at ns c.items ≡ map (placed_in (all_at ns locals)) ks.items =
    ap (all_at ns) at ∙ nodes_of-mean ns locals ks.items (All-head (λ ks. All (λ k. k < length locals) ks.items) ks all known) in
    let rest : variants_in ns children ≡ map (λ ks. map (placed_in (all_at ns locals)) ks.items) all =
    each_means ns locals all children (All-tail (λ ks. All (λ k. k < length locals) ks.items) ks all known) later in
    cc

-- they are there where the locals are
pub each_there : (m : ℕ) (locals : List ℕ) (all children : List (Vec ℕ Global)) → All (λ child. child < m) locals → AreKnown locals all → map (λ c. c.items) children ≡ nodes_of_each locals all →
    All (λ fields. All (λ child. child < m) fields.items) children
each_there m locals [] [] there known same = All-nil (λ fields. All (λ child. child < m) fields.items)
each_there m locals [] (c ∷ children) there known same = absurd (cc)
each_there m locals (ks ∷ all) [] there known same = absurd (cc)
each_there m locals (ks ∷ all) (c ∷ children) there known same =
    let at : nodes_of locals ks.items ≡ c.items = cc in
    let later : map (λ c. c.items) children ≡ nodes_of_each locals all = cc in
    All-cons (λ fields. All (λ child. child < m) fields.items) c children
    (subst (All (λ child. child < m)) at (nodes_of-below m locals ks.items there (All-head (λ ks. All (λ k. k < length locals) ks.items) ks all known)))
    (each_there m locals all children there (All-tail (λ ks. All (λ k. k < length locals) ks.items) ks all known) later)

-- they are as few as the locals of their states
pub each_few : (n : ℕ) (locals : List ℕ) (all children : List (Vec ℕ Global)) → All (λ ks. length ks.items ≤ n) all → map (λ c. c.items) children ≡ nodes_of_each locals all →
    All (λ fields. length fields.items ≤ n) children
each_few n locals [] [] few same = All-nil (λ fields. length fields.items ≤ n)
each_few n locals [] (c ∷ children) few same = absurd (cc)
each_few n locals (ks ∷ all) [] few same = absurd (cc)
each_few n locals (ks ∷ all) (c ∷ children) few same =
    let at : nodes_of locals ks.items ≡ c.items = cc in
    let later : map (λ c. c.items) children ≡ nodes_of_each locals all = cc in
    let count : length ks.items ≡ length c.items = sym (length-map ks.items (λ k. get_or locals k 0)) ∙ ap length at in
    All-cons (λ fields. length fields.items ≤ n) c children (omega (arith, count, All-head (λ ks. length ks.items ≤ n) ks all few))
    (each_few n locals all children (All-tail (λ ks. length ks.items ≤ n) ks all few) later)

-- ---- the whole

-- the node of a coroutine keeps the laws
pub states_keep : (old one two : List Node) (t : ℕ) (tag : Placed) (prefix : Vec ℕ Global) (all : Vec (ℕ × ℕ) Global) (tagged_variants : TaggedVariants) (layout : Layout) (each : List (List Placed)) → IsPut old one t tag →
    AreTaggedVariants one two (map (λ l. l.size) (variants_of layout.variants)) all.items tagged_variants → All (λ child. child < length old) prefix.items →
    have_places layout.size layout.fields (map size_of (all_at old prefix.items) ++ size_of tag ∷ []) ≡ true → VariantsInside layout.size (variants_of layout.variants) each →
    keeps_laws (types_in two) layout (States prefix t all) ≡ true
states_keep old one two t tag prefix all tagged_variants layout each first middle there places inside =
    let here : placed_in (types_in two) t ≡ tag = middle.kept.same t (omega (arith, length-types_in one, first.last)) ∙ first.meant in
    let kept : Keeps (types_in old) (types_in two) = Keeps-trans (types_in old) (types_in one) (types_in two) first.kept middle.kept in
    let sizes : sizes_at (types_in two) (prefix.items ++ t ∷ []) ≡ map size_of (all_at old prefix.items) ++ size_of tag ∷ [] =
    map-append (λ i. size_of (placed_in (types_in two) i)) prefix.items (t ∷ [])
    ∙ ap (λ ms. ms ++ size_of (placed_in (types_in two) t) ∷ []) (sym (map-map size_of (placed_in (types_in two)) prefix.items) ∙ ap (map size_of) (all_at-kept old two kept prefix.items there))
    ∙ ap (λ p. map size_of (all_at old prefix.items) ++ size_of p ∷ []) here in
    several_laws (types_in two) layout (have_places layout.size layout.fields (sizes_at (types_in two) (prefix.items ++ t ∷ []))) (map (λ v. v.1) all.items) each
    (ap (have_places layout.size layout.fields) sizes ∙ places) middle.sized middle.listed inside

-- a node for a coroutine, behind those for the tag and for each state
pub IsPut-states : (old one two new : List Node) (t i : ℕ) (tag : Placed) (prefix : Vec ℕ Global) (all : Vec (ℕ × ℕ) Global) (sizes : List ℕ) (tagged_variants : TaggedVariants) (layout : Layout) → IsPut old one t tag →
    AreTaggedVariants one two sizes all.items tagged_variants → IsPut two new i (meaning (types_in two) layout (States prefix t all)) → All (λ child. child < length old) prefix.items →
    IsPut old new i (states layout (parts_at (listed_offsets layout.fields) (all_at old prefix.items)) (state_tag_offset layout (length prefix.items)) tag tagged_variants)
IsPut-states old one two new t i tag prefix all sizes tagged_variants layout first middle last there =
    let here : placed_in (types_in two) t ≡ tag = middle.kept.same t (omega (arith, length-types_in one, first.last)) ∙ first.meant in
    let kept : Keeps (types_in old) (types_in two) = Keeps-trans (types_in old) (types_in one) (types_in two) first.kept middle.kept in
    let same : all_at two prefix.items ≡ all_at old prefix.items = all_at-kept old two kept prefix.items there in
    let offset : ℕ = state_tag_offset layout (length prefix.items) in
    let whole : List Placed → Placed → TaggedVariants → Placed = λ ps p own. states layout (parts_at (listed_offsets layout.fields) ps) offset p own in
    record {
      kept = Keeps-trans (types_in old) (types_in two) (types_in new) kept last.kept;
      well = λ h. last.well (middle.well (first.well h));
      last = last.last;
      meant =
          last.meant ∙ ap (λ ps. whole ps (placed_in (types_in two) t) (tagged_variants_in (types_in two) all.items)) same
          ∙ ap (λ p. whole (all_at old prefix.items) p (tagged_variants_in (types_in two) all.items)) here
          ∙ ap (whole (all_at old prefix.items) tag) middle.meant;
    }

-- what the node means, as the layout of a coroutine says it: by the types of the prefix fields, and by lists of indices
pub states_told : (layout : Layout) (pres : List Placed) (prefix : List ℕ) (tag : Placed) (layouts : List (VariantLayout ℕ)) (ps : List Placed) (all : List (Vec ℕ Global)) →
    length pres ≡ length prefix →
    states layout (parts_at (listed_offsets layout.fields) pres) (state_tag_offset layout (length prefix)) tag
    (tagged_variants_at layout Plain 0 layouts (source_order (length all)) (map (λ ks. map (placed_in ps) ks.items) all))
    ≡ states layout (parts_at (listed_offsets layout.fields) pres) (get_or (listed_offsets layout.fields) (length pres) 0) tag
    (tagged_variants_at layout Plain 0 layouts (source_order (length (map (λ ks. ks.items) all))) (map (picked_types ps) (map (λ ks. ks.items) all)))
states_told layout pres prefix tag layouts ps all same =
    let first : Parts = parts_at (listed_offsets layout.fields) pres in
    let many : length (map (λ ks. ks.items) all) ≡ length all = length-map all (λ ks. ks.items) in
    let types : map (picked_types ps) (map (λ ks. ks.items) all) ≡ map (λ ks. map (placed_in ps) ks.items) all = map-map (picked_types ps) (λ ks. ks.items) all in
    ap (λ n. states layout first (state_tag_offset layout n) tag (tagged_variants_at layout Plain 0 layouts (source_order (length all)) (map (λ ks. map (placed_in ps) ks.items) all))) (sym same)
    ∙ ap (λ n. states layout first (state_tag_offset layout (length pres)) tag (tagged_variants_at layout Plain 0 layouts (source_order n) (map (λ ks. map (placed_in ps) ks.items) all))) (sym many)
    ∙ ap (λ vs. states layout first (state_tag_offset layout (length pres)) tag (tagged_variants_at layout Plain 0 layouts (source_order (length (map (λ ks. ks.items) all))) vs)) (sym types)

-- a node for a coroutine names earlier ones
pub states_before : (old one two : List Node) (t n : ℕ) (tag : Placed) (prefix : Vec ℕ Global) (all : Vec (ℕ × ℕ) Global) (sizes : List ℕ) (tagged_variants : TaggedVariants) → IsPut old one t tag → n ≡ length two →
    AreTaggedVariants one two sizes all.items tagged_variants → All (λ child. child < length old) prefix.items → is_node n (States prefix t all) ≡ true
states_before old one two t n tag prefix all sizes tagged_variants put e h there =
    let behind : length old ≤ length one = omega (arith, put.kept.longer, length-types_in old, length-types_in one) in
    let longer : length one ≤ length two = omega (arith, h.kept.longer, length-types_in one, length-types_in two) in
    both_true (all_below n prefix.items (All-weaker (λ child. child < length old) (λ child. child < n) (λ child lt. omega arith) prefix.items there))
    (tagged_before one two t n all sizes tagged_variants Plain (omega (arith, put.last)) e h)
