-- The nodes that a node's data places rest on: they come before it, and have room where it has.
use Rattle.std.proofs.Common.{◌≡◌, ◌≢◌, ℕ, zero, suc, ◌+◌, ◌-◌, ◌<◌, ◌≤◌, ⊎_elim, List, [], ◌∷◌, ◌++◌, Bool, true, false, None, Option, Some, length, map, get_or, set, take, length-set, arith, refl, sym, ap, ◌∙◌, subst, All}
use Rattle.std.specs.Prelude.{◌==◌, ◌&&◌, ◌||◌, nat_le, nat_lt, replicate}
use Rattle.std.specs.List.{list_all}
use Rattle.std.specs.Cmp.Derive.{both_true}
use Rattle.std.proofs.Math.Bool.{or-false}
use Rattle.std.proofs.lemmas.Bool.{and_parts, cases_eq, eq-eqb, eqb-true, false_from_ne_true, ltb-true, or_cases, or_right}
use Rattle.std.proofs.lemmas.List.{get_or-set_other, get_or-set_same, get_or_default, length-replicate, map-append, take_more}
use Rattle.std.proofs.lemmas.List.Elements.{All-append, All-nil, All-cons, All-head, All-tail, All-take}
use Rattle.std.proofs.lemmas.List.Folds.{list_any-append}
use Rattle.abi_scalar.specs.declared.fields_shape.FieldsShape.{FieldsShape}
use Rattle.abi_scalar.specs.declared.fields_shape.FieldsShape.TheVariants.{Primitive, Union as AtStart, Array, Arbitrary}
use Rattle.abi_scalar.specs.Shape.{listed_offsets}
use Rattle.abi_scalar.specs.Variant.{variants_of}
use Rattle.abi_tree.specs.declared.node.Shape.{Shape}
use Rattle.abi_tree.specs.declared.node.Shape.TheVariants.{Scalar as Number, Pair, Never, Elements, Fields, Union, Vector, Single, Tagged, States}
use Rattle.abi_tree.specs.declared.node.Node.{Node}
use Rattle.abi_tree.specs.declared.node.NodeRef.{NodeRef}
use Rattle.abi_tree.specs.Placed.{Placed, size_of}
use Rattle.abi_scalar.specs.Layout.{Layout}
use Rattle.abi_tree.specs.Nodes.{tagged_variants_in, lent_node, meaning, own_fields, parts_at, parts_at_0, placed_at, placed_in, state_tag_offset, types_in}
use Rattle.abi_tree.specs.Room.{has_room, have_room, tagged_variants_have_room}
use Rattle.abi_tree.specs.Laws.{end_inside, has_fields, has_list, has_variants, have_lists, have_places, is_listed, keep_laws, keeps_laws, sizes_at}
use Rattle.abi_tree.specs.Typed.{variant_nodes}
use Rattle.abi_tree.specs.Well.{all_at, are_nodes, is_node}
use Rattle.abi_tree.specs.Bytes.{one_if, count_picked}
use Rattle.abi_tree.specs.Needed.{AreNeeded, AreVisits, IsClosed, IsKept, MarksPlaces, RestsOn, is_among, named_by, placed_nodes}
use Rattle.abi_tree.proofs.Meaning.NodesLemmas.{pair_before, placed_at-node}
use Rattle.abi_tree.proofs.Meaning.TypedLemmas.{laws_at}
use Rattle.abi_tree.proofs.Places.DataPlacesLemmas.{all_before, variants_before, elements_node, fields_node, pair_node, single_node, states_node, tagged_node, union_node, vector_node}

-- ---- places that are marked

pub or_assoc : (a b c : Bool) → ((a || b) || c) ≡ (a || (b || c))
or_assoc true b c = refl
or_assoc false b c = refl

pub marks_none : (old : List Bool) → MarksPlaces old old []
marks_none old = (refl, λ i. sym (or-false (get_or old i false)))

pub marks_both : (old middle new : List Bool) (xs ys : List ℕ) → MarksPlaces old middle xs → MarksPlaces middle new ys → MarksPlaces old new (xs ++ ys)
marks_both old middle new xs ys first second = (
  second.0 ∙ first.0,
  λ i. second.1 i ∙ ap (λ b. b || is_among ys i) (first.1 i) ∙ or_assoc (get_or old i false) (is_among xs i) (is_among ys i)
      ∙ ap (λ b. get_or old i false || b) (sym (list_any-append (λ j. j == i) xs ys)),
)

-- one more
marks_one : (old : List Bool) (p : ℕ) → p < length old → MarksPlaces old (set old p true) (p ∷ [])
marks_one old p lt = (
  length-set old p true,
  λ i.
      ⊎_elim
      (λ (same : i ≡ p).
      let seen : (p == i) ≡ true = eq-eqb p i (sym same) in
      ap (λ j. get_or (set old p true) j false) same ∙ get_or-set_same old p true false lt
      ∙ sym (or_right (get_or old i false) ((p == i) || false) (ap (λ b. b || false) seen)))
      (λ (other : i ≢ p).
      let unseen : (p == i) ≡ false = false_from_ne_true (p == i) (λ e. other (sym (eqb-true p i e))) in
      get_or-set_other old p i true false other ∙ sym (ap (λ b. get_or old i false || (b || false)) unseen ∙ or-false (get_or old i false)))
      (cases_eq i p),
)

pub marks_variant : (old middle : List Bool) (vs : List (ℕ × ℕ)) (i : ℕ) (d : ℕ × ℕ) → MarksPlaces old middle (map (λ v. v.1) (take i vs)) → i < length vs → (get_or vs i d).1 < length old →
    MarksPlaces old (set middle (get_or vs i d).1 true) (map (λ v. v.1) (take (i + 1) vs))
marks_variant old middle vs i d marks lt there =
    subst (MarksPlaces old (set middle (get_or vs i d).1 true)) (sym (ap (map (λ v. v.1)) (take_more vs i d lt) ∙ map-append (λ v. v.1) (take i vs) (get_or vs i d ∷ [])))
    (marks_both old middle (set middle (get_or vs i d).1 true) (map (λ v. v.1) (take i vs)) ((get_or vs i d).1 ∷ []) marks (marks_one middle (get_or vs i d).1 (omega (arith, there, marks.0))))

-- what holds of all places holds of each
pub among_all : (P : ℕ → Type 0) (xs : List ℕ) (j : ℕ) → All P xs → is_among xs j ≡ true → P j
among_all P [] j all there = absurd (cc)
among_all P (x ∷ xs) j all there =
    ⊎_elim (λ (here : (x == j) ≡ true). subst P (eqb-true x j here) (All-head P x xs all)) (among_all P xs j (All-tail P x xs all)) (or_cases (x == j) (is_among xs j) there)

-- each place is among them
pub among_own : (xs : List ℕ) (i d : ℕ) → i < length xs → is_among xs (get_or xs i d) ≡ true
among_own [] i d lt = absurd (omega arith)
among_own (x ∷ xs) zero d lt = ap (λ b. b || is_among xs x) (eq-eqb x x refl)
among_own (x ∷ xs) (suc i) d lt = or_right (x == get_or xs i d) (is_among xs (get_or xs i d)) (among_own xs i d (omega arith))

-- what holds of two lists, one behind the other, holds of each
pub All-left : (P : ℕ → Type 0) (xs ys : List ℕ) → All P (xs ++ ys) → All P xs
All-left P [] ys all = All-nil P
All-left P (x ∷ xs) ys all = All-cons P x xs (All-head P x (xs ++ ys) all) (All-left P xs ys (All-tail P x (xs ++ ys) all))

pub All-right : (P : ℕ → Type 0) (xs ys : List ℕ) → All P (xs ++ ys) → All P ys
All-right P [] ys all = all
All-right P (x ∷ xs) ys all = All-right P xs ys (All-tail P x (xs ++ ys) all)

-- ---- they come before

pub all_variants : (P : ℕ → Type 0) (vs : List (ℕ × ℕ)) → All (λ v. P v.1) vs → All P (map (λ v. v.1) vs)
all_variants P [] all = All-nil P
all_variants P (v ∷ vs) all = All-cons P v.1 (map (λ v. v.1) vs) (All-head (λ v. P v.1) v vs all) (all_variants P vs (All-tail (λ v. P v.1) v vs all))

tagged_before : (i tag : ℕ) (vs : List (ℕ × ℕ)) → (nat_lt tag i && list_all (λ v. nat_lt v.1 i) vs) ≡ true → All (λ j. j < i) (tag ∷ map (λ v. v.1) vs)
tagged_before i tag vs is =
    let both = and_parts (nat_lt tag i) (list_all (λ v. nat_lt v.1 i) vs) is in
    All-cons (λ j. j < i) tag (map (λ v. v.1) vs) (ltb-true tag i both.0) (all_variants (λ j. j < i) vs (variants_before i vs both.1))

placed_before : (layout : Layout) (i : ℕ) (cs : List ℕ) → list_all (λ child. nat_lt child i) cs ≡ true → All (λ j. j < i) (placed_nodes layout cs)
placed_before layout i cs is = All-take (λ j. j < i) (length (listed_offsets layout.fields)) cs (all_before i cs is)

pub named_before : (layout : Layout) (i : ℕ) (shape : Shape) → is_node i shape ≡ true → All (λ j. j < i) (named_by layout shape)
named_before layout i (Number s) is = All-nil (λ j. j < i)
named_before layout i (Pair first second) is = placed_before layout i (first ∷ second ∷ []) (pair_before i first second is)
named_before layout i (Never mark) is = All-nil (λ j. j < i)
named_before layout i (Elements count element) is = All-cons (λ j. j < i) element [] (ltb-true element i is) (All-nil (λ j. j < i))
named_before layout i (Fields mark children) is = placed_before layout i children.items is
named_before layout i (Union mark children) is = all_before i children.items is
named_before layout i (Vector lanes) is = All-cons (λ j. j < i) lanes [] (ltb-true lanes i is) (All-nil (λ j. j < i))
named_before layout i (Single mark children) is = placed_before layout i children.items is
named_before layout i (Tagged mark tag variants) is = tagged_before i tag variants.items is
named_before layout i (States prefix tag all) is =
    let both = and_parts (list_all (λ child. nat_lt child i) prefix.items) (nat_lt tag i && list_all (λ v. nat_lt v.1 i) all.items) is in
    All-append (λ j. j < i) (placed_nodes layout prefix.items) (tag ∷ map (λ v. v.1) all.items) (placed_before layout i prefix.items both.0) (tagged_before i tag all.items both.1)

-- ---- they have room

-- a node at this place has room
abbrev HasRoom : List Node → ℕ → Type 0
HasRoom ns j = has_room (placed_at ns j) ≡ true

room_listed : (ns : List Node) (size : ℕ) (os cs : List ℕ) → have_room size (parts_at os (all_at ns cs)) ≡ true → All (HasRoom ns) (take (length os) cs)
room_listed ns size [] cs room = All-nil (HasRoom ns)
room_listed ns size (o ∷ os) [] room = All-nil (HasRoom ns)
room_listed ns size (o ∷ os) (c ∷ cs) room =
    let both = and_parts (nat_le (o + size_of (placed_at ns c)) size && has_room (placed_at ns c)) (have_room size (parts_at os (all_at ns cs))) room in
    All-cons (HasRoom ns) c (take (length os) cs) (and_parts (nat_le (o + size_of (placed_at ns c)) size) (has_room (placed_at ns c)) both.0).1 (room_listed ns size os cs both.1)

room_stacked : (ns : List Node) (size : ℕ) (cs : List ℕ) → have_room size (parts_at_0 (all_at ns cs)) ≡ true → All (HasRoom ns) cs
room_stacked ns size [] room = All-nil (HasRoom ns)
room_stacked ns size (c ∷ cs) room =
    let both = and_parts (nat_le (0 + size_of (placed_at ns c)) size && has_room (placed_at ns c)) (have_room size (parts_at_0 (all_at ns cs))) room in
    All-cons (HasRoom ns) c cs (and_parts (nat_le (0 + size_of (placed_at ns c)) size) (has_room (placed_at ns c)) both.0).1 (room_stacked ns size cs both.1)

-- parts that have room somewhere have it where they end inside
ends_room : (done : List Placed) (size whole : ℕ) (os cs : List ℕ) → end_inside size os (sizes_at done cs) ≡ true → have_room whole (parts_at os (map (placed_in done) cs)) ≡ true →
    have_room size (parts_at os (map (placed_in done) cs)) ≡ true
ends_room done size whole [] cs inside room = refl
ends_room done size whole (o ∷ os) [] inside room = refl
ends_room done size whole (o ∷ os) (c ∷ cs) inside room =
    let p : Placed = placed_in done c in
    let ends = and_parts (nat_le (o + size_of p) size) (end_inside size os (sizes_at done cs)) inside in
    let both = and_parts (nat_le (o + size_of p) whole && has_room p) (have_room whole (parts_at os (map (placed_in done) cs))) room in
    both_true (both_true ends.0 (and_parts (nat_le (o + size_of p) whole) (has_room p) both.0).1) (ends_room done size whole os cs ends.1 both.1)

inside_room : (done : List Placed) (size whole : ℕ) (s : FieldsShape ℕ) (cs : List ℕ) → is_listed s ≡ true → have_places size s (sizes_at done cs) ≡ true →
    have_room whole (parts_at (listed_offsets s) (map (placed_in done) cs)) ≡ true → have_room size (parts_at (listed_offsets s) (map (placed_in done) cs)) ≡ true
inside_room done size whole Primitive cs listed places room = absurd (cc)
inside_room done size whole (AtStart count) cs listed places room = absurd (cc)
inside_room done size whole (Array stride count) cs listed places room = absurd (cc)
inside_room done size whole (Arbitrary offsets order) cs listed places room =
    ends_room done size whole offsets cs (and_parts (end_inside size offsets (sizes_at done cs)) (nat_le (length offsets) 0xFFFF_FF01) places).0 room

own_room : (done : List Placed) (layout : Layout) (shape : Shape) (whole : ℕ) → has_list (meaning done layout shape) ≡ true → keeps_laws done layout shape ≡ true →
    have_room whole (own_fields (meaning done layout shape)) ≡ true → has_room (meaning done layout shape) ≡ true
own_room done layout (Number s) whole listed laws room = refl
own_room done layout (Pair first second) whole listed laws room = absurd (cc)
own_room done layout (Never mark) whole listed laws room = refl
own_room done layout (Elements count element) whole listed laws room = absurd (cc)
own_room done layout (Fields mark children) whole listed laws room =
    inside_room done layout.size whole layout.fields children.items listed (and_parts (has_fields done layout (Fields mark children)) (has_variants done layout (Fields mark children)) laws).0 room
own_room done layout (Union mark children) whole listed laws room = absurd (cc)
own_room done layout (Vector lanes) whole listed laws room = absurd (cc)
own_room done layout (Single mark children) whole listed laws room = absurd (cc)
own_room done layout (Tagged mark tag variants) whole listed laws room = absurd (cc)
own_room done layout (States prefix tag all) whole listed laws room = absurd (cc)

module _ (ns : List Node) (well : are_nodes 0 ns ≡ true) (laws : keep_laws [] ns ≡ true) where
  -- a variant's node has room, where its fields have room in the whole
  variant_room : (j : ℕ) (d : Node) (whole : ℕ) → j < length ns → has_list (placed_at ns j) ≡ true → have_room whole (own_fields (placed_at ns j)) ≡ true → HasRoom ns j
  variant_room j d whole lt listed room =
      let m : Node = get_or ns j d in
      let is : placed_at ns j ≡ meaning (types_in ns) m.layout m.shape = (placed_at-node ns well j m m.shape lt (get_or_default ns j d m lt) refl).1 in
      ap has_room is
      ∙ own_room (types_in ns) m.layout m.shape whole (ap has_list (sym is) ∙ listed) (laws_at ns well laws j d lt) (ap (λ p. have_room whole (own_fields p)) (sym is) ∙ room)

  variants_room : (d : Node) (whole : ℕ) (vs : List (ℕ × ℕ)) → All (λ j. j < length ns) (map (λ v. v.1) vs) → have_lists (types_in ns) (map (λ v. v.1) vs) ≡ true →
      tagged_variants_have_room whole (tagged_variants_in (types_in ns) vs) ≡ true → All (HasRoom ns) (map (λ v. v.1) vs)
  variants_room d whole [] there listed room = All-nil (HasRoom ns)
  variants_room d whole (v ∷ vs) there listed room =
      let lists = and_parts (has_list (placed_at ns v.1)) (have_lists (types_in ns) (map (λ v. v.1) vs)) listed in
      let both = and_parts (have_room whole (own_fields (placed_at ns v.1))) (tagged_variants_have_room whole (tagged_variants_in (types_in ns) vs)) room in
      All-cons (HasRoom ns) v.1 (map (λ v. v.1) vs) (variant_room v.1 d whole (All-head (λ j. j < length ns) v.1 (map (λ v. v.1) vs) there) lists.0 both.0)
      (variants_room d whole vs (All-tail (λ j. j < length ns) v.1 (map (λ v. v.1) vs) there) lists.1 both.1)

  module _ (i : ℕ) (n : Node) (lt : i < length ns) (at : n ≡ get_or ns i n) where
    pub laws_here : keeps_laws (types_in ns) n.layout n.shape ≡ true
    laws_here = subst (λ (m : Node). keeps_laws (types_in ns) m.layout m.shape ≡ true) (sym at) (laws_at ns well laws i n lt)

    -- each variant's node is one of fields that are listed one by one
    pub variants_listed : have_lists (types_in ns) (variant_nodes n.shape) ≡ true
    variants_listed =
        let cs : List ℕ = variant_nodes n.shape in
        let both = and_parts (has_fields (types_in ns) n.layout n.shape) (has_variants (types_in ns) n.layout n.shape) laws_here in
        let rest = and_parts (length (variants_of n.layout.variants) == length cs) (list_all (λ m. nat_le m n.layout.size) (sizes_at (types_in ns) cs) && have_lists (types_in ns) cs) both.1 in
        (and_parts (list_all (λ m. nat_le m n.layout.size) (sizes_at (types_in ns) cs)) (have_lists (types_in ns) cs) rest.1).1

    variants_there : (vs : List (ℕ × ℕ)) → All (λ v. v.1 < i) vs → All (λ j. j < length ns) (map (λ v. v.1) vs)
    variants_there vs before = all_variants (λ j. j < length ns) vs (λ k d below. omega (arith, before k d below, lt))

    room_shape : HasRoom ns i → (shape : Shape) → n.shape ≡ shape → All (HasRoom ns) (named_by n.layout shape)
    room_shape room (Number s) e = All-nil (HasRoom ns)
    room_shape room (Pair first second) e = room_listed ns n.layout.size (listed_offsets n.layout.fields) (first ∷ second ∷ []) (pair_node ns well i n lt at room first second e).2
    room_shape room (Never mark) e = All-nil (HasRoom ns)
    room_shape room (Elements count element) e = All-cons (HasRoom ns) element [] (elements_node ns well i n lt at room count element e).3 (All-nil (HasRoom ns))
    room_shape room (Fields mark children) e = room_listed ns n.layout.size (listed_offsets n.layout.fields) children.items (fields_node ns well i n lt at room mark children e).2
    room_shape room (Union mark children) e = room_stacked ns n.layout.size children.items (union_node ns well i n lt at room mark children e).2
    room_shape room (Vector lanes) e = All-cons (HasRoom ns) lanes [] (vector_node ns well i n lt at room lanes e).2 (All-nil (HasRoom ns))
    room_shape room (Single mark children) e = room_listed ns n.layout.size (listed_offsets n.layout.fields) children.items (single_node ns well i n lt at room mark children e).2
    room_shape room (Tagged mark tag variants) e =
        let facts = tagged_node ns well i n lt at room mark tag variants e in
        All-cons (HasRoom ns) tag (map (λ v. v.1) variants.items) facts.4
        (variants_room n n.layout.size variants.items (variants_there variants.items facts.1) (ap (λ s. have_lists (types_in ns) (variant_nodes s)) (sym e) ∙ variants_listed) facts.5)
    room_shape room (States prefix tag all) e =
        let facts = states_node ns well i n lt at room prefix tag all e in
        let fits = nat_le (state_tag_offset n.layout (length prefix.items) + size_of (placed_at ns tag)) n.layout.size in
        let tagged_variants = tagged_variants_have_room n.layout.size (tagged_variants_in (types_in ns) all.items) in
        let first = and_parts (have_room n.layout.size (parts_at (listed_offsets n.layout.fields) (all_at ns prefix.items))) ((fits && has_room (placed_at ns tag)) && tagged_variants) facts.4 in
        let both = and_parts (fits && has_room (placed_at ns tag)) tagged_variants first.1 in
        All-append (HasRoom ns) (placed_nodes n.layout prefix.items) (tag ∷ map (λ v. v.1) all.items)
        (room_listed ns n.layout.size (listed_offsets n.layout.fields) prefix.items first.0)
        (All-cons (HasRoom ns) tag (map (λ v. v.1) all.items) (and_parts fits (has_room (placed_at ns tag)) both.0).1
        (variants_room n n.layout.size all.items (variants_there all.items facts.2) (ap (λ s. have_lists (types_in ns) (variant_nodes s)) (sym e) ∙ variants_listed) both.1))

    -- all whose data places are a node's own have room where it has
    pub named_room : HasRoom ns i → All (HasRoom ns) (named_by n.layout n.shape)
    named_room room = room_shape room n.shape refl

    -- and come before it
    pub named_first : All (λ j. j < i) (named_by n.layout n.shape)
    named_first = named_before n.layout i n.shape (placed_at-node ns well i n n.shape lt at refl).0

-- ---- from the last node on down

-- Of the nodes from a place on up to the root each that is marked is kept at its place, and what it names is marked; no more were read
-- than there are. Each marked node is one up to the root, has room, and is one that the root's data places rest on.
pub record AreRead (ns : List Node) (root at : ℕ) (needed : List Bool) (kept : List (Option NodeRef)) (read : ℕ) : Type 0 where
  pub marks : length needed ≡ root + 1
  pub long : length kept ≡ root + 1
  pub few : read + at ≤ root + 1
  pub count : read ≡ count_picked (λ i. get_or needed i false) at (length ns - at)
  pub rests : (i : ℕ) → get_or needed i false ≡ true → RestsOn ns root i
  pub first : get_or needed root false ≡ true
  pub room : (i : ℕ) → get_or needed i false ≡ true → HasRoom ns i
  pub stays : (i : ℕ) → at ≤ i → get_or needed i false ≡ true → IsKept kept i
  pub own : (i : ℕ) (n : NodeRef) → get_or kept i None ≡ Some n → (lent_node n ≡ get_or ns i (lent_node n)) × (get_or needed i false ≡ true)
  pub named : (i : ℕ) (n : NodeRef) → get_or kept i None ≡ Some n → 0 < n.layout.now.size → All (λ j. get_or needed j false ≡ true) (named_by n.layout.now n.shape.now)

-- a test that picks none of these places picks none of them
count_none : (p : ℕ → Bool) (k n : ℕ) → ((i : ℕ) → k ≤ i → p i ≡ false) → count_picked p k n ≡ 0
count_none p k zero none = refl
count_none p k (suc n) none = let rest = count_none p (k + 1) n (λ i le. none i (omega (arith, le))) in omega (arith, ap one_if (none k (omega arith)), rest)

-- tests that agree on these places pick as many of them
count_same : (p q : ℕ → Bool) (k n : ℕ) → ((i : ℕ) → k ≤ i → p i ≡ q i) → count_picked p k n ≡ count_picked q k n
count_same p q k zero same = refl
count_same p q k (suc n) same = let rest = count_same p q (k + 1) n (λ i le. same i (omega (arith, le))) in omega (arith, ap one_if (same k (omega arith)), rest)

-- two tests' truths that follow from each other are one
same_truth : (a b : Bool) → (a ≡ true → b ≡ true) → (b ≡ true → a ≡ true) → a ≡ b
same_truth true b to back = sym (to refl)
same_truth false true to back = back refl
same_truth false false to back = refl

-- there is one count of the nodes that a root's data places rest on
pub one_count : (ns : List Node) (root n m : ℕ) → AreVisits ns root n → AreVisits ns root m → n ≡ m
one_count ns root n m a b =
    a.many
    ∙ count_same a.nodes b.nodes 0 (length ns) (λ i le. same_truth (a.nodes i) (b.nodes i) (λ h. (b.rest i).1 ((a.rest i).0 h)) (λ h. (a.rest i).1 ((b.rest i).0 h)))
    ∙ sym b.many

none_marked : (n i : ℕ) → get_or (replicate n false) i false ≡ false
none_marked zero i = refl
none_marked (suc n) zero = refl
none_marked (suc n) (suc i) = none_marked n i

none_kept : (n i : ℕ) → get_or {A = Option NodeRef} (replicate n None) i None ≡ None
none_kept zero i = refl
none_kept (suc n) zero = refl
none_kept (suc n) (suc i) = none_kept n i

module _ (ns : List Node) (root : ℕ) where
  -- at first the root is marked
  pub read_first : (needed : List Bool) (kept : List (Option NodeRef)) (visits : ℕ) → visits ≡ 0 → needed ≡ replicate (root + 1) false → kept ≡ replicate (root + 1) None → HasRoom ns root →
      AreRead ns root (root + 1) (set needed root true) kept visits
  read_first needed kept visits no_nodes_read unmarked_bytes empty room =
      let old : List Bool = replicate (root + 1) false in
      let only : (i : ℕ) → get_or (set old root true) i false ≡ true → i ≡ root = λ i h.
      ⊎_elim (λ (same : i ≡ root). same)
      (λ (other : i ≢ root). let clash : true ≡ false = sym h ∙ get_or-set_other old root i true false other ∙ none_marked (root + 1) i in absurd (cc)) (cases_eq i root) in
      let long : length old ≡ root + 1 = length-replicate (root + 1) false in
      let absent : (i : ℕ) (n : NodeRef) → get_or kept i None ≡ Some n → ⊥ = λ i n h.
      let clash : Some n ≡ None = sym h ∙ ap (λ k. get_or k i None) empty ∙ none_kept (root + 1) i in cc in
      let later : (i : ℕ) → root + 1 ≤ i → get_or (set old root true) i false ≡ false = λ i le. false_from_ne_true (get_or (set old root true) i false) (λ h. absurd (omega (arith, le, only i h))) in
      subst (λ xs. AreRead ns root (root + 1) (set xs root true) kept visits) (sym unmarked_bytes) record {
        marks = length-set old root true ∙ long;
        long = ap length empty ∙ length-replicate (root + 1) None;
        few = omega (arith, no_nodes_read);
        count = no_nodes_read ∙ sym (count_none (λ i. get_or (set old root true) i false) (root + 1) (length ns - (root + 1)) later);
        rests = λ i h. subst (RestsOn ns root) (sym (only i h)) (λ set closed. closed.first);
        first = get_or-set_same old root true false (omega (arith, long));
        room = λ i h. subst (HasRoom ns) (sym (only i h)) room;
        stays = λ i le h. absurd (omega (arith, le, only i h));
        own = λ i n h. absurd (absent i n h);
        named = λ i n h some. absurd (absent i n h);
      }

  module _ (k : ℕ) (needed : List Bool) (kept : List (Option NodeRef)) (visits : ℕ) (read : AreRead ns root (k + 1) needed kept visits) where
    module _ (well : are_nodes 0 ns ≡ true) (laws : keep_laws [] ns ≡ true) (there : root < length ns) (marked : get_or needed k false ≡ true)
        (n : NodeRef) (at : lent_node n ≡ get_or ns k (lent_node n)) (below : k < root + 1) where
      in_nodes : k < length ns
      in_nodes = omega (arith, there, below)

      abbrev IsMarked : List Bool → ℕ → Type 0
      IsMarked marks i = get_or marks i false ≡ true

      -- it is kept, and no more is marked but what it names
      read_on : (new : List Bool) (now : ℕ) → now ≡ visits + 1 → length new ≡ length needed → ((i : ℕ) → IsMarked needed i → IsMarked new i) → ((i : ℕ) → k ≤ i → IsMarked new i → IsMarked needed i)
          → ((i : ℕ) → IsMarked new i → HasRoom ns i) → ((i : ℕ) → IsMarked new i → RestsOn ns root i) → (0 < n.layout.now.size → All (IsMarked new) (named_by n.layout.now n.shape.now)) → AreRead ns root k new (set kept k (Some n)) now
      read_on new now more long grows only room rests named = record {
        marks = long ∙ read.marks;
        long = length-set kept k (Some n) ∙ read.long;
        few = omega (arith, read.few, more);
        count = counted;
        rests = rests;
        first = grows root read.first;
        room = room;
        stays = λ i le h.
            ⊎_elim (λ (same : i ≡ k). (n, ap (λ j. get_or (set kept k (Some n)) j None) same ∙ get_or-set_same kept k (Some n) None within))
            (λ (other : i ≢ k).
            let old = read.stays i (omega (arith, le, other)) (only i le h) in
            (old.0, get_or-set_other kept k i (Some n) None other ∙ old.1))
            (cases_eq i k);
        own = λ i m h.
            ⊎_elim (λ (same : i ≡ k).
            let here : n ≡ m = here_is i m same h in
            (subst (λ (x : NodeRef). lent_node x ≡ get_or ns i (lent_node x)) here (subst (λ j. lent_node n ≡ get_or ns j (lent_node n)) (sym same) at), subst (IsMarked new) (sym same) (grows k marked)))
            (λ (other : i ≢ k).
            let old = read.own i m (sym (get_or-set_other kept k i (Some n) None other) ∙ h) in
            (old.0, grows i old.1))
            (cases_eq i k);
        named = λ i m h some.
            ⊎_elim (λ (same : i ≡ k).
            let here : n ≡ m = here_is i m same h in
            subst (λ (x : NodeRef). All (IsMarked new) (named_by x.layout.now x.shape.now)) here (named (subst (λ (x : NodeRef). 0 < x.layout.now.size) (sym here) some)))
            (λ (other : i ≢ k).
            let old = read.named i m (sym (get_or-set_other kept k i (Some n) None other) ∙ h) some in
            λ j d below. grows _ (old j d below))
            (cases_eq i k);
      }
        where
          within : k < length kept
          within = omega (arith, below, read.long)

          counted : now ≡ count_picked (λ i. get_or new i false) k (length ns - k)
          counted =
              let p : ℕ → Bool = λ i. get_or new i false in
              let rest : ℕ = length ns - (k + 1) in
              let here : p k ≡ true = grows k marked in
              let same = count_same p (λ i. get_or needed i false) (k + 1) rest (λ i le. same_truth (p i) (get_or needed i false) (only i (omega (arith, le))) (grows i)) in
              let one : one_if (p k) ≡ 1 = ap one_if here in
              let long : length ns - k ≡ suc rest = omega (arith, in_nodes) in
              let all : now ≡ one_if (p k) + count_picked p (k + 1) rest = omega (arith, more, read.count, same, one) in
              all ∙ ap (count_picked p k) (sym long)

          here_is : (i : ℕ) (m : NodeRef) → i ≡ k → get_or (set kept k (Some n)) i None ≡ Some m → n ≡ m
          here_is i m same h =
              let both : Some n ≡ Some m = sym (get_or-set_same kept k (Some n) None within) ∙ ap (λ j. get_or (set kept k (Some n)) j None) (sym same) ∙ h in
              cc

      -- it has no bytes
      pub read_bare : (now : ℕ) → now ≡ visits + 1 → (0 < n.layout.now.size → ⊥) → AreRead ns root k needed (set kept k (Some n)) now
      read_bare now more bare = read_on needed now more refl (λ i h. h) (λ i le h. h) read.room read.rests (λ some. absurd (bare some))

      -- it has bytes
      pub read_more : (new : List Bool) (now : ℕ) → now ≡ visits + 1 → 0 < n.layout.now.size → MarksPlaces needed new (named_by n.layout.now n.shape.now) → AreRead ns root k new (set kept k (Some n)) now
      read_more new now more some marks =
          let cs : List ℕ = named_by n.layout.now n.shape.now in
          let before : All (λ j. j < k) cs = named_first ns well laws k (lent_node n) in_nodes at in
          read_on new now more marks.0
          (λ i h. marks.1 i ∙ ap (λ b. b || is_among cs i) h)
          (λ i le h. ⊎_elim (λ (old : IsMarked needed i). old) (λ (new_one : is_among cs i ≡ true). absurd (omega (arith, le, among_all (λ j. j < k) cs i before new_one)))
          (or_cases (get_or needed i false) (is_among cs i) (sym (marks.1 i) ∙ h)))
          (λ i h. ⊎_elim (λ (old : IsMarked needed i). read.room i old)
          (λ (new_one : is_among cs i ≡ true). among_all (HasRoom ns) cs i (named_room ns well laws k (lent_node n) in_nodes at (read.room k marked)) new_one)
          (or_cases (get_or needed i false) (is_among cs i) (sym (marks.1 i) ∙ h)))
          (λ i h. ⊎_elim (λ (old : IsMarked needed i). read.rests i old)
          (λ (new_one : is_among cs i ≡ true). λ set closed. closed.step k i (read.rests k marked set closed) (lent_node n, in_nodes, at, some, new_one))
          (or_cases (get_or needed i false) (is_among cs i) (sym (marks.1 i) ∙ h)))
          (λ some j d lt. marks.1 (get_or cs j d) ∙ or_right (get_or needed (get_or cs j d) false) (is_among cs (get_or cs j d)) (among_own cs j d lt))

  -- a node that isn't needed isn't read
  pub read_skip : (k : ℕ) (needed : List Bool) (kept : List (Option NodeRef)) (visits : ℕ) → root < length ns → k < root + 1 → AreRead ns root (k + 1) needed kept visits → get_or needed k false ≡ false →
      AreRead ns root k needed kept visits
  read_skip k needed kept visits there below read unmarked_bytes = record {
    marks = read.marks;
    long = read.long;
    few = omega (arith, read.few);
    count =
        let p : ℕ → Bool = λ i. get_or needed i false in
        let rest : ℕ = length ns - (k + 1) in
        let long : length ns - k ≡ suc rest = omega (arith, there, below) in
        let all : visits ≡ one_if (p k) + count_picked p (k + 1) rest = omega (arith, read.count, ap one_if unmarked_bytes) in
        all ∙ ap (count_picked p k) (sym long);
    rests = read.rests;
    first = read.first;
    room = read.room;
    stays = λ i le h.
        ⊎_elim (λ (same : i ≡ k). let clash : true ≡ false = sym h ∙ ap (λ j. get_or needed j false) same ∙ unmarked_bytes in absurd (cc))
        (λ (other : i ≢ k). read.stays i (omega (arith, le, other)) h) (cases_eq i k);
    own = read.own;
    named = read.named;
  }

  -- all that were read are those that the root's data places rest on
  read_counted : (needed : List Bool) (kept : List (Option NodeRef)) (visits : ℕ) → AreRead ns root 0 needed kept visits → AreVisits ns root visits
  read_counted needed kept visits read =
      let all : length ns - 0 ≡ length ns = omega arith in
      record {
        nodes = λ i. get_or needed i false;
        rest = λ i. (read.rests i, λ rests. rests (λ j. get_or needed j false) closed);
        many = read.count ∙ ap (count_picked (λ i. get_or needed i false) 0) all;
      }
    where
      closed : IsClosed ns root (λ j. get_or needed j false)
      closed = record {
        first = read.first;
        step = λ i j marked from.
            let keeps = read.stays i (omega arith) marked in
            let own = read.own i keeps.0 keeps.1 in
            let same : lent_node keeps.0 ≡ from.0 = own.0 ∙ get_or_default ns i (lent_node keeps.0) from.0 from.1 ∙ sym from.2 in
            let some : 0 < keeps.0.layout.now.size = subst (λ (m : Node). 0 < m.layout.size) (sym same) from.3 in
            among_all (λ m. get_or needed m false ≡ true) (named_by keeps.0.layout.now keeps.0.shape.now) j (read.named i keeps.0 keeps.1 some)
            (subst (λ (m : Node). is_among (named_by m.layout m.shape) j ≡ true) (sym same) from.4);
      }

  pub counted_all : (at : ℕ) (needed : List Bool) (kept : List (Option NodeRef)) (visits count : ℕ) → AreRead ns root at needed kept visits → at ≡ 0 → count ≡ visits → AreVisits ns root count
  counted_all at needed kept visits count read none same =
      subst (AreVisits ns root) (sym same) (read_counted needed kept visits (subst (λ i. AreRead ns root i needed kept visits) none read))

  -- all are read
  pub read_all : (needed : List Bool) (kept : List (Option NodeRef)) (visits : ℕ) → are_nodes 0 ns ≡ true → keep_laws [] ns ≡ true → root < length ns →
      AreRead ns root 0 needed kept visits → AreNeeded ns kept
  read_all needed kept visits well laws there read = record {
    well = well;
    laws = laws;
    some = omega (arith, read.long);
    long = omega (arith, read.long, there);
    last = let at : length kept - 1 ≡ root = omega (arith, read.long) in subst (IsKept kept) (sym at) (read.stays root (omega arith) read.first);
    own = λ i n h. let own = read.own i n h in (own.0, read.room i own.1);
    named = λ i n h some j among.
        read.stays j (omega arith) (among_all (λ m. get_or needed m false ≡ true) (named_by n.layout.now n.shape.now) j (read.named i n h some) among);
  }
