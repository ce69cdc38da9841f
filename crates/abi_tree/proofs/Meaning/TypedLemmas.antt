-- What nodes are, as handles see them: each by what its fields and its variants are, and each keeps the laws.
use Rattle.std.proofs.Common.{Bool, ◌≡◌, ℕ, zero, suc, ◌+◌, ◌*◌, ◌<◌, ◌≤◌, ◌∙◌, true, false, List, [], ◌∷◌, ◌++◌, ap, arith, get_or, length, length-append, refl, replicate, subst, sym}
use Rattle.std.specs.Prelude.{◌&&◌, ◌==◌, None, nat_le, nat_lt}
use Rattle.std.specs.Cmp.Derive.{both_true}
use Rattle.std.specs.List.{list_all}
use Rattle.std.proofs.Math.Nat.{mul-le-mul_left}
use Rattle.std.proofs.lemmas.Bool.{and_parts, eqb-true, false≢true, leb-true, ltb-true}
use Rattle.std.proofs.lemmas.List.{get_or-map, get_or-replicate, get_or_default, get_or_append_left, get_or_push, length-map, length-replicate}
use Rattle.std.proofs.lemmas.List.Folds.{list_all-append, list_all-map}
use Rattle.std.proofs.lemmas.Option.{unwrap_or-slice_get}
use Rattle.abi_scalar.specs.declared.fields_shape.FieldsShape.{FieldsShape}
use Rattle.abi_scalar.specs.declared.fields_shape.FieldsShape.TheVariants.{Primitive, Union as AtStart, Array, Arbitrary}
use Rattle.abi_scalar.specs.Shape.{field_count, field_offset}
use Rattle.abi_scalar.specs.Variant.{variants_of}
use Rattle.abi_types.specs.Ty.Typed.{Marks, Typed, typed, no_layout, no_type, layout_in}
use Rattle.abi_types.specs.Ty.Lawful.{CanBeNamed, IsWellFormedType}
use Rattle.abi_tree.specs.declared.mark.Mark.{Mark}
use Rattle.abi_tree.specs.declared.mark.Mark.TheVariants as mark_is
use Rattle.abi_tree.specs.declared.node.Shape.{Shape}
use Rattle.abi_tree.specs.declared.node.Shape.TheVariants.{Scalar, Pair, Never, Elements, Fields, Union, Vector, Single, Tagged, States}
use Rattle.abi_tree.specs.declared.node.Node.{Node}
use Rattle.abi_tree.specs.Mark.{marks_by}
use Rattle.abi_tree.specs.Placed.{Placed, layout_of, size_of}
use Rattle.abi_scalar.specs.Layout.{Layout}
use Rattle.abi_tree.specs.Nodes.{placed_at, placed_in, types_in}
use Rattle.abi_tree.specs.Well.{are_nodes, is_node}
use Rattle.abi_tree.specs.Typed.{all_typed, field_by, field_nodes, marks_in, typed_node, type_by, type_in, typed_at, variant_nodes}
use Rattle.abi_tree.specs.Laws.{end_inside, has_elements, has_fields, has_list, has_variants, have_lists, have_places, keep_laws, keeps_laws, sizes_at}
use Rattle.abi_tree.proofs.Meaning.NodesLemmas.{children_before, each_tested, layout_of-placed_at, map-below, pair_before}

all_typed-first : (done : List Typed) (ns : List Node) (i : ℕ) → i < length done → type_in (all_typed done ns) i ≡ type_in done i
all_typed-first done [] i lt = refl
all_typed-first done (m ∷ ns) i lt =
    let x = typed_node done m in
    all_typed-first (done ++ x ∷ []) ns i (omega (arith, length-append done (x ∷ []))) ∙ get_or_append_left done (x ∷ []) no_type i lt

layout-tag_layout : (done : List Typed) (ns : List Node) (i j : ℕ) (d : Node) → j ≡ length done + i → i < length ns →
    layout_in (type_in (all_typed done ns) j) ≡ (get_or ns i d).layout
layout-tag_layout done [] i j d e lt = absurd (omega arith)
layout-tag_layout done (m ∷ ns) zero j d e lt =
    let x = typed_node done m in
    let at : length done ≡ j = omega arith in
    ap layout_in (all_typed-first (done ++ x ∷ []) ns j (omega (arith, length-append done (x ∷ []))) ∙ get_or_push done x no_type j at)
layout-tag_layout done (m ∷ ns) (suc i) j d e lt =
    let x = typed_node done m in
    layout-tag_layout (done ++ x ∷ []) ns i j d (omega (arith, length-append done (x ∷ []))) (omega arith)

-- a node's layout is that of what it is
pub layout-typed_at : (ns : List Node) (i : ℕ) (d : Node) → i < length ns → layout_in (typed_at ns i) ≡ (get_or ns i d).layout
layout-typed_at ns i d lt = layout-tag_layout [] ns i i d (omega arith) lt

-- it is that of what it means
pub layout-placed : (ns : List Node) (i : ℕ) → i < length ns → layout_in (typed_at ns i) ≡ layout_of (placed_at ns i)
layout-placed ns i lt =
    let d : Node = record { layout = no_layout; shape = Never mark_is.Plain } in
    layout-typed_at ns i d lt ∙ sym (layout_of-placed_at ns i d lt)

types_by-same : (xs ys : List Typed) (n : ℕ) → ((i : ℕ) → i < n → type_in xs i ≡ type_in ys i) → (cs : List ℕ) → list_all (λ child. nat_lt child n) cs ≡ true →
    type_by xs cs ≡ type_by ys cs
types_by-same xs ys n same cs below =
    let by : List Typed → ℕ → Typed = λ ts i. get_or ts i no_type in
    ap by (map-below (type_in xs) (type_in ys) n same cs below)

-- the nodes of a node's fields come before it
pub fields_below : (n : ℕ) (shape : Shape) → is_node n shape ≡ true → list_all (λ child. nat_lt child n) (field_nodes shape) ≡ true
fields_below n (Scalar s) is = refl
fields_below n (Pair first second) is = pair_before n first second is
fields_below n (Never mark) is = refl
fields_below n (Elements count element) is = refl
fields_below n (Fields mark children) is = is
fields_below n (Union mark children) is = is
fields_below n (Vector lanes) is = both_true is refl
fields_below n (Single mark children) is = is
fields_below n (Tagged mark tag variants) is = both_true (and_parts (nat_lt tag n) (list_all (λ v. nat_lt v.1 n) variants.items) is).0 refl
fields_below n (States prefix tag all) is =
    let both = and_parts (list_all (λ child. nat_lt child n) prefix.items) (nat_lt tag n && list_all (λ v. nat_lt v.1 n) all.items) is in
    let beside = and_parts (nat_lt tag n) (list_all (λ v. nat_lt v.1 n) all.items) both.1 in
    list_all-append (λ child. nat_lt child n) prefix.items (tag ∷ []) ∙ both_true both.0 (both_true beside.0 refl)

-- and so do those of its variants
pub variants_below : (n : ℕ) (shape : Shape) → is_node n shape ≡ true → list_all (λ child. nat_lt child n) (variant_nodes shape) ≡ true
variants_below n (Scalar s) is = refl
variants_below n (Pair first second) is = refl
variants_below n (Never mark) is = refl
variants_below n (Elements count element) is = refl
variants_below n (Fields mark children) is = refl
variants_below n (Union mark children) is = refl
variants_below n (Vector lanes) is = refl
variants_below n (Single mark children) is = refl
variants_below n (Tagged mark tag variants) is =
    list_all-map (λ child. nat_lt child n) (λ (v : ℕ × ℕ). v.1) variants.items ∙ (and_parts (nat_lt tag n) (list_all (λ v. nat_lt v.1 n) variants.items) is).1
variants_below n (States prefix tag all) is =
    let both = and_parts (list_all (λ child. nat_lt child n) prefix.items) (nat_lt tag n && list_all (λ v. nat_lt v.1 n) all.items) is in
    let beside = and_parts (nat_lt tag n) (list_all (λ v. nat_lt v.1 n) all.items) both.1 in
    list_all-map (λ child. nat_lt child n) (λ (v : ℕ × ℕ). v.1) all.items ∙ beside.1

fields-same : (xs ys : List Typed) (n : ℕ) → ((i : ℕ) → i < n → type_in xs i ≡ type_in ys i) → (shape : Shape) → is_node n shape ≡ true →
    field_by xs shape ≡ field_by ys shape
fields-same xs ys n same (Scalar s) is = types_by-same xs ys n same [] refl
fields-same xs ys n same (Pair first second) is = types_by-same xs ys n same (first ∷ second ∷ []) (pair_before n first second is)
fields-same xs ys n same (Never mark) is = types_by-same xs ys n same [] refl
fields-same xs ys n same (Elements count element) is =
    let each : Typed → ℕ → Typed = λ t i. t in
    ap each (same element (ltb-true element n is))
fields-same xs ys n same (Fields mark children) is = types_by-same xs ys n same children.items is
fields-same xs ys n same (Union mark children) is = types_by-same xs ys n same children.items is
fields-same xs ys n same (Vector lanes) is = types_by-same xs ys n same (lanes ∷ []) (both_true is refl)
fields-same xs ys n same (Single mark children) is = types_by-same xs ys n same children.items is
fields-same xs ys n same (Tagged mark tag variants) is = types_by-same xs ys n same (tag ∷ []) (fields_below n (Tagged mark tag variants) is)
fields-same xs ys n same (States prefix tag all) is = types_by-same xs ys n same (prefix.items ++ tag ∷ []) (fields_below n (States prefix tag all) is)

tag_layout-same : (xs ys : List Typed) (n : ℕ) → ((i : ℕ) → i < n → type_in xs i ≡ type_in ys i) → (m : Node) → is_node n m.shape ≡ true → typed_node xs m ≡ typed_node ys m
tag_layout-same xs ys n same m is =
    ap (λ fields. typed m.layout (marks_in m.shape) fields (type_by xs (variant_nodes m.shape))) (fields-same xs ys n same m.shape is)
    ∙ ap (typed m.layout (marks_in m.shape) (field_by ys m.shape)) (types_by-same xs ys n same (variant_nodes m.shape) (variants_below n m.shape is))

type-tag_layout : (done : List Typed) (ns : List Node) (i j : ℕ) (d : Node) → j ≡ length done + i → i < length ns → is_node j (get_or ns i d).shape ≡ true →
    type_in (all_typed done ns) j ≡ typed_node (all_typed done ns) (get_or ns i d)
type-tag_layout done [] i j d e lt is = absurd (omega arith)
type-tag_layout done (m ∷ ns) zero j d e lt is =
    let x = typed_node done m in
    let at : length done ≡ j = omega arith in
    let more = done ++ x ∷ [] in
    let long = length-append done (x ∷ []) in
    let same : (k : ℕ) → k < j → type_in done k ≡ type_in (all_typed more ns) k = λ k less.
    sym (all_typed-first more ns k (omega arith) ∙ get_or_append_left done (x ∷ []) no_type k (omega arith)) in
    all_typed-first more ns j (omega arith) ∙ get_or_push done x no_type j at ∙ tag_layout-same done (all_typed more ns) j same m is
type-tag_layout done (m ∷ ns) (suc i) j d e lt is =
    let x = typed_node done m in
    type-tag_layout (done ++ x ∷ []) ns i j d (omega (arith, length-append done (x ∷ []))) (omega arith) is

-- what a node is, by what its fields and its variants are
pub typed_at-node : (ns : List Node) → are_nodes 0 ns ≡ true → (i : ℕ) (n : Node) → i < length ns → n ≡ get_or ns i n → typed_at ns i ≡ typed_node (all_typed [] ns) n
typed_at-node ns well i n lt at =
    type-tag_layout [] ns i i n (omega arith) lt (children_before ns i n lt well) ∙ ap (typed_node (all_typed [] ns)) (sym at)

sizes-same : (xs ys : List Placed) (n : ℕ) → ((i : ℕ) → i < n → placed_in xs i ≡ placed_in ys i) → (cs : List ℕ) → list_all (λ child. nat_lt child n) cs ≡ true →
    sizes_at xs cs ≡ sizes_at ys cs
sizes-same xs ys n same [] below = refl
sizes-same xs ys n same (c ∷ cs) below =
    let both = and_parts (nat_lt c n) (list_all (λ child. nat_lt child n) cs) below in
    let here : size_of (placed_in xs c) ≡ size_of (placed_in ys c) = ap size_of (same c (ltb-true c n both.0)) in
    let rest : sizes_at xs cs ≡ sizes_at ys cs = sizes-same xs ys n same cs both.1 in
    ap (λ size. size ∷ sizes_at xs cs) here ∙ ap (λ sizes. size_of (placed_in ys c) ∷ sizes) rest

lists-same : (xs ys : List Placed) (n : ℕ) → ((i : ℕ) → i < n → placed_in xs i ≡ placed_in ys i) → (cs : List ℕ) → list_all (λ child. nat_lt child n) cs ≡ true →
    have_lists xs cs ≡ have_lists ys cs
lists-same xs ys n same [] below = refl
lists-same xs ys n same (c ∷ cs) below =
    let both = and_parts (nat_lt c n) (list_all (λ child. nat_lt child n) cs) below in
    ap (λ p. has_list p && have_lists xs cs) (same c (ltb-true c n both.0)) ∙ ap (λ b. has_list (placed_in ys c) && b) (lists-same xs ys n same cs both.1)

places-same : (xs ys : List Placed) (n : ℕ) → ((i : ℕ) → i < n → placed_in xs i ≡ placed_in ys i) → (layout : Layout) (cs : List ℕ) → list_all (λ child. nat_lt child n) cs ≡ true →
    have_places layout.size layout.fields (sizes_at xs cs) ≡ have_places layout.size layout.fields (sizes_at ys cs)
places-same xs ys n same layout cs below = ap (have_places layout.size layout.fields) (sizes-same xs ys n same cs below)

has_fields-same : (xs ys : List Placed) (n : ℕ) → ((i : ℕ) → i < n → placed_in xs i ≡ placed_in ys i) → (layout : Layout) (shape : Shape) → is_node n shape ≡ true →
    has_fields xs layout shape ≡ has_fields ys layout shape
has_fields-same xs ys n same layout (Scalar s) is = refl
has_fields-same xs ys n same layout (Pair first second) is = places-same xs ys n same layout (first ∷ second ∷ []) (pair_before n first second is)
has_fields-same xs ys n same layout (Never mark) is = refl
has_fields-same xs ys n same layout (Elements count element) is =
    ap (λ p. has_elements layout.size layout.fields (size_of p)) (same element (ltb-true element n is))
has_fields-same xs ys n same layout (Fields mark children) is = places-same xs ys n same layout children.items is
has_fields-same xs ys n same layout (Union mark children) is = places-same xs ys n same layout children.items is
has_fields-same xs ys n same layout (Vector lanes) is = places-same xs ys n same layout (lanes ∷ []) (both_true is refl)
has_fields-same xs ys n same layout (Single mark children) is = places-same xs ys n same layout children.items is
has_fields-same xs ys n same layout (Tagged mark tag variants) is = places-same xs ys n same layout (tag ∷ []) (fields_below n (Tagged mark tag variants) is)
has_fields-same xs ys n same layout (States prefix tag all) is =
    places-same xs ys n same layout (prefix.items ++ tag ∷ []) (fields_below n (States prefix tag all) is)

has_variants-same : (xs ys : List Placed) (n : ℕ) → ((i : ℕ) → i < n → placed_in xs i ≡ placed_in ys i) → (layout : Layout) (shape : Shape) → is_node n shape ≡ true →
    has_variants xs layout shape ≡ has_variants ys layout shape
has_variants-same xs ys n same layout shape is =
    let cs : List ℕ = variant_nodes shape in
    let many : Bool = length (variants_of layout.variants) == length cs in
    ap (λ sizes. many && (list_all (λ m. nat_le m layout.size) sizes && have_lists xs cs)) (sizes-same xs ys n same cs (variants_below n shape is))
    ∙ ap (λ b. many && (list_all (λ m. nat_le m layout.size) (sizes_at ys cs) && b)) (lists-same xs ys n same cs (variants_below n shape is))

laws-same : (xs ys : List Placed) (n : ℕ) → ((i : ℕ) → i < n → placed_in xs i ≡ placed_in ys i) → (layout : Layout) (shape : Shape) → is_node n shape ≡ true →
    keeps_laws xs layout shape ≡ keeps_laws ys layout shape
laws-same xs ys n same layout shape is =
    ap (λ b. b && has_variants xs layout shape) (has_fields-same xs ys n same layout shape is)
    ∙ ap (λ b. has_fields ys layout shape && b) (has_variants-same xs ys n same layout shape is)

-- each node keeps the laws, after all
pub laws_at : (ns : List Node) → are_nodes 0 ns ≡ true → keep_laws [] ns ≡ true → (i : ℕ) (d : Node) → i < length ns →
    keeps_laws (types_in ns) (get_or ns i d).layout (get_or ns i d).shape ≡ true
laws_at = each_tested keeps_laws keep_laws (λ done m ns. refl) laws-same

-- the node at an index is below n, where all are
pub place_below : (n : ℕ) (cs : List ℕ) → list_all (λ child. nat_lt child n) cs ≡ true → (k : ℕ) → k < length cs → get_or cs k 0 < n
place_below n [] below k lt = absurd (omega arith)
place_below n (c ∷ cs) below zero lt = ltb-true c n (and_parts (nat_lt c n) (list_all (λ child. nat_lt child n) cs) below).0
place_below n (c ∷ cs) below (suc k) lt = place_below n cs (and_parts (nat_lt c n) (list_all (λ child. nat_lt child n) cs) below).1 k (omega arith)

-- the type at an index is that of the node at the index
pub type_by-place : (done : List Typed) (cs : List ℕ) (k : ℕ) → k < length cs → type_by done cs k ≡ type_in done (get_or cs k 0)
type_by-place done cs k lt = get_or-map (type_in done) cs k 0 no_type lt

-- parts that end inside are as many as their offsets
ends-same : (whole : ℕ) (offsets sizes : List ℕ) → end_inside whole offsets sizes ≡ true → length offsets ≡ length sizes
ends-same whole [] [] is = refl
ends-same whole [] (m ∷ sizes) is = absurd (false≢true is)
ends-same whole (o ∷ offsets) [] is = absurd (false≢true is)
ends-same whole (o ∷ offsets) (m ∷ sizes) is =
    let rest = ends-same whole offsets sizes (and_parts (nat_le (o + m) whole) (end_inside whole offsets sizes) is).1 in
    omega (arith, rest)

-- each of them does
ends-each : (whole : ℕ) (offsets sizes : List ℕ) → end_inside whole offsets sizes ≡ true → (k : ℕ) → k < length sizes → get_or offsets k 0 + get_or sizes k 0 ≤ whole
ends-each whole offsets [] is k lt = absurd (omega arith)
ends-each whole [] (m ∷ sizes) is k lt = absurd (false≢true is)
ends-each whole (o ∷ offsets) (m ∷ sizes) is zero lt = leb-true (o + m) whole (and_parts (nat_le (o + m) whole) (end_inside whole offsets sizes) is).0
ends-each whole (o ∷ offsets) (m ∷ sizes) is (suc k) lt =
    ends-each whole offsets sizes (and_parts (nat_le (o + m) whole) (end_inside whole offsets sizes) is).1 k (omega arith)

-- Fields of these sizes have places in the whole.
record ArePlaced (whole : ℕ) (fields : FieldsShape ℕ) (sizes : List ℕ) : Type 0 where
  pub count : field_count fields ≡ length sizes
  pub inside : (k : ℕ) → k < length sizes → field_offset fields k + get_or sizes k 0 ≤ whole
  pub named : (field : ℕ → Typed) → CanBeNamed fields field

placed : (whole : ℕ) (fields : FieldsShape ℕ) (sizes : List ℕ) → have_places whole fields sizes ≡ true → ArePlaced whole fields sizes
placed whole Primitive [] is = record { count = refl; inside = λ k lt. absurd (omega arith); named = λ field. omega arith }
placed whole Primitive (m ∷ sizes) is = absurd (false≢true is)
placed whole (Array stride count) [] is = absurd (false≢true is)
placed whole (Array stride count) (m ∷ sizes) is = absurd (false≢true is)
placed whole (AtStart count) sizes is =
    let both = and_parts (end_inside whole (replicate count 0) sizes) (nat_le count 0xFFFF_FF01) is in
    let same : count ≡ length sizes = sym (length-replicate count 0) ∙ ends-same whole (replicate count 0) sizes both.0 in
    record {
      count = same;
      inside = λ k lt.
          let below : k < count = omega arith in
          subst (λ o. o + get_or sizes k 0 ≤ whole) (get_or-replicate count k 0 0 below) (ends-each whole (replicate count 0) sizes both.0 k lt);
      named = λ field. leb-true count 0xFFFF_FF01 both.1;
    }
placed whole (Arbitrary offsets order) sizes is =
    let both = and_parts (end_inside whole offsets sizes) (nat_le (length offsets) 0xFFFF_FF01) is in
    record {
      count = ends-same whole offsets sizes both.0;
      inside = λ k lt. subst (λ o. o + get_or sizes k 0 ≤ whole) (sym (unwrap_or-slice_get offsets k 0)) (ends-each whole offsets sizes both.0 k lt);
      named = λ field. leb-true (length offsets) 0xFFFF_FF01 both.1;
    }

-- where fields stand in a list of nodes, they are as many
pub field_count-nodes : (ps : List Placed) (layout : Layout) (cs : List ℕ) → have_places layout.size layout.fields (sizes_at ps cs) ≡ true → field_count layout.fields ≡ length cs
field_count-nodes ps layout cs is = (placed layout.size layout.fields (sizes_at ps cs) is).count ∙ length-map cs (λ i. size_of (placed_in ps i))

-- The fields of a layout are lawful types, and lie where they may.
record HasWellFormedFields (layout : Layout) (field : ℕ → Typed) : Type 0 where
  pub inside : (k : ℕ) → k < field_count layout.fields → field_offset layout.fields k + (layout_in (field k)).size ≤ layout.size
  pub named : CanBeNamed layout.fields field
  pub kept : (k : ℕ) → k < field_count layout.fields → IsWellFormedType (field k)

-- The variants of a layout are lawful types, and end inside.
record HasWellFormedVariants (layout : Layout) (variant : ℕ → Typed) : Type 0 where
  pub within : (k : ℕ) → k < length (variants_of layout.variants) → (layout_in (variant k)).size ≤ layout.size
  pub kept : (k : ℕ) → k < length (variants_of layout.variants) → IsWellFormedType (variant k)

-- as many variants as the layout has stand in the list of nodes
pub variant_count-nodes : (ps : List Placed) (layout : Layout) (shape : Shape) → has_variants ps layout shape ≡ true → length (variants_of layout.variants) ≡ length (variant_nodes shape)
variant_count-nodes ps layout shape is =
    eqb-true (length (variants_of layout.variants)) (length (variant_nodes shape))
    (and_parts (length (variants_of layout.variants) == length (variant_nodes shape)) (list_all (λ m. nat_le m layout.size) (sizes_at ps (variant_nodes shape)) && have_lists ps (variant_nodes shape)) is).0

-- each of them ends inside the whole, and lists its fields one by one
pub variants_listed : (ps : List Placed) (layout : Layout) (shape : Shape) → has_variants ps layout shape ≡ true →
    (list_all (λ m. nat_le m layout.size) (sizes_at ps (variant_nodes shape)) ≡ true) × (have_lists ps (variant_nodes shape) ≡ true)
variants_listed ps layout shape is =
    let cs : List ℕ = variant_nodes shape in
    and_parts (list_all (λ m. nat_le m layout.size) (sizes_at ps cs)) (have_lists ps cs)
    (and_parts (length (variants_of layout.variants) == length cs) (list_all (λ m. nat_le m layout.size) (sizes_at ps cs) && have_lists ps cs) is).1

each_within : (whole : ℕ) (sizes : List ℕ) → list_all (λ m. nat_le m whole) sizes ≡ true → (k : ℕ) → k < length sizes → get_or sizes k 0 ≤ whole
each_within whole [] is k lt = absurd (omega arith)
each_within whole (m ∷ sizes) is zero lt = leb-true m whole (and_parts (nat_le m whole) (list_all (λ m. nat_le m whole) sizes) is).0
each_within whole (m ∷ sizes) is (suc k) lt = each_within whole sizes (and_parts (nat_le m whole) (list_all (λ m. nat_le m whole) sizes) is).1 k (omega arith)

-- a type of elements, which reach no further than to the next
elements_lawful : (layout : Layout) (fields : FieldsShape ℕ) → layout.fields ≡ fields → (t : Typed) → has_elements layout.size fields (layout_in t).size ≡ true → IsWellFormedType t →
    HasWellFormedFields layout (λ k. t)
elements_lawful layout Primitive at t is law = absurd (false≢true is)
elements_lawful layout (AtStart count) at t is law = absurd (false≢true is)
elements_lawful layout (Arbitrary offsets order) at t is law = absurd (false≢true is)
elements_lawful layout (Array stride count) at t is law =
    let both = and_parts (nat_le (layout_in t).size stride) (nat_le (stride * count) layout.size) is in
    let reach : (layout_in t).size ≤ stride = leb-true (layout_in t).size stride both.0 in
    let whole : stride * count ≤ layout.size = leb-true (stride * count) layout.size both.1 in
    record {
      inside = λ k lt.
          let below : k + 1 ≤ count = subst (λ f. k + 1 ≤ field_count f) at (omega (arith, lt)) in
          let up : stride * (k + 1) ≤ stride * count = mul-le-mul_left stride below in
          subst (λ f. field_offset f k + (layout_in t).size ≤ layout.size) (sym at) (omega (arith, up, whole, reach));
      named = subst (λ f. CanBeNamed f (λ k. t)) (sym at) ((λ i lt. refl), reach);
      kept = λ k lt. law;
    }

-- What no node says of itself.
pub record TellsNoMore (marks : Marks) : Type 0 where
  pub complex : marks.is_complex ≡ false
  pub scalable : marks.is_scalable_vector ≡ false
  pub pointee : (offset : ℕ) → marks.pointee offset ≡ None

mark_tells : (mark : Mark) → TellsNoMore (marks_by mark)
mark_tells mark_is.Plain = record { complex = refl; scalable = refl; pointee = λ offset. refl }
mark_tells mark_is.Never = record { complex = refl; scalable = refl; pointee = λ offset. refl }
mark_tells mark_is.Unit = record { complex = refl; scalable = refl; pointee = λ offset. refl }
mark_tells (mark_is.Adt is_enum is_transparent is_passed_indirectly) = record { complex = refl; scalable = refl; pointee = λ offset. refl }

pub shape_tells : (shape : Shape) → TellsNoMore (marks_in shape)
shape_tells (Scalar s) = mark_tells mark_is.Plain
shape_tells (Pair first second) = mark_tells mark_is.Plain
shape_tells (Never mark) = mark_tells mark
shape_tells (Elements count element) = mark_tells mark_is.Plain
shape_tells (Fields mark children) = mark_tells mark
shape_tells (Union mark children) = mark_tells mark
shape_tells (Vector lanes) = mark_tells mark_is.Plain
shape_tells (Single mark children) = mark_tells mark
shape_tells (Tagged mark tag variants) = mark_tells mark
shape_tells (States prefix tag all) = mark_tells mark_is.Plain

module _ (ns : List Node) (i : ℕ) (past : i ≤ length ns) (below : (c : ℕ) → c < i → IsWellFormedType (typed_at ns c)) where
  abbrev ts : List Typed
  ts = all_typed [] ns

  abbrev ps : List Placed
  ps = types_in ns

  size-same : (c : ℕ) → c < i → (layout_in (typed_at ns c)).size ≡ size_of (placed_in ps c)
  size-same c lt = ap (λ layout. layout.size) (layout-placed ns c (omega arith))

  module _ (cs : List ℕ) (before : list_all (λ child. nat_lt child i) cs ≡ true) where
    by-lawful : (k : ℕ) → k < length cs → IsWellFormedType (type_by ts cs k)
    by-lawful k lt = subst IsWellFormedType (sym (type_by-place ts cs k lt)) (below (get_or cs k 0) (place_below i cs before k lt))

    by-size : (k : ℕ) → k < length cs → get_or (sizes_at ps cs) k 0 ≡ (layout_in (type_by ts cs k)).size
    by-size k lt =
        get_or-map (λ c. size_of (placed_in ps c)) cs k 0 0 lt ∙ sym (size-same (get_or cs k 0) (place_below i cs before k lt))
        ∙ ap (λ t. (layout_in t).size) (sym (type_by-place ts cs k lt))

    listed_lawful : (layout : Layout) → have_places layout.size layout.fields (sizes_at ps cs) ≡ true → HasWellFormedFields layout (type_by ts cs)
    listed_lawful layout is =
        let all = placed layout.size layout.fields (sizes_at ps cs) is in
        let long : length (sizes_at ps cs) ≡ length cs = length-map cs (λ c. size_of (placed_in ps c)) in
        record {
          inside = λ k lt. subst (λ m. field_offset layout.fields k + m ≤ layout.size) (by-size k (omega (arith, lt, all.count, long))) (all.inside k (omega (arith, lt, all.count)));
          named = all.named (type_by ts cs);
          kept = λ k lt. by-lawful k (omega (arith, lt, all.count, long));
        }

  fields_lawful : (layout : Layout) (shape : Shape) → is_node i shape ≡ true → has_fields ps layout shape ≡ true → HasWellFormedFields layout (field_by ts shape)
  fields_lawful layout (Scalar s) is h = listed_lawful [] refl layout h
  fields_lawful layout (Pair first second) is h = listed_lawful (first ∷ second ∷ []) (pair_before i first second is) layout h
  fields_lawful layout (Never mark) is h = listed_lawful [] refl layout h
  fields_lawful layout (Elements count element) is h =
      let lt : element < i = ltb-true element i is in
      elements_lawful layout layout.fields refl (typed_at ns element) (subst (λ m. has_elements layout.size layout.fields m ≡ true) (sym (size-same element lt)) h) (below element lt)
  fields_lawful layout (Fields mark children) is h = listed_lawful children.items is layout h
  fields_lawful layout (Union mark children) is h = listed_lawful children.items is layout h
  fields_lawful layout (Vector lanes) is h = listed_lawful (lanes ∷ []) (both_true is refl) layout h
  fields_lawful layout (Single mark children) is h = listed_lawful children.items is layout h
  fields_lawful layout (Tagged mark tag variants) is h = listed_lawful (tag ∷ []) (fields_below i (Tagged mark tag variants) is) layout h
  fields_lawful layout (States prefix tag all) is h = listed_lawful (prefix.items ++ tag ∷ []) (fields_below i (States prefix tag all) is) layout h

  variants_lawful : (layout : Layout) (shape : Shape) → is_node i shape ≡ true → has_variants ps layout shape ≡ true → HasWellFormedVariants layout (type_by ts (variant_nodes shape))
  variants_lawful layout shape is h =
      let cs : List ℕ = variant_nodes shape in
      let before = variants_below i shape is in
      let count = variant_count-nodes ps layout shape h in
      let inside = (variants_listed ps layout shape h).0 in
      let long : length (sizes_at ps cs) ≡ length cs = length-map cs (λ c. size_of (placed_in ps c)) in
      record {
        within = λ k lt. subst (λ m. m ≤ layout.size) (by-size cs before k (omega (arith, lt, count))) (each_within layout.size (sizes_at ps cs) inside k (omega (arith, lt, count, long)));
        kept = λ k lt. by-lawful cs before k (omega (arith, lt, count));
      }

  told_lawful : (n : Node) → is_node i n.shape ≡ true → keeps_laws ps n.layout n.shape ≡ true → IsWellFormedType (typed_node ts n)
  told_lawful n is h =
      let both = and_parts (has_fields ps n.layout n.shape) (has_variants ps n.layout n.shape) h in
      let fields = fields_lawful n.layout n.shape is both.0 in
      let variants = variants_lawful n.layout n.shape is both.1 in (
        record { inside = fields.inside; within = variants.within; named = fields.named; complex = λ yes. absurd (false≢true (sym (shape_tells n.shape).complex ∙ yes)) },
        fields.kept,
        variants.kept,
      )

module _ (ns : List Node) (well : are_nodes 0 ns ≡ true) (laws : keep_laws [] ns ≡ true) where
  lawful_before : (n i : ℕ) → i < n → i < length ns → IsWellFormedType (typed_at ns i)
  lawful_before zero i below lt = absurd (omega arith)
  lawful_before (suc n) i below lt =
      let d : Node = record { layout = no_layout; shape = Never mark_is.Plain } in
      let here : Node = get_or ns i d in
      let is : is_node i here.shape ≡ true = children_before ns i d lt well in
      let at : here ≡ get_or ns i here = get_or_default ns i d here lt in
      let law : IsWellFormedType (typed_node (all_typed [] ns) here) =
      told_lawful ns i (omega arith) (λ c less. lawful_before n c (omega arith) (omega arith)) here is (laws_at ns well laws i d lt) in
      subst IsWellFormedType (sym (typed_at-node ns well i here lt at)) law

  -- each node is a lawful type
  pub lawful_at : (i : ℕ) → i < length ns → IsWellFormedType (typed_at ns i)
  lawful_at i lt = lawful_before (length ns) i lt lt
