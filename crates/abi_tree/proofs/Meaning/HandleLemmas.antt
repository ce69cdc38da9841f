-- The nodes of fields and variants, as handles step to them.
use Rattle.std.proofs.Common.{◌≡◌, ℕ, ◌<◌, ◌∙◌, List, [], ◌∷◌, ◌++◌, ap, arith, get_or, length, refl, subst, sym, true}
use Rattle.std.specs.Cmp.Derive.{both_true}
use Rattle.std.proofs.lemmas.Bool.{and_parts, ltb-true}
use Rattle.std.proofs.lemmas.List.{get_or_default}
use Rattle.abi_scalar.specs.declared.scalar.Scalar.{Scalar as Number}
use Rattle.abi_scalar.specs.declared.variants.TagEncoding.{TagEncoding}
use Rattle.abi_scalar.specs.declared.variants.VariantLayout.{VariantLayout}
use Rattle.abi_scalar.specs.declared.variants.Variants.{Variants}
use Rattle.abi_scalar.specs.declared.variants.Variants.TheVariants.{Empty, Single as OneVariant, Multiple}
use Rattle.abi_scalar.specs.Shape.{field_count}
use Rattle.abi_scalar.specs.Variant.{variants_of}
use Rattle.abi_types.specs.Ty.Typed.{Typed, at_variant, field_in, layout_in, marks_of, no_layout, variant_in}
use Rattle.abi_types.specs.Ty.Lawful.{DepthFalls, NamesVariant}
use Rattle.abi_tree.specs.declared.mark.Mark.TheVariants.{Plain}
use Rattle.abi_tree.specs.declared.node.Shape.{Shape}
use Rattle.abi_tree.specs.declared.node.Shape.TheVariants.{Scalar, Pair, Never, Elements, Fields, Union, Vector, Single, Tagged, States}
use Rattle.abi_tree.specs.declared.node.Node.{Node}
use Rattle.abi_tree.specs.Placed.{Placed}
use Rattle.abi_scalar.specs.Layout.{Layout}
use Rattle.abi_tree.specs.Nodes.{types_in}
use Rattle.abi_tree.specs.Well.{are_nodes, is_node}
use Rattle.abi_tree.specs.Typed.{all_typed, field_by, marks_in, typed_node, type_in, typed_at, variant_nodes}
use Rattle.abi_tree.specs.Laws.{has_fields, has_variants, keep_laws, keeps_laws}
use Rattle.abi_tree.specs.Handles.{HasField, field_place, variant_place}
use Rattle.abi_tree.proofs.Meaning.NodesLemmas.{children_before, pair_before}
use Rattle.abi_tree.proofs.Meaning.TypedLemmas.{TellsNoMore, field_count-nodes, fields_below, laws_at, layout-typed_at, place_below, shape_tells, type_by-place, typed_at-node, variant_count-nodes, variants_below}

-- a field of the layout has a node
has_field : (ps : List Placed) (layout : Layout) (shape : Shape) → has_fields ps layout shape ≡ true → (k : ℕ) → k < field_count layout.fields → HasField shape k
has_field ps layout (Scalar s) h k lt = omega (arith, lt, field_count-nodes ps layout [] h)
has_field ps layout (Pair first second) h k lt = omega (arith, lt, field_count-nodes ps layout (first ∷ second ∷ []) h)
has_field ps layout (Never mark) h k lt = omega (arith, lt, field_count-nodes ps layout [] h)
has_field ps layout (Elements count element) h k lt = tt
has_field ps layout (Fields mark children) h k lt = omega (arith, lt, field_count-nodes ps layout children.items h)
has_field ps layout (Union mark children) h k lt = omega (arith, lt, field_count-nodes ps layout children.items h)
has_field ps layout (Vector lanes) h k lt = omega (arith, lt, field_count-nodes ps layout (lanes ∷ []) h)
has_field ps layout (Single mark children) h k lt = omega (arith, lt, field_count-nodes ps layout children.items h)
has_field ps layout (Tagged mark tag variants) h k lt = omega (arith, lt, field_count-nodes ps layout (tag ∷ []) h)
has_field ps layout (States prefix tag all) h k lt = omega (arith, lt, field_count-nodes ps layout (prefix.items ++ tag ∷ []) h)

-- it comes before the whole's
field_before : (n : ℕ) (shape : Shape) → is_node n shape ≡ true → (k : ℕ) → HasField shape k → field_place shape k < n
field_before n (Scalar s) is k h = place_below n [] refl k h
field_before n (Pair first second) is k h = place_below n (first ∷ second ∷ []) (pair_before n first second is) k h
field_before n (Never mark) is k h = place_below n [] refl k h
field_before n (Elements count element) is k h = ltb-true element n is
field_before n (Fields mark children) is k h = place_below n children.items is k h
field_before n (Union mark children) is k h = place_below n children.items is k h
field_before n (Vector lanes) is k h = place_below n (lanes ∷ []) (both_true is refl) k h
field_before n (Single mark children) is k h = place_below n children.items is k h
field_before n (Tagged mark tag variants) is k h = place_below n (tag ∷ []) (fields_below n (Tagged mark tag variants) is) k h
field_before n (States prefix tag all) is k h = place_below n (prefix.items ++ tag ∷ []) (fields_below n (States prefix tag all) is) k h

-- and it is the field's
field_type : (done : List Typed) (shape : Shape) (k : ℕ) → HasField shape k → type_in done (field_place shape k) ≡ field_by done shape k
field_type done (Scalar s) k h = sym (type_by-place done [] k h)
field_type done (Pair first second) k h = sym (type_by-place done (first ∷ second ∷ []) k h)
field_type done (Never mark) k h = sym (type_by-place done [] k h)
field_type done (Elements count element) k h = refl
field_type done (Fields mark children) k h = sym (type_by-place done children.items k h)
field_type done (Union mark children) k h = sym (type_by-place done children.items k h)
field_type done (Vector lanes) k h = sym (type_by-place done (lanes ∷ []) k h)
field_type done (Single mark children) k h = sym (type_by-place done children.items k h)
field_type done (Tagged mark tag variants) k h = sym (type_by-place done (tag ∷ []) k h)
field_type done (States prefix tag all) k h = sym (type_by-place done (prefix.items ++ tag ∷ []) k h)

-- A node of this shape at a place has the field, whose node comes before it.
pub record HasFieldAt (ns : List Node) (i k : ℕ) (shape : Shape) : Type 0 where
  pub has : HasField shape k
  pub before : field_place shape k < i
  pub same : typed_at ns (field_place shape k) ≡ field_in (typed_at ns i) k

-- A node of this shape at a place has the variant, whose node comes before it.
pub record HasVariantAt (ns : List Node) (i v : ℕ) (shape : Shape) : Type 0 where
  pub has : v < length (variant_nodes shape)
  pub before : variant_place shape v < i
  pub same : typed_at ns (variant_place shape v) ≡ variant_in (typed_at ns i) v

module _ (ns : List Node) (well : are_nodes 0 ns ≡ true) (laws : keep_laws [] ns ≡ true) (i : ℕ) (n : Node) (lt : i < length ns) (at : n ≡ get_or ns i n) where
  layout-same : layout_in (typed_at ns i) ≡ n.layout
  layout-same = layout-typed_at ns i n lt ∙ ap (λ (m : Node). m.layout) (sym at)

  tag_layout-here : typed_at ns i ≡ typed_node (all_typed [] ns) n
  tag_layout-here = typed_at-node ns well i n lt at

  is-here : is_node i n.shape ≡ true
  is-here = subst (λ (m : Node). is_node i m.shape ≡ true) (sym at) (children_before ns i n lt well)

  laws-here : keeps_laws (types_in ns) n.layout n.shape ≡ true
  laws-here = subst (λ (m : Node). keeps_laws (types_in ns) m.layout m.shape ≡ true) (sym at) (laws_at ns well laws i n lt)

  -- what a node says of itself
  pub marks_at : marks_of (typed_at ns i) ≡ marks_in n.shape
  marks_at = ap marks_of tag_layout-here

  pub field_at : (k : ℕ) → k < field_count (layout_in (typed_at ns i)).fields → HasFieldAt ns i k n.shape
  field_at k below =
      let both = and_parts (has_fields (types_in ns) n.layout n.shape) (has_variants (types_in ns) n.layout n.shape) laws-here in
      let has : HasField n.shape k = has_field (types_in ns) n.layout n.shape both.0 k (subst (λ (layout : Layout). k < field_count layout.fields) layout-same below) in
      record {
        has = has;
        before = field_before i n.shape is-here k has;
        same = field_type (all_typed [] ns) n.shape k has ∙ ap (λ t. field_in t k) (sym tag_layout-here);
      }

  pub variant_at : (v : ℕ) → v < length (variants_of (layout_in (typed_at ns i)).variants) → HasVariantAt ns i v n.shape
  variant_at v below =
      let both = and_parts (has_fields (types_in ns) n.layout n.shape) (has_variants (types_in ns) n.layout n.shape) laws-here in
      let count = variant_count-nodes (types_in ns) n.layout n.shape both.1 in
      let within : v < length (variants_of n.layout.variants) = subst (λ (layout : Layout). v < length (variants_of layout.variants)) layout-same below in
      let has : v < length (variant_nodes n.shape) = omega (arith, within, count) in
      record {
        has = has;
        before = place_below i (variant_nodes n.shape) (variants_below i n.shape is-here) v has;
        same = sym (type_by-place (all_typed [] ns) (variant_nodes n.shape) v has) ∙ ap (λ t. variant_in t v) (sym tag_layout-here);
      }

-- what no node says of itself
pub tells_no_more : (ns : List Node) → are_nodes 0 ns ≡ true → keep_laws [] ns ≡ true → (i : ℕ) → i < length ns → TellsNoMore (marks_of (typed_at ns i))
tells_no_more ns well laws i lt =
    let d : Node = record { layout = no_layout; shape = Never Plain } in
    let n : Node = get_or ns i d in
    subst TellsNoMore (sym (marks_at ns well laws i n lt (get_or_default ns i d n lt))) (shape_tells n.shape)

-- a field's node, where the nodes are known by what lends them
pub field_here : (ns : List Node) → are_nodes 0 ns ≡ true → keep_laws [] ns ≡ true → (ms : List Node) → ms ≡ ns → (i : ℕ) (n : Node) → i < length ns → n ≡ get_or ms i n → (k : ℕ) →
    k < field_count (layout_in (typed_at ns i)).fields → HasFieldAt ns i k n.shape
field_here ns well laws ms same i n lt at k below =
    field_at ns well laws i n lt (at ∙ ap (λ xs. get_or xs i n) same) k below

-- and a variant's
pub variant_here : (ns : List Node) → are_nodes 0 ns ≡ true → keep_laws [] ns ≡ true → (ms : List Node) → ms ≡ ns → (i : ℕ) (n : Node) → i < length ns → n ≡ get_or ms i n → (v : ℕ) →
    v < length (variants_of (layout_in (typed_at ns i)).variants) → HasVariantAt ns i v n.shape
variant_here ns well laws ms same i n lt at v below =
    variant_at ns well laws i n lt (at ∙ ap (λ xs. get_or xs i n) same) v below

-- one of several variants that a tag distinguishes
pub several_named : (variants : Variants ℕ ℕ) (v : ℕ) (tag : Number) (encoding : TagEncoding ℕ) (field : ℕ) (layouts : List (VariantLayout ℕ)) → variants ≡ Multiple tag encoding field layouts →
    NamesVariant variants v → v < length (variants_of variants)
several_named (Multiple tag' encoding' field' layouts') v tag encoding field layouts e h = h
several_named (OneVariant k) v tag encoding field layouts e h = absurd (cc)
several_named Empty v tag encoding field layouts e h = absurd h

pub several_at : (t : Typed) (v : ℕ) (tag : Number) (encoding : TagEncoding ℕ) (field : ℕ) (layouts : List (VariantLayout ℕ)) → (layout_in t).variants ≡ Multiple tag encoding field layouts →
    at_variant t v ≡ variant_in t v
several_at t v tag encoding field layouts e = rw e refl

pub several_falls : (variants : Variants ℕ ℕ) (tag : Number) (encoding : TagEncoding ℕ) (field : ℕ) (layouts : List (VariantLayout ℕ)) (m n : ℕ) → variants ≡ Multiple tag encoding field layouts →
    m < n → DepthFalls variants m n
several_falls variants tag encoding field layouts m n e lt = rw e lt
