-- Handles see what nodes mean.
use Rattle.std.proofs.Common.{◌≡◌, ℕ, zero, suc, ◌+◌, ◌<◌, ◌∙◌, List, [], ◌∷◌, ◌++◌, ap, arith, get_or, length, length-append, map, refl, subst, sym, true}
use Rattle.std.specs.Prelude.{◌&&◌, nat_lt}
use Rattle.std.specs.List.{list_all}
use Rattle.std.proofs.lemmas.Bool.{and_parts, false≢true, ltb-true}
use Rattle.std.proofs.lemmas.List.{get_or-append-add, get_or_append_left, get_or_default, length-map}
use Rattle.std.proofs.lemmas.Option.{unwrap_or-slice_get}
use Rattle.abi_scalar.specs.declared.fields_shape.FieldsShape.{FieldsShape}
use Rattle.abi_scalar.specs.declared.fields_shape.FieldsShape.TheVariants.{Primitive, Union as AtStart, Array, Arbitrary}
use Rattle.abi_scalar.specs.Shape.{IsListed, field_count, field_offset, listed_offsets}
use Rattle.abi_scalar.specs.Variant.{variants_of}
use Rattle.abi_types.specs.Ty.Typed.{Typed, field_in, layout_in, no_layout, variant_in}
use Rattle.abi_tree.specs.declared.mark.Mark.TheVariants.{Plain}
use Rattle.abi_tree.specs.Mark.{marks_by}
use Rattle.abi_tree.specs.declared.node.Shape.{Shape}
use Rattle.abi_tree.specs.declared.node.Shape.TheVariants.{Scalar, Pair, Never, Elements, Fields, Union, Vector, Single, Tagged, States}
use Rattle.abi_tree.specs.declared.node.Node.{Node}
use Rattle.abi_tree.specs.Placed.{Placed, layout_of, scalar, pair, never, elements, vector, fields, union, single, tagged, states}
use Rattle.abi_scalar.specs.Layout.{Layout}
use Rattle.abi_tree.specs.Nodes.{tagged_variants_in, meaning, own_fields, own_mark, parts_at, parts_at_0, placed_at, placed_in, state_tag_offset, types_in}
use Rattle.abi_tree.specs.Well.{are_nodes, is_node}
use Rattle.abi_tree.specs.Typed.{all_typed, typed_node, type_by, type_in, typed_at}
use Rattle.abi_tree.specs.Laws.{has_fields, has_list, has_variants, have_lists, have_places, is_listed, keep_laws, sizes_at}
use Rattle.abi_tree.specs.Seen.{HasOffset, IsListOf, Sees, SeesTaggedVariants, SeesParts, SeesTypes, SeesWhole, last_field, part_count}
use Rattle.abi_tree.proofs.Meaning.NodesLemmas.{children_before, pair_before, placed_at-node}
use Rattle.abi_tree.proofs.Meaning.TypedLemmas.{field_count-nodes, fields_below, laws_at, place_below, type_by-place, typed_at-node, variant_count-nodes, variants_below, variants_listed}

-- what a variant has of its own is seen where the variant is
own_seen : (t : Typed) (p : Placed) → Sees t p → SeesParts t 0 (own_fields p)
own_seen t (scalar layout s) h = tt
own_seen t (pair layout parts) h = tt
own_seen t (never layout mark) h = tt
own_seen t (elements layout count element) h = tt
own_seen t (vector layout lanes) h = tt
own_seen t (fields layout mark parts) h = h.1
own_seen t (union layout mark parts) h = tt
own_seen t (single layout mark index parts) h = tt
own_seen t (tagged layout mark offset tag encoding tagged_variants) h = tt
own_seen t (states layout prefix offset tag tagged_variants) h = tt

-- and so are its layout and what it says of itself, where it lists its fields one by one
own_whole : (t : Typed) (p : Placed) → has_list p ≡ true → Sees t p → SeesWhole t (layout_of p) (marks_by (own_mark p))
own_whole t (scalar layout s) is h = absurd (false≢true is)
own_whole t (pair layout parts) is h = absurd (false≢true is)
own_whole t (never layout mark) is h = absurd (false≢true is)
own_whole t (elements layout count element) is h = absurd (false≢true is)
own_whole t (vector layout lanes) is h = absurd (false≢true is)
own_whole t (fields layout mark parts) is h = h.0
own_whole t (union layout mark parts) is h = absurd (false≢true is)
own_whole t (single layout mark index parts) is h = absurd (false≢true is)
own_whole t (tagged layout mark offset tag encoding tagged_variants) is h = absurd (false≢true is)
own_whole t (states layout prefix offset tag tagged_variants) is h = absurd (false≢true is)

-- ---- what lists its fields one by one lists all of its own

none_left : {X : Type 0} (xs : List X) → length xs ≡ 0 → xs ≡ []
none_left [] e = refl
none_left (x ∷ xs) e = absurd (omega (arith, e))

pub count_at : (offsets : List ℕ) (ps : List Placed) → length offsets ≡ length ps → part_count (parts_at offsets ps) ≡ length offsets
count_at [] ps e = refl
count_at (o ∷ offsets) [] e = absurd (omega (arith, e))
count_at (o ∷ offsets) (p ∷ ps) e = omega (arith, count_at offsets ps (omega (arith, e)))

fields_listed : (fields : FieldsShape ℕ) (ps : List Placed) → field_count fields ≡ length ps → is_listed fields ≡ true →
    IsListed fields × (field_count fields ≡ part_count (parts_at (listed_offsets fields) ps))
fields_listed Primitive ps e is = absurd (false≢true is)
fields_listed (AtStart count) ps e is = absurd (false≢true is)
fields_listed (Array stride count) ps e is = absurd (false≢true is)
fields_listed (Arbitrary offsets order) ps e is = (tt, sym (count_at offsets ps e))

node_list : (ts : List Typed) (ps : List Placed) (layout : Layout) (shape : Shape) → has_fields ps layout shape ≡ true → has_variants ps layout shape ≡ true → has_list (meaning ps layout shape) ≡ true →
    IsListOf (own_fields (meaning ps layout shape)) (typed_node ts (record { layout = layout; shape = shape }))
node_list ts ps layout (Scalar s) h v is = absurd (false≢true is)
node_list ts ps layout (Pair first second) h v is = absurd (false≢true is)
node_list ts ps layout (Never mark) h v is = absurd (false≢true is)
node_list ts ps layout (Elements count element) h v is = absurd (false≢true is)
node_list ts ps layout (Fields mark children) h v is =
    let cs : List ℕ = children.items in
    let listed = fields_listed layout.fields (map (placed_in ps) cs) (field_count-nodes ps layout cs h ∙ sym (length-map cs (placed_in ps))) is in
    (listed.0, listed.1, none_left (variants_of layout.variants) (variant_count-nodes ps layout (Fields mark children) v))
node_list ts ps layout (Union mark children) h v is = absurd (false≢true is)
node_list ts ps layout (Vector lanes) h v is = absurd (false≢true is)
node_list ts ps layout (Single mark children) h v is = absurd (false≢true is)
node_list ts ps layout (Tagged mark tag variants) h v is = absurd (false≢true is)
node_list ts ps layout (States prefix tag all) h v is = absurd (false≢true is)

lists_each : (ps : List Placed) (cs : List ℕ) → have_lists ps cs ≡ true → (j : ℕ) → j < length cs → has_list (placed_in ps (get_or cs j 0)) ≡ true
lists_each ps [] h j lt = absurd (omega arith)
lists_each ps (c ∷ cs) h zero lt = (and_parts (has_list (placed_in ps c)) (have_lists ps cs) h).0
lists_each ps (c ∷ cs) h (suc j) lt = lists_each ps cs (and_parts (has_list (placed_in ps c)) (have_lists ps cs) h).1 j (omega arith)

-- ---- offsets

-- an offset that is listed is the field's
listed_offset : (fields : FieldsShape ℕ) (k : ℕ) → k < length (listed_offsets fields) → field_offset fields k ≡ get_or (listed_offsets fields) k 0
listed_offset Primitive k lt = absurd (omega arith)
listed_offset (AtStart count) k lt = absurd (omega arith)
listed_offset (Array stride count) k lt = absurd (omega arith)
listed_offset (Arbitrary offsets order) k lt = unwrap_or-slice_get offsets k 0

-- and where fields have places one by one, it is so past the list
placed_offset : (whole : ℕ) (fields : FieldsShape ℕ) (sizes : List ℕ) → have_places whole fields sizes ≡ true → (k : ℕ) → field_offset fields k ≡ get_or (listed_offsets fields) k 0
placed_offset whole Primitive sizes h k = refl
placed_offset whole (AtStart count) sizes h k = refl
placed_offset whole (Array stride count) [] h k = absurd (false≢true h)
placed_offset whole (Array stride count) (m ∷ sizes) h k = absurd (false≢true h)
placed_offset whole (Arbitrary offsets order) sizes h k = unwrap_or-slice_get offsets k 0

first_index : (j : ℕ) → j ≡ 0 + j
first_index j = omega arith

module _ (ps : List Placed) (t : Typed) where
  parts_seen : (offsets cs : List ℕ) (k : ℕ) → ((j : ℕ) → j < length offsets → field_offset (layout_in t).fields (k + j) ≡ get_or offsets j 0) →
      ((j : ℕ) → j < length cs → Sees (field_in t (k + j)) (placed_in ps (get_or cs j 0))) → SeesParts t k (parts_at offsets (map (placed_in ps) cs))
  parts_seen [] cs k at each = tt
  parts_seen (o ∷ offsets) [] k at each = tt
  parts_seen (o ∷ offsets) (c ∷ cs) k at each =
      let here : k + 0 ≡ k = omega arith in
      let up : (j : ℕ) → k + suc j ≡ suc k + j = λ j. omega arith in (
        subst (λ n. field_offset (layout_in t).fields n ≡ o) here (at 0 (omega arith)),
        subst (λ n. Sees (field_in t n) (placed_in ps c)) here (each 0 (omega arith)),
        parts_seen offsets cs (suc k)
            (λ j lt. subst (λ n. field_offset (layout_in t).fields n ≡ get_or offsets j 0) (up j) (at (suc j) (omega arith)))
            (λ j lt. subst (λ n. Sees (field_in t n) (placed_in ps (get_or cs j 0))) (up j) (each (suc j) (omega arith))),
      )

  types_seen : (cs : List ℕ) (k : ℕ) → ((j : ℕ) → j < length cs → Sees (field_in t (k + j)) (placed_in ps (get_or cs j 0))) → SeesTypes t k (parts_at_0 (map (placed_in ps) cs))
  types_seen [] k each = tt
  types_seen (c ∷ cs) k each =
      let here : k + 0 ≡ k = omega arith in
      let up : (j : ℕ) → k + suc j ≡ suc k + j = λ j. omega arith in (
        subst (λ n. Sees (field_in t n) (placed_in ps c)) here (each 0 (omega arith)),
        types_seen cs (suc k) (λ j lt. subst (λ n. Sees (field_in t n) (placed_in ps (get_or cs j 0))) (up j) (each (suc j) (omega arith))),
      )

  tagged_variants_seen : (vs : List (ℕ × ℕ)) (k : ℕ) → ((j : ℕ) → j < length vs → Sees (variant_in t (k + j)) (placed_in ps (get_or (map (λ v. v.1) vs) j 0))) →
      ((j : ℕ) → j < length vs → has_list (placed_in ps (get_or (map (λ v. v.1) vs) j 0)) ≡ true) →
      ((j : ℕ) → j < length vs → IsListOf (own_fields (placed_in ps (get_or (map (λ v. v.1) vs) j 0))) (variant_in t (k + j))) → SeesTaggedVariants t k (tagged_variants_in ps vs)
  tagged_variants_seen [] k each is list = tt
  tagged_variants_seen (v ∷ vs) k each is list =
      let here : k + 0 ≡ k = omega arith in
      let up : (j : ℕ) → k + suc j ≡ suc k + j = λ j. omega arith in
      let seen : Sees (variant_in t k) (placed_in ps v.1) =
      subst (λ n. Sees (variant_in t n) (placed_in ps v.1)) here (each 0 (omega arith)) in (
        own_whole (variant_in t k) (placed_in ps v.1) (is 0 (omega arith)) seen,
        subst (λ n. IsListOf (own_fields (placed_in ps v.1)) (variant_in t n)) here (list 0 (omega arith)),
        own_seen (variant_in t k) (placed_in ps v.1) seen,
        tagged_variants_seen vs (suc k) (λ j lt. subst (λ n. Sees (variant_in t n) (placed_in ps (get_or (map (λ v. v.1) vs) j 0))) (up j) (each (suc j) (omega arith)))
            (λ j lt. is (suc j) (omega arith))
            (λ j lt. subst (λ n. IsListOf (own_fields (placed_in ps (get_or (map (λ v. v.1) vs) j 0))) (variant_in t n)) (up j) (list (suc j) (omega arith))),
      )

module _ (ns : List Node) (i : ℕ) (below : (c : ℕ) → c < i → Sees (typed_at ns c) (placed_at ns c)) (list : (c : ℕ) → c < i → has_list (placed_at ns c) ≡ true → IsListOf (own_fields (placed_at ns c)) (typed_at ns c)) where
  abbrev ts : List Typed
  ts = all_typed [] ns

  abbrev ps : List Placed
  ps = types_in ns

  each_seen : (cs : List ℕ) → list_all (λ child. nat_lt child i) cs ≡ true → (j : ℕ) → j < length cs → Sees (type_by ts cs j) (placed_in ps (get_or cs j 0))
  each_seen cs before j lt =
      let c : ℕ = get_or cs j 0 in
      subst (λ t. Sees t (placed_in ps c)) (sym (type_by-place ts cs j lt)) (below c (place_below i cs before j lt))

  listed_seen : (t : Typed) (cs : List ℕ) → list_all (λ child. nat_lt child i) cs ≡ true → ((j : ℕ) → j < length cs → field_in t j ≡ type_by ts cs j) →
      SeesParts t 0 (parts_at (listed_offsets (layout_in t).fields) (map (placed_in ps) cs))
  listed_seen t cs before same =
      let offsets : List ℕ = listed_offsets (layout_in t).fields in
      parts_seen ps t offsets cs 0 (λ j lt. subst (λ n. field_offset (layout_in t).fields n ≡ get_or offsets j 0) (first_index j) (listed_offset (layout_in t).fields j lt))
      (λ j lt. subst (λ n. Sees (field_in t n) (placed_in ps (get_or cs j 0))) (first_index j)
      (subst (λ u. Sees u (placed_in ps (get_or cs j 0))) (sym (same j lt)) (each_seen cs before j lt)))

  variants_seen : (t : Typed) (vs : List (ℕ × ℕ)) → list_all (λ child. nat_lt child i) (map (λ v. v.1) vs) ≡ true → have_lists ps (map (λ v. v.1) vs) ≡ true → ((j : ℕ) → variant_in t j ≡ type_by ts (map (λ v. v.1) vs) j) →
      SeesTaggedVariants t 0 (tagged_variants_in ps vs)
  variants_seen t vs before lists same =
      let cs : List ℕ = map (λ (v : ℕ × ℕ). v.1) vs in
      let long : length cs ≡ length vs = length-map vs (λ (v : ℕ × ℕ). v.1) in
      tagged_variants_seen ps t vs 0
      (λ j lt. subst (λ n. Sees (variant_in t n) (placed_in ps (get_or cs j 0))) (first_index j)
      (subst (λ u. Sees u (placed_in ps (get_or cs j 0))) (sym (same j)) (each_seen cs before j (omega (arith, lt, long)))))
      (λ j lt. lists_each ps cs lists j (omega (arith, lt, long)))
      (λ j lt. subst (λ n. IsListOf (own_fields (placed_in ps (get_or cs j 0))) (variant_in t n)) (first_index j)
      (subst (IsListOf (own_fields (placed_in ps (get_or cs j 0)))) (sym (same j ∙ type_by-place ts cs j (omega (arith, lt, long))))
      (list (get_or cs j 0) (place_below i cs before j (omega (arith, lt, long))) (lists_each ps cs lists j (omega (arith, lt, long))))))

  node_seen : (layout : Layout) (shape : Shape) → is_node i shape ≡ true → has_fields ps layout shape ≡ true → has_variants ps layout shape ≡ true →
      Sees (typed_node ts (record { layout = layout; shape = shape })) (meaning ps layout shape)
  node_seen layout (Scalar s) is h v = (refl, refl)
  node_seen layout (Pair first second) is h v =
      ((refl, refl), listed_seen (typed_node ts (record { layout = layout; shape = Pair first second })) (first ∷ second ∷ []) (pair_before i first second is) (λ j lt. refl))
  node_seen layout (Never mark) is h v = (refl, refl)
  node_seen layout (Elements count element) is h v = ((refl, refl), λ k. below element (ltb-true element i is))
  node_seen layout (Fields mark children) is h v = ((refl, refl), listed_seen (typed_node ts (record { layout = layout; shape = Fields mark children })) children.items is (λ j lt. refl))
  node_seen layout (Union mark children) is h v =
      let t : Typed = typed_node ts (record { layout = layout; shape = Union mark children }) in
      let each : (j : ℕ) → j < length children.items → Sees (field_in t (0 + j)) (placed_in ps (get_or children.items j 0)) = λ j lt.
      subst (λ n. Sees (field_in t n) (placed_in ps (get_or children.items j 0))) (first_index j) (each_seen children.items is j lt) in
      ((refl, refl), types_seen ps t children.items 0 each)
  node_seen layout (Vector lanes) is h v = ((refl, refl), below lanes (ltb-true lanes i is))
  node_seen layout (Single mark children) is h v = ((refl, refl), listed_seen (typed_node ts (record { layout = layout; shape = Single mark children })) children.items is (λ j lt. refl))
  node_seen layout (Tagged mark tag variants) is h v =
      let both = and_parts (nat_lt tag i) (list_all (λ v. nat_lt v.1 i) variants.items) is in
      let t : Typed = typed_node ts (record { layout = layout; shape = Tagged mark tag variants }) in (
        (refl, refl),
        placed_offset layout.size layout.fields (sizes_at ps (tag ∷ [])) h 0,
        below tag (ltb-true tag i both.0),
        variants_seen t variants.items (variants_below i (Tagged mark tag variants) is) (variants_listed ps layout (Tagged mark tag variants) v).1 (λ j. refl),
      )
  node_seen layout (States prefix tag all) is h v =
      let t : Typed = typed_node ts (record { layout = layout; shape = States prefix tag all }) in
      let cs : List ℕ = prefix.items ++ tag ∷ [] in
      let n : ℕ = length prefix.items in
      let both = and_parts (list_all (λ child. nat_lt child i) prefix.items) (nat_lt tag i && list_all (λ v. nat_lt v.1 i) all.items) is in
      let beside = and_parts (nat_lt tag i) (list_all (λ v. nat_lt v.1 i) all.items) both.1 in
      let long : length cs ≡ n + 1 = length-append prefix.items (tag ∷ []) in
      let last : n ≡ last_field layout = omega (arith, field_count-nodes ps layout cs h, long) in
      let at : get_or cs n 0 ≡ tag = ap (λ k. get_or cs k 0) (omega arith) ∙ get_or-append-add prefix.items (tag ∷ []) 0 0 in
      let seen : Sees (type_by ts cs n) (placed_in ps tag) =
      subst (λ c. Sees (type_by ts cs n) (placed_in ps c)) at (each_seen cs (fields_below i (States prefix tag all) is) n (omega (arith, long))) in
      let first : (j : ℕ) → j < n → type_by ts cs j ≡ type_by ts prefix.items j = λ j lt.
      let low : j < length cs = omega (arith, long, lt) in
      type_by-place ts cs j low ∙ ap (type_in ts) (get_or_append_left prefix.items (tag ∷ []) 0 j lt) ∙ sym (type_by-place ts prefix.items j lt) in (
        (refl, refl),
        listed_seen t prefix.items both.0 first,
        subst (λ k. HasOffset t k (state_tag_offset layout n)) last (placed_offset layout.size layout.fields (sizes_at ps cs) h n),
        subst (λ k. Sees (field_in t k) (placed_in ps tag)) last seen,
        variants_seen t all.items (variants_below i (States prefix tag all) is) (variants_listed ps layout (States prefix tag all) v).1 (λ j. refl),
      )

module _ (ns : List Node) (well : are_nodes 0 ns ≡ true) (laws : keep_laws [] ns ≡ true) where
  list_at : (i : ℕ) → i < length ns → has_list (placed_at ns i) ≡ true → IsListOf (own_fields (placed_at ns i)) (typed_at ns i)
  list_at i lt is =
      let d : Node = record { layout = no_layout; shape = Never Plain } in
      let here : Node = get_or ns i d in
      let at : here ≡ get_or ns i here = get_or_default ns i d here lt in
      let both = and_parts (has_fields (types_in ns) here.layout here.shape) (has_variants (types_in ns) here.layout here.shape) (laws_at ns well laws i d lt) in
      let meant = (placed_at-node ns well i here here.shape lt at refl).1 in
      let own = node_list (all_typed [] ns) (types_in ns) here.layout here.shape both.0 both.1 (ap has_list (sym meant) ∙ is) in
      subst (λ p. IsListOf (own_fields p) (typed_at ns i)) (sym meant)
      (subst (IsListOf (own_fields (meaning (types_in ns) here.layout here.shape))) (sym (typed_at-node ns well i here lt at)) own)

  seen_before : (n i : ℕ) → i < n → i < length ns → Sees (typed_at ns i) (placed_at ns i)
  seen_before zero i under lt = absurd (omega arith)
  seen_before (suc n) i under lt =
      let d : Node = record { layout = no_layout; shape = Never Plain } in
      let here : Node = get_or ns i d in
      let at : here ≡ get_or ns i here = get_or_default ns i d here lt in
      let is : is_node i here.shape ≡ true = children_before ns i d lt well in
      let both = and_parts (has_fields (types_in ns) here.layout here.shape) (has_variants (types_in ns) here.layout here.shape) (laws_at ns well laws i d lt) in
      let seen : Sees (typed_node (all_typed [] ns) here) (meaning (types_in ns) here.layout here.shape) =
      node_seen ns i (λ c less. seen_before n c (omega arith) (omega arith)) (λ c less. list_at c (omega arith)) here.layout here.shape is both.0 both.1 in
      let meant = (placed_at-node ns well i here here.shape lt at refl).1 in
      subst (λ p. Sees (typed_at ns i) p) (sym meant)
      (subst (λ t. Sees t (meaning (types_in ns) here.layout here.shape)) (sym (typed_at-node ns well i here lt at)) seen)

  -- what a node is sees what it means
  pub seen_at : (i : ℕ) → i < length ns → Sees (typed_at ns i) (placed_at ns i)
  seen_at i lt = seen_before (length ns) i lt lt
