use Rattle.std.proofs.Common.{IfOk, ◌≡◌, ◌<◌, ◌≤◌, ◌*◌, ℕ, length, true, List, [], ◌∷◌, get_or, arith, sym, ap, ◌∙◌, subst, ⊎_elim}
use Rattle.std.proofs.lemmas.List.{get_or_default}
use Rattle.std.proofs.lemmas.Result.{IfOk-weaker}
use Rattle.std.proofs.lemmas.Bool.{cases_lt}
use Rattle.abi_scalar.specs.Shape.{listed_offsets}
use Rattle.abi_scalar.specs.declared.variants.TagEncoding.TheVariants.{Direct}
use Rattle.abi_tree.specs.declared.value.Value.{Union as UnionKept}
use Rattle.abi_tree.specs.Value.{Value, number, value_count, value_of, values_of}
use Rattle.abi_tree.specs.Bytes.{picked_bytes}
use Rattle.abi_tree.specs.Placed.{Placed, Parts, TaggedVariants, elements, fields, single, tagged, pair, nothing, size_of}
use Rattle.abi_scalar.specs.Layout.{Layout}
use Rattle.abi_tree.specs.Places.{is_data_place}
use Rattle.abi_tree.specs.Tag.{Names}
use Rattle.abi_tree.specs.Nodes.{tagged_variants_in, encoding_of, variant_left, own_fields, parts_at, parts_at_0, placed_at, state_tag_offset, states_in, tag_offset, types_in}
use Rattle.abi_tree.specs.Well.{all_at}
use Rattle.abi_tree.specs.Room.{tagged_variants_have_room, has_room, have_room}
use Rattle.abi_tree.specs.Holding.{HoldTaggedVariant, HoldEach, HoldParts, Holds, IsAt}
use Rattle.abi_tree.specs.Reading.{Finds, FindsEach, FindsNamed, HoldsTwo, IsNamedIn}
use Rattle.abi_tree.proofs.Places.DataPlacesLemmas.{tagged_variant_room, elements_node, field_at, fields_node, never_node, pair_node, scalar_node, single_node, states_node, tagged_node, union_node, vector_node}
use Rattle.abi_tree.proofs.Meaning.WidthLemmas.{state_tag_width_at, tag_width_at}
use Rattle.abi_tree.proofs.Found.NamedLemmas.{count_children}
use Rattle.abi_tree.proofs.Found.ReadLemmas.{AreRead, HoldAll, HoldFrom, IsRead, elements_all, elements_more, elements_none, elements_stop, fields_all, fields_more, fields_stop, finds_list, finds_named, finds_number, finds_variant, from_tagged_variant, read_none, to_tagged_variant}
use Rattle.abi_tree.proofs.Found.FoundLemmas.{finds_none, states_rooms, named_found, finds_like, found_at, found_vector, from_elements, from_fields, from_never, from_pair, from_scalar, from_single, from_states, from_tagged, node_size, none_of_length, part_found, to_pair, to_union}
use Rattle.abi_tree.proofs.value.read.+read.Goals.{read_tagged_variant-then-is_named+in_ok-values+in_default, read_tagged_variant-else-is_named}
use Rattle.abi_tree.proofs.value.read.+read.Goals as goal

-- ---- the node itself

pub read_node-returns-then-bytes : goal.read_node-returns-then-bytes
read_node-returns-then-bytes t c =
    let size = node_size c.args.walk.nodes.now c.args.node _ c.requires.there c.node-here.ensures in
    none_of_length c.args.walk.order (placed_at c.args.walk.nodes.now c.args.node) c.args.bytes.now (λ e. c.if-bytes.true (e ∙ size ∙ sym c.bytes.ensures))

pub read_node-returns-in-Scalar : goal.read_node-returns-in-Scalar
read_node-returns-in-Scalar t c =
    let p : Placed = placed_at c.args.walk.nodes.now c.args.node in
    let is = scalar_node c.args.walk.nodes.now c.args.walk.well c.args.node _ c.requires.there c.node-here.ensures c.requires.room c.in-Scalar.field-0 c.in-Scalar.is in
    finds_number (Holds c.args.walk.order p c.args.bytes.now) (λ n. Holds c.args.walk.order p c.args.bytes.now (number n)) c.read_number.result c.as_number.result c.as_number.ensures c.read_number.ensures
    (λ n h. h)
    (subst (λ x. (v : Value) → Holds c.args.walk.order x c.args.bytes.now v → (n : ℕ) × Holds c.args.walk.order x c.args.bytes.now (number n)) (sym is)
    (from_scalar c.args.walk.order c.node-here.result.layout.now c.args.bytes.now c.in-Scalar.field-0))

pub read_node-read_pair-requires-clause-first : goal.read_node-read_pair-requires-clause-first
read_node-read_pair-requires-clause-first t c =
    let facts = pair_node c.args.walk.nodes.now c.args.walk.well c.args.node _ c.requires.there c.node-here.ensures c.requires.room c.in-Pair.first c.in-Pair.second c.in-Pair.is in
    let before = facts.0 0 0 (omega arith) in
    omega (arith, before, c.requires.there)

pub read_node-read_pair-requires-clause-second : goal.read_node-read_pair-requires-clause-second
read_node-read_pair-requires-clause-second t c =
    let facts = pair_node c.args.walk.nodes.now c.args.walk.well c.args.node _ c.requires.there c.node-here.ensures c.requires.room c.in-Pair.first c.in-Pair.second c.in-Pair.is in
    let before = facts.0 1 0 (omega arith) in
    omega (arith, before, c.requires.there)

pub read_node-returns-in-Pair : goal.read_node-returns-in-Pair
read_node-returns-in-Pair t c =
    let ns = c.args.walk.nodes.now in
    let b : List ℕ = c.args.bytes.now in
    let layout : Layout = c.node-here.result.layout.now in
    let facts = pair_node ns c.args.walk.well c.args.node _ c.requires.there c.node-here.ensures c.requires.room c.in-Pair.first c.in-Pair.second c.in-Pair.is in
    let parts : Parts = parts_at (listed_offsets layout.fields) (all_at ns (c.in-Pair.first ∷ c.in-Pair.second ∷ [])) in
    let found : Finds (HoldsTwo c.args.walk.order parts b) c.read_pair.result =
    subst (λ os. Finds (HoldsTwo c.args.walk.order (parts_at os (all_at ns (c.in-Pair.first ∷ c.in-Pair.second ∷ []))) b) c.read_pair.result) c.offsets.ensures c.read_pair.ensures in
    subst (λ x. Finds (Holds c.args.walk.order x b) c.read_pair.result) (sym facts.1)
    (finds_like (HoldsTwo c.args.walk.order parts b) (Holds c.args.walk.order (pair layout parts) b) c.read_pair.result
    (to_pair c.args.walk.order layout b parts (c.if-bytes.false ∙ c.bytes.ensures)) (from_pair c.args.walk.order layout b parts) found)

pub read_node-returns-in-Never : goal.read_node-returns-in-Never
read_node-returns-in-Never t c =
    let is = never_node c.args.walk.nodes.now c.args.walk.well c.args.node _ c.requires.there c.node-here.ensures c.requires.room c.in-Never.field-0 c.in-Never.is in
    subst (λ x. (v : Value) → Holds c.args.walk.order x c.args.bytes.now v → ⊥) (sym is) (from_never c.args.walk.order c.node-here.result.layout.now c.args.bytes.now c.in-Never.field-0)

pub read_node-read_elements-requires : goal.read_node-read_elements-requires
read_node-read_elements-requires t c =
    let facts = elements_node c.args.walk.nodes.now c.args.walk.well c.args.node _ c.requires.there c.node-here.ensures c.requires.room c.in-Elements.count c.in-Elements.element c.in-Elements.is in (
      omega (arith, facts.0, c.decreases),
      (omega (arith, facts.0, c.requires.there), (facts.3, c.if-bytes.false ∙ c.bytes.ensures ∙ facts.2)),
    )

pub read_node-returns-in_ok-found-in-Elements : goal.read_node-returns-in_ok-found-in-Elements
read_node-returns-in_ok-found-in-Elements t c =
    let ns = c.args.walk.nodes.now in
    let b : List ℕ = c.args.bytes.now in
    let layout : Layout = c.node-here.result.layout.now in
    let long : length b ≡ layout.size = c.if-bytes.false ∙ c.bytes.ensures in
    let facts = elements_node ns c.args.walk.well c.args.node _ c.requires.there c.node-here.ensures c.requires.room c.in-Elements.count c.in-Elements.element c.in-Elements.is in
    let element : Placed = placed_at ns c.in-Elements.element in
    subst (λ x. Finds (Holds c.args.walk.order x b) c.as_list.result) (sym facts.1)
    (finds_list (Holds c.args.walk.order (elements layout c.in-Elements.count element) b)
    (λ vs. (value_count vs ≡ c.in-Elements.count) × HoldEach (Holds c.args.walk.order element) (size_of element) 0 b vs)
    c.in_ok-found-in-Elements.found c.as_list.result c.as_list.ensures c.in_ok-found-in-Elements.ensures
    (λ vs h. (long, h.0, h.1)) (from_elements c.args.walk.order layout b c.in-Elements.count element))

pub read_node-read_parts-requires : goal.read_node-read_parts-requires
read_node-read_parts-requires t c =
    let facts = fields_node c.args.walk.nodes.now c.args.walk.well c.args.node _ c.requires.there c.node-here.ensures c.requires.room c.in-Fields.field-0 c.in-Fields.children c.in-Fields.is in
    let room : have_room (length c.args.bytes.now) (parts_at c.offsets-in-Fields.result.now (all_at c.args.walk.nodes.now c.deref.result.now)) ≡ true =
    rw (c.if-bytes.false, c.bytes.ensures, c.offsets-in-Fields.ensures, c.deref.ensures.value) facts.2 in
    (omega (arith, c.decreases), (c.requires.there, (rw c.deref.ensures.value facts.0, room)))

pub read_node-returns-in_ok-found-in-Fields : goal.read_node-returns-in_ok-found-in-Fields
read_node-returns-in_ok-found-in-Fields t c =
    let ns = c.args.walk.nodes.now in
    let b : List ℕ = c.args.bytes.now in
    let layout : Layout = c.node-here.result.layout.now in
    let long : length b ≡ layout.size = c.if-bytes.false ∙ c.bytes.ensures in
    let facts = fields_node ns c.args.walk.well c.args.node _ c.requires.there c.node-here.ensures c.requires.room c.in-Fields.field-0 c.in-Fields.children c.in-Fields.is in
    let parts : Parts = parts_at (listed_offsets layout.fields) (all_at ns c.in-Fields.children.items) in
    let found : FindsEach (HoldParts c.args.walk.order parts b) c.in_ok-found-in-Fields.found =
    subst (λ cs. FindsEach (HoldParts c.args.walk.order (parts_at (listed_offsets layout.fields) (all_at ns cs)) b) c.in_ok-found-in-Fields.found) c.deref.ensures.value
    (subst (λ os. FindsEach (HoldParts c.args.walk.order (parts_at os (all_at ns c.deref.result.now)) b) c.in_ok-found-in-Fields.found) c.offsets-in-Fields.ensures c.in_ok-found-in-Fields.ensures) in
    subst (λ x. Finds (Holds c.args.walk.order x b) c.as_list-in-Fields.result) (sym facts.1)
    (finds_list (Holds c.args.walk.order (fields layout c.in-Fields.field-0 parts) b) (HoldParts c.args.walk.order parts b) c.in_ok-found-in-Fields.found c.as_list-in-Fields.result c.as_list-in-Fields.ensures found
    (λ vs h. (long, h)) (from_fields c.args.walk.order layout b c.in-Fields.field-0 parts))

pub read_node-read_union-requires-clause-size : goal.read_node-read_union-requires-clause-size
read_node-read_union-requires-clause-size t c = c.if-bytes.false ∙ c.bytes.ensures ∙ sym (node_size c.args.walk.nodes.now c.args.node _ c.requires.there c.node-here.ensures)

pub read_node-returns-in_ok-read_union-in-Union : goal.read_node-returns-in_ok-read_union-in-Union
read_node-returns-in_ok-read_union-in-Union t c =
    let ns = c.args.walk.nodes.now in
    let b : List ℕ = c.args.bytes.now in
    let layout : Layout = c.node-here.result.layout.now in
    let facts = union_node ns c.args.walk.well c.args.node _ c.requires.there c.node-here.ensures c.requires.room c.in-Union.field-0 c.in-Union.field-1 c.in-Union.is in
    let parts : Parts = parts_at_0 (all_at ns c.in-Union.field-1.items) in
    subst (λ x. Holds c.args.walk.order x b (value_of (UnionKept c.in_ok-read_union-in-Union.field-0))) (sym facts.1)
    (to_union c.args.walk.order layout c.in-Union.field-0 parts b c.in_ok-read_union-in-Union.field-0 (c.if-bytes.false ∙ c.bytes.ensures)
    (c.in_ok-read_union-in-Union.ensures ∙ ap (λ x. picked_bytes (is_data_place x) 0 b) facts.1))

pub read_node-read_part-requires : goal.read_node-read_part-requires
read_node-read_part-requires t c =
    let facts = vector_node c.args.walk.nodes.now c.args.walk.well c.args.node _ c.requires.there c.node-here.ensures c.requires.room c.in-Vector.lanes c.in-Vector.is in
    (omega (arith, facts.0, c.decreases), (omega (arith, facts.0, c.requires.there), facts.2))

pub read_node-returns-in_ok-found-in-Vector : goal.read_node-returns-in_ok-found-in-Vector
read_node-returns-in_ok-found-in-Vector t c =
    let b : List ℕ = c.args.bytes.now in
    let layout : Layout = c.node-here.result.layout.now in
    let facts = vector_node c.args.walk.nodes.now c.args.walk.well c.args.node _ c.requires.there c.node-here.ensures c.requires.room c.in-Vector.lanes c.in-Vector.is in
    subst (λ x. Finds (Holds c.args.walk.order x b) c.only_list.result) (sym facts.1)
    (found_vector c.args.walk.order layout (placed_at c.args.walk.nodes.now c.in-Vector.lanes) b c.in_ok-found-in-Vector.found c.only_list.result (c.if-bytes.false ∙ c.bytes.ensures)
    c.only_list.ensures c.in_ok-found-in-Vector.ensures)

pub read_node-read_parts-requires-in-Single : goal.read_node-read_parts-requires-in-Single
read_node-read_parts-requires-in-Single t c =
    let facts = single_node c.args.walk.nodes.now c.args.walk.well c.args.node _ c.requires.there c.node-here.ensures c.requires.room c.in-Single.field-0 c.in-Single.children c.in-Single.is in
    let room : have_room (length c.args.bytes.now) (parts_at c.offsets-in-Single.result.now (all_at c.args.walk.nodes.now c.deref-in-Single.result.now)) ≡ true =
    rw (c.if-bytes.false, c.bytes.ensures, c.offsets-in-Single.ensures, c.deref-in-Single.ensures.value) facts.2 in
    (omega (arith, c.decreases), (c.requires.there, (rw c.deref-in-Single.ensures.value facts.0, room)))

pub read_node-returns-in_ok-found-in-Single : goal.read_node-returns-in_ok-found-in-Single
read_node-returns-in_ok-found-in-Single t c =
    let ns = c.args.walk.nodes.now in
    let b : List ℕ = c.args.bytes.now in
    let layout : Layout = c.node-here.result.layout.now in
    let long : length b ≡ layout.size = c.if-bytes.false ∙ c.bytes.ensures in
    let facts = single_node ns c.args.walk.well c.args.node _ c.requires.there c.node-here.ensures c.requires.room c.in-Single.field-0 c.in-Single.children c.in-Single.is in
    let parts : Parts = parts_at (listed_offsets layout.fields) (all_at ns c.in-Single.children.items) in
    let found : FindsEach (HoldParts c.args.walk.order parts b) c.in_ok-found-in-Single.found =
    subst (λ cs. FindsEach (HoldParts c.args.walk.order (parts_at (listed_offsets layout.fields) (all_at ns cs)) b) c.in_ok-found-in-Single.found) c.deref-in-Single.ensures.value
    (subst (λ os. FindsEach (HoldParts c.args.walk.order (parts_at os (all_at ns c.deref-in-Single.result.now)) b) c.in_ok-found-in-Single.found) c.offsets-in-Single.ensures c.in_ok-found-in-Single.ensures) in
    subst (λ x. Finds (Holds c.args.walk.order x b) c.as_variant.result) (sym facts.1)
    (finds_variant (Holds c.args.walk.order (single layout c.in-Single.field-0 (variant_left layout.variants) parts) b) (HoldParts c.args.walk.order parts b) c.index_left.result c.in_ok-found-in-Single.found c.as_variant.result
    c.as_variant.ensures found (λ vs h. (long, c.index_left.ensures, h)) (from_single c.args.walk.order layout b c.in-Single.field-0 (variant_left layout.variants) parts))

pub read_node-read_variant-requires : goal.read_node-read_variant-requires
read_node-read_variant-requires t c =
    let ns = c.args.walk.nodes.now in
    let facts = tagged_node ns c.args.walk.well c.args.node _ c.requires.there c.node-here.ensures c.requires.room c.in-Tagged.mark c.in-Tagged.tag c.in-Tagged.variants c.in-Tagged.is in
    let width = tag_width_at ns c.args.walk.well c.args.walk.widths c.args.node _ c.requires.there c.node-here.ensures c.in-Tagged.mark c.in-Tagged.tag c.in-Tagged.variants c.in-Tagged.is in (
      omega (arith, c.decreases),
      (
        c.requires.there,
        (facts.0, (rw c.deref-in-Tagged.ensures.value facts.1, (width, (c.if-bytes.false ∙ c.bytes.ensures, rw c.deref-in-Tagged.ensures.value facts.5)))),
      ),
    )

pub read_node-returns-in-Tagged : goal.read_node-returns-in-Tagged
read_node-returns-in-Tagged t c =
    let ns = c.args.walk.nodes.now in
    let b : List ℕ = c.args.bytes.now in
    let layout : Layout = c.node-here.result.layout.now in
    let facts = tagged_node ns c.args.walk.well c.args.node _ c.requires.there c.node-here.ensures c.requires.room c.in-Tagged.mark c.in-Tagged.tag c.in-Tagged.variants c.in-Tagged.is in
    let whole : List (ℕ × ℕ) → Placed = λ vs. tagged layout c.in-Tagged.mark (tag_offset layout) (placed_at ns c.in-Tagged.tag) (encoding_of layout.variants) (tagged_variants_in (types_in ns) vs) in
    IfOk-weaker c.read_variant.result _ _
    (λ found h. subst (λ x. Finds (Holds c.args.walk.order x b) found) (ap whole c.deref-in-Tagged.ensures.value ∙ sym facts.2) (h c.in-Tagged.mark))
    c.read_variant.ensures

pub read_node-read_state-requires : goal.read_node-read_state-requires
read_node-read_state-requires t c =
    let ns = c.args.walk.nodes.now in
    let layout : Layout = c.node-here.result.layout.now in
    let facts = states_node ns c.args.walk.well c.args.node _ c.requires.there c.node-here.ensures c.requires.room c.in-States.prefix c.in-States.tag c.in-States.states c.in-States.is in
    let width = state_tag_width_at ns c.args.walk.well c.args.walk.widths c.args.node _ c.requires.there c.node-here.ensures c.in-States.prefix c.in-States.tag c.in-States.states c.in-States.is in
    let room : has_room (states_in (types_in ns) layout c.deref-in-States.result.now c.in-States.tag c.deref-in-States-2.result.now) ≡ true =
    subst (λ vs. has_room (states_in (types_in ns) layout c.deref-in-States.result.now c.in-States.tag vs) ≡ true) (sym c.deref-in-States-2.ensures.value)
    (subst (λ ps. has_room (states_in (types_in ns) layout ps c.in-States.tag c.in-States.states.items) ≡ true) (sym c.deref-in-States.ensures.value) facts.4) in (
      omega (arith, c.decreases),
      (
        c.requires.there,
        (
          rw c.deref-in-States.ensures.value facts.0,
          (facts.1, (rw c.deref-in-States-2.ensures.value facts.2, (width, (c.if-bytes.false ∙ c.bytes.ensures, room)))),
        ),
      ),
    )

pub read_node-returns-in-States : goal.read_node-returns-in-States
read_node-returns-in-States t c =
    let ns = c.args.walk.nodes.now in
    let b : List ℕ = c.args.bytes.now in
    let layout : Layout = c.node-here.result.layout.now in
    let facts = states_node ns c.args.walk.well c.args.node _ c.requires.there c.node-here.ensures c.requires.room c.in-States.prefix c.in-States.tag c.in-States.states c.in-States.is in
    subst (λ x. IfOk c.read_state.result (Finds (Holds c.args.walk.order x b))) (sym facts.3)
    (subst (λ vs. IfOk c.read_state.result (Finds (Holds c.args.walk.order (states_in (types_in ns) layout c.in-States.prefix.items c.in-States.tag vs) b))) c.deref-in-States-2.ensures.value
    (subst (λ ps. IfOk c.read_state.result (Finds (Holds c.args.walk.order (states_in (types_in ns) layout ps c.in-States.tag c.deref-in-States-2.result.now) b))) c.deref-in-States.ensures.value
    c.read_state.ensures))

-- ---- a part of it

pub read_part-read_node-requires : goal.read_part-read_node-requires
read_part-read_node-requires t c = (omega (arith, c.decreases), (c.requires.there, c.requires.room))

pub read_part-returns-in-Some : goal.read_part-returns-in-Some
read_part-returns-in-Some t c =
    let p : Placed = placed_at c.args.walk.nodes.now c.args.node in
    let size : c.bytes.result ≡ size_of p = rw c.bytes.ensures (ap (λ l. l.size) c.layout.ensures) in
    IfOk-weaker c.read_node.result _ _
    (λ found h. found_at c.args.walk.order p c.args.offset c.bytes.result c.args.bytes.now c.in-Some.part.now size c.in-Some.ensures.0 c.in-Some.ensures.1 found h)
    c.read_node.ensures

-- ---- elements

pub read_elements-loop-i-init : goal.read_elements-loop-i-init
read_elements-loop-i-init t c =
    let p : Placed = placed_at c.args.walk.nodes.now c.args.element in
    subst (IsRead (HoldAll (Holds c.args.walk.order p) (size_of p) c.args.bytes.now c.args.count) (HoldFrom (Holds c.args.walk.order p) (size_of p) c.args.bytes.now c.args.count 0)) (sym c.in_ok-values.ensures.items)
    (elements_none (Holds c.args.walk.order p) (size_of p) c.args.bytes.now c.args.count)

pub read_elements-read_part-requires : goal.read_elements-read_part-requires
read_elements-read_part-requires t c = (omega (arith, c.decreases), (c.requires.there, c.requires.room))

pub read_elements-returns-in-None : goal.read_elements-returns-in-None
read_elements-returns-in-None t c =
    let p : Placed = placed_at c.args.walk.nodes.now c.args.element in
    let size : c.bytes-size.result ≡ size_of p = rw c.bytes-size.ensures (ap (λ l. l.size) c.layout.ensures) in
    let found : Finds (λ v. IsAt (c.loop-i.i * size_of p) (size_of p) (λ s. Holds c.args.walk.order p s v) c.args.bytes.now) c.in_ok-value.field-0 =
    subst (λ n. Finds (λ v. IsAt (c.loop-i.i * n) (size_of p) (λ s. Holds c.args.walk.order p s v) c.args.bytes.now) c.in_ok-value.field-0) size c.in_ok-value.ensures in
    elements_stop (Holds c.args.walk.order p) (size_of p) c.args.bytes.now c.args.count c.loop-i.i c.loop-i-test.true c.loop-i.values.items c.loop-i.invariant
    (subst (Finds (λ v. IsAt (c.loop-i.i * size_of p) (size_of p) (λ s. Holds c.args.walk.order p s v) c.args.bytes.now)) c.in-None.is found)

pub read_elements-loop-i-preserved : goal.read_elements-loop-i-preserved
read_elements-loop-i-preserved t c =
    let p : Placed = placed_at c.args.walk.nodes.now c.args.element in
    let size : c.bytes-size.result ≡ size_of p = rw c.bytes-size.ensures (ap (λ l. l.size) c.layout.ensures) in
    let found : Finds (λ v. IsAt (c.loop-i.i * size_of p) (size_of p) (λ s. Holds c.args.walk.order p s v) c.args.bytes.now) c.in_ok-value.field-0 =
    subst (λ n. Finds (λ v. IsAt (c.loop-i.i * n) (size_of p) (λ s. Holds c.args.walk.order p s v) c.args.bytes.now) c.in_ok-value.field-0) size c.in_ok-value.ensures in
    elements_more (Holds c.args.walk.order p) (size_of p) c.args.bytes.now c.args.count c.loop-i.i c.loop-i-test.true c.loop-i.values.items c.loop-i.invariant
    c.in-Some.value c.push.new.self.items c.in_ok-push-in-Some.ensures.items
    (subst (Finds (λ v. IsAt (c.loop-i.i * size_of p) (size_of p) (λ s. Holds c.args.walk.order p s v) c.args.bytes.now)) c.in-Some.is found)

pub read_elements-returns : goal.read_elements-returns
read_elements-returns t c =
    let p : Placed = placed_at c.args.walk.nodes.now c.args.element in
    elements_all (Holds c.args.walk.order p) (size_of p) c.args.bytes.now c.args.count c.loop-i.i c.loop-i.values.items (omega (arith, c.loop-i-test.false, c.loop-i.auto.i-end)) c.loop-i.invariant

-- ---- fields

pub read_parts-loop-i-init : goal.read_parts-loop-i-init
read_parts-loop-i-init t c =
    let ps : List Placed = all_at c.args.walk.nodes.now c.args.children.now in
    subst (AreRead c.args.walk.order c.args.offsets.now ps c.args.bytes.now 0) (sym c.in_ok-values.ensures.items) (read_none (HoldParts c.args.walk.order (parts_at c.args.offsets.now ps) c.args.bytes.now))

pub read_parts-read_part-requires : goal.read_parts-read_part-requires
read_parts-read_part-requires t c =
    let i : ℕ = c.loop-i.i in
    let lt : i < length c.args.offsets.now = omega (arith, c.loop-i-test.true, c.min-count.ensures) in
    let below : i < length c.args.children.now = omega (arith, c.loop-i-test.true, c.min-count.ensures) in
    let at = field_at c.args.walk.nodes.now c.args.offsets.now c.args.children.now i lt below (length c.args.bytes.now) c.args.node c.requires.before c.requires.room in
    (omega (arith, at.0, c.decreases), (omega (arith, at.0, c.requires.there), at.2))

pub read_parts-returns-in-None : goal.read_parts-returns-in-None
read_parts-returns-in-None t c =
    let ns = c.args.walk.nodes.now in
    let i : ℕ = c.loop-i.i in
    let os : List ℕ = c.args.offsets.now in
    let ps : List Placed = all_at ns c.args.children.now in
    let lt : i < length os = omega (arith, c.loop-i-test.true, c.min-count.ensures) in
    let below : i < length c.args.children.now = omega (arith, c.loop-i-test.true, c.min-count.ensures) in
    let found = part_found c.args.walk.order ns os c.args.children.now c.args.bytes.now i c.bytes.result c.in_ok-value.field-0 below (c.bytes.ensures ∙ c.index-offsets-i.is ∙ get_or_default os i c.index-offsets-i.result 0 lt) c.in_ok-value.ensures in
    fields_stop c.args.walk.order os ps c.args.bytes.now i lt (omega (arith, below, count_children ns c.args.children.now)) c.loop-i.values.items c.loop-i.invariant
    (subst (Finds (λ v. IsAt (get_or os i 0) (size_of (get_or ps i nothing)) (λ s. Holds c.args.walk.order (get_or ps i nothing) s v) c.args.bytes.now)) c.in-None.is found)

pub read_parts-loop-i-preserved : goal.read_parts-loop-i-preserved
read_parts-loop-i-preserved t c =
    let ns = c.args.walk.nodes.now in
    let i : ℕ = c.loop-i.i in
    let os : List ℕ = c.args.offsets.now in
    let ps : List Placed = all_at ns c.args.children.now in
    let lt : i < length os = omega (arith, c.loop-i-test.true, c.min-count.ensures) in
    let below : i < length c.args.children.now = omega (arith, c.loop-i-test.true, c.min-count.ensures) in
    let found = part_found c.args.walk.order ns os c.args.children.now c.args.bytes.now i c.bytes.result c.in_ok-value.field-0 below (c.bytes.ensures ∙ c.index-offsets-i.is ∙ get_or_default os i c.index-offsets-i.result 0 lt) c.in_ok-value.ensures in
    fields_more c.args.walk.order os ps c.args.bytes.now i lt (omega (arith, below, count_children ns c.args.children.now)) c.loop-i.values.items c.loop-i.invariant
    c.in-Some.value c.push.new.self.items c.in_ok-push-in-Some.ensures.items
    (subst (Finds (λ v. IsAt (get_or os i 0) (size_of (get_or ps i nothing)) (λ s. Holds c.args.walk.order (get_or ps i nothing) s v) c.args.bytes.now)) c.in-Some.is found)

pub read_parts-returns : goal.read_parts-returns
read_parts-returns t c =
    let ps : List Placed = all_at c.args.walk.nodes.now c.args.children.now in
    let end = count_children c.args.walk.nodes.now c.args.children.now in
    fields_all c.args.walk.order c.args.offsets.now ps c.args.bytes.now c.loop-i.i c.loop-i.values.items (omega (arith, end, c.loop-i-test.false, c.min-count.ensures)) c.loop-i.invariant

-- ---- the variant that a tag names

pub read_own-read_parts-requires : goal.read_own-read_parts-requires
read_own-read_parts-requires t c =
    let room : have_room (length c.args.bytes.now) (parts_at c.own_parts.result.0.now (all_at c.args.walk.nodes.now c.own_parts.result.1.now)) ≡ true =
    subst (λ parts. have_room (length c.args.bytes.now) parts ≡ true) c.own_parts.ensures.parts c.requires.room in
    (omega (arith, c.decreases), (c.requires.there, (c.own_parts.ensures.before, room)))

pub read_tagged_variant-loop-i-init : goal.read_tagged_variant-loop-i-init
read_tagged_variant-loop-i-init t c = λ j vs lt. absurd (omega arith)

pub read_tagged_variant-read_own-requires : goal.read_tagged_variant-read_own-requires
read_tagged_variant-read_own-requires t c =
    let i : ℕ = c.loop-i.i in
    let before = c.requires.before i (0, 0) c.loop-i-test.true in (
      omega (arith, before, c.decreases),
      (
        omega (arith, before, c.requires.there),
        tagged_variant_room (length c.args.bytes.now) (types_in c.args.walk.nodes.now) c.args.variants.now i (0, 0) c.requires.room c.loop-i-test.true,
      ),
    )

pub read_tagged_variant-returns-in-Some : goal.read_tagged_variant-returns-in-Some
read_tagged_variant-returns-in-Some t c =
    let i : ℕ = c.loop-i.i in
    let own : Parts = own_fields (placed_at c.args.walk.nodes.now (get_or c.args.variants.now i (0, 0)).1) in
    let found = subst (FindsEach (HoldParts c.args.walk.order own c.args.bytes.now)) c.in-Some.is c.in_ok-values.ensures in
    (c.if-is_named.ensures, to_tagged_variant c.args.walk.order (types_in c.args.walk.nodes.now) c.args.bytes.now c.args.variants.now i (0, 0) (values_of c.in-Some.values.items) c.loop-i-test.true found)

pub read_tagged_variant-loop-i-preserved : goal.read_tagged_variant-loop-i-preserved
read_tagged_variant-loop-i-preserved t c = λ j vs lt names holds.
    let i : ℕ = c.loop-i.i in
    let own : Parts = own_fields (placed_at c.args.walk.nodes.now (get_or c.args.variants.now i (0, 0)).1) in
    ⊎_elim
    (λ below. c.loop-i.invariant j vs below names holds)
    (λ le.
    let same : j ≡ i = omega arith in
    let at = from_tagged_variant c.args.walk.order (types_in c.args.walk.nodes.now) c.args.bytes.now c.args.variants.now i (0, 0) vs
    (subst (λ k. HoldTaggedVariant c.args.walk.order (tagged_variants_in (types_in c.args.walk.nodes.now) c.args.variants.now) k c.args.bytes.now vs) same holds) in
    elim c.if-is_named.branch [
      | read_tagged_variant-then-is_named+in_ok-values+in_default w ↦
          finds_none (HoldParts c.args.walk.order own c.args.bytes.now) w.in_ok-values.field-0 w.in_default.not-Some w.in_ok-values.ensures vs at.1
      | read_tagged_variant-else-is_named w ↦
          w.if-is_named.ensures (subst (Names c.args.encoding.now c.args.width (tagged_variants_in (types_in c.args.walk.nodes.now) c.args.variants.now) c.args.tag) same names)
    ])
    (cases_lt j i)

pub read_tagged_variant-returns : goal.read_tagged_variant-returns
read_tagged_variant-returns t c = λ i vs h.
    let at = from_tagged_variant c.args.walk.order (types_in c.args.walk.nodes.now) c.args.bytes.now c.args.variants.now i (0, 0) vs h.1 in
    c.loop-i.invariant i vs (omega (arith, at.0, c.loop-i-test.false)) h.0 h.1

pub read_named-read_tagged_variant-requires : goal.read_named-read_tagged_variant-requires
read_named-read_tagged_variant-requires t c =
    let width : c.layout.result.now.size ≤ 16 = subst (λ l. l.size ≤ 16) (sym c.layout.ensures) c.requires.width in
    (omega (arith, c.decreases), (c.requires.there, (c.requires.before, (width, c.requires.room))))

pub read_named-returns-in-Some : goal.read_named-returns-in-Some
read_named-returns-in-Some t c =
    let ns = c.args.walk.nodes.now in
    let tag : Placed = placed_at ns c.args.tag in
    let b : List ℕ = c.args.bytes.now in
    let tagged_variants : TaggedVariants = tagged_variants_in (types_in ns) c.args.variants.now in
    let size : c.bytes.result ≡ size_of tag = rw c.bytes.ensures (ap (λ l. l.size) c.layout.ensures) in
    let found : IfOk c.read_tagged_variant.result (FindsNamed (λ i vs. Names c.args.encoding.now c.bytes.result tagged_variants c.number_in-number.result i × HoldTaggedVariant c.args.walk.order tagged_variants i b vs)) =
    subst (λ w. IfOk c.read_tagged_variant.result (FindsNamed (λ i vs. Names c.args.encoding.now w tagged_variants c.number_in-number.result i × HoldTaggedVariant c.args.walk.order tagged_variants i b vs))) (sym c.bytes.ensures) c.read_tagged_variant.ensures in
    IfOk-weaker c.read_tagged_variant.result _ _
    (λ f h. named_found c.args.walk.order b c.in-Some.part.now c.args.encoding.now c.args.offset c.bytes.result tag tagged_variants c.number_in-number.result f size c.in-Some.ensures.0 c.in-Some.ensures.1
    c.number_in-number.ensures.value h)
    found

-- ---- a variant

pub read_variant-read_named-requires : goal.read_variant-read_named-requires
read_variant-read_named-requires t c =
    let room : tagged_variants_have_room (length c.args.bytes.now) (tagged_variants_in (types_in c.args.walk.nodes.now) c.args.variants.now) ≡ true = rw c.requires.size c.requires.room in
    (omega (arith, c.decreases), (c.requires.there, (c.requires.first, (c.requires.before, (c.requires.width, room)))))

pub read_variant-returns : goal.read_variant-returns
read_variant-returns t c = λ mark.
    let ns = c.args.walk.nodes.now in
    let b : List ℕ = c.args.bytes.now in
    let layout : Layout = c.args.layout.now in
    let tag : Placed = placed_at ns c.args.tag in
    let tagged_variants : TaggedVariants = tagged_variants_in (types_in ns) c.args.variants.now in
    let found : FindsNamed (IsNamedIn c.args.walk.order b (encoding_of layout.variants) (tag_offset layout) tag tagged_variants) c.in_ok-found.found =
    subst (λ o. FindsNamed (IsNamedIn c.args.walk.order b (encoding_of layout.variants) o tag tagged_variants) c.in_ok-found.found) c.tag_offset-offset.ensures
    (subst (λ e. FindsNamed (IsNamedIn c.args.walk.order b e c.tag_offset-offset.result tag tagged_variants) c.in_ok-found.found) c.encoding_of-encoding.ensures c.in_ok-found.ensures) in
    finds_named (Holds c.args.walk.order (tagged layout mark (tag_offset layout) tag (encoding_of layout.variants) tagged_variants) b)
    (IsNamedIn c.args.walk.order b (encoding_of layout.variants) (tag_offset layout) tag tagged_variants) c.in_ok-found.found c.as_named.result c.as_named.ensures found
    (λ i vs h. (c.requires.size, h.0, h.1, h.2)) (from_tagged c.args.walk.order layout b mark (tag_offset layout) tag (encoding_of layout.variants) tagged_variants)

-- ---- a state

pub read_state-read_parts-requires : goal.read_state-read_parts-requires
read_state-read_parts-requires t c =
    let ns = c.args.walk.nodes.now in
    let rooms = states_rooms ns c.args.layout.now c.args.prefix.now c.args.tag c.args.states.now c.requires.room in
    let room : have_room (length c.args.bytes.now) (parts_at c.offsets.result.now (all_at ns c.args.prefix.now)) ≡ true = rw (c.requires.size, c.offsets.ensures) rooms.0 in
    (omega (arith, c.decreases), (c.requires.there, (c.requires.fields, room)))

pub read_state-returns-in-None : goal.read_state-returns-in-None
read_state-returns-in-None t c = λ v h.
    let ns = c.args.walk.nodes.now in
    let b : List ℕ = c.args.bytes.now in
    let layout : Layout = c.args.layout.now in
    let ps : List Placed = all_at ns c.args.prefix.now in
    let parts : Parts = parts_at (listed_offsets layout.fields) ps in
    let held = from_states c.args.walk.order layout b parts (state_tag_offset layout (length c.args.prefix.now)) (placed_at ns c.args.tag) (tagged_variants_in (types_in ns) c.args.states.now) v h in
    let found = subst (FindsEach (HoldParts c.args.walk.order parts b)) c.in-None.is (subst (λ os. FindsEach (HoldParts c.args.walk.order (parts_at os ps) b) c.in_ok-shared.field-0) c.offsets.ensures c.in_ok-shared.ensures) in
    found held.0 held.1

pub read_state-read_named-requires : goal.read_state-read_named-requires
read_state-read_named-requires t c =
    let ns = c.args.walk.nodes.now in
    let rooms = states_rooms ns c.args.layout.now c.args.prefix.now c.args.tag c.args.states.now c.requires.room in
    let room : tagged_variants_have_room (length c.args.bytes.now) (tagged_variants_in (types_in ns) c.args.states.now) ≡ true = rw c.requires.size rooms.1 in (
      omega (arith, c.decreases),
      (c.requires.there, (c.requires.first, (c.requires.before, (c.requires.width, room)))),
    )

pub read_state-returns-in-None-found : goal.read_state-returns-in-None-found
read_state-returns-in-None-found t c = λ v h.
    let ns = c.args.walk.nodes.now in
    let b : List ℕ = c.args.bytes.now in
    let layout : Layout = c.args.layout.now in
    let offset : ℕ = state_tag_offset layout (length c.args.prefix.now) in
    let tag : Placed = placed_at ns c.args.tag in
    let tagged_variants : TaggedVariants = tagged_variants_in (types_in ns) c.args.states.now in
    let held = from_states c.args.walk.order layout b (parts_at (listed_offsets layout.fields) (all_at ns c.args.prefix.now)) offset tag tagged_variants v h in
    let found = subst (FindsNamed (IsNamedIn c.args.walk.order b Direct offset tag tagged_variants)) c.in-None-found.is
    (subst (λ o. FindsNamed (IsNamedIn c.args.walk.order b Direct o tag tagged_variants) c.in_ok-found.found) c.state_tag_offset-offset.ensures c.in_ok-found.ensures) in
    found held.2 held.3 held.4
