use Rattle.std.proofs.Common.{◌≡◌, ◌+◌, ◌<◌, ◌≤◌, ◌*◌, ℕ, length, true, List, [], ◌∷◌, get_or, arith, refl, sym, ap, ◌∙◌, subst}
use Rattle.std.specs.Prelude.{◌&&◌, nat_lt}
use Rattle.std.proofs.lemmas.List.{get_or_default}
use Rattle.std.proofs.lemmas.Result.{on_ok_weaker}
use Rattle.abi_scalar.specs.Shape.{listed_offsets}
use Rattle.abi_scalar.specs.declared.variants.TagEncoding.TheVariants.{Direct}
use Rattle.abi_tree.specs.declared.value.Value.{Value as Kept}
use Rattle.abi_tree.specs.Value.{Value, Values, value_of, values_of}
use Rattle.abi_tree.specs.Bytes.{AreBytes, picked_bytes}
use Rattle.abi_tree.specs.Placed.{Placed, Parts, TaggedVariants, nothing, size_of, tagged}
use Rattle.abi_scalar.specs.Layout.{Layout}
use Rattle.abi_tree.specs.Places.{is_data_place}
use Rattle.abi_tree.specs.Nodes.{tagged_variants_in, encoding_of, variant_left, own_fields, parts_at, parts_at_0, placed_at, placed_in, state_tag_offset, states_in, tag_offset, types_in}
use Rattle.abi_tree.specs.Well.{all_at}
use Rattle.abi_tree.specs.Room.{tagged_variants_have_room, have_room}
use Rattle.abi_tree.specs.Holding.{HoldParts, Holds}
use Rattle.abi_tree.specs.Covering.{are_covered, is_tagged_variant_covered, is_byte_at, is_covered, is_tagged}
use Rattle.abi_tree.specs.Writing.{IsPutOver}
use Rattle.abi_tree.specs.Putting.{PutsTag, PutsValue}
use Rattle.abi_tree.proofs.Places.DataPlacesLemmas.{tagged_variant_room, elements_node, field_at, fields_node, never_node, pair_node, scalar_node, single_node, states_node, tagged_node, union_node, vector_node}
use Rattle.abi_tree.proofs.Meaning.WidthLemmas.{scalar_width_at, state_tag_width_at, tag_width_at}
use Rattle.abi_tree.proofs.Found.NamedLemmas.{child_is, count_children}
use Rattle.abi_tree.proofs.Found.ReadLemmas.{from_tagged_variant}
use Rattle.abi_tree.proofs.Found.FoundLemmas.{node_size, states_rooms}
use Rattle.abi_tree.proofs.Bytes.PutOverLemmas.{put_both, put_like}
use Rattle.abi_tree.proofs.Written.WriteLemmas.{tagged_variant_covers, TaggedVariantPut, PartsPut, elements_begin, elements_done, elements_next, parts_all, parts_more, put_elements, put_fields, put_never, put_pair, put_scalar, put_single, put_slice, put_states, put_tagged, put_union, put_vector, vector_room, written_none}
use Rattle.abi_tree.proofs.value.write.+write.Goals as goal

-- ---- the node itself

pub write_node-put_number-requires-clause-width : goal.write_node-put_number-requires-clause-width
write_node-put_number-requires-clause-width t c =
    let width = scalar_width_at c.args.walk.nodes.now c.args.walk.well c.args.walk.widths c.args.node _ c.requires.there c.node-here.ensures c.in-Scalar.field-0 c.in-Scalar.is in
    omega (arith, width.0, c.bytes-size.ensures)

pub write_node-put_number-requires-clause-fits : goal.write_node-put_number-requires-clause-fits
write_node-put_number-requires-clause-fits t c =
    let size = node_size c.args.walk.nodes.now c.args.node _ c.requires.there c.node-here.ensures in
    omega (arith, size, c.bytes-size.ensures, c.requires.fits)

pub write_node-returns-in-Scalar-clause-put : goal.write_node-returns-in-Scalar-clause-put
write_node-returns-in-Scalar-clause-put t c = λ b all held.
    let layout : Layout = c.node-here.result.layout.now in
    let is = scalar_node c.args.walk.nodes.now c.args.walk.well c.args.node _ c.requires.there c.node-here.ensures c.requires.room c.in-Scalar.field-0 c.in-Scalar.is in
    subst (λ p. IsPutOver (is_covered p (value_of c.args.value.now)) c.args.at b c.args.bytes.now c.put_number.new.bytes) (sym is)
    (put_scalar c.args.walk.order layout c.args.at b c.args.bytes.now c.put_number.new.bytes c.in-Scalar.field-0 (value_of c.args.value.now) c.number.result c.number.ensures
    (λ long value. subst (λ w. IsPutOver (λ k. nat_lt k w) c.args.at b c.args.bytes.now c.put_number.new.bytes) c.bytes-size.ensures (c.put_number.ensures.put b all (long ∙ sym c.bytes-size.ensures) value))
    (subst (λ p. Holds c.args.walk.order p b (value_of c.args.value.now)) is held))

pub write_node-write_fields-requires : goal.write_node-write_fields-requires
write_node-write_fields-requires t c =
    let size = node_size c.args.walk.nodes.now c.args.node _ c.requires.there c.node-here.ensures in
    let facts = pair_node c.args.walk.nodes.now c.args.walk.well c.args.node _ c.requires.there c.node-here.ensures c.requires.room c.in-Pair.first c.in-Pair.second c.in-Pair.is in
    (omega (arith, c.decreases), (c.requires.there, (facts.0, (facts.2, omega (arith, size, c.requires.fits)))))

pub write_node-returns-in-Pair-clause-put : goal.write_node-returns-in-Pair-clause-put
write_node-returns-in-Pair-clause-put t c =
    let ns = c.args.walk.nodes.now in
    let layout : Layout = c.node-here.result.layout.now in
    let v : Value = value_of c.args.value.now in
    let children : List ℕ = c.in-Pair.first ∷ c.in-Pair.second ∷ [] in
    let facts = pair_node ns c.args.walk.well c.args.node _ c.requires.there c.node-here.ensures c.requires.room c.in-Pair.first c.in-Pair.second c.in-Pair.is in
    let parts : Parts = parts_at (listed_offsets layout.fields) (all_at ns children) in
    on_ok_weaker c.write_fields.result
    (λ put b all held.
    subst (λ p. IsPutOver (is_covered p v) c.args.at b c.args.bytes.now c.write_fields.new.bytes) (sym facts.1)
    (put_pair c.args.walk.order layout c.args.at b c.args.bytes.now c.write_fields.new.bytes parts v c.pair-one.result.0 c.pair-one.result.1 c.pair-one.ensures (put b all)
    (subst (λ p. Holds c.args.walk.order p b v) facts.1 held)))
    c.write_fields.ensures.put

pub write_node-returns-in-Never-clause-put : goal.write_node-returns-in-Never-clause-put
write_node-returns-in-Never-clause-put t c = λ b all held.
    let is = never_node c.args.walk.nodes.now c.args.walk.well c.args.node _ c.requires.there c.node-here.ensures c.requires.room c.in-Never.field-0 c.in-Never.is in
    subst (λ p. IsPutOver (is_covered p (value_of c.args.value.now)) c.args.at b c.args.bytes.now c.args.bytes.now) (sym is)
    (put_never c.args.walk.order c.node-here.result.layout.now c.args.at b c.args.bytes.now c.args.bytes.now c.in-Never.field-0 (value_of c.args.value.now)
    (subst (λ p. Holds c.args.walk.order p b (value_of c.args.value.now)) is held))

pub write_node-write_elements-requires : goal.write_node-write_elements-requires
write_node-write_elements-requires t c =
    let size = node_size c.args.walk.nodes.now c.args.node _ c.requires.there c.node-here.ensures in
    let facts = elements_node c.args.walk.nodes.now c.args.walk.well c.args.node _ c.requires.there c.node-here.ensures c.requires.room c.in-Elements.count c.in-Elements.element c.in-Elements.is in (
      omega (arith, facts.0, c.decreases),
      (omega (arith, facts.0, c.requires.there), (facts.3, omega (arith, size, facts.2, c.requires.fits))),
    )

pub write_node-returns-in-Elements-clause-put : goal.write_node-returns-in-Elements-clause-put
write_node-returns-in-Elements-clause-put t c =
    let ns = c.args.walk.nodes.now in
    let v : Value = value_of c.args.value.now in
    let facts = elements_node ns c.args.walk.well c.args.node _ c.requires.there c.node-here.ensures c.requires.room c.in-Elements.count c.in-Elements.element c.in-Elements.is in
    on_ok_weaker c.write_elements.result
    (λ put b all held.
    subst (λ p. IsPutOver (is_covered p v) c.args.at b c.args.bytes.now c.write_elements.new.bytes) (sym facts.1)
    (put_elements c.args.walk.order c.node-here.result.layout.now c.args.at b c.args.bytes.now c.write_elements.new.bytes c.in-Elements.count (placed_at ns c.in-Elements.element) v (values_of c.list.result.now)
    c.list.ensures (λ many. put many b all) (subst (λ p. Holds c.args.walk.order p b v) facts.1 held)))
    c.write_elements.ensures.put

pub write_node-write_fields-requires-in-Fields : goal.write_node-write_fields-requires-in-Fields
write_node-write_fields-requires-in-Fields t c =
    let size = node_size c.args.walk.nodes.now c.args.node _ c.requires.there c.node-here.ensures in
    let facts = fields_node c.args.walk.nodes.now c.args.walk.well c.args.node _ c.requires.there c.node-here.ensures c.requires.room c.in-Fields.field-0 c.in-Fields.children c.in-Fields.is in
    (omega (arith, c.decreases), (c.requires.there, (rw c.deref.ensures.value facts.0, (rw c.deref.ensures.value facts.2, omega (arith, size, c.requires.fits)))))

pub write_node-returns-in-Fields-clause-put : goal.write_node-returns-in-Fields-clause-put
write_node-returns-in-Fields-clause-put t c =
    let ns = c.args.walk.nodes.now in
    let layout : Layout = c.node-here.result.layout.now in
    let v : Value = value_of c.args.value.now in
    let us : Values = values_of c.list-in-Fields.result.now in
    let new : List ℕ = c.write_fields-in-Fields.new.bytes in
    let facts = fields_node ns c.args.walk.well c.args.node _ c.requires.there c.node-here.ensures c.requires.room c.in-Fields.field-0 c.in-Fields.children c.in-Fields.is in
    let parts : Parts = parts_at (listed_offsets layout.fields) (all_at ns c.in-Fields.children.items) in
    on_ok_weaker c.write_fields-in-Fields.result
    (λ put b all held.
    subst (λ p. IsPutOver (is_covered p v) c.args.at b c.args.bytes.now new) (sym facts.1)
    (put_fields c.args.walk.order layout c.args.at b c.args.bytes.now new c.in-Fields.field-0 parts v us c.list-in-Fields.ensures (put b all) (subst (λ p. Holds c.args.walk.order p b v) facts.1 held)))
    (subst (λ cs. PartsPut c.args.walk.order c.args.at c.args.bytes.now new (parts_at (listed_offsets layout.fields) (all_at ns cs)) us c.write_fields-in-Fields.result) c.deref.ensures.value
    c.write_fields-in-Fields.ensures.put)

pub write_node-write_union-requires-clause-fits : goal.write_node-write_union-requires-clause-fits
write_node-write_union-requires-clause-fits t c = c.requires.fits

pub write_node-returns-in-Union-clause-put : goal.write_node-returns-in-Union-clause-put
write_node-returns-in-Union-clause-put t c =
    let ns = c.args.walk.nodes.now in
    let layout : Layout = c.node-here.result.layout.now in
    let v : Value = value_of c.args.value.now in
    let new : List ℕ = c.write_union.new.bytes in
    let size = node_size ns c.args.node _ c.requires.there c.node-here.ensures in
    let facts = union_node ns c.args.walk.well c.args.node _ c.requires.there c.node-here.ensures c.requires.room c.in-Union.field-0 c.in-Union.field-1 c.in-Union.is in
    let parts : Parts = parts_at_0 (all_at ns c.in-Union.field-1.items) in
    on_ok_weaker c.write_union.result
    (λ put b all held.
    subst (λ x. IsPutOver (is_covered x v) c.args.at b c.args.bytes.now new) (sym facts.1)
    (put_union c.args.walk.order layout c.args.at b c.args.bytes.now new c.in-Union.field-0 parts v c.union.result.now c.union.ensures
    (λ long content.
    subst (λ x. IsPutOver (is_data_place x) c.args.at b c.args.bytes.now new) facts.1
    (put b (long ∙ sym size) (content ∙ ap (λ x. picked_bytes (is_data_place x) 0 b) (sym facts.1))))
    (subst (λ x. Holds c.args.walk.order x b v) facts.1 held)))
    c.write_union.ensures.put

pub write_node-write_node-requires : goal.write_node-write_node-requires
write_node-write_node-requires t c =
    let size = node_size c.args.walk.nodes.now c.args.node _ c.requires.there c.node-here.ensures in
    let facts = vector_node c.args.walk.nodes.now c.args.walk.well c.args.node _ c.requires.there c.node-here.ensures c.requires.room c.in-Vector.lanes c.in-Vector.is in
    let inside = vector_room c.args.walk.nodes.now c.args.node c.in-Vector.lanes c.node-here.result.layout.now facts.1 c.requires.room in (
      omega (arith, facts.0, c.decreases),
      (omega (arith, facts.0, c.requires.there), (facts.2, omega (arith, size, inside, c.requires.fits))),
    )

pub write_node-returns-in-Vector-clause-put : goal.write_node-returns-in-Vector-clause-put
write_node-returns-in-Vector-clause-put t c =
    let ns = c.args.walk.nodes.now in
    let v : Value = value_of c.args.value.now in
    let lanes : Placed = placed_at ns c.in-Vector.lanes in
    let facts = vector_node ns c.args.walk.well c.args.node _ c.requires.there c.node-here.ensures c.requires.room c.in-Vector.lanes c.in-Vector.is in
    let start : c.args.at ≡ c.args.at + 0 = omega arith in
    on_ok_weaker c.write_node.result
    (λ put b all held.
    subst (λ p. IsPutOver (is_covered p v) c.args.at b c.args.bytes.now c.write_node.new.bytes) (sym facts.1)
    (put_vector c.args.walk.order c.node-here.result.layout.now c.args.at b c.args.bytes.now c.write_node.new.bytes lanes v
    (λ at. put_slice c.args.walk.order lanes v c.args.at 0 b c.args.bytes.now c.write_node.new.bytes all at
    (λ s each holds. subst (λ a. IsPutOver (is_covered lanes v) a s c.args.bytes.now c.write_node.new.bytes) start (put s each holds)))
    (subst (λ p. Holds c.args.walk.order p b v) facts.1 held)))
    c.write_node.ensures.put

pub write_node-write_fields-requires-in-Single : goal.write_node-write_fields-requires-in-Single
write_node-write_fields-requires-in-Single t c =
    let size = node_size c.args.walk.nodes.now c.args.node _ c.requires.there c.node-here.ensures in
    let facts = single_node c.args.walk.nodes.now c.args.walk.well c.args.node _ c.requires.there c.node-here.ensures c.requires.room c.in-Single.field-0 c.in-Single.children c.in-Single.is in (
      omega (arith, c.decreases),
      (c.requires.there, (rw c.deref-in-Single.ensures.value facts.0, (rw c.deref-in-Single.ensures.value facts.2, omega (arith, size, c.requires.fits)))),
    )

pub write_node-returns-in-Single-clause-put : goal.write_node-returns-in-Single-clause-put
write_node-returns-in-Single-clause-put t c =
    let ns = c.args.walk.nodes.now in
    let layout : Layout = c.node-here.result.layout.now in
    let v : Value = value_of c.args.value.now in
    let us : Values = values_of c.variant-index.result.1.now in
    let new : List ℕ = c.write_fields-in-Single.new.bytes in
    let facts = single_node ns c.args.walk.well c.args.node _ c.requires.there c.node-here.ensures c.requires.room c.in-Single.field-0 c.in-Single.children c.in-Single.is in
    let parts : Parts = parts_at (listed_offsets layout.fields) (all_at ns c.in-Single.children.items) in
    on_ok_weaker c.write_fields-in-Single.result
    (λ put b all held.
    subst (λ p. IsPutOver (is_covered p v) c.args.at b c.args.bytes.now new) (sym facts.1)
    (put_single c.args.walk.order layout c.args.at b c.args.bytes.now new c.in-Single.field-0 (variant_left layout.variants) parts v c.variant-index.result.0 us c.variant-index.ensures (put b all)
    (subst (λ p. Holds c.args.walk.order p b v) facts.1 held)))
    (subst (λ cs. PartsPut c.args.walk.order c.args.at c.args.bytes.now new (parts_at (listed_offsets layout.fields) (all_at ns cs)) us c.write_fields-in-Single.result) c.deref-in-Single.ensures.value
    c.write_fields-in-Single.ensures.put)

pub write_node-write_variant-requires : goal.write_node-write_variant-requires
write_node-write_variant-requires t c =
    let ns = c.args.walk.nodes.now in
    let size = node_size ns c.args.node _ c.requires.there c.node-here.ensures in
    let facts = tagged_node ns c.args.walk.well c.args.node _ c.requires.there c.node-here.ensures c.requires.room c.in-Tagged.mark c.in-Tagged.tag c.in-Tagged.variants c.in-Tagged.is in
    let width = tag_width_at ns c.args.walk.well c.args.walk.widths c.args.node _ c.requires.there c.node-here.ensures c.in-Tagged.mark c.in-Tagged.tag c.in-Tagged.variants c.in-Tagged.is in
    let named = c.tagged_nodes.ensures.tagged c.in-Tagged.mark c.in-Tagged.tag c.in-Tagged.variants c.in-Tagged.is in (
      omega (arith, c.decreases),
      (
        c.requires.there,
        (
          rw named.0 facts.0,
          (
            rw named.1 facts.1,
            (rw named.0 width, (rw named.0 facts.3, (rw named.1 facts.5, omega (arith, size, c.requires.fits)))),
          ),
        ),
      ),
    )

pub write_node-returns-in-Tagged-clause-put : goal.write_node-returns-in-Tagged-clause-put
write_node-returns-in-Tagged-clause-put t c =
    let ns = c.args.walk.nodes.now in
    let layout : Layout = c.node-here.result.layout.now in
    let v : Value = value_of c.args.value.now in
    let new : List ℕ = c.write_variant.new.bytes in
    let facts = tagged_node ns c.args.walk.well c.args.node _ c.requires.there c.node-here.ensures c.requires.room c.in-Tagged.mark c.in-Tagged.tag c.in-Tagged.variants c.in-Tagged.is in
    let named = c.tagged_nodes.ensures.tagged c.in-Tagged.mark c.in-Tagged.tag c.in-Tagged.variants c.in-Tagged.is in
    let whole : ℕ → List (ℕ × ℕ) → Placed = λ tag vs. tagged layout c.in-Tagged.mark (tag_offset layout) (placed_at ns tag) (encoding_of layout.variants) (tagged_variants_in (types_in ns) vs) in
    let is : whole c.tagged_nodes.result.tag c.tagged_nodes.result.tagged_variants.now ≡ placed_at ns c.args.node =
    ap (λ tag. whole tag c.tagged_nodes.result.tagged_variants.now) named.0 ∙ ap (whole c.in-Tagged.tag) named.1 ∙ sym facts.2 in
    on_ok_weaker c.write_variant.result
    (λ put b all.
    subst (λ p. Holds c.args.walk.order p b v → IsPutOver (is_covered p v) c.args.at b c.args.bytes.now new) is (put c.in-Tagged.mark b all))
    c.write_variant.ensures.put

pub write_node-write_state-requires : goal.write_node-write_state-requires
write_node-write_state-requires t c =
    let ns = c.args.walk.nodes.now in
    let layout : Layout = c.node-here.result.layout.now in
    let size = node_size ns c.args.node _ c.requires.there c.node-here.ensures in
    let facts = states_node ns c.args.walk.well c.args.node _ c.requires.there c.node-here.ensures c.requires.room c.in-States.prefix c.in-States.tag c.in-States.states c.in-States.is in
    let width = state_tag_width_at ns c.args.walk.well c.args.walk.widths c.args.node _ c.requires.there c.node-here.ensures c.in-States.prefix c.in-States.tag c.in-States.states c.in-States.is in
    let named = c.tagged_nodes-in-States.ensures.states c.in-States.prefix c.in-States.tag c.in-States.states c.in-States.is in (
      omega (arith, c.decreases),
      (
        c.requires.there,
        (
          rw named.0 facts.0,
          (rw named.1 facts.1, (rw named.2 facts.2, (rw named.1 width, (rw (named.0, named.1, named.2) facts.4, omega (arith, size, c.requires.fits))))),
        ),
      ),
    )

pub write_node-returns-in-States-clause-put : goal.write_node-returns-in-States-clause-put
write_node-returns-in-States-clause-put t c =
    let ns = c.args.walk.nodes.now in
    let layout : Layout = c.node-here.result.layout.now in
    let v : Value = value_of c.args.value.now in
    let new : List ℕ = c.write_state.new.bytes in
    let facts = states_node ns c.args.walk.well c.args.node _ c.requires.there c.node-here.ensures c.requires.room c.in-States.prefix c.in-States.tag c.in-States.states c.in-States.is in
    let named = c.tagged_nodes-in-States.ensures.states c.in-States.prefix c.in-States.tag c.in-States.states c.in-States.is in
    let beside = c.tagged_nodes-in-States.result in
    let whole : List ℕ → ℕ → List (ℕ × ℕ) → Placed = λ ps tag vs. states_in (types_in ns) layout ps tag vs in
    let is : whole beside.prefix.now beside.tag beside.tagged_variants.now ≡ placed_at ns c.args.node =
    ap (λ ps. whole ps beside.tag beside.tagged_variants.now) named.0 ∙ ap (λ tag. whole c.in-States.prefix.items tag beside.tagged_variants.now) named.1 ∙ ap (whole c.in-States.prefix.items c.in-States.tag) named.2
    ∙ sym facts.3 in
    on_ok_weaker c.write_state.result
    (λ put b all. subst (λ p. Holds c.args.walk.order p b v → IsPutOver (is_covered p v) c.args.at b c.args.bytes.now new) is (put b all))
    c.write_state.ensures.put

-- ---- elements

pub write_elements-loop-i-init : goal.write_elements-loop-i-init
write_elements-loop-i-init t c = record {
  long = refl;
  put = λ b all held. elements_begin c.args.walk.order (placed_at c.args.walk.nodes.now c.args.element) c.args.values.now c.args.at b c.args.bytes.now held;
}

pub write_elements-loop-i-preserved : goal.write_elements-loop-i-preserved
write_elements-loop-i-preserved t c =
    let p : Placed = placed_at c.args.walk.nodes.now c.args.element in
    let i : ℕ = c.loop-i.i in
    let size : c.bytes-size.result ≡ size_of p = rw c.bytes-size.ensures (ap (λ l. l.size) c.layout.ensures) in
    let there : i < length c.args.values.now = omega (arith, c.loop-i-test.true, c.min-i-end.ensures) in
    record {
      long = c.in_ok-write_node.ensures.long ∙ c.loop-i.invariant.long;
      put = λ b all held.
          elements_next c.args.walk.order p c.args.values.now c.args.at b c.args.bytes.now i c.index-values-i.result c.loop-i.bytes c.write_node.new.bytes there all (c.loop-i.invariant.put b all held)
          (λ s each holds.
          let item : c.index-values-i.result ≡ get_or c.args.values.now i c.index-values-i.result = c.index-values-i.is in
          subst (λ n. IsPutOver (is_covered p (value_of (get_or c.args.values.now i c.index-values-i.result))) (c.args.at + i * n) s c.loop-i.bytes c.write_node.new.bytes) size
          (subst (λ k. IsPutOver (is_covered p (value_of k)) (c.args.at + i * c.bytes-size.result) s c.loop-i.bytes c.write_node.new.bytes) item
          (c.in_ok-write_node.ensures.put s each (subst (λ k. Holds c.args.walk.order p s (value_of k)) (sym item) holds))));
    }

pub write_elements-returns-clause-put : goal.write_elements-returns-clause-put
write_elements-returns-clause-put t c = λ many b all held.
    elements_done c.args.walk.order (placed_at c.args.walk.nodes.now c.args.element) c.args.values.now c.args.at b c.args.bytes.now c.loop-i.i c.args.count c.loop-i.bytes many
    (omega (arith, c.loop-i-test.false, c.min-i-end.ensures)) (c.loop-i.invariant.put b all held)

-- ---- fields

pub write_parts-loop-i-init : goal.write_parts-loop-i-init
write_parts-loop-i-init t c =
    let parts : Parts = parts_at c.args.parts.0.now (all_at c.args.walk.nodes.now c.args.parts.1.now) in
    record {
      long = refl;
      put = λ b all held. written_none (are_covered parts (values_of c.args.values.now)) (HoldParts c.args.walk.order parts b (values_of c.args.values.now)) c.args.at b c.args.bytes.now held;
    }

pub write_parts-overflow_add-place : goal.write_parts-overflow_add-place
write_parts-overflow_add-place t c =
    let i : ℕ = c.loop-i.i in
    let os : List ℕ = c.args.parts.0.now in
    let lt : i < length os = omega (arith, c.loop-i-test.true, c.min-i-end.ensures, c.min.ensures) in
    let below : i < length c.args.parts.1.now = omega (arith, c.loop-i-test.true, c.min-i-end.ensures, c.min.ensures) in
    let at = field_at c.args.walk.nodes.now os c.args.parts.1.now i lt below c.args.size c.args.node c.requires.before c.requires.room in
    let offset : c.bytes.result ≡ get_or os i 0 = c.bytes.ensures ∙ c.index-offsets-i.is ∙ get_or_default os i c.index-offsets-i.result 0 lt in
    omega (arith, at.1, offset, c.requires.fits, c.ranges.at.fits)

pub write_parts-write_node-requires : goal.write_parts-write_node-requires
write_parts-write_node-requires t c =
    let i : ℕ = c.loop-i.i in
    let os : List ℕ = c.args.parts.0.now in
    let lt : i < length os = omega (arith, c.loop-i-test.true, c.min-i-end.ensures, c.min.ensures) in
    let below : i < length c.args.parts.1.now = omega (arith, c.loop-i-test.true, c.min-i-end.ensures, c.min.ensures) in
    let at = field_at c.args.walk.nodes.now os c.args.parts.1.now i lt below c.args.size c.args.node c.requires.before c.requires.room in
    let offset : c.bytes.result ≡ get_or os i 0 = c.bytes.ensures ∙ c.index-offsets-i.is ∙ get_or_default os i c.index-offsets-i.result 0 lt in (
      omega (arith, at.0, c.decreases),
      (
        omega (arith, at.0, c.requires.there),
        (at.2, omega (arith, at.1, offset, c.requires.fits, c.loop-i.invariant.long)),
      ),
    )

pub write_parts-loop-i-preserved : goal.write_parts-loop-i-preserved
write_parts-loop-i-preserved t c =
    let ns = c.args.walk.nodes.now in
    let i : ℕ = c.loop-i.i in
    let os : List ℕ = c.args.parts.0.now in
    let ps : List Placed = all_at ns c.args.parts.1.now in
    let vs : List Kept = c.args.values.now in
    let d : Kept = c.index-values-i.result in
    let new : List ℕ = c.write_node.new.bytes in
    let lt : i < length os = omega (arith, c.loop-i-test.true, c.min-i-end.ensures, c.min.ensures) in
    let below : i < length c.args.parts.1.now = omega (arith, c.loop-i-test.true, c.min-i-end.ensures, c.min.ensures) in
    let there : i < length vs = omega (arith, c.loop-i-test.true, c.min-i-end.ensures) in
    let offset : c.bytes.result ≡ get_or os i 0 = c.bytes.ensures ∙ c.index-offsets-i.is ∙ get_or_default os i c.index-offsets-i.result 0 lt in
    let child : placed_at ns (get_or c.args.parts.1.now i 0) ≡ get_or ps i nothing = sym (child_is ns c.args.parts.1.now i below) in
    let put : (s : List ℕ) → AreBytes s → Holds c.args.walk.order (get_or ps i nothing) s (value_of (get_or vs i d)) →
    IsPutOver (is_covered (get_or ps i nothing) (value_of (get_or vs i d))) (c.args.at + get_or os i 0) s c.loop-i.bytes new =
    subst (λ k. PutsValue c.args.walk.order (c.args.at + get_or os i 0) c.loop-i.bytes new (get_or ps i nothing) (value_of k)) c.index-values-i.is
    (subst (λ p. PutsValue c.args.walk.order (c.args.at + get_or os i 0) c.loop-i.bytes new p (value_of d)) child
    (subst (λ o. PutsValue c.args.walk.order (c.args.at + o) c.loop-i.bytes new (placed_at ns (get_or c.args.parts.1.now i 0)) (value_of d)) offset c.in_ok-write_node.ensures.put)) in
    record {
      long = c.in_ok-write_node.ensures.long ∙ c.loop-i.invariant.long;
      put = λ b all held.
          parts_more c.args.walk.order os ps vs c.args.at b c.args.bytes.now i d c.loop-i.bytes new lt (omega (arith, below, count_children ns c.args.parts.1.now)) there all
          (c.loop-i.invariant.put b all held) put;
    }

pub write_parts-returns-clause-put : goal.write_parts-returns-clause-put
write_parts-returns-clause-put t c = λ b all held.
    let ps : List Placed = all_at c.args.walk.nodes.now c.args.parts.1.now in
    parts_all c.args.walk.order c.args.parts.0.now ps c.args.values.now c.args.at b c.args.bytes.now c.loop-i.i c.loop-i.bytes
    (omega (arith, count_children c.args.walk.nodes.now c.args.parts.1.now, c.loop-i-test.false, c.min-i-end.ensures, c.min.ensures)) (c.loop-i.invariant.put b all held)

-- ---- the fields of a node

pub write_fields-write_parts-requires : goal.write_fields-write_parts-requires
write_fields-write_parts-requires t c =
    let room : have_room c.bytes-size.result (parts_at c.offsets.result.now (all_at c.args.walk.nodes.now c.args.children.now)) ≡ true =
    rw (c.bytes-size.ensures, c.offsets.ensures) c.requires.room in
    (omega (arith, c.decreases), (c.requires.there, (c.requires.before, (room, omega (arith, c.bytes-size.ensures, c.requires.fits)))))

pub write_fields-returns-clause-put : goal.write_fields-returns-clause-put
write_fields-returns-clause-put t c =
    subst (λ os. PartsPut c.args.walk.order c.args.at c.args.bytes.now c.write_parts.new.bytes (parts_at os (all_at c.args.walk.nodes.now c.args.children.now)) (values_of c.args.values.now) c.write_parts.result)
    c.offsets.ensures c.write_parts.ensures.put

-- ---- a variant

pub write_variant-write_tagged_variant-requires : goal.write_variant-write_tagged_variant-requires
write_variant-write_tagged_variant-requires t c =
    let ns = c.args.walk.nodes.now in
    let inside : c.tag_offset.result + size_of (placed_at ns c.args.beside.tag) ≤ c.bytes.result = rw (c.tag_offset.ensures, c.bytes.ensures) c.requires.inside in
    let room : tagged_variants_have_room c.bytes.result (tagged_variants_in (types_in ns) c.args.beside.tagged_variants.now) ≡ true = rw c.bytes.ensures c.requires.room in (
      omega (arith, c.decreases),
      (
        c.requires.there,
        (c.requires.first, (c.requires.before, (c.requires.width, (inside, (room, omega (arith, c.bytes.ensures, c.requires.fits)))))),
      ),
    )

pub write_variant-returns-clause-put : goal.write_variant-returns-clause-put
write_variant-returns-clause-put t c =
    let ns = c.args.walk.nodes.now in
    let layout : Layout = c.args.layout.now in
    let i : ℕ = c.variant-index.result.0 in
    let us : Values = values_of c.variant-index.result.1.now in
    let new : List ℕ = c.write_tagged_variant.new.bytes in
    let tag : Placed = placed_at ns c.args.beside.tag in
    let tagged_variants : TaggedVariants = tagged_variants_in (types_in ns) c.args.beside.tagged_variants.now in
    on_ok_weaker c.write_tagged_variant.result
    (λ put mark b all.
    put_tagged c.args.walk.order layout c.args.at b c.args.bytes.now new mark (tag_offset layout) tag (encoding_of layout.variants) tagged_variants (value_of c.args.value.now) i us c.variant-index.ensures (put b all))
    (subst (λ o. TaggedVariantPut c.args.walk.order c.args.at c.args.bytes.now new (encoding_of layout.variants) o tag tagged_variants i us c.write_tagged_variant.result) c.tag_offset.ensures
    (subst (λ e. TaggedVariantPut c.args.walk.order c.args.at c.args.bytes.now new e c.tag_offset.result tag tagged_variants i us c.write_tagged_variant.result) c.encoding_of-encoding.ensures
    c.write_tagged_variant.ensures.put))

-- ---- a state

pub write_state-write_fields-requires : goal.write_state-write_fields-requires
write_state-write_fields-requires t c =
    let rooms = states_rooms c.args.walk.nodes.now c.args.layout.now c.args.beside.prefix.now c.args.beside.tag c.args.beside.tagged_variants.now c.requires.room in
    (omega (arith, c.decreases), (c.requires.there, (c.requires.fields, (rooms.0, c.requires.fits))))

pub write_state-write_tagged_variant-requires : goal.write_state-write_tagged_variant-requires
write_state-write_tagged_variant-requires t c =
    let ns = c.args.walk.nodes.now in
    let rooms = states_rooms ns c.args.layout.now c.args.beside.prefix.now c.args.beside.tag c.args.beside.tagged_variants.now c.requires.room in
    let inside : c.state_tag_offset.result + size_of (placed_at ns c.args.beside.tag) ≤ c.bytes.result = rw (c.state_tag_offset.ensures, c.bytes.ensures) rooms.2 in
    let room : tagged_variants_have_room c.bytes.result (tagged_variants_in (types_in ns) c.args.beside.tagged_variants.now) ≡ true = rw c.bytes.ensures rooms.1 in (
      omega (arith, c.decreases),
      (
        c.requires.there,
        (
          c.requires.first,
          (c.requires.before, (c.requires.width, (inside, (room, omega (arith, c.bytes.ensures, c.requires.fits, c.write_fields.ensures.long))))),
        ),
      ),
    )

pub write_state-returns-clause-put : goal.write_state-returns-clause-put
write_state-returns-clause-put t c =
    let ns = c.args.walk.nodes.now in
    let layout : Layout = c.args.layout.now in
    let i : ℕ = c.state-state.result.0 in
    let qs : Values = values_of c.state-state.result.1.now in
    let us : Values = values_of c.state-state.result.2.now in
    let old : List ℕ = c.args.bytes.now in
    let mid : List ℕ = c.write_fields.new.bytes in
    let new : List ℕ = c.write_tagged_variant.new.bytes in
    let prefix : Parts = parts_at (listed_offsets layout.fields) (all_at ns c.args.beside.prefix.now) in
    let offset : ℕ = state_tag_offset layout (length c.args.beside.prefix.now) in
    let tag : Placed = placed_at ns c.args.beside.tag in
    let tagged_variants : TaggedVariants = tagged_variants_in (types_in ns) c.args.beside.tagged_variants.now in
    on_ok_weaker c.write_tagged_variant.result
    (λ put b all.
    put_states c.args.walk.order layout c.args.at b old mid new prefix offset tag tagged_variants (value_of c.args.value.now) i qs us c.state-state.ensures (c.in_ok-write_fields.ensures.put b all) (put b all))
    (subst (λ o. TaggedVariantPut c.args.walk.order c.args.at mid new Direct o tag tagged_variants i us c.write_tagged_variant.result) c.state_tag_offset.ensures c.write_tagged_variant.ensures.put)

-- ---- a tag and a tagged variant

pub write_tagged_variant-returns-then-index-tag_layout-clause-put :
    goal.write_tagged_variant-returns-then-index-tag_layout-clause-put
write_tagged_variant-returns-then-index-tag_layout-clause-put t c = λ b all held.
    let at = from_tagged_variant c.args.walk.order (types_in c.args.walk.nodes.now) b c.args.tag_layout.tagged_variants.now c.args.index (0, 0) (values_of c.args.values.now) held.2 in
    absurd (omega (arith, at.0, c.if-index-tag_layout.true))

pub write_tagged_variant-write_own-requires : goal.write_tagged_variant-write_own-requires
write_tagged_variant-write_own-requires t c =
    let before = c.requires.before c.args.index (0, 0) c.if-index-tag_layout.false in (
      omega (arith, before, c.decreases),
      (
        omega (arith, before, c.requires.there),
        (
          tagged_variant_room c.args.tag_layout.size (types_in c.args.walk.nodes.now) c.args.tag_layout.tagged_variants.now c.args.index (0, 0) c.requires.room c.if-index-tag_layout.false,
          omega (arith, c.requires.fits, c.write_tag.ensures.long),
        ),
      ),
    )

pub write_tagged_variant-returns-clause-put : goal.write_tagged_variant-returns-clause-put
write_tagged_variant-returns-clause-put t c =
    let ns = c.args.walk.nodes.now in
    let done : List Placed = types_in ns in
    let i : ℕ = c.args.index in
    let tag : Placed = placed_at ns c.args.tag_layout.tag in
    let us : Values = values_of c.args.values.now in
    let vs : List (ℕ × ℕ) = c.args.tag_layout.tagged_variants.now in
    let old : List ℕ = c.args.bytes.now in
    let mid : List ℕ = c.write_tag.new.bytes in
    let new : List ℕ = c.write_own.new.bytes in
    let width : c.layout.result.now.size ≡ size_of tag = ap (λ l. l.size) c.layout.ensures in
    on_ok_weaker c.write_own.result
    (λ put b all held.
    let at = from_tagged_variant c.args.walk.order done b vs i (0, 0) us held.2 in
    let front = subst (λ w. PutsTag c.args.walk.order c.args.at old mid c.args.tag_layout.encoding.now c.args.tag_layout.offset w vs i) width c.write_tag.ensures.put b done all held.0 held.1 in
    put_both (λ k. is_tagged c.args.tag_layout.encoding.now i && is_byte_at c.args.tag_layout.offset (size_of tag) k) (λ k. is_tagged_variant_covered (tagged_variants_in done vs) i us k) c.args.at b old mid new front
    (put_like (are_covered (own_fields (placed_in done (get_or vs i (0, 0)).1)) us) (λ k. is_tagged_variant_covered (tagged_variants_in done vs) i us k) c.args.at b mid new
    (λ k. tagged_variant_covers done vs i (0, 0) us k at.0) (put b all at.1)))
    c.write_own.ensures.put
