use Rattle.std.proofs.Common.{None, ◌≡◌, ◌+◌, ◌<◌, ◌≤◌, ◌*◌, ℕ, All, length, true, List, [], ◌∷◌, map, get_or, arith, refl, sym, ap, ◌∙◌, subst}
use Rattle.std.specs.Prelude.{nat_lt}
use Rattle.std.proofs.lemmas.List.{get_or_default}
use Rattle.abi_index.specs.RangeSet.{is_in_ranges}
use Rattle.abi_scalar.specs.Shape.{listed_offsets}
use Rattle.abi_scalar.specs.declared.variants.TagEncoding.TheVariants.{Direct}
use Rattle.abi_tree.specs.Holding.{HoldEach, Holds}
use Rattle.abi_tree.specs.Bytes.{AreBytes, count_picked}
use Rattle.abi_tree.specs.Covering.{is_covered}
use Rattle.abi_tree.specs.Deciding.{tagged_variant_for, tagged_variant_values, covering_value, each_value, place_in}
use Rattle.abi_tree.specs.Needed.{is_among, named_by}
use Rattle.abi_tree.specs.Nodes.{tagged_variants_in, encoding_of, parts_at, parts_at_0, placed_at, state_tag_offset, tag_offset, types_in}
use Rattle.abi_tree.specs.Placed.{Placed, Parts, nothing, size_of, union}
use Rattle.abi_scalar.specs.Layout.{Layout}
use Rattle.abi_tree.specs.Places.{is_data_place}
use Rattle.abi_tree.specs.Typed.{variant_nodes}
use Rattle.abi_tree.specs.Well.{all_at}
use Rattle.abi_tree.specs.Writing.{IsCopied, IsPutOver}
use Rattle.abi_tree.specs.Putting.{PutsCovering, PutsCoveringTaggedVariant, PutsCoveringParts, PutsTag}
use Rattle.abi_tree.proofs.Deciding.ChosenLemmas.{all_kept, list_at, among_one, among_prefix, among_states, among_tagged, kept_named, kept_parts, kept_room, kept_set, kept_there, kept_variants, variant_sizes}
use Rattle.abi_tree.proofs.Deciding.CopyLemmas.{copy_put}
use Rattle.abi_tree.proofs.Deciding.CoverLemmas.{ElementsPut, tagged_variant_put, states_put, elements_end, elements_first, elements_more, elements_next, fields_end, fields_first, fields_more, pair_put, put_bare, union_put}
use Rattle.abi_tree.proofs.Places.DataPlacesLemmas.{elements_node, fields_node, never_node, pair_node, runs_inside, scalar_node, single_node, states_node, tagged_node, union_node, vector_node}
use Rattle.abi_tree.proofs.Found.FoundLemmas.{node_size, states_rooms}
use Rattle.abi_tree.proofs.Bytes.HoldLemmas.{length-Holds}
use Rattle.abi_tree.proofs.Found.NamedLemmas.{child_is, count_children}
use Rattle.abi_tree.proofs.Bytes.PutOverLemmas.{put_like}
use Rattle.abi_tree.proofs.Found.ReadLemmas.{from_tagged_variant}
use Rattle.abi_tree.proofs.Meaning.WidthLemmas.{scalar_width_at, state_tag_width_at, tag_width_at}
use Rattle.abi_tree.proofs.Written.WriteLemmas.{put_slice, put_vector, vector_room}
use Rattle.abi_tree.proofs.value.decide.+cover.Goals.{put_elements-then-may_copy, put_elements-else-may_copy}
use Rattle.abi_tree.proofs.value.decide.+cover.Goals as goal

-- ---- the node itself

pub put_node-returns-then-size-eq0-clause-put : goal.put_node-returns-then-size-eq0-clause-put
put_node-returns-then-size-eq0-clause-put t c = λ b all held.
    let ns = c.args.cover.nodes.now in
    let p : Placed = placed_at ns c.args.node in
    let there = kept_there ns c.args.cover.kept.now c.args.cover.sets.now c.requires.sets c.args.node c.requires.kept in
    let size = node_size ns c.args.node _ there c.node-here.ensures in
    let long = length-Holds c.args.cover.order p b (covering_value p c.args.place) held in
    put_bare (is_covered p (covering_value p c.args.place)) c.args.at b c.args.bytes.now (omega (arith, long, size, c.bytes-size.ensures, c.if-size-eq0.true))

pub put_node-put_number-requires-clause-width : goal.put_node-put_number-requires-clause-width
put_node-put_number-requires-clause-width t c =
    let ns = c.args.cover.nodes.now in
    let have = c.requires.sets in
    let there = kept_there ns c.args.cover.kept.now c.args.cover.sets.now have c.args.node c.requires.kept in
    let width = scalar_width_at ns have.needed.well c.args.cover.widths c.args.node _ there c.node-here.ensures c.in-Scalar.scalar c.in-Scalar.is in
    omega (arith, width.0, c.bytes-size.ensures)

pub put_node-put_number-requires-clause-fits : goal.put_node-put_number-requires-clause-fits
put_node-put_number-requires-clause-fits t c =
    let ns = c.args.cover.nodes.now in
    let there = kept_there ns c.args.cover.kept.now c.args.cover.sets.now c.requires.sets c.args.node c.requires.kept in
    let size = node_size ns c.args.node _ there c.node-here.ensures in
    omega (arith, size, c.bytes-size.ensures, c.requires.fits)

pub put_node-returns-in-Scalar-clause-put : goal.put_node-returns-in-Scalar-clause-put
put_node-returns-in-Scalar-clause-put t c =
    let ns = c.args.cover.nodes.now in
    let have = c.requires.sets in
    let there = kept_there ns c.args.cover.kept.now c.args.cover.sets.now have c.args.node c.requires.kept in
    let room = kept_room ns c.args.cover.kept.now c.args.cover.sets.now have c.args.node c.requires.kept in
    let is = scalar_node ns have.needed.well c.args.node _ there c.node-here.ensures room c.in-Scalar.scalar c.in-Scalar.is in
    subst (PutsCovering c.args.cover.order c.args.at c.args.bytes.now c.put_number.new.bytes c.args.place) (sym is)
    (λ b all held.
    subst (λ w. IsPutOver (λ k. nat_lt k w) c.args.at b c.args.bytes.now c.put_number.new.bytes) c.bytes-size.ensures
    (c.put_number.ensures.put b all (held.0 ∙ sym c.bytes-size.ensures) (c.some_number.ensures ∙ held.1)))

pub put_node-put_parts-requires : goal.put_node-put_parts-requires
put_node-put_parts-requires t c =
    let ns = c.args.cover.nodes.now in
    let have = c.requires.sets in
    let cs : List ℕ = c.in-Pair.first ∷ c.in-Pair.second ∷ [] in
    let there = kept_there ns c.args.cover.kept.now c.args.cover.sets.now have c.args.node c.requires.kept in
    let room = kept_room ns c.args.cover.kept.now c.args.cover.sets.now have c.args.node c.requires.kept in
    let layout : Layout = c.node-here.result.layout.now in
    let size = node_size ns c.args.node _ there c.node-here.ensures in
    let facts = pair_node ns have.needed.well c.args.node _ there c.node-here.ensures room c.in-Pair.first c.in-Pair.second c.in-Pair.is in
    let named : (j : ℕ) → is_among _ j ≡ true → is_among (named_by layout c.node-here.result.shape.now) j ≡ true = λ j h. subst (λ s. is_among (named_by layout s) j ≡ true) (sym c.in-Pair.is) h in (
      omega (arith, c.decreases),
      (
        have,
        rw c.offsets-list.ensures
            (kept_parts ns c.args.cover.kept.now c.args.cover.sets.now have c.args.node c.requires.kept _ c.node-here.ensures cs (length c.args.bytes.now) c.args.at (omega (arith, c.if-size-eq0.false, c.bytes-size.ensures))
            named facts.0 facts.2 (omega (arith, size, c.requires.fits))),
      ),
    )

pub put_node-returns-in-Pair-clause-put : goal.put_node-returns-in-Pair-clause-put
put_node-returns-in-Pair-clause-put t c =
    let ns = c.args.cover.nodes.now in
    let have = c.requires.sets in
    let cs : List ℕ = c.in-Pair.first ∷ c.in-Pair.second ∷ [] in
    let there = kept_there ns c.args.cover.kept.now c.args.cover.sets.now have c.args.node c.requires.kept in
    let room = kept_room ns c.args.cover.kept.now c.args.cover.sets.now have c.args.node c.requires.kept in
    let layout : Layout = c.node-here.result.layout.now in
    let facts = pair_node ns have.needed.well c.args.node _ there c.node-here.ensures room c.in-Pair.first c.in-Pair.second c.in-Pair.is in
    let parts : Parts = parts_at (listed_offsets layout.fields) (all_at ns cs) in
    let put : PutsCoveringParts c.args.cover.order c.args.at c.args.bytes.now c.put_parts.new.bytes c.args.place parts =
    subst (λ os. PutsCoveringParts c.args.cover.order c.args.at c.args.bytes.now c.put_parts.new.bytes c.args.place (parts_at os (all_at ns cs))) c.offsets-list.ensures c.put_parts.ensures.put in
    subst (PutsCovering c.args.cover.order c.args.at c.args.bytes.now c.put_parts.new.bytes c.args.place) (sym facts.1)
    (λ b all held. pair_put c.args.cover.order layout c.args.place c.args.at b c.args.bytes.now c.put_parts.new.bytes parts (put b all) held)

pub put_node-returns-in-Never-clause-put : goal.put_node-returns-in-Never-clause-put
put_node-returns-in-Never-clause-put t c =
    let ns = c.args.cover.nodes.now in
    let have = c.requires.sets in
    let there = kept_there ns c.args.cover.kept.now c.args.cover.sets.now have c.args.node c.requires.kept in
    let room = kept_room ns c.args.cover.kept.now c.args.cover.sets.now have c.args.node c.requires.kept in
    let is = never_node ns have.needed.well c.args.node _ there c.node-here.ensures room c.in-Never.field-0 c.in-Never.is in
    subst (PutsCovering c.args.cover.order c.args.at c.args.bytes.now c.args.bytes.now c.args.place) (sym is) (λ b all held. absurd held)

pub put_node-put_elements-requires : goal.put_node-put_elements-requires
put_node-put_elements-requires t c =
    let ns = c.args.cover.nodes.now in
    let have = c.requires.sets in
    let layout : Layout = c.node-here.result.layout.now in
    let there = kept_there ns c.args.cover.kept.now c.args.cover.sets.now have c.args.node c.requires.kept in
    let room = kept_room ns c.args.cover.kept.now c.args.cover.sets.now have c.args.node c.requires.kept in
    let size = node_size ns c.args.node _ there c.node-here.ensures in
    let facts = elements_node ns have.needed.well c.args.node _ there c.node-here.ensures room c.in-Elements.count c.in-Elements.element c.in-Elements.is in
    let among = subst (λ s. is_among (named_by layout s) c.in-Elements.element ≡ true) (sym c.in-Elements.is) (among_one c.in-Elements.element) in
    let keeps = kept_named ns c.args.cover.kept.now c.args.cover.sets.now have c.args.node c.requires.kept _ c.node-here.ensures (omega (arith, c.if-size-eq0.false, c.bytes-size.ensures)) c.in-Elements.element among in
    (omega (arith, facts.0, c.decreases), (have, (keeps, omega (arith, size, facts.2, c.requires.fits))))

pub put_node-returns-in-Elements-clause-put : goal.put_node-returns-in-Elements-clause-put
put_node-returns-in-Elements-clause-put t c =
    let ns = c.args.cover.nodes.now in
    let have = c.requires.sets in
    let there = kept_there ns c.args.cover.kept.now c.args.cover.sets.now have c.args.node c.requires.kept in
    let room = kept_room ns c.args.cover.kept.now c.args.cover.sets.now have c.args.node c.requires.kept in
    let facts = elements_node ns have.needed.well c.args.node _ there c.node-here.ensures room c.in-Elements.count c.in-Elements.element c.in-Elements.is in
    subst (PutsCovering c.args.cover.order c.args.at c.args.bytes.now c.put_elements.new.bytes c.args.place) (sym facts.1) (λ b all held. c.put_elements.ensures.put b all held.2)

pub put_node-put_parts-requires-in-Fields : goal.put_node-put_parts-requires-in-Fields
put_node-put_parts-requires-in-Fields t c =
    let ns = c.args.cover.nodes.now in
    let have = c.requires.sets in
    let layout : Layout = c.node-here.result.layout.now in
    let there = kept_there ns c.args.cover.kept.now c.args.cover.sets.now have c.args.node c.requires.kept in
    let room = kept_room ns c.args.cover.kept.now c.args.cover.sets.now have c.args.node c.requires.kept in
    let size = node_size ns c.args.node _ there c.node-here.ensures in
    let facts = fields_node ns have.needed.well c.args.node _ there c.node-here.ensures room c.in-Fields.field-0 c.in-Fields.children c.in-Fields.is in
    let named : (j : ℕ) → is_among _ j ≡ true → is_among (named_by layout c.node-here.result.shape.now) j ≡ true = λ j h. subst (λ s. is_among (named_by layout s) j ≡ true) (sym c.in-Fields.is) h in (
      omega (arith, c.decreases),
      (
        have,
        rw (c.offsets-list.ensures, c.deref.ensures.value)
            (kept_parts ns c.args.cover.kept.now c.args.cover.sets.now have c.args.node c.requires.kept _ c.node-here.ensures c.in-Fields.children.items (length c.args.bytes.now) c.args.at
            (omega (arith, c.if-size-eq0.false, c.bytes-size.ensures)) named facts.0 facts.2 (omega (arith, size, c.requires.fits))),
      ),
    )

pub put_node-returns-in-Fields-clause-put : goal.put_node-returns-in-Fields-clause-put
put_node-returns-in-Fields-clause-put t c =
    let ns = c.args.cover.nodes.now in
    let have = c.requires.sets in
    let layout : Layout = c.node-here.result.layout.now in
    let new : List ℕ = c.put_parts-in-Fields.new.bytes in
    let there = kept_there ns c.args.cover.kept.now c.args.cover.sets.now have c.args.node c.requires.kept in
    let room = kept_room ns c.args.cover.kept.now c.args.cover.sets.now have c.args.node c.requires.kept in
    let facts = fields_node ns have.needed.well c.args.node _ there c.node-here.ensures room c.in-Fields.field-0 c.in-Fields.children c.in-Fields.is in
    let put : PutsCoveringParts c.args.cover.order c.args.at c.args.bytes.now new c.args.place (parts_at (listed_offsets layout.fields) (all_at ns c.in-Fields.children.items)) =
    subst (λ os. PutsCoveringParts c.args.cover.order c.args.at c.args.bytes.now new c.args.place (parts_at os (all_at ns c.in-Fields.children.items))) c.offsets-list.ensures
    (subst (λ cs. PutsCoveringParts c.args.cover.order c.args.at c.args.bytes.now new c.args.place (parts_at c.offsets-list.result.now (all_at ns cs))) c.deref.ensures.value c.put_parts-in-Fields.ensures.put) in
    subst (PutsCovering c.args.cover.order c.args.at c.args.bytes.now new c.args.place) (sym facts.1) (λ b all held. put b all held.1)

pub put_node-put_parts-requires-in-Single : goal.put_node-put_parts-requires-in-Single
put_node-put_parts-requires-in-Single t c =
    let ns = c.args.cover.nodes.now in
    let have = c.requires.sets in
    let layout : Layout = c.node-here.result.layout.now in
    let there = kept_there ns c.args.cover.kept.now c.args.cover.sets.now have c.args.node c.requires.kept in
    let room = kept_room ns c.args.cover.kept.now c.args.cover.sets.now have c.args.node c.requires.kept in
    let size = node_size ns c.args.node _ there c.node-here.ensures in
    let facts = single_node ns have.needed.well c.args.node _ there c.node-here.ensures room c.in-Single.field-0 c.in-Single.children c.in-Single.is in
    let named : (j : ℕ) → is_among _ j ≡ true → is_among (named_by layout c.node-here.result.shape.now) j ≡ true = λ j h. subst (λ s. is_among (named_by layout s) j ≡ true) (sym c.in-Single.is) h in (
      omega (arith, c.decreases),
      (
        have,
        rw (c.offsets-list.ensures, c.deref-in-Single.ensures.value)
            (kept_parts ns c.args.cover.kept.now c.args.cover.sets.now have c.args.node c.requires.kept _ c.node-here.ensures c.in-Single.children.items (length c.args.bytes.now) c.args.at
            (omega (arith, c.if-size-eq0.false, c.bytes-size.ensures)) named facts.0 facts.2 (omega (arith, size, c.requires.fits))),
      ),
    )

pub put_node-returns-in-Single-clause-put : goal.put_node-returns-in-Single-clause-put
put_node-returns-in-Single-clause-put t c =
    let ns = c.args.cover.nodes.now in
    let have = c.requires.sets in
    let layout : Layout = c.node-here.result.layout.now in
    let new : List ℕ = c.put_parts-in-Single.new.bytes in
    let there = kept_there ns c.args.cover.kept.now c.args.cover.sets.now have c.args.node c.requires.kept in
    let room = kept_room ns c.args.cover.kept.now c.args.cover.sets.now have c.args.node c.requires.kept in
    let facts = single_node ns have.needed.well c.args.node _ there c.node-here.ensures room c.in-Single.field-0 c.in-Single.children c.in-Single.is in
    let put : PutsCoveringParts c.args.cover.order c.args.at c.args.bytes.now new c.args.place (parts_at (listed_offsets layout.fields) (all_at ns c.in-Single.children.items)) =
    subst (λ os. PutsCoveringParts c.args.cover.order c.args.at c.args.bytes.now new c.args.place (parts_at os (all_at ns c.in-Single.children.items))) c.offsets-list.ensures
    (subst (λ cs. PutsCoveringParts c.args.cover.order c.args.at c.args.bytes.now new c.args.place (parts_at c.offsets-list.result.now (all_at ns cs))) c.deref-in-Single.ensures.value c.put_parts-in-Single.ensures.put) in
    subst (PutsCovering c.args.cover.order c.args.at c.args.bytes.now new c.args.place) (sym facts.1) (λ b all held. put b all held.2)

pub put_node-put_zeros-requires-clause-inside : goal.put_node-put_zeros-requires-clause-inside
put_node-put_zeros-requires-clause-inside t c =
    let ns = c.args.cover.nodes.now in
    let have = c.requires.sets in
    let p : Placed = placed_at ns c.args.node in
    let there = kept_there ns c.args.cover.kept.now c.args.cover.sets.now have c.args.node c.requires.kept in
    let room = kept_room ns c.args.cover.kept.now c.args.cover.sets.now have c.args.node c.requires.kept in
    let made = kept_set ns c.args.cover.kept.now c.args.cover.sets.now have c.args.node c.requires.kept in
    let size = node_size ns c.args.node _ there c.node-here.ensures in
    let same : (k : ℕ) → is_in_ranges c.as_slice.result.now k ≡ is_data_place p k = λ k. ap (λ rs. is_in_ranges rs k) (c.as_slice.ensures.runs ∙ c.set_at.ensures) ∙ made.1 k in
    let inside : All (λ run. run.0 + run.1 ≤ size_of p) c.as_slice.result.now = runs_inside p c.as_slice.result.now room c.as_slice.ensures.maximal same in
    λ k d lt. omega (arith, inside k d lt, size, c.bytes-size.ensures)

pub put_node-put_zeros-requires-clause-fits : goal.put_node-put_zeros-requires-clause-fits
put_node-put_zeros-requires-clause-fits t c =
    let ns = c.args.cover.nodes.now in
    let there = kept_there ns c.args.cover.kept.now c.args.cover.sets.now c.requires.sets c.args.node c.requires.kept in
    let size = node_size ns c.args.node _ there c.node-here.ensures in
    omega (arith, size, c.bytes-size.ensures, c.requires.fits)

pub put_node-returns-in-Union-clause-put : goal.put_node-returns-in-Union-clause-put
put_node-returns-in-Union-clause-put t c =
    let ns = c.args.cover.nodes.now in
    let have = c.requires.sets in
    let layout : Layout = c.node-here.result.layout.now in
    let new : List ℕ = c.put_zeros.new.bytes in
    let there = kept_there ns c.args.cover.kept.now c.args.cover.sets.now have c.args.node c.requires.kept in
    let room = kept_room ns c.args.cover.kept.now c.args.cover.sets.now have c.args.node c.requires.kept in
    let made = kept_set ns c.args.cover.kept.now c.args.cover.sets.now have c.args.node c.requires.kept in
    let facts = union_node ns have.needed.well c.args.node _ there c.node-here.ensures room c.in-Union.field-0 c.in-Union.field-1 c.in-Union.is in
    let u : Placed = union layout c.in-Union.field-0 (parts_at_0 (all_at ns c.in-Union.field-1.items)) in
    let same : (k : ℕ) → is_in_ranges c.as_slice.result.now k ≡ is_data_place u k =
    λ k. ap (λ rs. is_in_ranges rs k) (c.as_slice.ensures.runs ∙ c.set_at.ensures) ∙ made.1 k ∙ ap (λ p. is_data_place p k) facts.1 in
    subst (PutsCovering c.args.cover.order c.args.at c.args.bytes.now new c.args.place) (sym facts.1)
    (λ b all held.
    union_put c.args.cover.order layout c.args.at b c.args.bytes.now new u _ (count_picked (is_data_place u) 0 layout.size) refl
    (λ long zeros.
    put_like (is_in_ranges c.as_slice.result.now) (is_data_place u) c.args.at b c.args.bytes.now new same (c.put_zeros.ensures.put b (long ∙ sym c.bytes-size.ensures) (λ k place. zeros k (sym (same k) ∙ place))))
    held.0 held.1)

pub put_node-put_node-requires : goal.put_node-put_node-requires
put_node-put_node-requires t c =
    let ns = c.args.cover.nodes.now in
    let have = c.requires.sets in
    let layout : Layout = c.node-here.result.layout.now in
    let there = kept_there ns c.args.cover.kept.now c.args.cover.sets.now have c.args.node c.requires.kept in
    let room = kept_room ns c.args.cover.kept.now c.args.cover.sets.now have c.args.node c.requires.kept in
    let size = node_size ns c.args.node _ there c.node-here.ensures in
    let facts = vector_node ns have.needed.well c.args.node _ there c.node-here.ensures room c.in-Vector.lanes c.in-Vector.is in
    let inside = vector_room ns c.args.node c.in-Vector.lanes layout facts.1 room in
    let among = subst (λ s. is_among (named_by layout s) c.in-Vector.lanes ≡ true) (sym c.in-Vector.is) (among_one c.in-Vector.lanes) in
    let keeps = kept_named ns c.args.cover.kept.now c.args.cover.sets.now have c.args.node c.requires.kept _ c.node-here.ensures (omega (arith, c.if-size-eq0.false, c.bytes-size.ensures)) c.in-Vector.lanes among in
    (omega (arith, facts.0, c.decreases), (have, (keeps, omega (arith, size, inside, c.requires.fits))))

pub put_node-returns-in-Vector-clause-put : goal.put_node-returns-in-Vector-clause-put
put_node-returns-in-Vector-clause-put t c =
    let ns = c.args.cover.nodes.now in
    let have = c.requires.sets in
    let lanes : Placed = placed_at ns c.in-Vector.lanes in
    let new : List ℕ = c.put_node.new.bytes in
    let there = kept_there ns c.args.cover.kept.now c.args.cover.sets.now have c.args.node c.requires.kept in
    let room = kept_room ns c.args.cover.kept.now c.args.cover.sets.now have c.args.node c.requires.kept in
    let facts = vector_node ns have.needed.well c.args.node _ there c.node-here.ensures room c.in-Vector.lanes c.in-Vector.is in
    let start : c.args.at ≡ c.args.at + 0 = omega arith in
    subst (PutsCovering c.args.cover.order c.args.at c.args.bytes.now new c.args.place) (sym facts.1)
    (λ b all held.
    put_vector c.args.cover.order c.node-here.result.layout.now c.args.at b c.args.bytes.now new lanes (covering_value lanes c.args.place)
    (λ at. put_slice c.args.cover.order lanes (covering_value lanes c.args.place) c.args.at 0 b c.args.bytes.now new all at
    (λ s each holds. subst (λ a. IsPutOver (is_covered lanes (covering_value lanes c.args.place)) a s c.args.bytes.now new) start (c.put_node.ensures.put s each holds)))
    held)

pub put_variant-put_tagged_variant-requires : goal.put_variant-put_tagged_variant-requires
put_variant-put_tagged_variant-requires t c =
    let ns = c.args.cover.nodes.now in
    let is = c.requires.tagged in
    let own = c.tagged_nodes-beside.ensures.tagged is.0 is.1 is.2 is.3 in
    let have = c.requires.sets in
    let kept = c.args.cover.kept.now in
    let sets = c.args.cover.sets.now in
    let layout : Layout = c.args.here.layout.now in
    let vs : List (ℕ × ℕ) = is.2.items in
    let lent : c.tagged_nodes-beside.result.tagged_variants.now ≡ vs = own.1 in
    let there = kept_there ns kept sets have c.args.node c.requires.kept in
    let room = kept_room ns kept sets have c.args.node c.requires.kept in
    let some : 0 < layout.size = c.requires.some in
    let size = node_size ns c.args.node _ there c.requires.here in
    let facts = tagged_node ns have.needed.well c.args.node _ there c.requires.here room is.0 is.1 is.2 is.3 in
    let width = tag_width_at ns have.needed.well c.args.cover.widths c.args.node _ there c.requires.here is.0 is.1 is.2 is.3 in
    let nodes : variant_nodes c.args.here.shape.now ≡ map (λ v. v.1) vs = ap variant_nodes is.3 in
    let keeps = all_kept kept vs (λ j h.
    kept_named ns kept sets have c.args.node c.requires.kept _ c.requires.here some j (subst (λ s. is_among (named_by layout s) j ≡ true) (sym is.3) (among_tagged is.1 vs j h))) in
    let listed = kept_variants ns kept sets have c.args.node c.requires.kept _ c.requires.here vs nodes in
    let sizes = variant_sizes ns kept sets have c.args.node c.requires.kept _ c.requires.here vs nodes in (
      omega (arith, c.decreases),
      (
        have,
        (
          omega (arith, facts.0, there, own.0),
          (
            rw lent facts.1,
            (
              rw lent keeps,
              (
                rw lent listed,
                (
                  subst (λ t. size_of (placed_at ns t) ≤ 16) (sym own.0) width,
                  (
                    omega (arith, facts.3, c.tag_offset.ensures, size, c.requires.fits, ap (λ t. size_of (placed_at ns t)) own.0),
                    rw lent (λ k d lt. omega (arith, sizes k d lt, size, c.requires.fits)),
                  ),
                ),
              ),
            ),
          ),
        ),
      ),
    )

pub put_variant-returns-clause-put : goal.put_variant-returns-clause-put
put_variant-returns-clause-put t c =
    let ns = c.args.cover.nodes.now in
    let is = c.requires.tagged in
    let own = c.tagged_nodes-beside.ensures.tagged is.0 is.1 is.2 is.3 in
    let have = c.requires.sets in
    let layout : Layout = c.args.here.layout.now in
    let new : List ℕ = c.put_tagged_variant.new.bytes in
    let vs : List (ℕ × ℕ) = is.2.items in
    let there = kept_there ns c.args.cover.kept.now c.args.cover.sets.now have c.args.node c.requires.kept in
    let room = kept_room ns c.args.cover.kept.now c.args.cover.sets.now have c.args.node c.requires.kept in
    let facts = tagged_node ns have.needed.well c.args.node _ there c.requires.here room is.0 is.1 is.2 is.3 in
    let tag : Placed = placed_at ns is.1 in
    let sizes = variant_sizes ns c.args.cover.kept.now c.args.cover.sets.now have c.args.node c.requires.kept _ c.requires.here vs (ap variant_nodes is.3) in
    let put : PutsCoveringTaggedVariant c.args.cover.order c.args.at c.args.bytes.now new c.args.place (encoding_of layout.variants) (tag_offset layout) tag (types_in ns) vs =
    subst (λ e. PutsCoveringTaggedVariant c.args.cover.order c.args.at c.args.bytes.now new c.args.place e (tag_offset layout) tag (types_in ns) vs) c.encoding_of-encoding.ensures
    (subst (λ o. PutsCoveringTaggedVariant c.args.cover.order c.args.at c.args.bytes.now new c.args.place c.encoding_of-encoding.result o tag (types_in ns) vs) c.tag_offset.ensures
    (subst (λ ws. PutsCoveringTaggedVariant c.args.cover.order c.args.at c.args.bytes.now new c.args.place c.encoding_of-encoding.result c.tag_offset.result tag (types_in ns) ws) own.1
    (subst (λ j. PutsCoveringTaggedVariant c.args.cover.order c.args.at c.args.bytes.now new c.args.place c.encoding_of-encoding.result c.tag_offset.result (placed_at ns j) (types_in ns) c.tagged_nodes-beside.result.tagged_variants.now) own.0
    c.put_tagged_variant.ensures.put))) in
    subst (PutsCovering c.args.cover.order c.args.at c.args.bytes.now new c.args.place) (sym facts.2) (λ b all held. put b all (λ k d lt. omega (arith, sizes k d lt, held.0)) (held.1, held.2, held.3))

pub put_state-put_parts-requires : goal.put_state-put_parts-requires
put_state-put_parts-requires t c =
    let ns = c.args.cover.nodes.now in
    let is = c.requires.states in
    let own = c.tagged_nodes-beside.ensures.states is.0 is.1 is.2 is.3 in
    let have = c.requires.sets in
    let layout : Layout = c.args.here.layout.now in
    let there = kept_there ns c.args.cover.kept.now c.args.cover.sets.now have c.args.node c.requires.kept in
    let room = kept_room ns c.args.cover.kept.now c.args.cover.sets.now have c.args.node c.requires.kept in
    let size = node_size ns c.args.node _ there c.requires.here in
    let facts = states_node ns have.needed.well c.args.node _ there c.requires.here room is.0 is.1 is.2 is.3 in
    let rooms = states_rooms ns layout is.0.items is.1 is.2.items facts.4 in
    let named : (j : ℕ) → is_among _ j ≡ true → is_among (named_by layout c.args.here.shape.now) j ≡ true =
    λ j h. subst (λ s. is_among (named_by layout s) j ≡ true) (sym is.3) (among_prefix layout is.0.items is.1 is.2.items j h) in (
      omega (arith, c.decreases),
      (
        have,
        rw (c.offsets-list.ensures, own.0)
            (kept_parts ns c.args.cover.kept.now c.args.cover.sets.now have c.args.node c.requires.kept _ c.requires.here is.0.items (length c.args.bytes.now) c.args.at
            (c.requires.some) named facts.0 rooms.0 (omega (arith, size, c.requires.fits))),
      ),
    )

pub put_state-put_tagged_variant-requires : goal.put_state-put_tagged_variant-requires
put_state-put_tagged_variant-requires t c =
    let ns = c.args.cover.nodes.now in
    let is = c.requires.states in
    let own = c.tagged_nodes-beside.ensures.states is.0 is.1 is.2 is.3 in
    let have = c.requires.sets in
    let kept = c.args.cover.kept.now in
    let sets = c.args.cover.sets.now in
    let layout : Layout = c.args.here.layout.now in
    let vs : List (ℕ × ℕ) = is.2.items in
    let lent : c.tagged_nodes-beside.result.tagged_variants.now ≡ vs = own.2 in
    let there = kept_there ns kept sets have c.args.node c.requires.kept in
    let room = kept_room ns kept sets have c.args.node c.requires.kept in
    let some : 0 < layout.size = c.requires.some in
    let size = node_size ns c.args.node _ there c.requires.here in
    let facts = states_node ns have.needed.well c.args.node _ there c.requires.here room is.0 is.1 is.2 is.3 in
    let rooms = states_rooms ns layout is.0.items is.1 vs facts.4 in
    let width = state_tag_width_at ns have.needed.well c.args.cover.widths c.args.node _ there c.requires.here is.0 is.1 is.2 is.3 in
    let nodes : variant_nodes c.args.here.shape.now ≡ map (λ v. v.1) vs = ap variant_nodes is.3 in
    let keeps = all_kept kept vs (λ j h.
    kept_named ns kept sets have c.args.node c.requires.kept _ c.requires.here some j
    (subst (λ s. is_among (named_by layout s) j ≡ true) (sym is.3) (among_states layout is.0.items is.1 vs j h))) in
    let listed = kept_variants ns kept sets have c.args.node c.requires.kept _ c.requires.here vs nodes in
    let sizes = variant_sizes ns kept sets have c.args.node c.requires.kept _ c.requires.here vs nodes in
    let offset : c.state_tag_offset.result ≡ state_tag_offset layout (length is.0.items) = c.state_tag_offset.ensures ∙ ap (λ (ps : List ℕ). state_tag_offset layout (length ps)) own.0 in (
      omega (arith, c.decreases),
      (
        have,
        (
          omega (arith, facts.1, there, own.1),
          (
            rw lent facts.2,
            (
              rw lent keeps,
              (
                rw lent listed,
                (
                  subst (λ t. size_of (placed_at ns t) ≤ 16) (sym own.1) width,
                  (
                    omega (arith, rooms.2, offset, ap (λ t. size_of (placed_at ns t)) own.1, size, c.requires.fits, c.put_parts.ensures.long),
                    rw lent (λ k d lt. omega (arith, sizes k d lt, size, c.requires.fits, c.put_parts.ensures.long)),
                  ),
                ),
              ),
            ),
          ),
        ),
      ),
    )

pub put_state-returns-clause-put : goal.put_state-returns-clause-put
put_state-returns-clause-put t c =
    let ns = c.args.cover.nodes.now in
    let is = c.requires.states in
    let own = c.tagged_nodes-beside.ensures.states is.0 is.1 is.2 is.3 in
    let have = c.requires.sets in
    let layout : Layout = c.args.here.layout.now in
    let mid : List ℕ = c.put_parts.new.bytes in
    let new : List ℕ = c.put_tagged_variant.new.bytes in
    let prefix : List ℕ = is.0.items in
    let vs : List (ℕ × ℕ) = is.2.items in
    let there = kept_there ns c.args.cover.kept.now c.args.cover.sets.now have c.args.node c.requires.kept in
    let room = kept_room ns c.args.cover.kept.now c.args.cover.sets.now have c.args.node c.requires.kept in
    let facts = states_node ns have.needed.well c.args.node _ there c.requires.here room is.0 is.1 is.2 is.3 in
    let tag : Placed = placed_at ns is.1 in
    let sizes = variant_sizes ns c.args.cover.kept.now c.args.cover.sets.now have c.args.node c.requires.kept _ c.requires.here vs (ap variant_nodes is.3) in
    let offset : c.state_tag_offset.result ≡ state_tag_offset layout (length prefix) = c.state_tag_offset.ensures ∙ ap (λ (ps : List ℕ). state_tag_offset layout (length ps)) own.0 in
    let front : PutsCoveringParts c.args.cover.order c.args.at c.args.bytes.now mid c.args.place (parts_at (listed_offsets layout.fields) (all_at ns prefix)) =
    subst (λ os. PutsCoveringParts c.args.cover.order c.args.at c.args.bytes.now mid c.args.place (parts_at os (all_at ns prefix))) c.offsets-list.ensures
    (subst (λ cs. PutsCoveringParts c.args.cover.order c.args.at c.args.bytes.now mid c.args.place (parts_at c.offsets-list.result.now (all_at ns cs))) own.0 c.put_parts.ensures.put) in
    let put : PutsCoveringTaggedVariant c.args.cover.order c.args.at mid new c.args.place Direct (state_tag_offset layout (length prefix)) tag (types_in ns) vs =
    subst (λ o. PutsCoveringTaggedVariant c.args.cover.order c.args.at mid new c.args.place Direct o tag (types_in ns) vs) offset
    (subst (λ ws. PutsCoveringTaggedVariant c.args.cover.order c.args.at mid new c.args.place Direct c.state_tag_offset.result tag (types_in ns) ws) own.2
    (subst (λ j. PutsCoveringTaggedVariant c.args.cover.order c.args.at mid new c.args.place Direct c.state_tag_offset.result (placed_at ns j) (types_in ns) c.tagged_nodes-beside.result.tagged_variants.now) own.1 c.put_tagged_variant.ensures.put)) in
    subst (PutsCovering c.args.cover.order c.args.at c.args.bytes.now new c.args.place) (sym facts.3)
    (λ b all held. states_put c.args.cover.order layout c.args.place c.args.at b c.args.bytes.now mid new (parts_at (listed_offsets layout.fields) (all_at ns prefix)) (state_tag_offset layout (length prefix)) tag (tagged_variants_in (types_in ns) vs)
    (front b all) (put b all (λ k d lt. omega (arith, sizes k d lt, held.0))) held)

-- ---- elements

pub put_elements-loop-i-init : goal.put_elements-loop-i-init
put_elements-loop-i-init t c = record {
  long = refl;
  put = λ b all held. elements_first c.args.cover.order (placed_at c.args.cover.nodes.now c.args.element) c.args.place c.args.count c.args.at b c.args.bytes.now held;
}

pub put_elements-loop-i-preserved : goal.put_elements-loop-i-preserved
put_elements-loop-i-preserved t c =
    let p : Placed = placed_at c.args.cover.nodes.now c.args.element in
    let i : ℕ = c.loop-i.i in
    let old : List ℕ = c.args.bytes.now in
    let now : List ℕ = c.loop-i.bytes in
    let size : c.bytes-size.result ≡ size_of p = rw c.bytes-size.ensures (ap (λ l. l.size) c.layout.ensures) in
    let Next : List ℕ → Type 0 = λ new.
    (length new ≡ length old)
    × ((b : List ℕ) → AreBytes b → HoldEach (Holds c.args.cover.order p) (size_of p) 0 b (each_value (covering_value p) (size_of p) 0 c.args.count c.args.place) →
    ElementsPut c.args.cover.order p c.args.place c.args.count c.args.at b old (i + 1) new) in
    let next : Next c.if-may_copy.bytes =
    elim c.if-may_copy.branch as (λ _. Next c.if-may_copy.bytes) [
      | put_elements-then-may_copy w ↦
          let new : List ℕ = w.copy_bytes.new.bytes in
          let s : ℕ = c.first_without-like.result in
          let copies = c.may_copy.ensures w.if-may_copy.true in
          let blank : (k : ℕ) → k < size_of p * c.args.count → get_or old (c.args.at + k) 0 ≡ 0 =
          subst (λ n. (k : ℕ) → k < n * c.args.count → get_or old (c.args.at + k) 0 ≡ 0) size (c.are_zeros-blank.ensures copies.0) in
          let none_i : place_in c.args.place (i * size_of p) (size_of p) ≡ None = subst (λ n. place_in c.args.place (i * n) n ≡ None) size (sym c.place_in-here.ensures ∙ copies.2) in
          let none_s : place_in c.args.place (s * size_of p) (size_of p) ≡ None = subst (λ n. place_in c.args.place (s * n) n ≡ None) size c.first_without-like.ensures in
          let copy : IsCopied (c.args.at + s * size_of p) (c.args.at + i * size_of p) (size_of p) now new =
          subst (λ n. IsCopied (c.args.at + s * n) (c.args.at + i * n) n now new) size w.copy_bytes.ensures in
          subst Next (sym w.bytes-is) (
            copy.long ∙ c.loop-i.invariant.long,
            λ b all held.
                let before = c.loop-i.invariant.put b all held in
                elements_next c.args.cover.order p c.args.place c.args.count c.args.at b old i now new c.loop-i-test.true before
                (copy_put c.args.cover.order p c.args.place c.args.count c.args.at b old all held blank i now before c.loop-i-test.true none_i s copies.1 none_s new copy),
          )
      | put_elements-else-may_copy w ↦
          let new : List ℕ = w.put_node.new.bytes in
          let put : PutsCovering c.args.cover.order (c.args.at + i * size_of p) now new (place_in c.args.place (i * size_of p) (size_of p)) p =
          subst (λ n. PutsCovering c.args.cover.order (c.args.at + i * n) now new (place_in c.args.place (i * n) n) p) size
          (subst (λ x. PutsCovering c.args.cover.order (c.args.at + i * c.bytes-size.result) now new x p) c.place_in-here.ensures w.put_node.ensures.put) in
          subst Next (sym w.bytes-is) (
            w.put_node.ensures.long ∙ c.loop-i.invariant.long,
            λ b all held. elements_more c.args.cover.order p c.args.place c.args.count c.args.at b old i now new c.loop-i-test.true all (c.loop-i.invariant.put b all held) put,
          )
    ] in
    record { long = next.0; put = next.1 }

pub put_elements-returns-clause-put : goal.put_elements-returns-clause-put
put_elements-returns-clause-put t c = λ b all held.
    elements_end c.args.cover.order (placed_at c.args.cover.nodes.now c.args.element) c.args.place c.args.count c.args.at b c.args.bytes.now c.loop-i.i c.loop-i.bytes (omega (arith, c.loop-i-test.false))
    (c.loop-i.invariant.put b all held)

-- ---- fields

pub put_parts-loop-i-init : goal.put_parts-loop-i-init
put_parts-loop-i-init t c = record {
  long = refl;
  put = λ b all held. fields_first c.args.cover.order c.args.offsets.now (all_at c.args.cover.nodes.now c.args.children.now) c.args.place c.args.at b c.args.bytes.now held;
}

pub put_parts-loop-i-preserved : goal.put_parts-loop-i-preserved
put_parts-loop-i-preserved t c =
    let ns = c.args.cover.nodes.now in
    let i : ℕ = c.loop-i.i in
    let os : List ℕ = c.args.offsets.now in
    let cs : List ℕ = c.args.children.now in
    let ps : List Placed = all_at ns cs in
    let new : List ℕ = c.put_node.new.bytes in
    let lt : i < length os = omega (arith, c.loop-i-test.true, c.min-i-end.ensures) in
    let below : i < length cs = omega (arith, c.loop-i-test.true, c.min-i-end.ensures) in
    let offset : c.bytes-offset.result ≡ get_or os i 0 = c.bytes-offset.ensures ∙ c.index-offsets-i.is ∙ get_or_default os i c.index-offsets-i.result 0 lt in
    let child : placed_at ns (get_or cs i 0) ≡ get_or ps i nothing = sym (child_is ns cs i below) in
    let size : c.bytes-size.result ≡ size_of (placed_at ns (get_or cs i 0)) = rw c.bytes-size.ensures (ap (λ l. l.size) c.layout.ensures) in
    let put : PutsCovering c.args.cover.order (c.args.at + get_or os i 0) c.loop-i.bytes new (place_in c.args.place (get_or os i 0) (size_of (get_or ps i nothing))) (get_or ps i nothing) =
    subst (λ p. PutsCovering c.args.cover.order (c.args.at + get_or os i 0) c.loop-i.bytes new (place_in c.args.place (get_or os i 0) (size_of p)) p) child
    (subst (λ n. PutsCovering c.args.cover.order (c.args.at + get_or os i 0) c.loop-i.bytes new (place_in c.args.place (get_or os i 0) n) (placed_at ns (get_or cs i 0))) size
    (subst (λ o. PutsCovering c.args.cover.order (c.args.at + o) c.loop-i.bytes new (place_in c.args.place o c.bytes-size.result) (placed_at ns (get_or cs i 0))) offset
    (subst (λ x. PutsCovering c.args.cover.order (c.args.at + c.bytes-offset.result) c.loop-i.bytes new x (placed_at ns (get_or cs i 0))) c.place_in-here.ensures c.put_node.ensures.put))) in
    record {
      long = c.put_node.ensures.long ∙ c.loop-i.invariant.long;
      put = λ b all held. fields_more c.args.cover.order os ps c.args.place c.args.at b c.args.bytes.now i c.loop-i.bytes new lt (omega (arith, below, count_children ns cs)) all (c.loop-i.invariant.put b all held) put;
    }

pub put_parts-returns-clause-put : goal.put_parts-returns-clause-put
put_parts-returns-clause-put t c = λ b all held.
    fields_end c.args.cover.order c.args.offsets.now (all_at c.args.cover.nodes.now c.args.children.now) c.args.place c.args.at b c.args.bytes.now c.loop-i.i c.loop-i.bytes
    (omega (arith, count_children c.args.cover.nodes.now c.args.children.now, c.loop-i-test.false, c.min-i-end.ensures)) (c.loop-i.invariant.put b all held)

-- ---- a tag and a tagged variant

pub put_tagged_variant-returns-then-i-tag_layout-clause-put : goal.put_tagged_variant-returns-then-i-tag_layout-clause-put
put_tagged_variant-returns-then-i-tag_layout-clause-put t c = λ b all sizes held.
    let done : List Placed = types_in c.args.cover.nodes.now in
    let i : ℕ = tagged_variant_for c.args.tag_layout.encoding.now (tagged_variants_in done c.args.tag_layout.tagged_variants.now) c.args.place in
    let at = from_tagged_variant c.args.cover.order done b c.args.tag_layout.tagged_variants.now i (0, 0) (tagged_variant_values (tagged_variants_in done c.args.tag_layout.tagged_variants.now) i c.args.place) held.2 in
    absurd (omega (arith, at.0, c.if-i-tag_layout.true, c.tagged_variant_for-i.ensures))

pub put_tagged_variant-put_node-requires : goal.put_tagged_variant-put_node-requires
put_tagged_variant-put_node-requires t c =
    let i : ℕ = c.tagged_variant_for-i.result in
    let before = c.requires.before i (0, 0) c.if-i-tag_layout.false in
    let fits = c.requires.fits i (0, 0) c.if-i-tag_layout.false in
    (omega (arith, before, c.decreases), (c.requires.sets, (c.requires.kept i (0, 0) c.if-i-tag_layout.false, omega (arith, fits, c.write_tag.ensures.long))))

pub put_tagged_variant-returns-clause-put : goal.put_tagged_variant-returns-clause-put
put_tagged_variant-returns-clause-put t c =
    let ns = c.args.cover.nodes.now in
    let done : List Placed = types_in ns in
    let vs : List (ℕ × ℕ) = c.args.tag_layout.tagged_variants.now in
    let i : ℕ = c.tagged_variant_for-i.result in
    let lt : i < length vs = c.if-i-tag_layout.false in
    let tag : Placed = placed_at ns c.args.tag_layout.tag in
    let old : List ℕ = c.args.bytes.now in
    let mid : List ℕ = c.write_tag.new.bytes in
    let new : List ℕ = c.put_node.new.bytes in
    let j : ℕ = (get_or vs i (0, 0)).1 in
    let width : c.layout.result.now.size ≡ size_of tag = ap (λ l. l.size) c.layout.ensures in
    let room = kept_room ns c.args.cover.kept.now c.args.cover.sets.now c.requires.sets j (c.requires.kept i (0, 0) lt) in
    tagged_variant_put c.args.cover.order done c.args.place c.args.at old mid new c.args.tag_layout.encoding.now c.args.tag_layout.offset tag vs i lt c.tagged_variant_for-i.ensures
    (list_at done vs i (0, 0) lt c.requires.listed) room (subst (λ w. PutsTag c.args.cover.order c.args.at old mid c.args.tag_layout.encoding.now c.args.tag_layout.offset w vs i) width c.write_tag.ensures.put)
    c.put_node.ensures.put
