use Rattle.std.proofs.Common.{None, Some, ◌≡◌, ◌⊎◌, ℕ, ◌+◌, ◌*◌, ◌<◌, ◌≤◌, List, length, get_or, true, All, arith, refl, sym, ap, ◌∙◌, subst, inl, inr}
use Rattle.std.proofs.lemmas.Result.{IfOk-weaker}
use Rattle.automata.specs.Cell.{Cell}
use Rattle.abi_scalar.specs.Layout.{Layout}
use Rattle.abi_scalar.specs.Shape.{listed_offsets}
use Rattle.abi_tree.specs.Nodes.{encoding_of, parts_at, placed_at, state_tag_offset, tag_offset, tagged_variants_in, types_in}
use Rattle.abi_tree.specs.Placed.{Placed, TaggedVariants, size_of}
use Rattle.abi_tree.specs.Room.{have_room, tagged_variants_have_room}
use Rattle.abi_tree.specs.Well.{all_at}
use Rattle.abi_tree.specs.Widths.{is_narrow}
use Rattle.abi_tree.proofs.Meaning.WidthLemmas.{narrow_at, state_tag_width_at, tag_width_at}
use Rattle.abi_tree.proofs.Places.DataPlacesLemmas.{elements_node, fields_node, pair_node, single_node, states_node, tagged_node, tagged_variant_room, vector_node}
use Rattle.abi_bytes.specs.Holding.{HoldCells, cells_at}
use Rattle.abi_bytes.specs.NotHeld.{IsWrong}
use Rattle.abi_bytes.specs.WrongParts.{Judges, variants_in}
use Rattle.abi_bytes.specs.declared.not_held.Why.TheVariants.{NoVariant, Unset}
use Rattle.abi_bytes.proofs.PartLemmas.{parts_by_index}
use Rattle.abi_bytes.proofs.WrongKindLemmas.{beside_like, elements_judged, fields_judged, lanes-inside, never_judged, node_judged, parts_like, scalar_judged, scalar_wrong, single_judged, size-node, states-inside, states_judged, states_like, tagged_judged, union_judged, vector_judged}
use Rattle.abi_bytes.proofs.WrongLemmas.{element_wrong, elements_held, field_here, fields_more, fields_wrong, found_at, tag_unset, type_none}
use Rattle.abi_bytes.proofs.WrongNamedLemmas.{AreJudged, IsNamedBy, JudgesOwn, beside_held, beside_unheld, judged_more, judged_wrong, none_named, tag_found}
use Rattle.abi_bytes.proofs.wrong_parts.+wrong.Goals.{elements_wrong-then-size-eq0, elements_wrong-else-size-eq0, named_wrong-then-is_named+in_ok-wrong+in-Some, named_wrong-else-is_named}
use Rattle.abi_bytes.proofs.wrong_parts.+wrong.Goals as goal

-- ---- the node itself

pub node_wrong-why_no_number-requires-clause-narrow : goal.node_wrong-why_no_number-requires-clause-narrow
node_wrong-why_no_number-requires-clause-narrow t c =
    subst (λ z. is_narrow z c.in-Scalar.scalar ≡ true) (sym c.bytes-size.ensures) (narrow_at c.args.walk.nodes.now c.args.walk.well c.args.walk.widths c.args.node _ c.requires.there c.node-here.ensures c.in-Scalar.scalar c.in-Scalar.is)

pub node_wrong-why_no_number-requires-clause-fits : goal.node_wrong-why_no_number-requires-clause-fits
node_wrong-why_no_number-requires-clause-fits t c =
    let size = size-node c.args.walk.nodes.now c.args.node _ c.requires.there c.node-here.ensures in
    omega (arith, size, c.bytes-size.ensures, c.requires.fits)

pub node_wrong-pair_wrong-requires : goal.node_wrong-pair_wrong-requires
node_wrong-pair_wrong-requires t c =
    let facts = pair_node c.args.walk.nodes.now c.args.walk.well c.args.node _ c.requires.there c.node-here.ensures c.requires.room c.in-Pair.first c.in-Pair.second c.in-Pair.is in
    let size = size-node c.args.walk.nodes.now c.args.node _ c.requires.there c.node-here.ensures in
    (omega (arith, c.decreases), (c.requires.there, (facts.0, (facts.2, omega (arith, size, c.requires.fits)))))

pub node_wrong-elements_wrong-requires : goal.node_wrong-elements_wrong-requires
node_wrong-elements_wrong-requires t c =
    let facts = elements_node c.args.walk.nodes.now c.args.walk.well c.args.node _ c.requires.there c.node-here.ensures c.requires.room c.in-Elements.count c.in-Elements.element c.in-Elements.is in
    let size = size-node c.args.walk.nodes.now c.args.node _ c.requires.there c.node-here.ensures in
    (omega (arith, facts.0, c.decreases), (omega (arith, facts.0, c.requires.there), (facts.3, omega (arith, size, facts.2, c.requires.fits))))

pub node_wrong-parts_wrong-requires : goal.node_wrong-parts_wrong-requires
node_wrong-parts_wrong-requires t c =
    let facts = fields_node c.args.walk.nodes.now c.args.walk.well c.args.node _ c.requires.there c.node-here.ensures c.requires.room c.in-Fields.field-0 c.in-Fields.children c.in-Fields.is in
    let size = size-node c.args.walk.nodes.now c.args.node _ c.requires.there c.node-here.ensures in
    let room : have_room c.bytes-size.result (parts_at c.offsets.result.now (all_at c.args.walk.nodes.now c.deref.result.now)) ≡ true =
    rw (c.bytes-size.ensures, c.offsets.ensures, c.deref.ensures.value) facts.2 in
    (omega (arith, c.decreases), (c.requires.there, record { before = rw c.deref.ensures.value facts.0; room = room; fits = omega (arith, size, c.bytes-size.ensures, c.requires.fits) }))

pub node_wrong-vector_wrong-requires : goal.node_wrong-vector_wrong-requires
node_wrong-vector_wrong-requires t c =
    let facts = vector_node c.args.walk.nodes.now c.args.walk.well c.args.node _ c.requires.there c.node-here.ensures c.requires.room c.in-Vector.lanes c.in-Vector.is in
    let inside = lanes-inside c.args.walk.nodes.now c.args.walk.well c.args.node _ c.requires.there c.node-here.ensures c.requires.room c.in-Vector.lanes c.in-Vector.is in
    let size = size-node c.args.walk.nodes.now c.args.node _ c.requires.there c.node-here.ensures in
    (omega (arith, facts.0, c.decreases), (omega (arith, facts.0, c.requires.there), (facts.2, (omega (arith, inside, c.bytes-size.ensures), omega (arith, size, c.bytes-size.ensures, c.requires.fits)))))

pub node_wrong-parts_wrong-requires-in-Single : goal.node_wrong-parts_wrong-requires-in-Single
node_wrong-parts_wrong-requires-in-Single t c =
    let facts = single_node c.args.walk.nodes.now c.args.walk.well c.args.node _ c.requires.there c.node-here.ensures c.requires.room c.in-Single.field-0 c.in-Single.children c.in-Single.is in
    let size = size-node c.args.walk.nodes.now c.args.node _ c.requires.there c.node-here.ensures in
    let room : have_room c.bytes-size.result (parts_at c.offsets-in-Single.result.now (all_at c.args.walk.nodes.now c.deref-in-Single.result.now)) ≡ true =
    rw (c.bytes-size.ensures, c.offsets-in-Single.ensures, c.deref-in-Single.ensures.value) facts.2 in
    (omega (arith, c.decreases), (c.requires.there, record { before = rw c.deref-in-Single.ensures.value facts.0; room = room; fits = omega (arith, size, c.bytes-size.ensures, c.requires.fits) }))

pub node_wrong-layout-requires : goal.node_wrong-layout-requires
node_wrong-layout-requires t c =
    let facts = tagged_node c.args.walk.nodes.now c.args.walk.well c.args.node _ c.requires.there c.node-here.ensures c.requires.room c.in-Tagged.mark c.in-Tagged.tag c.in-Tagged.variants c.in-Tagged.is in
    omega (arith, facts.0, c.requires.there)

pub node_wrong-variants_wrong-requires : goal.node_wrong-variants_wrong-requires
node_wrong-variants_wrong-requires t c =
    let facts = tagged_node c.args.walk.nodes.now c.args.walk.well c.args.node _ c.requires.there c.node-here.ensures c.requires.room c.in-Tagged.mark c.in-Tagged.tag c.in-Tagged.variants c.in-Tagged.is in
    let width = tag_width_at c.args.walk.nodes.now c.args.walk.well c.args.walk.widths c.args.node _ c.requires.there c.node-here.ensures c.in-Tagged.mark c.in-Tagged.tag c.in-Tagged.variants c.in-Tagged.is in
    let wide : c.bytes.result ≡ size_of (placed_at c.args.walk.nodes.now c.in-Tagged.tag) = c.bytes.ensures ∙ ap (λ (l : Layout). l.size) c.layout.ensures in
    let size = size-node c.args.walk.nodes.now c.args.node _ c.requires.there c.node-here.ensures in
    let room : tagged_variants_have_room c.bytes-size.result (tagged_variants_in (types_in c.args.walk.nodes.now) c.deref-in-Tagged.result.now) ≡ true =
    rw (c.bytes-size.ensures, c.deref-in-Tagged.ensures.value) facts.5 in (
      omega (arith, c.decreases),
      (
        c.requires.there,
        record {
          before = rw c.deref-in-Tagged.ensures.value facts.1;
          narrow = omega (arith, wide, width);
          inside = omega (arith, wide, c.tag_offset.ensures, c.bytes-size.ensures, facts.3);
          room = room;
          fits = omega (arith, size, c.bytes-size.ensures, c.requires.fits);
        },
      ),
    )

pub node_wrong-layout-requires-in-States : goal.node_wrong-layout-requires-in-States
node_wrong-layout-requires-in-States t c =
    let facts = states_node c.args.walk.nodes.now c.args.walk.well c.args.node _ c.requires.there c.node-here.ensures c.requires.room c.in-States.prefix c.in-States.tag c.in-States.states c.in-States.is in
    omega (arith, facts.1, c.requires.there)

pub node_wrong-states_wrong-requires : goal.node_wrong-states_wrong-requires
node_wrong-states_wrong-requires t c =
    let ns = c.args.walk.nodes.now in
    let layout : Layout = c.node-here.result.layout.now in
    let facts = states_node c.args.walk.nodes.now c.args.walk.well c.args.node _ c.requires.there c.node-here.ensures c.requires.room c.in-States.prefix c.in-States.tag c.in-States.states c.in-States.is in
    let inside = states-inside ns layout c.in-States.prefix.items c.in-States.tag c.in-States.states.items facts.4 in
    let width = state_tag_width_at c.args.walk.nodes.now c.args.walk.well c.args.walk.widths c.args.node _ c.requires.there c.node-here.ensures c.in-States.prefix c.in-States.tag c.in-States.states c.in-States.is in
    let wide : c.bytes-in-States.result ≡ size_of (placed_at ns c.in-States.tag) = c.bytes-in-States.ensures ∙ ap (λ (l : Layout). l.size) c.layout-in-States.ensures in
    let count : c.len.result ≡ length c.in-States.prefix.items = c.len.ensures ∙ sym c.deref-in-States.ensures.len ∙ ap (λ (xs : List ℕ). length xs) c.deref-in-States.ensures.value in
    let offset : c.state_tag_offset.result ≡ state_tag_offset layout (length c.in-States.prefix.items) = c.state_tag_offset.ensures ∙ ap (λ k. state_tag_offset layout k) count in
    let size = size-node c.args.walk.nodes.now c.args.node _ c.requires.there c.node-here.ensures in
    let fields_room : have_room c.bytes-size.result (parts_at c.offsets-in-States.result.now (all_at ns c.deref-in-States.result.now)) ≡ true =
    rw (c.bytes-size.ensures, c.offsets-in-States.ensures, c.deref-in-States.ensures.value) inside.0 in
    let room : tagged_variants_have_room c.bytes-size.result (tagged_variants_in (types_in ns) c.deref-in-States-2.result.now) ≡ true =
    rw (c.bytes-size.ensures, c.deref-in-States-2.ensures.value) inside.1 in
    let fits : c.args.at + c.bytes-size.result ≤ length c.args.walk.cells.now = omega (arith, size, c.bytes-size.ensures, c.requires.fits) in
    let before : All (λ child. child < c.args.node) c.deref-in-States.result.now = rw c.deref-in-States.ensures.value facts.0 in
    let all_before : All (λ (v : ℕ × ℕ). v.1 < c.args.node) c.deref-in-States-2.result.now = rw c.deref-in-States-2.ensures.value facts.2 in (
      omega (arith, c.decreases),
      (
        c.requires.there,
        (
          record { before = before; room = fields_room; fits = fits },
          (
            record { before = all_before; narrow = omega (arith, wide, width); inside = omega (arith, wide, offset, c.bytes-size.ensures, inside.2); room = room; fits = fits },
            (refl, refl, refl),
          ),
        ),
      ),
    )

pub node_wrong-returns-in-Some : goal.node_wrong-returns-in-Some
node_wrong-returns-in-Some t c =
    scalar_wrong c.args.walk.order c.args.walk.cells.now c.args.at c.args.walk.nodes.now c.args.walk.well c.args.node _ c.requires.there c.node-here.ensures c.requires.room c.requires.fits
    c.in-Scalar.scalar c.in-Scalar.is c.bytes-size.result c.in-Some.why c.wrong_here.result c.bytes-size.ensures c.wrong_here.ensures.way c.wrong_here.ensures.part c.in-Some.ensures

pub node_wrong-returns-in-None : goal.node_wrong-returns-in-None
node_wrong-returns-in-None t c =
    scalar_judged c.args.walk.order c.args.walk.cells.now c.args.at c.args.walk.nodes.now c.args.walk.well c.args.node _ c.requires.there c.node-here.ensures c.requires.room c.requires.fits
    c.in-Scalar.scalar c.in-Scalar.is c.bytes-size.result c.bytes-size.ensures c.in-None.ensures

pub node_wrong-returns-in-Pair : goal.node_wrong-returns-in-Pair
node_wrong-returns-in-Pair t c =
    let facts = pair_node c.args.walk.nodes.now c.args.walk.well c.args.node _ c.requires.there c.node-here.ensures c.requires.room c.in-Pair.first c.in-Pair.second c.in-Pair.is in
    IfOk-weaker c.pair_wrong.result _ _
    (λ found h. node_judged c.args.walk.order c.args.walk.cells.now c.args.at c.args.walk.nodes.now c.args.walk.well c.args.node _ c.requires.there c.node-here.ensures c.requires.room c.requires.fits _ facts.1 found h)
    c.pair_wrong.ensures

pub node_wrong-returns-in-Never : goal.node_wrong-returns-in-Never
node_wrong-returns-in-Never t c =
    never_judged c.args.walk.order c.args.walk.cells.now c.args.at c.args.walk.nodes.now c.args.walk.well c.args.node _ c.requires.there c.node-here.ensures c.requires.room c.requires.fits
    c.in-Never.field-0 c.in-Never.is c.bytes-size.result c.wrong_here-in-Never.result c.bytes-size.ensures c.wrong_here-in-Never.ensures.way c.wrong_here-in-Never.ensures.part

pub node_wrong-returns-in-Elements : goal.node_wrong-returns-in-Elements
node_wrong-returns-in-Elements t c =
    IfOk-weaker c.elements_wrong.result _ _
    (λ found h. elements_judged c.args.walk.order c.args.walk.cells.now c.args.at c.args.walk.nodes.now c.args.walk.well c.args.node _ c.requires.there c.node-here.ensures c.requires.room c.requires.fits
    c.in-Elements.count c.in-Elements.element c.in-Elements.is found h)
    c.elements_wrong.ensures

pub node_wrong-returns-in-Fields : goal.node_wrong-returns-in-Fields
node_wrong-returns-in-Fields t c =
    let layout : Layout = c.node-here.result.layout.now in
    IfOk-weaker c.parts_wrong.result _ _
    (λ found h.
    fields_judged c.args.walk.order c.args.walk.cells.now c.args.at c.args.walk.nodes.now c.args.walk.well c.args.node _ c.requires.there c.node-here.ensures c.requires.room c.requires.fits c.in-Fields.field-0 c.in-Fields.children c.in-Fields.is found
    (parts_like c.args.walk.order c.args.walk.cells.now c.args.at c.args.walk.nodes.now None c.offsets.result.now (listed_offsets layout.fields) c.deref.result.now c.in-Fields.children.items c.bytes-size.result layout.size found
    c.offsets.ensures c.deref.ensures.value c.bytes-size.ensures h))
    c.parts_wrong.ensures

pub node_wrong-returns-in-Union : goal.node_wrong-returns-in-Union
node_wrong-returns-in-Union t c =
    union_judged c.args.walk.order c.args.walk.cells.now c.args.at c.args.walk.nodes.now c.args.walk.well c.args.node _ c.requires.there c.node-here.ensures c.requires.room c.requires.fits
    c.in-Union.field-0 c.in-Union.field-1 c.in-Union.is

pub node_wrong-returns-in-Vector : goal.node_wrong-returns-in-Vector
node_wrong-returns-in-Vector t c =
    IfOk-weaker c.vector_wrong.result _ _
    (λ found h. vector_judged c.args.walk.order c.args.walk.cells.now c.args.at c.args.walk.nodes.now c.args.walk.well c.args.node _ c.requires.there c.node-here.ensures c.requires.room c.requires.fits
    c.in-Vector.lanes c.in-Vector.is c.bytes-size.result c.bytes-size.ensures found h)
    c.vector_wrong.ensures

pub node_wrong-returns-in-Single : goal.node_wrong-returns-in-Single
node_wrong-returns-in-Single t c =
    let layout : Layout = c.node-here.result.layout.now in
    IfOk-weaker c.parts_wrong-in-Single.result _ _
    (λ found h.
    single_judged c.args.walk.order c.args.walk.cells.now c.args.at c.args.walk.nodes.now c.args.walk.well c.args.node _ c.requires.there c.node-here.ensures c.requires.room c.requires.fits c.in-Single.field-0 c.in-Single.children c.in-Single.is c.index_left.result c.index_left.ensures found
    (parts_like c.args.walk.order c.args.walk.cells.now c.args.at c.args.walk.nodes.now (Some c.index_left.result) c.offsets-in-Single.result.now (listed_offsets layout.fields) c.deref-in-Single.result.now c.in-Single.children.items c.bytes-size.result layout.size found
    c.offsets-in-Single.ensures c.deref-in-Single.ensures.value c.bytes-size.ensures h))
    c.parts_wrong-in-Single.ensures

pub node_wrong-returns-in-Tagged : goal.node_wrong-returns-in-Tagged
node_wrong-returns-in-Tagged t c =
    let ns = c.args.walk.nodes.now in
    let layout : Layout = c.node-here.result.layout.now in
    let wide : c.bytes.result ≡ size_of (placed_at ns c.in-Tagged.tag) = c.bytes.ensures ∙ ap (λ (l : Layout). l.size) c.layout.ensures in
    IfOk-weaker c.variants_wrong.result _ _
    (λ found h.
    tagged_judged c.args.walk.order c.args.walk.cells.now c.args.at c.args.walk.nodes.now c.args.walk.well c.args.node _ c.requires.there c.node-here.ensures c.requires.room c.requires.fits c.in-Tagged.mark c.in-Tagged.tag c.in-Tagged.variants c.in-Tagged.is found
    (beside_like c.args.walk.order c.args.walk.cells.now c.args.at c.encoding_of.result (encoding_of layout.variants) (types_in ns) c.deref-in-Tagged.result.now c.in-Tagged.variants.items c.tag_offset.result (tag_offset layout)
    c.bytes.result (size_of (placed_at ns c.in-Tagged.tag)) c.bytes-size.result layout.size found c.encoding_of.ensures c.deref-in-Tagged.ensures.value c.tag_offset.ensures wide c.bytes-size.ensures h))
    c.variants_wrong.ensures

pub node_wrong-returns-in-States : goal.node_wrong-returns-in-States
node_wrong-returns-in-States t c =
    let ns = c.args.walk.nodes.now in
    let layout : Layout = c.node-here.result.layout.now in
    let wide : c.bytes-in-States.result ≡ size_of (placed_at ns c.in-States.tag) = c.bytes-in-States.ensures ∙ ap (λ (l : Layout). l.size) c.layout-in-States.ensures in
    let count : c.len.result ≡ length c.in-States.prefix.items = c.len.ensures ∙ sym c.deref-in-States.ensures.len ∙ ap (λ (xs : List ℕ). length xs) c.deref-in-States.ensures.value in
    let offset : c.state_tag_offset.result ≡ state_tag_offset layout (length c.in-States.prefix.items) = c.state_tag_offset.ensures ∙ ap (λ k. state_tag_offset layout k) count in
    IfOk-weaker c.states_wrong.result _ _
    (λ found h.
    states_judged c.args.walk.order c.args.walk.cells.now c.args.at c.args.walk.nodes.now c.args.walk.well c.args.node _ c.requires.there c.node-here.ensures c.requires.room c.requires.fits c.in-States.prefix c.in-States.tag c.in-States.states c.in-States.is found
    (states_like c.args.walk.order c.args.walk.cells.now c.args.at ns c.offsets-in-States.result.now (listed_offsets layout.fields) c.deref-in-States.result.now c.in-States.prefix.items c.deref-in-States-2.result.now c.in-States.states.items
    c.state_tag_offset.result (state_tag_offset layout (length c.in-States.prefix.items)) c.bytes-in-States.result (size_of (placed_at ns c.in-States.tag)) c.bytes-size.result layout.size found
    c.offsets-in-States.ensures c.deref-in-States.ensures.value c.deref-in-States-2.ensures.value offset wide c.bytes-size.ensures h))
    c.states_wrong.ensures

-- ---- elements

pub elements_wrong-returns-in-Some : goal.elements_wrong-returns-in-Some
elements_wrong-returns-in-Some t c =
    let order = c.args.walk.order in
    let w : List Cell = c.args.walk.cells.now in
    let p : Placed = placed_at c.args.walk.nodes.now c.args.element in
    let i : ℕ = c.loop-i.i in
    let start : ℕ → ℕ = λ z. c.args.at + i * z in
    let size : c.bytes-size.result ≡ size_of p = c.bytes-size.ensures ∙ ap (λ (l : Layout). l.size) c.layout.ensures in
    let below : i < c.args.count = elim c.if-size-eq0.branch [ elements_wrong-then-size-eq0 v ↦ omega (arith, v.turns-is, v.min-turns.ensures, c.loop-i-test.true) | elements_wrong-else-size-eq0 v ↦ omega (arith, v.turns-is, c.loop-i-test.true) ] in
    let found : Judges (HoldCells order p (cells_at w (start (size_of p)) (size_of p))) (IsWrong order w p (start (size_of p))) c.in_ok-found.field-0 =
    subst (λ z. Judges (HoldCells order p (cells_at w (start z) (size_of p))) (IsWrong order w p (start z)) c.in_ok-found.field-0) size c.in_ok-found.ensures in
    let wrong : Judges (HoldCells order p (cells_at w (start (size_of p)) (size_of p))) (IsWrong order w p (start (size_of p))) (Some c.in-Some.found) =
    subst (Judges (HoldCells order p (cells_at w (start (size_of p)) (size_of p))) (IsWrong order w p (start (size_of p)))) c.in-Some.is found in (
      element_wrong (HoldCells order p) w c.args.at (size_of p) c.args.count i below wrong.0,
      (i, c.in-Some.found.way.items, c.in_ok-put_step.ensures.way, below, c.loop-i.invariant, subst (IsWrong order w p (start (size_of p)) c.in-Some.found.way.items) (sym c.in_ok-put_step.ensures.part) wrong.1),
    )

pub elements_wrong-returns : goal.elements_wrong-returns
elements_wrong-returns t c =
    let order = c.args.walk.order in
    let p : Placed = placed_at c.args.walk.nodes.now c.args.element in
    let size : c.bytes-size.result ≡ size_of p = c.bytes-size.ensures ∙ ap (λ (l : Layout). l.size) c.layout.ensures in
    let before : (k : ℕ) → k < c.args.count → (k < c.loop-i.i) ⊎ ((size_of p ≡ 0) × (0 < c.loop-i.i)) = λ k lt.
    elim c.if-size-eq0.branch [
      | elements_wrong-then-size-eq0 v ↦ inr (sym size ∙ v.if-size-eq0.true, omega (arith, v.turns-is, v.min-turns.ensures, c.loop-i-test.false, lt))
      | elements_wrong-else-size-eq0 v ↦ inl (omega (arith, v.turns-is, c.loop-i-test.false, lt))
    ] in
    elements_held (HoldCells order p) c.args.walk.cells.now c.args.at (size_of p) c.args.count c.loop-i.i c.requires.fits c.loop-i.invariant before

-- ---- fields

pub parts_wrong-overflow_add-start : goal.parts_wrong-overflow_add-start
parts_wrong-overflow_add-start t c =
    let here = field_here c.args.walk.nodes.now c.args.parts.offsets.now c.args.parts.children.now c.min-count.result c.loop-i.i c.bytes.result _ c.args.parts.size c.args.node c.min-count.ensures c.loop-i-test.true (c.bytes.ensures ∙ c.index-offsets-i.is) c.requires.parts.before c.requires.parts.room in
    omega (arith, here.2, here.4, c.requires.parts.fits)

pub parts_wrong-node_wrong-requires : goal.parts_wrong-node_wrong-requires
parts_wrong-node_wrong-requires t c =
    let here = field_here c.args.walk.nodes.now c.args.parts.offsets.now c.args.parts.children.now c.min-count.result c.loop-i.i c.bytes.result _ c.args.parts.size c.args.node c.min-count.ensures c.loop-i-test.true (c.bytes.ensures ∙ c.index-offsets-i.is) c.requires.parts.before c.requires.parts.room in
    (omega (arith, here.3, c.decreases), (omega (arith, here.3, c.requires.there), (here.5, omega (arith, here.2, here.4, c.requires.parts.fits))))

pub parts_wrong-returns-in-Some : goal.parts_wrong-returns-in-Some
parts_wrong-returns-in-Some t c =
    let os : List ℕ = c.args.parts.offsets.now in
    let cs : List ℕ = c.args.parts.children.now in
    let here = field_here c.args.walk.nodes.now os cs c.min-count.result c.loop-i.i c.bytes.result _ c.args.parts.size c.args.node c.min-count.ensures c.loop-i-test.true (c.bytes.ensures ∙ c.index-offsets-i.is) c.requires.parts.before c.requires.parts.room in
    let found = found_at c.args.walk (placed_at c.args.walk.nodes.now (get_or cs c.loop-i.i 0)) c.args.parts.at c.bytes.result (get_or os c.loop-i.i 0) c.in_ok-found.field-0 (Some c.in-Some.found) here.2 c.in-Some.is c.in_ok-found.ensures in
    fields_wrong c.args.walk c.args.parts c.loop-i.i here.4 c.in-Some.found c.in_ok-put_step.field-0 c.field_step.result here.0 here.1 c.field_step.ensures c.in_ok-put_step.ensures.way c.in_ok-put_step.ensures.part c.requires.parts.fits c.loop-i.invariant found

pub parts_wrong-loop-i-preserved : goal.parts_wrong-loop-i-preserved
parts_wrong-loop-i-preserved t c =
    let os : List ℕ = c.args.parts.offsets.now in
    let cs : List ℕ = c.args.parts.children.now in
    let p : Placed = placed_at c.args.walk.nodes.now (get_or cs c.loop-i.i 0) in
    let here = field_here c.args.walk.nodes.now os cs c.min-count.result c.loop-i.i c.bytes.result _ c.args.parts.size c.args.node c.min-count.ensures c.loop-i-test.true (c.bytes.ensures ∙ c.index-offsets-i.is) c.requires.parts.before c.requires.parts.room in
    let found = found_at c.args.walk p c.args.parts.at c.bytes.result (get_or os c.loop-i.i 0) c.in_ok-found.field-0 c.in_ok-found.field-0 here.2 refl c.in_ok-found.ensures in
    fields_more c.args.walk c.args.parts c.loop-i.i here.4 c.requires.parts.fits c.loop-i.invariant
    (type_none c.args.walk p (c.args.parts.at + get_or os c.loop-i.i 0) c.in_ok-found.field-0 c.in_default.not-Some found)

pub parts_wrong-returns : goal.parts_wrong-returns
parts_wrong-returns t c =
    let os : List ℕ = c.args.parts.offsets.now in
    let cs : List ℕ = c.args.parts.children.now in
    (parts_by_index c.args.walk.order c.args.walk.nodes.now os cs (cells_at c.args.walk.cells.now c.args.parts.at c.args.parts.size)).0
    (λ k from below. c.loop-i.invariant k from (omega (arith, below, c.loop-i-test.false, c.min-count.ensures)))

-- ---- the variants beside a tag

pub named_wrong-own_wrong-requires : goal.named_wrong-own_wrong-requires
named_wrong-own_wrong-requires t c =
    let vs : List (ℕ × ℕ) = c.args.tag.variants.now in
    let before : (get_or vs c.loop-i.i (0, 0)).1 < c.args.node = c.requires.tag.before c.loop-i.i (0, 0) c.loop-i-test.true in (
      omega (arith, before, c.decreases),
      (
        omega (arith, before, c.requires.there),
        (tagged_variant_room c.args.tag.size (types_in c.args.walk.nodes.now) vs c.loop-i.i (0, 0) c.requires.tag.room c.loop-i-test.true, c.requires.tag.fits),
      ),
    )

pub named_wrong-returns-in-None : goal.named_wrong-returns-in-None
named_wrong-returns-in-None t c =
    let names : IsNamedBy c.args.walk c.args.tag c.args.number c.args.tag.width c.loop-i.i = subst (λ z. IsNamedBy c.args.walk c.args.tag c.args.number z c.loop-i.i) c.from_bytes-width.ensures c.if-is_named.ensures in
    let held : JudgesOwn c.args.walk c.args.tag c.loop-i.i None = subst (JudgesOwn c.args.walk c.args.tag c.loop-i.i) c.in-None.is c.in_ok-wrong.ensures in
    beside_held c.args.walk.order c.args.tag.encoding.now (types_in c.args.walk.nodes.now) c.args.tag.variants.now c.args.walk.cells.now c.args.tag.at c.args.tag.size c.args.tag.offset c.args.tag.width c.args.number c.requires.made c.loop-i.i (0, 0) c.requires.tag.inside c.requires.tag.fits c.loop-i-test.true names held

pub named_wrong-loop-i-preserved : goal.named_wrong-loop-i-preserved
named_wrong-loop-i-preserved t c =
    elim c.if-is_named.branch [
      | named_wrong-then-is_named+in_ok-wrong+in-Some v ↦ (
          let names : IsNamedBy c.args.walk c.args.tag c.args.number c.args.tag.width c.loop-i.i = subst (λ z. IsNamedBy c.args.walk c.args.tag c.args.number z c.loop-i.i) c.from_bytes-width.ensures v.if-is_named.ensures in
          let wrong : JudgesOwn c.args.walk c.args.tag c.loop-i.i (Some v.in-Some.wrong) = subst (JudgesOwn c.args.walk c.args.tag c.loop-i.i) v.in-Some.is v.in_ok-wrong.ensures in
          judged_wrong c.args.walk.order c.args.tag.encoding.now (types_in c.args.walk.nodes.now) c.args.tag.variants.now c.args.walk.cells.now c.args.tag.at c.args.tag.size c.args.tag.offset c.args.tag.width c.args.number c.requires.made c.loop-i.i (0, 0) c.loop-i.found c.if-is_named.found v.in-Some.wrong c.loop-i-test.true names v.found-is wrong c.loop-i.invariant
          )
      | named_wrong-else-is_named v ↦ (
          let other : IsNamedBy c.args.walk c.args.tag c.args.number c.args.tag.width c.loop-i.i → ⊥ = subst (λ z. IsNamedBy c.args.walk c.args.tag c.args.number z c.loop-i.i → ⊥) c.from_bytes-width.ensures v.if-is_named.ensures in
          judged_more c.args.walk.order c.args.tag.encoding.now (types_in c.args.walk.nodes.now) c.args.tag.variants.now c.args.walk.cells.now c.args.tag.at c.args.tag.size c.args.tag.offset c.args.tag.width c.args.number c.loop-i.i c.loop-i.found c.if-is_named.found v.found-is other c.loop-i.invariant
          )
    ]

pub named_wrong-returns-in-Some-found : goal.named_wrong-returns-in-Some-found
named_wrong-returns-in-Some-found t c =
    let judged = subst (AreJudged c.args.walk.order c.args.tag.encoding.now (types_in c.args.walk.nodes.now) c.args.tag.variants.now c.args.walk.cells.now c.args.tag.at c.args.tag.size c.args.tag.offset c.args.tag.width c.args.number c.loop-i.i) c.in-Some-found.is c.loop-i.invariant in
    (beside_unheld c.args.walk.order c.args.tag.encoding.now (types_in c.args.walk.nodes.now) c.args.tag.variants.now c.args.walk.cells.now c.args.tag.at c.args.tag.size c.args.tag.offset c.args.tag.width c.args.number c.requires.made c.loop-i.i c.loop-i.found c.requires.tag.inside c.loop-i-test.false c.loop-i.invariant, inr judged.1)

pub named_wrong-returns-in_ok-tag_wrong-in-None-found : goal.named_wrong-returns-in_ok-tag_wrong-in-None-found
named_wrong-returns-in_ok-tag_wrong-in-None-found t c =
    let judged = subst (AreJudged c.args.walk.order c.args.tag.encoding.now (types_in c.args.walk.nodes.now) c.args.tag.variants.now c.args.walk.cells.now c.args.tag.at c.args.tag.size c.args.tag.offset c.args.tag.width c.args.number c.loop-i.i) c.in-None-found.is c.loop-i.invariant in (
      beside_unheld c.args.walk.order c.args.tag.encoding.now (types_in c.args.walk.nodes.now) c.args.tag.variants.now c.args.walk.cells.now c.args.tag.at c.args.tag.size c.args.tag.offset c.args.tag.width c.args.number c.requires.made c.loop-i.i c.loop-i.found c.requires.tag.inside c.loop-i-test.false c.loop-i.invariant,
      tag_found c.args.walk.order c.args.tag.encoding.now (variants_in c.args.walk c.args.tag) c.args.walk.cells.now c.args.tag.at c.args.tag.offset c.args.tag.width (NoVariant c.args.number) c.in_ok-tag_wrong-in-None-found.field-0
          c.in_ok-tag_wrong-in-None-found.ensures.way c.in_ok-tag_wrong-in-None-found.ensures.part (none_named c.args.walk.order c.args.tag.encoding.now (types_in c.args.walk.nodes.now) c.args.tag.variants.now c.args.walk.cells.now c.args.tag.at c.args.tag.size c.args.tag.offset c.args.tag.width c.args.number c.requires.made c.loop-i.i c.loop-i-test.false judged.1),
    )

pub variants_wrong-returns-in_ok-tag_wrong-in-Err : goal.variants_wrong-returns-in_ok-tag_wrong-in-Err
variants_wrong-returns-in_ok-tag_wrong-in-Err t c =
    let order = c.args.walk.order in
    let w : List Cell = c.args.walk.cells.now in
    let variants : TaggedVariants = tagged_variants_in (types_in c.args.walk.nodes.now) c.args.tag.variants.now in (
      λ h. tag_unset order c.args.tag.encoding.now variants w c.args.tag.at c.args.tag.size c.args.tag.offset c.args.tag.width c.in-Err.place h.0 c.requires.tag.inside c.in-Err.ensures.made h.1,
      tag_found order c.args.tag.encoding.now variants w c.args.tag.at c.args.tag.offset c.args.tag.width (Unset c.in-Err.place) c.in_ok-tag_wrong-in-Err.field-0
          c.in_ok-tag_wrong-in-Err.ensures.way c.in_ok-tag_wrong-in-Err.ensures.part c.in-Err.ensures.made,
    )
