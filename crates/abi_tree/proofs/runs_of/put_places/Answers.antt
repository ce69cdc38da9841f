use Rattle.std.proofs.Common.{◌≡◌, ℕ, [], ◌∷◌, ap, arith, length, subst, sym, ◌∙◌}
use Rattle.std.proofs.lemmas.Result.{on_ok_weaker}
use Rattle.abi_index.specs.RangeSet.{is_in_ranges}
use Rattle.abi_index.specs.Runs.{Adds, moved_to, repeated}
use Rattle.abi_tree.specs.declared.node.Node.{Node}
use Rattle.abi_tree.specs.Nodes.{lent_node, placed_in, state_tag_offset}
use Rattle.abi_tree.specs.Placed.{size_of}
use Rattle.abi_tree.specs.Needed.{placed_nodes}
use Rattle.abi_tree.proofs.Places.MadeLemmas.{beside_fits, beside_tagged, elements_of, listed_fields, listed_fit, listed_pair, listed_single, maximal_fits, put_elements, put_fields, put_pair, put_single, put_states, put_tagged, put_union, put_vector, states_parts, union_sets, vector_set}
use Rattle.abi_tree.proofs.runs_of.put_places.Goals as goal

pub put_parts-requires : goal.put_parts-requires
put_parts-requires c =
    let all = listed_fit c.requires.made.0 (lent_node c.args.node) c.args.done.now c.requires.made.1 c.requires.some (c.in-Pair.first ∷ c.in-Pair.second ∷ []) c.offsets.result.now c.placed_children.result.now (listed_pair c.requires.made.0 (lent_node c.args.node) c.args.done.now c.requires.made.1 c.requires.some c.in-Pair.first c.in-Pair.second c.in-Pair.is) c.offsets.ensures (c.placed_children.ensures) (omega (arith, c.bytes-size.ensures, c.bytes-size.type_inv)) in
    record { made = all.0; fits = all.1 }

pub put_parts-requires-in-Fields : goal.put_parts-requires-in-Fields
put_parts-requires-in-Fields c =
    let all = listed_fit c.requires.made.0 (lent_node c.args.node) c.args.done.now c.requires.made.1 c.requires.some c.in-Fields.children.items c.offsets-in-Fields.result.now c.placed_children-in-Fields.result.now (listed_fields c.requires.made.0 (lent_node c.args.node) c.args.done.now c.requires.made.1 c.requires.some c.in-Fields.field-0 c.in-Fields.children c.in-Fields.is) c.offsets-in-Fields.ensures (c.placed_children-in-Fields.ensures ∙ ap (placed_nodes (lent_node c.args.node).layout) c.deref.ensures.value) (omega (arith, c.bytes-size.ensures, c.bytes-size.type_inv)) in
    record { made = all.0; fits = all.1 }

pub put_parts-requires-in-Single : goal.put_parts-requires-in-Single
put_parts-requires-in-Single c =
    let all = listed_fit c.requires.made.0 (lent_node c.args.node) c.args.done.now c.requires.made.1 c.requires.some c.in-Single.children.items c.offsets-in-Single.result.now c.placed_children-in-Single.result.now (listed_single c.requires.made.0 (lent_node c.args.node) c.args.done.now c.requires.made.1 c.requires.some c.in-Single.field-0 c.in-Single.children c.in-Single.is) c.offsets-in-Single.ensures (c.placed_children-in-Single.ensures ∙ ap (placed_nodes (lent_node c.args.node).layout) c.deref-in-Single.ensures.value) (omega (arith, c.bytes-size.ensures, c.bytes-size.type_inv)) in
    record { made = all.0; fits = all.1 }

pub put_parts-requires-in-States : goal.put_parts-requires-in-States
put_parts-requires-in-States c =
    let all = listed_fit c.requires.made.0 (lent_node c.args.node) c.args.done.now c.requires.made.1 c.requires.some c.in-States.prefix.items c.offsets-in-States.result.now c.placed_children-in-States.result.now (states_parts c.requires.made.0 (lent_node c.args.node) c.args.done.now c.requires.made.1 c.requires.some c.in-States.prefix c.in-States.tag c.in-States.states c.in-States.is).0 c.offsets-in-States.ensures (c.placed_children-in-States.ensures ∙ ap (placed_nodes (lent_node c.args.node).layout) c.deref-in-States.ensures.value) (omega (arith, c.bytes-size.ensures, c.bytes-size.type_inv)) in
    record { made = all.0; fits = all.1 }

pub returns-in-Pair : goal.returns-in-Pair
returns-in-Pair c =
    on_ok_weaker c.put_parts.result
    (λ put types made. put_pair types (lent_node c.args.node) c.args.done.now made c.requires.some c.in-Pair.first c.in-Pair.second c.offsets.result.now c.placed_children.result.now c.args.runs.now c.put_parts.new.runs c.in-Pair.is
    c.offsets.ensures c.placed_children.ensures put)
    c.put_parts.ensures

pub returns-in-Fields : goal.returns-in-Fields
returns-in-Fields c =
    let n : Node = lent_node c.args.node in
    on_ok_weaker c.put_parts-in-Fields.result
    (λ put types made. put_fields types n c.args.done.now made c.requires.some c.in-Fields.field-0 c.in-Fields.children c.offsets-in-Fields.result.now c.placed_children-in-Fields.result.now c.args.runs.now c.put_parts-in-Fields.new.runs
    c.in-Fields.is c.offsets-in-Fields.ensures (c.placed_children-in-Fields.ensures ∙ ap (placed_nodes n.layout) c.deref.ensures.value) put)
    c.put_parts-in-Fields.ensures

pub returns-in-Single : goal.returns-in-Single
returns-in-Single c =
    let n : Node = lent_node c.args.node in
    on_ok_weaker c.put_parts-in-Single.result
    (λ put types made. put_single types n c.args.done.now made c.requires.some c.in-Single.field-0 c.in-Single.children c.offsets-in-Single.result.now c.placed_children-in-Single.result.now c.args.runs.now c.put_parts-in-Single.new.runs
    c.in-Single.is c.offsets-in-Single.ensures (c.placed_children-in-Single.ensures ∙ ap (placed_nodes n.layout) c.deref-in-Single.ensures.value) put)
    c.put_parts-in-Single.ensures

pub set_at-requires : goal.set_at-requires
set_at-requires c =
    (elements_of c.requires.made.0 (lent_node c.args.node) c.args.done.now c.requires.made.1 c.requires.some c.in-Elements.count c.in-Elements.element c.in-Elements.is).1.0

pub put_elements-requires-clause-inside : goal.put_elements-requires-clause-inside
put_elements-requires-clause-inside c =
    let all = elements_of c.requires.made.0 (lent_node c.args.node) c.args.done.now c.requires.made.1 c.requires.some c.in-Elements.count c.in-Elements.element c.in-Elements.is in
    (size_of (placed_in c.requires.made.0 c.in-Elements.element), c.bytes-size.ensures ∙ all.0, rw c.set_at.ensures all.2)

pub returns-in-Elements : goal.returns-in-Elements
returns-in-Elements c =
    on_ok_weaker c.put_elements.result
    (λ put types made.
    let stride : ℕ = size_of (placed_in types c.in-Elements.element) in
    let all = elements_of types (lent_node c.args.node) c.args.done.now made c.requires.some c.in-Elements.count c.in-Elements.element c.in-Elements.is in
    put_elements types (lent_node c.args.node) c.args.done.now made c.requires.some c.in-Elements.count c.in-Elements.element c.args.runs.now c.put_elements.new.runs c.in-Elements.is
    (subst (λ s. Adds c.args.runs.now c.put_elements.new.runs (repeated stride c.in-Elements.count (is_in_ranges s))) c.set_at.ensures (put stride (c.bytes-size.ensures ∙ all.0))))
    c.put_elements.ensures

pub put_fields-requires : goal.put_fields-requires
put_fields-requires c = record {
  made = rw c.deref-in-Union.ensures.value (union_sets c.requires.made.0 (lent_node c.args.node) c.args.done.now c.requires.made.1 c.requires.some c.in-Union.field-0 c.in-Union.children c.in-Union.is);
}

pub returns-in-Union : goal.returns-in-Union
returns-in-Union c =
    on_ok_weaker c.put_fields.result
    (λ put types made. put_union types (lent_node c.args.node) c.args.done.now made c.requires.some c.in-Union.field-0 c.in-Union.children c.deref-in-Union.result.now c.args.runs.now c.put_fields.new.runs c.in-Union.is
    c.deref-in-Union.ensures.value put)
    c.put_fields.ensures

pub set_at-requires-in-Vector : goal.set_at-requires-in-Vector
set_at-requires-in-Vector c = (vector_set c.requires.made.0 (lent_node c.args.node) c.args.done.now c.requires.made.1 c.requires.some c.in-Vector.lanes c.in-Vector.is).0

pub add_set-requires : goal.add_set-requires
add_set-requires c =
    rw c.set_at-in-Vector.ensures (maximal_fits 0 _ (vector_set c.requires.made.0 (lent_node c.args.node) c.args.done.now c.requires.made.1 c.requires.some c.in-Vector.lanes c.in-Vector.is).1)

pub returns-in-Vector : goal.returns-in-Vector
returns-in-Vector c =
    on_ok_weaker c.add_set.result
    (λ put types made. put_vector types (lent_node c.args.node) c.args.done.now made c.requires.some c.in-Vector.lanes c.args.runs.now c.add_set.new.self c.in-Vector.is
    (subst (λ s. Adds c.args.runs.now c.add_set.new.self (moved_to 0 (is_in_ranges s))) c.set_at-in-Vector.ensures put))
    c.add_set.ensures.bytes

pub put_tagged-requires : goal.put_tagged-requires
put_tagged-requires c =
    let beside = beside_tagged c.requires.made.0 (lent_node c.args.node) c.args.done.now c.requires.made.1 c.requires.some c.in-Tagged.mark c.in-Tagged.tag c.in-Tagged.variants c.in-Tagged.is in
    let all = beside_fits c.requires.made.0 (lent_node c.args.node) c.args.done.now c.requires.made.1 c.requires.some _ c.in-Tagged.tag c.in-Tagged.variants.items beside (omega (arith, c.bytes-size.ensures, c.bytes-size.type_inv)) in
    record { tag = all.0; fits = rw c.tag_offset.ensures all.1; made = rw c.deref-in-Tagged.ensures.value all.2 }

pub returns-in-Tagged : goal.returns-in-Tagged
returns-in-Tagged c =
    on_ok_weaker c.put_tagged.result
    (λ put types made. put_tagged types (lent_node c.args.node) c.args.done.now made c.requires.some c.in-Tagged.mark c.in-Tagged.tag c.in-Tagged.variants c.tag_offset.result c.deref-in-Tagged.result.now c.args.runs.now
    c.put_tagged.new.runs c.in-Tagged.is c.tag_offset.ensures c.deref-in-Tagged.ensures.value put)
    c.put_tagged.ensures

pub put_tagged-requires-in-States : goal.put_tagged-requires-in-States
put_tagged-requires-in-States c =
    let parts = states_parts c.requires.made.0 (lent_node c.args.node) c.args.done.now c.requires.made.1 c.requires.some c.in-States.prefix c.in-States.tag c.in-States.states c.in-States.is in
    let many : c.len.result ≡ length c.in-States.prefix.items = c.len.ensures ∙ sym c.deref-in-States.ensures.len ∙ ap length c.deref-in-States.ensures.value in
    let all = beside_fits c.requires.made.0 (lent_node c.args.node) c.args.done.now c.requires.made.1 c.requires.some _ c.in-States.tag c.in-States.states.items parts.1 (omega (arith, c.bytes-size.ensures, c.bytes-size.type_inv)) in
    record { tag = all.0; fits = rw (c.state_tag_offset-offset.ensures, many) all.1; made = rw c.deref-in-States-2.ensures.value all.2 }

pub returns-in_ok-put_parts-in-States : goal.returns-in_ok-put_parts-in-States
returns-in_ok-put_parts-in-States c =
    let n : Node = lent_node c.args.node in
    on_ok_weaker c.put_tagged-in-States.result
    (λ put types made. put_states types n c.args.done.now made c.requires.some c.in-States.prefix c.in-States.tag c.in-States.states c.offsets-in-States.result.now c.placed_children-in-States.result.now c.state_tag_offset-offset.result
    c.deref-in-States-2.result.now c.args.runs.now c.put_parts-in-States.new.runs c.put_tagged-in-States.new.runs c.in-States.is c.offsets-in-States.ensures
    (c.placed_children-in-States.ensures ∙ ap (placed_nodes n.layout) c.deref-in-States.ensures.value) (c.state_tag_offset-offset.ensures ∙ ap (state_tag_offset n.layout) (c.len.ensures ∙ sym c.deref-in-States.ensures.len ∙ ap length c.deref-in-States.ensures.value)) c.deref-in-States-2.ensures.value c.in_ok-put_parts-in-States.ensures put)
    c.put_tagged-in-States.ensures
