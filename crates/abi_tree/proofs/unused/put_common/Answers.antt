use Rattle.std.proofs.Common.{◌≡◌, ap, arith, length, subst, sym, ◌∙◌}
use Rattle.std.proofs.lemmas.Result.{on_ok_weaker}
use Rattle.abi_index.specs.RangeSet.{is_in_ranges}
use Rattle.abi_index.specs.Runs.{Adds, moved_to}
use Rattle.abi_tree.specs.declared.node.Node.{Node}
use Rattle.abi_tree.specs.Nodes.{lent_node, state_tag_offset}
use Rattle.abi_tree.specs.Needed.{placed_nodes}
use Rattle.abi_tree.proofs.Places.MadeLemmas.{beside_fits, beside_tagged, listed_fit, states_parts}
use Rattle.abi_tree.proofs.Places.UnusedLemmas.{common_states, common_tagged}
use Rattle.abi_tree.proofs.unused.put_common.Goals as goal

pub set_at-requires : goal.set_at-requires
set_at-requires c =
    let beside = beside_tagged c.requires.made.0 (lent_node c.args.node) c.args.done.now c.requires.made.1 c.requires.some c.in-Tagged.mark c.in-Tagged.tag c.in-Tagged.variants c.in-Tagged.is in
    (beside_fits c.requires.made.0 (lent_node c.args.node) c.args.done.now c.requires.made.1 c.requires.some _ c.in-Tagged.tag c.in-Tagged.variants.items beside (omega (arith, c.bytes-size.ensures, c.bytes-size.type_inv))).0.0

pub add_set-requires : goal.add_set-requires
add_set-requires c =
    let beside = beside_tagged c.requires.made.0 (lent_node c.args.node) c.args.done.now c.requires.made.1 c.requires.some c.in-Tagged.mark c.in-Tagged.tag c.in-Tagged.variants c.in-Tagged.is in
    rw (c.set_at.ensures, c.tag_offset.ensures) (beside_fits c.requires.made.0 (lent_node c.args.node) c.args.done.now c.requires.made.1 c.requires.some _ c.in-Tagged.tag c.in-Tagged.variants.items beside (omega (arith, c.bytes-size.ensures, c.bytes-size.type_inv))).1

pub put_parts-requires : goal.put_parts-requires
put_parts-requires c =
    let all = listed_fit c.requires.made.0 (lent_node c.args.node) c.args.done.now c.requires.made.1 c.requires.some c.in-States.prefix.items c.offsets.result.now c.placed_children.result.now (states_parts c.requires.made.0 (lent_node c.args.node) c.args.done.now c.requires.made.1 c.requires.some c.in-States.prefix c.in-States.tag c.in-States.states c.in-States.is).0 c.offsets.ensures (c.placed_children.ensures ∙ ap (placed_nodes (lent_node c.args.node).layout) c.deref.ensures.value) (omega (arith, c.bytes-size.ensures, c.bytes-size.type_inv)) in
    record { made = all.0; fits = all.1 }

pub set_at-requires-in-States : goal.set_at-requires-in-States
set_at-requires-in-States c =
    let parts = states_parts c.requires.made.0 (lent_node c.args.node) c.args.done.now c.requires.made.1 c.requires.some c.in-States.prefix c.in-States.tag c.in-States.states c.in-States.is in
    (beside_fits c.requires.made.0 (lent_node c.args.node) c.args.done.now c.requires.made.1 c.requires.some _ c.in-States.tag c.in-States.states.items parts.1 (omega (arith, c.bytes-size.ensures, c.bytes-size.type_inv))).0.0

pub add_set-requires-in-States : goal.add_set-requires-in-States
add_set-requires-in-States c =
    let parts = states_parts c.requires.made.0 (lent_node c.args.node) c.args.done.now c.requires.made.1 c.requires.some c.in-States.prefix c.in-States.tag c.in-States.states c.in-States.is in
    let many : c.len.result ≡ length c.in-States.prefix.items = c.len.ensures ∙ sym c.deref.ensures.len ∙ ap length c.deref.ensures.value in
    rw (c.set_at-in-States.ensures, c.state_tag_offset.ensures, many) (beside_fits c.requires.made.0 (lent_node c.args.node) c.args.done.now c.requires.made.1 c.requires.some _ c.in-States.tag c.in-States.states.items parts.1 (omega (arith, c.bytes-size.ensures, c.bytes-size.type_inv))).1

pub returns-in-Tagged : goal.returns-in-Tagged
returns-in-Tagged c =
    let n : Node = lent_node c.args.node in
    on_ok_weaker c.add_set.result
    (λ put types made. common_tagged types n c.args.done.now made c.requires.some c.in-Tagged.mark c.in-Tagged.tag c.in-Tagged.variants c.tag_offset.result c.args.runs.now c.add_set.new.self c.in-Tagged.is c.tag_offset.ensures
    (subst (λ s. Adds c.args.runs.now c.add_set.new.self (moved_to c.tag_offset.result (is_in_ranges s))) c.set_at.ensures put))
    c.add_set.ensures.bytes

pub returns-in_ok-put_parts-in-States : goal.returns-in_ok-put_parts-in-States
returns-in_ok-put_parts-in-States c =
    let n : Node = lent_node c.args.node in
    on_ok_weaker c.add_set-in-States.result
    (λ put types made. common_states types n c.args.done.now made c.requires.some c.in-States.prefix c.in-States.tag c.in-States.states c.offsets.result.now c.placed_children.result.now c.state_tag_offset.result
    c.args.runs.now c.put_parts.new.runs c.add_set-in-States.new.self c.in-States.is c.offsets.ensures (c.placed_children.ensures ∙ ap (placed_nodes n.layout) c.deref.ensures.value)
    (c.state_tag_offset.ensures ∙ ap (state_tag_offset n.layout) (c.len.ensures ∙ sym c.deref.ensures.len ∙ ap length c.deref.ensures.value)) c.in_ok-put_parts-in-States.ensures
    (subst (λ s. Adds c.put_parts.new.runs c.add_set-in-States.new.self (moved_to c.state_tag_offset.result (is_in_ranges s))) c.set_at-in-States.ensures put))
    c.add_set-in-States.ensures.bytes
