use Rattle.std.proofs.Common.{◌≡◌, ◌<◌, List, [], None, Some, ap, arith, get_or, length, subst, sym, ◌∙◌}
use Rattle.std.proofs.lemmas.List.{get_or_default}
use Rattle.std.proofs.lemmas.Result.{IfOk-weaker}
use Rattle.abi_tree.specs.declared.node.Node.{Node}
use Rattle.abi_tree.specs.Needed.{AreNeeded, HaveSets}
use Rattle.abi_tree.specs.Nodes.{lent_node, types_in}
use Rattle.abi_tree.proofs.Places.UnusedLemmas.{left_at, node_is_made, variant_count_at}
use Rattle.abi_tree.proofs.unused.kept_unused.Goals as goal

pub unused_of-requires-clause-made : goal.unused_of-requires-clause-made
unused_of-requires-clause-made c =
    let ns : List Node = c.requires.needed.0 in
    let have : HaveSets ns c.args.kept.now c.in_ok-done.done.items = record { needed = c.requires.needed.1; made = c.in_ok-done.ensures ns c.requires.needed.1 } in
    rw c.deref.ensures.value (types_in ns, (node_is_made ns c.args.kept.now c.in_ok-done.done.items have c.args.node c.in-Some.root (get_or_default c.args.kept.now c.args.node None _ (omega (arith, c.requires.last)) ∙ c.in-Some.is)).0)

pub unused_of-requires-clause-count : goal.unused_of-requires-clause-count
unused_of-requires-clause-count c =
    let ns : List Node = c.requires.needed.0 in
    let needed : AreNeeded ns c.args.kept.now = c.requires.needed.1 in
    let own = needed.own c.args.node c.in-Some.root (get_or_default c.args.kept.now c.args.node None _ (omega (arith, c.requires.last)) ∙ c.in-Some.is) in
    variant_count_at ns needed.well needed.laws c.args.node (lent_node c.in-Some.root) (omega (arith, c.requires.last, needed.long)) own.0

pub returns-in-Some : goal.returns-in-Some
returns-in-Some c =
    IfOk-weaker c.unused_of.result _ _
    (λ sets each ns needed.
    let have : HaveSets ns c.args.kept.now c.deref.result.now = subst (HaveSets ns c.args.kept.now) (sym c.deref.ensures.value) (record { needed = needed; made = c.in_ok-done.ensures ns needed }) in
    left_at ns c.args.kept.now c.deref.result.now c.set_at.result.now sets have c.args.node c.in-Some.root (get_or_default c.args.kept.now c.args.node None _ (omega (arith, c.requires.last)) ∙ c.in-Some.is)
    (c.set_at.ensures ∙ ap (λ ss. get_or ss c.args.node []) (c.deref-in-Some.ensures.value ∙ sym c.deref.ensures.value)) each)
    c.unused_of.ensures
