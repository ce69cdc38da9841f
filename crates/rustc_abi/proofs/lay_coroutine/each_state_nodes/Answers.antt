use Rattle.std.proofs.Common.{◌∙◌, ap, map}
use Rattle.rustc_abi.proofs.Coroutines.StateNodesLemmas.{each_more, nodes_of}
use Rattle.rustc_abi.proofs.lay_coroutine.each_state_nodes.Goals as goal

pub loop-indices-preserved : goal.loop-indices-preserved
loop-indices-preserved c =
    let more =
    each_more c.args.locals.now c.args.states.now c.loop-indices.children.items c.loop-indices.indices-index c.indices-item.result c.in_ok-local_nodes.field-0 c.loop-indices-test.true
    c.indices-item.is (c.in_ok-local_nodes.ensures ∙ ap (nodes_of c.args.locals.now) c.deref.ensures.value) c.loop-indices.invariant in
    ap (map (λ c. c.items)) c.in_ok-push.ensures.items ∙ more
