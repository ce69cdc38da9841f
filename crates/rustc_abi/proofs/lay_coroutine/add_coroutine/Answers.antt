use Rattle.std.proofs.Common.{◌∙◌, map, rules}
use Rattle.abi_tree.specs.Well.{all_at}
use Rattle.rustc_abi.proofs.Coroutines.AddedCoroutineLemmas.{fault_of_nodes, own_coroutine_fault}
use Rattle.rustc_abi.proofs.lay_coroutine.add_coroutine.Goals as goal

pub returns-in-Some-clause-err : goal.returns-in-Some-clause-err
returns-in-Some-clause-err c =
    let ns = c.args.nodes.now in
    let all = map (λ state. state.items) c.args.state_nodes.states.now in
    own_coroutine_fault c.args.cx.dl.now (all_at ns c.args.prefix.items) (all_at ns c.args.state_nodes.locals.now) all c.args.state_nodes.pairs.now c.in-Some.fault
    (fault_of_nodes ns c.args.prefix.items c.args.state_nodes.locals.now all c.args.state_nodes.pairs.now ∙ search rules)
