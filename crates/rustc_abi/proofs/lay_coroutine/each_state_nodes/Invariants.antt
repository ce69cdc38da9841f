use Rattle.std.proofs.Common.{◌≡◌, map, take}
use Rattle.rustc_abi.proofs.Coroutines.StateNodesLemmas.{nodes_of_each}
use Rattle.rustc_abi.proofs.lay_coroutine.each_state_nodes.Given as goal

abbrev pub invariant-loop-indices : goal.invariant-loop-indices
invariant-loop-indices l = map (λ c. c.items) l.children.items ≡ nodes_of_each l.locals (take l.indices-index l.states)
