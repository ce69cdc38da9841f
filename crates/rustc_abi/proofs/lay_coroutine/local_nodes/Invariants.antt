use Rattle.std.proofs.Common.{◌≡◌, take}
use Rattle.rustc_abi.proofs.Coroutines.StateNodesLemmas.{nodes_of}
use Rattle.rustc_abi.proofs.lay_coroutine.local_nodes.Given as goal

abbrev pub invariant-loop-index : goal.invariant-loop-index
invariant-loop-index l = l.nodes.items ≡ nodes_of l.locals (take l.index-index l.indices)
