use Rattle.std.proofs.Common.{◌≡◌, drop}
use Rattle.abi_bytes.specs.Answers.{has_pointer_node}
use Rattle.abi_bytes.proofs.answers.has_pointer_node.Given as goal

abbrev pub invariant-loop-i : goal.invariant-loop-i
invariant-loop-i l = has_pointer_node l.nodes ≡ has_pointer_node (drop l.i l.nodes)
