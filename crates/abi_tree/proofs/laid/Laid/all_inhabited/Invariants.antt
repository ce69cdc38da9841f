use Rattle.std.proofs.Common.{◌≡◌, drop}
use Rattle.abi_tree.specs.Deciding.{are_inhabited}
use Rattle.abi_tree.proofs.laid.Laid.all_inhabited.Given as goal

abbrev pub invariant-loop-i : goal.invariant-loop-i
invariant-loop-i l = are_inhabited l.self.nodes ≡ are_inhabited (drop l.i l.self.nodes)
