use Rattle.std.proofs.Common.{◌≡◌, drop}
use Rattle.abi_tree.specs.Placed.{is_flagged}
use Rattle.abi_tree.specs.Nodes.{parts_at}
use Rattle.abi_tree.specs.Well.{all_at}
use Rattle.abi_tree.proofs.value.named.is_flagged.Given as goal

abbrev pub invariant-loop-i : goal.invariant-loop-i
invariant-loop-i l = is_flagged (parts_at l.offsets (all_at l.nodes l.children)) ≡ is_flagged (parts_at (drop l.i l.offsets) (drop l.i (all_at l.nodes l.children)))
