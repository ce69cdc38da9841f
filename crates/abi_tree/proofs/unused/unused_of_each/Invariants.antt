use Rattle.abi_tree.specs.Needed.{LeaveOut}
use Rattle.abi_tree.proofs.unused.unused_of_each.Given as goal

-- the variants before have their sets
abbrev pub invariant-loop-v : goal.invariant-loop-v
invariant-loop-v l = LeaveOut l.bytes l.done l.variants l.v l.sets.items
