use Rattle.abi_types.specs.Ty.Runs.{AreUnusedOf}
use Rattle.abi_types.proofs.ty.padding.unused_of_each.Given as goal

-- the variants before have their sets
abbrev pub invariant-loop-v : goal.invariant-loop-v
invariant-loop-v g l = AreUnusedOf (g.W.Walk.typed_of l.this) l.v l.sets.items
