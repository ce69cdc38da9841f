use Rattle.std.proofs.Common.{take}
use Rattle.abi_index.specs.Runs.{Adds}
use Rattle.abi_tree.specs.Needed.{sets_at, some_covers}
use Rattle.abi_tree.proofs.runs_of.put_fields.Given as goal

abbrev pub invariant-loop-child : goal.invariant-loop-child
invariant-loop-child l = Adds l.fn.runs l.runs (some_covers (sets_at l.done (take l.child-index l.children)))
