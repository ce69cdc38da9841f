use Rattle.std.proofs.Common.{take}
use Rattle.abi_index.specs.Runs.{Adds}
use Rattle.abi_tree.specs.Needed.{parts_cover, sets_at}
use Rattle.abi_tree.proofs.runs_of.put_parts.Given as goal

abbrev pub invariant-loop-i : goal.invariant-loop-i
invariant-loop-i l = Adds l.fn.runs l.runs (parts_cover (take l.i l.offsets) (take l.i (sets_at l.done l.children)))
