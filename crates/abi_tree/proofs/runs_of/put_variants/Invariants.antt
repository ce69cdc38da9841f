use Rattle.std.proofs.Common.{map, take}
use Rattle.abi_index.specs.Runs.{Adds}
use Rattle.abi_tree.specs.Needed.{sets_at, some_covers}
use Rattle.abi_tree.proofs.runs_of.put_variants.Given as goal

abbrev pub invariant-loop-variant : goal.invariant-loop-variant
invariant-loop-variant l = Adds l.fn.runs l.runs (some_covers (sets_at l.done (map (λ v. v.1) (take l.variant-index l.variants))))
