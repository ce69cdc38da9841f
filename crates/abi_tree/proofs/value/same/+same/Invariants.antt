use Rattle.std.proofs.Common.{◌≡◌, drop}
use Rattle.abi_tree.specs.Value.{values_of}
use Rattle.abi_tree.proofs.value.same.+same.Given as goal

abbrev pub invariant-are_same-loop-i : goal.invariant-are_same-loop-i
invariant-are_same-loop-i l = values_of (drop l.i l.xs) ≡ values_of (drop l.i l.ys) → values_of l.xs ≡ values_of l.ys
