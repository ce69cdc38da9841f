use Rattle.std.proofs.Common.{◌≡◌, drop, map}
use Rattle.abi_tree.specs.Tree.{tree_of, trees}
use Rattle.guarantees.specs.FieldOfC.{first_fault}
use Rattle.guarantees.proofs.binding_generator.fields.first_fault.Given as goal

abbrev pub invariant-loop-i : goal.invariant-loop-i
invariant-loop-i l = first_fault l.i (trees (map tree_of (drop l.i l.fields))) ≡ first_fault 0 (trees (map tree_of l.fields))
