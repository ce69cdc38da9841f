use Rattle.std.proofs.Common.{◌≡◌, take}
use Rattle.abi_tree.specs.Tree.{trees_of_variants}
use Rattle.guarantees.specs.EnumInC.{without_fields}
use Rattle.guarantees.proofs.binding_generator.enums.variants_of.Given as goal

abbrev pub invariant-loop-number : goal.invariant-loop-number
invariant-loop-number l = trees_of_variants l.all.items ≡ without_fields (take l.number-index l.numbers)
