-- The discriminants of the variants before.
use Rattle.std.proofs.Common.{◌≡◌, take}
use Rattle.abi_tree.specs.Tree.{trees_of_variants}
use Rattle.rustc_abi.specs.Enums.{discriminants_of}
use Rattle.rustc_abi.proofs.discriminants.discriminants.Given as goal

abbrev pub invariant-loop-variant : goal.invariant-loop-variant
invariant-loop-variant l = l.numbers.items ≡ discriminants_of (trees_of_variants (take l.variant-index l.all))
