use Rattle.std.proofs.Common.{◌≡◌, ◌+◌, ◌*◌, ◌++◌, map, take}
use Rattle.abi_tree.specs.Tree.{tree_of, trees, trees_of_variants}
use Rattle.rustc_abi.specs.Adding.{tree_size, trees_size, variants_size}
use Rattle.abi_c.specs.Numbers.FlatTree.{flat_trees, flat_variants}
use Rattle.abi_c.proofs.numbers.write_tree.+write.Given as goal

abbrev pub invariant-write_trees-loop-one : goal.invariant-write_trees-loop-one
invariant-write_trees-loop-one l = l.out.items ≡ l.initial.out.items ++ flat_trees (trees (map tree_of (take l.one-index l.all)))

abbrev pub invariant-write_variants-loop-variant : goal.invariant-write_variants-loop-variant
invariant-write_variants-loop-variant l = l.out.items ≡ l.initial.out.items ++ flat_variants (trees_of_variants (take l.variant-index l.all))

abbrev pub decreases-write_other : goal.decreases-write_other
decreases-write_other l = 4 * tree_size (tree_of l.tree.now)

abbrev pub decreases-write_tree : goal.decreases-write_tree
decreases-write_tree l = 4 * tree_size (tree_of l.tree.now) + 1

abbrev pub decreases-write_trees : goal.decreases-write_trees
decreases-write_trees l = 4 * trees_size (trees (map tree_of l.all.now)) + 2

abbrev pub decreases-write_variants : goal.decreases-write_variants
decreases-write_variants l = 4 * variants_size (trees_of_variants l.all.now) + 3
