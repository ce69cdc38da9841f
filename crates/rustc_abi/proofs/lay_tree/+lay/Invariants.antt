use Rattle.std.proofs.Common.{◌+◌, ◌*◌, map, take}
use Rattle.abi_tree.specs.Tree.{tree_of, trees, trees_of_variants}
use Rattle.rustc_abi.specs.Adding.{AreAdded, AreStillThere, AreVariantsAdded, tree_size, trees_size, variants_size}
use Rattle.rustc_abi.specs.Count.{AreCounted, AreVariantsCounted}
use Rattle.rustc_abi.proofs.lay_tree.+lay.Given as goal

abbrev pub invariant-lay_each-loop-field : goal.invariant-lay_each-loop-field
invariant-lay_each-loop-field l =
    AreAdded l.cx.dl.now l.initial.nodes l.nodes l.children.items (map tree_of (take l.field-index l.fields))
    × AreCounted l.cx.dl.now l.initial.nodes l.nodes (trees (map tree_of (take l.field-index l.fields)))
    × AreStillThere l.initial.nodes l.nodes

abbrev pub invariant-lay_variants-loop-variant : goal.invariant-lay_variants-loop-variant
invariant-lay_variants-loop-variant l =
    AreVariantsAdded l.cx.dl.now l.initial.nodes l.nodes l.children.items (trees_of_variants (take l.variant-index l.all))
    × AreVariantsCounted l.cx.dl.now l.initial.nodes l.nodes (trees_of_variants (take l.variant-index l.all))
    × AreStillThere l.initial.nodes l.nodes

abbrev pub decreases-lay_tree : goal.decreases-lay_tree
decreases-lay_tree l = 4 * tree_size (tree_of l.tree.now)

abbrev pub decreases-lay_each : goal.decreases-lay_each
decreases-lay_each l = 4 * trees_size (trees (map tree_of l.fields.now)) + 1

abbrev pub decreases-lay_variants : goal.decreases-lay_variants
decreases-lay_variants l = 4 * variants_size (trees_of_variants l.all.now) + 2

abbrev pub decreases-lay_struct : goal.decreases-lay_struct
decreases-lay_struct l = 4 * trees_size (trees (map tree_of l.fields.now)) + 2

abbrev pub decreases-lay_coroutine : goal.decreases-lay_coroutine
decreases-lay_coroutine l = 4 * (trees_size (trees (map tree_of l.prefix.now)) + trees_size (trees (map tree_of l.locals.now))) + 2

abbrev pub decreases-lay_enum : goal.decreases-lay_enum
decreases-lay_enum l = 4 * variants_size (trees_of_variants l.variants.now) + 3
