-- Each of these makes trees within less room, or within the same room what stands lower.
use Rattle.std.proofs.Common.{◌≡◌, ◌+◌, ◌*◌, None, drop, map}
use Rattle.std.specs.Option.{option_map}
use Rattle.abi_tree.specs.Tree.{tree_of}
use Rattle.abi_rust.specs.Int.{number_of_int}
use Rattle.abi_rust.specs.Measure.{IsMeasure, Measure, each_meant}
use Rattle.abi_rust.specs.Resolving.{inside_of}
use Rattle.abi_rust.specs.Tails.{outer_of}
use Rattle.abi_rust.specs.Trees.{field_trees, tree_inner, variant_as_tree, variant_trees}
use Rattle.abi_rust.specs.Types.{list_of_types, ty_of, types}
use Rattle.abi_rust.proofs.Trees.{behind}
use Rattle.abi_rust.proofs.tree.+trees.Given as goal

abbrev pub decreases-tree : goal.decreases-tree
decreases-tree l = 16 * l.nesting.depth_left

abbrev pub decreases-tree_of_item : goal.decreases-tree_of_item
decreases-tree_of_item l = 16 * l.nesting.depth_left

abbrev pub decreases-formed_tree : goal.decreases-formed_tree
decreases-formed_tree l = 16 * l.nesting.depth_left + 1

abbrev pub decreases-tree_of_field : goal.decreases-tree_of_field
decreases-tree_of_field l = 16 * l.nesting.depth_left + 2

abbrev pub decreases-trees_of_types : goal.decreases-trees_of_types
decreases-trees_of_types l = 16 * l.nesting.depth_left + 1

abbrev pub decreases-tree_of_tuple : goal.decreases-tree_of_tuple
decreases-tree_of_tuple l = 16 * l.nesting.depth_left + 2

abbrev pub decreases-tree_of_type : goal.decreases-tree_of_type
decreases-tree_of_type l = 16 * l.nesting.depth_left + 3

abbrev pub decreases-trees_of : goal.decreases-trees_of
decreases-trees_of l = 16 * l.nesting.depth_left + 3

abbrev pub decreases-tree_of_union : goal.decreases-tree_of_union
decreases-tree_of_union l = 16 * l.nesting.depth_left + 4

abbrev pub decreases-checked_trees : goal.decreases-checked_trees
decreases-checked_trees l = 16 * l.nesting.depth_left + 4

abbrev pub decreases-fields_of_struct : goal.decreases-fields_of_struct
decreases-fields_of_struct l = 16 * l.nesting.depth_left + 5

abbrev pub decreases-tree_of_struct : goal.decreases-tree_of_struct
decreases-tree_of_struct l = 16 * l.nesting.depth_left + 6

abbrev pub decreases-tree_of_variant : goal.decreases-tree_of_variant
decreases-tree_of_variant l = 16 * l.nesting.depth_left + 5

abbrev pub decreases-trees_of_variants : goal.decreases-trees_of_variants
decreases-trees_of_variants l = 16 * l.nesting.depth_left + 6

abbrev pub decreases-tree_of_enum : goal.decreases-tree_of_enum
decreases-tree_of_enum l = 16 * l.nesting.depth_left + 7

abbrev pub decreases-tree_of_kind : goal.decreases-tree_of_kind
decreases-tree_of_kind l = 16 * l.nesting.depth_left + 8

abbrev pub decreases-tree_of_instance : goal.decreases-tree_of_instance
decreases-tree_of_instance l = 16 * l.nesting.depth_left + 9

abbrev pub decreases-tree_of_found : goal.decreases-tree_of_found
decreases-tree_of_found l = 16 * l.nesting.depth_left + 10

-- the types that are left, behind those that are made, have the trees that all have
abbrev pub invariant-trees_of_types-loop-part : goal.invariant-trees_of_types-loop-part
invariant-trees_of_types-loop-part l =
    (m : Measure) → IsMeasure l.cx.dl.now m →
    behind (map tree_of l.trees.items) (each_meant ((tree_inner l.cx m l.nesting.depth_left).of_type (outer_of l.nesting.above)) (list_of_types (types (map ty_of (drop l.part-index l.parts)))))
    ≡ each_meant ((tree_inner l.cx m l.nesting.depth_left).of_type (outer_of l.nesting.above)) (list_of_types (types (map ty_of l.parts)))

abbrev pub invariant-trees_of-loop-field : goal.invariant-trees_of-loop-field
invariant-trees_of-loop-field l =
    (m : Measure) → IsMeasure l.cx.dl.now m →
    behind (map tree_of l.trees.items) (field_trees l.cx m (tree_inner l.cx m l.nesting.depth_left) (outer_of l.nesting.above) (inside_of l.instance) (drop l.field-index l.fields))
    ≡ field_trees l.cx m (tree_inner l.cx m l.nesting.depth_left) (outer_of l.nesting.above) (inside_of l.instance) l.fields

abbrev pub invariant-trees_of_variants-loop-variant : goal.invariant-trees_of_variants-loop-variant
invariant-trees_of_variants-loop-variant l =
    (m : Measure) → IsMeasure l.cx.dl.now m →
    behind (map variant_as_tree l.variants.items) (variant_trees l.cx m (tree_inner l.cx m l.nesting.depth_left) (outer_of l.nesting.above) (inside_of l.instance) l.instance.item.now (option_map number_of_int l.last) (drop l.variant-index l.all))
    ≡ variant_trees l.cx m (tree_inner l.cx m l.nesting.depth_left) (outer_of l.nesting.above) (inside_of l.instance) l.instance.item.now None l.all
