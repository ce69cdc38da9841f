use Rattle.std.proofs.Common.{◌+◌, ◌*◌, drop, map}
use Rattle.abi_tree.specs.Tree.{tree_of}
use Rattle.abi_c.specs.Numbers.FrontTree.{front_tree, front_variant, variant_kept}
use Rattle.abi_c.proofs.NumberLemmas.Many.{SoFar}
use Rattle.abi_c.proofs.numbers.tree.+read.Given as goal

abbrev pub invariant-read_each-loop : goal.invariant-read_each-loop
invariant-read_each-loop l = SoFar _ (front_tree l.left) l.count l.counter (drop l.initial.at l.numbers) (drop l.at l.numbers) (map tree_of l.types.items)

abbrev pub invariant-read_variants-loop : goal.invariant-read_variants-loop
invariant-read_variants-loop l =
    SoFar _ (front_variant (front_tree l.left)) l.count l.counter (drop l.initial.at l.numbers) (drop l.at l.numbers) (map variant_kept l.variants.items)

abbrev pub decreases-read_node : goal.decreases-read_node
decreases-read_node l = 6 * l.left

abbrev pub decreases-read_each : goal.decreases-read_each
decreases-read_each l = 6 * l.left + 1

abbrev pub decreases-read_variant : goal.decreases-read_variant
decreases-read_variant l = 6 * l.left + 2

abbrev pub decreases-read_variants : goal.decreases-read_variants
decreases-read_variants l = 6 * l.left + 3

abbrev pub decreases-read_enum : goal.decreases-read_enum
decreases-read_enum l = 6 * l.left + 4

abbrev pub decreases-read_array : goal.decreases-read_array
decreases-read_array l = 6 * l.left + 4

abbrev pub decreases-read_vector : goal.decreases-read_vector
decreases-read_vector l = 6 * l.left + 4

abbrev pub decreases-read_struct : goal.decreases-read_struct
decreases-read_struct l = 6 * l.left + 4

abbrev pub decreases-read_ordered : goal.decreases-read_ordered
decreases-read_ordered l = 6 * l.left + 4

abbrev pub decreases-read_union : goal.decreases-read_union
decreases-read_union l = 6 * l.left + 4

abbrev pub decreases-read_coroutine : goal.decreases-read_coroutine
decreases-read_coroutine l = 6 * l.left + 4

abbrev pub decreases-read_of_kind : goal.decreases-read_of_kind
decreases-read_of_kind l = 6 * l.left + 5
