use Rattle.std.proofs.Common.{◌+◌, ◌*◌, drop, map}
use Rattle.abi_tree.specs.Value.{value_of}
use Rattle.abi_c.specs.Numbers.FrontValue.{front_value}
use Rattle.abi_c.proofs.NumberLemmas.Many.{SoFar}
use Rattle.abi_c.proofs.numbers.value.+read_value.Given as goal

abbrev pub invariant-read_values-loop : goal.invariant-read_values-loop
invariant-read_values-loop l = SoFar _ (front_value l.left) l.count l.counter (drop l.initial.at l.numbers) (drop l.at l.numbers) (map value_of l.values.items)

abbrev pub decreases-read_value_node : goal.decreases-read_value_node
decreases-read_value_node l = 4 * l.left

abbrev pub decreases-read_values : goal.decreases-read_values
decreases-read_values l = 4 * l.left + 1

abbrev pub decreases-read_variant_value : goal.decreases-read_variant_value
decreases-read_variant_value l = 4 * l.left + 2

abbrev pub decreases-read_state_value : goal.decreases-read_state_value
decreases-read_state_value l = 4 * l.left + 2

abbrev pub decreases-read_of_value_kind : goal.decreases-read_of_value_kind
decreases-read_of_value_kind l = 4 * l.left + 3
