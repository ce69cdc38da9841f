-- An item is looked at within less room than a type of it.
use Rattle.std.proofs.Common.{◌+◌, ◌*◌}
use Rattle.abi_rust.proofs.tail.+tails.Given as goal

abbrev pub decreases-tail_of : goal.decreases-tail_of
decreases-tail_of l = 4 * l.nesting.depth_left

abbrev pub decreases-tail_of_item : goal.decreases-tail_of_item
decreases-tail_of_item l = 4 * l.nesting.depth_left

abbrev pub decreases-tail_of_field : goal.decreases-tail_of_field
decreases-tail_of_field l = 4 * l.nesting.depth_left + 1

abbrev pub decreases-tail_of_found : goal.decreases-tail_of_found
decreases-tail_of_found l = 4 * l.nesting.depth_left + 2

abbrev pub decreases-tail_of_kind : goal.decreases-tail_of_kind
decreases-tail_of_kind l = 4 * l.nesting.depth_left + 1
