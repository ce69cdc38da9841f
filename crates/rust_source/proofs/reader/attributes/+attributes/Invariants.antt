-- An attribute within another is read one level deeper, and what is said so far goes on to the whole.
use Rattle.std.proofs.Common.{◌≡◌, ◌+◌, ◌-◌, ◌*◌}
use Rattle.rust_source.specs.Attributes.{attribute_read, expanded_all, expanded_from}
use Rattle.rust_source.specs.Names.{texts}
use Rattle.rust_source.proofs.reader.attributes.+attributes.Given as goal

abbrev pub decreases-read_attribute : goal.decreases-read_attribute
decreases-read_attribute l = 4 * l.context.depth_left

abbrev pub decreases-read_list : goal.decreases-read_list
decreases-read_list l = 4 * l.context.depth_left + 1

abbrev pub decreases-read_expanded : goal.decreases-read_expanded
decreases-read_expanded l = 4 * l.context.depth_left + 2

abbrev pub decreases-read_one_attribute : goal.decreases-read_one_attribute
decreases-read_one_attribute l = 4 * l.context.depth_left + 3

abbrev pub invariant-read_list-loop-turn : goal.invariant-read_list-loop-turn
invariant-read_list-loop-turn l =
    expanded_from l.rules (attribute_read l.rules l.context.depth_left) (l.turns - l.turn) l.said l.inside (texts l.names, l.unknown.items)
    ≡ expanded_all l.rules (attribute_read l.rules l.context.depth_left) l.fn.context.said l.fn.inside (texts l.fn.names, l.fn.unknown.items)
