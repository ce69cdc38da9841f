-- Each predicate of a list is read within less depth_left than the list, and what is counted goes on to the whole.
use Rattle.std.proofs.Common.{◌≡◌, ◌+◌, ◌-◌, ◌*◌}
use Rattle.rust_source.specs.Cfg.{count_from, count_read, predicate_read}
use Rattle.rust_source.specs.Names.{texts}
use Rattle.rust_source.proofs.reader.cfg.+predicates.Given as goal

abbrev pub decreases-is_predicate : goal.decreases-is_predicate
decreases-is_predicate l = 4 * l.depth_left

abbrev pub decreases-count_holding : goal.decreases-count_holding
decreases-count_holding l = 4 * l.depth_left + 1

abbrev pub decreases-is_predicate_within : goal.decreases-is_predicate_within
decreases-is_predicate_within l = 4 * l.depth_left + 2

abbrev pub invariant-count_holding-loop-turn : goal.invariant-count_holding-loop-turn
invariant-count_holding-loop-turn l =
    count_from l.target (predicate_read l.target l.depth_left) (l.turns - l.turn) l.holding l.count l.cursor (texts l.names, l.unknown.items)
    ≡ count_read l.target (predicate_read l.target l.depth_left) l.fn.cursor (texts l.fn.names, l.fn.unknown.items)
