-- From a value to those in it, which lie less deep.
use Rattle.std.proofs.Common.{◌+◌, ◌*◌}
use Rattle.calls.proofs.values.words.+values.Given as goal

abbrev pub decreases-next_value : goal.decreases-next_value
decreases-next_value l = 3 * l.deep

abbrev pub decreases-next_values : goal.decreases-next_values
decreases-next_values l = 3 * l.deep + 1

abbrev pub decreases-value_list : goal.decreases-value_list
decreases-value_list l = 3 * l.deep + 2
