-- From a type to its fields, whose depth is less.
use Rattle.std.proofs.Common.{◌+◌, ◌*◌, ◌-◌}
use Rattle.abi_tests.proofs.OwnTypeLemmas.{AreWellFormedFields}
use Rattle.abi_tests.proofs.own_types.+laws.Given as goal

abbrev pub decreases-field_keeps_laws : goal.decreases-field_keeps_laws
decreases-field_keeps_laws l = 2 * l.depth + 1

abbrev pub decreases-keeps_laws : goal.decreases-keeps_laws
decreases-keeps_laws l = 2 * l.depth

abbrev pub invariant-keeps_laws-loop-i : goal.invariant-keeps_laws-loop-i
invariant-keeps_laws-loop-i l = AreWellFormedFields l.types (l.depth - 1) l.own l.i
