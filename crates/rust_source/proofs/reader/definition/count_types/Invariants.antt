-- The types that are counted, and those that are left, are all; none is counted twice at one token.
use Rattle.std.proofs.Common.{◌≡◌, ◌+◌, ◌-◌, ◌≤◌}
use Rattle.rust_source.specs.Definition.{types_from}
use Rattle.rust_source.proofs.reader.definition.count_types.Given as goal

abbrev pub invariant-loop-turn : goal.invariant-loop-turn
invariant-loop-turn l = (l.count + types_from (l.turns - l.turn) l.inside ≡ types_from l.turns l.cursor) × (l.count ≤ l.turn)
