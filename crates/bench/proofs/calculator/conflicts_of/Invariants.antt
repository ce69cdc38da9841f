-- There is a row and a column for each local.
use Rattle.std.proofs.Common.{◌≡◌}
use Rattle.abi_index.specs.Relation.{column_count, row_count}
use Rattle.bench.proofs.calculator.conflicts_of.Given as goal

abbrev pub invariant-loop-step : goal.invariant-loop-step
invariant-loop-step l = (row_count l.conflicts ≡ l.locals) × (column_count l.conflicts ≡ l.locals)
