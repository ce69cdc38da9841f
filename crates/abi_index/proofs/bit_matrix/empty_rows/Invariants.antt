use Rattle.std.proofs.Common.{◌≡◌, replicate, []}
use Rattle.abi_index.proofs.bit_matrix.empty_rows.Given as goal

abbrev pub invariant-loop-row : goal.invariant-loop-row
invariant-loop-row l = l.rows.items ≡ replicate l._row []
