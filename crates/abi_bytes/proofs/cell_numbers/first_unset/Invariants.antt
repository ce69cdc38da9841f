use Rattle.abi_bytes.specs.Filling.{AreSet}
use Rattle.abi_bytes.specs.Holding.{cells_at}
use Rattle.abi_bytes.proofs.cell_numbers.first_unset.Given as goal

-- the cells before the i-th are set
abbrev pub invariant-loop-i : goal.invariant-loop-i
invariant-loop-i l = AreSet (cells_at l.cells l.at l.i)
