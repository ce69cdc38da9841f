use Rattle.std.proofs.Common.{◌≡◌, ◌++◌, map, take}
use Rattle.automata.specs.Cell.{letter_of}
use Rattle.abi_c.proofs.bytes.write_cells.Given as goal

abbrev pub invariant-loop-cell : goal.invariant-loop-cell
invariant-loop-cell l = l.out.items ≡ l.initial.out.items ++ map letter_of (take l.cell-index l.cells)
