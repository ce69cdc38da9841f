use Rattle.std.proofs.Common.{length}
use Rattle.abi_bytes.proofs.cell_numbers.+big_number.Given as goal

abbrev pub decreases-big_number : goal.decreases-big_number
decreases-big_number l = length l.cells.now
