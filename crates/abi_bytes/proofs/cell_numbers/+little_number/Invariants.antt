use Rattle.std.proofs.Common.{length}
use Rattle.abi_bytes.proofs.cell_numbers.+little_number.Given as goal

abbrev pub decreases-little_number : goal.decreases-little_number
decreases-little_number l = length l.cells.now
