use Rattle.abi_bytes.proofs.LawLemmas.{bytes_hold_values, set_cells_take_nothing}
use Rattle.abi_bytes.proofs.laws.cells_and_values.Goals as goal

pub returns-clause-bytes : goal.returns-clause-bytes
returns-clause-bytes c a = bytes_hold_values a

pub returns-clause-set : goal.returns-clause-set
returns-clause-set c a = set_cells_take_nothing a
