-- What was read is held.
use Rattle.abi_tree.specs.Value.{value_of}
use Rattle.guarantees.proofs.code_generator.is_value.Goals as goal

pub returns-in-Some : goal.returns-in-Some
returns-in-Some c = (value_of c.in-Some._value, rw c.in-Some.is at c.in_ok-_value.ensures.finds)
