use Rattle.abi_bytes.proofs.LawLemmas.{GoesInto-self, GoesInto-through}
use Rattle.abi_bytes.proofs.ManyLemmas as many
use Rattle.abi_bytes.proofs.laws.types_into_types.Goals as goal

pub returns-clause-self_into_self : goal.returns-clause-self_into_self
returns-clause-self_into_self c a = GoesInto-self a

pub returns-clause-through : goal.returns-clause-through
returns-clause-through c x y z h k = GoesInto-through x y z h k

pub returns-clause-unwrapped : goal.returns-clause-unwrapped
returns-clause-unwrapped c a b is = many.unwrapped a b is

pub returns-clause-wrapped : goal.returns-clause-wrapped
returns-clause-wrapped c a b is = many.wrapped a b is
