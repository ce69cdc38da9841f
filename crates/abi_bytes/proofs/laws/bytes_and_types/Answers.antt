use Rattle.std.proofs.Common.{refl}
use Rattle.abi_bytes.specs.GoesInto.{size_of_stored}
use Rattle.abi_bytes.proofs.LawLemmas as law
use Rattle.abi_bytes.proofs.ManyLemmas.{array_of_bytes}
use Rattle.abi_bytes.proofs.laws.bytes_and_types.Goals as goal

pub returns-clause-from_bytes : goal.returns-clause-from_bytes
returns-clause-from_bytes c bytes a is = law.from_many (size_of_stored a) bytes a (array_of_bytes (size_of_stored a) bytes is) refl

pub returns-clause-into_bytes : goal.returns-clause-into_bytes
returns-clause-into_bytes c bytes a is = law.into_many (size_of_stored a) bytes a (array_of_bytes (size_of_stored a) bytes is) refl

pub returns-clause-from_into : goal.returns-clause-from_into
returns-clause-from_into c a b long into from = law.into_from a b long into from
