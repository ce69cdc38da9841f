use Rattle.std.proofs.Common.{drop}
use Rattle.abi_c.specs.Numbers.Pieces.{front_as}
use Rattle.abi_c.specs.Numbers.FrontValue.{byte_numbered}
use Rattle.abi_c.proofs.NumberLemmas.Many.{SoFar}
use Rattle.abi_c.proofs.numbers.value.read_bytes.Given as goal

abbrev pub invariant-loop : goal.invariant-loop
invariant-loop l = SoFar _ (front_as byte_numbered) l.count l.counter (drop l.initial.at l.numbers) (drop l.at l.numbers) l.bytes.items
