use Rattle.std.proofs.Common.{drop}
use Rattle.abi_c.specs.Numbers.Pieces.{front_two, front_word}
use Rattle.abi_c.proofs.NumberLemmas.Many.{SoFar}
use Rattle.abi_c.proofs.numbers.words.read_pairs.Given as goal

abbrev pub invariant-loop : goal.invariant-loop
invariant-loop l = SoFar _ (front_two front_word front_word) l.count l.counter (drop l.initial.at l.numbers) (drop l.at l.numbers) (l.pairs.items)
