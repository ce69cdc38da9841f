use Rattle.std.proofs.Common.{drop, map}
use Rattle.abi_c.specs.Numbers.Pieces.{front_words, list_kept}
use Rattle.abi_c.proofs.NumberLemmas.Many.{SoFar}
use Rattle.abi_c.proofs.numbers.words.read_lists.Given as goal

abbrev pub invariant-loop : goal.invariant-loop
invariant-loop l = SoFar _ front_words l.count l.counter (drop l.initial.at l.numbers) (drop l.at l.numbers) (map list_kept l.lists.items)
