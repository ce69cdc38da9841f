use Rattle.std.proofs.Common.{◌≡◌}
use Rattle.automata.specs.Reach.{copies}
use Rattle.automata.proofs.periods.copies_of.Given as goal

abbrev pub invariant-loop : goal.invariant-loop
invariant-loop l = l.all.items ≡ copies l.counter l.cells.items
