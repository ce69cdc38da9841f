use Rattle.std.proofs.Common.{◌≡◌, length}
use Rattle.automata.specs.Nodes.{formulas_in}
use Rattle.automata.specs.Reach.{AreReaches}
use Rattle.automata.proofs.reach.reaches.Given as goal

abbrev pub invariant-loop-place : goal.invariant-loop-place
invariant-loop-place l = (length l.reaches.items ≡ l.place) × AreReaches (formulas_in l.formulas) l.reaches.items
