use Rattle.automata.specs.Nodes.{formulas_in}
use Rattle.automata.proofs.NumberLemmas.{cells_made}
use Rattle.automata.proofs.formulas.Formulas.either_cell.Goals as goal

pub returns : goal.returns
returns c =
    cells_made (formulas_in c.args.self.now) (formulas_in c.run.new.self) (formulas_in c.run-2.new.self) (formulas_in c.disjunction.new.self) c.in_ok-first.first c.in_ok-second.second c.in_ok-place.place
    c.args.one.start c.args.one.end c.args.other.start c.args.other.end c.args.one.next c.args.other.next c.requires.other c.in_ok-first.ensures c.in_ok-second.ensures c.in_ok-place.ensures
