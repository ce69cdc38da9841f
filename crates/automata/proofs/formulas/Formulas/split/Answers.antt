use Rattle.automata.specs.Nodes.{formulas_in}
use Rattle.automata.proofs.NumberLemmas.{split_made}
use Rattle.automata.proofs.formulas.Formulas.split.Goals as goal

pub returns : goal.returns
returns c =
    split_made (formulas_in c.args.self.now) (formulas_in c.run.new.self) (formulas_in c.run-2.new.self) (formulas_in c.disjunction.new.self) c.in_ok-first.first c.in_ok-second.second c.in_ok-place.place
    c.args.at c.args.below c.args.from c.requires.from c.in_ok-first.ensures c.in_ok-second.ensures c.in_ok-place.ensures
