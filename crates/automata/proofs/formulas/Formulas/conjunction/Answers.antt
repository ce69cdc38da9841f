use Rattle.automata.specs.Nodes.{formulas_in}
use Rattle.automata.proofs.ReadsLemmas.{both_shared}
use Rattle.automata.proofs.formulas.Formulas.conjunction.Goals as goal

pub returns : goal.returns
returns c =
    both_shared (formulas_in c.args.self.now) (formulas_in c.share_gap.new.self) (formulas_in c.place_of.new.self) (formulas_in c.gap.new.self) c.args.f c.args.g c.in_ok-both.both
    c.in_ok-place.place c.in_ok-shared.shared c.in_ok-shared.ensures c.in_ok-both.ensures c.in_ok-place.ensures
