use Rattle.automata.specs.Nodes.{formulas_in}
use Rattle.automata.proofs.ReadsLemmas.{either_shared}
use Rattle.automata.proofs.formulas.Formulas.disjunction.Goals as goal

pub returns : goal.returns
returns c =
    either_shared (formulas_in c.args.self.now) (formulas_in c.share_gap.new.self) (formulas_in c.place_of.new.self) (formulas_in c.gap.new.self) c.args.f c.args.g c.in_ok-either.either
    c.in_ok-place.place c.in_ok-shared.shared c.in_ok-shared.ensures c.in_ok-either.ensures c.in_ok-place.ensures
