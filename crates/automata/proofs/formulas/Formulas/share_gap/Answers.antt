use Rattle.std.proofs.Common.{arith}
use Rattle.automata.specs.Nodes.{formulas_in}
use Rattle.automata.proofs.ReadsLemmas.{shared_gaps}
use Rattle.automata.proofs.formulas.Formulas.share_gap.Goals as goal

pub returns-in-Gap-node : goal.returns-in-Gap-node
returns-in-Gap-node c =
    shared_gaps (formulas_in c.args.self.now) (formulas_in c.gap.new.self) (formulas_in c.gap-in-Gap-node.new.self) c.args.f c.args.g c.in-Gap.behind_one c.in-Gap-node.behind_other
    c.in-Gap.one c.in-Gap-node.other c.min-count.result c.in_ok-first.first c.in_ok-second.second (omega (arith, c.in-Gap.ensures.earlier, c.requires.first))
    (omega (arith, c.in-Gap-node.ensures.earlier, c.requires.second)) c.in-Gap.ensures.formula c.in-Gap-node.ensures.formula (omega (arith, c.min-count.ensures))
    (omega (arith, c.min-count.ensures)) c.in_ok-first.ensures c.in_ok-second.ensures
