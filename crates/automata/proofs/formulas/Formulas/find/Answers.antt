use Rattle.std.proofs.Common.{◌-◌, arith, ap, ◌∙◌, refl}
use Rattle.automata.specs.Nodes.{formulas_in, meaning}
use Rattle.automata.proofs.NodesLemmas.{node_found, node_means}
use Rattle.automata.proofs.formulas.Formulas.find.Goals as goal

pub returns-then-is_same-clause-there : goal.returns-then-is_same-clause-there
returns-then-is_same-clause-there c = node_found c.self.inside.nodes.items c.args.self.now c.loop-at.at c.len-in-loop-at.result c.self.view_is c.loop-at-test.true c.if-at-len.true (omega (arith, c.len-in-loop-at.ensures))

pub returns-then-is_same-clause-same : goal.returns-then-is_same-clause-same
returns-then-is_same-clause-same c =
    let there = node_found c.self.inside.nodes.items c.args.self.now c.loop-at.at c.len-in-loop-at.result c.self.view_is c.loop-at-test.true c.if-at-len.true (omega (arith, c.len-in-loop-at.ensures)) in
    node_means c.self.inside.nodes.items c.args.self.now c.self.view_is c.self.invariant.0 (c.loop-at.at - 1) c.index.result.now there c.index.ensures
    ∙ ap (meaning (formulas_in c.args.self.now)) (c.if-is_same.ensures refl)
