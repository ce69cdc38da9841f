use Rattle.std.proofs.Common.{arith}
use Rattle.automata.proofs.NodesLemmas.{node_there, node_means, node_earlier}
use Rattle.automata.proofs.formulas.Formulas.node.Goals as goal

pub index-requires : goal.index-requires
index-requires c = omega (arith, node_there c.self.inside.nodes.items c.args.self.now c.args.place c.self.view_is c.requires)

pub returns-clause-formula : goal.returns-clause-formula
returns-clause-formula c = node_means c.self.inside.nodes.items c.args.self.now c.self.view_is c.self.invariant.0 c.args.place c.index.result.now c.requires c.index.ensures

pub returns-clause-earlier : goal.returns-clause-earlier
returns-clause-earlier c = node_earlier c.self.inside.nodes.items c.args.self.now c.self.view_is c.self.invariant.0 c.args.place c.index.result.now c.requires c.index.ensures
