use Rattle.std.proofs.Common.{arith}
use Rattle.automata.proofs.FirstLemmas.{first_kept}
use Rattle.automata.proofs.NodesLemmas.{node_there}
use Rattle.automata.proofs.formulas.Formulas.first_letters.Goals as goal

pub index-requires : goal.index-requires
index-requires c = omega (arith, node_there c.self.inside.nodes.items c.args.self.now c.args.place c.self.view_is c.requires, c.self.invariant.3)

pub returns : goal.returns
returns c = first_kept c.self.inside.nodes.items c.args.self.now c.self.inside.firsts.items c.args.place c.index.result.now c.self.view_is c.requires c.self.invariant.3 c.self.invariant.4 c.index.ensures
