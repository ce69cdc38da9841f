use Rattle.std.proofs.Common.{arith, ap, length}
use Rattle.automata.proofs.NodesLemmas.{formulas_length}
use Rattle.automata.proofs.formulas.Formulas.len.Goals as goal

pub returns : goal.returns
returns c = omega (arith, formulas_length c.args.self.now, ap length c.self.view_is, c.len.ensures)
